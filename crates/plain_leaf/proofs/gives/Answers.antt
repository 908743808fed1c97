-- `plain_leaf::gives` meets its contract.
use mathlib.Core.Path.{sym, ◌∙◌}
use native.Mathlib.Omega.{arith}
use Rattle.whole.specs.Cases.{clash}
use Rattle.theory.specs.Verdict.{same_slot}
use Rattle.plain_pass.specs.Pass.{slot_of}
use Rattle.plain_pass.proofs.Turns.{code_room, given_whole}
use Rattle.plain_leaf.proofs.gives.Goals as goal

pub returns-then-op-lt32 : goal.returns-then-op-lt32
returns-then-op-lt32 c = λ e. clash (sym e)

pub overflow_add-at : goal.overflow_add-at
overflow_add-at c = let r = code_room c.args.model.now c.args.at c.args.op (omega (arith, c.if-op-lt32.false)) c.requires in omega (arith, r.0, c.well_formed)

pub action_at-action-requires : goal.action_at-action-requires
action_at-action-requires c = let r = code_room c.args.model.now c.args.at c.args.op (omega (arith, c.if-op-lt32.false)) c.requires in omega (arith, r.0, c.well_formed)

pub index_at-index-requires : goal.index_at-index-requires
index_at-index-requires c = let r = code_room c.args.model.now c.args.at c.args.op (omega (arith, c.if-op-lt32.false)) c.requires in r.0

pub returns : goal.returns
unfolding same_slot
returns c = λ e. given_whole c.args.model.now c.args.at c.args.op (slot_of c.args.g) c.requires c.if-op-lt32.false c.if-op-gt34.false _ _
    c.action_at-action.ensures c.index_at-index.ensures (sym c.eq.ensures ∙ e)
