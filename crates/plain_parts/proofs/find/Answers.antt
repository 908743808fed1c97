use mathlib.Core.Path.{sym, ◌∙◌}
use native.Mathlib.Omega.{arith}
use Rattle.theory.specs.Form.{new_form}
use Rattle.model_command.proofs.Forward.{whole_bytes}
use Rattle.model.proofs.Walk.{whole_is, going, forward, past}
use Rattle.plain_pass.proofs.Finds.{finds_starts, finds_stop, finds_end, finds_on}
use Rattle.plain_parts.proofs.find.Goals as goal

pub overflow_cast-begin : goal.overflow_cast-begin
overflow_cast-begin c = let f = (finds_starts c.args.model.now c.args.parts.now c.next_after-at.result c.requires.0 c.requires.2 c.next_after-at.ensures).1 in omega (arith, c.requires.1)

pub loop-c-init : goal.loop-c-init
loop-c-init c = (finds_starts c.args.model.now c.args.parts.now c.next_after-at.result c.requires.0 c.requires.2 c.next_after-at.ensures).0

pub returns : goal.returns
returns c = finds_stop c.loop-c.invariant c.command_at.result c.in_default.not-Ok c.command_at.ensures

pub shape_of-parts-then-is_end : goal.shape_of-parts-then-is_end
shape_of-parts-then-is_end c = c.loop-c.invariant.long

pub returns-then-is_end : goal.returns-then-is_end
returns-then-is_end c = finds_end c.loop-c.invariant _ (whole_is c.args.model.now c.loop-c.at c.command_at.ensures c.in-Ok.is) (sym c.is_end.ensures ∙ c.if-is_end.true)

pub overflow_cast-at : goal.overflow_cast-at
overflow_cast-at c = let h = (whole_bytes new_form c.args.model.now c.loop-c.at _
    (whole_is c.args.model.now c.loop-c.at c.command_at.ensures c.in-Ok.is)).0.starts in omega (arith, c.requires.1)

pub overflow_add-at : goal.overflow_add-at
overflow_add-at c = let f = forward c.args.model.now c.loop-c.at _ _ (whole_is c.args.model.now c.loop-c.at c.command_at.ensures
    c.in-Ok.is) (past new_form c.args.model.now c.loop-c.at _ c.size-at.result
    (whole_is c.args.model.now c.loop-c.at c.command_at.ensures c.in-Ok.is) c.size-at.ensures) in omega
    (arith, f.1, f.2, c.requires.1)

pub loop-c-smaller : goal.loop-c-smaller
loop-c-smaller c = let f = forward c.args.model.now c.loop-c.at _ _ (whole_is c.args.model.now c.loop-c.at c.command_at.ensures
    c.in-Ok.is) (past new_form c.args.model.now c.loop-c.at _ c.size-at.result
    (whole_is c.args.model.now c.loop-c.at c.command_at.ensures c.in-Ok.is) c.size-at.ensures) in omega
    (arith, f.1, f.2)

pub loop-c-preserved : goal.loop-c-preserved
loop-c-preserved c = finds_on c.loop-c.invariant _ (whole_is c.args.model.now c.loop-c.at c.command_at.ensures c.in-Ok.is)
    (going c.args.model.now c.loop-c.at _ (sym c.is_end.ensures ∙ c.if-is_end.false)).0
    (past new_form c.args.model.now c.loop-c.at _ c.size-at.result
    (whole_is c.args.model.now c.loop-c.at c.command_at.ensures c.in-Ok.is) c.size-at.ensures)
    c.last_empty-begin.ensures (c.depth-held.ensures c.args.model.now c.loop-c.at)
    (c.note.ensures c.args.model.now c.loop-c.at)
