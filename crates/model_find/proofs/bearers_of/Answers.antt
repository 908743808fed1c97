use mathlib.Core.Path.{sym, ◌∙◌}
use native.Mathlib.Omega.{arith}
use Rattle.model.proofs.Walk.{whole_is, forward}
use Rattle.model_find.proofs.Pass.{pass_starts, pass_stops, pass_ends, pass_on}
use Rattle.model_find.proofs.bearers_of.Goals as goal

pub loop-c-init : goal.loop-c-init
loop-c-init c = pass_starts c.args.model.now c.args.name.now

pub returns-in_default : goal.returns-in_default
returns-in_default c = pass_stops c.loop-c.invariant c.command_at.result c.in_default.not-Ok c.command_at.ensures

pub returns-then-is_end : goal.returns-then-is_end
returns-then-is_end c = pass_ends c.loop-c.invariant _ (whole_is c.args.model.now c.loop-c.at c.command_at.ensures c.in-Ok.is) (sym c.is_end.ensures ∙ c.if-is_end.true)

pub with_command-known-requires : goal.with_command-known-requires
with_command-known-requires c = whole_is c.args.model.now c.loop-c.at c.command_at.ensures c.in-Ok.is

pub loop-c-smaller : goal.loop-c-smaller
loop-c-smaller c = let f = forward c.args.model.now c.loop-c.at _ c.next_after-at.result (whole_is c.args.model.now c.loop-c.at c.command_at.ensures c.in-Ok.is) c.next_after-at.ensures in
    omega (arith, f.1, f.2)

pub loop-c-preserved : goal.loop-c-preserved
loop-c-preserved c = pass_on c.loop-c.invariant _ c.next_after-at.result (whole_is c.args.model.now c.loop-c.at c.command_at.ensures
    c.in-Ok.is) (sym c.is_end.ensures ∙ c.if-is_end.false) c.next_after-at.ensures c.with_command-known.ensures
