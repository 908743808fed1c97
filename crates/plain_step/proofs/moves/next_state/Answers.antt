use mathlib.Core.Path.{refl, ◌∙◌}
use native.Mathlib.Omega.{arith}
use borrow.Author.Rules.{rules}
use mir.Syntax.{w32}
use mir.ValLaws.{to_z-of_z}
use Rattle.plain_step.proofs.Lists.{within_widths}
use Rattle.plain_step.proofs.NextStates.{none_moved, one_moved, all_moved, leads_over, flat_under}
use Rattle.plain_step.proofs.moves.next_state.Goals as goal

pub loop-i-init : goal.loop-i-init
loop-i-init c = none_moved c.args.model.now c.args.a c.args.x c.args.r c.requires.0 c.with_setting-y.ensures c.well_formed.1.1.1.0.1.1.1.1.0.1.0.1

pub overflow_cast-i : goal.overflow_cast-i
overflow_cast-i c = omega (arith, (c.from-m.ensures ∙ c.levels.ensures), (within_widths c.args.model.now c.requires.0).1)

pub overflow_add-i : goal.overflow_add-i
overflow_add-i c = omega (arith, (c.from-m.ensures ∙ c.levels.ensures), (within_widths c.args.model.now c.requires.0).1)

pub next_level-requires : goal.next_level-requires
next_level-requires c = (c.requires.0, c.requires.1, c.requires.2, flat_under c.requires.3.flat c.with_setting-y.ensures)

pub returns-in_err-n : goal.returns-in_err-n
returns-in_err-n c = leads_over c.args.model.now c.args.a c.args.x c.args.r c.requires.0 c.with_setting-y.ensures _ (omega arith)
    (omega (arith, (c.from-m.ensures ∙ c.levels.ensures))) c.next_level.ensures c.in_err-n.was c.from_residual.ensures

pub offset_bounds-n-i : goal.offset_bounds-n-i
offset_bounds-n-i c = omega (arith, (c.from-m.ensures ∙ c.levels.ensures), (within_widths c.args.model.now c.requires.0).1)

pub bounds-n-i : goal.bounds-n-i
bounds-n-i c = omega (arith, (c.from-m.ensures ∙ c.levels.ensures), (within_widths c.args.model.now c.requires.0).1)

pub loop-i-preserved : goal.loop-i-preserved
loop-i-preserved c = one_moved c.args.model.now c.args.a c.args.x c.args.r c.requires.0 c.with_setting-y.ensures c.loop-i.invariant
    (omega (arith, (c.from-m.ensures ∙ c.levels.ensures))) (omega arith) c.next_level.ensures c.in_ok-n.was
    (search rules) (to_z-of_z w32 _ (search rules))

pub returns : goal.returns
returns c = all_moved c.args.model.now c.args.a c.args.x c.args.r c.requires.0 c.with_setting-y.ensures c.loop-i.invariant
    (omega (arith, (c.from-m.ensures ∙ c.levels.ensures))) c.requires.3 (c.from-m.ensures ∙ c.levels.ensures) refl
