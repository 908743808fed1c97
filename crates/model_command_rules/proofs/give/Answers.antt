-- `model_command_rules::give` meets its contract.
use mathlib.Core.Path.{ap, ◌∙◌}
use mathlib.Core.Bool.{false, not}
use Prim.Native.Nat.{ℕ}
use lib.Dec.{ltb}
use lib.ListN.{get_or}
use Rattle.theory.specs.Command.{Slot}
use Rattle.theory.specs.Verdict.{first_broken}
use Rattle.model_progress.specs.GivenFlags.{in_order, place}
use Rattle.model_command_rules.proofs.RuleTests.{later_give}
use Rattle.model_command_rules.proofs.give.Goals as goal

pub returns : goal.returns
returns c = λ p st.
    let g : Slot = record { command = c.args.c; action = c.args.a; index = c.args.i } in
    let i = c.place.ensures ∙ ap (λ (b : ℕ). place b c.args.i c.args.a) c.base.ensures.0 in
    let t = c.has-twice.ensures ∙ ap (λ (k : ℕ). get_or c.args.flags.now k false) i in
    c.ordered.ensures ∙ (λ j. first_broken (in_order (not (c.slot.ensures j)) (ltb c.args.s.seen.len 1) (t j) (not c.may_be.result)))
    ∙ later_give st g c.may_be.result (λ h. c.may_be.ensures h c.args.a c.args.i)
