-- `model_command_rules::test` meets its contract.
use Rattle.model_form.specs.Forms.{form_of}
use mathlib.Core.Path.{ap, ◌∙◌}
use mathlib.Core.Bool.{Bool, false}
use Prim.Native.Nat.{ℕ}
use lib.Dec.{ltb}
use Rattle.theory.specs.Verdict.{or, first_broken}
use Rattle.theory.specs.Command.{linear_in}
use Rattle.model_progress.specs.GivenFlags.{in_order}
use Rattle.model_facts.proofs.Bits.{or_is}
use Rattle.model_progress.proofs.Numbers.{none_used}
use Rattle.model_command_rules.proofs.RuleTests.{later_test}
use Rattle.model_command_rules.proofs.test.Goals as goal

pub returns : goal.returns
returns c = λ F p st.
    let P = linear_in (form_of c.args.form) c.args.model.now c.args.from in
    let none = none_used P c.used-used.result c.used-used.ensures in
    let o = or_is (ltb c.from-levels.result c.used-used.result) _
    ∙ (λ i. or ((ap (λ (n : ℕ). ltb n c.used-used.result) c.from-levels.ensures ∙ c.used-used.ensures c.args.s.site.levels) i) (none i)) in
    c.ordered.ensures ∙ ap (λ (o : Bool). first_broken (in_order o (ltb c.args.s.seen.len 2) false false)) o ∙ later_test st P
