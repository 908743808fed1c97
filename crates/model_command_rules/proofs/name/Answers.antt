-- `model_command_rules::name` meets its contract.
use mathlib.Core.Path.{ap, ap₂, ◌∙◌}
use mathlib.Core.Bool.{false, not}
use Prim.Native.Nat.{ℕ}
use lib.ListN.{get_or}
use Rattle.theory.specs.Valid.{among}
use Rattle.theory.specs.Verdict.{or, first_broken}
use Rattle.model_facts.proofs.Bits.{or_is}
use Rattle.model_progress.specs.GivenFlags.{in_order}
use Rattle.model_command_rules.proofs.RuleTests.{later_name}
use Rattle.model_command_rules.proofs.name.Goals as goal

pub returns : goal.returns
returns c = λ b e p st.
    let o = or_is (not c.among-named.result) _
    ∙ (λ i. or (not ((c.among-named.ensures ∙ ap₂ among c.from.ensures c.from-2.ensures) i)) (not (e i))) in
    let t = c.has-twice.ensures ∙ ap (λ (k : ℕ). get_or c.args.flags.now k false) c.place.ensures in
    c.ordered.ensures ∙ (λ i. first_broken (in_order (o i) false (t i) false)) ∙ later_name st c.args.a b
