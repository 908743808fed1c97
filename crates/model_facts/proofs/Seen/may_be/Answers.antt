-- `model_facts::Seen::may_be` meets its contract: the three tests are those of `may_be`, and the low bits that
-- they read are the facts on top of the stack (`seen_top`).
use mathlib.Core.Path.{◌∙◌, sym, ap, ap₂}
use mathlib.Core.Bool.{not, ◌&&◌, ◌||◌}
use lib.Dec.{eqb}
use Rattle.theory.specs.Verdict.{or, may_be}
use Rattle.model_facts.proofs.Bits.{and_three, or_is, seen_top}
use Rattle.model_facts.proofs.Seen.may_be.Goals as goal

pub returns : goal.returns
unfolding may_be
returns c = λ h a i.
    let op = c.args.command in
    let t = c.args.self in
    let x = or_is (eqb op 0x22) _ ∙ (λ k. or (eqb op 0x22) (not (c.low.ensures k))) in
    let y = or_is (not (eqb op 0x21)) _ ∙ (λ k. or (not (eqb op 0x21)) (c.low-2.ensures k)) in
    let z = or_is (eqb op 0x20) _ ∙ (λ k. or (eqb op 0x20) (not (c.low-3.ensures k))) in
    and_three (eqb op 0x22 || not c.low.result) (not (eqb op 0x21) || c.low-2.result) (eqb op 0x20 || not c.low-3.result) ∙ ap₂ ◌&&◌ x (ap₂ ◌&&◌ y z)
    ∙ ap (may_be (record { command = op; action = a; index = i })) (sym (seen_top t.later t.weights t.forbids t.len h))
