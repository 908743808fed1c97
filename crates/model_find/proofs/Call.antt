-- The call: refused early, the empty name, or what the pass tells.
use mathlib.Core.Path.{◌≡◌, sym, ap, ◌∙◌}
use mathlib.Core.Bool.{Bool}
use mathlib.Core.List.{List, []}
use Prim.Native.Nat.{ℕ, ◌≤◌, ◌<◌}
use native.Mathlib.Omega.{arith}
use borrow.Author.Tests.{eq-eqb, ne_eqb}
use lib.Dec.{eqb}
use lib.ListN.{length, take}
use lib.Seq.{length-take-le}
use Rattle.whole.specs.Cases.{if}
use Rattle.theory.specs.Command.{readings}
use Rattle.theory.specs.Verdict.{Verdict, from_to}
use Rattle.theory.specs.Load.{site_at}
use Rattle.theory.specs.Solve.{early}
use Rattle.theory.specs.Name.{trimmed}
use Rattle.theory.specs.Rows.{Admitted}
use Rattle.theory.proofs.laws.Name.{trimmed_most}
use Rattle.theory.proofs.laws.Rows.{by_early, admitted, early_some}
use Rattle.model.specs.declared.Verdict.{Verdict as CodeVerdict}
use Rattle.model.specs.Answers.{shown}
use Rattle.model_find.specs.declared.Bearers.{Bearers}
use Rattle.model_find.specs.declared.Bearers.TheVariants.{Nobody}
use Rattle.model_find.specs.Find.{FindOut, refused_find, trim, bearers, found_among, find}
use Rattle.model_find.specs.Tally.{tally, told}
use Rattle.model_find.proofs.laws.Spaces.{trim_sent}
use Rattle.model_find.proofs.laws.Bearers.{tells_none}
use Rattle.model_find.proofs.laws.Rows.{find_told}
use Rattle.model_find.proofs.BearersMet.{tally_tells}

-- the first n bytes are n
pub front_length : (y : List ℕ) (n : ℕ) → n ≤ length y → n ≡ length (take n y)
front_length y n h = sym (length-take-le n y h)

module _ (B y : List ℕ) (v : CodeVerdict) (e : shown v ≡ early B 1 8) where
  number : v.number ≡ (early B 1 8).number
  number = ap (λ (o : Verdict). o.number) e

  abbrev rest : FindOut
  rest = found_among (bearers B (trim y) (from_to 1 (site_at B).actions))

  pub find_refused : (v.number ≡ 0 → ⊥) → refused_find v.number v.place ≡ find B y
  unfolding find
  find_refused h = sym (ap (λ (o : Verdict). if (eqb o.number 0) rest (refused_find o.number o.place)) (sym e)
      ∙ ap (λ (b : Bool). if b rest (refused_find v.number v.place)) (ne_eqb v.number 0 h))

  module _ (z : v.number ≡ 0) (n : ℕ) (f : n ≡ trimmed y (length y)) where
    passed : Admitted B 1 8
    passed = by_early B 1 8 (λ o b. o.number ≡ 0 → Admitted B 1 8) (λ p _. admitted p) (λ k p r i. absurd (omega (arith, early_some r))) (sym number ∙ z)

    sent : take n y ≡ trim y
    unfolding trim
    sent = ap (λ (k : ℕ). take k y) f

    pub find_empty : n < 1 → refused_find 18 0 ≡ find B y
    find_empty h =
        let i : n ≡ 0 = omega arith in
        let j : trim y ≡ [] = sym sent ∙ ap (λ (k : ℕ). take k y) i in
        sym (find_told B y passed (trim_sent y) (tells_none (λ a c. c.some j)))

    pub find_met : {b : Bearers} → 1 ≤ n → b ≡ tally (take n y) Nobody (readings B) → told b ≡ find B y
    unfolding find
    find_met h g =
        let some : trim y ≡ [] → ⊥ = λ j.
        let l : 0 ≡ length (take n y) = sym (ap length (sent ∙ j)) in
        absurd (omega (arith, l, front_length y n (omega (arith, f, trimmed_most y (length y))))) in
        ap told (g ∙ ap (λ (x : List ℕ). tally x Nobody (readings B)) sent) ∙ tally_tells B (trim y) passed some
        ∙ sym (ap (λ (b : Bool). if b rest (refused_find (early B 1 8).number (early B 1 8).place)) (eq-eqb (early B 1 8).number 0 (sym number ∙ z)))
