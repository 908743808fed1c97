-- The outcome of a total by its tests, one after the other.
use Rattle.std.specs.Prelude.{◌≡◌, Bool, ℕ, eqb}
use Rattle.std.proofs.Math.Path.{refl, ap, ap₂}
use Rattle.std.proofs.Common.{◌∙◌, eq-eqb, ne_eqb}
use Rattle.std.proofs.Math.Bool.{true, false}
use Rattle.whole.specs.Cases.{if}
use Rattle.whole.specs.Numerator.{number}
use Rattle.theory.specs.Verdict.{Site, or}
use Rattle.theory.specs.Value.{Asked, ValueOut}
use Rattle.value_joined.specs.Total.{TotalOut, refused_total, no_total, answered_number, crosswise, both_read, same_scale, total_after}

module _ (S R : Site) (h : ℕ) (q r : Asked) (v w : ValueOut) where
  abbrev outcome : TotalOut
  outcome = total_after S R h q r v w

  abbrev by_scale : Bool → TotalOut
  by_scale b = if b (both_read S R h v w) (refused_total 26 0)

  abbrev by_second : Bool → TotalOut
  by_second b = if b (by_scale (same_scale S R q r)) (refused_total w.number w.place)

  abbrev by_first : Bool → TotalOut
  by_first b = if b (by_second (eqb w.number 0)) (refused_total v.number v.place)

  pub first_refused : (v.number ≡ 0 → ⊥) → outcome ≡ refused_total v.number v.place
  unfolding total_after
  first_refused n = ap by_first (ne_eqb v.number 0 n)

  past_first : v.number ≡ 0 → outcome ≡ by_second (eqb w.number 0)
  unfolding total_after
  past_first e = ap by_first (eq-eqb v.number 0 e)

  pub second_refused : v.number ≡ 0 → (w.number ≡ 0 → ⊥) → outcome ≡ refused_total w.number w.place
  second_refused e n = past_first e ∙ ap by_second (ne_eqb w.number 0 n)

  past_second : v.number ≡ 0 → w.number ≡ 0 → outcome ≡ by_scale (same_scale S R q r)
  past_second e f = past_first e ∙ ap by_second (eq-eqb w.number 0 f)

  pub scale_refused : v.number ≡ 0 → w.number ≡ 0 → same_scale S R q r ≡ false → outcome ≡ refused_total 26 0
  scale_refused e f s = past_second e f ∙ ap by_scale s

  pub past_scale : v.number ≡ 0 → w.number ≡ 0 → same_scale S R q r ≡ true → outcome ≡ both_read S R h v w
  past_scale e f s = past_second e f ∙ ap by_scale s

module _ (S R : Site) (h : ℕ) (v w : ValueOut) where
  abbrev by_none : Bool → TotalOut
  by_none b = if b no_total (answered_number (crosswise S R h (number v.numerator) (number w.numerator)) v.action w.action)

  pub first_none : v.action ≡ 0 → both_read S R h v w ≡ no_total
  unfolding both_read
  first_none e = ap (λ (b : Bool). by_none (or b (eqb w.action 0))) (eq-eqb v.action 0 e)

  pub second_none : w.action ≡ 0 → both_read S R h v w ≡ no_total
  unfolding both_read
  second_none e = ap (λ (b : Bool). by_none (or (eqb v.action 0) b)) (eq-eqb w.action 0 e) ∙ ap by_none (or_true (eqb v.action 0))
    where
      or_true : (b : Bool) → or b true ≡ true
      or_true true = refl
      or_true false = refl

  pub both_some : (v.action ≡ 0 → ⊥) → (w.action ≡ 0 → ⊥)
      → both_read S R h v w ≡ answered_number (crosswise S R h (number v.numerator) (number w.numerator)) v.action w.action
  unfolding both_read
  both_some m n = ap₂ (λ (b c : Bool). by_none (or b c)) (ne_eqb v.action 0 m) (ne_eqb w.action 0 n)
