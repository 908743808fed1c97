-- What the tests of the code say of the outcome.
use Rattle.std.specs.Prelude.{Option, Some, None, is_some}
use mathlib.Core.Path.{◌≡◌, refl, sym, ap, ap₂, ◌∙◌}
use mathlib.Core.Bool.{Bool, true, false, ◌&&◌}
use mathlib.Core.List.{List}
use Prim.Native.Nat.{ℕ, ◌-◌, ◌≤◌, ◌<◌}
use native.Mathlib.Omega.{arith}
use borrow.Author.Tests.{eq-eqb, ne_eqb}
use lib.Dec.{T, eqb, eqb→eq, leb, leb→le}
use lib.IntN.{ℤ}
use lib.ListN.{length, get_or}
use mir.Syntax.{w32}
use mir.Val.{SFits, to_z, of_z}
use Rattle.whole.specs.Cases.{if, by_test, both, clash}
use Rattle.whole.specs.Linears.{eq_ℤ}
use Rattle.whole.specs.LinearsLaws.{eq_ℤ_true, eq_ℤ_refl}
use Rattle.whole.specs.declared.Numerator.{Numerator}
use Rattle.whole.specs.Numerator.{words}
use Rattle.whole.proofs.Signed.{back32}
use Rattle.whole_wide.specs.Wide.{in_two_words, fitted}
use Rattle.theory.specs.Widths.{steps_most}
use Rattle.theory.specs.Valid.{among}
use Rattle.theory.specs.Verdict.{Site, Verdict}
use Rattle.theory.specs.Load.{site_at}
use Rattle.theory.specs.Solve.{early}
use Rattle.theory.specs.Value.{Asked, ValueOut, refused_value, value_of}
use Rattle.theory.proofs.laws.AcceptedModel.{accepted_site}
use Rattle.theory.proofs.laws.Rows.{Passed, by_early, early_some}
use Rattle.value_walk.specs.Out.{value_after}
use Rattle.value_joined.specs.Total.{TotalOut, refused_total, answered_number, both_read, same_scale, total_after, total_of}
use Rattle.value_joined.proofs.laws.Cases.{first_refused, second_refused, scale_refused, past_scale}

-- ---- one scale

module _ (S R : Site) (q p : Asked) where
  pub other_weights : (S.weights ≡ R.weights → ⊥) → false ≡ same_scale S R q p
  unfolding same_scale
  other_weights n = ap (λ (b : Bool). b && eq_ℤ q.den p.den) (sym (ne_eqb S.weights R.weights n))

  pub by_dens : S.weights ≡ R.weights → SFits w32 q.den → SFits w32 p.den → eqb (of_z w32 q.den) (of_z w32 p.den) ≡ same_scale S R q p
  unfolding same_scale
  by_dens e f g = same q.den p.den f g ∙ ap (λ (b : Bool). b && eq_ℤ q.den p.den) (sym (eq-eqb S.weights R.weights e))
    where
      by_bool : {X : Type 0} (b : Bool) → (b ≡ true → X) → (b ≡ false → X) → X
      by_bool true f g = f refl
      by_bool false f g = g refl

      same : (d e : ℤ) → SFits w32 d → SFits w32 e → eqb (of_z w32 d) (of_z w32 e) ≡ eq_ℤ d e
      same d e f g = by_bool (eq_ℤ d e)
          (λ t. eq-eqb (of_z w32 d) (of_z w32 e) (ap (of_z w32) (eq_ℤ_true d e t)) ∙ sym t)
          (λ n. ne_eqb (of_z w32 d) (of_z w32 e) (λ u. clash (sym (eq_ℤ_refl d) ∙ ap (eq_ℤ d) (sym (back32 d f) ∙ ap (to_z w32) u ∙ back32 e g) ∙ n)) ∙ sym n)

-- ---- the numerator, judged

abbrev held : Numerator → Option Numerator → Numerator
held d (Some x) = x
held d None = d

module _ (z : ℤ) (a b : ℕ) where
  abbrev by_words : Bool → TotalOut
  by_words c = if c (record { number = 0; place = 0; first = a; second = b; numerator = words z }) (refused_total 11 0)

  pub outside_is : {f : Option Numerator} → f ≡ fitted z → f ≡ None → {o : TotalOut} → o ≡ refused_total 11 0 → o ≡ answered_number z a b
  unfolding fitted answered_number
  outside_is e k {o} p = p ∙ by_test (in_two_words z) (λ c. if c (Some (words z)) None ≡ None → refused_total 11 0 ≡ by_words c) (λ _ u. clash (ap is_some u)) (λ _ _. refl) (sym e ∙ k)

  pub inside_is : {f : Option Numerator} {x : Numerator} → f ≡ fitted z → f ≡ Some x → record { number = 0; place = 0; first = a; second = b; numerator = x } ≡ answered_number z a b
  unfolding fitted answered_number
  inside_is {f} {x} e k = by_test (in_two_words z) (λ c. if c (Some (words z)) None ≡ Some x → record { number = 0; place = 0; first = a; second = b; numerator = x } ≡ by_words c)
      (λ _ u. λ i. record { number = 0; place = 0; first = a; second = b; numerator = held x (sym u i) }) (λ _ u. clash (sym (ap is_some u))) (sym e ∙ k)

-- ---- what a value that was read leaves

module _ (B : List ℕ) (nodes : List ℤ) (stages : List ℕ) (h : ℕ) (q : Asked) where
  read_early : (value_of B nodes stages h q).number ≡ 0 → (early B h (length stages)).number ≡ 0
  unfolding value_of value_after
  read_early =
      let v : Verdict = early B h (length stages) in
      let S : Site = site_at B in
      by_test (eqb v.number 0) (λ b. (if {A = ValueOut} b (value_after S.levels S.conditions S.actions nodes (get_or stages (h - 1) 0) q) (refused_value v.number v.place)).number ≡ 0 → v.number ≡ 0)
      (λ t _. eqb→eq v.number 0 t) (λ _ e. e)

  passed : (value_of B nodes stages h q).number ≡ 0 → Passed B h (length stages)
  passed e = by_early B h (length stages) (λ v _. v.number ≡ 0 → Passed B h (length stages)) (λ p _. p) (λ k p r z. absurd (omega (arith, early_some r))) (read_early e)

  some_among : (n w : ℕ) → T (among n w) → 0 < w
  unfolding among
  some_among n w t = leb→le 1 w (both (leb 1 w) (leb w n) t).0

  -- W is 1 or more, and there are few steps
  pub scale_fits : {v : ValueOut} {S : Site} → v ≡ value_of B nodes stages h q → v.number ≡ 0 → S ≡ site_at B → (0 < S.weights) × (h ≤ steps_most)
  scale_fits {v} {S} e z s =
      let p = passed (ap (λ (v : ValueOut). v.number) (sym e) ∙ z) in
      (rw s (some_among 100 _ (accepted_site B p.own).0.weights_in), p.most)

-- ---- the outcome

module _ (B : List ℕ) (nodes : List ℤ) (stages : List ℕ) (q : Asked) (C : List ℕ) (nodes' : List ℤ) (stages' : List ℕ) (r : Asked) (h : ℕ) {v : ValueOut} (e : v ≡ value_of B nodes stages h q) {o : TotalOut} where
  pub first_stops : (v.number ≡ 0 → ⊥) → o ≡ refused_total v.number v.place → o ≡ total_of B nodes stages q C nodes' stages' r h
  unfolding total_of
  first_stops n p = p ∙ sym (first_refused (site_at B) (site_at C) h q r v (value_of C nodes' stages' h r) n)
      ∙ ap (λ (v : ValueOut). total_after (site_at B) (site_at C) h q r v (value_of C nodes' stages' h r)) e

  module _ (z : v.number ≡ 0) {w : ValueOut} (f : w ≡ value_of C nodes' stages' h r) where
    pub second_stops : (w.number ≡ 0 → ⊥) → o ≡ refused_total w.number w.place → o ≡ total_of B nodes stages q C nodes' stages' r h
    unfolding total_of
    second_stops n p = p ∙ sym (second_refused (site_at B) (site_at C) h q r v w z n) ∙ ap₂ (total_after (site_at B) (site_at C) h q r) e f

    module _ (y : w.number ≡ 0) {S R : Site} (s : S ≡ site_at B) (t : R ≡ site_at C) where
      pub scale_stops : {b : Bool} → b ≡ same_scale S R q r → b ≡ false → o ≡ refused_total 26 0 → o ≡ total_of B nodes stages q C nodes' stages' r h
      unfolding total_of
      scale_stops g k p = p ∙ sym (scale_refused S R h q r v w z y (sym g ∙ k)) ∙ (λ i. total_after (s i) (t i) h q r (e i) (f i))

      pub both_stops : {b : Bool} → b ≡ same_scale S R q r → b ≡ true → o ≡ both_read S R h v w → o ≡ total_of B nodes stages q C nodes' stages' r h
      unfolding total_of
      both_stops g k p = p ∙ sym (past_scale S R h q r v w z y (sym g ∙ k)) ∙ (λ i. total_after (s i) (t i) h q r (e i) (f i))
