-- Every outcome is one row, and each row is the outcome.
use Rattle.std.specs.Prelude.{◌≡◌, Bool, true, false, List, ℕ, zero, suc, ◌≤◌, eqb, ℤ, pos, negsuc}
use Rattle.std.proofs.Math.Path.{refl, ap, ap₂}
use Rattle.std.proofs.Common.{sym, ◌∙◌, subst, ⊎_elim, inl, inr, arith, eq-eqb}
use Rattle.std.proofs.Math.Bool.{◌&&◌}
use Rattle.std.proofs.Math.Dec.{eqb→eq}
use Rattle.std.specs.Int.Signed.{le_z}
use Rattle.whole.specs.Cases.{if, both, and_in, is_true, from_true, clash}
use Rattle.whole.specs.Linears.{eq_ℤ}
use Rattle.whole.specs.LinearsLaws.{eq_ℤ_true, eq_ℤ_refl}
use Rattle.whole.specs.Numerator.{words}
use Rattle.whole_wide.specs.Wide.{in_two_words}
use Rattle.theory.specs.Load.{site_at}
use Rattle.theory.specs.Value.{Asked, ValueOut, value_of}
use Rattle.theory.specs.Rows.{ValueRow}
use Rattle.theorems.proofs.laws.Demands.{value_rows}
use Rattle.value_joined.specs.Total.{TotalOut, refused_total, answered_number, both_read, same_scale, total_after, total_of}
use Rattle.value_joined.specs.TotalRows.{InTwoWords, BothRead, SameScale, BothHave, sum_of, TotalRow, total_0, total_none, total_first, total_second, total_26, total_11, TotalRows}
use Rattle.value_joined.proofs.laws.Cases.{first_refused, second_refused, scale_refused, past_scale, first_none, second_none, both_some}

-- ---- tests and what they say

by_zero : {X : Type 0} (n : ℕ) → (n ≡ 0 → X) → (1 ≤ n → X) → X
by_zero zero f g = f refl
by_zero (suc n) f g = g (omega arith)

by_bool : {X : Type 0} (b : Bool) → (b ≡ true → X) → (b ≡ false → X) → X
by_bool true f g = f refl
by_bool false f g = g refl

pub in_words : (z : ℤ) → in_two_words z ≡ true → InTwoWords z
unfolding in_two_words
in_words z e = let (a, b) = both (le_z (negsuc 170141183460469231731687303715884105727) z) (le_z z (pos 170141183460469231731687303715884105727)) (from_true e) in (record { le = a }, record { le = b })

pub words_in : (z : ℤ) → InTwoWords z → in_two_words z ≡ true
unfolding in_two_words
words_in z k = is_true _ (and_in (le_z (negsuc 170141183460469231731687303715884105727) z) (le_z z (pos 170141183460469231731687303715884105727)) k.0.le k.1.le)

-- a test that would say otherwise fails
fails : (b : Bool) → (b ≡ true → ⊥) → b ≡ false
fails b f = by_bool b (λ e. absurd (f e)) (λ e. e)

module _ (z : ℤ) (a b : ℕ) where
  number_in : InTwoWords z → answered_number z a b ≡ record { number = 0; place = 0; first = a; second = b; numerator = words z }
  unfolding answered_number
  number_in k = ap (λ (c : Bool). if c (record { number = 0; place = 0; first = a; second = b; numerator = words z }) (refused_total 11 0)) (words_in z k)

  number_out : in_two_words z ≡ false → answered_number z a b ≡ refused_total 11 0
  unfolding answered_number
  number_out e = ap (λ (c : Bool). if c (record { number = 0; place = 0; first = a; second = b; numerator = words z }) (refused_total 11 0)) e

module _ (B : List ℕ) (nodes : List ℤ) (stages : List ℕ) (q : Asked) (C : List ℕ) (nodes' : List ℤ) (stages' : List ℕ) (r : Asked) (h : ℕ) where
  abbrev Row : TotalOut → Type 0
  Row = TotalRow B nodes stages q C nodes' stages' r h

  abbrev Same : Type 0
  Same = SameScale B nodes stages q C nodes' stages' r h

  abbrev Read : ValueOut → ValueOut → Type 0
  Read = BothRead B nodes stages q C nodes' stages' r h

  abbrev Have : ValueOut → ValueOut → Type 0
  Have = BothHave B nodes stages q C nodes' stages' r h

  scale_same : same_scale (site_at B) (site_at C) q r ≡ true → Same
  unfolding same_scale
  scale_same e =
      let (a, b) = both (eqb (site_at B).weights (site_at C).weights) (eq_ℤ q.den r.den) (from_true e) in
      record { weights = eqb→eq (site_at B).weights (site_at C).weights a; den = eq_ℤ_true q.den r.den (is_true _ b) }

  same_is : Same → same_scale (site_at B) (site_at C) q r ≡ true
  unfolding same_scale
  same_is s = ap₂ ◌&&◌ (eq-eqb (site_at B).weights (site_at C).weights s.weights) (ap (eq_ℤ q.den) (sym s.den) ∙ eq_ℤ_refl q.den)

  -- what each side reads
  abbrev v : ValueOut
  v = value_of B nodes stages h q

  abbrev w : ValueOut
  w = value_of C nodes' stages' h r

  row_one : ValueRow B nodes stages h q v
  row_one = (value_rows B nodes stages h q v).1 refl

  row_two : ValueRow C nodes' stages' h r w
  row_two = (value_rows C nodes' stages' h r w).1 refl

  outcome_is : total_of B nodes stages q C nodes' stages' r h ≡ total_after (site_at B) (site_at C) h q r v w
  unfolding total_of
  outcome_is = refl

  given : {o : TotalOut} → total_after (site_at B) (site_at C) h q r v w ≡ o → Row o → Row (total_of B nodes stages q C nodes' stages' r h)
  given e r = subst Row (sym (outcome_is ∙ e)) r

  -- each test in turn
  both_row : (e : v.number ≡ 0) (f : w.number ≡ 0) → same_scale (site_at B) (site_at C) q r ≡ true → Row (total_of B nodes stages q C nodes' stages' r h)
  both_row e f s =
      let d : Read v w = record { first = row_one; first_read = e; second = row_two; second_read = f } in
      let g = past_scale (site_at B) (site_at C) h q r v w e f s in
      by_zero v.action (λ n. given (g ∙ first_none (site_at B) (site_at C) h v w n) (total_none d (scale_same s) (inl n)))
      (λ m. by_zero w.action (λ n. given (g ∙ second_none (site_at B) (site_at C) h v w n) (total_none d (scale_same s) (inr n)))
      (λ n. let k : Have v w = record { read = d; same = scale_same s; first_some = m; second_some = n } in
      let j = g ∙ both_some (site_at B) (site_at C) h v w (λ i. omega arith) (λ i. omega arith) in
      by_bool (in_two_words (sum_of B nodes stages q C nodes' stages' r h v w))
      (λ i. given (j ∙ number_in _ _ _ (in_words _ i)) (total_0 k (in_words _ i)))
      (λ i. given (j ∙ number_out _ _ _ i) (total_11 k (λ u. clash (sym (words_in _ u) ∙ i))))))

  pub total_row : Row (total_of B nodes stages q C nodes' stages' r h)
  total_row =
      by_zero v.number
      (λ e. by_zero w.number
      (λ f. by_bool (same_scale (site_at B) (site_at C) q r) (both_row e f)
      (λ s. given (scale_refused (site_at B) (site_at C) h q r v w e f s) (total_26 (record { first = row_one; first_read = e; second = row_two; second_read = f }) (λ u. clash (sym (same_is u) ∙ s)))))
      (λ n. given (second_refused (site_at B) (site_at C) h q r v w e (λ f. omega arith)) (total_second row_one e row_two n)))
      (λ n. given (first_refused (site_at B) (site_at C) h q r v w (λ e. omega arith)) (total_first row_one n))

  -- ---- a row decides

  -- what a row reads is what is read
  read_as : {a b : ValueOut} → ValueRow B nodes stages h q a → ValueRow C nodes' stages' h r b → total_of B nodes stages q C nodes' stages' r h ≡ total_after (site_at B) (site_at C) h q r a b
  read_as {a} {b} i j = outcome_is ∙ ap₂ (total_after (site_at B) (site_at C) h q r) ((value_rows B nodes stages h q a).0 i) ((value_rows C nodes' stages' h r b).0 j)

  scaled_as : {a b : ValueOut} → Read a b → Same → total_of B nodes stages q C nodes' stages' r h ≡ both_read (site_at B) (site_at C) h a b
  scaled_as {a} {b} d s = read_as d.first d.second ∙ past_scale (site_at B) (site_at C) h q r a b d.first_read d.second_read (same_is s)

  have_as : {a b : ValueOut} → Have a b → total_of B nodes stages q C nodes' stages' r h ≡ answered_number (sum_of B nodes stages q C nodes' stages' r h a b) a.action b.action
  have_as {a} {b} d = scaled_as d.read d.same ∙ both_some (site_at B) (site_at C) h a b (λ i. omega (arith, d.first_some)) (λ i. omega (arith, d.second_some))

  pub total_is : {o : TotalOut} → Row o → total_of B nodes stages q C nodes' stages' r h ≡ o
  total_is (total_0 d k) = have_as d ∙ number_in _ _ _ k
  total_is (total_none {v = a} {w = b} d s k) = scaled_as d s ∙ ⊎_elim (first_none (site_at B) (site_at C) h a b) (second_none (site_at B) (site_at C) h a b) k
  total_is (total_first {v = a} i n) = read_as i row_two ∙ first_refused (site_at B) (site_at C) h q r a w (λ e. omega arith)
  total_is (total_second {v = a} {w = b} i e j n) = read_as i j ∙ second_refused (site_at B) (site_at C) h q r a b e (λ f. omega arith)
  total_is (total_26 {v = a} {w = b} d s) = read_as d.first d.second ∙ scale_refused (site_at B) (site_at C) h q r a b d.first_read d.second_read (fails _ (λ e. s (scale_same e)))
  total_is (total_11 d k) = have_as d ∙ number_out _ _ _ (fails _ (λ e. k (in_words _ e)))

pub total_rows : TotalRows
total_rows B nodes stages q C nodes' stages' r h o = (total_is B nodes stages q C nodes' stages' r h, λ e. subst (TotalRow B nodes stages q C nodes' stages' r h) e (total_row B nodes stages q C nodes' stages' r h))
