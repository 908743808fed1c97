-- What the sum's numbers say, and the answer.
use mathlib.Core.Path.{◌≡◌, refl, sym, ap, ap₂, ◌∙◌}
use mathlib.Core.Bool.{Bool, true, false, not, ◌&&◌}
use mathlib.Core.List.{List, [], ◌∷◌}
use Prim.Native.Nat.{ℕ, zero, suc, ◌+◌, ◌-◌, ◌*◌, ◌≤◌, ◌<◌}
use native.Mathlib.Omega.{arith}
use borrow.Author.Tests.{ne_eqb, eq-eqb, le-leb, lt-leb, leb-true, ltb-true}
use lib.Dec.{T, eqb, compare_is_eq}
use lib.IntN.{ℤ, pos, negsuc, neg_ℤ, ◌+ℤ◌, ◌*ℤ◌}
use lib.ListN.{length, get_or, drop}
use lib.Seq.{drop-cons, drop-length, drop-nil}
use lib.Signed.{le_z, lt_z}
use Rattle.whole.specs.Cases.{if, by_test, by_eq, both, and_in, is_true, from_true, clash}
use Rattle.whole.specs.Linears.{numbers}
use Rattle.whole.specs.LinearsLaws.{scale_length}
use Rattle.whole.specs.Numerator.{word}
use Rattle.whole.specs.NumeratorLaws.{below}
use Rattle.theory.specs.Widths.{levels_most}
use Rattle.theory.specs.Diagram.{Linear, Test, now, later, linear, Tree, leaf, branch, cmp_ℤ, zeros, add_list, scale_list, ◌⊞◌, ◌⊠◌}
use Rattle.theory.specs.Valid.{all, wide, good_test, stage_leaf}
use Rattle.theory.specs.Verdict.{or}
use Rattle.prune_paths.specs.Prune.{diagram_at, fits, Side, with_side, along, turned, added, low_used, contradicts, proves, shaped, path_number}
use Rattle.theory.proofs.laws.Nodes.{GoodTree, parts}
use Rattle.theory.proofs.laws.Valid.{wide_long}
use Rattle.prune_paths.proofs.laws.Foreign.{tree_good}
use Rattle.prune_certificate.specs.Path.{GoodNode, shape_of, number_at}

-- ---- 0 in two words

abbrev zero? : ℤ → Bool
zero? z = compare_is_eq (cmp_ℤ z (pos 0))

pub zero_above : (z : ℤ) → le_z z (pos 0) ≡ false → false ≡ compare_is_eq (cmp_ℤ z (pos 0))
zero_above (pos zero) t = clash t
zero_above (pos (suc n)) t = sym (ne_eqb (suc n) 0 (λ e. omega arith))
zero_above (negsuc n) t = clash t

pub zero_high : (h : ℤ) (l : ℕ) → l < word → le_z (h *ℤ pos word +ℤ pos l) (pos 0) ≡ true → le_z (pos 0) h ≡ compare_is_eq (cmp_ℤ (h *ℤ pos word +ℤ pos l) (pos 0))
zero_high (pos k) l b t = le-leb 0 k (omega arith) ∙ sym (eq-eqb (k * word + l) 0 (let h = leb-true (k * word + l) 0 t in omega arith))
zero_high (negsuc k) l b t = sym (ap zero? (below (suc k * word) l (suc k * word - suc l) (omega arith)))

-- ---- signs

pub sign_low : (m : ℤ) → lt_z m (pos 0) ≡ true → le_z (pos 0) m ≡ false
sign_low (pos n) t = absurd (let h = ltb-true n 0 t in omega arith)
sign_low (negsuc n) t = refl

pub sign_high : (m : ℤ) → lt_z m (pos 0) ≡ false → le_z (pos 0) m ≡ true
sign_high (pos n) t = le-leb 0 n (omega arith)
sign_high (negsuc n) t = clash t

pub signs_goes : (ks : List ℤ) (i : ℕ) (m : ℤ) → i < length ks → all (le_z (pos 0)) (drop i ks) ≡ all (le_z (pos 0)) ks → m ≡ get_or ks i (pos 0) → le_z (pos 0) m ≡ true → all (le_z (pos 0)) (drop (i + 1) ks) ≡ all (le_z (pos 0)) ks
unfolding all
signs_goes ks i m h e q t =
    let one : i + 1 ≡ suc i = omega arith in
    let s = ap (all (le_z (pos 0))) (drop-cons ks i (pos 0) h) ∙ ap (λ x. x && all (le_z (pos 0)) (drop (suc i) ks)) (ap (le_z (pos 0)) (sym q) ∙ t) in
    ap (λ (j : ℕ). all (le_z (pos 0)) (drop j ks)) one ∙ (sym s ∙ e)

pub signs_stops : (ks : List ℤ) (i : ℕ) (m : ℤ) → i < length ks → all (le_z (pos 0)) (drop i ks) ≡ all (le_z (pos 0)) ks → m ≡ get_or ks i (pos 0) → le_z (pos 0) m ≡ false → false ≡ all (le_z (pos 0)) ks
unfolding all
signs_stops ks i m h e q t =
    let s = ap (all (le_z (pos 0))) (drop-cons ks i (pos 0) h) ∙ ap (λ x. x && all (le_z (pos 0)) (drop (suc i) ks)) (ap (le_z (pos 0)) (sym q) ∙ t) in
    sym s ∙ e

pub signs_ends : (ks : List ℤ) (i : ℕ) → i ≤ length ks → length ks ≤ i → all (le_z (pos 0)) (drop i ks) ≡ all (le_z (pos 0)) ks → true ≡ all (le_z (pos 0)) ks
unfolding all
signs_ends ks i a b e =
    let z : i ≡ length ks = omega arith in
    sym (ap (λ (j : ℕ). all (le_z (pos 0)) (drop j ks)) z ∙ ap (all (le_z (pos 0))) (drop-length ks)) ∙ e

-- ---- coefficients that cancel

zeros_step : (l : List ℤ) (i : ℕ) → compare_is_eq (cmp_ℤ (get_or l i (pos 0)) (pos 0)) ≡ true → zeros (drop i l) ≡ zeros (drop (suc i) l)
unfolding zeros
zeros_step [] zero t = refl
zeros_step [] (suc i) t = refl
zeros_step (x ∷ l) zero t = ap (λ b. b && zeros l) t
zeros_step (x ∷ l) (suc i) t = zeros_step l i t

zeros_stop : (l : List ℤ) (i : ℕ) → compare_is_eq (cmp_ℤ (get_or l i (pos 0)) (pos 0)) ≡ false → zeros (drop i l) ≡ false
unfolding zeros
zeros_stop [] i t = clash t
zeros_stop (x ∷ l) zero t = ap (λ b. b && zeros l) t
zeros_stop (x ∷ l) (suc i) t = zeros_stop l i t

pub record Cancelling (p : Linear) (w : ℕ) : Type 0 where
  pub least : 1 ≤ w
  pub most : w ≤ numbers
  pub is : zeros (drop (w - 1) p.coeffs) ≡ zeros p.coeffs

pub cancelling_starts : (p : Linear) → Cancelling p 1
cancelling_starts p = record { least = omega arith; most = omega arith; is = refl }

module _ (p : Linear) (w : ℕ) (c : Cancelling p w) (h : w < numbers) (b : Bool) (z : ℤ) (e : z ≡ number_at w p) (q : b ≡ compare_is_eq (cmp_ℤ z (pos 0))) where
  the_coefficient : b ≡ compare_is_eq (cmp_ℤ (get_or p.coeffs (w - 1) (pos 0)) (pos 0))
  unfolding number_at
  the_coefficient = q ∙ ap zero? (e ∙ ap (λ x. if x p.const (get_or p.coeffs (w - 1) (pos 0))) (ne_eqb w numbers (λ y. omega arith)))

  pub cancelling_goes : b ≡ true → Cancelling p (w + 1)
  cancelling_goes t =
      let k : suc (w - 1) ≡ w + 1 - 1 = omega (arith, c.least) in
      record {
        least = omega arith;
        most = omega arith;
        is = ap (λ (j : ℕ). zeros (drop j p.coeffs)) (sym k) ∙ (sym (zeros_step p.coeffs (w - 1) (sym the_coefficient ∙ t)) ∙ c.is);
      }

  pub cancelling_stops : b ≡ false → false ≡ zeros p.coeffs
  cancelling_stops t = sym (zeros_stop p.coeffs (w - 1) (sym the_coefficient ∙ t)) ∙ c.is

gone : (n : ℕ) (l : List ℤ) → length l ≤ n → drop n l ≡ []
gone n [] h = drop-nil n
gone zero (x ∷ l) h = absurd (omega arith)
gone (suc n) (x ∷ l) h = gone n l (omega arith)

pub cancelling_ends : (p : Linear) (w : ℕ) → Cancelling p w → numbers ≤ w → length p.coeffs ≤ levels_most → true ≡ zeros p.coeffs
unfolding zeros
cancelling_ends p w c h l = sym (ap zeros (gone (w - 1) p.coeffs (omega arith))) ∙ c.is

-- ---- no more coefficients than a node has words for

abbrev wide_side : Side → Bool
wide_side s = wide s.lin

with_wide : (n : ℕ) (b : Bool) (t : Test) (l : List Side) → T (good_test n false t) → T (all wide_side l) → T (all wide_side (with_side b t l))
unfolding with_side all good_test
with_wide n b (now k) l g a = a
with_wide n b (later k) l g a = a
with_wide n b (linear p) l g a = and_in (wide p) (all wide_side l) g a

along_wide : (n A : ℕ) (bs : List ℕ) (F : Tree) → GoodTree (good_test n false) (stage_leaf A) F → T (all wide_side (along bs F))
unfolding along all
along_wide n A [] F g = tt
along_wide n A (b ∷ bs) (leaf f) g = tt
along_wide n A (b ∷ bs) (branch t h l) g =
    let d = parts (good_test n false) (stage_leaf A) t h l g in
    let H = along_wide n A bs h d.1.0 in
    let L = along_wide n A bs l d.1.1 in
    by_test (eqb b 1) (λ x. T (all wide_side (if x (with_side true t (along bs h)) (with_side false t (along bs l))))) (λ _. with_wide n true t (along bs h) d.0 H) (λ _. with_wide n false t (along bs l) d.0 L)

add_length : (a b : List ℤ) (n : ℕ) → length a ≤ n → length b ≤ n → length (add_list a b) ≤ n
unfolding add_list
add_length [] b n h l = l
add_length (x ∷ a) [] n h l = h
add_length (x ∷ a) (y ∷ b) zero h l = absurd (omega arith)
add_length (x ∷ a) (y ∷ b) (suc n) h l = let k = add_length a b n (omega arith) (omega arith) in omega arith

added_length : (ss : List Side) (ks : List ℤ) → T (all wide_side ss) → length (added ss ks).coeffs ≤ levels_most
unfolding added turned all ◌⊞◌ ◌⊠◌
added_length [] ks a = omega arith
added_length (s ∷ ss) [] a = omega arith
added_length (s ∷ ss) (k ∷ ks) a =
    let d = both (wide_side s) (all wide_side ss) a in
    let m : ℤ = if s.high k (neg_ℤ k) in
    add_length (scale_list m s.lin.coeffs) (added ss ks).coeffs levels_most (omega (arith, scale_length m s.lin.coeffs, wide_long s.lin d.0)) (added_length ss ks d.1)

pub path_length : (W : List ℤ) (r : ℕ) (turns : List ℕ) (ks : List ℤ) → GoodNode W r → length (added (along turns (diagram_at W r)) ks).coeffs ≤ levels_most
path_length W r turns ks g =
    let t = g.good in
    added_length (along turns (diagram_at W r)) ks (along_wide t.conditions t.actions turns (diagram_at W r) (tree_good t.conditions t.actions W r r g.above (omega arith) t.rows))

-- ---- the contradiction

above_one : (c : ℤ) → le_z c (pos 0) ≡ false → le_z (pos 1) c ≡ true
above_one (pos zero) e = clash e
above_one (pos (suc n)) e = le-leb 1 (suc n) (omega arith)
above_one (negsuc n) e = clash e

not_one : (c : ℤ) → le_z c (pos 0) ≡ true → le_z (pos 1) c ≡ false
not_one (pos zero) e = refl
not_one (pos (suc n)) e = clash (sym e ∙ lt-leb (suc n) 0 (omega arith))
not_one (negsuc n) e = refl

module _ (p : Linear) (low : Bool) where
  abbrev said : Bool → Bool → Bool → Bool
  said a b c = a && or b (c && low)

  the_constant : number_at numbers p ≡ p.const
  unfolding number_at
  the_constant = refl

  pub left_over : (a : Bool) → a ≡ zeros p.coeffs → a ≡ false → false ≡ contradicts p low
  unfolding contradicts
  left_over a e q = sym (ap (λ x. said x (le_z (pos 1) p.const) (compare_is_eq (cmp_ℤ p.const (pos 0)))) (sym e ∙ q))

  module _ (a : Bool) (e : a ≡ zeros p.coeffs) (t : a ≡ true) (z : ℤ) (i : z ≡ number_at numbers p) (b : Bool) (f : b ≡ le_z z (pos 0)) where
    sign_is : b ≡ le_z p.const (pos 0)
    sign_is = f ∙ ap (λ (c : ℤ). le_z c (pos 0)) (i ∙ the_constant)

    pub above_zero : b ≡ false → true ≡ contradicts p low
    unfolding contradicts
    above_zero q = sym (ap₂ (λ x y. said x y (compare_is_eq (cmp_ℤ p.const (pos 0)))) (sym e ∙ t) (above_one p.const (sym sign_is ∙ q)))

    module _ (u : b ≡ true) (n : Bool) (g : n ≡ compare_is_eq (cmp_ℤ z (pos 0))) where
      zero_is : n ≡ compare_is_eq (cmp_ℤ p.const (pos 0))
      zero_is = g ∙ ap zero? (i ∙ the_constant)

      pub below_zero : n ≡ false → false ≡ contradicts p low
      unfolding contradicts
      below_zero q = sym (λ j. said ((sym e ∙ t) j) (not_one p.const (sym sign_is ∙ u) j) ((sym zero_is ∙ q) j))

      pub at_zero : (l : Bool) → l ≡ low → n ≡ true → l ≡ contradicts p low
      unfolding contradicts
      at_zero l y q = y ∙ sym (λ j. said ((sym e ∙ t) j) (not_one p.const (sym sign_is ∙ u) j) ((sym zero_is ∙ q) j))

-- ---- the answer

module _ (turns : List ℕ) (F : Tree) (ks : List ℤ) where
  abbrev shape_by : Bool → Bool → Bool → Bool
  shape_by a b c = not a && (b && c)

  not_shaped : shaped turns F ks ≡ false → 22 ≡ path_number turns F ks
  unfolding path_number
  not_shaped e = sym (ap (λ x. if x (if (proves (along turns F) ks) 0 21) 22) e)

  pub no_turns : length turns ≡ 0 → 22 ≡ path_number turns F ks
  unfolding shaped
  no_turns e = not_shaped (ap (λ x. shape_by x (fits turns F) (eqb (length ks) (length (along turns F)))) (eq-eqb (length turns) 0 e))

  and_no : (a b : Bool) → b ≡ false → a && b ≡ false
  and_no true b e = e
  and_no false b e = refl

  module _ (n : ℕ) (e : n ≡ shape_of turns F) where
    shape_cases : (P : Type 0) → (fits turns F ≡ true → n ≡ suc (length (along turns F)) → P) → (fits turns F ≡ false → n ≡ 0 → P) → P
    unfolding shape_of
    shape_cases P f g = by_eq (fits turns F) (λ b. fits turns F ≡ b → n ≡ if b (suc (length (along turns F))) 0 → P) (λ _. f) (λ _. g) refl e

    pub no_fit : n ≡ 0 → 22 ≡ path_number turns F ks
    unfolding shaped
    no_fit z = shape_cases (22 ≡ path_number turns F ks) (λ _ y. absurd (omega arith))
        (λ f _. not_shaped (and_no (not (eqb (length turns) 0)) (fits turns F && eqb (length ks) (length (along turns F))) (ap (λ x. x && eqb (length ks) (length (along turns F))) f)))

    pub no_count : (n ≡ 0 → ⊥) → (n - 1 ≡ length ks → ⊥) → 22 ≡ path_number turns F ks
    unfolding shaped
    no_count z q = shape_cases (22 ≡ path_number turns F ks)
        (λ _ y. not_shaped (and_no (not (eqb (length turns) 0)) (fits turns F && eqb (length ks) (length (along turns F)))
        (and_no (fits turns F) (eqb (length ks) (length (along turns F))) (ne_eqb (length ks) (length (along turns F)) (λ k. q (omega arith))))))
        (λ _ y. absurd (z y))

    module _ (t : length turns ≡ 0 → ⊥) (z : n ≡ 0 → ⊥) (q : n - 1 ≡ length ks) where
      pub fit_is : T (fits turns F)
      fit_is = shape_cases (T (fits turns F)) (λ f _. from_true f) (λ _ y. absurd (z y))

      pub count_is : length ks ≡ length (along turns F)
      count_is = shape_cases (length ks ≡ length (along turns F)) (λ _ y. omega arith) (λ _ y. absurd (z y))

      is_shaped : shaped turns F ks ≡ true
      unfolding shaped
      is_shaped = λ j. shape_by (ne_eqb (length turns) 0 t j) (is_true (fits turns F) fit_is j) (eq-eqb (length ks) (length (along turns F)) count_is j)

      answer_is : (b : Bool) → proves (along turns F) ks ≡ b → path_number turns F ks ≡ if b 0 21
      unfolding path_number
      answer_is b e = ap₂ (λ x y. if x (if y 0 21) 22) is_shaped e

      module _ (a : Bool) (s : a ≡ all (le_z (pos 0)) ks) where
        pub a_negative : a ≡ false → 21 ≡ path_number turns F ks
        unfolding proves
        a_negative y = sym (answer_is false (ap (λ x. x && contradicts (added (along turns F) ks) (low_used (along turns F) ks)) (sym s ∙ y)))

        module _ (y : a ≡ true) (b : Bool) (g : b ≡ contradicts (added (along turns F) ks) (low_used (along turns F) ks)) where
          proves_is : proves (along turns F) ks ≡ b
          unfolding proves
          proves_is = ap (λ x. x && contradicts (added (along turns F) ks) (low_used (along turns F) ks)) (sym s ∙ y) ∙ sym g

          pub accepted : b ≡ true → 0 ≡ path_number turns F ks
          accepted x = sym (answer_is true (proves_is ∙ x))

          pub not_proved : b ≡ false → 21 ≡ path_number turns F ks
          not_proved x = sym (answer_is false (proves_is ∙ x))
