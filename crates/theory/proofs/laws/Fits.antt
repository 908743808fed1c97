-- 13 and 14 by computed tests, and as 01 lists them.
use Rattle.std.specs.Prelude.{◌≡◌, ◌⊎◌, false, not, ◌&&◌, List, [], ◌∷◌, eqb, ltb, leb, ℤ, negsuc, length, take, drop}
use Rattle.std.proofs.Math.Path.{refl, ap, subst}
use Rattle.std.proofs.Common.{sym, ◌∙◌, inl, inr, ⊎_elim, T_not, eqb→eq, le→leb, ltb→lt, lt→ltb, nltb→le, get_or-take, get_or-drop}
use Prim.Native.Nat.{ℕ, zero, suc, ◌+◌, ◌-◌, ◌*◌, ◌^◌, ◌≤◌, ◌<◌}
use native.Mathlib.Omega.{arith}
use Rattle.std.proofs.Math.Dec.{T, compare_is_eq, leb→le, nleb→lt}
use Rattle.std.proofs.Math.IntN.{pos, nat_abs}
use Rattle.std.proofs.Math.ListN.{get_or}
use Rattle.std.specs.Int.Signed.{le_z}
use Rattle.whole.specs.Cases.{if, by_test, both, and_in}
use Rattle.whole.specs.Within.{small}
use Rattle.theory.specs.Widths.{levels_most, node_words}
use Rattle.theory.specs.Diagram.{cmp_ℤ, zeros}
use Rattle.theory.specs.Valid.{all, small_linear}
use Rattle.theory.specs.Value.{Asked, accepted, node_word, node_linear, high_of, low_of, among_ℤ, good_branches, good_leaf_row, good_condition_row, good_test_row, good_none_row, good_row, ends}
use Rattle.theory.specs.Staying.{In62}
use Rattle.theory.specs.Rows.{Among, StateFits, NumbersFit, BranchesFit, KindFits, fits_leaf, fits_condition, fits_test, fits_none, NodeFits}
use Rattle.theory.proofs.laws.Comps.{cmp_ℤ_eq}
use Rattle.theory.proofs.laws.PlainLimits.{in_62, back_62}
use Rattle.theory.proofs.laws.Words.{by_kind}

-- ---- lists, word by word

pub zeros_each : (l : List ℤ) → T (zeros l) → (i : ℕ) → get_or l i (pos 0) ≡ pos 0
unfolding zeros
zeros_each [] t i = refl
zeros_each (z ∷ l) t zero = cmp_ℤ_eq z (pos 0) (both (compare_is_eq (cmp_ℤ z (pos 0))) (zeros l) t).0
zeros_each (z ∷ l) t (suc i) = zeros_each l (both (compare_is_eq (cmp_ℤ z (pos 0))) (zeros l) t).1 i

pub each_zeros : (l : List ℤ) → ((i : ℕ) → get_or l i (pos 0) ≡ pos 0) → T (zeros l)
unfolding zeros
each_zeros [] f = tt
each_zeros (z ∷ l) f = and_in (compare_is_eq (cmp_ℤ z (pos 0))) (zeros l) (subst (λ (y : ℤ). T (compare_is_eq (cmp_ℤ y (pos 0)))) (sym (f 0)) tt) (each_zeros l (λ i. f (suc i)))

small_each : (l : List ℤ) → T (all small l) → (i : ℕ) → T (small (get_or l i (pos 0)))
unfolding all small
small_each [] t i = tt
small_each (z ∷ l) t zero = (both (small z) (all small l) t).0
small_each (z ∷ l) t (suc i) = small_each l (both (small z) (all small l) t).1 i

each_small : (l : List ℤ) → ((i : ℕ) → T (small (get_or l i (pos 0)))) → T (all small l)
unfolding all
each_small [] f = tt
each_small (z ∷ l) f = and_in (small z) (all small l) (f 0) (each_small l (λ i. f (suc i)))

pub part_word : (k j : ℕ) (W : List ℤ) (i : ℕ) → i < k → get_or (take k (drop j W)) i (pos 0) ≡ get_or W (j + i) (pos 0)
part_word k j W i h = get_or-take k (drop j W) i (pos 0) h ∙ get_or-drop j W i (pos 0)

beyond_part : (k : ℕ) (l : List ℤ) (i : ℕ) → k ≤ i → get_or (take k l) i (pos 0) ≡ pos 0
beyond_part zero l i h = refl
beyond_part (suc k) [] i h = refl
beyond_part (suc k) (z ∷ l) zero h = absurd (omega arith)
beyond_part (suc k) (z ∷ l) (suc i) h = beyond_part k l i (omega arith)

-- what holds of 0 and of k words from one on holds of each of their list
pub part_each : (P : ℤ → Type 0) → P (pos 0) → (k j : ℕ) (W : List ℤ) → ((i : ℕ) → i < k → P (get_or W (j + i) (pos 0))) → (i : ℕ) → P (get_or (take k (drop j W)) i (pos 0))
part_each P z k j W f i = by_test (ltb i k) (λ _. P (get_or (take k (drop j W)) i (pos 0)))
    (λ t. let h = ltb→lt i k t in subst P (sym (part_word k j W i h)) (f i h))
    (λ t. subst P (sym (beyond_part k (drop j W) i (nltb→le i k t))) z)

-- ---- 13

pub state_fits : (m n : ℕ) (q : Asked) → T (accepted m n q) → StateFits m n q
unfolding accepted
state_fits m n q t =
    let d = both (le_z (pos 1) q.den) (ltb q.mask (2 ^ n) && zeros (drop m q.nums)) t in
    let e = both (ltb q.mask (2 ^ n)) (zeros (drop m q.nums)) d.1 in
    record {
      den = record { le = d.0 };
      mask = ltb→lt q.mask (2 ^ n) e.0;
      beyond = λ i h. ap (λ (j : ℕ). get_or q.nums j (pos 0)) (behind m i h) ∙ (sym (get_or-drop m q.nums (i - m) (pos 0)) ∙ zeros_each (drop m q.nums) e.1 (i - m));
    }
  where
    behind : (m i : ℕ) → m ≤ i → i ≡ m + (i - m)
    behind m i h = omega arith

pub state_accepted : (m n : ℕ) (q : Asked) → StateFits m n q → T (accepted m n q)
unfolding accepted
state_accepted m n q f =
    and_in (le_z (pos 1) q.den) (ltb q.mask (2 ^ n) && zeros (drop m q.nums)) f.den.le
    (and_in (ltb q.mask (2 ^ n)) (zeros (drop m q.nums)) (lt→ltb q.mask (2 ^ n) f.mask)
    (each_zeros (drop m q.nums) (λ i. get_or-drop m q.nums i (pos 0) ∙ f.beyond (m + i) (omega arith))))

pub state_refused : (m n : ℕ) (q : Asked) → (StateFits m n q → ⊥) → T (not (accepted m n q))
state_refused m n q f = by_test (accepted m n q) (λ b. T (not b)) (λ t. absurd (f (state_fits m n q t))) (λ _. tt)

-- ---- 14

among_in : (n : ℕ) (z : ℤ) → T (among_ℤ n z) → Among n z
unfolding among_ℤ
among_in n z t = let d = both (le_z (pos 1) z) (le_z z (pos n)) t in (record { le = d.0 }, record { le = d.1 })

among_back : (n : ℕ) (z : ℤ) → Among n z → T (among_ℤ n z)
unfolding among_ℤ
among_back n z d = and_in (le_z (pos 1) z) (le_z z (pos n)) d.0.le d.1.le

word_on : (b i : ℕ) → 1 ≤ i → b + 1 + (i - 1) ≡ b + i
word_on b i h = omega arith

module _ (n A : ℕ) (W : List ℤ) (r : ℕ) where
  numbers_in : T (small_linear (node_linear W r)) → NumbersFit n A W r
  unfolding small_linear node_linear
  numbers_in t i h =
      let b = (r - 1) * node_words in
      let d = both (all small (take levels_most (drop (b + 1) W))) (small (node_word W r (levels_most + 1))) t in
      by_test (leb i levels_most) (λ _. In62 (node_word W r i))
      (λ k. let l = leb→le i levels_most k in
      subst (λ (j : ℕ). In62 (get_or W j (pos 0))) (word_on b i h.0)
      (subst In62 (part_word levels_most (b + 1) W (i - 1) (omega (arith, h.0))) (in_62 _ (small_each (take levels_most (drop (b + 1) W)) d.0 (i - 1)))))
      (λ k. let l = nleb→lt i levels_most k in let e : levels_most + 1 ≡ i = omega (arith, h.1) in subst (λ (j : ℕ). In62 (node_word W r j)) e (in_62 _ d.1))

  numbers_back : NumbersFit n A W r → T (small_linear (node_linear W r))
  unfolding small_linear node_linear small
  numbers_back f =
      let b = (r - 1) * node_words in
      and_in (all small (take levels_most (drop (b + 1) W))) (small (node_word W r (levels_most + 1)))
      (each_small (take levels_most (drop (b + 1) W)) (part_each (λ z. T (small z)) tt levels_most (b + 1) W
      (λ i h. back_62 (get_or W (b + 1 + i) (pos 0)) (subst (λ (j : ℕ). In62 (get_or W j (pos 0))) (next b i) (f (suc i) (omega arith, omega arith))))))
      (back_62 (node_word W r (levels_most + 1)) (f (levels_most + 1) (omega arith, omega arith)))
    where
      next : (b i : ℕ) → b + suc i ≡ b + 1 + i
      next b i = omega arith

  branches_in : T (good_branches W r) → BranchesFit n A W r
  unfolding good_branches
  branches_in t = let d = both (among_ℤ (r - 1) (high_of W r)) (among_ℤ (r - 1) (low_of W r)) t in (among_in _ _ d.0, among_in _ _ d.1)

  branches_back : BranchesFit n A W r → T (good_branches W r)
  unfolding good_branches
  branches_back d = and_in (among_ℤ (r - 1) (high_of W r)) (among_ℤ (r - 1) (low_of W r)) (among_back _ _ d.0) (among_back _ _ d.1)

  abbrev zero_words : List ℤ
  zero_words = take levels_most (drop ((r - 1) * node_words + 2) W)

  leaf_in : node_word W r 0 ≡ pos 0 → T (good_leaf_row A W r) → KindFits n A W r
  unfolding good_leaf_row
  leaf_in e t =
      let d = both (small_linear (node_linear W r)) (among_ℤ A (high_of W r) && zeros (low_of W r ∷ [])) t in
      let c = both (among_ℤ A (high_of W r)) (zeros (low_of W r ∷ [])) d.1 in
      fits_leaf e (numbers_in d.0) (among_in _ _ c.0) (zeros_each (low_of W r ∷ []) c.1 0)

  condition_in : node_word W r 0 ≡ pos 1 → T (good_condition_row n W r) → KindFits n A W r
  unfolding good_condition_row
  condition_in e t =
      let b = (r - 1) * node_words in
      let d = both (among_ℤ n (node_word W r 1)) (zeros zero_words && good_branches W r) t in
      let c = both (zeros zero_words) (good_branches W r) d.1 in
      fits_condition e (among_in _ _ d.0)
      (λ i h. ap (λ (j : ℕ). get_or W j (pos 0)) (two_on b i h.0) ∙ (sym (part_word levels_most (b + 2) W (i - 2) (omega (arith, h.0, h.1))) ∙ zeros_each zero_words c.0 (i - 2)))
      (branches_in c.1)
    where
      two_on : (b i : ℕ) → 2 ≤ i → b + i ≡ b + 2 + (i - 2)
      two_on b i h = omega arith

  test_in : node_word W r 0 ≡ pos 2 → T (good_test_row W r) → KindFits n A W r
  unfolding good_test_row
  test_in e t = let d = both (small_linear (node_linear W r)) (good_branches W r) t in fits_test e (numbers_in d.0) (branches_in d.1)

  abbrev words_behind : List ℤ
  words_behind = take (node_words - 1) (drop ((r - 1) * node_words + 1) W)

  none_in : node_word W r 0 ≡ pos 3 → T (good_none_row W r) → KindFits n A W r
  unfolding good_none_row
  none_in e t =
      let b = (r - 1) * node_words in
      fits_none e (λ i h. ap (λ (j : ℕ). get_or W j (pos 0)) (sym (word_on b i h.0)) ∙ (sym (part_word (node_words - 1) (b + 1) W (i - 1) (omega (arith, h.0, h.1))) ∙ zeros_each words_behind t (i - 1)))

  kind_in : (z : ℤ) → node_word W r 0 ≡ z → T (by_kind n A W r z) → KindFits n A W r
  kind_in (pos k) e t = by_test (eqb k 0) (λ b. T (if b (good_leaf_row A W r) (if (eqb k 1) (good_condition_row n W r) (if (eqb k 2) (good_test_row W r) (if (eqb k 3) (good_none_row W r) false)))) → KindFits n A W r)
      (λ h. leaf_in (e ∙ ap pos (eqb→eq k 0 h)))
      (λ _. by_test (eqb k 1) (λ b. T (if b (good_condition_row n W r) (if (eqb k 2) (good_test_row W r) (if (eqb k 3) (good_none_row W r) false))) → KindFits n A W r)
      (λ h. condition_in (e ∙ ap pos (eqb→eq k 1 h)))
      (λ _. by_test (eqb k 2) (λ b. T (if b (good_test_row W r) (if (eqb k 3) (good_none_row W r) false)) → KindFits n A W r)
      (λ h. test_in (e ∙ ap pos (eqb→eq k 2 h)))
      (λ _. by_test (eqb k 3) (λ b. T (if b (good_none_row W r) false) → KindFits n A W r)
      (λ h. none_in (e ∙ ap pos (eqb→eq k 3 h))) (λ _ t. absurd t))))
      t
  kind_in (negsuc k) e t = absurd t

  kind_back : KindFits n A W r → T (by_kind n A W r (node_word W r 0))
  unfolding good_leaf_row good_condition_row good_test_row good_none_row
  kind_back (fits_leaf e f a z) = subst (λ (y : ℤ). T (by_kind n A W r y)) (sym e)
      (and_in (small_linear (node_linear W r)) (among_ℤ A (high_of W r) && zeros (low_of W r ∷ [])) (numbers_back f)
      (and_in (among_ℤ A (high_of W r)) (zeros (low_of W r ∷ [])) (among_back _ _ a) (each_zeros (low_of W r ∷ []) (one (low_of W r) z))))
    where
      one : (y : ℤ) → y ≡ pos 0 → (i : ℕ) → get_or (y ∷ []) i (pos 0) ≡ pos 0
      one y e zero = e
      one y e (suc i) = refl
  kind_back (fits_condition e a f b) = subst (λ (y : ℤ). T (by_kind n A W r y)) (sym e)
      (and_in (among_ℤ n (node_word W r 1)) (zeros zero_words && good_branches W r) (among_back _ _ a)
      (and_in (zeros zero_words) (good_branches W r)
      (each_zeros zero_words (part_each (λ z. z ≡ pos 0) refl levels_most ((r - 1) * node_words + 2) W (λ i h. ap (λ (j : ℕ). get_or W j (pos 0)) (after_two ((r - 1) * node_words) i) ∙ f (suc (suc i)) (omega arith, omega arith))))
      (branches_back b)))
    where
      after_two : (b i : ℕ) → b + 2 + i ≡ b + suc (suc i)
      after_two b i = omega arith
  kind_back (fits_test e f b) = subst (λ (y : ℤ). T (by_kind n A W r y)) (sym e) (and_in (small_linear (node_linear W r)) (good_branches W r) (numbers_back f) (branches_back b))
  kind_back (fits_none e f) = subst (λ (y : ℤ). T (by_kind n A W r y)) (sym e)
      (each_zeros words_behind (part_each (λ z. z ≡ pos 0) refl (node_words - 1) ((r - 1) * node_words + 1) W (λ i h. ap (λ (j : ℕ). get_or W j (pos 0)) (after_one ((r - 1) * node_words) i) ∙ f (suc i) (omega arith, omega arith))))
    where
      after_one : (b i : ℕ) → b + 1 + i ≡ b + suc i
      after_one b i = omega arith

  pub node_fits : T (good_row n A W r) → NodeFits n A W r
  unfolding good_row
  node_fits t =
      let d = both (leb (r * node_words) (length W)) (by_kind n A W r (node_word W r 0)) t in
      record { inside = leb→le (r * node_words) (length W) d.0; kind = kind_in (node_word W r 0) refl d.1 }

  pub fits_good : NodeFits n A W r → T (good_row n A W r)
  unfolding good_row
  fits_good f = and_in (leb (r * node_words) (length W)) (by_kind n A W r (node_word W r 0)) (le→leb _ _ f.inside) (kind_back f.kind)

  pub misfits : T (not (good_row n A W r)) → NodeFits n A W r → ⊥
  misfits t f = T_not (good_row n A W r) t (fits_good f)

  pub misfits_bad : (NodeFits n A W r → ⊥) → T (not (good_row n A W r))
  misfits_bad f = by_test (good_row n A W r) (λ b. T (not b)) (λ t. absurd (f (node_fits t))) (λ _. tt)

-- the kind of a leaf, 0 or 3, of a node that fits
pub zero_ends : (z : ℤ) → z ≡ pos 0 → T (ends (nat_abs z))
unfolding ends
zero_ends z e = rw e tt

pub three_ends : (z : ℤ) → z ≡ pos 3 → T (ends (nat_abs z))
unfolding ends
three_ends z e = rw e tt

pub ends_kind : (n A : ℕ) (W : List ℤ) (r : ℕ) → NodeFits n A W r → T (ends (nat_abs (node_word W r 0))) → (node_word W r 0 ≡ pos 0) ⊎ (node_word W r 0 ≡ pos 3)
unfolding ends
ends_kind n A W r f = go (node_word W r 0) refl f.kind
  where
    go : (z : ℤ) → node_word W r 0 ≡ z → KindFits n A W r → T (ends (nat_abs z)) → (node_word W r 0 ≡ pos 0) ⊎ (node_word W r 0 ≡ pos 3)
    go z e (fits_leaf k _ _ _) t = inl k
    go z e (fits_none k _) t = inr k
    go z e (fits_condition k _ _ _) t = absurd (subst (λ (y : ℤ). T (ends (nat_abs y))) (sym e ∙ k) t)
    go z e (fits_test k _ _) t = absurd (subst (λ (y : ℤ). T (ends (nat_abs y))) (sym e ∙ k) t)

pub kind_other : (n A : ℕ) (W : List ℤ) (r : ℕ) → NodeFits n A W r → (node_word W r 0 ≡ pos 0 → ⊥) → (node_word W r 0 ≡ pos 3 → ⊥) → T (not (ends (nat_abs (node_word W r 0))))
kind_other n A W r f a b = by_test (ends (nat_abs (node_word W r 0))) (λ c. T (not c)) (λ t. absurd (⊎_elim a b (ends_kind n A W r f t))) (λ _. tt)

-- ---- a leaf's row, of either kind

among_most : (n : ℕ) (z : ℤ) → Among n z → nat_abs z ≤ n
among_most n (pos k) d = leb→le k n d.1.le
among_most n (negsuc k) d = absurd d.0.le

module _ (n A : ℕ) (W : List ℤ) (r : ℕ) where
  -- its numbers lie within the limits
  pub leaf_small : NodeFits n A W r → T (ends (nat_abs (node_word W r 0))) → T (small_linear (node_linear W r))
  unfolding ends
  leaf_small f t = go f.kind
    where
      go : KindFits n A W r → T (small_linear (node_linear W r))
      go (fits_leaf _ g _ _) = numbers_back n A W r g
      go (fits_none _ g) = numbers_back n A W r (λ i h. subst In62 (sym (g i (h.0, omega (arith, h.1)))) (omega arith))
      go (fits_condition k _ _ _) = absurd (subst (λ (y : ℤ). T (ends (nat_abs y))) k t)
      go (fits_test k _ _) = absurd (subst (λ (y : ℤ). T (ends (nat_abs y))) k t)

  -- its action is one of the model's, or 0
  pub leaf_most : NodeFits n A W r → T (ends (nat_abs (node_word W r 0))) → nat_abs (high_of W r) ≤ A
  unfolding ends
  leaf_most f t = go f.kind
    where
      go : KindFits n A W r → nat_abs (high_of W r) ≤ A
      go (fits_leaf _ _ a _) = among_most A (high_of W r) a
      go (fits_none _ g) = omega (arith, ap nat_abs (g 10 (omega arith, omega arith)))
      go (fits_condition k _ _ _) = absurd (subst (λ (y : ℤ). T (ends (nat_abs y))) k t)
      go (fits_test k _ _) = absurd (subst (λ (y : ℤ). T (ends (nat_abs y))) k t)
