-- A node's row: its words out of the table's, and its kind.
use mathlib.Core.Path.{◌≡◌, refl, sym, ap, ap₂, ◌∙◌}
use mathlib.Core.Bool.{Bool, true, false, ◌&&◌}
use mathlib.Core.List.{List, [], ◌∷◌, ◌++◌}
use Prim.Native.Nat.{ℕ, ◌+◌, ◌-◌, ◌*◌, ◌/◌, ◌≤◌, ◌<◌}
use native.Mathlib.Numerals.{add-one}
use native.Mathlib.Omega.{arith}
use borrow.Author.Tests.{eq-eqb, ne_eqb, le-leb, lt-leb}
use lib.Dec.{compare_is_eq, eqb}
use lib.IntN.{ℤ, pos, negsuc, nat_abs}
use lib.ListN.{length, get_or, take, drop, length-drop}
use lib.Seq.{take-suc, take-take, get_or-take, get_or-drop, length-take-le}
use Rattle.whole.specs.Cases.{if}
use Rattle.whole.specs.Linears.{numbers, smalls}
use Rattle.whole.specs.Within.{small}
use Rattle.theory.specs.Widths.{node_words, levels_most}
use Rattle.theory.specs.Diagram.{zeros, cmp_ℤ}
use Rattle.theory.specs.Valid.{all, small_linear}
use Rattle.theory.specs.Value.{node_word, node_linear, good_leaf_row, good_condition_row, good_test_row, good_none_row, good_row}
use Rattle.table_rows.proofs.Judged.{and_assoc, and_true}
use Rattle.table_rows.specs.declared.Kind.{Kind}
use Rattle.table_rows.specs.declared.Kind.TheVariants.{Leaf, Condition, Test, None, Bad}
use Rattle.table_rows.specs.Row.{Inside, row_numbers, kind_number, kind_of, row_kind}

-- ---- words in a row, judged one after another

-- one word more; `at` is its place as the code counts it
pub take_more : (W : List ℤ) (b i at : ℕ) → at ≡ b + i → at < length W → take (i + 1) (drop b W) ≡ take i (drop b W) ++ (get_or W at (pos 0) ∷ [])
take_more W b i at p h =
    ap (λ (k : ℕ). take k (drop b W)) (add-one i)
    ∙ take-suc (drop b W) i (pos 0) (omega (arith, length-drop b W))
    ∙ ap (λ (z : ℤ). take i (drop b W) ++ (z ∷ [])) (get_or-drop b W i (pos 0) ∙ ap (λ (k : ℕ). get_or W k (pos 0)) (sym p))

-- a judgement of lists that goes number by number
pub record Each (f : List ℤ → Bool) : Type 0 where
  pub none : f [] ≡ true
  pub more : (z : ℤ) (l : List ℤ) → f (z ∷ l) ≡ f (z ∷ []) && f l

pub each_small : Each smalls
unfolding smalls
each_small = record { none = refl; more = λ z l. ap (λ (b : Bool). b && smalls l) (sym (and_true (small z))) }

pub small_one : (z : ℤ) → small z ≡ smalls (z ∷ [])
unfolding smalls
small_one z = sym (and_true (small z))

smalls_all : (l : List ℤ) → smalls l ≡ all small l
unfolding smalls all
smalls_all [] = refl
smalls_all (z ∷ l) = ap (λ (b : Bool). small z && b) (smalls_all l)

pub each_zero : Each zeros
unfolding zeros
each_zero = record { none = refl; more = λ z l. ap (λ (b : Bool). b && zeros l) (sym (and_true (compare_is_eq (cmp_ℤ z (pos 0))))) }

module _ {f : List ℤ → Bool} (e : Each f) where
  last : (l : List ℤ) (z : ℤ) → f (l ++ (z ∷ [])) ≡ f l && f (z ∷ [])
  last [] z = ap (λ (b : Bool). b && f (z ∷ [])) (sym e.none)
  last (y ∷ l) z =
      e.more y (l ++ (z ∷ [])) ∙ ap (λ (b : Bool). f (y ∷ []) && b) (last l z)
      ∙ sym (and_assoc (f (y ∷ [])) (f l) (f (z ∷ []))) ∙ ap (λ (b : Bool). b && f (z ∷ [])) (sym (e.more y l))

  pub words_more : (W : List ℤ) (b i at : ℕ) → at ≡ b + i → at < length W → f (take (i + 1) (drop b W)) ≡ f (take i (drop b W)) && f (get_or W at (pos 0) ∷ [])
  words_more W b i at p h = ap f (take_more W b i at p h) ∙ last (take i (drop b W)) (get_or W at (pos 0))

  -- a turn of the loop over n words from b on
  pub record So (W : List ℤ) (b n i : ℕ) (good : Bool) : Type 0 where
    pub within : i ≤ n
    pub so : good ≡ f (take i (drop b W))

  pub so_none : (W : List ℤ) (b n : ℕ) → So W b n 0 true
  so_none W b n = record { within = omega arith; so = sym e.none }

  pub so_more :
      (W : List ℤ) (b n i : ℕ) (good : Bool) (at : ℕ) {g : Bool} →
      So W b n i good → i < n → at ≡ b + i → at < length W → g ≡ f (get_or W at (pos 0) ∷ []) → So W b n (i + 1) (good && g)
  so_more W b n i good at {g} s t p h q = record {
    within = omega arith;
    so = ap₂ ◌&&◌ s.so q ∙ sym (words_more W b i at p h);
  }

  pub so_all : {W : List ℤ} {b n i : ℕ} {good : Bool} → So W b n i good → n ≤ i → good ≡ f (take n (drop b W))
  so_all {W} {b} {n} {i} s h =
      let e : i ≡ n = omega (arith, s.within) in
      s.so ∙ ap (λ (k : ℕ). f (take k (drop b W))) e

-- ---- a node's numbers

module _ (W : List ℤ) (r : ℕ) (h : Inside W r) where
  abbrev first : ℕ
  first = (r - 1) * node_words + 1

  pub numbers_long : length (row_numbers W r) ≡ numbers
  numbers_long = length-take-le numbers (drop first W) (omega (arith, length-drop first W, h.above, h.within))

  constant_is : get_or (row_numbers W r) levels_most (pos 0) ≡ node_word W r (levels_most + 1)
  constant_is =
      let e : first + levels_most ≡ (r - 1) * node_words + (levels_most + 1) = omega arith in
      get_or-take numbers (drop first W) levels_most (pos 0) (omega arith) ∙ get_or-drop first W levels_most (pos 0) ∙ ap (λ (k : ℕ). get_or W k (pos 0)) e

  -- a node's linear, by its numbers
  pub linear_is : node_linear W r ≡ record { coeffs = take levels_most (row_numbers W r); const = get_or (row_numbers W r) levels_most (pos 0) }
  unfolding node_linear
  linear_is = λ i. record { coeffs = sym (take-take levels_most numbers (drop first W) (omega arith)) i; const = sym constant_is i }

  pub numbers_small : smalls (row_numbers W r) ≡ small_linear (node_linear W r)
  unfolding small_linear node_linear
  numbers_small =
      words_more each_small W first levels_most ((r - 1) * node_words + (levels_most + 1)) (omega arith) (omega (arith, h.above, h.within))
      ∙ ap₂ ◌&&◌ (smalls_all (take levels_most (drop first W))) (sym (small_one (node_word W r (levels_most + 1))))

-- ---- the kind

-- by the number in the first word, and what the row of each kind says
abbrev by_number : ℕ → Bool → Bool → Bool → Bool → Kind
by_number k l c t o = if (eqb k 0) (if l Leaf Bad) (if (eqb k 1) (if c Condition Bad) (if (eqb k 2) (if t Test Bad) (if (eqb k 3) (if o None Bad) Bad)))

abbrev judge : ℤ → Bool → Bool → Bool → Bool → Bool
judge z l c t o = elim z [
  | pos k ↦ if (eqb k 0) l (if (eqb k 1) c (if (eqb k 2) t (if (eqb k 3) o false)))
  | negsuc k ↦ false
]

judge_is : (z : ℤ) (l c t o : Bool) → if (judge z l c t o) (kind_of (nat_abs z)) Bad ≡ by_number (kind_number z) l c t o
unfolding kind_number kind_of
judge_is (pos k) l c t o = go (eqb k 0) (eqb k 1) (eqb k 2) (eqb k 3)
  where
    go : (p q s u : Bool) → if (if p l (if q c (if s t (if u o false)))) (if p Leaf (if q Condition (if s Test None))) Bad ≡ if p (if l Leaf Bad) (if q (if c Condition Bad) (if s (if t Test Bad) (if u (if o None Bad) Bad)))
    go true q s u = refl
    go false true s u = refl
    go false false true u = refl
    go false false false true = refl
    go false false false false = refl
judge_is (negsuc k) l c t o = refl

module _ (n A : ℕ) (W : List ℤ) (r : ℕ) where
  pub none_at_zero : r ≡ 0 → Bad ≡ row_kind n A W r
  unfolding row_kind
  none_at_zero e = rw (eq-eqb r 0 e)

  pub none_outside : (r ≡ 0 → ⊥) → length W / node_words < r → Bad ≡ row_kind n A W r
  unfolding row_kind good_row
  none_outside z h = rw (ne_eqb r 0 z, lt-leb (r * node_words) (length W) (omega arith))

  -- by a number, with what the row says as each kind
  abbrev by_rows : ℕ → Kind
  by_rows k = by_number k (good_leaf_row A W r) (good_condition_row n W r) (good_test_row W r) (good_none_row W r)

  pub kind_inside : Inside W r → row_kind n A W r ≡ by_rows (kind_number (node_word W r 0))
  unfolding row_kind good_row
  kind_inside h = rw (ne_eqb r 0 (λ e. omega (arith, h.above)), le-leb (r * node_words) (length W) h.within)
      (judge_is (node_word W r 0) (good_leaf_row A W r) (good_condition_row n W r) (good_test_row W r) (good_none_row W r))

  -- what the code finds: inside the table, the number in the first word, and the row of its kind
  module _ (z : r ≡ 0 → ⊥) (b : r ≤ length W / node_words) {k : ℕ} (e : k ≡ kind_number (node_word W r 0)) where
    by_kind : by_rows k ≡ row_kind n A W r
    by_kind = ap by_rows e ∙ sym (kind_inside (record { above = omega arith; within = omega arith }))

    pub as_leaf : k ≡ 0 → {g : Bool} {j : Kind} → g ≡ good_leaf_row A W r → j ≡ if g Leaf Bad → j ≡ row_kind n A W r
    as_leaf p q s = s ∙ rw (q, ← by_kind, eq-eqb k 0 p)

    pub as_condition : (k ≡ 0 → ⊥) → k ≡ 1 → {g : Bool} {j : Kind} → g ≡ good_condition_row n W r → j ≡ if g Condition Bad → j ≡ row_kind n A W r
    as_condition p₀ p q s = s ∙ rw (q, ← by_kind, ne_eqb k 0 p₀, eq-eqb k 1 p)

    pub as_test : (k ≡ 0 → ⊥) → (k ≡ 1 → ⊥) → k ≡ 2 → {g : Bool} {j : Kind} → g ≡ good_test_row W r → j ≡ if g Test Bad → j ≡ row_kind n A W r
    as_test p₀ p₁ p q s = s ∙ rw (q, ← by_kind, ne_eqb k 0 p₀, ne_eqb k 1 p₁, eq-eqb k 2 p)

    pub as_none : (k ≡ 0 → ⊥) → (k ≡ 1 → ⊥) → (k ≡ 2 → ⊥) → k ≡ 3 → {g : Bool} {j : Kind} → g ≡ good_none_row W r → j ≡ if g None Bad → j ≡ row_kind n A W r
    as_none p₀ p₁ p₂ p q s = s ∙ rw (q, ← by_kind, ne_eqb k 0 p₀, ne_eqb k 1 p₁, ne_eqb k 2 p₂, eq-eqb k 3 p)

    pub as_bad : (k ≡ 0 → ⊥) → (k ≡ 1 → ⊥) → (k ≡ 2 → ⊥) → (k ≡ 3 → ⊥) → Bad ≡ row_kind n A W r
    as_bad p₀ p₁ p₂ p₃ = rw (← by_kind, ne_eqb k 0 p₀, ne_eqb k 1 p₁, ne_eqb k 2 p₂, ne_eqb k 3 p₃)
