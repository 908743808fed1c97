-- The walk: what a row's kind tells, one step, and the way down.
use mathlib.Core.Path.{◌≡◌, refl, sym, ap, ap₂, ◌∙◌, subst}
use mathlib.Core.Bool.{Bool, true, false, not, ◌&&◌}
use mathlib.Core.List.{List}
use Prim.Native.Nat.{ℕ, zero, suc, ◌+◌, ◌-◌, ◌*◌, ◌≤◌, ◌<◌}
use native.Mathlib.Omega.{arith}
use borrow.Author.Tests.{eq-eqb, ne_eqb, eqb-false}
use lib.Dec.{T, eqb, leb, leb→le, eqb→eq}
use lib.IntN.{ℤ, pos, negsuc, nat_abs}
use lib.ListN.{length, take, drop}
use lib.Signed.{le_z}
use Rattle.whole.specs.Cases.{if, by_test, both, from_true}
use Rattle.theory.specs.Widths.{levels_most, node_words}
use Rattle.theory.specs.Diagram.{zeros}
use Rattle.theory.specs.Meaning.{nth}
use Rattle.theory.specs.Value.{Asked, bits, node_word, node_linear, high_of, low_of, among_ℤ, good_branches, good_leaf_row, good_condition_row, good_test_row, good_none_row, good_row, numerator_of, taken, ends as of-leaf, walk}
use Rattle.theory.proofs.laws.Fits.{node_fits, leaf_small, leaf_most}
use Rattle.theory.specs.Valid.{small_linear}
use Rattle.table_rows.specs.declared.Kind.{Kind}
use Rattle.table_rows.specs.declared.Kind.TheVariants.{Leaf, Condition, Test, None, Bad}
use Rattle.table_rows.specs.Row.{Inside, kind_of, row_kind}
use Rattle.value_walk.specs.Step.{step_by, step_of, Ends}

is_true : (b : Bool) → T b → b ≡ true
is_true true t = refl
is_true false t = absurd t

is_false : (b : Bool) → T (not b) → b ≡ false
is_false true t = absurd t
is_false false t = refl

-- ---- what a row's kind tells

module _ (n A : ℕ) (W : List ℤ) (r : ℕ) where
  -- a good row whose first word says k, with what such a row keeps
  pub record Good (k : ℕ) (row : Bool) : Type 0 where
    pub inside : Inside W r
    pub good : good_row n A W r ≡ true
    pub kind : nat_abs (node_word W r 0) ≡ k
    pub keeps : T row

  abbrev pub Told : Kind → Type 0
  Told Leaf = Good 0 (good_leaf_row A W r)
  Told Condition = Good 1 (good_condition_row n W r)
  Told Test = Good 2 (good_test_row W r)
  Told None = Good 3 (good_none_row W r)
  Told Bad = (r ≡ 0 → ⊥) → good_row n A W r ≡ false

  abbrev judge : ℤ → Bool
  judge z = elim z [
    | pos k ↦ if (eqb k 0) (good_leaf_row A W r) (if (eqb k 1) (good_condition_row n W r) (if (eqb k 2) (good_test_row W r) (if (eqb k 3) (good_none_row W r) false)))
    | negsuc k ↦ false
  ]

  -- a row that the number in its first word judges good
  by_first : (z : ℤ) → node_word W r 0 ≡ z → Inside W r → good_row n A W r ≡ true → T (judge z) → Told (kind_of (nat_abs z))
  unfolding kind_of
  by_first (negsuc k) e h g = λ t. absurd t
  by_first (pos k) e h g = by_test (eqb k 0) (λ b. T (if b (good_leaf_row A W r)
      (if (eqb k 1) (good_condition_row n W r) (if (eqb k 2) (good_test_row W r) (if (eqb k 3) (good_none_row W r) false)))) → Told
      (if b Leaf (if (eqb k 1) Condition (if (eqb k 2) Test None))))
      (λ t₀ t. record { inside = h; good = g; kind = ap nat_abs e ∙ eqb→eq k 0 t₀; keeps = t })
      (λ _. by_test (eqb k 1) (λ b. T (if b (good_condition_row n W r) (if (eqb k 2) (good_test_row W r) (if (eqb k 3) (good_none_row W r) false))) → Told (if b Condition (if (eqb k 2) Test None)))
      (λ t₁ t. record { inside = h; good = g; kind = ap nat_abs e ∙ eqb→eq k 1 t₁; keeps = t })
      (λ _. by_test (eqb k 2) (λ b. T (if b (good_test_row W r) (if (eqb k 3) (good_none_row W r) false)) → Told (if b Test None))
      (λ t₂ t. record { inside = h; good = g; kind = ap nat_abs e ∙ eqb→eq k 2 t₂; keeps = t })
      (λ _. by_test (eqb k 3) (λ b. T (if b (good_none_row W r) false) → Told None)
      (λ t₃ t. record { inside = h; good = g; kind = ap nat_abs e ∙ eqb→eq k 3 t₃; keeps = t })
      (λ _ t. absurd t))))

  parts : T (good_row n A W r) → T (leb (r * node_words) (length W)) × T (judge (node_word W r 0))
  unfolding good_row
  parts t = both (leb (r * node_words) (length W)) (judge (node_word W r 0)) t

  told_good : (r ≡ 0 → ⊥) → T (good_row n A W r) → Told (kind_of (nat_abs (node_word W r 0)))
  told_good z t =
      let p = parts t in
      by_first (node_word W r 0) refl (record { above = omega arith; within = leb→le (r * node_words) (length W) p.0 }) (is_true (good_row n A W r) t) p.1

  pub told : Told (row_kind n A W r)
  unfolding row_kind
  told = by_test (eqb r 0) (λ b. Told (if b Bad (if (good_row n A W r) (kind_of (nat_abs (node_word W r 0))) Bad)))
      (λ t z. absurd (z (eqb→eq r 0 t)))
      (λ t₀. by_test (good_row n A W r) (λ b. Told (if b (kind_of (nat_abs (node_word W r 0))) Bad))
      (λ t. told_good (λ e. eqb-false r 0 (is_false (eqb r 0) t₀) e) t)
      (λ t z. is_false (good_row n A W r) t))

  -- what the code's answer tells
  pub tells : {k : Kind} → k ≡ row_kind n A W r → (o : Kind) → k ≡ o → Told o
  tells e o p = subst Told (sym e ∙ p) told

-- ---- branches

pub among_abs : (n : ℕ) (z : ℤ) → T (among_ℤ n z) → (1 ≤ nat_abs z) × (nat_abs z ≤ n)
unfolding among_ℤ
among_abs n (pos k) t = let p = both (leb 1 k) (leb k n) t in (leb→le 1 k p.0, leb→le k n p.1)
among_abs n (negsuc k) t = absurd t

-- either branch is from 1 to below its node
branch_below : (W : List ℤ) (r : ℕ) → T (good_branches W r) → (b : Bool) → (1 ≤ nat_abs (if b (high_of W r) (low_of W r))) × (nat_abs (if b (high_of W r) (low_of W r)) ≤ r - 1)
unfolding good_branches
branch_below W r t b = go b
  where
    p : T (among_ℤ (r - 1) (high_of W r)) × T (among_ℤ (r - 1) (low_of W r))
    p = both (among_ℤ (r - 1) (high_of W r)) (among_ℤ (r - 1) (low_of W r)) t

    go : (b : Bool) → (1 ≤ nat_abs (if b (high_of W r) (low_of W r))) × (nat_abs (if b (high_of W r) (low_of W r)) ≤ r - 1)
    go true = among_abs (r - 1) (high_of W r) p.0
    go false = among_abs (r - 1) (low_of W r) p.1

module _ (n : ℕ) (q : Asked) (W : List ℤ) (r : ℕ) where
  pub taken_below : T (good_branches W r) → (1 ≤ taken n q W r) × (taken n q W r ≤ r - 1)
  unfolding taken
  taken_below t = branch_below W r t (if (eqb (nat_abs (node_word W r 0)) 1) (nth (bits n q.mask) (nat_abs (node_word W r 1))) (le_z (numerator_of q (node_linear W r)) (pos 0)))

  pub taken_condition : nat_abs (node_word W r 0) ≡ 1 → {b : Bool} → b ≡ nth (bits n q.mask) (nat_abs (node_word W r 1)) → nat_abs (if b (high_of W r) (low_of W r)) ≡ taken n q W r
  unfolding taken
  taken_condition k e = rw (e, eq-eqb (nat_abs (node_word W r 0)) 1 k)

  pub taken_test : nat_abs (node_word W r 0) ≡ 2 → {b : Bool} → b ≡ le_z (numerator_of q (node_linear W r)) (pos 0) → nat_abs (if b (high_of W r) (low_of W r)) ≡ taken n q W r
  unfolding taken
  taken_test k e = rw (e, ne_eqb (nat_abs (node_word W r 0)) 1 (λ f. omega arith))

-- the branches of a condition and of a test
pub condition_branches : (n : ℕ) (W : List ℤ) (r : ℕ) → T (good_condition_row n W r) → T (among_ℤ n (node_word W r 1)) × T (good_branches W r)
unfolding good_condition_row
condition_branches n W r t =
    let z = zeros (take levels_most (drop ((r - 1) * node_words + 2) W)) in
    let p = both (among_ℤ n (node_word W r 1)) (z && good_branches W r) t in
    (p.0, (both z (good_branches W r) p.1).1)

pub test_branches : (W : List ℤ) (r : ℕ) → T (good_test_row W r) → T (small_linear (node_linear W r)) × T (good_branches W r)
unfolding good_test_row
test_branches W r t = both (small_linear (node_linear W r)) (good_branches W r) t

-- ---- one step

module _ (n A : ℕ) (q : Asked) (W : List ℤ) (r : ℕ) where
  pub step_is : {k : Kind} → k ≡ row_kind n A W r → (o : Kind) → k ≡ o → step_by o r (taken n q W r) ≡ step_of n A q W r
  unfolding step_of
  step_is e o p = ap (λ (k : Kind). step_by k r (taken n q W r)) (sym p ∙ e)

-- ---- the way down

module _ (n A : ℕ) (q : Asked) (W : List ℤ) where
  -- one step, by whether the row is good and whether it is a leaf's
  abbrev one : ℕ → ℕ → Bool → Bool → ℕ
  one k r good leaf = elim good [ true ↦ if leaf r (walk n A q W k (taken n q W r)) | false ↦ 0 ]

  walk_by : (k r : ℕ) {good leaf : Bool} → good_row n A W r ≡ good → of-leaf (nat_abs (node_word W r 0)) ≡ leaf → walk n A q W (suc k) r ≡ one k r good leaf
  unfolding walk
  walk_by k r g e = ap₂ (one k r) g e

  walk_bad : (k r : ℕ) → good_row n A W r ≡ false → walk n A q W (suc k) r ≡ 0
  walk_bad k r g = walk_by k r g refl

  walk_none : (r : ℕ) → walk n A q W 0 r ≡ 0
  unfolding walk
  walk_none r = refl

  -- a walk that has come to r, with the node that follows, and steps enough left
  pub record Along (root r below : ℕ) : Type 0 where
    pub follows : below ≡ step_of n A q W r
    pub left : ℕ
    pub enough : r ≤ left
    pub none : r ≡ 0 → left ≡ 0
    pub same : walk n A q W left r ≡ walk n A q W root root

  pub begins : (root : ℕ) {below : ℕ} → below ≡ step_of n A q W root → Along root root below
  begins root e = record { follows = e; left = root; enough = omega arith; none = λ z. z; same = refl }

  -- what each kind of node does to a walk
  module _ (root r below : ℕ) (w : Along root r below) where
    goes : (o : Kind) → row_kind n A W r ≡ o → below ≡ step_by o r (taken n q W r)
    unfolding step_of
    goes o e = w.follows ∙ ap (λ (k : Kind). step_by k r (taken n q W r)) e

    -- through a good node that is no leaf
    through : (k : ℕ) → of-leaf k ≡ false → {row : Bool} → Good n A W r k row → T (good_branches W r) → below ≡ taken n q W r → (below < r) × ((next : ℕ) → next ≡ step_of n A q W below → Along root below next)
    through k z g t e =
        let b = taken_below n q W r t in
        let h = g.inside.above in (
          omega arith,
          λ next f. record {
            follows = f;
            left = w.left - 1;
            enough = omega (arith, w.enough);
            none = λ y. absurd (omega arith);
            same = ap (walk n A q W (w.left - 1)) e ∙ sym (walk_by (w.left - 1) r g.good (ap of-leaf g.kind ∙ z)) ∙ ap (λ (j : ℕ). walk n A q W j r) (omega (arith, w.enough)) ∙ w.same;
          },
        )

    by_kind : (o : Kind) → row_kind n A W r ≡ o → Told n A W r o → (below ≡ r → ⊥) → (below < r) × ((next : ℕ) → next ≡ step_of n A q W below → Along root below next)
    unfolding of-leaf
    by_kind Leaf e t z = absurd (z (goes Leaf e))
    by_kind Condition e t z = through 1 refl t (condition_branches n W r t.keeps).1 (goes Condition e)
    by_kind Test e t z = through 2 refl t (test_branches W r t.keeps).1 (goes Test e)
    by_kind None e t z = absurd (z (goes None e))
    by_kind Bad e t z =
        let b : below ≡ 0 = goes Bad e in
        let g : good_row n A W r ≡ false = t (λ y. z (b ∙ sym y)) in
        let p : 0 < r = positive r (λ y. z (b ∙ sym y)) in (
          omega arith,
          λ next f. record {
            follows = f;
            left = 0;
            enough = omega arith;
            none = λ y. refl;
            same = walk_none below ∙ sym (walk_bad (w.left - 1) r g) ∙ ap (λ (j : ℕ). walk n A q W j r) (omega (arith, w.enough)) ∙ w.same;
          },
        )
      where
        positive : (r : ℕ) → (r ≡ 0 → ⊥) → 0 < r
        positive r h = omega arith

    pub goes_below : (below ≡ r → ⊥) → below < r
    goes_below z = (by_kind (row_kind n A W r) refl (told n A W r) z).0

    pub goes_on : (below ≡ r → ⊥) → {next : ℕ} → next ≡ step_of n A q W below → Along root below next
    goes_on z {next} e = (by_kind (row_kind n A W r) refl (told n A W r) z).1 next e

    -- at a good node that is a leaf
    stays : (k : ℕ) → of-leaf k ≡ true → {row : Bool} → Good n A W r k row → r ≡ walk n A q W root root
    stays k z g =
        let h = g.inside.above in
        let m : suc (w.left - 1) ≡ w.left = omega (arith, w.enough) in
        sym (walk_by (w.left - 1) r g.good (ap of-leaf g.kind ∙ z)) ∙ ap (λ (j : ℕ). walk n A q W j r) m ∙ w.same

    end_by : (o : Kind) → row_kind n A W r ≡ o → Told n A W r o → below ≡ r → r ≡ walk n A q W root root
    unfolding of-leaf
    end_by Leaf e t z = stays 0 refl t
    end_by None e t z = stays 3 refl t
    end_by Condition e t z = absurd (let b = taken_below n q W r (condition_branches n W r t.keeps).1 in let h = t.inside.above in let g = goes Condition e in omega arith)
    end_by Test e t z = absurd (let b = taken_below n q W r (test_branches W r t.keeps).1 in let h = t.inside.above in let g = goes Test e in omega arith)
    end_by Bad e t z =
        let b : r ≡ 0 = sym z ∙ goes Bad e in
        b ∙ sym (walk_none r) ∙ ap (λ (j : ℕ). walk n A q W j r) (sym (w.none b)) ∙ w.same

    pub ends : below ≡ r → r ≡ walk n A q W root root
    ends z = end_by (row_kind n A W r) refl (told n A W r) z

  -- ---- where a walk ends

  leaf_ends : (r : ℕ) → good_row n A W r ≡ true → of-leaf (nat_abs (node_word W r 0)) ≡ true → Ends A W r
  leaf_ends r g k =
      let f = node_fits n A W r (from_true g) in
      record { inside = λ z. record { above = omega arith; within = f.inside }; small = λ _. leaf_small n A W r f (from_true k); action = λ _. leaf_most n A W r f (from_true k) }

  zero_ends : Ends A W 0
  zero_ends = record { inside = λ z. absurd (z refl); small = λ z. absurd (z refl); action = λ z. absurd (z refl) }

  walk_ends : (k r : ℕ) → Ends A W (walk n A q W k r)
  unfolding walk
  walk_ends zero r = zero_ends
  walk_ends (suc k) r = go (good_row n A W r) refl (of-leaf (nat_abs (node_word W r 0))) refl (walk_ends k (taken n q W r))
    where
      go : (b : Bool) → good_row n A W r ≡ b → (d : Bool) → of-leaf (nat_abs (node_word W r 0)) ≡ d → Ends A W (walk n A q W k (taken n q W r)) → Ends A W (one k r b d)
      go true g true e h = leaf_ends r g e
      go true g false e h = h
      go false g d e h = zero_ends

  pub ended : (k r : ℕ) {s : ℕ} → s ≡ walk n A q W k r → Ends A W s
  ended k r e = rw e (walk_ends k r)
