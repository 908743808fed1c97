-- Tables that 14 does not apply to, whatever wrote them: their rows are diagrams, and what is read from them is what those come to.
use Rattle.std.specs.Prelude.{◌≡◌, Bool, ◌&&◌, List, [], ◌∷◌, leb, ℤ, negsuc, ◌*ℤ◌, length, take, drop}
use Rattle.std.proofs.Math.Path.{refl, sym, ap, ap₂, subst}
use Rattle.std.proofs.Common.{◌∙◌, ne_eqb, leb→le, eqb→eq, length-drop, length-take-le}
use Rattle.std.proofs.Math.Bool.{true, false}
use Prim.Native.Nat.{ℕ, zero, suc, ◌+◌, ◌-◌, ◌*◌, ◌≤◌, ◌<◌}
use native.Mathlib.Omega.{arith}
use Rattle.std.proofs.Math.Dec.{T, eqb}
use Rattle.std.proofs.Math.IntN.{pos, nat_abs, zero-*ℤ}
use Rattle.std.proofs.Math.ListN.{get_or}
use Rattle.std.specs.Int.Signed.{le_z}
use Rattle.whole.specs.Cases.{if, by_test, by_eq, both, and_in, is_true, from_true, clash}
use Rattle.whole.specs.Numerator.{words}
use Rattle.theory.specs.Widths.{levels_most, node_words}
use Rattle.theory.specs.Diagram.{now, linear, Leaf, some, forbidden, lin_of, act_of, Tree, leaf, branch, zeros}
use Rattle.theory.specs.Meaning.{Env, nth, env, value, holds, at, leaf_worth}
use Rattle.theory.specs.Valid.{all, all_nodes, among, small_linear, wide, good_test, stage_leaf}
use Rattle.theory.specs.Verdict.{or, from_to}
use Rattle.theory.specs.Value.{Asked, accepted, bits, state_of, node_word, node_linear, high_of, low_of, among_ℤ, good_branches, good_leaf_row}
use Rattle.theory.specs.Value.{good_condition_row, good_test_row, good_none_row, good_row, ends, numerator_of, taken, walk, ValueOut, refused_value, answered}
use Rattle.theory.specs.Value.{value_at}
use Rattle.prune_paths.specs.Prune.{leaf_at, test_at, high_at, low_at, tree_from}
use Rattle.theory.proofs.laws.Values.{if_ap, value_constant}
use Rattle.theory.proofs.laws.Fits.{zeros_each, each_zeros, part_word, part_each}
use Rattle.theory.proofs.laws.Nodes.{branch_good}
use Rattle.theory.proofs.laws.Valid.{among_out, wide_in}
use Rattle.theory.proofs.laws.Words.{StageGood, by_kind}
use Rattle.theory.proofs.laws.ValueWalk.{asked_env, value_asked}
use Rattle.theory.proofs.laws.Rows.{all_from}

-- ---- what a good row says

among_abs : (n : ℕ) (z : ℤ) → T (among_ℤ n z) → T (among n (nat_abs z))
unfolding among_ℤ among
among_abs n (pos k) t = t
among_abs n (negsuc k) t = absurd t

-- node r's words read as none: its action and all its numbers are 0
pub record Silent (W : List ℤ) (r : ℕ) : Type 0 where
  pub action : high_of W r ≡ pos 0
  pub flat : T (zeros (node_linear W r).coeffs)
  pub const : (node_linear W r).const ≡ pos 0

-- node r is a good leaf, or a good test over branches below it
pub data Seen (n A : ℕ) (W : List ℤ) (r : ℕ) : Type 0 where
  leaf_seen : ends (nat_abs (node_word W r 0)) ≡ true → T (stage_leaf A (leaf_at W r)) → (eqb (nat_abs (node_word W r 0)) 3 ≡ true → Silent W r) → Seen n A W r
  branch_seen : ends (nat_abs (node_word W r 0)) ≡ false → T (good_test n false (test_at W r)) → T (among (r - 1) (high_at W r)) → T (among (r - 1) (low_at W r)) → Seen n A W r

-- a kind is one number
other : (k i j : ℕ) → eqb k i ≡ true → (i ≡ j → ⊥) → eqb k j ≡ false
other k i j e d = ne_eqb k j (λ z. d (sym (eqb→eq k i (from_true e)) ∙ z))

module _ (n A : ℕ) (W : List ℤ) (r : ℕ) (a : 1 ≤ r) where
  row_wide : r * node_words ≤ length W → T (small_linear (node_linear W r)) → T (wide (node_linear W r))
  unfolding node_linear
  row_wide h t = wide_in (node_linear W r) (length-take-le levels_most (drop ((r - 1) * node_words + 1) W) (rw (length-drop ((r - 1) * node_words + 1) W) (omega arith))) t

  branches_seen : T (good_branches W r) → T (among (r - 1) (high_at W r)) × T (among (r - 1) (low_at W r))
  unfolding good_branches
  branches_seen t = let d = both (among_ℤ (r - 1) (high_of W r)) (among_ℤ (r - 1) (low_of W r)) t in (among_abs (r - 1) (high_of W r) d.0, among_abs (r - 1) (low_of W r) d.1)

  leaf_row : eqb (nat_abs (node_word W r 0)) 3 ≡ false → r * node_words ≤ length W → T (good_leaf_row A W r) → T (stage_leaf A (leaf_at W r))
  unfolding good_leaf_row stage_leaf leaf_at
  leaf_row z h t =
      let d = both (small_linear (node_linear W r)) (among_ℤ A (high_of W r) && zeros (low_of W r ∷ [])) t in
      let c = both (among_ℤ A (high_of W r)) (zeros (low_of W r ∷ [])) d.1 in
      subst (λ b. T (stage_leaf A (if b forbidden (some (node_linear W r) (high_at W r))))) (sym z)
      (and_in (wide (node_linear W r)) (among A (high_at W r)) (row_wide h d.0) (among_abs A (high_of W r) c.0))

  none_leaf : eqb (nat_abs (node_word W r 0)) 3 ≡ true → T (stage_leaf A (leaf_at W r))
  unfolding stage_leaf leaf_at
  none_leaf z = subst (λ b. T (stage_leaf A (if b forbidden (some (node_linear W r) (high_at W r))))) (sym z) tt

  -- "A leaf "none" has kind 3 .., all other words zero"
  none_row : T (good_none_row W r) → Silent W r
  unfolding good_none_row node_linear
  none_row t =
      let b = (r - 1) * node_words in
      let behind : (i : ℕ) → i < node_words - 1 → get_or W (b + 1 + i) (pos 0) ≡ pos 0 =
      λ i h. sym (part_word (node_words - 1) (b + 1) W i h) ∙ zeros_each (take (node_words - 1) (drop (b + 1) W)) t i in
      record {
        action = ap (λ (j : ℕ). get_or W j (pos 0)) (on b) ∙ behind (levels_most + 1) (omega arith);
        flat = each_zeros (take levels_most (drop (b + 1) W)) (part_each (λ z. z ≡ pos 0) refl levels_most (b + 1) W (λ i h. behind i (omega arith)));
        const = ap (λ (j : ℕ). get_or W j (pos 0)) (next b) ∙ behind levels_most (omega arith);
      }
    where
      on : (b : ℕ) → b + (levels_most + 2) ≡ b + 1 + (levels_most + 1)
      on b = omega arith

      next : (b : ℕ) → b + (levels_most + 1) ≡ b + 1 + levels_most
      next b = omega arith

  condition_row : ends (nat_abs (node_word W r 0)) ≡ false → eqb (nat_abs (node_word W r 0)) 1 ≡ true → T (good_condition_row n W r) → Seen n A W r
  unfolding good_condition_row test_at good_test
  condition_row z e t =
      let zs = zeros (take levels_most (drop ((r - 1) * node_words + 2) W)) in
      let d = both (among_ℤ n (node_word W r 1)) (zs && good_branches W r) t in
      let b = branches_seen (both zs (good_branches W r) d.1).1 in
      branch_seen z (subst (λ b. T (good_test n false (if b (now (nat_abs (node_word W r 1))) (linear (node_linear W r))))) (sym e) (among_abs n (node_word W r 1) d.0)) b.0 b.1

  test_row : ends (nat_abs (node_word W r 0)) ≡ false → eqb (nat_abs (node_word W r 0)) 1 ≡ false → r * node_words ≤ length W → T (good_test_row W r) → Seen n A W r
  unfolding good_test_row test_at good_test
  test_row z e h t =
      let d = both (small_linear (node_linear W r)) (good_branches W r) t in
      let b = branches_seen d.1 in
      branch_seen z (subst (λ b. T (good_test n false (if b (now (nat_abs (node_word W r 1))) (linear (node_linear W r))))) (sym e) (row_wide h d.0)) b.0 b.1

  kind_seen : (z : ℤ) → node_word W r 0 ≡ z → r * node_words ≤ length W → T (by_kind n A W r z) → Seen n A W r
  unfolding ends
  kind_seen (negsuc k) q h t = absurd t
  kind_seen (pos k) q h t =
      let is : (j : ℕ) → eqb (nat_abs (node_word W r 0)) j ≡ eqb k j = λ j. ap (λ (z : ℤ). eqb (nat_abs z) j) q in
      let none? = if (eqb k 3) (good_none_row W r) false in
      let test? = if (eqb k 2) (good_test_row W r) none? in
      let ending : (x y : Bool) → eqb k 0 ≡ x → eqb k 3 ≡ y → or (eqb (nat_abs (node_word W r 0)) 0) (eqb (nat_abs (node_word W r 0)) 3) ≡ or x y = λ x y e f. ap₂ or (is 0 ∙ e) (is 3 ∙ f) in
      by_eq (eqb k 0) (λ b. T (if b (good_leaf_row A W r) (if (eqb k 1) (good_condition_row n W r) test?)) → Seen n A W r)
      (λ e t. let three = other k 0 3 e (λ z. omega arith) in leaf_seen (ending true false e three) (leaf_row (is 3 ∙ three) h t) (λ w. clash (sym w ∙ (is 3 ∙ three))))
      (λ e. by_eq (eqb k 1) (λ b. T (if b (good_condition_row n W r) test?) → Seen n A W r)
      (λ f t. condition_row (ending false false e (other k 1 3 f (λ z. omega arith))) (is 1 ∙ f) t)
      (λ f. by_eq (eqb k 2) (λ b. T (if b (good_test_row W r) none?) → Seen n A W r)
      (λ g t. test_row (ending false false e (other k 2 3 g (λ z. omega arith))) (is 1 ∙ f) h t)
      (λ _. by_eq (eqb k 3) (λ b. T (if b (good_none_row W r) false) → Seen n A W r)
      (λ g t. leaf_seen (ending false true e g) (none_leaf (is 3 ∙ g)) (λ _. none_row t)) (λ _ t. absurd t)))) t

  pub seen : T (good_row n A W r) → Seen n A W r
  unfolding good_row
  seen t =
      let d = both (leb (r * node_words) (length W)) (by_kind n A W r (node_word W r 0)) t in
      kind_seen (node_word W r 0) refl (leb→le (r * node_words) (length W) d.0) d.1

-- ---- the diagrams of the rows

-- rows 1 to r are good
abbrev pub RowsGood : ℕ → ℕ → List ℤ → ℕ → Type 0
RowsGood n A W r = (i : ℕ) → 1 ≤ i → i ≤ r → T (good_row n A W i)

pub rows_good : (n A : ℕ) (W : List ℤ) (r : ℕ) → T (all (good_row n A W) (from_to 1 r)) → RowsGood n A W r
rows_good n A W r t i a b = all_from (good_row n A W) 1 r t i a (omega arith)

module _ (n A : ℕ) (W : List ℤ) where
  -- a row's diagram, from whether it is a leaf
  abbrev pub tree_by : ℕ → ℕ → Bool → Tree
  tree_by k r b = if b (leaf (leaf_at W r)) (branch (test_at W r) (tree_from k W (high_at W r)) (tree_from k W (low_at W r)))

  pub tree_good : (k r : ℕ) → 1 ≤ r → r ≤ k → RowsGood n A W r → StageGood n A (tree_from k W r)
  unfolding tree_from all_nodes
  tree_good zero r a h g = absurd (omega arith)
  tree_good (suc k) r a h g = go (seen n A W r a (g r a (omega arith))) (tree_good k)
    where
      go : Seen n A W r → ((r : ℕ) → 1 ≤ r → r ≤ k → RowsGood n A W r → StageGood n A (tree_from k W r)) → StageGood n A (tree_by k r (ends (nat_abs (node_word W r 0))))
      go (leaf_seen e t z) ih = subst (λ b. StageGood n A (tree_by k r b)) (sym e) t
      go (branch_seen e t x y) ih =
          let p = among_out (r - 1) (high_at W r) x in
          let q = among_out (r - 1) (low_at W r) y in
          subst (λ b. StageGood n A (tree_by k r b)) (sym e)
          (branch_good (good_test n false) (stage_leaf A) (test_at W r) (tree_from k W (high_at W r)) (tree_from k W (low_at W r)) t
          (ih (high_at W r) p.0 (omega arith) (λ i b l. g i b (omega arith))) (ih (low_at W r) q.0 (omega arith) (λ i b l. g i b (omega arith))))

  -- more steps than a row's number change nothing
  pub tree_enough : (k j r : ℕ) → 1 ≤ r → r ≤ k → r ≤ j → RowsGood n A W r → tree_from k W r ≡ tree_from j W r
  unfolding tree_from
  tree_enough zero j r a h l g = absurd (omega arith)
  tree_enough (suc k) zero r a h l g = absurd (omega arith)
  tree_enough (suc k) (suc j) r a h l g = go (seen n A W r a (g r a (omega arith))) (tree_enough k j)
    where
      go : Seen n A W r → ((r : ℕ) → 1 ≤ r → r ≤ k → r ≤ j → RowsGood n A W r → tree_from k W r ≡ tree_from j W r)
          → tree_by k r (ends (nat_abs (node_word W r 0))) ≡ tree_by j r (ends (nat_abs (node_word W r 0)))
      go (leaf_seen e t z) ih = subst (λ b. tree_by k r b ≡ tree_by j r b) (sym e) refl
      go (branch_seen e t x y) ih =
          let p = among_out (r - 1) (high_at W r) x in
          let q = among_out (r - 1) (low_at W r) y in
          subst (λ b. tree_by k r b ≡ tree_by j r b) (sym e)
          (ap₂ (branch (test_at W r)) (ih (high_at W r) p.0 (omega arith) (omega arith) (λ i b l. g i b (omega arith))) (ih (low_at W r) q.0 (omega arith) (omega arith) (λ i b l. g i b (omega arith))))

  -- ---- the walk reads them

  module _ (m : ℕ) (q : Asked) (ok : T (accepted m n q)) where
    abbrev e : Env
    e = asked_env m n q ok

    -- what is read at a leaf
    abbrev pub told : Leaf → ValueOut
    told f = answered (leaf_worth e f) (act_of f)

    holds_row : (r : ℕ) → holds e (test_at W r) ≡ if (eqb (nat_abs (node_word W r 0)) 1) (nth (bits n q.mask) (nat_abs (node_word W r 1))) (le_z (numerator_of q (node_linear W r)) (pos 0))
    unfolding test_at holds env state_of
    holds_row r = by_test (eqb (nat_abs (node_word W r 0)) 1)
        (λ b. holds e (if b (now (nat_abs (node_word W r 1))) (linear (node_linear W r))) ≡ if b (nth (bits n q.mask) (nat_abs (node_word W r 1))) (le_z (numerator_of q (node_linear W r)) (pos 0)))
        (λ _. refl) (λ _. ap (λ (z : ℤ). le_z z (pos 0)) (sym (value_asked m n q ok (node_linear W r))))

    taken_row : (r : ℕ) → taken n q W r ≡ if (holds e (test_at W r)) (high_at W r) (low_at W r)
    unfolding taken
    taken_row r =
        let high? = if (eqb (nat_abs (node_word W r 0)) 1) (nth (bits n q.mask) (nat_abs (node_word W r 1))) (le_z (numerator_of q (node_linear W r)) (pos 0)) in
        if_ap nat_abs high? (high_of W r) (low_of W r) ∙ ap (λ b. if b (high_at W r) (low_at W r)) (sym (holds_row r))

    leaf_told : (r : ℕ) → 1 ≤ r → (eqb (nat_abs (node_word W r 0)) 3 ≡ true → Silent W r) → value_at q W r ≡ told (leaf_at W r)
    unfolding value_at leaf_at answered leaf_worth act_of lin_of
    leaf_told r a silent =
        ap (λ (b : Bool). if b (refused_value 14 0) (record { number = 0; place = 0; action = nat_abs (high_of W r); numerator = words (numerator_of q (node_linear W r)) })) (ne_eqb r 0 (λ z. omega arith))
        ∙ ((λ i. record { number = 0; place = 0; action = nat_abs (high_of W r); numerator = words (value_asked m n q ok (node_linear W r) i) })
        ∙ by_eq (eqb (nat_abs (node_word W r 0)) 3)
        (λ b. record { number = 0; place = 0; action = nat_abs (high_of W r); numerator = words (value e (node_linear W r)) } ≡ told (if b forbidden (some (node_linear W r) (high_at W r))))
        (λ z. let s = silent z in
        λ i. record { number = 0; place = 0; action = nat_abs (s.action i); numerator = words ((value_constant e (node_linear W r) s.flat ∙ (ap (λ (c : ℤ). c *ℤ pos e.den) s.const ∙ zero-*ℤ (pos e.den))) i) })
        (λ _. refl))

    -- a step of the walk, from whether the node is good and whether it is a leaf
    abbrev turn : ℕ → ℕ → Bool → Bool → ℕ
    turn k r b z = elim b [
      | true ↦ if z r (walk n A q W k (taken n q W r))
      | false ↦ 0
    ]

    pub foreign_walk : (k r : ℕ) → 1 ≤ r → r ≤ k → RowsGood n A W r → value_at q W (walk n A q W k r) ≡ told (at e (tree_from k W r))
    unfolding tree_from walk at
    foreign_walk zero r a h g = absurd (omega arith)
    foreign_walk (suc k) r a h g = go (seen n A W r a (g r a (omega arith))) (foreign_walk k)
      where
        go : Seen n A W r → ((r : ℕ) → 1 ≤ r → r ≤ k → RowsGood n A W r → value_at q W (walk n A q W k r) ≡ told (at e (tree_from k W r)))
            → value_at q W (turn k r (good_row n A W r) (ends (nat_abs (node_word W r 0)))) ≡ told (at e (tree_by k r (ends (nat_abs (node_word W r 0)))))
        go (leaf_seen z t y) ih =
            ap₂ (λ x y. value_at q W (turn k r x y)) (is_true (good_row n A W r) (g r a (omega arith))) z
            ∙ (leaf_told r a y ∙ ap (λ b. told (at e (tree_by k r b))) (sym z))
        go (branch_seen z t x y) ih =
            let p = among_out (r - 1) (high_at W r) x in
            let o = among_out (r - 1) (low_at W r) y in
            ap₂ (λ x y. value_at q W (turn k r x y)) (is_true (good_row n A W r) (g r a (omega arith))) z
            ∙ (ap (λ (j : ℕ). value_at q W (walk n A q W k j)) (taken_row r)
            ∙ (by_test (holds e (test_at W r))
            (λ b. value_at q W (walk n A q W k (if b (high_at W r) (low_at W r))) ≡ told (if b (at e (tree_from k W (high_at W r))) (at e (tree_from k W (low_at W r)))))
            (λ _. ih (high_at W r) p.0 (omega arith) (λ i b l. g i b (omega arith)))
            (λ _. ih (low_at W r) o.0 (omega arith) (λ i b l. g i b (omega arith)))
            ∙ ap (λ b. told (at e (tree_by k r b))) (sym z)))
