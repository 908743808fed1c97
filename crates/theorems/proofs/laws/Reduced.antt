-- The words of a solved table are ordered and reduced: each row is a node of the stages, and those are.
use Rattle.std.specs.Prelude.{◌≡◌, ◌⊎◌, true, false, ℤ, nat_abs, length, take, drop, replicate, ◌<ℤ◌}
use Rattle.std.proofs.Math.Path.{refl, ap}
use Rattle.std.proofs.Common.{sym, ap₂, ◌∙◌, subst, ⊎_elim, lt→ltb, get_or-take, get_or-drop, ext_get_or}
use Rattle.std.proofs.Math.Logic.{inl, inr}
use mathlib.Core.List.Memᴰ
use mathlib.Core.List.{List, [], ◌∷◌, ◌++◌, Memᴰ}
use Prim.Native.Nat.{ℕ, suc, ◌+◌, ◌-◌, ◌*◌, ◌<◌, Ordering}
use native.Mathlib.Omega.{arith}
use Rattle.std.proofs.Math.Dec.{T, compare_is_eq}
use Rattle.std.proofs.Math.IntN.{pos}
use Rattle.std.proofs.Math.ListN.{get_or}
use Rattle.std.proofs.Math.Seq.{take_at}
use Rattle.std.proofs.lemmas.List.{take-append-le}
use Rattle.std.specs.Int.Signed.{lt_z}
use Rattle.whole.specs.Cases.{if, by_test, clash, and_in}
use Rattle.theory.specs.Widths.{levels_most, node_words}
use Rattle.theory.specs.Diagram.{Linear, Test, now, later, linear, Leaf, some, forbidden, lin_of, act_of, Tree, leaf, branch, then, cmp_ℤ, cmp_list, cmp_linear, cmp, padded}
use Rattle.theory.specs.Computation.{member, enter, enter_all}
use Rattle.theory.specs.Rules.{parallel, zero_leaf}
use Rattle.theory.specs.Valid.{all, all_nodes, good_test, stage_leaf}
use Rattle.theory.specs.Solve.{number_of, test_words, leaf_kind, row, rows, table_of, solved_nodes}
use Rattle.theory.specs.Value.{node_word, node_linear, high_of, low_of}
use Rattle.theory.specs.Rows.{Range}
use Rattle.theory.proofs.laws.Comps.{cmp_ℤ_eq, cmp_list_refl, member_cases, member_in}
use Rattle.theory.proofs.laws.Nodes.{parts, leaf_of}
use Rattle.theory.proofs.laws.Rules.{all_each}
use Rattle.theory.proofs.laws.Valid.{Long, wide_long, stage_wide}
use Rattle.theory.proofs.laws.Table.{number_below, number_above, number_entry, TreeTable, table_of_table}
use Rattle.theory.proofs.laws.Words.{StageGood, padded_full, test_length, row_length, Shows, laid, node_has, leaf_shows, condition_shows, test_shows}
use Rattle.theorems.specs.Ordered.{before, Above, ApartFrom, Ordered, AllOrdered}
use Rattle.theorems.specs.Reduced.{Smaller, test_part, Inner, Parallel, Reduced, IsTest}
use Rattle.theorems.proofs.laws.Order.{lt, gt_lt, lt_of, lt_is, below, is_eq}

-- ---- the order of tests, by their words

numbers_rise : (a b : List ℤ) (x y : ℤ) → length a ≡ length b → then (cmp_list a b) (cmp_ℤ x y) ≡ lt → Smaller (a ++ (x ∷ [])) (b ++ (y ∷ []))
unfolding cmp_list
numbers_rise [] [] x y n e = inl (below x y e)
numbers_rise [] (d ∷ b) x y n e = absurd (omega arith)
numbers_rise (c ∷ a) [] x y n e = absurd (omega arith)
numbers_rise (c ∷ a) (d ∷ b) x y n e = go (cmp_ℤ c d) refl e (numbers_rise a b x y (omega arith))
  where
    go : (o : Ordering) → cmp_ℤ c d ≡ o → then (then o (cmp_list a b)) (cmp_ℤ x y) ≡ lt → (then (cmp_list a b) (cmp_ℤ x y) ≡ lt → Smaller (a ++ (x ∷ [])) (b ++ (y ∷ [])))
        → (c <ℤ d) ⊎ ((c ≡ d) × Smaller (a ++ (x ∷ [])) (b ++ (y ∷ [])))
    go Ordering.lt q e ih = inl (below c d q)
    go Ordering.eq q e ih = inr (cmp_ℤ_eq c d (rw q tt), ih e)
    go Ordering.gt q e ih = absurd (gt_lt e)

-- a test that comes before another has smaller words
words_rise : (n : ℕ) (t u : Test) → T (good_test n false t) → T (good_test n false u) → T (before t u) → Smaller (test_words t) (test_words u)
unfolding good_test before cmp test_words padded cmp_linear
words_rise n (now i) (now j) a b e = inr (refl, inl (record { lt = lt→ltb i j (lt_of i j (lt_is _ e)) }))
words_rise n (now i) (linear q) a b e = inl (record { lt = tt })
words_rise n (linear p) (now j) a b e = absurd e
words_rise n (linear p) (linear q) a b e = inr (
  refl,
  rw (padded_full levels_most p.coeffs (wide_long p a), padded_full levels_most q.coeffs (wide_long q b))
      (numbers_rise p.coeffs q.coeffs p.const q.const (wide_long p a ∙ sym (wide_long q b)) (lt_is _ e)),
)
words_rise n (later i) u a b e = absurd a
words_rise n (now i) (later j) a b e = absurd b
words_rise n (linear p) (later j) a b e = absurd b

-- ---- a table whose nodes are ordered, and good with n conditions and A actions

pos_same : (a b : ℕ) → pos a ≡ pos b → a ≡ b
pos_same a b e = ap nat_abs e

-- each number from 1 on is a node's
pub node_numbered : (X : List Tree) → TreeTable X → (r : ℕ) → Range 1 (length X) r → (u : Tree) × ((member u X ≡ true) × (number_of u X ≡ r))
node_numbered X x r h =
    let u = get_or X (r - 1) zero_leaf in
    let m = member_in zero_leaf u X (r - 1) (omega (arith, h.0, h.1)) refl in
    let a = number_above u X m in
    let e = x.distinct (number_of u X - 1) (r - 1) (omega (arith, number_below u X)) (omega (arith, h.0, h.1)) (number_entry zero_leaf u X m) in
    (u, (m, omega (arith, h.0)))

module _ (n A : ℕ) (X : List Tree) (tail : List ℤ) (x : TreeTable X) (nice : (u : Tree) → member u X ≡ true → Ordered u × StageGood n A u) where
  abbrev W : List ℤ
  W = laid X tail

  abbrev num : Tree → ℕ
  num t = number_of t X

  node_at : (r : ℕ) → Range 1 (length X) r → (u : Tree) × ((member u X ≡ true) × (num u ≡ r))
  node_at = node_numbered X x

  -- nodes with one number are one
  number_one : (u v : Tree) → member u X ≡ true → member v X ≡ true → num u ≡ num v → u ≡ v
  number_one u v m k e = sym (number_entry zero_leaf u X m) ∙ (ap (λ (i : ℕ). get_or X (i - 1) zero_leaf) e ∙ number_entry zero_leaf v X k)

  test_good : (t : Test) (h l : Tree) → member (branch t h l) X ≡ true → T (good_test n false t)
  test_good t h l m = (parts (good_test n false) (stage_leaf A) t h l (nice (branch t h l) m).1).0

  -- what stands in a branch's row
  record Branch (t : Test) (h l : Tree) : Type 0 where
    inner : Inner W (num (branch t h l))
    high : high_of W (num (branch t h l)) ≡ pos (num h)
    low : low_of W (num (branch t h l)) ≡ pos (num l)
    test : test_part W (num (branch t h l)) ≡ test_words t

  row_test : (t : Test) (h l : Tree) → member (branch t h l) X ≡ true → test_part W (num (branch t h l)) ≡ test_words t
  unfolding row
  row_test t h l m =
      let a = node_has X tail (branch t h l) m in
      ap (take (levels_most + 2)) a.is ∙ (take-append-le (levels_most + 2) (row X (branch t h l)) a.rest (omega (arith, row_length X (branch t h l)))
      ∙ take_at (test_words t) (pos (num h) ∷ pos (num l) ∷ []) (levels_most + 2) (test_length t))

  no_leaf : (k : ℕ) (z : ℤ) → (k ≡ 1) ⊎ (k ≡ 2) → z ≡ pos k → (z ≡ pos 0) ⊎ (z ≡ pos 3) → ⊥
  no_leaf k z a e = ⊎_elim (λ f. let i : k ≡ 0 = ap nat_abs (sym e ∙ f) in ⊎_elim (λ b. omega arith) (λ b. omega arith) a) (λ f. let i : k ≡ 3 = ap nat_abs (sym e ∙ f) in ⊎_elim (λ b. omega arith) (λ b. omega arith) a)

  branch_row : (t : Test) (h l : Tree) → member (branch t h l) X ≡ true → T (good_test n false t) → Branch t h l
  unfolding good_test
  branch_row (now k) h l m g = let s = condition_shows X tail k h l m in record { inner = no_leaf 1 _ (inl refl) s.kind; high = s.high; low = s.low; test = row_test (now k) h l m }
  branch_row (later k) h l m g = absurd g
  branch_row (linear p) h l m g = let s = test_shows X tail p h l m g in record { inner = no_leaf 2 _ (inr refl) s.kind; high = s.high; low = s.low; test = row_test (linear p) h l m }

  leaf_row : (f : Leaf) → member (leaf f) X ≡ true → Shows W (num (leaf f)) (leaf_kind f) (lin_of f) (pos (act_of f)) (pos 0)
  leaf_row f m = leaf_shows X tail f m (stage_wide A f (leaf_of (good_test n false) (stage_leaf A) f (nice (leaf f) m).1))

  leaf_is : (f : Leaf) → member (leaf f) X ≡ true → (node_word W (num (leaf f)) 0 ≡ pos 0) ⊎ (node_word W (num (leaf f)) 0 ≡ pos 3)
  unfolding leaf_kind
  leaf_is (some p a) m = inl (leaf_row (some p a) m).kind
  leaf_is forbidden m = inr (leaf_row forbidden m).kind

  -- ---- "Down a path the order rises strictly."

  under : (t : Test) (h l : Tree) → member (branch t h l) X ≡ true → (c : Tree) → member c X ≡ true → Above t c → Inner W (num c) → Smaller (test_part W (num (branch t h l))) (test_part W (num c))
  under t h l m (leaf f) k a i = absurd (i (leaf_is f k))
  under t h l m (branch u p q) k a i = rw (row_test t h l m, row_test u p q k)
      (words_rise n t u (test_good t h l m) (test_good u p q k) (parts (before t) (λ _. true) u p q a).0)

  rises_at : (u : Tree) → member u X ≡ true → (b : ℕ) → Inner W (num u) → (high_of W (num u) ≡ pos b) ⊎ (low_of W (num u) ≡ pos b) → Inner W b → Smaller (test_part W (num u)) (test_part W b)
  rises_at (leaf f) m b i d k = absurd (i (leaf_is f m))
  rises_at (branch t h l) m b i d k =
      let r = branch_row t h l m (test_good t h l m) in
      let c = x.closed t h l m in
      let o = (nice (branch t h l) m).0 in
      ⊎_elim
      (λ e. let j = pos_same (num h) b (sym r.high ∙ e) in subst (λ (b : ℕ). Inner W b → Smaller (test_part W (num (branch t h l))) (test_part W b)) j (under t h l m h c.high_in o.0) k)
      (λ e. let j = pos_same (num l) b (sym r.low ∙ e) in subst (λ (b : ℕ). Inner W b → Smaller (test_part W (num (branch t h l))) (test_part W b)) j (under t h l m l c.low_in o.1.0) k)
      d

  -- ---- "A node whose branches are equal is that branch."

  differ_at : (u : Tree) → member u X ≡ true → Inner W (num u) → high_of W (num u) ≡ low_of W (num u) → ⊥
  differ_at (leaf f) m i e = i (leaf_is f m)
  differ_at (branch t h l) m i e =
      let r = branch_row t h l m (test_good t h l m) in
      let c = x.closed t h l m in
      (nice (branch t h l) m).0.1.1.0.0 (number_one h l c.high_in c.low_in (pos_same (num h) (num l) (sym r.high ∙ e ∙ r.low)))

  -- ---- no low branch is parallel to its node

  leaf_no_test : (f : Leaf) → member (leaf f) X ≡ true → IsTest W (num (leaf f)) → ⊥
  leaf_no_test f m e = no_leaf 2 _ (inr refl) e (leaf_is f m)

  other_kind : (i j : ℕ) (z : ℤ) → (i ≡ j → ⊥) → z ≡ pos i → z ≡ pos j → ⊥
  other_kind i j z n e f = n (pos_same i j (sym e ∙ f))

  parallel_in : (t u : Test) (h l p q : Tree) → member (branch t h l) X ≡ true → member (branch u p q) X ≡ true → T (good_test n false t) → T (good_test n false u)
      → Parallel W (num (branch t h l)) (num (branch u p q)) → T (parallel t u)
  unfolding good_test parallel
  parallel_in (now i) u h l p q m k a b d = absurd (other_kind 1 2 _ (λ e. omega arith) (condition_shows X tail i h l m).kind d.tests.0)
  parallel_in (later i) u h l p q m k a b d = absurd a
  parallel_in (linear y) (now j) h l p q m k a b d = absurd (other_kind 1 2 _ (λ e. omega arith) (condition_shows X tail j p q k).kind d.tests.1)
  parallel_in (linear y) (later j) h l p q m k a b d = absurd b
  parallel_in (linear y) (linear z) h l p q m k a b d =
      let e = (test_shows X tail y h l m a).numbers in
      let f = (test_shows X tail z p q k b).numbers in
      and_in (compare_is_eq (cmp_list y.coeffs z.coeffs)) (lt_z y.const z.const)
      (is_eq (ap (cmp_list y.coeffs) (ap (λ (x : Linear). x.coeffs) (sym f) ∙ (sym d.coefficients ∙ ap (λ (x : Linear). x.coeffs) e)) ∙ cmp_list_refl y.coeffs))
      (subst (λ (x : Linear). T (lt_z x.const z.const)) e (subst (λ (x : Linear). T (lt_z (node_linear W (num (branch (linear y) h l))).const x.const)) f d.larger.lt))

  low_at : (t : Test) (h l : Tree) → member (branch t h l) X ≡ true → (c : Tree) → member c X ≡ true → ApartFrom t c → Parallel W (num (branch t h l)) (num c) → ⊥
  low_at t h l m (leaf f) k a d = leaf_no_test f k d.tests.1
  low_at t h l m (branch u p q) k a d = a (parallel_in t u h l p q m k (test_good t h l m) (test_good u p q k) d)

  apart_at : (u : Tree) → member u X ≡ true → (b : ℕ) → low_of W (num u) ≡ pos b → Parallel W (num u) b → ⊥
  apart_at (leaf f) m b e d = leaf_no_test f m d.tests.0
  apart_at (branch t h l) m b e d =
      let r = branch_row t h l m (test_good t h l m) in
      let c = x.closed t h l m in
      let j = pos_same (num l) b (sym r.low ∙ e) in
      low_at t h l m l c.low_in (nice (branch t h l) m).0.1.1.0.1 (subst (Parallel W (num (branch t h l))) (sym j) d)

  -- ---- "Equal nodes are one node."

  -- the same words
  abbrev Same : ℕ → ℕ → Type 0
  Same r s = (i : ℕ) → i < node_words → node_word W r i ≡ node_word W s i

  linear_same : (r s : ℕ) (p q : Linear) → Long p → Long q → node_linear W r ≡ p → node_linear W s ≡ q → Same r s → p ≡ q
  unfolding node_linear
  linear_same r s p q a b e f d = λ i. record { coeffs = coeffs i; const = (sym (ap (λ (y : Linear). y.const) e) ∙ (d (levels_most + 1) (omega arith) ∙ ap (λ (y : Linear). y.const) f)) i }
    where
      word : (r : ℕ) (p : Linear) → node_linear W r ≡ p → (i : ℕ) → i < levels_most → get_or p.coeffs i (pos 0) ≡ node_word W r (suc i)
      word r p e i h =
          ap (λ (y : Linear). get_or y.coeffs i (pos 0)) (sym e)
          ∙ (get_or-take levels_most (drop ((r - 1) * node_words + 1) W) i (pos 0) h
          ∙ (get_or-drop ((r - 1) * node_words + 1) W i (pos 0) ∙ ap (λ (j : ℕ). get_or W j (pos 0)) (next ((r - 1) * node_words) i)))
        where
          next : (b i : ℕ) → b + 1 + i ≡ b + suc i
          next b i = omega arith

      coeffs : p.coeffs ≡ q.coeffs
      coeffs = ext_get_or (pos 0) p.coeffs q.coeffs (a ∙ sym b) (λ i h.
          let k : i < levels_most = omega (arith, a) in
          word r p e i k ∙ (d (suc i) (omega arith) ∙ sym (word s q f i k)))

  kinds : (r s : ℕ) (i j : ℕ) → node_word W r 0 ≡ pos i → node_word W s 0 ≡ pos j → Same r s → i ≡ j
  kinds r s i j e f d = pos_same i j (sym e ∙ (d 0 (omega arith) ∙ f))

  test_same : (t u : Test) (h l p q : Tree) → member (branch t h l) X ≡ true → member (branch u p q) X ≡ true → T (good_test n false t) → T (good_test n false u)
      → Same (num (branch t h l)) (num (branch u p q)) → t ≡ u
  unfolding good_test padded
  test_same (now i) (now j) h l p q m k a b d =
      let e = linear_same _ _ _ _ refl refl (condition_shows X tail i h l m).numbers (condition_shows X tail j p q k).numbers d in
      ap now (pos_same i j (ap (λ (y : Linear). get_or y.coeffs 0 (pos 0)) e))
  test_same (now i) (linear y) h l p q m k a b d = absurd (let z = kinds _ _ 1 2 (condition_shows X tail i h l m).kind (test_shows X tail y p q k b).kind d in omega arith)
  test_same (linear y) (now j) h l p q m k a b d = absurd (let z = kinds _ _ 2 1 (test_shows X tail y h l m a).kind (condition_shows X tail j p q k).kind d in omega arith)
  test_same (linear y) (linear z) h l p q m k a b d =
      ap linear (linear_same _ _ y z (wide_long y a) (wide_long z b) (test_shows X tail y h l m a).numbers (test_shows X tail z p q k b).numbers d)
  test_same (later i) u h l p q m k a b d = absurd a
  test_same (now i) (later j) h l p q m k a b d = absurd b
  test_same (linear y) (later j) h l p q m k a b d = absurd b

  long_leaf : (f : Leaf) → member (leaf f) X ≡ true → Long (lin_of f)
  long_leaf f m = wide_long (lin_of f) (stage_wide A f (leaf_of (good_test n false) (stage_leaf A) f (nice (leaf f) m).1))

  once_at : (u v : Tree) → member u X ≡ true → member v X ≡ true → Same (num u) (num v) → u ≡ v
  unfolding leaf_kind lin_of act_of
  once_at (leaf (some p i)) (leaf (some q j)) m k d =
      let a = leaf_row (some p i) m in
      let b = leaf_row (some q j) k in
      ap leaf (ap₂ some (linear_same _ _ p q (long_leaf (some p i) m) (long_leaf (some q j) k) a.numbers b.numbers d)
      (pos_same i j (sym a.high ∙ (d (levels_most + 2) (omega arith) ∙ b.high))))
  once_at (leaf forbidden) (leaf forbidden) m k d = refl
  once_at (leaf (some p i)) (leaf forbidden) m k d = absurd (let z = kinds _ _ 0 3 (leaf_row (some p i) m).kind (leaf_row forbidden k).kind d in omega arith)
  once_at (leaf forbidden) (leaf (some q j)) m k d = absurd (let z = kinds _ _ 3 0 (leaf_row forbidden m).kind (leaf_row (some q j) k).kind d in omega arith)
  once_at (leaf f) (branch u p q) m k d = absurd ((branch_row u p q k (test_good u p q k)).inner (⊎_elim (λ e. inl (sym (d 0 (omega arith)) ∙ e)) (λ e. inr (sym (d 0 (omega arith)) ∙ e)) (leaf_is f m)))
  once_at (branch t h l) (leaf g) m k d = absurd ((branch_row t h l m (test_good t h l m)).inner (⊎_elim (λ e. inl (d 0 (omega arith) ∙ e)) (λ e. inr (d 0 (omega arith) ∙ e)) (leaf_is g k)))
  once_at (branch t h l) (branch u p q) m k d =
      let a = branch_row t h l m (test_good t h l m) in
      let b = branch_row u p q k (test_good u p q k) in
      let c = x.closed t h l m in
      let e = x.closed u p q k in
      let test = test_same t u h l p q m k (test_good t h l m) (test_good u p q k) d in
      let high = number_one h p c.high_in e.high_in (pos_same (num h) (num p) (sym a.high ∙ (d (levels_most + 2) (omega arith) ∙ b.high))) in
      let low = number_one l q c.low_in e.low_in (pos_same (num l) (num q) (sym a.low ∙ (d (levels_most + 3) (omega arith) ∙ b.low))) in
      λ i. branch (test i) (high i) (low i)

  pub table_reduced : Reduced W (length X)
  table_reduced = record {
    rises = λ r b h i d k. let a = node_at r h in
        subst (λ (r : ℕ). Inner W r → (high_of W r ≡ pos b) ⊎ (low_of W r ≡ pos b) → Inner W b → Smaller (test_part W r) (test_part W b)) a.1.1 (rises_at a.0 a.1.0 b) i d k;
    once = λ r s h j d.
        let a = node_at r h in
        let b = node_at s j in
        sym a.1.1 ∙ (ap num (once_at a.0 b.0 a.1.0 b.1.0 (subst (λ (r : ℕ). Same r (num b.0)) (sym a.1.1) (subst (Same r) (sym b.1.1) d))) ∙ b.1.1);
    differ = λ r h i e. let a = node_at r h in subst (λ (r : ℕ). Inner W r → high_of W r ≡ low_of W r → ⊥) a.1.1 (differ_at a.0 a.1.0) i e;
    apart = λ r b h e d. let a = node_at r h in subst (λ (r : ℕ). low_of W r ≡ pos b → Parallel W r b → ⊥) a.1.1 (apart_at a.0 a.1.0 b) e d;
  }

-- ---- the nodes of a table are nodes of the stages

module _ (P : Tree → Type 0) (down : (t : Test) (h l : Tree) → P (branch t h l) → P h × P l) where
  abbrev pub Each : List Tree → Type 0
  Each X = (u : Tree) → member u X ≡ true → P u

  last_each : (v : Tree) (X : List Tree) → P v → Each X → Each (X ++ (v ∷ []))
  last_each v X p e u m = ⊎_elim (λ k. e u k) (λ q. subst P q p) (member_cases u v X m)

  enter_each : (F : Tree) (X : List Tree) → P F → Each X → Each (enter F X)
  unfolding enter
  enter_each (leaf f) X p e = by_test (member (leaf f) X) (λ b. Each (if b X (X ++ (leaf f ∷ [])))) (λ _. e) (λ _. last_each (leaf f) X p e)
  enter_each (branch t h l) X p e =
      let d = down t h l p in
      by_test (member (branch t h l) X) (λ b. Each (if b X (enter l (enter h X) ++ (branch t h l ∷ [])))) (λ _. e)
      (λ _. last_each (branch t h l) (enter l (enter h X)) p (enter_each l (enter h X) d.1 (enter_each h X d.0 e)))

  pub enter_all_each : (S X : List Tree) → ((u : Tree) → Memᴰ u S → P u) → Each X → Each (enter_all S X)
  unfolding enter_all
  enter_all_each [] X p e = e
  enter_all_each (F ∷ S) X p e = enter_all_each S (enter F X) (λ u m. p u (Memᴰ.tail m)) (enter_each F X (p F (Memᴰ.head refl)) e)

ordered_each : (S : List Tree) → AllOrdered S → (u : Tree) → Memᴰ u S → Ordered u
ordered_each [] o u m = absurd (Memᴰ.not-nil m)
ordered_each (F ∷ S) o u m = ⊎_elim (λ i. subst Ordered (sym i) o.0) (λ i. ordered_each S o.1 u i) (Memᴰ.cases_cons m)

-- the table of stages that are ordered and good, in words of any number
pub stages_reduced : (n A size : ℕ) (S : List Tree) → AllOrdered S → T (all (all_nodes (good_test n false) (stage_leaf A)) S) → Reduced (solved_nodes size S) (length (table_of S))
unfolding solved_nodes table_of member
stages_reduced n A size S o g = table_reduced n A (table_of S) (replicate (size - length (rows (table_of S) (table_of S))) (pos 0)) (table_of_table S)
    (enter_all_each (λ u. Ordered u × StageGood n A u)
    (λ t h l d. let p = parts (good_test n false) (stage_leaf A) t h l d.1 in ((d.0.1.1.1.0, p.1.0), (d.0.1.1.1.1, p.1.1)))
    S [] (λ u m. (ordered_each S o u m, all_each (all_nodes (good_test n false) (stage_leaf A)) S g u m)) (λ u m. clash (sym m)))
