-- A linear over the levels: scaled, added in order, shifted.
use mathlib.Core.Path.{◌≡◌, refl, sym, ap, ap₂, ◌∙◌, subst}
use mathlib.Core.List.{List, [], ◌∷◌}
use Prim.Native.Nat.{ℕ, zero, suc, ◌+◌, ◌≤◌, ◌<◌, min}
use native.Mathlib.Nat.{lt_of_lt_of_le}
use native.Mathlib.Numerals.{add-one}
use native.Mathlib.Omega.{arith}
use lib.IntN.{ℤ, pos}
use lib.ListN.{length, get_or, take, drop, drop_of_length-le, length-take, length-map, get_or-map}
use lib.Seq.{drop-cons}
use Rattle.whole.specs.Linears.{numbers}
use Rattle.whole.specs.LinearsLaws.{rest}
use Rattle.whole.specs.Within.{Small}
use Rattle.table.specs.Table.{Answer, stop_of, at_of, count_of, made, node_at}
use Rattle.table.specs.declared.Node.{Node}
use Rattle.theory.specs.Widths.{levels_most}
use Rattle.theory.specs.Diagram.{Tree}
use Rattle.theory.specs.Computation.{Comp, ret, bind}
use Rattle.theory.proofs.laws.Comps.{bind_bind, bind_ret}
use Rattle.theory.specs.Rules.{scale, shift, sum, sum_on, levels_sum, linear_diagram}
use Rattle.rule_node.specs.Nodes.{linear_held, constant_of, tree_at, Grown}
use Rattle.rule_node.specs.Table.{Table, RuleRan}
use Rattle.rule_node.specs.EntryMeaning.{rule_of}
use Rattle.rule_node.proofs.Trees.{trees_kept}
use Rattle.rule_node.proofs.Outcomes.{grown, stop, seq, ran_as, ran_ret}
use Rattle.rule_node.proofs.Meanings.{rule_sum}
use Rattle.rule_combine.specs.Levels.{Levels, levels_at, add_on}

-- ---- the sum, level by level

-- what is left of it from level k on, F being the sum so far
abbrev pub Left : List ℤ → List Tree → ℕ → Tree → Comp Tree
Left cs Ds k F = sum_on F (drop k cs) (drop k Ds)

bind_as : {A B : Type 0} (m : Comp A) {j k : A → Comp B} → ((x : A) → j x ≡ k x) → bind m j ≡ bind m k
bind_as m e = λ i. bind m (λ x. e x i)

none_left : (F : Tree) (cs : List ℤ) → sum_on F cs [] ≡ ret F
unfolding sum_on
none_left F [] = refl
none_left F (c ∷ cs) = refl

one_left : (c : ℤ) (cs : List ℤ) (D : Tree) (Ds : List Tree) (F : Tree) → sum_on F (c ∷ cs) (D ∷ Ds) ≡ bind (add_on c D F) (λ S. sum_on S cs Ds)
unfolding sum_on add_on
one_left c cs D Ds F = sym (bind_bind (scale c D) (λ G. sum F G) (λ S. sum_on S cs Ds))

module _ (cs : List ℤ) (Ds : List Tree) where
  ends : (k : ℕ) → length Ds ≤ k → (F : Tree) → Left cs Ds k F ≡ ret F
  ends k h F = ap (sum_on F (drop k cs)) (drop_of_length-le Ds {i = k} h) ∙ none_left F (drop k cs)

  steps : (k : ℕ) (z : Tree) → k < length cs → k < length Ds → (F : Tree) → Left cs Ds k F ≡ bind (add_on (get_or cs k (pos 0)) (get_or Ds k z) F) (Left cs Ds (k + 1))
  steps k z h q F =
      ap₂ (sum_on F) (rest cs k h) (drop-cons Ds k z q ∙ ap (λ (j : ℕ). get_or Ds k z ∷ drop j Ds) (sym (add-one k)))
      ∙ one_left (get_or cs k (pos 0)) (drop (k + 1) cs) (get_or Ds k z) (drop (k + 1) Ds) F

begins : (cs : List ℤ) (Ds : List Tree) (z : Tree) → 0 < length cs → 0 < length Ds → bind (scale (get_or cs 0 (pos 0)) (get_or Ds 0 z)) (Left cs Ds 1) ≡ levels_sum cs Ds
unfolding levels_sum
begins [] Ds z h q = absurd (omega arith)
begins (c ∷ cs) [] z h q = absurd (omega arith)
begins (c ∷ cs) (D ∷ Ds) z h q = refl

-- ---- levels and numbers

pub levels_kept : {l l' : List ℤ} {n n' : ℕ} {L : List ℕ} → Levels n L → Grown l n l' n' → levels_at l' n' L ≡ levels_at l n L
levels_kept {l} {l'} {n} {n'} {L} B G = go L B.below
  where
    go : (L : List ℕ) → ((k : ℕ) → get_or L k 0 < n) → levels_at l' n' L ≡ levels_at l n L
    go [] h = refl
    go (d ∷ L) h = ap₂ (λ (D : Tree) (Ds : List Tree). D ∷ Ds) (trees_kept G d (h 0)) (go L (λ k. h (suc k)))

pub levels_more : {n n' : ℕ} {L : List ℕ} → Levels n L → n ≤ n' → Levels n' L
levels_more B h = record { below = λ k. lt_of_lt_of_le (B.below k) h; some = B.some; most = B.most }

abbrev coeffs : List ℤ → ℕ → List ℤ
coeffs l i = (linear_held (node_at l i)).coeffs

first_of : (l : List ℤ) (m k : ℕ) → k < m → get_or (take m l) k (pos 0) ≡ get_or l k (pos 0)
first_of l zero k h = absurd (omega arith)
first_of [] (suc m) k h = refl
first_of (z ∷ l) (suc m) zero h = refl
first_of (z ∷ l) (suc m) (suc k) h = first_of l m k (omega arith)

module _ {cap : ℕ} {l : List ℤ} {w : List ℕ} {n : ℕ} (A : Table rule_of cap l w n) (i : ℕ) (hi : i < n) where
  coefficient : (k : ℕ) → k < levels_most → get_or (node_at l i).n k (pos 0) ≡ get_or (coeffs l i) k (pos 0)
  unfolding linear_held
  coefficient k h = sym (first_of (node_at l i).n levels_most k h)

  coefficients_long : length (coeffs l i) ≡ levels_most
  unfolding linear_held
  coefficients_long = length-take levels_most (node_at l i).n ∙ ap (min levels_most) (A.bare.good.valid i hi).nums.long

-- ---- one level

module _ {cap : ℕ} {l : List ℤ} {w : List ℕ} {n : ℕ} {f : ℕ} (d : ℕ) (hf : f < n) {c b : ℤ} (e : b ≡ c) {l₁ : List ℤ} {w₁ : List ℕ} {t : Answer} (Q' : RuleRan rule_of cap l w n (scale b (tree_at l n d)) l₁ w₁ t) where
  Q : RuleRan rule_of cap l w n (scale c (tree_at l n d)) l₁ w₁ t
  Q = ran_as (ap (λ (b : ℤ). scale b (tree_at l n d)) e) Q'

  abbrev Added : List ℤ → List ℕ → Answer → Type 0
  Added = RuleRan rule_of cap l w n (add_on c (tree_at l n d) (tree_at l n f))

  pub level_stops : (stop_of t ≡ 0 → ⊥) → Added l₁ w₁ t
  unfolding add_on
  level_stops off = stop _ Q off

  module _ (ok : stop_of t ≡ 0) where
    pub level_asks : Table rule_of cap l₁ w₁ (count_of t) × (f < (count_of t)) × ((at_of t) < (count_of t))
    level_asks = (Q.table, lt_of_lt_of_le hf Q.more, Q.within ok)

    pub level_added : {l₂ : List ℤ} {w₂ : List ℕ} {r : Answer} → RuleRan rule_of cap l₁ w₁ (count_of t) (rule_of l₁ (count_of t) 0 f (at_of t) 0 0) l₂ w₂ r → Added l₂ w₂ r
    unfolding add_on
    level_added P = seq _ Q ok (ran_as (rule_sum l₁ (count_of t) f (at_of t) 0 0 ∙ ap (λ (F : Tree). sum F (tree_at l₁ (count_of t) (at_of t))) (trees_kept (grown Q) f hf)) P)

-- ---- the levels behind the first

-- what ran so far leaves the levels from k on to the sum of all with the diagram at f
pub record Adding (cap : ℕ) (l : List ℤ) (w : List ℕ) (n i : ℕ) (L : List ℕ) (f k : ℕ) (l₁ : List ℤ) (w₁ : List ℕ) (s : Answer) : Type 0 where
  pub goes : stop_of s ≡ 0
  pub so_far : Comp Tree
  pub ran : RuleRan rule_of cap l w n so_far l₁ w₁ s
  pub left : bind so_far (Left (coeffs l i) (levels_at l n L) k) ≡ Left (coeffs l i) (levels_at l n L) 1 (tree_at l n f)
  pub nodes_length : length l₁ ≡ length l
  pub work_length : length w₁ ≡ length w

module _ {cap : ℕ} {l : List ℤ} {w : List ℕ} {n : ℕ} (A : Table rule_of cap l w n) (i : ℕ) (hi : i < n) {L : List ℕ} (B : Levels n L) where
  abbrev Ds : List Tree
  Ds = levels_at l n L

  pub adding_none : (f : ℕ) → f < n → Adding cap l w n i L f 1 l w (made f n)
  unfolding bind
  adding_none f h = record { goes = refl; so_far = ret (tree_at l n f); ran = ran_ret A f h; left = refl; nodes_length = refl; work_length = refl }

  long : length Ds ≡ length L
  long = length-map L (tree_at l n)

  short : (k : ℕ) → k < length L → k < levels_most
  short k h = lt_of_lt_of_le h B.most

  module _ {f k : ℕ} {l₁ : List ℤ} {w₁ : List ℕ} {s : Answer} (S : Adding cap l w n i L f k l₁ w₁ s) where
    pub added_all : length L ≤ k → RuleRan rule_of cap l w n (Left (coeffs l i) Ds 1 (tree_at l n f)) l₁ w₁ s
    added_all h = ran_as (sym (bind_ret S.so_far) ∙ (sym (bind_as S.so_far (ends (coeffs l i) Ds k (omega (arith, long)))) ∙ S.left)) S.ran

    module _ (h : k < length L) where
      pub adding_number : (i < (count_of s)) × (k < numbers)
      adding_number = (lt_of_lt_of_le hi S.ran.more, (let q = short k h in omega arith))

      pub adding_asks : Table rule_of cap l₁ w₁ (count_of s) × ((at_of s) < (count_of s)) × (get_or L k 0 < (count_of s))
      adding_asks = (S.ran.table, S.ran.within S.goes, lt_of_lt_of_le (B.below k) S.ran.more)

      module _ {b : ℤ} (e : b ≡ get_or (node_at l₁ i).n k (pos 0)) {l₂ : List ℤ} {w₂ : List ℕ} {r : Answer} (P : RuleRan rule_of cap l₁ w₁ (count_of s) (add_on b (tree_at l₁ (count_of s) (get_or L k 0)) (tree_at l₁ (count_of s) (at_of s))) l₂ w₂ r) where
        abbrev c : ℤ
        c = get_or (coeffs l i) k (pos 0)

        abbrev D : Tree
        D = get_or Ds k (tree_at l n 0)

        b_is : b ≡ c
        b_is = e ∙ (ap (λ (x : Node). get_or x.n k (pos 0)) (S.ran.kept i hi) ∙ coefficient A i hi k (short k h))

        d_is : tree_at l₁ (count_of s) (get_or L k 0) ≡ D
        d_is = trees_kept (grown S.ran) (get_or L k 0) (B.below k) ∙ sym (get_or-map (tree_at l n) L k 0)

        next : RuleRan rule_of cap l w n (bind S.so_far (add_on c D)) l₂ w₂ r
        next = seq (add_on c D) S.ran S.goes (ran_as (ap₂ (λ (z : ℤ) (X : Tree). add_on z X (tree_at l₁ (count_of s) (at_of s))) b_is d_is) P)

        next_left : bind (bind S.so_far (add_on c D)) (Left (coeffs l i) Ds (k + 1)) ≡ Left (coeffs l i) Ds 1 (tree_at l n f)
        next_left = bind_bind S.so_far (add_on c D) (Left (coeffs l i) Ds (k + 1))
            ∙ (sym (bind_as S.so_far (steps (coeffs l i) Ds k (tree_at l n 0) (let q = short k h in omega (arith, coefficients_long A i hi)) (omega (arith, long)))) ∙ S.left)

        pub adding_stops : (stop_of r ≡ 0 → ⊥) → RuleRan rule_of cap l w n (Left (coeffs l i) Ds 1 (tree_at l n f)) l₂ w₂ r
        adding_stops off = ran_as next_left (stop _ next off)

        pub adding_one : stop_of r ≡ 0 → length l₂ ≡ length l₁ → length w₂ ≡ length w₁ → Adding cap l w n i L f (k + 1) l₂ w₂ r
        adding_one ok a d = record { goes = ok; so_far = bind S.so_far (add_on c D); ran = next; left = next_left; nodes_length = a ∙ S.nodes_length; work_length = d ∙ S.work_length }

  -- ---- all levels

  module _ {b : ℤ} (e : b ≡ get_or (node_at l i).n 0 (pos 0)) {l₁ : List ℤ} {w₁ : List ℕ} {s : Answer} (P : RuleRan rule_of cap l w n (scale b (tree_at l n (get_or L 0 0))) l₁ w₁ s) where
    first : RuleRan rule_of cap l w n (scale (get_or (coeffs l i) 0 (pos 0)) (get_or Ds 0 (tree_at l n 0))) l₁ w₁ s
    first = ran_as (ap₂ scale (e ∙ coefficient A i hi 0 (omega arith)) (sym (get_or-map (tree_at l n) L 0 0))) P

    total : bind (scale (get_or (coeffs l i) 0 (pos 0)) (get_or Ds 0 (tree_at l n 0))) (Left (coeffs l i) Ds 1) ≡ levels_sum (coeffs l i) Ds
    total = begins (coeffs l i) Ds (tree_at l n 0) (omega (arith, coefficients_long A i hi)) (let q = B.some in omega (arith, long))

    pub levels_stop : (stop_of s ≡ 0 → ⊥) → RuleRan rule_of cap l w n (levels_sum (coeffs l i) Ds) l₁ w₁ s
    levels_stop off = ran_as total (stop _ first off)

    module _ (ok : stop_of s ≡ 0) where
      pub levels_ask : Table rule_of cap l₁ w₁ (count_of s) × (i < (count_of s)) × ((at_of s) < (count_of s)) × Levels (count_of s) L
      levels_ask = (P.table, lt_of_lt_of_le hi P.more, P.within ok, levels_more B P.more)

      pub levels_made : {l₂ : List ℤ} {w₂ : List ℕ} {r : Answer} → RuleRan rule_of cap l₁ w₁ (count_of s)
          (sum_on (tree_at l₁ (count_of s) (at_of s)) (drop 1 (linear_held (node_at l₁ i)).coeffs) (drop 1 (levels_at l₁ (count_of s) L))) l₂ w₂ r → RuleRan rule_of cap l w n
          (levels_sum (coeffs l i) Ds) l₂ w₂ r
      levels_made U = ran_as total (seq (Left (coeffs l i) Ds 1) first ok
          (ran_as (ap₂ (λ (x : Node) (X : List Tree). sum_on (tree_at l₁ (count_of s) (at_of s)) (drop 1 (linear_held x).coeffs) (drop 1 X)) (P.kept i hi) (levels_kept B (grown P))) U))

-- ---- the constant last

module _ {cap : ℕ} {l l₁ : List ℤ} {w w₁ : List ℕ} {n : ℕ} (i : ℕ) (hi : i < n) (Ds : List Tree) {s : Answer} (Q : RuleRan rule_of cap l w n (levels_sum (linear_held (node_at l i)).coeffs Ds) l₁ w₁ s) where
  abbrev LinearDiagram : List ℤ → List ℕ → Answer → Type 0
  LinearDiagram = RuleRan rule_of cap l w n (linear_diagram Ds (linear_held (node_at l i)))

  pub linear_stops : (stop_of s ≡ 0 → ⊥) → LinearDiagram l₁ w₁ s
  unfolding linear_diagram
  linear_stops off = stop _ Q off

  module _ (ok : stop_of s ≡ 0) {b : ℤ} (e : b ≡ constant_of (node_at l₁ i)) where
    pub shift_asks : Table rule_of cap l₁ w₁ (count_of s) × ((at_of s) < (count_of s)) × Small b
    shift_asks = (Q.table, Q.within ok, subst Small (sym e) ((Q.table.bare.good.valid i (lt_of_lt_of_le hi Q.more)).nums.each levels_most))

    pub linear_made : {l₂ : List ℤ} {w₂ : List ℕ} {r : Answer} → RuleRan rule_of cap l₁ w₁ (count_of s) (shift b (tree_at l₁ (count_of s) (at_of s))) l₂ w₂ r → LinearDiagram l₂ w₂ r
    unfolding linear_diagram linear_held
    linear_made P = seq _ Q ok (ran_as (ap (λ (z : ℤ). shift z (tree_at l₁ (count_of s) (at_of s))) (e ∙ ap constant_of (Q.kept i hi))) P)
