-- The cases of the rules of two operands, and the sides that they go on with.
use mathlib.Core.Path.{◌≡◌, refl, ap}
use mathlib.Core.List.{List}
use Prim.Native.Nat.{ℕ, ◌+◌, ◌<◌, Ordering}
use mathlib.Core.Bool.{false}
use native.Mathlib.Omega.{arith}
use lib.IntN.{ℤ, nat_abs}
use Rattle.table.specs.Table.{node_at, is_leaf}
use Rattle.table.specs.declared.Node.{Node}
use Rattle.theory.specs.Diagram.{Test, Leaf, Tree, leaf, branch, cmp}
use Rattle.theory.specs.Computation.{Comp, ret, bind, both}
use Rattle.theory.specs.Rules.{node, step, choose, over, merge}
use Rattle.rule_node.specs.declared.Sides.{Sides}
use Rattle.rule_node.specs.Nodes.{test_held, tree_at, Good}
use Rattle.rule_node.specs.Roots.{down_of, left_sides, right_sides, both_sides}

-- ---- cases

module _ (mk : Test → Tree → Tree → Comp Tree) (t : Test) (f g : Tree → Comp Tree) (u : Test) (h l : Tree) where
  pub step_lt : cmp t u ≡ Ordering.lt → step mk t f g (branch u h l) ≡ both (mk t) (f (branch u h l)) (g (branch u h l))
  unfolding step
  step_lt e = ap (λ (o : Ordering). elim o as (λ _. Comp Tree) [ Ordering.lt ↦ both (mk t) (f (branch u h l)) (g (branch u h l)) | Ordering.eq ↦ both (mk t) (f h) (g l) | Ordering.gt ↦ both (mk u) (step mk t f g h) (step mk t f g l) ]) e

  pub step_eq : cmp t u ≡ Ordering.eq → step mk t f g (branch u h l) ≡ both (mk t) (f h) (g l)
  unfolding step
  step_eq e = ap (λ (o : Ordering). elim o as (λ _. Comp Tree) [ Ordering.lt ↦ both (mk t) (f (branch u h l)) (g (branch u h l)) | Ordering.eq ↦ both (mk t) (f h) (g l) | Ordering.gt ↦ both (mk u) (step mk t f g h) (step mk t f g l) ]) e

  pub step_gt : cmp t u ≡ Ordering.gt → step mk t f g (branch u h l) ≡ both (mk u) (step mk t f g h) (step mk t f g l)
  unfolding step
  step_gt e = ap (λ (o : Ordering). elim o as (λ _. Comp Tree) [ Ordering.lt ↦ both (mk t) (f (branch u h l)) (g (branch u h l)) | Ordering.eq ↦ both (mk t) (f h) (g l) | Ordering.gt ↦ both (mk u) (step mk t f g h) (step mk t f g l) ]) e

module _ (mk : Test → Tree → Tree → Comp Tree) (op : Leaf → Leaf → Comp Tree) where
  pub merge_ll : (f g : Leaf) → merge mk op (leaf f) (leaf g) ≡ op f g
  unfolding merge over
  merge_ll f g = refl

  pub merge_ln : (f : Leaf) (u : Test) (h l : Tree) → merge mk op (leaf f) (branch u h l) ≡ both (mk u) (merge mk op (leaf f) h) (merge mk op (leaf f) l)
  unfolding merge over
  merge_ln f u h l = refl

  pub merge_nl : (u : Test) (h l : Tree) (g : Leaf) → merge mk op (branch u h l) (leaf g) ≡ both (mk u) (merge mk op h (leaf g)) (merge mk op l (leaf g))
  unfolding merge step
  merge_nl u h l g = refl

  pub merge_lt : (t u : Test) (h l h' l' : Tree) → cmp t u ≡ Ordering.lt → merge mk op (branch t h l) (branch u h' l') ≡ both (mk t) (merge mk op h (branch u h' l')) (merge mk op l (branch u h' l'))
  unfolding merge
  merge_lt t u h l h' l' e = step_lt mk t (merge mk op h) (merge mk op l) u h' l' e

  pub merge_eq : (t u : Test) (h l h' l' : Tree) → cmp t u ≡ Ordering.eq → merge mk op (branch t h l) (branch u h' l') ≡ both (mk t) (merge mk op h h') (merge mk op l l')
  unfolding merge
  merge_eq t u h l h' l' e = step_eq mk t (merge mk op h) (merge mk op l) u h' l' e

  pub merge_gt : (t u : Test) (h l h' l' : Tree) → cmp t u ≡ Ordering.gt → merge mk op (branch t h l) (branch u h' l') ≡ both (mk u) (merge mk op (branch t h l) h') (merge mk op (branch t h l) l')
  unfolding merge
  merge_gt t u h l h' l' e = step_gt mk t (merge mk op h) (merge mk op l) u h' l' e

module _ (t u : Test) (h l G : Tree) where
  pub choose_lt : cmp t u ≡ Ordering.lt → choose t (branch u h l) G ≡ step node t (λ _. ret (branch u h l)) ret G
  unfolding choose
  choose_lt e = ap (λ (o : Ordering). elim o as (λ _. Comp Tree) [ Ordering.lt ↦ step node t (λ _. ret (branch u h l)) ret G | Ordering.eq ↦ step node t (λ _. ret h) ret G | Ordering.gt ↦ step node u (choose t h) (choose t l) G ]) e

  pub choose_eq : cmp t u ≡ Ordering.eq → choose t (branch u h l) G ≡ step node t (λ _. ret h) ret G
  unfolding choose
  choose_eq e = ap (λ (o : Ordering). elim o as (λ _. Comp Tree) [ Ordering.lt ↦ step node t (λ _. ret (branch u h l)) ret G | Ordering.eq ↦ step node t (λ _. ret h) ret G | Ordering.gt ↦ step node u (choose t h) (choose t l) G ]) e

  pub choose_gt : cmp t u ≡ Ordering.gt → choose t (branch u h l) G ≡ step node u (choose t h) (choose t l) G
  unfolding choose
  choose_gt e = ap (λ (o : Ordering). elim o as (λ _. Comp Tree) [ Ordering.lt ↦ step node t (λ _. ret (branch u h l)) ret G | Ordering.eq ↦ step node t (λ _. ret h) ret G | Ordering.gt ↦ step node u (choose t h) (choose t l) G ]) e

pub choose_leaf : (t : Test) (f : Leaf) (G : Tree) → choose t (leaf f) G ≡ step node t (λ _. ret (leaf f)) ret G
unfolding choose
choose_leaf t f G = refl

pub both_ret : (mk : Tree → Tree → Comp Tree) (P Q : Tree) → both mk (ret P) (ret Q) ≡ mk P Q
unfolding both bind
both_ret mk P Q = refl

pub step_leaf : (mk : Test → Tree → Tree → Comp Tree) (t : Test) (f g : Tree → Comp Tree) (y : Leaf) → step mk t f g (leaf y) ≡ both (mk t) (f (leaf y)) (g (leaf y))
unfolding step
step_leaf mk t f g y = refl

-- ---- sides

-- the rule m goes on with the sides s, over the root of s made by mk
pub record On (l : List ℤ) (n : ℕ) (m : Tree → Tree → Comp Tree) (mk : Test → Tree → Tree → Comp Tree) (f g : ℕ) (s : Sides) : Type 0 where
  pub fh : s.fh < n
  pub gh : s.gh < n
  pub fl : s.fl < n
  pub gl : s.gl < n
  pub root : s.root < n
  pub high : s.fh + s.gh < f + g
  pub low : s.fl + s.gl < f + g
  pub test : is_leaf (node_at l s.root).kind ≡ false
  pub is : m (tree_at l n f) (tree_at l n g) ≡ both (mk (test_held (node_at l s.root))) (m (tree_at l n s.fh) (tree_at l n s.gh)) (m (tree_at l n s.fl) (tree_at l n s.gl))

-- f's sides with g whole, g's with f whole, and the sides of both
module _ {l : List ℤ} {n : ℕ} (G : Good l n) (f g : ℕ) (hf : f < n) (hg : g < n) (m : Tree → Tree → Comp Tree) (mk : Test → Tree → Tree → Comp Tree) where
  abbrev X : ℕ → Tree
  X i = tree_at l n i

  abbrev x : Node
  x = node_at l f

  abbrev y : Node
  y = node_at l g

  pub left_on : is_leaf x.kind ≡ false → m (X f) (X g) ≡ both (mk (test_held x)) (m (X (nat_abs x.high)) (X g)) (m (X (nat_abs x.low)) (X g)) → On l n m mk f g (left_sides (down_of x) f g)
  unfolding down_of
  left_on ex e = let a = (G.valid f hf).high_below ex in let b = (G.valid f hf).low_below ex in
      record { fh = omega arith; gh = hg; fl = omega arith; gl = hg; root = hf; high = omega arith; low = omega arith; test = ex; is = e }

  pub right_on : is_leaf y.kind ≡ false → m (X f) (X g) ≡ both (mk (test_held y)) (m (X f) (X (nat_abs y.high))) (m (X f) (X (nat_abs y.low))) → On l n m mk f g (right_sides f (down_of y) g)
  unfolding down_of
  right_on ey e = let a = (G.valid g hg).high_below ey in let b = (G.valid g hg).low_below ey in
      record { fh = hf; gh = omega arith; fl = hf; gl = omega arith; root = hg; high = omega arith; low = omega arith; test = ey; is = e }

  pub both_on : is_leaf x.kind ≡ false → is_leaf y.kind ≡ false → m (X f) (X g) ≡ both (mk (test_held x)) (m (X (nat_abs x.high)) (X (nat_abs y.high)))
      (m (X (nat_abs x.low)) (X (nat_abs y.low))) → On l n m mk f g (both_sides (down_of x) f (down_of y))
  unfolding down_of
  both_on ex ey e =
      let a = (G.valid f hf).high_below ex in let b = (G.valid f hf).low_below ex in
      let c = (G.valid g hg).high_below ey in let d = (G.valid g hg).low_below ey in
      record { fh = omega arith; gh = omega arith; fl = omega arith; gl = omega arith; root = hf; high = omega arith; low = omega arith; test = ex; is = e }
