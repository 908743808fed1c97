-- How a merge of two diagrams goes on: sum, product and best.
use mathlib.Core.Path.{◌≡◌, refl, sym, ap, ap₂, ◌∙◌, subst}
use mathlib.Core.Bool.{Bool, true, false}
use mathlib.Core.List.{List}
use Prim.Native.Nat.{ℕ, ◌<◌, Ordering}
use native.Mathlib.Omega.{arith}
use lib.Dec.{eqb}
use lib.IntN.{ℤ, nat_abs}
use Rattle.table.specs.Table.{node_at, is_leaf}
use Rattle.table.specs.declared.Node.{Node}
use Rattle.theory.specs.Diagram.{Test, Leaf, Tree, cmp}
use Rattle.theory.specs.Computation.{Comp, both}
use Rattle.theory.specs.Rules.{merge}
use Rattle.rule_node.specs.declared.Sides.{Sides}
use Rattle.rule_node.specs.Nodes.{leaf_of, test_held, tree_at, Good}
use Rattle.rule_node.specs.Roots.{order_of, ord_num, down_of}
use Rattle.rule_choose.specs.Choice.{sides_of}
use Rattle.rule_node.proofs.Trees.{at_leaf, at_branch}
use Rattle.rule_choose.proofs.RootCases.{split_by, split_as}
use Rattle.rule_tests.proofs.Ordered.{order_is}
use Rattle.rule_node.proofs.TwoOperands.{merge_ll, merge_ln, merge_nl, merge_lt, merge_eq, merge_gt, On, left_on, right_on, both_on}

-- both are leaves
pub record Ends (l : List ℤ) (n : ℕ) (m : Tree → Tree → Comp Tree) (op : Leaf → Leaf → Comp Tree) (f g : ℕ) : Type 0 where
  pub left : is_leaf (node_at l f).kind ≡ true
  pub right : is_leaf (node_at l g).kind ≡ true
  pub is : m (tree_at l n f) (tree_at l n g) ≡ op (leaf_of (node_at l f)) (leaf_of (node_at l g))

abbrev pub Goes : List ℤ → ℕ → (Test → Tree → Tree → Comp Tree) → (Leaf → Leaf → Comp Tree) → ℕ → ℕ → Sides → Type 0
Goes l n mk op f g s = (s.ends ≡ true → Ends l n (merge mk op) op f g) × (s.ends ≡ false → On l n (merge mk op) mk f g s)

no : {A : Type 0} → true ≡ false → A
no e = absurd (let z : ◌≡◌ {A = ℕ} 0 1 = cc in omega arith)

module _ {l : List ℤ} {n : ℕ} (G : Good l n) (f g : ℕ) (hf : f < n) (hg : g < n) (mk : Test → Tree → Tree → Comp Tree) (op : Leaf → Leaf → Comp Tree) where
  abbrev X : ℕ → Tree
  X i = tree_at l n i

  abbrev x : Node
  x = node_at l f

  abbrev y : Node
  y = node_at l g

  order_at : is_leaf x.kind ≡ false → is_leaf y.kind ≡ false → order_of x y ≡ cmp (test_held x) (test_held y)
  order_at ex ey = order_is x y ((G.valid f hf).tested ex) ((G.valid g hg).tested ey)

  go : (a b : Bool) (o : Ordering) → is_leaf x.kind ≡ a → is_leaf y.kind ≡ b → order_of x y ≡ o → Goes l n mk op f g (split_by a b (eqb (ord_num o) 0) (eqb (ord_num o) 1) (down_of x) f (down_of y) g)
  unfolding ord_num
  go true true o ex ey eo =
      (λ t. record { left = ex; right = ey; is = ap₂ (merge mk op) (at_leaf G f hf ex) (at_leaf G g hg ey) ∙ merge_ll mk op _ _ }, λ t. no t)
  go true false o ex ey eo = (
    λ t. no (sym t),
    λ t. right_on G f g hf hg (merge mk op) mk ey (ap₂ (merge mk op) (at_leaf G f hf ex) (at_branch G g hg ey) ∙
        (merge_ln mk op _ _ _ _ ∙ ap (λ (z : Tree). both (mk (test_held y)) (merge mk op z (X (nat_abs y.high))) (merge mk op z (X (nat_abs y.low))))
        (sym (at_leaf G f hf ex)))),
  )
  go false true o ex ey eo = (
    λ t. no (sym t),
    λ t. left_on G f g hf hg (merge mk op) mk ex (ap₂ (merge mk op) (at_branch G f hf ex) (at_leaf G g hg ey) ∙
        (merge_nl mk op _ _ _ _ ∙ ap (λ (z : Tree). both (mk (test_held x)) (merge mk op (X (nat_abs x.high)) z) (merge mk op (X (nat_abs x.low)) z))
        (sym (at_leaf G g hg ey)))),
  )
  go false false Ordering.lt ex ey eo = (
    λ t. no (sym t),
    λ t. left_on G f g hf hg (merge mk op) mk ex (ap₂ (merge mk op) (at_branch G f hf ex) (at_branch G g hg ey) ∙
        (merge_lt mk op _ _ _ _ _ _ (sym (order_at ex ey) ∙ eo) ∙ ap (λ (z : Tree). both (mk (test_held x)) (merge mk op (X (nat_abs x.high)) z)
        (merge mk op (X (nat_abs x.low)) z)) (sym (at_branch G g hg ey)))),
  )
  go false false Ordering.eq ex ey eo =
      (λ t. no (sym t), λ t. both_on G f g hf hg (merge mk op) mk ex ey (ap₂ (merge mk op) (at_branch G f hf ex) (at_branch G g hg ey) ∙ merge_eq mk op _ _ _ _ _ _ (sym (order_at ex ey) ∙ eo)))
  go false false Ordering.gt ex ey eo = (
    λ t. no (sym t),
    λ t. right_on G f g hf hg (merge mk op) mk ey (ap₂ (merge mk op) (at_branch G f hf ex) (at_branch G g hg ey) ∙
        (merge_gt mk op _ _ _ _ _ _ (sym (order_at ex ey) ∙ eo) ∙ ap (λ (z : Tree). both (mk (test_held y)) (merge mk op z (X (nat_abs y.high)))
        (merge mk op z (X (nat_abs y.low)))) (sym (at_branch G f hf ex)))),
  )

  pub goes : Goes l n mk op f g (sides_of x f y g)
  unfolding sides_of down_of
  goes = subst (Goes l n mk op f g) (split_as (down_of x) f (down_of y) g (ord_num (order_of x y)) (is_leaf x.kind) (is_leaf y.kind) (eqb (ord_num (order_of x y)) 0)
      (eqb (ord_num (order_of x y)) 1) refl refl refl refl) (go (is_leaf x.kind) (is_leaf y.kind) (order_of x y) refl refl refl)

-- with the sides that the code has
pub goes_as : {l : List ℤ} {n : ℕ} (G : Good l n) (mk : Test → Tree → Tree → Comp Tree) (op : Leaf → Leaf → Comp Tree) (f g : ℕ) → f < n → g < n → {s : Sides} → s ≡ sides_of (node_at l f) f (node_at l g) g → Goes l n mk op f g s
goes_as {l} {n} G mk op f g hf hg e = subst (Goes l n mk op f g) (sym e) (goes G f g hf hg mk op)
