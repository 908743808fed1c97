-- Leaves: their numbers judged, and made.
use mathlib.Core.Path.{◌≡◌, refl, sym, ap, ◌∙◌, subst}
use mathlib.Core.Bool.{Bool, true, false, ◌&&◌}
use mathlib.Core.List.{List, [], ◌∷◌}
use Prim.Native.Nat.{ℕ, zero, suc, ◌<◌}
use native.Mathlib.Omega.{arith}
use native.Mathlib.Nat.{suc_inj}
use lib.Dec.{T}
use lib.IntN.{ℤ, pos, nat_abs}
use lib.Signed.{non_neg}
use lib.ListN.{length, get_or, take, replicate}
use Rattle.whole.specs.Linears.{numbers, smalls}
use Rattle.whole.specs.LinearsLaws.{smalls_of}
use Rattle.whole.specs.Within.{small, Small}
use Rattle.theory.specs.Widths.{levels_most}
use Rattle.table.proofs.Leaf.{leaf_as, some_as, some_not, none_as, none_leaf as none-leaf-kind, branch_not}
use Rattle.table.specs.Table.{Answer, halted, node_at, is_leaf}
use Rattle.table.specs.declared.Node.{Node}
use Rattle.table.specs.declared.Stop.TheVariants.{Over}
use Rattle.theory.specs.Diagram.{some, Tree, leaf, plain}
use Rattle.theory.specs.Computation.{make}
use Rattle.theory.specs.Rules.{make_leaf, none_leaf}
use Rattle.theory.specs.Valid.{all}
use Rattle.theory.specs.Valid.{small_linear}
use Rattle.rule_node.specs.Nodes.{linear_held, none_node, tree_of, trees, Nums, Valid, Plain}
use Rattle.rule_node.specs.Table.{Bare, Grew}
use Rattle.rule_node.proofs.Trees.{leaf_none, leaf_some, tree_leaf}
use Rattle.rule_node.proofs.Outcomes.{grew_as, grew_judged, grew_over}

no : {A : Type 0} → true ≡ false → A
no e = absurd (let z : ◌≡◌ {A = ℕ} 0 1 = cc in omega arith)

and_true : (b : Bool) → (b && true) ≡ b
and_true true = refl
and_true false = refl

and_assoc : (a b c : Bool) → (a && (b && c)) ≡ ((a && b) && c)
and_assoc true b c = refl
and_assoc false b c = refl

-- ---- the limits

all_smalls : (m : ℕ) (l : List ℤ) → length l ≡ suc m → smalls l ≡ (all small (take m l) && small (get_or l m (pos 0)))
unfolding smalls all
all_smalls m [] e = absurd (omega arith)
all_smalls zero (x ∷ []) e = and_true (small x)
all_smalls zero (x ∷ y ∷ l) e = absurd (omega arith)
all_smalls (suc m) (x ∷ l) e = ap (λ (b : Bool). small x && b) (all_smalls m l (suc_inj e)) ∙ and_assoc (small x) (all small (take m l)) (small (get_or l m (pos 0)))

pub smalls_are : (x : Node) → length x.n ≡ numbers → smalls x.n ≡ small_linear (linear_held x)
unfolding small_linear linear_held
smalls_are x e = all_smalls levels_most x.n e

pub nums_of : (x : Node) → length x.n ≡ numbers → small_linear (linear_held x) ≡ true → Nums x
nums_of x n e = smalls_of x.n n (smalls_are x n ∙ e)

-- ---- a leaf without action

plain_leaf : {s : Node} → Plain s → is_leaf s.kind ≡ true
plain_leaf P = leaf_as P.kind

module _ {cap : ℕ} {l : List ℤ} {w : List ℕ} {n : ℕ} (A : Bare cap l w n) (s : Node) (long : length s.n ≡ numbers) (P : Plain s) {b : Bool} (eb : b ≡ small_linear (linear_held s)) where
  pub leaf_over : b ≡ false → Grew cap l w n (make_leaf (linear_held s)) l w (halted Over n)
  unfolding make_leaf
  leaf_over e = grew_over (linear_held s) (make (leaf (plain (linear_held s)))) A (sym eb ∙ e)

  module _ (e : b ≡ true) where
    pub leaf_valid : Valid s n
    leaf_valid = record {
      nums = nums_of s long (sym eb ∙ e);
      high_nat = subst (λ (z : ℤ). T (non_neg z)) (sym P.high) tt;
      low_nat = subst (λ (z : ℤ). T (non_neg z)) (sym P.low) tt;
      none = λ e. some_not P.kind e;
      leaf_low = λ _. P.low;
      tested = λ d. no (sym (plain_leaf P) ∙ d);
      high_below = λ d. no (sym (plain_leaf P) ∙ d);
      low_below = λ d. no (sym (plain_leaf P) ∙ d);
    }

    tree_is : tree_of s (trees l n) ≡ leaf (plain (linear_held s))
    tree_is = tree_leaf s (trees l n) (plain_leaf P) ∙ (ap leaf (leaf_some s (some_as P.kind)) ∙ ap (λ (z : ℤ). leaf (some (linear_held s) (nat_abs z))) P.high)

    pub leaf_made : {l₁ : List ℤ} {w₁ : List ℕ} {r : Answer} → Grew cap l w n (make (tree_of s (trees l n))) l₁ w₁ r → Grew cap l w n (make_leaf (linear_held s)) l₁ w₁ r
    unfolding make_leaf
    leaf_made R = grew_judged (linear_held s) (make (leaf (plain (linear_held s)))) (sym eb ∙ e) (grew_as (ap make tree_is) R)

-- ---- the leaf "none"

none_small : (k m : ℕ) → Small (get_or (replicate m (pos 0)) k (pos 0))
none_small k zero = record { small = omega arith }
none_small zero (suc m) = record { small = omega arith }
none_small (suc k) (suc m) = none_small k m

pub none_valid : (n : ℕ) → Valid none_node n
none_valid n = record {
  nums = record { long = refl; each = λ k. none_small k numbers };
  high_nat = tt;
  low_nat = tt;
  none = λ _. refl;
  leaf_low = λ _. refl;
  tested = λ e. branch_not (pos 3) e (none_as refl);
  high_below = λ e. branch_not (pos 3) e (none_as refl);
  low_below = λ e. branch_not (pos 3) e (none_as refl);
}

none_tree : (X : List Tree) → tree_of none_node X ≡ none_leaf
none_tree X = tree_leaf none_node X (none-leaf-kind (pos 3) (none_as refl)) ∙ ap leaf (leaf_none none_node (none_as refl))

pub none_made : {cap : ℕ} {l l₁ : List ℤ} {w w₁ : List ℕ} {n : ℕ} {r : Answer} → Grew cap l w n (make (tree_of none_node (trees l n))) l₁ w₁ r → Grew cap l w n (make none_leaf) l₁ w₁ r
none_made {l = l} {n = n} S = grew_as (ap make (none_tree (trees l n))) S

-- a node's numbers lie within the limits
pub nums_at : {cap : ℕ} {l : List ℤ} {w : List ℕ} {n : ℕ} (A : Bare cap l w n) (f : ℕ) → f < n → {x : Node} → x ≡ node_at l f → Nums x
nums_at A f h e = subst Nums (sym e) (A.good.valid f h).nums
