-- A rule's steps on the table put together.
use mathlib.Core.Path.{◌≡◌, refl, sym, ap, ap₂, ◌∙◌}
use mathlib.Core.Bool.{true, false}
use mathlib.Core.List.{List}
use Prim.Native.Nat.{ℕ, ◌<◌}
use native.Mathlib.Nat.{lt_of_lt_of_le}
use native.Mathlib.Omega.{arith}
use lib.IntN.{ℤ, nat_abs}
use Rattle.table.specs.Table.{Answer, stop_of, at_of, count_of, node_at, is_leaf}
use Rattle.table.specs.declared.Node.{Node}
use Rattle.theory.specs.Diagram.{Test, Leaf, Tree, leaf, branch}
use Rattle.theory.specs.Computation.{Comp, both}
use Rattle.theory.specs.Rules.{over}
use Rattle.rule_node.specs.declared.Sides.{Sides}
use Rattle.rule_node.specs.Nodes.{leaf_of, test_held, tree_at, Good, At, Root}
use Rattle.rule_node.specs.Table.{EntryRule, Bare, RuleRan}
use Rattle.table_cache.specs.Cache.{Key}
use Rattle.rule_node.proofs.Trees.{trees_kept, at_leaf, at_branch}
use Rattle.rule_node.proofs.Outcomes.{grown, ran_as, both_high_stops, both_low_stops, both_high_in, both_made}
use Rattle.rule_node.proofs.BranchNode.{root_kept}
use Rattle.rule_node.proofs.TwoOperands.{On}

-- an index of the table can be read
pub at_in : {cap : ℕ} {l : List ℤ} {w : List ℕ} {n : ℕ} (t : ℕ) → Bare cap l w n → t < n → At l t
at_in t A h = record { words = let q = A.chained.space.room in let r = A.chained.space.words in omega arith; high = (A.good.valid t h).high_nat; low = (A.good.valid t h).low_nat }

-- and fits a word of the cache
pub index_small : {cap : ℕ} {l : List ℤ} {w : List ℕ} {n : ℕ} (t : ℕ) → Bare cap l w n → t < n → t < 65536
index_small t A h = let q = A.chained.space.room in let r = A.chained.space.few in omega arith

pub key_of : {op f g p q : ℕ} → op < 65536 → f < 65536 → g < 65536 → p < 65536 → q < 65536 → Key op f g p q
key_of a b c d e = record { op_fits = omega arith; f_fits = omega arith; g_fits = omega arith; p_fits = omega arith; q_fits = omega arith }

-- the rule m at f and g went on with their high sides, and then with their low sides
module _ {R : EntryRule} (cap : ℕ) (l l₁ : List ℤ) (w w₁ : List ℕ) (n f g : ℕ) (m : Tree → Tree → Comp Tree) (mk : Test → Tree → Tree → Comp Tree) (s : Sides)
    (o : On l n m mk f g s) (h : Answer) (Q : RuleRan R cap l w n (m (tree_at l n s.fh) (tree_at l n s.gh)) l₁ w₁ h) where
  pub high_stops : (stop_of h ≡ 0 → ⊥) → RuleRan R cap l w n (m (tree_at l n f) (tree_at l n g)) l₁ w₁ h
  high_stops off = ran_as (sym o.is) (both_high_stops _ _ Q off)

  module _ (ok : stop_of h ≡ 0) (l₂ : List ℤ) (w₂ : List ℕ) (k : Answer) (S : RuleRan R cap l₁ w₁ (count_of h) (m (tree_at l₁ (count_of h) s.fl) (tree_at l₁ (count_of h) s.gl)) l₂ w₂ k) where
    low : RuleRan R cap l₁ w₁ (count_of h) (m (tree_at l n s.fl) (tree_at l n s.gl)) l₂ w₂ k
    low = ran_as (ap₂ m (trees_kept (grown Q) s.fl o.fl) (trees_kept (grown Q) s.gl o.gl)) S

    pub low_stops : (stop_of k ≡ 0 → ⊥) → RuleRan R cap l w n (m (tree_at l n f) (tree_at l n g)) l₂ w₂ k
    low_stops off = ran_as (sym o.is) (both_low_stops _ _ Q ok low off)

    -- the root stands where it stood
    pub root_on : Root l₂ (count_of k) s.root
    root_on = root_kept (grown S) (root_kept (grown Q) (record { below = o.root; branches = o.test }))

    pub high_in : at_of h < count_of k
    high_in = both_high_in (mk (test_held (node_at l s.root))) _ Q ok low

    -- and with what is made of the two
    pub joined : stop_of k ≡ 0 → (l₃ : List ℤ) (w₃ : List ℕ) (r : Answer) → RuleRan R cap l₂ w₂ (count_of k)
        (mk (test_held (node_at l₂ s.root)) (tree_at l₂ (count_of k) (at_of h)) (tree_at l₂ (count_of k) (at_of k))) l₃ w₃ r → RuleRan R cap l w n
        (m (tree_at l n f) (tree_at l n g)) l₃ w₃ r
    joined ok' l₃ w₃ r P =
        ran_as (sym o.is) (both_made _ _ Q ok low ok'
        (ran_as (ap (λ (x : Node). mk (test_held x) (tree_at l₂ (count_of k) (at_of h)) (tree_at l₂ (count_of k) (at_of k))) (S.kept s.root (lt_of_lt_of_le o.root Q.more) ∙ Q.kept s.root o.root)) P))

-- ---- rules of one operand, each leaf in turn

module _ (mk : Test → Tree → Tree → Comp Tree) (op : Leaf → Comp Tree) where
  over_l : (g : Leaf) → over mk op (leaf g) ≡ op g
  unfolding over
  over_l g = refl

  over_b : (u : Test) (h l : Tree) → over mk op (branch u h l) ≡ both (mk u) (over mk op h) (over mk op l)
  unfolding over
  over_b u h l = refl

  module _ {l : List ℤ} {n : ℕ} (G : Good l n) (f : ℕ) (hf : f < n) where
    -- at a leaf
    pub over_leaf : is_leaf (node_at l f).kind ≡ true → over mk op (tree_at l n f) ≡ op (leaf_of (node_at l f))
    over_leaf e = ap (over mk op) (at_leaf G f hf e) ∙ over_l _

    -- at a branch
    pub over_branch : is_leaf (node_at l f).kind ≡ false → over mk op (tree_at l n f) ≡ both (mk (test_held (node_at l f))) (over mk op (tree_at l n (nat_abs (node_at l f).high))) (over mk op (tree_at l n (nat_abs (node_at l f).low)))
    over_branch e = ap (over mk op) (at_branch G f hf e) ∙ over_b _ _ _
