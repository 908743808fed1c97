-- A merge on the table: answered, ended at leaves, gone on with, and kept.
use mathlib.Core.Path.{◌≡◌, refl, sym, ap, ◌∙◌, subst}
use mathlib.Core.Logic.{◌⊎◌, inl, inr}
use mathlib.Core.List.{List}
use Prim.Native.Nat.{ℕ, ◌≤◌, ◌<◌}
use native.Mathlib.Nat.{lt_of_lt_of_le}
use native.Mathlib.Omega.{arith}
use lib.IntN.{ℤ}
use Rattle.table.specs.Table.{Answer, stop_of, at_of, count_of, node_at}
use Rattle.theory.specs.Diagram.{Test, Tree}
use Rattle.theory.specs.Computation.{Comp}
use Rattle.theory.specs.Rules.{node, choose, merge, sum, product, best}
use Rattle.rule_node.specs.declared.Sides.{Sides}
use Rattle.rule_node.specs.Nodes.{leaf_of, test_held, tree_at, Root}
use Rattle.rule_node.specs.Table.{Table, RuleRan, Grew, Lasting}
use Rattle.table_cache.specs.Cache.{Key, CacheEntry, slot_of, store_of}
use Rattle.rule_node.specs.EntryMeaning.{rule_by, rule_of}
use Rattle.rule_choose.specs.Choice.{sides_of}
use Rattle.rule_node.proofs.Outcomes.{ran_as, lifted}
use Rattle.rule_node.proofs.Meanings.{lasts_sum, lasts_product, lasts_best}
use Rattle.rule_choose.proofs.MergeSteps.{Ends, Goes, goes_as}
use Rattle.rule_node.proofs.TwoOperands.{On}
use Rattle.rule_node.proofs.RuleSteps.{index_small, key_of, high_stops, low_stops, root_on, high_in, joined}
use Rattle.rule_leaves.specs.Leaves.{AtLeaf}
use Rattle.rule_apply_leaves.specs.Combined.{code_of, leaf_rule}
use Rattle.rule_apply_leaves.specs.declared.Merge.{Merge}
use Rattle.rule_apply_leaves.specs.declared.Merge.TheVariants.{Sum, Product, Best}
use Rattle.rule_apply.specs.Merged.{maker_of}

-- ---- three rules

-- the rule's computation is a merge
pub rule_merge : (l : List ℤ) (n f g : ℕ) (r : Merge) → rule_of l n (code_of r) f g 0 0 ≡ merge (maker_of r) (leaf_rule r) (tree_at l n f) (tree_at l n g)
unfolding rule_of rule_by maker_of leaf_rule sum product best
rule_merge l n f g Sum = refl
rule_merge l n f g Product = refl
rule_merge l n f g Best = refl

pub lasts_merge : (l : List ℤ) (n f g : ℕ) → f < n → g < n → (r : Merge) → Lasting rule_of l n (code_of r) f g 0 0
lasts_merge l n f g hf hg Sum = lasts_sum l n f hf g hg 0 0
lasts_merge l n f g hf hg Product = lasts_product l n f hf g hg 0 0
lasts_merge l n f g hf hg Best = lasts_best l n f hf g hg 0 0

-- with the number that the code has
module _ {k k' : ℕ} (e : k ≡ k') (f g : ℕ) where
  pub key_as : Key k' f g 0 0 → Key k f g 0 0
  key_as = subst (λ (k : ℕ). Key k f g 0 0) (sym e)

  pub found_as : (cap i : ℕ) (w : List ℕ) → CacheEntry w (slot_of cap k f g 0 0) k f g 0 0 i → CacheEntry w (slot_of cap k' f g 0 0) k' f g 0 0 i
  found_as cap i w = subst (λ (k : ℕ). CacheEntry w (slot_of cap k f g 0 0) k f g 0 0 i) e

  pub stored_as : (cap i : ℕ) (w w' : List ℕ) → w' ≡ store_of w (slot_of cap k f g 0 0) k f g 0 0 i → w' ≡ store_of w (slot_of cap k' f g 0 0) k' f g 0 0 i
  stored_as cap i w w' s = s ∙ ap (λ (k : ℕ). store_of w (slot_of cap k f g 0 0) k f g 0 0 i) e

code_small : (r : Merge) → code_of r ≤ 2
code_small Sum = omega arith
code_small Product = omega arith
code_small Best = omega arith

module _ {cap : ℕ} {l : List ℤ} {w : List ℕ} {n : ℕ} (A : Table rule_of cap l w n) (op : Merge) (f g : ℕ) (hf : f < n) (hg : g < n) where
  -- the words fit an entry
  pub merge_key : Key (code_of op) f g 0 0
  merge_key = key_of (let h = code_small op in omega arith) (index_small f A.bare hf) (index_small g A.bare hg) (omega arith) (omega arith)

  -- the sides that the code has
  pub merge_goes : {s : Sides} → s ≡ sides_of (node_at l f) f (node_at l g) g → Goes l n (maker_of op) (leaf_rule op) f g s
  merge_goes e = goes_as A.bare.good (maker_of op) (leaf_rule op) f g hf hg e

  module _ (o : Ends l n (merge (maker_of op) (leaf_rule op)) (leaf_rule op) f g) where
    pub left_leaf : AtLeaf l n f
    left_leaf = record { below = hf; ends = o.left }

    pub right_leaf : AtLeaf l n g
    right_leaf = record { below = hg; ends = o.right }

    -- both are leaves
    pub merge_ends : {l₁ : List ℤ} {w₁ : List ℕ} {r : Answer} → Grew cap l w n (leaf_rule op (leaf_of (node_at l f)) (leaf_of (node_at l g))) l₁ w₁ r → RuleRan rule_of cap l w n (rule_of l n (code_of op) f g 0 0) l₁ w₁ r
    merge_ends Q = ran_as (sym o.is ∙ sym (rule_merge l n f g op)) (lifted A Q)

-- ---- gone on with

module _ {cap : ℕ} {l l₁ : List ℤ} {w w₁ : List ℕ} {n : ℕ} (op : Merge) (f g : ℕ) {s : Sides}
    (o : On l n (merge (maker_of op) (leaf_rule op)) (maker_of op) f g s) {h : Answer} (Q : RuleRan rule_of cap l w n (rule_of l n (code_of op) s.fh s.gh 0 0) l₁ w₁ h) where
  abbrev Done : List ℤ → List ℕ → Answer → Type 0
  Done = RuleRan rule_of cap l w n (rule_of l n (code_of op) f g 0 0)

  abbrev M : Tree → Tree → Comp Tree
  M = merge (maker_of op) (leaf_rule op)

  high : RuleRan rule_of cap l w n (M (tree_at l n s.fh) (tree_at l n s.gh)) l₁ w₁ h
  high = ran_as (rule_merge l n s.fh s.gh op) Q

  out : {l' : List ℤ} {w' : List ℕ} {r : Answer} → RuleRan rule_of cap l w n (M (tree_at l n f) (tree_at l n g)) l' w' r → Done l' w' r
  out P = ran_as (sym (rule_merge l n f g op)) P

  pub high_ended : (stop_of h ≡ 0 → ⊥) → Done l₁ w₁ h
  high_ended off = out (high_stops _ _ _ _ _ _ _ _ _ _ _ o _ high off)

  -- what the low sides ask
  pub low_asks : Table rule_of cap l₁ w₁ (count_of h) × (s.fl < (count_of h)) × (s.gl < (count_of h))
  low_asks = (Q.table, lt_of_lt_of_le o.fl Q.more, lt_of_lt_of_le o.gl Q.more)

  module _ (ok : stop_of h ≡ 0) {l₂ : List ℤ} {w₂ : List ℕ} {k : Answer} (S : RuleRan rule_of cap l₁ w₁ (count_of h) (rule_of l₁ (count_of h) (code_of op) s.fl s.gl 0 0) l₂ w₂ k) where
    low : RuleRan rule_of cap l₁ w₁ (count_of h) (M (tree_at l₁ (count_of h) s.fl) (tree_at l₁ (count_of h) s.gl)) l₂ w₂ k
    low = ran_as (rule_merge l₁ (count_of h) s.fl s.gl op) S

    pub low_ended : (stop_of k ≡ 0 → ⊥) → Done l₂ w₂ k
    low_ended off = out (low_stops _ _ _ _ _ _ _ _ _ _ _ o _ high ok _ _ _ low off)

    module _ (ok' : stop_of k ≡ 0) where
      -- what is asked over the root
      pub root_asks : Table rule_of cap l₂ w₂ (count_of k) × Root l₂ (count_of k) s.root × ((at_of h) < (count_of k)) × ((at_of k) < (count_of k))
      root_asks = (S.table, root_on _ _ _ _ _ _ _ _ _ _ _ o _ high ok _ _ _ low, high_in _ _ _ _ _ _ _ _ _ _ _ o _ high ok _ _ _ low, S.within ok')

      pub root_made : {l₃ : List ℤ} {w₃ : List ℕ} {r : Answer} → RuleRan rule_of cap l₂ w₂ (count_of k) (maker_of op (test_held (node_at l₂ s.root)) (tree_at l₂ (count_of k) (at_of h)) (tree_at l₂ (count_of k) (at_of k))) l₃ w₃ r → Done l₃ w₃ r
      root_made P = out (joined _ _ _ _ _ _ _ _ _ _ _ o _ high ok _ _ _ low ok' _ _ _ P)

-- ---- over a root

module _ (r : Merge) (t : Test) (H L : Tree) where
  pub is_choose : r ≡ Best → choose t H L ≡ maker_of r t H L
  unfolding maker_of
  is_choose e = sym (ap (λ (m : Merge). maker_of m t H L) e)

  pub is_node : (r ≡ Sum) ⊎ (r ≡ Product) → node t H L ≡ maker_of r t H L
  unfolding maker_of
  is_node (inl e) = sym (ap (λ (m : Merge). maker_of m t H L) e)
  is_node (inr e) = sym (ap (λ (m : Merge). maker_of m t H L) e)
