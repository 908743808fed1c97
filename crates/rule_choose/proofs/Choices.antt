-- A choice on the table: by the test that an entry's words give, answered, ended, gone on with, and kept.
use mathlib.Core.Path.{◌≡◌, refl, sym, ap}
use mathlib.Core.List.{List}
use Prim.Native.Nat.{ℕ, ◌<◌}
use native.Mathlib.Omega.{arith}
use lib.IntN.{ℤ}
use Rattle.table.specs.Table.{Answer, stop_of, at_of, made, node_at}
use Rattle.table.specs.declared.Node.{Node}
use Rattle.theory.specs.Diagram.{Test, Tree}
use Rattle.theory.specs.Rules.{choose, node}
use Rattle.rule_node.specs.declared.Sides.{Sides}
use Rattle.rule_node.specs.Nodes.{test_held, tree_at, Grown}
use Rattle.rule_node.specs.Table.{EntryRule, Table, RuleRan, Grew}
use Rattle.table_cache.specs.Cache.{slot_of, Key, CacheEntry, store_of}
use Rattle.rule_node.specs.EntryMeaning.{test_by, NamesTest, rule_of}
use Rattle.rule_node.specs.Roots.{test_node}
use Rattle.rule_choose.specs.Choice.{choice_of}
use Rattle.rule_node.proofs.Outcomes.{ran_as, grew_as, lifted}
use Rattle.rule_node.proofs.CacheEntries.{answered, kept_run}
use Rattle.rule_choose.proofs.ChoiceSteps.{Here, Chooses, chooses_as}
use Rattle.rule_node.proofs.Meanings.{rule_choose, names_small, test_kept, test_proper, test_is, lasts_choose}
use Rattle.rule_node.proofs.RuleSteps.{index_small, key_of}

module _ {R : EntryRule} {cap : ℕ} {l : List ℤ} {w : List ℕ} {n : ℕ} (A : Table R cap l w n) {op p : ℕ} (N : NamesTest n op p) (f g : ℕ) (hf : f < n) (hg : g < n) where
  -- the words fit an entry
  pub choice_key : Key op f g p 0
  choice_key =
      let s = names_small A.bare N in
      key_of s.0 (index_small f A.bare hf) (index_small g A.bare hg) s.1 (omega arith)

  -- the sides that the code has
  pub choice_goes : {s : Sides} → s ≡ choice_of (test_node l op p) (node_at l f) f (node_at l g) g → Chooses l n (test_by l n op p) f g s
  choice_goes d = chooses_as A.bare.good (test_node l op p) (test_proper A.bare.good N refl).tested (test_is A.bare.good N refl) f g hf hg d

  -- the test is first
  pub choice_ends : {s : Sides} {l₁ : List ℤ} {w₁ : List ℕ} {r : Answer} → Here l n (test_by l n op p) f g s → Grew cap l w n
      (node (test_held (test_node l op p)) (tree_at l n s.fh) (tree_at l n s.gl)) l₁ w₁ r → RuleRan R cap l w n (choose (test_by l n op p) (tree_at l n f) (tree_at l n g)) l₁ w₁ r
  choice_ends {s} o Q = ran_as (sym o.is) (lifted A (grew_as (ap (λ (t : Test). node t (tree_at l n s.fh) (tree_at l n s.gl)) (test_is A.bare.good N refl)) Q))

-- a node over the branches at h and k, its test as it was told
pub test_told : {cap : ℕ} {l l₁ : List ℤ} {w w₁ : List ℕ} {n : ℕ} (h k : ℕ) {z z' : Node} {r : Answer} → z ≡ z' → Grew cap l w n (node (test_held z) (tree_at l n h) (tree_at l n k)) l₁ w₁ r → Grew cap l w n (node (test_held z') (tree_at l n h) (tree_at l n k)) l₁ w₁ r
test_told {l = l} {n = n} h k e Q = grew_as (ap (λ (z : Node). node (test_held z) (tree_at l n h) (tree_at l n k)) e) Q

-- the choice at a table that has grown
pub choice_kept : {R : EntryRule} {cap : ℕ} {l l₁ l₂ : List ℤ} {w₁ w₂ : List ℕ} {n n₁ : ℕ} {op p : ℕ} (D : Grown l n l₁ n₁) (N : NamesTest n op p) (F G : Tree) {r : Answer}
    → RuleRan R cap l₁ w₁ n₁ (choose (test_by l₁ n₁ op p) F G) l₂ w₂ r → RuleRan R cap l₁ w₁ n₁ (choose (test_by l n op p) F G) l₂ w₂ r
choice_kept D N F G Q = ran_as (ap (λ (t : Test). choose t F G) (test_kept D N)) Q

module _ {cap : ℕ} {l : List ℤ} {w : List ℕ} {n : ℕ} (A : Table rule_of cap l w n) {op p : ℕ} (N : NamesTest n op p) (f g : ℕ) (hf : f < n) (hg : g < n) where
  -- an entry answers
  pub choice_answered : (k : ℕ) → CacheEntry w (slot_of cap op f g p 0) op f g p 0 k → RuleRan rule_of cap l w n (choose (test_by l n op p) (tree_at l n f) (tree_at l n g)) l w (made k n)
  choice_answered k E = ran_as (rule_choose l n f g p 0 op N) (answered A op f g p 0 k E)

  -- a result is kept
  pub choice_stored : {l' : List ℤ} {w' w'' : List ℕ} {r : Answer} → RuleRan rule_of cap l w n (choose (test_by l n op p) (tree_at l n f) (tree_at l n g)) l' w' r → stop_of r ≡ 0
      → w'' ≡ store_of w' (slot_of cap op f g p 0) op f g p 0 (at_of r) → RuleRan rule_of cap l w n (choose (test_by l n op p) (tree_at l n f) (tree_at l n g)) l' w'' r
  choice_stored Q ok e =
      let q = rule_choose l n f g p 0 op N in
      ran_as q (kept_run (lasts_choose l n f hf g hg op p 0 N) (ran_as (sym q) Q) ok e)
