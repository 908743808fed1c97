-- A choice by a command on the table: answered, ended, gone on with, and kept.
use mathlib.Core.Path.{◌≡◌, refl, sym, ap, ap₂, ◌∙◌}
use mathlib.Core.List.{List}
use Prim.Native.Nat.{ℕ, ◌<◌}
use native.Mathlib.Omega.{arith}
use lib.IntN.{ℤ}
use Rattle.table.specs.Table.{node_at, Answer, stop_of, at_of, made}
use Rattle.table.specs.declared.Node.{Node}
use Rattle.theory.specs.Diagram.{Test}
use Rattle.theory.specs.Rules.{choose, node}
use Rattle.rule_node.specs.declared.Sides.{Sides}
use Rattle.rule_node.specs.Nodes.{test_held, tree_at}
use Rattle.rule_node.specs.Roots.{Stood}
use Rattle.rule_node.specs.Table.{Lasting, Table, RuleRan, Grew}
use Rattle.table_cache.specs.Cache.{slot_of, Key, CacheEntry, store_of}
use Rattle.rule_choose.specs.Choice.{choice_of}
use Rattle.rule_node.proofs.Trees.{trees_kept}
use Rattle.rule_node.proofs.Outcomes.{ran_as, grew_as, lifted}
use Rattle.rule_node.proofs.CacheEntries.{answered, kept_run}
use Rattle.rule_choose.proofs.ChoiceSteps.{Here, Chooses, chooses_as}
use Rattle.rule_node.proofs.RuleSteps.{index_small}
use Rattle.load_choose.specs.CommandTest.{Testing, test_at, load_rule}

rule_is : (B : List ℕ) (l : List ℤ) (n op f g p q : ℕ) → load_rule B l n op f g p q ≡ choose (test_at B p) (tree_at l n f) (tree_at l n g)
unfolding load_rule
rule_is B l n op f g p q = refl

module _ {B : List ℕ} {cap : ℕ} {l : List ℤ} {w : List ℕ} {n : ℕ} (A : Table (load_rule B) cap l w n) {at : ℕ} (N : Testing B at) (f g : ℕ) (hf : f < n) (hg : g < n) where
  -- the words fit an entry
  pub choice_key : Key 13 f g at 0
  choice_key =
      let a = index_small f A.bare hf in
      let b = index_small g A.bare hg in
      record { op_fits = omega arith; f_fits = omega arith; g_fits = omega arith; p_fits = N.within; q_fits = omega arith }

  -- the sides that the code has
  pub choice_goes : {z : Node} {s : Sides} → Stood (test_at B at) z → s ≡ choice_of z (node_at l f) f (node_at l g) g → Chooses l n (test_at B at) f g s
  choice_goes {z} S d = chooses_as A.bare.good z S.proper.tested S.test f g hf hg d

  -- the test is first
  pub choice_ends : {z : Node} {s : Sides} {l₁ : List ℤ} {w₁ : List ℕ} {r : Answer} → Here l n (test_at B at) f g s → Stood (test_at B at) z → Grew cap l w n
      (node (test_held z) (tree_at l n s.fh) (tree_at l n s.gl)) l₁ w₁ r → RuleRan (load_rule B) cap l w n (choose (test_at B at) (tree_at l n f) (tree_at l n g)) l₁ w₁ r
  choice_ends {s = s} o S Q = ran_as (sym o.is) (lifted A (grew_as (ap (λ (t : Test). node t (tree_at l n s.fh) (tree_at l n s.gl)) S.test) Q))

  -- an entry answers
  pub choice_answered : (k : ℕ) → CacheEntry w (slot_of cap 13 f g at 0) 13 f g at 0 k → RuleRan (load_rule B) cap l w n (choose (test_at B at) (tree_at l n f) (tree_at l n g)) l w (made k n)
  choice_answered k E = ran_as (rule_is B l n 13 f g at 0) (answered A 13 f g at 0 k E)

  lasts : Lasting (load_rule B) l n 13 f g at 0
  lasts l' n' D = rule_is B l' n' 13 f g at 0 ∙ (ap₂ (choose (test_at B at)) (trees_kept D f hf) (trees_kept D g hg) ∙ sym (rule_is B l n 13 f g at 0))

  -- a result is kept
  pub choice_stored : {l' : List ℤ} {w' w'' : List ℕ} {r : Answer} → RuleRan (load_rule B) cap l w n (choose (test_at B at) (tree_at l n f) (tree_at l n g)) l' w' r
      → stop_of r ≡ 0 → w'' ≡ store_of w' (slot_of cap 13 f g at 0) 13 f g at 0 (at_of r) → RuleRan (load_rule B) cap l w n
      (choose (test_at B at) (tree_at l n f) (tree_at l n g)) l' w'' r
  choice_stored Q ok e =
      let q = rule_is B l n 13 f g at 0 in
      ran_as q (kept_run lasts (ran_as (sym q) Q) ok e)
