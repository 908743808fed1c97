-- The walk of a diagram on the table.
use mathlib.Core.Path.{◌≡◌, refl, sym, ap, ◌∙◌, subst}
use mathlib.Core.Bool.{Bool, true, false}
use mathlib.Core.Logic.{inr}
use mathlib.Core.List.{List}
use Prim.Native.Nat.{ℕ, ◌<◌}
use native.Mathlib.Nat.{lt_of_lt_of_le}
use native.Mathlib.Omega.{arith}
use lib.IntN.{ℤ, pos}
use lib.Signed.{le_z}
use Rattle.whole.specs.Cases.{if}
use Rattle.whole.proofs.Signed.{R, small_back}
use Rattle.table.specs.Table.{Answer, stop_of, at_of, count_of, made, node_at, is_leaf}
use Rattle.table.specs.declared.Node.{Node}
use Rattle.theory.specs.Widths.{levels_most}
use Rattle.theory.specs.Diagram.{Linear, Test, lin_of, Tree, leaf, zeros, test_of}
use Rattle.theory.specs.Computation.{Comp, ret}
use Rattle.theory.specs.Rules.{over, choose, decide}
use Rattle.rule_node.specs.declared.Down.{Down}
use Rattle.rule_node.specs.declared.Sides.{Sides}
use Rattle.rule_node.specs.Nodes.{linear_held, constant_of, leaf_of, tree_at, Valid, Root}
use Rattle.rule_node.specs.Table.{Table, RuleRan}
use Rattle.table_cache.specs.Cache.{Key}
use Rattle.rule_node.specs.EntryMeaning.{test_in, test_by, NamesTest, rule_of}
use Rattle.rule_node.specs.Roots.{down_of, left_sides}
use Rattle.rule_node.proofs.Trees.{leaf_lin, at_leaf, trees_kept}
use Rattle.rule_node.proofs.Outcomes.{grown, ran_as, ran_ret}
use Rattle.rule_node.proofs.TwoOperands.{On, left_on}
use Rattle.rule_node.proofs.Meanings.{rule_walk, root_test}
use Rattle.rule_node.proofs.RuleSteps.{index_small, key_of, high_stops, low_stops, root_on, high_in, joined, over_leaf, over_branch}
use Rattle.rule_leaves.specs.Leaves.{AtLeaf}
use Rattle.rule_leaves.proofs.Sums.{decide_constant, decide_test}

-- ---- at a leaf

-- the test that a leaf names
leaf_test : (l : List ℤ) (n f : ℕ) (x : Node) → Valid x f → tree_at l n f ≡ leaf (leaf_of x) → test_by l n 11 f ≡ test_of (linear_held x)
unfolding test_by test_in
leaf_test l n f x v e = ap test_in e ∙ ap test_of (leaf_lin x v)

module _ {cap : ℕ} {l : List ℤ} {w : List ℕ} {n : ℕ} (A : Table rule_of cap l w n) (f g p : ℕ) (F : AtLeaf l n f) (hg : g < n) (hp : p < n) {x : Node} (ex : x ≡ node_at l f) {c : Bool} (ec : c ≡ zeros (linear_held x).coeffs) where
  abbrev Decided : List ℤ → List ℕ → Answer → Type 0
  Decided = RuleRan rule_of cap l w n (decide (linear_held (node_at l f)) (tree_at l n g) (tree_at l n p))

  abbrev y : Node
  y = node_at l f

  pub decided_constant : c ≡ true → {k : ℕ} {v : ℤ} → v ≡ constant_of x → k ≡ if (le_z (R v) (pos 0)) g p → Decided l w (made k n)
  unfolding linear_held
  decided_constant q {k} {v} ev e =
      ran_as (sym (decide_constant (linear_held y) (tree_at l n g) (tree_at l n p) (ap (λ (x : Node). zeros (linear_held x).coeffs) (sym ex) ∙ (sym ec ∙ q))))
      (go (le_z (constant_of y) (pos 0)) (e ∙ ap (λ (z : ℤ). if (le_z z (pos 0)) g p) (ap R (ev ∙ ap constant_of ex) ∙ small_back (constant_of y) ((A.bare.good.valid f F.below).nums.each levels_most))))
    where
      go : (b : Bool) → k ≡ if b g p → RuleRan rule_of cap l w n (if b (ret (tree_at l n g)) (ret (tree_at l n p))) l w (made k n)
      go true e = subst (λ (j : ℕ). RuleRan rule_of cap l w n (ret (tree_at l n g)) l w (made j n)) (sym e) (ran_ret A g hg)
      go false e = subst (λ (j : ℕ). RuleRan rule_of cap l w n (ret (tree_at l n p)) l w (made j n)) (sym e) (ran_ret A p hp)

  pub decided_test : c ≡ false → {l₁ : List ℤ} {w₁ : List ℕ} {r : Answer} → RuleRan rule_of cap l w n (choose (test_by l n 11 f) (tree_at l n g) (tree_at l n p)) l₁ w₁ r → Decided l₁ w₁ r
  decided_test q Q = ran_as
      (ap (λ (t : Test). choose t (tree_at l n g) (tree_at l n p)) (leaf_test l n f y (A.bare.good.valid f F.below) (at_leaf A.bare.good f F.below F.ends))
      ∙ sym (decide_test (linear_held y) (tree_at l n g) (tree_at l n p) (ap (λ (x : Node). zeros (linear_held x).coeffs) (sym ex) ∙ (sym ec ∙ q))))
      Q

-- ---- the walk

-- the leaves' low side first, so that the rest is a rule of two operands
abbrev pub walked : Tree → Tree → Tree → Comp Tree
walked P F G = over choose (λ x. decide (lin_of x) G P) F

module _ {cap : ℕ} {l : List ℤ} {w : List ℕ} {n : ℕ} (A : Table rule_of cap l w n) (f g p : ℕ) (hf : f < n) (hg : g < n) (hp : p < n) where
  -- the words fit an entry
  pub walk_key : Key 9 f g p 0
  walk_key = key_of (omega arith) (index_small f A.bare hf) (index_small g A.bare hg) (index_small p A.bare hp) (omega arith)

  kind_of : {s : Down} → s ≡ down_of (node_at l f) → is_leaf (node_at l f).kind ≡ s.ends
  unfolding down_of
  kind_of e = ap (λ (s : Down). s.ends) (sym e)

  module _ {s : Down} (es : s ≡ down_of (node_at l f)) where
    pub walk_leaf : s.ends ≡ true → AtLeaf l n f
    walk_leaf q = record { below = hf; ends = kind_of es ∙ q }

    -- it is a leaf
    pub walk_ends : s.ends ≡ true → {l₁ : List ℤ} {w₁ : List ℕ} {r : Answer} → RuleRan rule_of cap l w n (decide (linear_held (node_at l f)) (tree_at l n g) (tree_at l n p)) l₁ w₁ r → RuleRan rule_of cap l w n (rule_of l n 9 f g p 0) l₁ w₁ r
    walk_ends q Q = ran_as
        (sym (rule_walk l n f g p 0 ∙ (over_leaf choose (λ x. decide (lin_of x) (tree_at l n g) (tree_at l n p)) A.bare.good f hf (kind_of es ∙ q)
        ∙ ap (λ (z : Linear). decide z (tree_at l n g) (tree_at l n p)) (leaf_lin (node_at l f) (A.bare.good.valid f hf)))))
        Q

    -- it is a branch
    pub walk_on : s.ends ≡ false → On l n (walked (tree_at l n p)) choose f g (left_sides s f g)
    walk_on q = subst (λ (s : Down). On l n (walked (tree_at l n p)) choose f g (left_sides s f g)) (sym es)
        (left_on A.bare.good f g hf hg (walked (tree_at l n p)) choose (kind_of es ∙ q) (over_branch choose (λ x. decide (lin_of x) (tree_at l n g) (tree_at l n p)) A.bare.good f hf (kind_of es ∙ q)))

-- ---- gone on with

module _ {cap : ℕ} {l l₁ : List ℤ} {w w₁ : List ℕ} {n : ℕ} (f g p : ℕ) (hp : p < n) {s : Sides} (o : On l n (walked (tree_at l n p)) choose f g s) {h : Answer} (Q : RuleRan rule_of cap l w n (rule_of l n 9 s.fh s.gh p 0) l₁ w₁ h) where
  abbrev Done : List ℤ → List ℕ → Answer → Type 0
  Done = RuleRan rule_of cap l w n (rule_of l n 9 f g p 0)

  abbrev M : Tree → Tree → Comp Tree
  M = walked (tree_at l n p)

  high : RuleRan rule_of cap l w n (M (tree_at l n s.fh) (tree_at l n s.gh)) l₁ w₁ h
  high = ran_as (rule_walk l n s.fh s.gh p 0) Q

  out : {l' : List ℤ} {w' : List ℕ} {r : Answer} → RuleRan rule_of cap l w n (M (tree_at l n f) (tree_at l n g)) l' w' r → Done l' w' r
  out P = ran_as (sym (rule_walk l n f g p 0)) P

  pub high_ended : (stop_of h ≡ 0 → ⊥) → Done l₁ w₁ h
  high_ended off = out (high_stops _ _ _ _ _ _ _ _ _ _ _ o _ high off)

  -- what the low sides ask
  pub low_asks : Table rule_of cap l₁ w₁ (count_of h) × (s.fl < (count_of h)) × (s.gl < (count_of h)) × (p < (count_of h))
  low_asks = (Q.table, lt_of_lt_of_le o.fl Q.more, lt_of_lt_of_le o.gl Q.more, lt_of_lt_of_le hp Q.more)

  module _ (ok : stop_of h ≡ 0) {l₂ : List ℤ} {w₂ : List ℕ} {k : Answer} (S : RuleRan rule_of cap l₁ w₁ (count_of h) (rule_of l₁ (count_of h) 9 s.fl s.gl p 0) l₂ w₂ k) where
    low : RuleRan rule_of cap l₁ w₁ (count_of h) (M (tree_at l₁ (count_of h) s.fl) (tree_at l₁ (count_of h) s.gl)) l₂ w₂ k
    low = ran_as (rule_walk l₁ (count_of h) s.fl s.gl p 0 ∙ ap (λ (P : Tree). walked P (tree_at l₁ (count_of h) s.fl) (tree_at l₁ (count_of h) s.gl)) (trees_kept (grown Q) p hp)) S

    pub low_ended : (stop_of k ≡ 0 → ⊥) → Done l₂ w₂ k
    low_ended off = out (low_stops _ _ _ _ _ _ _ _ _ _ _ o _ high ok _ _ _ low off)

    root : Root l₂ (count_of k) s.root
    root = root_on _ _ _ _ _ _ _ _ _ _ _ o _ high ok _ _ _ low

    module _ (ok' : stop_of k ≡ 0) where
      -- what is asked over the root
      pub root_asks : Table rule_of cap l₂ w₂ (count_of k) × NamesTest (count_of k) 11 s.root × ((at_of h) < (count_of k)) × ((at_of k) < (count_of k))
      root_asks = (S.table, inr (refl, root.below), high_in _ _ _ _ _ _ _ _ _ _ _ o _ high ok _ _ _ low, S.within ok')

      pub root_made : {l₃ : List ℤ} {w₃ : List ℕ} {r : Answer} → RuleRan rule_of cap l₂ w₂ (count_of k) (choose (test_by l₂ (count_of k) 11 s.root) (tree_at l₂ (count_of k) (at_of h)) (tree_at l₂ (count_of k) (at_of k))) l₃ w₃ r → Done l₃ w₃ r
      root_made P = out (joined _ _ _ _ _ _ _ _ _ _ _ o _ high ok _ _ _ low ok' _ _ _ (ran_as (ap (λ (t : Test). choose t (tree_at l₂ (count_of k) (at_of h)) (tree_at l₂ (count_of k) (at_of k))) (root_test S.table root)) P))
