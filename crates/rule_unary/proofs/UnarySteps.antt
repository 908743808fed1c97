-- A rule's steps on the table put together, each by what its entry's words mean.
use mathlib.Core.Path.{◌≡◌, sym, ◌∙◌, subst}
use mathlib.Core.List.{List}
use Prim.Native.Nat.{ℕ, ◌<◌}
use native.Mathlib.Nat.{lt_of_lt_of_le}
use native.Mathlib.Omega.{arith}
use lib.IntN.{ℤ}
use Rattle.table.specs.Table.{Answer, stop_of, at_of, count_of, node_at}
use Rattle.theory.specs.Diagram.{Tree}
use Rattle.theory.specs.Computation.{Comp}
use Rattle.theory.specs.Rules.{node}
use Rattle.rule_node.specs.Nodes.{test_held, tree_at, Root}
use Rattle.rule_node.specs.Table.{Bare, Table, RuleRan, Grew}
use Rattle.rule_node.specs.EntryMeaning.{rule_of}
use Rattle.rule_node.proofs.Outcomes.{ran_as, lifted}
use Rattle.rule_node.proofs.RuleSteps.{high_stops, low_stops, root_on, high_in, joined}
use Rattle.rule_node.proofs.TwoOperands.{On}
use Rattle.rule_leaves.specs.Leaves.{AtLeaf}
use Rattle.rule_unary_node.specs.declared.Way.{Way}
use Rattle.rule_unary_node.specs.declared.Way.TheVariants.{End, Pick, Both}
use Rattle.rule_unary_node.specs.Acts.{act_of, Acts, way_of}
use Rattle.rule_unary_node.proofs.RulesByNumber.{rule_as}
use Rattle.rule_unary_node.proofs.WayOn.{Picked, Passes, passes_as, sides_by, alone}

module _ {cap : ℕ} {l : List ℤ} {w : List ℕ} {n : ℕ} (A : Table rule_of cap l w n) {op p q : ℕ} (K : Acts op p q) (f : ℕ) (hf : f < n) {s : Way} (e : s ≡ way_of op p (node_at l f)) where
  abbrev rule : List ℤ → ℕ → ℕ → Comp Tree
  rule l n i = rule_of l n op i 0 p q

  way : Passes l n (act_of op p q) f s
  way = passes_as A.bare.good K f hf e

  -- at a leaf
  pub walk_ends : s ≡ End → AtLeaf l n f
  walk_ends t = record { below = hf; ends = subst (Passes l n (act_of op p q) f) t way }

  pub walk_ended : {l₁ : List ℤ} {w₁ : List ℕ} {r : Answer} → Grew cap l w n (act_of op p q (tree_at l n f)) l₁ w₁ r → RuleRan rule_of cap l w n (rule l n f) l₁ w₁ r
  walk_ended S = ran_as (sym (rule_as K l n f)) (lifted A S)

  -- with the branch that is picked
  module _ {i : ℕ} (t : s ≡ Pick i) where
    picked : Picked l n (act_of op p q) f i
    picked = subst (Passes l n (act_of op p q) f) t way

    pub pick_falls : i < f
    pick_falls = picked.high

    pub pick_in : i < n
    pick_in = let a = pick_falls in omega arith

    pub walk_picked : {l₁ : List ℤ} {w₁ : List ℕ} {r : Answer} → RuleRan rule_of cap l w n (rule l n i) l₁ w₁ r → RuleRan rule_of cap l w n (rule l n f) l₁ w₁ r
    walk_picked S = ran_as (rule_as K l n i ∙ (sym picked.is ∙ sym (rule_as K l n f))) S

  -- with both branches
  module _ {high low : ℕ} (t : s ≡ Both high low) where
    on : On l n (alone (act_of op p q)) node f 0 (sides_by high low f)
    on = subst (Passes l n (act_of op p q) f) t way

    pub high_falls : high < f
    high_falls = let a = on.high in omega arith

    pub low_falls : low < f
    low_falls = let a = on.low in omega arith

    pub walk_high : high < n
    walk_high = on.fh

    module _ {l₁ : List ℤ} {w₁ : List ℕ} {h : Answer} (Q : RuleRan rule_of cap l w n (rule l n high) l₁ w₁ h) where
      Q' : RuleRan rule_of cap l w n (act_of op p q (tree_at l n high)) l₁ w₁ h
      Q' = ran_as (rule_as K l n high) Q

      pub high_stopped : (stop_of h ≡ 0 → ⊥) → RuleRan rule_of cap l w n (rule l n f) l₁ w₁ h
      high_stopped off = ran_as (sym (rule_as K l n f)) (high_stops cap l l₁ w w₁ n f 0 (alone (act_of op p q)) node (sides_by high low f) on h Q' off)

      pub walk_low : low < (count_of h)
      walk_low = lt_of_lt_of_le on.fl Q.more

      module _ (ok : stop_of h ≡ 0) {l₂ : List ℤ} {w₂ : List ℕ} {k : Answer} (S : RuleRan rule_of cap l₁ w₁ (count_of h) (rule l₁ (count_of h) low) l₂ w₂ k) where
        S' : RuleRan rule_of cap l₁ w₁ (count_of h) (act_of op p q (tree_at l₁ (count_of h) low)) l₂ w₂ k
        S' = ran_as (rule_as K l₁ (count_of h) low) S

        pub low_stopped : (stop_of k ≡ 0 → ⊥) → RuleRan rule_of cap l w n (rule l n f) l₂ w₂ k
        low_stopped off = ran_as (sym (rule_as K l n f)) (low_stops cap l l₁ w w₁ n f 0 (alone (act_of op p q)) node (sides_by high low f) on h Q' ok l₂ w₂ k S' off)

        pub join_asks : stop_of k ≡ 0 → Bare cap l₂ w₂ (count_of k) × Root l₂ (count_of k) f × ((at_of h) < (count_of k)) × ((at_of k) < (count_of k))
        join_asks ok' = (
          S.table.bare,
          root_on cap l l₁ w w₁ n f 0 (alone (act_of op p q)) node (sides_by high low f) on h Q' ok l₂ w₂ k S',
          high_in cap l l₁ w w₁ n f 0
              (alone (act_of op p q)) node (sides_by high low f) on h Q' ok l₂ w₂ k S',
          S.within ok',
        )

        pub walk_joined : stop_of k ≡ 0 → {l₃ : List ℤ} {w₃ : List ℕ} {r : Answer} → Grew cap l₂ w₂ (count_of k)
            (node (test_held (node_at l₂ f)) (tree_at l₂ (count_of k) (at_of h)) (tree_at l₂ (count_of k) (at_of k))) l₃ w₃ r → RuleRan rule_of cap l w n (rule l n f) l₃ w₃ r
        walk_joined ok' {l₃} {w₃} {r} P = ran_as (sym (rule_as K l n f)) (joined cap l l₁ w w₁ n f 0 (alone (act_of op p q)) node (sides_by high low f) on h Q' ok l₂ w₂ k S' ok' l₃ w₃ r (lifted S.table P))
