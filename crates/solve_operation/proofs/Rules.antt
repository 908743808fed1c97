-- The rule of an operation, run on the diagrams at roots.
use mathlib.Core.Path.{◌≡◌, refl, sym, ap, ap₂, ◌∙◌, subst}
use Rattle.table.specs.Table.{Answer}
use mathlib.Core.Bool.{Bool, true}
use mathlib.Core.List.{List}
use Prim.Native.Nat.{ℕ, ◌^◌, ◌≤◌, ◌<◌}
use lib.IntN.{ℤ}
use lib.ListN.{length, get_or}
use Rattle.whole.specs.Cases.{if}
use Rattle.whole.specs.Within.{small}
use Rattle.table.specs.declared.Node.{Node}
use Rattle.theory.specs.Widths.{conditions_most, actions_most, weights_most}
use Rattle.theory.specs.Diagram.{Tree, leaf, plain, no_coeffs}
use Rattle.theory.specs.Computation.{Comp, run, stopped, make}
use Rattle.theory.specs.Rules.{best, zero_leaf, make_leaf, expectation, add_reward}
use Rattle.theory.specs.Valid.{small_linear, all}
use Rattle.theory.proofs.laws.Comps.{run_judge}
use Rattle.rule_node.specs.Nodes.{trees, tree_at, linear_held, Plain}
use Rattle.rule_node.specs.Table.{Table, RuleRan, Grew}
use Rattle.rule_node.specs.EntryMeaning.{rule_by, rule_of}
use Rattle.rule_node.proofs.Outcomes.{lifted, ran_as, ran_like}
use Rattle.collect_mark.specs.Mark.{roots_of}
use Rattle.solve_laws.specs.Operated.{roots_at}
use Rattle.solve_operation.specs.Operation.{comp_of, zero_node, substitutes, FitsRule, FitsLevels}
use Rattle.solve_operation.specs.declared.Rule.{Rule}
use Rattle.solve_operation.specs.declared.Rule.TheVariants.{Zero, Levels, Expect, Reward, Best}

-- ---- the leaf 0

pub zero_plain : {s : Node} → s ≡ zero_node → Plain s
unfolding zero_node
zero_plain e = subst Plain (sym e) (record { kind = refl; high = refl; low = refl })

zero_small : small_linear (linear_held zero_node) ≡ true
unfolding zero_node linear_held small_linear all small
zero_small = refl

zero_lin : make (leaf (plain (linear_held zero_node))) ≡ make zero_leaf
unfolding zero_node linear_held zero_leaf no_coeffs
zero_lin = refl

-- its numbers are within the limits
zero_run : (cap : ℕ) (X : List Tree) → run cap (make_leaf (linear_held zero_node)) X ≡ run cap (make zero_leaf) X
unfolding make_leaf
zero_run cap X =
    let p = linear_held zero_node in
    let m = make (leaf (plain p)) in
    run_judge cap p m X ∙ (ap (λ (b : Bool). if b (run cap m X) (stopped 11)) zero_small ∙ ap (λ (c : Comp Tree). run cap c X) zero_lin)

-- ---- each rule, where the code took it apart

module _ {cap n : ℕ} {l l' : List ℤ} {w w' : List ℕ} {r : Answer} (R : List ℕ) (rule : Rule) where
  pub zero_ran : {s : Node} → rule ≡ Zero → s ≡ zero_node → Table rule_of cap l w n → Grew cap l w n (make_leaf (linear_held s)) l' w' r → RuleRan rule_of cap l w n (comp_of (roots_of (trees l n) R) rule) l' w' r
  unfolding comp_of
  zero_ran e q A G =
      ran_as (ap (comp_of (roots_of (trees l n) R)) (sym e))
      (ran_like (zero_run cap (trees l n)) (lifted A (subst (λ (s : Node). Grew cap l w n (make_leaf (linear_held s)) l' w' r) q G)))

  pub levels_took : {at m f : ℕ} → rule ≡ Levels at m f → RuleRan rule_of cap l w n (substitutes (roots_of (trees l n) R) at m f) l' w' r → RuleRan rule_of cap l w n (comp_of (roots_of (trees l n) R) rule) l' w' r
  unfolding comp_of
  levels_took e S = ran_as (ap (comp_of (roots_of (trees l n) R)) (sym e)) S

  pub expect_took : {v k f weights : ℕ} → rule ≡ Expect v k f weights → FitsRule (length R) rule → RuleRan rule_of cap l w n
      (expectation weights (tree_at l n (get_or R v 0)) k (tree_at l n (get_or R f 0))) l' w' r → RuleRan rule_of cap l w n (comp_of (roots_of (trees l n) R) rule) l' w' r
  unfolding comp_of FitsRule
  expect_took {v} {k} {f} {weights} e F S =
      let X = trees l n in
      let G = subst (FitsRule (length R)) e F in
      ran_as (ap₂ (λ (a b : Tree). expectation weights a k b) (sym (roots_at X R v G.0)) (sym (roots_at X R f G.3)) ∙ ap (comp_of (roots_of X R)) (sym e)) S

  pub reward_took : {v f weights exponent action : ℕ} → rule ≡ Reward v f weights exponent action → FitsRule (length R) rule → RuleRan rule_of cap l w n
      (add_reward (weights ^ exponent) (tree_at l n (get_or R v 0)) action (tree_at l n (get_or R f 0))) l' w' r → RuleRan rule_of cap l w n
      (comp_of (roots_of (trees l n) R) rule) l' w' r
  unfolding comp_of FitsRule
  reward_took {v} {f} {weights} {exponent} {action} e F S =
      let X = trees l n in
      let G = subst (FitsRule (length R)) e F in
      ran_as (ap₂ (λ (a b : Tree). add_reward (weights ^ exponent) a action b) (sym (roots_at X R v G.0)) (sym (roots_at X R f G.1)) ∙ ap (comp_of (roots_of X R)) (sym e)) S

  pub best_took : {f g : ℕ} → rule ≡ Best f g → FitsRule (length R) rule → RuleRan rule_of cap l w n (rule_of l n 2 (get_or R f 0) (get_or R g 0) 0 0) l' w' r → RuleRan rule_of cap l w n (comp_of (roots_of (trees l n) R) rule) l' w' r
  unfolding comp_of FitsRule rule_of rule_by
  best_took {f} {g} e F S =
      let X = trees l n in
      let G = subst (FitsRule (length R)) e F in
      ran_as (ap₂ best (sym (roots_at X R f G.0)) (sym (roots_at X R g G.1)) ∙ ap (comp_of (roots_of X R)) (sym e)) S

-- ---- what the rules ask

module _ (N : ℕ) (rule : Rule) (F : FitsRule N rule) where
  pub levels_fit : {at m f : ℕ} → rule ≡ Levels at m f → FitsLevels N at m f
  unfolding FitsRule
  levels_fit e = subst (FitsRule N) e F

  pub expect_fit : {v k f weights : ℕ} → rule ≡ Expect v k f weights → (v < N) × (0 < k) × (k ≤ conditions_most) × (f < N) × (weights ≤ weights_most)
  unfolding FitsRule
  expect_fit e = subst (FitsRule N) e F

  pub reward_fit : {v f weights exponent action : ℕ} → rule ≡ Reward v f weights exponent action → (v < N) × (f < N) × (action ≤ actions_most)
  unfolding FitsRule
  reward_fit e = subst (FitsRule N) e F

  pub best_fit : {f g : ℕ} → rule ≡ Best f g → (f < N) × (g < N)
  unfolding FitsRule
  best_fit e = subst (FitsRule N) e F
