-- One operation: what its rule computes of the roots' diagrams, and what it leaves.
use Rattle.std.specs.Prelude.{◌≡◌, List, [], ◌∷◌, ◌++◌, ℕ, suc, ◌+◌, ◌^◌, max, ◌≤◌, ◌<◌, ℤ, pos, length, get_or, take, drop, replicate}
use Rattle.whole.specs.Linears.{numbers}
use Rattle.table.specs.declared.Node.{Node}
use Rattle.theory.specs.Widths.{levels_most, conditions_most, actions_most, weights_most}
use Rattle.theory.specs.Diagram.{Tree}
use Rattle.theory.specs.Computation.{Comp, make}
use Rattle.theory.specs.Rules.{best, zero_leaf, substitute, expectation, add_reward}
use Rattle.rule_node.specs.Nodes.{blank, trees, tree_at, Good}
use Rattle.table_unique.specs.Unique.{Space}
use Rattle.collect_mark.specs.Mark.{roots_of, Below}
use Rattle.collect.specs.Collect.{Collected}
use Rattle.solve_laws.specs.Alike.{Alike}
use Rattle.solve_laws.specs.Onward.{Works, Stops}
use Rattle.solve_laws.specs.Roots.{Rooted}
use Rattle.solve_operation.specs.declared.Rule.{Rule}
use Rattle.solve_operation.specs.declared.Rule.TheVariants.{Zero, Levels, Expect, Reward, Best}
use Rattle.solve_operation.specs.declared.Run.{Run}

-- ---- rules, of the diagrams Q

abbrev pub substitutes : List Tree → ℕ → ℕ → ℕ → Comp Tree
substitutes Q at m f = substitute (take m (drop at Q)) (get_or Q f blank)

unfoldable pub comp_of : List Tree → Rule → Comp Tree
comp_of Q Zero = make zero_leaf
comp_of Q (Levels at m f) = substitutes Q at m f
comp_of Q (Expect w k f weights) = expectation weights (get_or Q w blank) k (get_or Q f blank)
comp_of Q (Reward reward f weights exponent action) = add_reward (weights ^ exponent) (get_or Q reward blank) action (get_or Q f blank)
comp_of Q (Best f g) = best (get_or Q f blank) (get_or Q g blank)

-- the leaf 0, in words
unfoldable pub zero_node : Node
zero_node = record { kind = pos 0; n = replicate numbers (pos 0); high = pos 0; low = pos 0 }

-- places among n roots
abbrev pub FitsLevels : ℕ → ℕ → ℕ → ℕ → Type 0
FitsLevels n at m f = (at + m ≤ n) × (0 < m) × (m ≤ levels_most) × (f < n)

unfoldable pub FitsRule : ℕ → Rule → Type 0
FitsRule n Zero = 0 ≤ n
FitsRule n (Levels at m f) = FitsLevels n at m f
FitsRule n (Expect w k f weights) = (w < n) × (0 < k) × (k ≤ conditions_most) × (f < n) × (weights ≤ weights_most)
FitsRule n (Reward reward f weights exponent action) = (reward < n) × (f < n) × (action ≤ actions_most)
FitsRule n (Best f g) = (f < n) × (g < n)

-- ---- the table with its roots

-- the diagrams of the first roots
abbrev pub held_trees : List ℤ → ℕ → List ℕ → ℕ → List Tree
held_trees l n R held = roots_of (trees l n) (take held R)

-- a table of n nodes, the first roots in it; whatever the work words hold
pub record Standing (cap : ℕ) (l : List ℤ) (w : List ℕ) (n : ℕ) (R : List ℕ) (held : ℕ) : Type 0 where
  pub good : Good l n
  pub space : Space cap l w n
  pub below : Below (take held R) n
  pub few : held ≤ length R

-- collected: the first roots moved, the others left alone
pub record Kept (l l' : List ℤ) (w w' R R' : List ℕ) (held n r : ℕ) : Type 0 where
  pub collected : Collected l l' w w' (take held R) (take held R') n r
  pub others : drop held R' ≡ drop held R

-- the operation on the diagrams of the first roots, in whatever order they are named: it works, and its result stands as the last root, or it stops
pub record Operated (cap p : ℕ) (l : List ℤ) (n : ℕ) (R : List ℕ) (held to : ℕ) (rule : Rule) (l' : List ℤ) (w' R' : List ℕ) (r : Run) : Type 0 where
  pub works : r.stop ≡ 0 → (K : List Tree) → Alike (held_trees l n R held) K → Works cap K (comp_of (held_trees l n R held) rule) (tree_at l' r.count (get_or R' to 0)) r.count
  pub stops : (r.stop ≡ 0 → ⊥) → (K : List Tree) → Alike (held_trees l n R held) K → Stops cap K (comp_of (held_trees l n R held) rule) r.stop
  pub rooted : r.stop ≡ 0 → Rooted cap l' w' r.count (take (suc to) R') (take to (held_trees l n R held) ++ (tree_at l' r.count (get_or R' to 0) ∷ []))
  pub peak : r.peak ≡ max p r.count
