-- The next levels' diagrams, and a sum over them.
use Rattle.std.specs.Prelude.{List, map, ℕ, ◌≤◌, ◌<◌, ℤ, length, get_or, drop}
use Rattle.table.specs.Table.{node_at}
use Rattle.theory.specs.Widths.{levels_most}
use Rattle.theory.specs.Diagram.{Tree}
use Rattle.theory.specs.Computation.{Comp, bind}
use Rattle.theory.specs.Rules.{scale, sum, sum_on}
use Rattle.rule_node.specs.Nodes.{linear_held, tree_at}

-- one to four indexes; 0 beyond them is a node too
pub record Levels (n : ℕ) (L : List ℕ) : Type 0 where
  pub below : (k : ℕ) → get_or L k 0 < n
  pub some : 1 ≤ length L
  pub most : length L ≤ levels_most

-- their diagrams
abbrev pub levels_at : List ℤ → ℕ → List ℕ → List Tree
levels_at l n L = map (tree_at l n) L

-- the sum at f with the levels behind the first, each by its coefficient in the linear of node i
abbrev pub levels_added : List ℤ → ℕ → ℕ → ℕ → List ℕ → Comp Tree
levels_added l n i f L = sum_on (tree_at l n f) (drop 1 (linear_held (node_at l i)).coeffs) (drop 1 (levels_at l n L))

-- the running sum F with c times D
unfoldable pub add_on : ℤ → Tree → Tree → Comp Tree
add_on c D F = bind (scale c D) (λ G. sum F G)
