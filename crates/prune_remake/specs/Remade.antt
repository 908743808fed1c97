-- The rows of a lent table made anew, in its own place.
use Rattle.std.specs.Prelude.{◌≡◌, List, ℕ, suc, ◌+◌, ◌-◌, ◌*◌, ◌≤◌, ◌<◌, ℤ, nat_abs, get_or}
use Rattle.whole.specs.Cases.{if}
use Rattle.table.specs.Table.{node_at, is_leaf}
use Rattle.table.specs.declared.Node.{Node}
use Rattle.theory.specs.Diagram.{Tree, leaf}
use Rattle.theory.specs.Computation.{Comp, make, result}
use Rattle.theory.specs.Rules.{node}
use Rattle.rule_node.specs.Nodes.{leaf_of, test_held, tree_at}
use Rattle.rule_node.specs.Table.{Bare}
use Rattle.prune_paths.specs.Prune.{diagram_at, remade}

-- where row i has gone: an index of the new table; behind the chains' words
abbrev pub forward : ℕ → List ℕ → ℕ → ℕ
forward cap w i = get_or w (cap * 2 + i) 0

-- ---- a row

-- the diagram that a branch has become; rows are numbered from 1, indexes from 0
abbrev pub branch_anew : ℕ → List ℤ → List ℕ → ℕ → ℤ → Tree
branch_anew cap l w n z = tree_at l n (forward cap w (nat_abs z - 1))

-- a row made anew, its test as it stands, over what its branches have become
unfoldable pub row_anew : ℕ → List ℤ → List ℕ → ℕ → Node → Comp Tree
row_anew cap l w n x = if (is_leaf x.kind) (make (leaf (leaf_of x))) (node (test_held x) (branch_anew cap l w n x.high) (branch_anew cap l w n x.low))

-- ---- all rows

-- the first k rows have gone to nodes that are there
abbrev pub Gone : ℕ → List ℕ → ℕ → ℕ → Type 0
Gone cap w n k = (i : ℕ) → i < k → forward cap w i < n

-- the first k rows of W are made anew as the n nodes of l, and the others stand as they were
pub record Remade (cap : ℕ) (W l : List ℤ) (w : List ℕ) (n k : ℕ) : Type 0 where
  pub bare : Bare cap l w n
  pub fewer : n ≤ k
  pub there : Gone cap w n k
  pub is : (i : ℕ) → i < k → tree_at l n (forward cap w i) ≡ result (remade (diagram_at W (suc i)))
  pub rest : (i : ℕ) → k ≤ i → node_at l i ≡ node_at W i
