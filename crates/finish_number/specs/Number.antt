-- The canonical numbering, as it stands in the work words.
use Rattle.std.specs.Prelude.{◌≡◌, List, [], ◌∷◌, ◌++◌, map, ℕ, zero, suc, ◌+◌, ◌*◌, ◌≤◌, ◌<◌, ℤ, length, get_or, set}
use Rattle.theory.specs.Widths.{nodes_most, node_words}
use Rattle.theory.specs.Diagram.{Tree}
use Rattle.theory.specs.Computation.{enter, enter_all}
use Rattle.theory.specs.Events.{Distinct}
use Rattle.theory.specs.Solve.{number_of}
use Rattle.rule_node.specs.Nodes.{blank, trees, tree_at, Good}

-- a table of n nodes in words that have room for cap
pub record TableHeld (cap : ℕ) (l : List ℤ) (n : ℕ) : Type 0 where
  pub good : Good l n
  pub room : n ≤ cap
  pub few : cap ≤ nodes_most
  pub words : cap * node_words ≤ length l

-- each root is a node
pub record Roots (R : List ℕ) (n : ℕ) : Type 0 where
  pub below : (j : ℕ) → j < length R → get_or R j 0 < n

-- the trees of the roots
abbrev pub trees_of : List ℤ → ℕ → List ℕ → List Tree
trees_of l n R = map (λ r. tree_at l n r) R

-- none of n nodes has a number
abbrev pub Unnumbered : ℕ → ℕ → List ℕ → Type 0
Unnumbered cap n w = (i : ℕ) → i < n → get_or w (cap + i) 0 ≡ 0

-- ---- at 0 to cap the index of each number's node, at cap to 2 cap each node's number, 0 for none

-- the trees numbered so far, X being those of the table
unfoldable pub list_of : List Tree → List ℕ → ℕ → List Tree
list_of X w zero = []
list_of X w (suc k) = list_of X w k ++ (get_or X (get_or w k 0) blank ∷ [])

-- c nodes have numbers
pub record Numbered (cap : ℕ) (l : List ℤ) (n : ℕ) (w : List ℕ) (c : ℕ) : Type 0 where
  pub works : cap * 2 ≤ length w
  pub distinct : Distinct (list_of (trees l n) w c)
  pub within : (k : ℕ) → k < c → get_or w k 0 < n
  pub inverse : (k : ℕ) → k < c → get_or w (cap + get_or w k 0) 0 ≡ suc k
  pub numbers : (i : ℕ) → i < n → get_or w (cap + i) 0 ≡ number_of (tree_at l n i) (list_of (trees l n) w c)

-- node i gets the number after c
unfoldable pub assigned : List ℕ → ℕ → ℕ → ℕ → List ℕ
assigned w cap c i = set (set w c i) (cap + i) (c + 1)

-- a tree has been entered
pub record TreeNumbered (cap : ℕ) (l : List ℤ) (n : ℕ) (w w' : List ℕ) (c r : ℕ) (t : Tree) : Type 0 where
  pub state : Numbered cap l n w' r
  pub listed : list_of (trees l n) w' r ≡ enter t (list_of (trees l n) w c)

-- the roots' trees have been entered, and no others
pub record RootsListed (cap : ℕ) (l : List ℤ) (n : ℕ) (w' : List ℕ) (r : ℕ) (R : List ℕ) : Type 0 where
  pub state : Numbered cap l n w' r
  pub listed : list_of (trees l n) w' r ≡ enter_all (trees_of l n R) []
