-- The nodes that roots need: those of the roots' diagrams.
use Rattle.std.specs.Prelude.{◌≡◌, Bool, true, false, cond, not, ◌||◌, List, [], ◌∷◌, ℕ, zero, suc, ◌≤◌, ◌<◌, eqb, ℤ, nat_abs, length, get_or, set}
use Rattle.table.specs.Table.{is_leaf}
use Rattle.table.specs.Table.{node_at}
use Rattle.theory.specs.Diagram.{Tree, leaf, branch, same}
use Rattle.rule_node.specs.Nodes.{blank, trees}

-- whether t is s or stands below it
unfoldable pub sub : Tree → Tree → Bool
sub t (leaf f) = same t (leaf f)
sub t (branch x h l) = same t (branch x h l) || (sub t h || sub t l)

-- whether t is or stands below one of S
unfoldable pub needed : List Tree → Tree → Bool
needed [] t = false
needed (s ∷ S) t = sub t s || needed S t

-- the trees of the roots
unfoldable pub roots_of : List Tree → List ℕ → List Tree
roots_of X [] = []
roots_of X (r ∷ R) = get_or X r blank ∷ roots_of X R

-- each root is a node
pub record Below (R : List ℕ) (n : ℕ) : Type 0 where
  pub at : (j : ℕ) → j < length R → get_or R j 0 < n

-- ---- marks

-- whether a node is marked
unfoldable pub mark_of : List ℕ → ℕ → Bool
mark_of w i = not (eqb (get_or w i 0) 0)

unfoldable pub flag : Bool → ℕ
flag true = 1
flag false = 0

-- the work words with the branches of node i marked where it is marked
unfoldable pub mark_step : List ℤ → List ℕ → ℕ → List ℕ
mark_step l w i = cond (mark_of w i) (cond (is_leaf (node_at l i).kind) w (set (set w (nat_abs (node_at l i).high) 1) (nat_abs (node_at l i).low) 1)) w

-- so for the nodes below i, from the last down
unfoldable pub mark_down : List ℤ → List ℕ → ℕ → List ℕ
mark_down l w zero = w
mark_down l w (suc i) = mark_down l (mark_step l w i) i

-- what a mark pass leaves: a word of 1 for each node that the roots need, 0 for the others
pub record Marked (cap : ℕ) (l : List ℤ) (w w' : List ℕ) (R : List ℕ) (n : ℕ) : Type 0 where
  pub marks : (i : ℕ) → i < n → get_or w' i 0 ≡ flag (needed (roots_of (trees l n) R) (get_or (trees l n) i blank))
  pub beyond : (i : ℕ) → n ≤ i → i < cap → get_or w' i 0 ≡ 0
  pub rest : (i : ℕ) → cap ≤ i → get_or w' i 0 ≡ get_or w i 0
  pub len : length w' ≡ length w
