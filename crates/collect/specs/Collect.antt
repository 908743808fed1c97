-- A collection: the trees that the roots need stay, in order.
use Rattle.std.specs.Prelude.{◌≡◌, Bool, cond, List, [], ◌∷◌, ℕ, zero, suc, ◌+◌, ◌≤◌, ℤ, length, get_or}
use Rattle.theory.specs.Diagram.{Tree}
use Rattle.rule_node.specs.Nodes.{trees, Good}
use Rattle.collect_mark.specs.Mark.{needed, roots_of, Below}

unfoldable pub keep_if : (Tree → Bool) → List Tree → List Tree
keep_if p [] = []
keep_if p (x ∷ X) = cond (p x) (x ∷ keep_if p X) (keep_if p X)

-- the roots with the first j of them at their new indexes
unfoldable pub forwarded : List ℕ → ℕ → ℕ → List ℕ → List ℕ
forwarded w cap zero R = R
forwarded w cap (suc j) [] = []
forwarded w cap (suc j) (r ∷ R) = get_or w (cap + r) 0 ∷ forwarded w cap j R

-- from the nodes l, work words w and roots R of a table of n nodes to those of one of r nodes; whatever its work words then hold
pub record Collected (l l' : List ℤ) (w w' : List ℕ) (R R' : List ℕ) (n r : ℕ) : Type 0 where
  pub kept : trees l' r ≡ keep_if (needed (roots_of (trees l n) R)) (trees l n)
  pub roots : roots_of (trees l' r) R' ≡ roots_of (trees l n) R
  pub below : Below R' r
  pub good : Good l' r
  pub fewer : r ≤ n
  pub nodes_length : length l' ≡ length l
  pub work_length : length w' ≡ length w
  pub roots_length : length R' ≡ length R
