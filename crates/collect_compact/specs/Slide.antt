-- A table whose marked nodes have slid down.
use Rattle.std.specs.Prelude.{◌≡◌, Bool, true, false, cond, List, [], ◌∷◌, ◌++◌, ℕ, zero, suc, ◌+◌, ◌*◌, ◌≤◌, ◌<◌, ℤ, nat_abs, length, get_or, set}
use Rattle.table.specs.Table.{node_at, put_at, is_leaf}
use Rattle.table_peek.specs.Renumber.{renumber}
use Rattle.theory.specs.Diagram.{Tree}
use Rattle.rule_node.specs.Nodes.{blank, trees, Good}
use Rattle.collect_mark.specs.Mark.{mark_of}

-- how many are marked below i
unfoldable pub rank : (ℕ → Bool) → ℕ → ℕ
rank m zero = zero
rank m (suc i) = cond (m i) (rank m i + 1) (rank m i)

-- the marked ones of the first n
unfoldable pub keep_of : (ℕ → Bool) → List Tree → ℕ → List Tree
keep_of m X zero = []
keep_of m X (suc n) = cond (m n) (keep_of m X n ++ (get_or X n blank ∷ [])) (keep_of m X n)

-- node i goes to index j where it is marked, and its new index into the work words
pub record SlidOne (l : List ℤ) (w : List ℕ) (cap i j : ℕ) (l' : List ℤ) (w' : List ℕ) (r : ℕ) : Type 0 where
  pub next : r ≡ cond (mark_of w i) (j + 1) j
  pub nodes : l' ≡ cond (mark_of w i) (put_at l j (renumber w cap (node_at l i))) l
  pub work : w' ≡ cond (mark_of w i) (set w (cap + i) j) w

-- the first r nodes are marked, and forwarded to where they are; the marks of all nodes stay as they are
pub record Stayed (cap : ℕ) (w w' : List ℕ) (n r : ℕ) : Type 0 where
  pub upto : r ≤ n
  pub marked : (k : ℕ) → k < r → mark_of w k ≡ true
  pub own : (k : ℕ) → k < r → get_or w' (cap + k) 0 ≡ k
  pub marks : (k : ℕ) → k < cap → get_or w' k 0 ≡ get_or w k 0
  pub beyond : (k : ℕ) → cap * 2 ≤ k → get_or w' k 0 ≡ get_or w k 0
  pub len : length w' ≡ length w

-- a marked node's branches are marked
pub record MarksClosed (l : List ℤ) (w : List ℕ) (n : ℕ) : Type 0 where
  pub high : (i : ℕ) → i < n → mark_of w i ≡ true → is_leaf (node_at l i).kind ≡ false → mark_of w (nat_abs (node_at l i).high) ≡ true
  pub low : (i : ℕ) → i < n → mark_of w i ≡ true → is_leaf (node_at l i).kind ≡ false → mark_of w (nat_abs (node_at l i).low) ≡ true

-- what stands after the slide: the marked trees in order, and each marked node's new index
pub record Slid (cap : ℕ) (l l' : List ℤ) (w w' : List ℕ) (n r : ℕ) : Type 0 where
  pub count : r ≡ rank (mark_of w) n
  pub fewer : r ≤ n
  pub good : Good l' r
  pub kept : trees l' r ≡ keep_of (mark_of w) (trees l n) n
  pub moved : (i : ℕ) → i < n → mark_of w i ≡ true → get_or w' (cap + i) 0 ≡ rank (mark_of w) i
  pub beyond : (i : ℕ) → cap * 2 ≤ i → get_or w' i 0 ≡ get_or w i 0
  pub nodes_length : length l' ≡ length l
  pub work_length : length w' ≡ length w
