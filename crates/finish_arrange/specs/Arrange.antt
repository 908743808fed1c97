-- Nodes brought into an order, in place: at 0 to cap the index of each number's node, at cap to 2 cap each node's number, 0 for none.
use Rattle.std.specs.Prelude.{◌≡◌, List, ℕ, zero, suc, ◌+◌, ◌*◌, ◌≤◌, ◌<◌, ℤ, length, get_or, set}
use Rattle.table.specs.Table.{node_at, put_at}
use Rattle.table_peek.specs.Renumber.{renumber}

-- nodes k and p in each other's place
unfoldable pub swap_rows : List ℤ → ℕ → ℕ → List ℤ
swap_rows l k p = put_at (put_at l k (node_at l p)) p (node_at l k)

-- p as the place of number q, where there is such a number
unfoldable pub placed : List ℕ → ℕ → ℕ → List ℕ
placed w zero p = w
placed w (suc m) p = set w m p

unfoldable pub swap_places : List ℕ → ℕ → ℕ → ℕ → List ℕ
swap_places w cap k p = placed (set w (cap + p) (get_or w (cap + k) 0)) (get_or w (cap + k) 0) p

-- from k on, the places and the numbers are inverse
pub record Inverse (cap n : ℕ) (w : List ℕ) (k c : ℕ) : Type 0 where
  pub upto : c ≤ n
  pub fits : n ≤ cap
  pub works : cap * 2 ≤ length w
  pub within : (m : ℕ) → k ≤ m → m < c → (k ≤ get_or w m 0) × (get_or w m 0 < n)
  pub number : (m : ℕ) → k ≤ m → m < c → get_or w (cap + get_or w m 0) 0 ≡ suc m
  pub order : (i : ℕ) → k ≤ i → i < n → (m : ℕ) → get_or w (cap + i) 0 ≡ suc m → (k ≤ m) × (m < c) × (get_or w m 0 ≡ i)

-- each of the first c places has the node that the order names
pub record Arranged (l l' : List ℤ) (w : List ℕ) (c : ℕ) : Type 0 where
  pub len : length l' ≡ length l
  pub at : (m : ℕ) → m < c → node_at l' m ≡ node_at l (get_or w m 0)

-- each node has its branches' numbers
pub record Rewritten (l l' : List ℤ) (w : List ℕ) (cap n : ℕ) : Type 0 where
  pub len : length l' ≡ length l
  pub at : (i : ℕ) → i < n → node_at l' i ≡ renumber w cap (node_at l i)
