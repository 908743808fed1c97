-- "An accepted path's last node is replaced, on that path only, by its other branch": the nodes above it are copied behind the last row, the root's copy last.
use Rattle.std.specs.Prelude.{◌≡◌, Bool, not, List, ℕ, ◌+◌, ◌-◌, ◌≤◌, ◌<◌, eqb, ltb, ℤ, pos, length, get_or}
use Rattle.whole.specs.Cases.{if}
use Rattle.table.specs.Table.{node_at, put_at}
use Rattle.table.specs.declared.Node.{Node}
use Rattle.table_rows.specs.Row.{Inside}
use Rattle.prune_paths.specs.Prune.{diagram_at, cut, GoodRows}
use Rattle.prune_rows.specs.Rows.{branch_at}

-- turn k is "1 high"
abbrev pub is_high : List ℕ → ℕ → Bool
is_high turns k = eqb (get_or turns k 0) 1

-- the row after row r, turn k being taken there
abbrev pub next_at : List ℤ → List ℕ → ℕ → ℕ → ℕ
next_at W turns k r = branch_at W r (is_high turns k)

-- what stands in for row r, where turn k is taken: "its other branch" if it is the path's last node, else its copy, row c
unfoldable pub stand_in : List ℤ → List ℕ → ℕ → ℕ → ℕ → ℕ
stand_in W turns k r c = if (ltb (k + 1) (length turns)) c (branch_at W r (not (is_high turns k)))

-- a node with another branch on one side
unfoldable pub turned : Node → Bool → ℕ → Node
turned x high b = if high (record { kind = x.kind; n = x.n; high = pos b; low = x.low }) (record { kind = x.kind; n = x.n; high = x.high; low = pos b })

-- ---- a row copied

-- what stands in for the row after row r, whose copy is row c
abbrev pub below : List ℤ → List ℕ → ℕ → ℕ → ℕ → ℕ
below l turns k r c = stand_in l turns (k + 1) (next_at l turns k r) (c - 1)

-- row r can be copied to row c, turn k being taken there and not the last
pub record CopyReady (l : List ℤ) (turns : List ℕ) (k r c : ℕ) : Type 0 where
  pub more : k + 1 < length turns
  pub row : Inside l r
  pub next : Inside l (next_at l turns k r)
  pub copy : Inside l c
  pub lower : below l turns k r c < c

-- it is, over what stands in for the next
pub record CopyStepped (l : List ℤ) (turns : List ℕ) (k r c : ℕ) (l' : List ℤ) (next : ℕ) : Type 0 where
  pub goes : next ≡ next_at l turns k r
  pub nodes : l' ≡ put_at l (c - 1) (turned (node_at l (r - 1)) (is_high turns k) (below l turns k r c))

-- ---- the path copied

-- a row for each turn but the last, behind the rows up to `last`
abbrev pub rows_after : ℕ → List ℕ → ℕ
rows_after last turns = last + (length turns - 1)

-- row r of W' is the diagram of W's row `root`, the path cut off; rows up to `last` keep theirs
pub record Copied (W W' : List ℤ) (root : ℕ) (turns : List ℕ) (last r : ℕ) : Type 0 where
  pub rows : GoodRows W' (rows_after last turns)
  pub kept : (i : ℕ) → 1 ≤ i → i ≤ last → diagram_at W' i ≡ diagram_at W i
  pub is : diagram_at W' r ≡ cut turns (diagram_at W root)
  pub above : 1 ≤ r
  pub within : r ≤ rows_after last turns
