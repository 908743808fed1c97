-- A node whose branches have been given other indexes.
use Rattle.std.specs.Prelude.{◌≡◌, false, cond, List, ℕ, ◌+◌, ◌<◌, pos, nat_abs, get_or}
use Rattle.table.specs.Table.{is_leaf}
use Rattle.table.specs.declared.Node.{Node}

-- a node with its branches' new indexes, which the words have from cap on
unfoldable pub renumber : List ℕ → ℕ → Node → Node
renumber w cap x =
    cond (is_leaf x.kind) x
    (record { kind = x.kind; n = x.n; high = pos (get_or w (cap + nat_abs x.high) 0); low = pos (get_or w (cap + nat_abs x.low) 0) })

-- branches, where there are some, are below cap
pub record InsideRoom (x : Node) (cap : ℕ) : Type 0 where
  pub high : is_leaf x.kind ≡ false → nat_abs x.high < cap
  pub low : is_leaf x.kind ≡ false → nat_abs x.low < cap
