-- What a step leaves.
use Rattle.std.specs.Prelude.{ℕ, Option, Some, None}
use Rattle.table.specs.Table.{Answer, count_of}

-- how many nodes there are after a step on a table of n; a step that asks for what is not there makes none
abbrev pub nodes_after : ℕ → Option Answer → ℕ
nodes_after n None = n
nodes_after n (Some r) = count_of r
