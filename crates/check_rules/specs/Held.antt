-- What a step on a table of n nodes leaves: a right table with the same room, of no fewer, and a result in it.
use Rattle.table.specs.Table.{Answer, stop_of, at_of, count_of}
use Rattle.std.specs.Prelude.{◌≡◌, List, ℕ, ◌<◌, ◌≤◌, ℤ}
use Rattle.rule_node.specs.Table.{Table}
use Rattle.rule_node.specs.EntryMeaning.{rule_of}

-- what the program's table holds
abbrev pub cap : ℕ
cap = 49152

pub record RulesHeld (n : ℕ) (l : List ℤ) (w : List ℕ) (r : Answer) : Type 0 where
  pub table : Table rule_of cap l w (count_of r)
  pub within : stop_of r ≡ 0 → (at_of r) < (count_of r)
  pub more : n ≤ (count_of r)
