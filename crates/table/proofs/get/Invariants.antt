-- `table::get` meets its contract: the first k numbers are the words behind the kind.
use Prim.Native.Nat.{◌+◌, ◌*◌}
use lib.IntN.{pos}
use lib.ListN.{get_or}
use Rattle.whole.specs.Linears.{numbers}
use Rattle.whole.proofs.Filled.{Filled}
use Rattle.table.specs.Table.{node_words}
use Rattle.table.proofs.get.Given as goal

abbrev pub invariant-loop-k : goal.invariant-loop-k
invariant-loop-k l = Filled numbers (λ j. get_or l.nodes (l.i * node_words + 1 + j) (pos 0)) l.k l.n
