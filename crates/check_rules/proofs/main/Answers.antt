-- `check_rules::main` meets its contract: an array of so many zeros has that length, which nothing computes word by word.
use Rattle.std.proofs.Common.{◌*◌, pos, sym}
use lib.ListN.{length-replicate}
use Rattle.table.specs.Table.{node_words}
use Rattle.check_rules.specs.Held.{cap}
use Rattle.check_rules.proofs.main.Goals as goal

pub slice_bounds-run-end : goal.slice_bounds-run-end
slice_bounds-run-end c = sym (length-replicate (cap * node_words) (pos 0))
