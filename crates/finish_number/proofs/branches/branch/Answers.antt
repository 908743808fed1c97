use Prim.Native.Nat.{◌+◌, ◌*◌}
use lib.IntN.{pos}
use lib.ListN.{get_or}
use Rattle.table.specs.Table.{node_words}
use Rattle.table.proofs.Tests.{nat_back, abs_of}
use Rattle.finish_number.proofs.branches.branch.Goals as goal

pub index-requires : goal.index-requires
index-requires c = nat_back (get_or c.args.nodes.now (c.args.i * node_words + c.args.word) (pos 0)) c.z-1.given c.requires.2

pub returns : goal.returns
returns c = abs_of (get_or c.args.nodes.now (c.args.i * node_words + c.args.word) (pos 0)) c.z-1.given c.index.ensures
