use Rattle.std.proofs.Common.{refl, arith}
use Rattle.table_unique.specs.Unique.{next_of}
use Rattle.table_unique.proofs.next.Goals as goal

pub returns : goal.returns
unfolding next_of
returns c = (refl, omega arith)
