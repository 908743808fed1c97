use Rattle.solve_operation.proofs.Parts.{rehashed_table, ran_came}
use Rattle.solve_operation.proofs.attempt.Goals as goal

pub rehash-requires : goal.rehash-requires
rehash-requires c = c.requires.0

pub compute-requires : goal.compute-requires
compute-requires c = (rehashed_table c.requires.0 c.requires.1 c.rehash.ensures, c.requires.2, c.requires.3)

pub returns : goal.returns
returns c = ran_came c.compute.ensures
