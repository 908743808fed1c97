use Rattle.solve_value_iteration.proofs.Parts.{emptied, brought}
use Rattle.solve_value_iteration.proofs.load_within.Goals as goal

pub rehash-requires : goal.rehash-requires
rehash-requires c = c.requires.2

pub load-requires : goal.load-requires
load-requires c = (c.requires.0, c.requires.1, emptied c.args.model.now c.requires.2 c.rehash.ensures, c.requires.3)

pub returns : goal.returns
returns c = brought c.load.ensures
