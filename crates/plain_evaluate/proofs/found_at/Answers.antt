-- `plain_evaluate::found_at` meets its contract.
use Rattle.plain_pass.specs.Pass.{slot_of}
use Rattle.plain_pass.proofs.Ends.{part_asks}
use Rattle.plain_evaluate.proofs.found_at.Goals as goal

pub leaf_at-requires : goal.leaf_at-requires
leaf_at-requires c = part_asks c.args.model.now c.args.parts.now (slot_of c.args.g) c.args.x.now _ c.requires.0 c.requires.1 c.requires.2
    c.requires.3 c.requires.4 c.begin.ensures

pub returns : goal.returns
returns c = c.leaf_at.ensures
