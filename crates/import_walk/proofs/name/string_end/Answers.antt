use Rattle.import_walk.proofs.name.string_end.Goals as goal

pub returns : goal.returns
returns c = c.scan.ensures
