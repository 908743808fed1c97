use Rattle.import_walk.proofs.steps.next_letter.Goals as goal

pub returns : goal.returns
returns c = c.scan.ensures
