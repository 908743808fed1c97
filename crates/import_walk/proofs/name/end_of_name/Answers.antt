use Rattle.import_walk.proofs.Joined.{name_joined}
use Rattle.import_walk.proofs.name.end_of_name.Goals as goal

pub returns : goal.returns
returns c = name_joined _ _ _ _ _ c.ahead-from.ensures c.string_end-end.ensures c.next_letter.ensures
