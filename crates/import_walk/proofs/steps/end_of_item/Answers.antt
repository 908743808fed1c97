use Rattle.import_walk.proofs.Joined.{item_joined}
use Rattle.import_walk.proofs.steps.end_of_item.Goals as goal

pub returns : goal.returns
returns c = item_joined _ _ _ _ _ c.next_letter-other.ensures c.past-result.ensures c.next_letter.ensures
