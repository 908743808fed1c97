use Rattle.import_walk.proofs.Joined.{action_joined}
use Rattle.import_walk.proofs.opening.action_at.Goals as goal

pub returns : goal.returns
returns c = action_joined _ _ _ _ _ _ c.word_len-n.ensures.0 c.word_len-n.ensures.1 c.ahead-from.ensures c.number_at.ensures
