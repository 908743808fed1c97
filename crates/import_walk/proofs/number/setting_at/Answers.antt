use Rattle.import_walk.proofs.Joined.{setting_joined}
use Rattle.import_walk.proofs.number.setting_at.Goals as goal

pub returns : goal.returns
returns c = setting_joined _ _ _ _ _ c.past-at.ensures c.number_at.ensures
