use Rattle.import_walk.proofs.Joined.{byte_joined}
use Rattle.import_walk.proofs.name.name_byte.Goals as goal

pub returns : goal.returns
returns c = byte_joined _ _ _ _ _ c.ahead-from.ensures c.character.ensures
