-- `model_command::word` meets its contract: `word_at` by definition.
use Rattle.theory.specs.Command.{word_at}
use Rattle.model_command.proofs.word.Goals as goal

pub returns : goal.returns
unfolding word_at
returns c = c.from_le_bytes.ensures
