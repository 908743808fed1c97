-- `import_words::put_word` meets its contract.
use mathlib.Core.Path.{ap, ◌∙◌}
use Rattle.text_decimal.proofs.Puts.{rename}
use Rattle.import_model.specs.Encode.{low_first}
use Rattle.import_words.proofs.Laws.{as_low_first, word_back}
use Rattle.import_words.proofs.put_word.Goals as goal

pub returns : goal.returns
returns c = rename (as_low_first 4 c.word.result ∙ ap (low_first 4) (word_back c.args.z c.ranges.z c.word.ensures)) c.put_le.ensures
