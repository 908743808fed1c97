-- `import_words::put_action` meets its contract.
use mathlib.Core.Path.{ap, ◌∙◌}
use Rattle.import_model.specs.Encode.{low_first}
use Rattle.text_decimal.proofs.Puts.{rename}
use Rattle.import_words.proofs.Laws.{as_low_first}
use Rattle.import_words.proofs.put_action.Goals as goal

pub returns : goal.returns
returns c = rename {l' = c.put_le.new.out} {n = c.put_le.result} (as_low_first 2 c.from.result ∙ ap (low_first 2) c.from.ensures) c.put_le.ensures
