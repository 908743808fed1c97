-- `import_write::put_end` meets its contract.
use native.Mathlib.Omega.{arith}
use Rattle.text_decimal.proofs.Puts.{rename}
use Rattle.import_write.proofs.Laws.{end_length, end_is}
use borrow.Author.Rules.{rules}
use Rattle.import_write.proofs.put_end.Goals as goal

pub put_byte-requires : goal.put_byte-requires
put_byte-requires c = omega (arith, c.requires, end_length)

pub returns : goal.returns
returns c = rename end_is c.put_byte.ensures
