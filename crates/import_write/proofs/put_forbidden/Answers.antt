-- `import_write::put_forbidden` meets its contract.
use native.Mathlib.Omega.{arith}
use Rattle.text_decimal.proofs.Puts.{rename}
use Rattle.import_write.proofs.Laws.{forbidden_length, forbidden_is}
use borrow.Author.Rules.{rules}
use Rattle.import_write.proofs.put_forbidden.Goals as goal

pub put_byte-requires : goal.put_byte-requires
put_byte-requires c = omega (arith, c.requires, forbidden_length)

pub returns : goal.returns
returns c = rename forbidden_is c.put_byte.ensures
