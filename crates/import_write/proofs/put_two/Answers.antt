-- `import_write::put_two` meets its contract.
use native.Mathlib.Omega.{arith}
use Rattle.text_decimal.proofs.Puts.{then}
use borrow.Author.Rules.{rules}
use Rattle.import_write.proofs.put_two.Goals as goal

pub returns : goal.returns
returns c = then (omega (arith, c.requires)) c.put_byte-n.ensures c.put_byte.ensures
