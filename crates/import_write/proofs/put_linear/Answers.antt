-- `import_write::put_linear` meets its contract.
use native.Mathlib.Omega.{arith}
use Rattle.text_decimal.proofs.Puts.{then, rename}
use Rattle.import_write.proofs.Laws.{linear_is}
use borrow.Author.Rules.{rules}
use Rattle.import_write.proofs.put_linear.Goals as goal

pub returns : goal.returns
returns c = then (omega (arith, c.requires.1)) c.put_byte-n.ensures (rename (linear_is c.args.a c.well_formed.1.1.1.0.1.0.1) c.put_words.ensures)
