-- `import_write::put_test` meets its contract.
use native.Mathlib.Omega.{arith}
use Rattle.text_decimal.proofs.Puts.{rename}
use Rattle.import_write.proofs.Laws.{test_length, test_is}
use borrow.Author.Rules.{rules}
use Rattle.import_write.proofs.put_test.Goals as goal

pub put_linear-requires : goal.put_linear-requires
put_linear-requires c = (c.requires.0, omega (arith, c.requires.1, test_length c.args.a c.well_formed.1.1.0.1.0.1))

pub returns : goal.returns
returns c = rename {l' = c.put_linear.new.out} {n = c.put_linear.result} (test_is c.args.a) c.put_linear.ensures
