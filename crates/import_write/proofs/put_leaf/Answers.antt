-- `import_write::put_leaf` meets its contract.
use native.Mathlib.Omega.{arith}
use Rattle.text_decimal.proofs.Puts.{rename}
use Rattle.import_write.proofs.Laws.{leaf_length, leaf_is}
use borrow.Author.Rules.{rules}
use Rattle.import_write.proofs.put_leaf.Goals as goal

pub put_linear-requires : goal.put_linear-requires
put_linear-requires c = (c.requires.0, omega (arith, c.requires.1, leaf_length c.args.a c.well_formed.1.1.0.1.0.1))

pub returns : goal.returns
returns c = rename (leaf_is c.args.a) c.put_linear.ensures
