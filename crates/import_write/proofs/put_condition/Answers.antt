-- `import_write::put_condition` meets its contract.
use native.Mathlib.Omega.{arith}
use Rattle.text_decimal.proofs.Puts.{rename}
use Rattle.import_write.proofs.Laws.{condition_length, condition_is}
use borrow.Author.Rules.{rules}
use Rattle.import_write.proofs.put_condition.Goals as goal

pub put_two-requires : goal.put_two-requires
put_two-requires c = omega (arith, c.requires, condition_length c.args.condition)

pub returns : goal.returns
returns c = rename (condition_is c.args.condition) c.put_two.ensures
