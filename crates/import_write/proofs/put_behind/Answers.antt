-- `import_write::put_behind` meets its contract.
use native.Mathlib.Omega.{arith}
use Rattle.text_decimal.proofs.Puts.{then}
use Rattle.import_write.proofs.Laws.{action_length}
use borrow.Author.Rules.{rules}
use Rattle.import_write.proofs.put_behind.Goals as goal

pub put_byte-requires : goal.put_byte-requires
put_byte-requires c = omega (arith, c.requires, c.put_action-n.ensures.behind, action_length c.args.action, c.put_action-n.auto.out)

pub returns : goal.returns
returns c = then (omega (arith, c.requires)) c.put_action-n.ensures c.put_byte.ensures
