-- `import_write::put_name` meets its contract.
use native.Mathlib.Omega.{arith}
use Rattle.text_decimal.proofs.Puts.{then, rename}
use Rattle.import_write.proofs.Laws.{action_length, name_length, name_is}
use borrow.Author.Rules.{rules}
use Rattle.import_write.proofs.put_name.Goals as goal

pub put_acting-n-requires : goal.put_acting-n-requires
put_acting-n-requires c = omega (arith, c.requires, name_length c.args.action c.args.name.now)

pub put_bytes-requires : goal.put_bytes-requires
put_bytes-requires c = omega (arith, c.requires, name_length c.args.action c.args.name.now, c.put_acting-n.ensures.behind, action_length c.args.action, c.put_acting-n.auto.out)

pub returns : goal.returns
returns c = rename (name_is c.args.action c.args.name.now) (then (omega (arith, c.requires)) c.put_acting-n.ensures c.put_bytes.ensures)
