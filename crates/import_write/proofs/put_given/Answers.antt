-- `import_write::put_given` meets its contract.
use native.Mathlib.Omega.{arith}
use Rattle.text_decimal.proofs.Puts.{then, rename}
use Rattle.import_write.proofs.Laws.{reward_length, reward_is, end_worth_length, end_worth_is, indexed_length, indexed_is}
use borrow.Author.Rules.{rules}
use Rattle.import_write.proofs.put_given.Goals as goal

pub put_acting-requires : goal.put_acting-requires
put_acting-requires c = omega (arith, c.requires, reward_length c.args.command c.args.action c.args.index c.if-command-eq32.true)

pub returns-then-command-eq32 : goal.returns-then-command-eq32
returns-then-command-eq32 c = rename (reward_is c.args.command c.args.action c.args.index c.if-command-eq32.true) c.put_acting.ensures

pub put_byte-requires : goal.put_byte-requires
put_byte-requires c = omega (arith, c.requires, end_worth_length c.args.command c.args.action c.args.index c.if-command-eq32.false c.if-command-eq35.true)

pub returns-then-command-eq35 : goal.returns-then-command-eq35
returns-then-command-eq35 c = rename (end_worth_is c.args.command c.args.action c.args.index c.if-command-eq32.false c.if-command-eq35.true) c.put_byte.ensures

pub put_byte-n-requires : goal.put_byte-n-requires
put_byte-n-requires c = omega (arith, c.requires, indexed_length c.args.command c.args.action c.args.index c.if-command-eq32.false c.if-command-eq35.false)

pub put_behind-requires : goal.put_behind-requires
put_behind-requires c = omega (arith, c.requires, indexed_length c.args.command c.args.action c.args.index c.if-command-eq32.false c.if-command-eq35.false, c.put_byte-n.ensures.behind, c.put_byte-n.auto.out)

pub returns : goal.returns
returns c = rename (indexed_is c.args.command c.args.action c.args.index c.if-command-eq32.false c.if-command-eq35.false)
    (then (omega (arith, c.requires)) c.put_byte-n.ensures c.put_behind.ensures)
