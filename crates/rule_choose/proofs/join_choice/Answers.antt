-- `rule_choose::join_choice` meets its contract: a branch names its own test.
use Rattle.rule_node.proofs.Meanings.{readable_in, test_proper}
use Rattle.rule_choose.proofs.RootCases.{stands_test, stands_root}
use Rattle.rule_choose.proofs.Choices.{test_told}
use Rattle.rule_choose.proofs.join_choice.Goals as goal

pub stands_at-requires : goal.stands_at-requires
stands_at-requires c = readable_in c.requires.0 c.requires.1

pub join-requires : goal.join-requires
join-requires c = (c.requires.0, stands_root c.args.op c.requires.1 (c.stands_at.ensures c.if-stands_at.true), c.requires.2, c.requires.3)

pub returns-then-stands_at : goal.returns-then-stands_at
returns-then-stands_at c = test_told c.args.h c.args.l (stands_test _ c.args.op c.args.p (c.stands_at.ensures c.if-stands_at.true)) c.join.ensures

pub test_at-requires : goal.test_at-requires
test_at-requires c = readable_in c.requires.0 c.requires.1

pub join_test-requires : goal.join_test-requires
join_test-requires c = (c.requires.0, test_proper c.requires.0.good c.requires.1 c.test_at.ensures, c.requires.2, c.requires.3)

pub returns : goal.returns
returns c = test_told c.args.h c.args.l c.test_at.ensures c.join_test.ensures
