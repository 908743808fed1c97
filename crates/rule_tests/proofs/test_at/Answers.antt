-- `rule_tests::test_at` meets its contract.
use mathlib.Core.Path.{sym, subst}
use Rattle.rule_node.specs.Nodes.{Nums}
use Rattle.rule_node.proofs.Meanings.{test_later, test_named}
use Rattle.rule_tests.proofs.test_at.Goals as goal

pub later-requires : goal.later-requires
later-requires c = c.requires.number c.if-op-eq-CHOOSE_LATER.true

pub returns-then-op-eq-CHOOSE_LATER : goal.returns-then-op-eq-CHOOSE_LATER
returns-then-op-eq-CHOOSE_LATER c = test_later c.args.nodes.now c.args.op c.args.p c.if-op-eq-CHOOSE_LATER.true c.later.ensures

pub get-requires : goal.get-requires
get-requires c = c.requires.words c.if-op-eq-CHOOSE_LATER.false

pub named-requires : goal.named-requires
named-requires c = subst Nums (sym c.get.ensures) (c.requires.nums c.if-op-eq-CHOOSE_LATER.false)

pub returns : goal.returns
returns c = test_named c.args.nodes.now c.args.op c.args.p c.if-op-eq-CHOOSE_LATER.false c.get.ensures c.named.ensures
