-- `load_choose::test_from` meets its contract: at an offset of a test a condition's number is 1 to 8 (`condition_fits`), and a linear is whole and
-- small (`linear_nums`), so it may be named; any other command gives the first condition, as `test_at` does.
use Rattle.load_choose.proofs.Tests.{condition_stood, none_stood, other_stood, condition_fits, condition_test_stood, linear_there, linear_nums, linear_test_stood}
use native.Mathlib.Omega.{arith}
use mathlib.Core.Path.{sym, subst}
use Rattle.rule_node.specs.Nodes.{Nums}
use Rattle.load_choose.proofs.test_from.Goals as goal

pub returns-in_default : goal.returns-in_default
returns-in_default c = none_stood c.args.model.now c.args.at c.command_at-read.result c.command_at-read.ensures c.in_default.not-Ok (condition_stood 1 (omega arith, omega arith) c.condition.ensures)

pub condition-requires-in-Condition : goal.condition-requires-in-Condition
condition-requires-in-Condition c = (condition_fits c.args.model.now c.args.at c.command_at-read.result c.command_at-read.ensures c.in-Ok.is c.in-Condition.is c.requires).1

pub overflow_add-at : goal.overflow_add-at
overflow_add-at c = let h = linear_there c.args.model.now c.args.at c.command_at-read.result c.command_at-read.ensures c.in-Ok.is c.in-Test.is in omega arith

pub linear_at-requires : goal.linear_at-requires
linear_at-requires c = let h = linear_there c.args.model.now c.args.at c.command_at-read.result c.command_at-read.ensures c.in-Ok.is c.in-Test.is in omega arith

pub named-requires : goal.named-requires
named-requires c = subst Nums (sym c.words.ensures) (linear_nums c.args.model.now c.args.at c.command_at-read.result c.command_at-read.ensures
    c.in-Ok.is c.in-Test.is c.linear_at.ensures)

pub returns-in-Condition : goal.returns-in-Condition
returns-in-Condition c = condition_test_stood c.args.model.now c.args.at c.command_at-read.result c.command_at-read.ensures c.in-Ok.is c.in-Condition.is c.requires c.condition-in-Condition.ensures

pub returns-in-Test : goal.returns-in-Test
returns-in-Test c = linear_test_stood c.args.model.now c.args.at c.command_at-read.result c.command_at-read.ensures c.in-Ok.is
    c.in-Test.is c.linear_at.ensures c.words.ensures c.named.ensures

pub returns-in_default-c : goal.returns-in_default-c
returns-in_default-c c = other_stood c.args.model.now c.args.at c.command_at-read.result c.command_at-read.ensures c.in-Ok.is
    c.in_default-c.not-Condition c.in_default-c.not-Test (condition_stood 1 (omega arith, omega arith) c.condition-in_default-c.ensures)
