-- `check_rule_steps::runs::each` meets its contract: the table is held with the count of the last answer; i goes up to 1,000.
use Rattle.std.proofs.Common.{◌-◌}
use Rattle.rule_node.specs.Table.{Table}
use Rattle.rule_node.specs.EntryMeaning.{rule_of}
use Rattle.check_rule_steps.proofs.runs.each.Given as goal

abbrev pub invariant-loop-i : goal.invariant-loop-i
invariant-loop-i g l = Table rule_of l.cap l.nodes l.work l.count
