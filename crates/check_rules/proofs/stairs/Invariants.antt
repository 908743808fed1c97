-- `check_rules::stairs` meets its contract: each step holds the table, with its result in it and no fewer nodes.
use Rattle.std.proofs.Common.{◌-◌}
use Rattle.std.specs.Prelude.{Ok}
use Rattle.check_rules.specs.Held.{RulesHeld}
use Rattle.check_rules.proofs.stairs.Given as goal

abbrev pub invariant-loop-i : goal.invariant-loop-i
invariant-loop-i l = RulesHeld l.fn.count l.nodes l.work (Ok l.f)
