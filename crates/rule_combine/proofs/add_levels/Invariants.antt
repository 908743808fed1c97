-- `rule_combine::add_levels` meets its contract: the computation so far, then the levels from k on, is the sum of all levels onto the diagram at f (`Adding`); a level that stops ends both alike.
use Rattle.table.specs.Table.{made}
use Rattle.rule_combine.proofs.LinearSteps.{Adding}
use Rattle.rule_combine.proofs.add_levels.Given as goal

abbrev pub invariant-loop-k : goal.invariant-loop-k
invariant-loop-k l = Adding l.cap l.initial.nodes l.initial.work l.count l.i l.levels l.f l.k l.nodes l.work (made l.s.at l.s.count)
