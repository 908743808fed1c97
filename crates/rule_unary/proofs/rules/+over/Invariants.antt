-- `rule_unary::rules::over` meets its contract: the inner calls are at branches of f, whose indexes are smaller; each may assume its contract. A side that picks is its branch's result; else both results meet in `join`.
use Rattle.rule_unary.proofs.rules.+over.Given as goal

abbrev pub decreases-over : goal.decreases-over
decreases-over l = l.f
