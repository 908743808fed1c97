-- `rule_walk::walk` meets its contract: the inner calls are at f's branches, with g and p as they are, so that f + g falls; each may assume its contract, and what the cache keeps lasts as the table grows.
use Rattle.std.proofs.Common.{◌+◌}
use Rattle.rule_walk.proofs.+walk.Given as goal

abbrev pub decreases-walk : goal.decreases-walk
decreases-walk l = l.f + l.g
