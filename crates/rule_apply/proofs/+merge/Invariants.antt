-- `rule_apply::merge` meets its contract: each inner call goes to a branch of f or g, or of both, so that f + g falls; it may assume its contract. `over_root` makes one diagram of the two results.
use Rattle.std.proofs.Common.{◌+◌}
use Rattle.rule_apply.proofs.+merge.Given as goal

abbrev pub decreases-merge : goal.decreases-merge
decreases-merge l = l.f + l.g
