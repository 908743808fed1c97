-- `rule_choose::choose` meets its contract: each inner call goes to a branch of f or g, or of both, so that f + g falls; it may assume its contract, and the test that op and p give stays the same in the grown table.
use Rattle.std.proofs.Common.{◌+◌}
use Rattle.rule_choose.proofs.+choose.Given as goal

abbrev pub decreases-choose : goal.decreases-choose
decreases-choose l = l.f + l.g
