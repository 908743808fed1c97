-- `load_choose::choose_command` meets its contract: each inner call goes to a branch of f or g, or of both, so that f + g falls; it may assume its contract. The test lies in the model, which does not change.
use Rattle.std.proofs.Common.{◌+◌}
use Rattle.load_choose.proofs.+choose_command.Given as goal

abbrev pub decreases-choose_command : goal.decreases-choose_command
decreases-choose_command l = l.f + l.g
