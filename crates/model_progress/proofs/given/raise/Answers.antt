-- `model_progress::given::raise` meets its contract.
use Rattle.model_progress.proofs.Flags.{set_past}
use Rattle.model_progress.proofs.given.raise.Goals as goal

pub returns-else-i-flags : goal.returns-else-i-flags
returns-else-i-flags c = set_past c.args.flags.now c.args.i _ c.if-i-flags.false
