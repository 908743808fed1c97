-- `solve_stages::next_action` meets its contract.
use Rattle.solve_stages.proofs.StagesCounted.{own_fits, action_counted, bettered_own}
use Rattle.solve_stages.proofs.next_action.Goals as goal

pub counted-requires : goal.counted-requires
counted-requires c = (c.requires.1, own_fits c.better-own.ensures)

pub returns : goal.returns
returns c = action_counted c.better-own.ensures c.args.backup.action c.args.run (λ K. bettered_own _ _ _ _ _ K) c.counted.ensures.0 c.counted.ensures.1
