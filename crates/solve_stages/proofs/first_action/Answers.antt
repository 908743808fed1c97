-- `solve_stages::first_action` meets its contract.
use Rattle.solve_laws.specs.Peaks.{total_own}
use Rattle.solve_stages.proofs.StagesCounted.{own_fits, action_counted}
use Rattle.solve_stages.proofs.first_action.Goals as goal

pub counted-requires : goal.counted-requires
counted-requires c = (c.requires.1, own_fits c.total-own.ensures)

pub returns : goal.returns
returns c = action_counted c.total-own.ensures c.args.backup.action c.args.run (λ K. total_own _ _ K _ _ _) c.counted.ensures.0 c.counted.ensures.1
