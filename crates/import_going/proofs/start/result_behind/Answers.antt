use Rattle.import_going.proofs.Reaching.{colon_found, colon_not}
use Rattle.import_going.proofs.start.result_behind.Goals as goal

pub returns-in-Some : goal.returns-in-Some
returns-in-Some c = colon_found _ _ _ _ c.in-Some.is c.behind.ensures

pub returns-in-None : goal.returns-in-None
returns-in-None c = colon_not _ _ _ c.in-None.is c.behind.ensures
