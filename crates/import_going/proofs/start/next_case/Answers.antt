use native.Mathlib.Omega.{arith}
use Rattle.import_places.specs.Walking.{two_to}
use Rattle.import_going.proofs.Reaching.{case_within, case_found, case_not}
use Rattle.import_going.proofs.start.next_case.Goals as goal

pub go-requires : goal.go-requires
unfolding two_to
go-requires c = (case_within _ _ _ _ c.in-Some.is c.behind.ensures, c.requires.1, omega arith)

pub returns-in-Some : goal.returns-in-Some
returns-in-Some c = case_found _ _ _ c.go.result _ c.in-Some.is c.behind.ensures c.go.ensures

pub returns-in-None : goal.returns-in-None
returns-in-None c = case_not _ _ _ c.in-None.is c.behind.ensures
