-- `import_going::start::decided` meets its contract: each of the four answers of `find` has its case of `Spotted`; what `find` says of its place is what `go` and `next_case` require.
use Rattle.import_going.proofs.Reaching.{go_inside, comes_go, comes_result, comes_case, case_inside, comes_lost}
use Rattle.import_going.proofs.start.decided.Goals as goal

pub go-requires : goal.go-requires
go-requires c = let d = go_inside _ _ _ _ _ _ c.in-Go.is c.find.ensures in
    (d.0, c.requires.1, d.1)

pub next_case-requires : goal.next_case-requires
next_case-requires c = (case_inside _ _ _ _ c.in-NextCase.is c.find.ensures, c.requires.1)

pub returns-in-Go : goal.returns-in-Go
returns-in-Go c = comes_go _ _ _ _ _ c.go.result _ c.in-Go.is c.find.ensures c.go.ensures

pub returns-in-Result : goal.returns-in-Result
returns-in-Result c = comes_result _ _ _ _ c.in-Result.is c.find.ensures

pub returns-in-NextCase : goal.returns-in-NextCase
returns-in-NextCase c = comes_case _ _ _ c.next_case.result _ c.in-NextCase.is c.find.ensures c.next_case.ensures

pub returns-in-Lost : goal.returns-in-Lost
returns-in-Lost c = comes_lost _ _ _ c.in-Lost.is c.find.ensures
