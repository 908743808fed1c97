-- `collect_compact::stay` meets its contract: the invariant is the contract at i: the first i nodes are marked and forwarded to themselves (`Stayed`).
use Rattle.collect_compact.specs.Slide.{Stayed}
use Rattle.collect_compact.proofs.stay.Given as goal

abbrev pub invariant-loop-i : goal.invariant-loop-i
invariant-loop-i l = Stayed l.cap l.initial.work l.work l.count l.i
