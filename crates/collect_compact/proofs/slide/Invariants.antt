-- `collect_compact::slide` meets its contract: of the first i nodes the marked ones are the first j, with the trees that they had and forwarded; from i on nothing has changed (`State`).
use Rattle.collect_compact.proofs.Slides.{State}
use Rattle.collect_compact.proofs.slide.Given as goal

abbrev pub invariant-loop-i : goal.invariant-loop-i
invariant-loop-i l = State l.cap l.initial.nodes l.nodes l.initial.work l.work l.count l.i l.j
