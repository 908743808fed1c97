-- `convert_forms::writing::put_fitted` meets its contract.
use Rattle.convert_forms.proofs.CutBytes.{Filled}
use Rattle.convert_forms.proofs.writing.put_fitted.Given as goal

abbrev pub invariant-loop-j : goal.invariant-loop-j
invariant-loop-j l = Filled l.initial.out l.at l.model l.from l.size l.wanted l.j l.out
