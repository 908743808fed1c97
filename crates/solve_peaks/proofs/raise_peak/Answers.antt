-- `solve_peaks::raise_peak` meets its contract: a word below the count is replaced (`raise_larger`), and any other stays (`raise_same`).
use Rattle.solve_peaks.proofs.Words.{raise_larger, raise_same}
use Rattle.solve_peaks.proofs.raise_peak.Goals as goal

pub returns-then-peaks-action : goal.returns-then-peaks-action
returns-then-peaks-action c = raise_larger _ _ _ c.if-peaks-action.true

pub returns-else-peaks-action : goal.returns-else-peaks-action
returns-else-peaks-action c = raise_same _ _ _ c.if-peaks-action.false
