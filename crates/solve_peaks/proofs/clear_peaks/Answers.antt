use Rattle.solve_peaks.proofs.Words.{all_cleared}
use Rattle.solve_peaks.proofs.clear_peaks.Goals as goal

pub returns : goal.returns
returns c = all_cleared c.args.peaks.now c.work.ensures
