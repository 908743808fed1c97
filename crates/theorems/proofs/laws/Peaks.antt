-- "A peak for each action", proved.
use Rattle.std.specs.Prelude.{◌≡◌}
use Rattle.std.proofs.Common.{sym, ◌∙◌, arith}
use Rattle.theory.specs.Widths.{actions_most}
use Rattle.theory.proofs.laws.Valid.{among_out}
use Rattle.theory.proofs.laws.AcceptedModel.{accepted_site}
use Rattle.theory.proofs.laws.Peaks.{solved_peaks_length, peaks_largest, peaks_beyond}
use Rattle.theorems.specs.Peaks.{PeakLargest, PeaksLaid}
use Rattle.theorems.proofs.laws.Demands.{solved_exactly}

pub peak_largest : PeakLargest
peak_largest N B H S peak v e =
    let s = accepted_site B v in
    (solved_exactly N B H v).0 S peak e ∙ sym (peaks_largest B H (omega (arith, s.1.same_actions, (among_out actions_most _ s.0.actions_in).1)))

pub peaks_laid : PeaksLaid
peaks_laid B H v = let s = accepted_site B v in (solved_peaks_length B H, λ i l. peaks_beyond B H i (omega (arith, s.1.same_actions)))
