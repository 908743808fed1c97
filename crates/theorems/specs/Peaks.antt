-- "A peak for each action", as types: each is proved in proofs/laws/Peaks.
use Rattle.std.specs.Prelude.{◌≡◌, List, ℕ, ◌<◌, get_or, length}
use Rattle.theory.specs.Diagram.{Tree}
use Rattle.theory.specs.Computation.{solved}
use Rattle.theory.specs.Verdict.{verdict}
use Rattle.theory.specs.Load.{site_at}
use Rattle.theory.specs.Solve.{solve_in}
use Rattle.theory.specs.Peaks.{solved_peaks, largest}

-- "The one peak stays in the answer; it is the largest word"
abbrev pub PeakLargest : Type 0
PeakLargest = (N : ℕ) (B : List ℕ) (H : ℕ) (S : List Tree) (peak : ℕ) → (verdict B).number ≡ 0 → solve_in N B H ≡ solved S peak → peak ≡ largest (solved_peaks B H)

-- "a lent slice of 401 32-bit words: loading, then actions 1 to A, zeros after"
abbrev pub PeaksLaid : Type 0
PeaksLaid = (B : List ℕ) (H : ℕ) → (verdict B).number ≡ 0 → (length (solved_peaks B H) ≡ 401) × ((i : ℕ) → (site_at B).actions < i → get_or (solved_peaks B H) i 0 ≡ 0)
