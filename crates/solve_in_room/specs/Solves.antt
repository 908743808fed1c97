-- What a solve with a given room leaves.
use Rattle.std.specs.Prelude.{◌≡◌, List, ℕ, ℤ, length, replicate}
use Rattle.theory.specs.Diagram.{Tree}
use Rattle.theory.specs.Peaks.{solved_peaks}
use Rattle.theory.specs.Solve.{solve_in, solved_nodes, solved_stages}
use Rattle.solve_laws.specs.Onward.{answered}
use Rattle.solve_stages.specs.declared.Planned.{Planned}

-- the run of a solve, its tables left where it is solved
pub record Solves (B : List ℕ) (H cap : ℕ) (l l' : List ℤ) (s' w w' P : List ℕ) (r : Planned) : Type 0 where
  pub stages : List Tree
  pub outcome : solve_in cap B H ≡ answered r.stop r.place stages r.peak
  pub nodes : r.stop ≡ 0 → l' ≡ solved_nodes (length l) stages
  pub roots : r.stop ≡ 0 → s' ≡ solved_stages stages
  pub work : r.stop ≡ 0 → w' ≡ replicate (length w) 0
  pub peaks : r.stop ≡ 0 → P ≡ solved_peaks B H
