-- What solving leaves.
use Rattle.std.specs.Prelude.{List, ℕ, ℤ}
use Rattle.theory.specs.Solve.{SolveOut}
use Rattle.solve_tables.specs.declared.Solved.{Solved}

-- what document 01 says of a solve
abbrev pub outcome : Solved → List ℤ → List ℕ → List ℕ → List ℕ → SolveOut
outcome r nodes stages work peaks = record { number = r.number; place = r.place; peak = r.peak; nodes = nodes; stages = stages; work = work; peaks = peaks }
