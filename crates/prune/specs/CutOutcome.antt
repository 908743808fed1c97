-- What a path leaves, and what cutting one off asks.
use Rattle.std.specs.Prelude.{◌≡◌, List, ℕ, ◌-◌, ◌≤◌, T, ℤ, length, get_or}
use Rattle.theory.specs.Widths.{steps_most}
use Rattle.theory.specs.Solve.{room}
use Rattle.theory.specs.Listing.{greatest_root}
use Rattle.model.specs.declared.Verdict.{Verdict}
use Rattle.prune_paths.specs.Prune.{diagram_at, fits, GoodRows, path_needs, PruneOut}

-- what the request says of a path
abbrev pub outcome : Verdict → List ℤ → List ℕ → List ℕ → PruneOut
outcome v nodes stages work = record { number = v.number; place = v.place; nodes = nodes; stages = stages; work = work }

-- the same of one that is cut off
abbrev pub left : List ℤ → List ℕ → List ℕ → PruneOut
left nodes stages work = record { number = 0; place = 0; nodes = nodes; stages = stages; work = work }

-- an accepted path, as far as cutting it off goes: it is there and fits, and its copy has room
pub record CutAccepted (nodes : List ℤ) (stages work : List ℕ) (s : ℕ) (turns : List ℕ) : Type 0 where
  pub least : 1 ≤ s
  pub most : s ≤ steps_most
  pub eight : length stages ≡ steps_most
  pub rows : GoodRows nodes (greatest_root steps_most stages)
  pub rooted : 1 ≤ get_or stages (s - 1) 0
  pub some : 1 ≤ length turns
  pub shape : T (fits turns (diagram_at nodes (get_or stages (s - 1) 0)))
  pub within : path_needs (greatest_root steps_most stages) turns ≤ room (length nodes) (length work)
