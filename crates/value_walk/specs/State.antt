-- A state as the code passes it.
use Rattle.std.specs.Prelude.{List, ℕ, ℤ, pos, get_or, take}
use Rattle.theory.specs.Widths.{levels_most}
use Rattle.theory.specs.Value as theory
use Rattle.value_walk.specs.declared.Asked.{Asked}

-- the state of a mask, and of numerators with the denominator behind them
abbrev pub asked_by : ℕ → List ℤ → theory.Asked
asked_by mask n = record { mask = mask; nums = take levels_most n; den = get_or n levels_most (pos 0) }

-- the state that document 01 speaks of
abbrev pub asked : Asked → theory.Asked
asked q = asked_by q.mask q.n
