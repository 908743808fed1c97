-- One byte on the way to an atom, and what is found there.
use Rattle.std.specs.Prelude.{Bool, true, false, not, List, ◌≡◌, ℕ, ◌+◌, ◌*◌, ◌≤◌, ◌<◌, eqb, leb, length, drop}
use Rattle.whole.specs.Cases.{if}
use Rattle.import_found.specs.Places.{Place, atom_at, result_at, lost, is_space, is_cond, TooDeep}
use Rattle.import_places.specs.Walking.{signs, two_to}
use Rattle.import_going.specs.declared.turning.Going.{Going}
use Rattle.import_going.specs.declared.turning.Turn.{Turn}
use Rattle.import_going.specs.declared.turning.Turn.TheVariants.{On, Atom, Else, Deep, Lost}
use Rattle.import_going.specs.declared.start.Spot.{Spot}
use Rattle.import_going.specs.declared.start.Spot.TheVariants.{Atom as AtomAt, Result as ResultAt, Lost as LostAt, Deep as DeepAt}

abbrev pub bit_of : Bool → ℕ
bit_of true = 1
bit_of false = 0

unfoldable pub opened_of : Going → Turn
opened_of s = if (leb 32 s.count) Deep (On (record { sign = false; mask = s.mask * 2 + bit_of s.sign; count = s.count + 1 }))

unfoldable pub turn_of : Going → ℕ → Bool → Turn
unfolding opened_of is_space
turn_of s k c =
    if (eqb k 33) (On (record { sign = not s.sign; mask = s.mask; count = s.count }))
    (if (eqb k 40) (if c (opened_of s) Atom)
    (if (eqb k 101) (if (eqb s.count 0) Else Lost)
    (if (is_space k) (On s) Atom)))

-- whether a bracket of a condition is opened at an offset
unfoldable pub cond_at : List ℕ → ℕ → ℕ → Bool
unfolding is_cond
cond_at w i k = if (eqb k 40) (is_cond (drop (i + 1) w) 0) false

-- what is found is the place that is meant
abbrev pub Spotted : List ℕ → Place → Spot → Type 0
Spotted w p (AtomAt i b m c) = (p ≡ atom_at b (signs m c) (drop i w)) × ((i < length w) × (m < two_to c))
Spotted w p (ResultAt i) = (p ≡ result_at (drop i w)) × (i ≤ length w)
Spotted w p LostAt = p ≡ lost
Spotted w p DeepAt = TooDeep p
