-- Steps in conditions, comparisons, cases and results.
use Rattle.std.specs.Prelude.{Bool, true, false, ℕ, ◌+◌, ◌-◌, eqb, ltb}
use Rattle.import_grammar.specs.Grammar.{if, deepest}
use Rattle.import_state.specs.declared.Side.{Side}
use Rattle.import_state.specs.declared.Side.TheVariants.{Left, Right, Case, Last}
use Rattle.import_state.specs.declared.Sum.{Sum}
use Rattle.import_state.specs.declared.Place.TheVariants.{Atom, Factor, After, Compared, Held, Result}
use Rattle.import_state.specs.declared.Token.TheVariants.{Word, NextOrName, Forbidden, Condition, Level}
use Rattle.import_state.specs.declared.State.{State}
use Rattle.import_state.specs.declared.State.TheVariants.{Dead, At, In}
use Rattle.import_state.specs.Bytes.{digit}
use Rattle.import_state.specs.Sums.{begun, bound, next_term, closed, on_factor, end_const}

-- the first letter of an item
unfoldable pub item : ℕ → State
item k =
    if (eqb k 114) (In (Word 8)) (if (eqb k 99) (In (Word 13)) (if (eqb k 110) (In NextOrName) (if (eqb k 101) (In (Word 15)) Dead)))

-- after a result: another case or the else, or another item
unfoldable pub resulted : Side → ℕ → State
unfolding item
resulted Left k = Dead
resulted Right k = Dead
resulted Case k = if (eqb k 59) (At (Atom deepest deepest true)) Dead
resulted Last k = item k

-- after an atom
unfoldable pub joined : ℕ → ℕ → State
joined r k =
    if (eqb k 38) (At (Atom r r false))
    (if (eqb k 124) (At (Atom r r false))
    (if (eqb k 41) (if (ltb r deepest) (At (Held (r + 1))) Dead)
    (if (eqb k 58) (if (eqb r deepest) (At (Result Case)) Dead) Dead)))

-- after the left side of a comparison, or a sum in a bracket that might have been a condition's
unfoldable pub end_left : Sum → ℕ → State
end_left s k =
    if (eqb k 60) (At (Compared s.room true))
    (if (eqb k 62) (At (Compared s.room true))
    (if (eqb k 41) (if (ltb s.room s.hard) (At (After (closed s (s.room + 1) (s.room + 1)) false)) Dead) Dead))

-- after a whole sum, by where it stands
unfoldable pub end_side : Side → Sum → ℕ → State
unfolding end_left joined resulted
end_side Left s k = end_left s k
end_side Right s k = joined s.room k
end_side Case s k = resulted Case k
end_side Last s k = resulted Last k

-- after a sum
unfoldable pub ending : Sum → ℕ → State
unfolding end_side
ending s k =
    if (ltb s.room s.top) (if (eqb k 41) (At (After (closed s (s.room + 1) s.top) false)) Dead) (end_side s.side s k)

-- after a term
unfoldable pub on_after : Sum → Bool → ℕ → State
unfolding ending
on_after s m k =
    if (digit k) (if m (At (After s true)) Dead)
    (if (eqb k 42) (At (Factor s false))
    (if (eqb k 43) (At (Factor (next_term s) false))
    (if (eqb k 45) (At (Factor (next_term s) false))
    (if (bound s) (end_const s k) (ending s k)))))

-- a bracket where an atom may stand
unfoldable pub open_cond : ℕ → ℕ → State
open_cond r h = if (ltb 0 r) (At (Atom (r - 1) h false)) Dead

-- an atom is expected, or, where it may stand, the else
unfoldable pub on_atom : ℕ → ℕ → Bool → ℕ → State
on_atom r h f k =
    if (digit k) (At (After (begun Left r h) true))
    (if (eqb k 76) (In (Level (begun Left r h)))
    (if (eqb k 67) (In (Condition r))
    (if (eqb k 78) (In (Condition r))
    (if (eqb k 40) (open_cond r h)
    (if (eqb k 45) (At (Factor (begun Left r h) false))
    (if (eqb k 33) (At (Atom r r false))
    (if (eqb k 101) (if f (In (Word 22)) Dead) Dead)))))))

-- behind < or >
unfoldable pub on_compared : ℕ → Bool → ℕ → State
on_compared r m k = if (eqb k 61) (if m (At (Factor (begun Right r 0) true)) Dead) (on_factor (begun Right r 0) true k)

-- a result is expected
unfoldable pub on_result : Side → ℕ → State
on_result d k = if (eqb k 102) (In (Forbidden d 8)) (on_factor (begun d deepest 0) true k)
