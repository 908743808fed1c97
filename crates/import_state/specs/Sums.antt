-- Steps in a sum.
use Rattle.std.specs.Prelude.{Bool, true, false, ℕ, ◌+◌, ◌-◌, eqb, ltb}
use Rattle.import_grammar.specs.Grammar.{if}
use Rattle.import_state.specs.declared.Side.{Side}
use Rattle.import_state.specs.declared.Sum.{Sum}
use Rattle.import_state.specs.declared.Place.TheVariants.{Factor, After}
use Rattle.import_state.specs.declared.Token.TheVariants.{Level}
use Rattle.import_state.specs.declared.State.{State}
use Rattle.import_state.specs.declared.State.TheVariants.{Dead, At, In}
use Rattle.import_state.specs.Bytes.{no_level, digit}

-- nothing of the sum has been read
unfoldable pub begun : Side → ℕ → ℕ → Sum
begun d r h = record { side = d; room = r; hard = h; top = r; level = no_level; vary = false }

-- inside a bracket, or outside again
unfoldable pub roomed : Sum → ℕ → Sum
roomed s r = record { side = s.side; room = r; hard = s.hard; top = s.top; level = s.level; vary = s.vary }

-- behind a level
unfoldable pub levelled : Sum → Sum
levelled s = record { side = s.side; room = s.room; hard = s.hard; top = s.top; level = s.room; vary = true }

-- inside a bracket that may have no level: behind a term with one
unfoldable pub bound : Sum → Bool
bound s = if s.vary (ltb s.room s.level) false

-- behind + or −
unfoldable pub next_term : Sum → Sum
next_term s = record { side = s.side; room = s.room; hard = s.hard; top = s.top; level = s.level; vary = bound s }

-- outside a bracket again, with another level
unfoldable pub shut : Sum → ℕ → ℕ → ℕ → Bool → Sum
shut s r t l v = record { side = s.side; room = r; hard = s.hard; top = t; level = l; vary = v }

-- behind a bracket of a sum: with a level, it is the term's
unfoldable pub closed : Sum → ℕ → ℕ → Sum
closed s r t = if (ltb s.room s.level) (shut s r t s.level false) (shut s r t r true)

-- a bracket, where one more may be opened
unfoldable pub open_sum : Sum → State
open_sum s = if (ltb 0 s.room) (At (Factor (roomed s (s.room - 1)) true)) Dead

-- a factor is expected: "multiplication, by a constant only"
unfoldable pub on_factor : Sum → Bool → ℕ → State
on_factor s b k =
    if (digit k) (At (After s true))
    (if (eqb k 76) (if s.vary Dead (In (Level s)))
    (if (eqb k 40) (open_sum s)
    (if (eqb k 45) (if b (At (Factor s false)) Dead) Dead)))

-- after a term of a bracket that may have no level
unfoldable pub end_const : Sum → ℕ → State
end_const s k = if (eqb k 41) (if (ltb s.room s.level) (At (After (roomed s (s.room + 1)) false)) Dead) Dead
