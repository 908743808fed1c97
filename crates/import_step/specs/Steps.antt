-- A step, from any state, on any byte.
use Rattle.std.specs.Prelude.{Bool, true, false, ℕ, eqb}
use Rattle.import_grammar.specs.Grammar.{if, deepest}
use Rattle.import_state.specs.declared.Side.{Side}
use Rattle.import_state.specs.declared.Side.TheVariants.{Left, Right, Case, Last}
use Rattle.import_state.specs.declared.Setting.{Setting}
use Rattle.import_state.specs.declared.Setting.TheVariants.{Levels, Conditions, Actions, Weights}
use Rattle.import_state.specs.declared.Place.{Place}
use Rattle.import_state.specs.declared.Place.TheVariants.{Outset, Site, Equals, Value, Set, Action, Given, Opener, Quoted, Atom, Factor, After, Compared, Held, Otherwise, Result, Forbade}
use Rattle.import_state.specs.declared.Token.{Token}
use Rattle.import_state.specs.declared.Token.TheVariants.{Word, NextOrName, Forbidden, Name, Chance, Next, Condition, Level}
use Rattle.import_state.specs.declared.Sum.{Sum}
use Rattle.import_state.specs.declared.State.{State}
use Rattle.import_state.specs.declared.State.TheVariants.{Dead, At, In}
use Rattle.import_state.specs.Bytes.{digit, blank, four, eight}
use Rattle.import_state.specs.Sums.{levelled, on_factor}
use Rattle.import_cases.specs.Cases.{joined, resulted, on_after, on_atom, on_compared, on_result}
use Rattle.import_items.specs.Items.{on_site, on_set, on_given, on_quoted, on_name, on_word, on_forbidden, on_next_or_name}

-- white space: a token that might go on is over
unfoldable pub spaced : Place → Place
spaced Outset = Outset
spaced (Site h) = Site h
spaced (Equals h) = Equals h
spaced (Value h) = Value h
spaced (Set h m) = Set h false
spaced (Action h) = Action h
spaced (Given h m) = Given h false
spaced Opener = Opener
spaced (Quoted n m) = Quoted n false
spaced (Atom r h f) = Atom r h f
spaced (Factor s b) = Factor s b
spaced (After s m) = After s false
spaced (Compared r m) = Compared r false
spaced (Held r) = Held r
spaced Otherwise = Otherwise
spaced (Result d) = Result d
spaced (Forbade d) = Forbade d

-- a place where one byte alone may stand
unfoldable pub only : ℕ → ℕ → State → State
only k b s = if (eqb k b) s Dead

-- a byte that is not white space
unfoldable pub on_place : Place → ℕ → State
on_place Outset k = only k 115 (In (Word 3))
on_place (Site h) k = on_site h k
on_place (Equals h) k = only k 61 (At (Value h))
on_place (Value h) k = if (digit k) (At (Set h true)) Dead
on_place (Set h m) k = on_set h m k
on_place (Action h) k = if (digit k) (At (Given h true)) Dead
on_place (Given h m) k = on_given h m k
on_place Opener k = only k 61 (At (Atom deepest deepest true))
on_place (Quoted n m) k = on_quoted n m k
on_place (Atom r h f) k = on_atom r h f k
on_place (Factor s b) k = on_factor s b k
on_place (After s m) k = on_after s m k
on_place (Compared r m) k = on_compared r m k
on_place (Held r) k = joined r k
on_place Otherwise k = only k 58 (At (Result Last))
on_place (Result d) k = on_result d k
on_place (Forbade d) k = resulted d k

-- inside a token white space is a byte like any other
unfoldable pub on_token : Token → ℕ → State
on_token (Word n) k = on_word n k
on_token NextOrName k = on_next_or_name k
on_token (Forbidden d n) k = on_forbidden d n k
on_token (Name n) k = on_name n k
on_token Chance k = if (four k) (At Opener) Dead
on_token Next k = if (eight k) (At Opener) Dead
on_token (Condition r) k = if (four k) (At (Held r)) Dead
on_token (Level s) k = if (eight k) (At (After (levelled s) false)) Dead

-- a step
unfoldable pub next : State → ℕ → State
next Dead k = Dead
next (At p) k = if (blank k) (At (spaced p)) (on_place p k)
next (In t) k = on_token t k

-- no text of the grammar begins so
unfoldable pub is_over : State → Bool
is_over Dead = true
is_over (At p) = false
is_over (In t) = false

-- the result of an else
unfoldable pub last_side : Side → Bool
last_side Left = false
last_side Right = false
last_side Case = false
last_side Last = true

-- W
unfoldable pub last_setting : Setting → Bool
last_setting Levels = false
last_setting Conditions = false
last_setting Actions = false
last_setting Weights = true

-- the else's result, with no bracket open
unfoldable pub after_ends : Sum → Bool
after_ends s = if (last_side s.side) (eqb s.room deepest) false

-- a text may end here: behind the site or an item
unfoldable pub place_ends : Place → Bool
place_ends Outset = false
place_ends (Site h) = false
place_ends (Equals h) = false
place_ends (Value h) = false
place_ends (Set h m) = last_setting h
place_ends (Action h) = false
place_ends (Given h m) = false
place_ends Opener = false
place_ends (Quoted n m) = true
place_ends (Atom r h f) = false
place_ends (Factor s b) = false
place_ends (After s m) = after_ends s
place_ends (Compared r m) = false
place_ends (Held r) = false
place_ends Otherwise = false
place_ends (Result d) = false
place_ends (Forbade d) = last_side d

-- a text may end so
unfoldable pub is_finished : State → Bool
is_finished Dead = false
is_finished (At p) = place_ends p
is_finished (In t) = false
