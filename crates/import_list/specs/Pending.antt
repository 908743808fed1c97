-- What the emitter has still to write: the commands at a place, then those that the atoms on its list are waiting for.
use Rattle.std.specs.Prelude.{Bool, true, false, not, List, [], ◌∷◌, ◌++◌, ◌≡◌, ℕ, ◌+◌, ◌≤◌, ◌<◌, length, drop}
use Rattle.theory.specs.Command.{Command, push_condition, push_test, push_forbidden}
use Rattle.import_grammar.specs.Grammar.{Spaces, Op, lt, le, gt, ge, Atom, now, later, compare, group, Result, spaces_bytes, atom_bytes, result_bytes, deepest}
use Rattle.import_numbers.specs.Numbers.{linear_of, difference, atom_numbers, result_numbers, all_within}
use Rattle.import_model.specs.Commands.{condition_of, later_of, result_command}
use Rattle.import_found.specs.Places.{Place, atom_at, result_at, lost, find, xor, AfterAtom, AfterResult, Decided, Emits}
use Rattle.import_places.specs.Walking.{signs, two_to}
use Rattle.import_list.specs.declared.Entry.{Entry}

-- whether the commands of the outcome where a comparison holds are written first: "a <= b": T F, "a > b": F T, "a >= b": T F, "a < b": F T
abbrev pub op_first : Op → Bool
op_first le = true
op_first gt = false
op_first ge = true
op_first lt = false

-- "C", "N": T F
unfoldable pub first_holds : {n : ℕ} → Atom n → Bool
first_holds (now p i) = true
first_holds (later p i) = true
first_holds (compare s p op t) = op_first op
first_holds (group p o q) = true

-- an atom's own command, behind those of its outcomes; a bracket of a condition has none
unfoldable pub own : {n : ℕ} → Atom n → Command
unfolding condition_of later_of
own (now p i) = push_condition (condition_of i)
own (later p i) = push_condition (later_of i)
own (compare s p op t) = push_test (difference op (linear_of _ s) (linear_of _ t))
own (group p o q) = push_forbidden

-- an atom that is read at the start of some bytes, "no number beyond"
pub record AtomReading (u : List ℕ) : Type 0 where
  pub index : ℕ
  pub atom : Atom index
  pub spaces : Spaces
  pub next : ℕ
  pub rest : List ℕ
  pub inside : index ≤ deepest
  pub decided : Decided atom
  pub follows : AfterAtom next
  pub bytes : u ≡ atom_bytes atom (spaces_bytes spaces (next ∷ rest))
  pub within : all_within (atom_numbers atom) ≡ true

-- a result that is read there
pub record ResultReading (u : List ℕ) : Type 0 where
  pub result : Result
  pub spaces : Spaces
  pub rest : List ℕ
  pub follows : AfterResult rest
  pub bytes : u ≡ result_bytes result (spaces_bytes spaces rest)
  pub within : all_within (result_numbers result) ≡ true

-- the place where an atom's outcome goes on: it is decided to be v
abbrev pub outcome : List ℕ → Entry → Bool → Place
outcome w e v = find (drop e.at w) 0 v false (signs e.mask e.count)

-- what is decided for its first outcome, and for its second: "!" turns it
abbrev pub first_value : Bool → Bool → Bool
first_value first sign = xor first sign

abbrev pub second_value : Bool → Bool → Bool
second_value first sign = not (xor first sign)

-- what an entry stands for: the commands of the second outcome and its own, or its own alone
pub data StandsFor (w : List ℕ) (e : Entry) : List Command → Type 0 where
  half : e.both ≡ false → (R : AtomReading (drop e.at w)) (S : List Command) → Emits (outcome w e (second_value (first_holds R.atom) e.sign)) S → StandsFor w e (S ++ (own R.atom ∷ []))
  done : e.both ≡ true → (R : AtomReading (drop e.at w)) → StandsFor w e (own R.atom ∷ [])

-- two bytes or more behind the entry below it
abbrev pub Rises : ℕ → List Entry → Type 0
Rises i [] = Unit {0}
Rises i (d ∷ l) = d.at + 2 ≤ i

-- an entry lies in the text, and its mask has no sign but those counted
pub record Lies (w : List ℕ) (e : Entry) : Type 0 where
  pub inside : e.at < length w
  pub low : e.mask < two_to e.count

-- what a list stands for, the latest entry first: one behind another
pub data Pending (w : List ℕ) : List Entry → List Command → Type 0 where
  none_left : Pending w [] []
  also_left : {e : Entry} {l : List Entry} {A B : List Command} → StandsFor w e A → Lies w e → Rises e.at l → Pending w l B → Pending w (e ∷ l) (A ++ B)

-- how many bytes there are from a place on
abbrev pub size : Place → ℕ
size (atom_at b ps u) = length u
size (result_at u) = length u
size lost = 0

-- a place two bytes or more behind the latest entry
abbrev pub Beyond : List ℕ → ℕ → List Entry → Type 0
Beyond w n [] = Unit {0}
Beyond w n (d ∷ l) = n + 2 ≤ length (drop d.at w)

-- the commands of a place, then those of a list
pub record Visits (w : List ℕ) (p : Place) (l : List Entry) (C : List Command) : Type 0 where
  pub here : List Command
  pub later_on : List Command
  pub emits : Emits p here
  pub beyond : Beyond w (size p) l
  pub pending : Pending w l later_on
  pub all : C ≡ here ++ later_on

-- a result: its one command, then the list
pub record ResultFirst (w : List ℕ) (u : List ℕ) (l : List Entry) (C : List Command) : Type 0 where
  pub reading : ResultReading u
  pub others : List Command
  pub pending : Pending w l others
  pub is : C ≡ result_command reading.result ∷ others
