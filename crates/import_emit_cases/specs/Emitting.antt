-- What is written of an item's cases.
use Rattle.std.specs.Prelude.{Result, Ok, Err, Bool, ◌≡◌, true, false, List, [], ◌∷◌, ℕ, ◌+◌, ◌≤◌, ◌<◌, length, drop}
use Rattle.theory.specs.Command.{Command}
use Rattle.text_decimal.specs.Put.{PutAt}
use Rattle.import_model.specs.Encode.{command_bytes, encode}
use Rattle.import_model.specs.Import.{text_most}
use Rattle.import_found.specs.Places.{go, Emits}
use Rattle.import_list.specs.Pending.{Pending}
use Rattle.import_list.specs.Packed.{list_most, entries}
use Rattle.import_emit_cases.specs.declared.Full.{Full}
use Rattle.import_emit_cases.specs.declared.Wrote.{Wrote}

-- whether the next command did not fit
abbrev pub is_full : {A : Type 0} → Result A Full → Bool
is_full (Ok a) = false
is_full (Err e) = true

-- the place behind what is written
abbrev pub place : Result ℕ Full → ℕ
place (Ok n) = n
place (Err e) = 0

-- some bytes from a place on, or that they are longer than the room
pub record PutBytes (out : List ℕ) (at : ℕ) (bytes : List ℕ) (r : Result ℕ Full) (out' : List ℕ) : Type 0 where
  pub put : is_full r ≡ false → PutAt out at bytes (place r) out'
  pub longer : is_full r ≡ true → length out < at + length bytes

-- one command, and that its place is in the buffer
pub record Puts (out : List ℕ) (at : ℕ) (c : Command) (r : Result ℕ Full) (out' : List ℕ) : Type 0 where
  pub within : place r ≤ length out
  pub grows : is_full r ≡ false → at < place r
  pub written : PutBytes out at (command_bytes c) r out'

-- the buffers that are lent, where some commands are still to be written
pub record Lent (w l : List ℕ) (n : ℕ) (out : List ℕ) (at : ℕ) (To : List Command → Type 0) : Type 0 where
  pub short : length w ≤ text_most
  pub long : length l ≡ list_most
  pub few : n ≤ length l
  pub room : at ≤ length out
  pub commands : List Command
  pub to : To commands

abbrev pub emitted : Result Wrote Full → Result ℕ Full
emitted (Ok r) = Ok r.at
emitted (Err e) = Err e

-- how many entries are on the list
abbrev pub left : Result Wrote Full → ℕ
left (Ok r) = r.count
left (Err e) = 0

-- the first of some commands is written, and a list stands for the others
pub record Advances (w : List ℕ) (C : List Command) (out : List ℕ) (at : ℕ) (r : Result Wrote Full) (l' out' : List ℕ) : Type 0 where
  pub command : Command
  pub others : List Command
  pub is : C ≡ command ∷ others
  pub pending : is_full r ≡ false → Pending w (entries l' (left r)) others
  pub written : PutBytes out at (command_bytes command) (emitted r) out'

-- for each reading: one command of those still to be written
pub record WritesCommand (w l out : List ℕ) (at : ℕ) (To : List Command → Type 0) (r : Result Wrote Full) (l' out' : List ℕ) : Type 0 where
  pub few : left r ≤ length l
  pub within : place (emitted r) ≤ length out
  pub grows : is_full r ≡ false → at < place (emitted r)
  pub advances : (C : List Command) → To C → Advances w C out at r l' out'

-- for each reading: all that is still to be written
abbrev pub Finishes : List ℕ → ℕ → (List Command → Type 0) → Result ℕ Full → List ℕ → Type 0
Finishes out at To r out' = (C : List Command) → To C → PutBytes out at (encode C) r out'

-- the cases that begin at a place, and the buffers that are lent
pub record CasesBegin (w : List ℕ) (from : ℕ) (l out : List ℕ) (at : ℕ) : Type 0 where
  pub inside : from ≤ length w
  pub short : length w ≤ text_most
  pub long : length l ≡ list_most
  pub room : at ≤ length out
  pub commands : List Command
  pub emits : Emits (go (drop from w) false []) commands

-- for each reading: the bytes of their commands
pub record Emitting (w : List ℕ) (from : ℕ) (out : List ℕ) (at : ℕ) (r : Result ℕ Full) (out' : List ℕ) : Type 0 where
  pub same : length out' ≡ length out
  pub commands : (C : List Command) → Emits (go (drop from w) false []) C → PutBytes out at (encode C) r out'
