-- The way from a place to the result that comes first.
use Rattle.std.specs.Prelude.{◌≡◌, false, List, ℕ, suc, ◌≤◌, ◌<◌, length, drop}
use Rattle.theory.specs.Command.{Command}
use Rattle.import_model.specs.Import.{text_most}
use Rattle.import_found.specs.Places.{Place, atom_at}
use Rattle.import_places.specs.Walking.{signs, two_to}
use Rattle.import_going.specs.declared.start.Spot.{Spot}
use Rattle.import_going.specs.declared.start.Spot.TheVariants.{Atom as AtomAt, Result as ResultAt, Lost as LostAt, Deep as DeepAt}
use Rattle.import_going.specs.Turns.{Spotted}
use Rattle.import_list.specs.declared.Entry.{Entry}
use Rattle.import_list.specs.Pending.{Visits}
use Rattle.import_list.specs.Packed.{list_most, entries}
use Rattle.import_list.specs.Pending.{ResultFirst}
use Rattle.import_descend.specs.declared.Down.{Down}

-- an atom of the text, of which no command is written, and room for it on the list
pub record AtomReady (w : List ℕ) (e : Entry) (l : List ℕ) (n : ℕ) : Type 0 where
  pub inside : e.at < length w
  pub short : length w ≤ text_most
  pub low : e.mask < two_to e.count
  pub fresh : e.both ≡ false
  pub room : n < length l

abbrev pub place_of : List ℕ → Entry → Place
place_of w e = atom_at e.sign (signs e.mask e.count) (drop e.at w)

-- a spot that is visited, with what is on the list
pub record SpotComes (w : List ℕ) (r : Spot) (l : List ℕ) (n : ℕ) (C : List Command) : Type 0 where
  pub place : Place
  pub spotted : Spotted w place r
  pub visits : Visits w place (entries l n) C

-- a spot lies in the text
abbrev pub InPlace : List ℕ → Spot → Type 0
InPlace w (AtomAt i b m c) = (i < length w) × (m < two_to c)
InPlace w (ResultAt i) = i ≤ length w
InPlace w LostAt = Unit {0}
InPlace w DeepAt = Unit {0}

-- what is still to be written stays the same
pub record Enters (w : List ℕ) (e : Entry) (l : List ℕ) (n : ℕ) (r : Spot) (l' : List ℕ) : Type 0 where
  pub same : length l' ≡ length l
  pub inside : InPlace w r
  pub goes_on : (C : List Command) → Visits w (place_of w e) (entries l n) C → SpotComes w r l' (suc n) C

-- a spot of the text, and a list that is long enough
pub record Starting (w : List ℕ) (s : Spot) (l : List ℕ) (n : ℕ) : Type 0 where
  pub inside : InPlace w s
  pub short : length w ≤ text_most
  pub long : length l ≡ list_most
  pub few : n ≤ length l

abbrev pub none_found : Down
none_found = record { count = 0; at = 0 }

-- for each reading: a result is reached, whose command is the first that is still to be written
pub record Descends (w : List ℕ) (s : Spot) (l : List ℕ) (n : ℕ) (r : Down) (l' : List ℕ) : Type 0 where
  pub same : length l' ≡ length l
  pub few : r.count ≤ length l
  pub inside : r.at ≤ length w
  pub first : (C : List Command) → SpotComes w s l n C → ResultFirst w (drop r.at w) (entries l' r.count) C
