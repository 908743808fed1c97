-- Where the steps over the bytes stop, and what numbers they read.
use Rattle.std.specs.Prelude.{List, ◌≡◌, ℕ, ◌≤◌, ◌<◌, length, drop}
use Rattle.import_parts.specs.Walk.{Stands, number_value, number_rest, setting_value, setting_rest}
use Rattle.import_walk.specs.declared.number.Number.{Number}

-- an offset, not before `from`, at which l stands
pub record Onward (w : List ℕ) (from i : ℕ) (l : List ℕ) : Type 0 where
  pub stands : Stands w i l
  pub on : from ≤ i

-- n bytes on
pub record Ahead (w : List ℕ) (from n i : ℕ) : Type 0 where
  pub to : Onward w from i (drop n (drop from w))
  pub moves : from < length w → 1 ≤ n → from < i

pub record NumberAt (w : List ℕ) (from most : ℕ) (r : Number) : Type 0 where
  pub value : r.value ≡ number_value most 0 (drop from w)
  pub next : Onward w from r.next (number_rest (drop from w))

pub record SettingAt (w : List ℕ) (from most : ℕ) (r : Number) : Type 0 where
  pub value : r.value ≡ setting_value most (drop from w)
  pub next : Onward w from r.next (setting_rest (drop from w))
