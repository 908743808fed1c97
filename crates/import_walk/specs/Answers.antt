-- What the walk answers, equal to what is read at the offset.
use Rattle.std.specs.Prelude.{List, ◌≡◌, ℕ, ◌<◌, eqb, length, drop}
use Rattle.whole.specs.Cases.{if}
use Rattle.theory.specs.Command.{Slot}
use Rattle.import_model.specs.Commands.{byte_most, action_most}
use Rattle.import_parts.specs.Walk.{past, setting_value, setting_rest, kind_in, action_in, action_rest, opening_rest, slot_in}
use Rattle.import_walk.specs.Onward.{Onward}
use Rattle.import_walk.specs.declared.number.Number.{Number}
use Rattle.import_walk.specs.declared.site.Site.{Site}
use Rattle.import_walk.specs.declared.opening.Opening.{Opening}

-- the four settings in their order
pub record SiteAt (w : List ℕ) (at : ℕ) (r : Site) : Type 0 where
  pub levels : r.levels ≡ setting_value byte_most (drop at w)
  pub conditions : r.conditions ≡ setting_value byte_most (setting_rest (drop at w))
  pub actions : r.actions ≡ setting_value action_most (setting_rest (setting_rest (drop at w)))
  pub weights : r.weights ≡ setting_value byte_most (setting_rest (setting_rest (setting_rest (drop at w))))
  pub next : Onward w at r.next (setting_rest (setting_rest (setting_rest (setting_rest (drop at w)))))

-- an item's command by its first two letters
unfoldable pub kind_by : ℕ → ℕ → ℕ
kind_by first second = if (eqb first 114) 0x20 (if (eqb first 99) 0x21 (if (eqb first 101) 0x23 (if (eqb second 97) 0x30 0x22)))

pub record ActionAt (w : List ℕ) (at kind : ℕ) (r : Number) : Type 0 where
  pub value : r.value ≡ action_in kind (drop at w)
  pub next : Onward w at r.next (action_rest kind (drop at w))
  pub moves : at < length w → at < r.next

-- behind an item's action: where its cases begin, or its string
unfoldable pub BehindAt : List ℕ → ℕ → ℕ → ℕ → Type 0
BehindAt w at kind r = Onward w at r (if (eqb kind 0x30) (drop at w) (past 61 (drop at w)))

abbrev pub slot_said : Opening → Slot
slot_said r = record { command = r.kind; action = r.action; index = r.index }

-- an item's command, where its cases or its string begin, and that this is further on
pub record OpeningAt (w : List ℕ) (at : ℕ) (r : Opening) : Type 0 where
  pub slot : slot_said r ≡ slot_in (drop at w)
  pub next : Onward w at r.next (opening_rest (kind_in (drop at w)) (drop at w))
  pub moves : at < length w → at < r.next
