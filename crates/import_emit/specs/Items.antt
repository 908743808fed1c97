-- What is written of the items of a text, and of all of it: for each reading without a number beyond, the bytes of its commands, or that they are longer than the room.
use Rattle.std.specs.Prelude.{Result, ◌≡◌, false, List, [], ◌∷◌, ◌++◌, ℕ, ◌≤◌, ◌<◌, length, drop, get_or}
use Rattle.theory.specs.Widths.{name_bytes}
use Rattle.theory.specs.Command.{Command, give, name_action, end_model}
use Rattle.import_grammar.specs.Grammar.{Spaces, Text, text_bytes}
use Rattle.import_numbers.specs.Numbers.{beyond}
use Rattle.import_model.specs.Commands.{action_most}
use Rattle.import_model.specs.Encode.{command_bytes, encode}
use Rattle.import_model.specs.Import.{text_most, model_bytes}
use Rattle.import_found.specs.Places.{go, Emits}
use Rattle.import_parts.specs.Parts.{TextPart, site_command, part_commands, parts_commands, from_letter}
use Rattle.import_parts.specs.Walk.{name_byte}
use Rattle.import_parts.specs.laws.Order.{text_parts, text_site, text_end}
use Rattle.import_parts.specs.laws.Within.{parts_within}
use Rattle.import_walk.specs.declared.opening.Opening.{Opening}
use Rattle.import_walk.specs.Answers.{slot_said}
use Rattle.import_list.specs.Packed.{list_most}
use Rattle.import_emit_cases.specs.Emitting.{PutBytes, CasesBegin}
use Rattle.import_emit_cases.specs.declared.Full.{Full}
use Rattle.import_emit.specs.declared.items.Passed.{Passed}

-- ---- one command behind what is written

pub record CommandPut (out : List ℕ) (at : ℕ) (c : Command) (r : Result ℕ Full) (out' : List ℕ) : Type 0 where
  pub same : length out' ≡ length out
  pub put : PutBytes out at (command_bytes c) r out'

-- an opening whose action is written in two bytes
pub record Opened (o : Opening) (out : List ℕ) (at : ℕ) : Type 0 where
  pub action : o.action ≤ action_most
  pub room : at ≤ length out

-- sixteen bytes, each read for itself
pub record NameSpelt (w : List ℕ) (from : ℕ) (b : List ℕ) : Type 0 where
  pub long : length b ≡ name_bytes
  pub each : (j : ℕ) → j < name_bytes → name_byte j (drop from w) ≡ get_or b j 0

-- the name whose string begins behind its opening
pub record NamePut (w : List ℕ) (o : Opening) (out : List ℕ) (at : ℕ) (r : Result ℕ Full) (out' : List ℕ) : Type 0 where
  pub same : length out' ≡ length out
  pub put : (b : List ℕ) → NameSpelt w o.next b → PutBytes out at (command_bytes (name_action o.action b)) r out'

-- ---- an item

-- an opening, and cases behind it
pub record ItemAt (w : List ℕ) (o : Opening) (l out : List ℕ) (at : ℕ) : Type 0 where
  pub action : o.action ≤ action_most
  pub begins : CasesBegin w o.next l out at

-- its cases, then what they are given as
pub record ItemPut (w : List ℕ) (o : Opening) (out : List ℕ) (at : ℕ) (r : Result ℕ Full) (out' : List ℕ) : Type 0 where
  pub same : length out' ≡ length out
  pub commands : (C : List Command) → Emits (go (drop o.next w) false []) C → PutBytes out at (encode (C ++ (give (slot_said o) ∷ []))) r out'

-- ---- from item to item

-- the parts that come at an offset, with no number beyond
pub record PartsCome (w : List ℕ) (from : ℕ) (P : List TextPart) (e : Spaces) : Type 0 where
  pub inside : from ≤ length w
  pub bytes : drop from w ≡ from_letter P e
  pub within : parts_within P

-- what is lent: the text, the list of the cases, the bytes
pub record Buffers (w l out : List ℕ) (at : ℕ) : Type 0 where
  pub short : length w ≤ text_most
  pub long : length l ≡ list_most
  pub room : at ≤ length out

-- a part comes
pub record PartAt (w : List ℕ) (from : ℕ) (l out : List ℕ) (at : ℕ) : Type 0 where
  pub lent : Buffers w l out at
  pub part : TextPart
  pub parts : List TextPart
  pub spaces : Spaces
  pub comes : PartsCome w from (part ∷ parts) spaces

-- its commands, and the offset where the next comes
pub record PartPut (w : List ℕ) (from : ℕ) (out : List ℕ) (at : ℕ) (r : Passed) (out' : List ℕ) : Type 0 where
  pub same : length out' ≡ length out
  pub further : from < length w → from < r.next
  pub put : (x : TextPart) (P : List TextPart) (e : Spaces) → PartsCome w from (x ∷ P) e → PutBytes out at (encode (part_commands x)) r.wrote out'
  pub on : (x : TextPart) (P : List TextPart) (e : Spaces) → PartsCome w from (x ∷ P) e → PartsCome w r.next P e

-- parts come, or the end
pub record PartsAt (w : List ℕ) (from : ℕ) (l out : List ℕ) (at : ℕ) : Type 0 where
  pub lent : Buffers w l out at
  pub parts : List TextPart
  pub spaces : Spaces
  pub comes : PartsCome w from parts spaces

-- the commands of all of them, and the last
pub record PartsPut (w : List ℕ) (from : ℕ) (out : List ℕ) (at : ℕ) (r : Result ℕ Full) (out' : List ℕ) : Type 0 where
  pub same : length out' ≡ length out
  pub put : (P : List TextPart) (e : Spaces) → PartsCome w from P e → PutBytes out at (encode (parts_commands P ++ (end_model ∷ []))) r out'

-- ---- the whole text

-- a reading without a number beyond, of a text that is no longer than it may be
pub record ReadingWithin (w : List ℕ) : Type 0 where
  pub text : Text
  pub bytes : length w ≤ text_most
  pub reading : text_bytes text ≡ w
  pub within : beyond text ≡ false

-- the site, and where its parts come
pub record SitePut (w out : List ℕ) (r : Passed) (out' : List ℕ) : Type 0 where
  pub same : length out' ≡ length out
  pub put : (t : ReadingWithin w) → PutBytes out 0 (command_bytes (site_command (text_site t.text))) r.wrote out'
  pub on : (t : ReadingWithin w) → PartsCome w r.next (text_parts t.text) (text_end t.text)

-- "an import of whole models": the model that the text becomes
pub record ModelPut (w out : List ℕ) (r : Result ℕ Full) (out' : List ℕ) : Type 0 where
  pub same : length out' ≡ length out
  pub put : (t : ReadingWithin w) → PutBytes out 0 (model_bytes t.text) r out'
