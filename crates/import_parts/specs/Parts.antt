-- The items of a text from the front: what the grammar nests to the left, as a list.
use Rattle.std.specs.Prelude.{List, [], ◌∷◌, ◌++◌, ◌≡◌, ℕ, ◌≤◌, length, drop}
use Rattle.theory.specs.Widths.{name_bytes}
use Rattle.theory.specs.Command.{Command, site, give, Slot, name_action, end_model}
use Rattle.theory.specs.Verdict.{reward_slot, chance_slot, level_slot, end_slot}
use Rattle.import_grammar.specs.Grammar.{Spaces, Digits, Result, Setting, Chars, Items, head, closed, named, Opening, reward, chance, next, end, Before, start}
use Rattle.import_grammar.specs.Grammar.{case, four_byte, index_byte, spaces_bytes, digits_bytes, result_bytes, setting_bytes, chars_bytes}
use Rattle.import_model.specs.Commands.{condition_of, level_of, byte_of, action_of, setting_of, result_command, letters, filled}
use Rattle.import_found.specs.Cases.{opening_of, cases_bytes, cases_commands}

-- "site" and its four settings
pub data TextSite : Type 0 where
  site_with : Spaces → Setting → Setting → Setting → Setting → TextSite

-- one item: a reward, chance, next level or end worth with its cases and its else; or a name
pub data TextPart : Type 0 where
  item : Before → Spaces → Spaces → Result → TextPart
  name : {n : ℕ} → Spaces → Spaces → Digits → Spaces → Chars n → TextPart

-- ---- the parts of a reading

unfoldable mutual
  pub site_of : Items → TextSite
  site_of (head p m n A W) = site_with p m n A W
  site_of (closed B p q r) = before_site B
  site_of (named I p q ds r cs) = site_of I

  pub opening_site : Opening → TextSite
  opening_site (reward I p q ds r) = site_of I
  opening_site (chance I p q ds r i t) = site_of I
  opening_site (next I p q ds r i t) = site_of I
  opening_site (end I p t) = site_of I

  pub before_site : Before → TextSite
  before_site (start O) = opening_site O
  before_site (case B o p r q) = before_site B

-- the parts of the items, before the parts P
unfoldable mutual
  pub parts : Items → List TextPart → List TextPart
  parts (head p m n A W) P = P
  parts (closed B p q r) P = before_parts B (item B p q r ∷ P)
  parts (named I p q ds r cs) P = parts I (name p q ds r cs ∷ P)

  pub opening_parts : Opening → List TextPart → List TextPart
  opening_parts (reward I p q ds r) P = parts I P
  opening_parts (chance I p q ds r i t) P = parts I P
  opening_parts (next I p q ds r i t) P = parts I P
  opening_parts (end I p t) P = parts I P

  pub before_parts : Before → List TextPart → List TextPart
  before_parts (start O) P = opening_parts O P
  before_parts (case B o p r q) P = before_parts B P

-- ---- their bytes

unfoldable pub site_bytes : TextSite → List ℕ → List ℕ
site_bytes (site_with p m n A W) f = spaces_bytes p (115 ∷ 105 ∷ 116 ∷ 101 ∷ setting_bytes 109 m (setting_bytes 110 n (setting_bytes 65 A (setting_bytes 87 W f))))

-- the white space before an item, and the item's own bytes from its first letter to behind its "="
unfoldable pub gap : Opening → Spaces
gap (reward I p q ds r) = p
gap (chance I p q ds r i t) = p
gap (next I p q ds r i t) = p
gap (end I p t) = p

unfoldable pub opened_bytes : Opening → List ℕ → List ℕ
opened_bytes (reward I p q ds r) f = 114 ∷ 101 ∷ 119 ∷ 97 ∷ 114 ∷ 100 ∷ spaces_bytes q (digits_bytes ds (spaces_bytes r (61 ∷ f)))
opened_bytes (chance I p q ds r i t) f = 99 ∷ 104 ∷ 97 ∷ 110 ∷ 99 ∷ 101 ∷ spaces_bytes q (digits_bytes ds (spaces_bytes r (78 ∷ four_byte i ∷ spaces_bytes t (61 ∷ f))))
opened_bytes (next I p q ds r i t) f = 110 ∷ 101 ∷ 120 ∷ 116 ∷ spaces_bytes q (digits_bytes ds (spaces_bytes r (76 ∷ index_byte i ∷ spaces_bytes t (61 ∷ f))))
opened_bytes (end I p t) f = 101 ∷ 110 ∷ 100 ∷ spaces_bytes t (61 ∷ f)

-- "each closed by an else"
unfoldable pub else_bytes : Spaces → Spaces → Result → List ℕ → List ℕ
else_bytes p q r f = spaces_bytes p (101 ∷ 108 ∷ 115 ∷ 101 ∷ spaces_bytes q (58 ∷ result_bytes r f))

-- from the opening quotation mark to behind the closing one
unfoldable pub string_bytes : {n : ℕ} → Chars n → List ℕ → List ℕ
string_bytes cs f = 34 ∷ chars_bytes cs (34 ∷ f)

unfoldable pub named_bytes : {n : ℕ} → Spaces → Digits → Spaces → Chars n → List ℕ → List ℕ
unfolding string_bytes
named_bytes q ds r cs f = 110 ∷ 97 ∷ 109 ∷ 101 ∷ spaces_bytes q (digits_bytes ds (spaces_bytes r (string_bytes cs f)))

unfoldable pub part_gap : TextPart → Spaces
part_gap (item B p q r) = gap (opening_of B)
part_gap (name p q ds r cs) = p

-- a part from its first letter on
unfoldable pub part_bare : TextPart → List ℕ → List ℕ
unfolding opened_bytes else_bytes named_bytes
part_bare (item B p q r) f = opened_bytes (opening_of B) (cases_bytes B (else_bytes p q r f))
part_bare (name p q ds r cs) f = named_bytes q ds r cs f

abbrev pub part_bytes : TextPart → List ℕ → List ℕ
part_bytes x f = spaces_bytes (part_gap x) (part_bare x f)

unfoldable pub parts_bytes : List TextPart → List ℕ → List ℕ
unfolding part_gap part_bare
parts_bytes [] f = f
parts_bytes (x ∷ P) f = part_bytes x (parts_bytes P f)

-- ---- their commands

unfoldable pub site_command : TextSite → Command
site_command (site_with p m n A W) = site (byte_of (setting_of m)) (byte_of (setting_of n)) (action_of (setting_of A)) (byte_of (setting_of W))

-- what an item gives
unfoldable pub slot_of : Opening → Slot
slot_of (reward I p q ds r) = reward_slot (action_of ds)
slot_of (chance I p q ds r i t) = chance_slot (action_of ds) (condition_of i)
slot_of (next I p q ds r i t) = level_slot (action_of ds) (level_of i)
slot_of (end I p t) = end_slot

unfoldable pub part_commands : TextPart → List Command
unfolding slot_of
part_commands (item B p q r) = cases_commands B (result_command r ∷ []) ++ (give (slot_of (opening_of B)) ∷ [])
part_commands (name p q ds r cs) = name_action (action_of ds) (filled name_bytes (letters cs)) ∷ []

unfoldable pub parts_commands : List TextPart → List Command
unfolding part_commands
parts_commands [] = []
parts_commands (x ∷ P) = part_commands x ++ parts_commands P

-- ---- a walk from the front

-- what stands at the first letter of the parts still to come, or at the end
unfoldable pub from_letter : List TextPart → Spaces → List ℕ
unfolding parts_bytes
from_letter [] e = []
from_letter (x ∷ P) e = part_bare x (parts_bytes P (spaces_bytes e []))

-- a walk over the text w, whose commands are cs, at an offset where an item or the end comes: the commands so far, the parts and the commands to come
pub record Walked (w : List ℕ) (cs : List Command) (at : ℕ) (done : List Command) (P : List TextPart) (e : Spaces) : Type 0 where
  pub within : at ≤ length w
  pub bytes : drop at w ≡ from_letter P e
  pub commands : cs ≡ done ++ (parts_commands P ++ (end_model ∷ []))
