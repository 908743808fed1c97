-- What is claimed of an import, as types: each is proved in proofs/laws/Statements.
use Rattle.std.specs.Prelude.{◌≡◌, ◌↔◌, ℕ, ◌≤◌, ◌<◌, ℤ, pos, negsuc, length, ◌≤ℤ◌}
use mathlib.Core.List.{List, map, Memᴰ}
use Rattle.theory.specs.Widths.{bytes_most}
use Rattle.theory.specs.Form.{new_form}
use Rattle.theory.specs.Command.{readings}
use Rattle.theory.specs.Verdict.{refusal, reward_slot, chance_slot, level_slot, from_to}
use Rattle.theory.specs.Process.{optimum, lowest_best, Policy, expected}
use Rattle.theory.specs.Meaning.{State, Env, at, action_at, end_at, process}
use Rattle.theory.specs.Load.{site_at, model}
use Rattle.theory.specs.Listing.{ListingOut}
use Rattle.theory.specs.Rows.{Range, VerdictRow}
use Rattle.convert_model.specs.Statements.{AdmittedIn, bytes_of, OnlyItsOwn}
use Rattle.import_grammar.specs.Grammar.{Text, text_bytes}
use Rattle.import_grammar.specs.laws.Viable.{Stopped}
use Rattle.import_numbers.specs.Numbers.{numbers}
use Rattle.import_model.specs.Commands.{text_commands}
use Rattle.import_model.specs.Encode.{placed}
use Rattle.import_model.specs.Meaning.{Item, item_leaf, leaf_at, end_worth, text_items, text_site, text_process}
use Rattle.import_model.specs.Import.{text_most, model_bytes, untouched, filled_with, import_text}

-- ---- the rows

-- neither 10 nor 24: t is what the bytes are read as
pub record ReadAs (w : List ℕ) (t : Text) : Type 0 where
  pub bytes : length w ≤ text_most
  pub reading : text_bytes t ≡ w

-- not 25: no "number beyond signed 32 bits, written, worked out or as a comparison's difference"
abbrev pub NumbersFit : Text → Type 0
NumbersFit t = (z : ℤ) → Memᴰ z (numbers t) → (negsuc 2147483647 ≤ℤ z) × (z ≤ℤ pos 2147483647)

pub data ImportRow (w buffer : List ℕ) : ListingOut → Type 0 where
  import_0 : {t : Text} → ReadAs w t → NumbersFit t → AdmittedIn new_form (model_bytes t) → length (model_bytes t) ≤ length buffer
      → ImportRow w buffer (filled_with buffer (model_bytes t))
  -- "text above 262,144 bytes with 10"
  import_10 : text_most < length w → ImportRow w buffer (untouched buffer 10 0)
  -- "24 and the offset of the first byte that no text of the grammar can have there (or the length, if it only ends early)"
  import_24 : {i : ℕ} → length w ≤ text_most → Stopped w i → ImportRow w buffer (untouched buffer 24 i)
  -- "with 25 once the whole text is in the grammar"
  import_25 : {t : Text} → ReadAs w t → (NumbersFit t → ⊥) → ImportRow w buffer (untouched buffer 25 0)
  -- "the model's own refusals follow (10 first)"
  import_10_model : {t : Text} → ReadAs w t → NumbersFit t → bytes_most < length (model_bytes t) → ImportRow w buffer (untouched buffer 10 0)
  -- "by its offsets"
  import_1_8 : {t : Text} {k p : ℕ} → ReadAs w t → NumbersFit t → length (model_bytes t) ≤ bytes_most → VerdictRow (model_bytes t) (refusal k p) → 1 ≤ k
      → ImportRow w buffer (untouched buffer k p)
  -- "then 17"
  import_17 : {t : Text} → ReadAs w t → NumbersFit t → AdmittedIn new_form (model_bytes t) → length buffer < length (model_bytes t)
      → ImportRow w buffer (untouched buffer 17 0)

-- every outcome is one of them, and no two are rows of the same call
abbrev pub ImportRows : Type 0
ImportRows = (w buffer : List ℕ) (o : ListingOut) → ImportRow w buffer o ↔ (import_text w buffer ≡ o)

-- ---- what a call leaves

-- "nothing after it is touched"; "every refusal leaves the buffer untouched"
abbrev pub NothingElse : Type 0
NothingElse = (w buffer : List ℕ) → OnlyItsOwn buffer (import_text w buffer)

-- ---- "the model's values follow that reading"

-- the diagrams of the model B come at every state to what the items of t mean there, and so do values, best actions and policies
pub record Follows (B : List ℕ) (t : Text) : Type 0 where
  -- "(site, names and forbidden too)": the site that is written, and all its commands as docs/ says them
  pub same_site : site_at B ≡ text_site t
  pub commands : readings B ≡ placed 0 (text_commands t)
  -- each item is the one that gives its slot
  pub items : (x : Item) → Memᴰ x (text_items t) → (e : Env) → leaf_at e x.slot (text_items t) ≡ item_leaf e x
  -- at every state, and every setting of the next conditions
  pub rewards : (a : ℕ) → Range 1 (text_site t).actions a → (e : Env) → at e (action_at (model B) a).reward ≡ leaf_at e (reward_slot a) (text_items t)
  pub chances : (a : ℕ) → Range 1 (text_site t).actions a → (e : Env)
      → map (at e) (action_at (model B) a).chances ≡ map (λ k. leaf_at e (chance_slot a k) (text_items t)) (from_to 1 (text_site t).conditions)
  pub levels : (a : ℕ) → Range 1 (text_site t).actions a → (e : Env)
      → map (at e) (action_at (model B) a).levels ≡ map (λ i. leaf_at e (level_slot a i) (text_items t)) (from_to 1 (text_site t).levels)
  pub end : (e : Env) → end_at e (model B).end ≡ end_worth e (text_items t)
  -- so that the values, the lowest best actions and each policy's expected totals are the text's
  pub values : (h : ℕ) (s : State) → optimum (process (model B)) h s ≡ optimum (text_process t) h s
  pub actions : (h : ℕ) (s : State) → lowest_best (process (model B)) h s ≡ lowest_best (text_process t) h s
  pub policies : (π : Policy (process (model B))) (ρ : Policy (text_process t)) → ((h : ℕ) (s : State) → π.choice h s ≡ ρ.choice h s)
      → (h : ℕ) (s : State) → expected (process (model B)) π h s ≡ expected (text_process t) ρ h s

-- of every import that is not refused
abbrev pub ModelFollows : Type 0
ModelFollows = (w buffer : List ℕ) (t : Text) → text_bytes t ≡ w → (import_text w buffer).number ≡ 0 → Follows (bytes_of (import_text w buffer)) t
