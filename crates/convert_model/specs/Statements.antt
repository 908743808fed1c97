-- What is claimed of the converters, as types: each is proved in proofs/laws/Statements.
use Rattle.std.specs.Prelude.{◌≡◌, ◌↔◌, ℕ, ◌≤◌, ◌<◌, length, take, drop}
use mathlib.Core.List.{List, Memᴰ}
use Rattle.theory.specs.Form.{Form, old_form, new_form, levels_in, actions_in, bytes_in, forbidden_bytes}
use Rattle.theory.specs.Command.{push_forbidden, whole, readings_in}
use Rattle.theory.specs.Process.{optimum, lowest_best}
use Rattle.theory.specs.Meaning.{State, process}
use Rattle.theory.specs.Verdict.{refusal}
use Rattle.theory.specs.Load.{site_in, model_in, model}
use Rattle.theory.specs.Listing.{written, ListingOut}
use Rattle.theory.specs.Rows.{VerdictRowIn}
use Rattle.convert_forms.specs.Forms.{model_as}
use Rattle.convert_model.specs.Conversion.{conversion, to_new, to_old}

-- neither 10 nor a number of the model's own
pub record AdmittedIn (F : Form) (B : List ℕ) : Type 0 where
  pub bytes : length B ≤ bytes_in F
  pub own : VerdictRowIn F B (refusal 0 0)

-- not "a model that does not fit the old one (m above 4, A above 8, or too many bytes once written)"
pub record FitsIn (F G : Form) (B : List ℕ) : Type 0 where
  pub levels : (site_in F B).levels ≤ levels_in G
  pub actions : (site_in F B).actions ≤ actions_in G
  pub bytes : length (model_as F G B) ≤ bytes_in G
  -- "A model with 13 does not fit the old form"
  pub commands : {at : ℕ} → Memᴰ (record { at = at; read = whole push_forbidden }) (readings_in F B) → 1 ≤ forbidden_bytes G

-- ---- the rows

-- "the buffer stays untouched"; "All else that a refused call returns is zero."
abbrev pub refused_conversion : List ℕ → ℕ → ℕ → ListingOut
refused_conversion buffer k p = record { number = k; place = p; size = 0; buffer = buffer }

-- "to the start of a lent buffer and gives its length"
abbrev pub wrote : List ℕ → List ℕ → ListingOut
wrote buffer C = record { number = 0; place = 0; size = length C; buffer = written buffer 0 C }

pub data ConversionRow (F G : Form) (B buffer : List ℕ) : ListingOut → Type 0 where
  conversion_0 : AdmittedIn F B → FitsIn F G B → length (model_as F G B) ≤ length buffer → ConversionRow F G B buffer (wrote buffer (model_as F G B))
  -- "10: .. model above .. bytes"; "Old models keep their limit of 65,535 bytes."
  conversion_10 : bytes_in F < length B → ConversionRow F G B buffer (refused_conversion buffer 10 0)
  -- "the model's own refusals", at its own offsets
  conversion_1_8 : {k p : ℕ} → length B ≤ bytes_in F → VerdictRowIn F B (refusal k p) → 1 ≤ k → ConversionRow F G B buffer (refused_conversion buffer k p)
  -- "refuses a model that does not fit the old one .. with 20 after the model's own refusals"
  conversion_20 : AdmittedIn F B → (FitsIn F G B → ⊥) → ConversionRow F G B buffer (refused_conversion buffer 20 0)
  -- "and a short one is 17, last"
  conversion_17 : AdmittedIn F B → FitsIn F G B → length buffer < length (model_as F G B) → ConversionRow F G B buffer (refused_conversion buffer 17 0)

-- every outcome is one of them, and no two are rows of the same call
abbrev pub ConversionRows : Type 0
ConversionRows = (F G : Form) (B buffer : List ℕ) (o : ListingOut) → ConversionRow F G B buffer o ↔ (conversion F G B buffer ≡ o)

-- ---- what the calls leave

-- the bytes that a call wrote
abbrev pub bytes_of : ListingOut → List ℕ
bytes_of o = take o.size o.buffer

-- "no byte after it is touched"; refused, "the buffer stays untouched"
pub record OnlyItsOwn (buffer : List ℕ) (o : ListingOut) : Type 0 where
  pub long : length o.buffer ≡ length buffer
  pub behind : drop o.size o.buffer ≡ drop o.size buffer
  pub refused : 1 ≤ o.number → o.buffer ≡ buffer

abbrev pub NothingElse : Type 0
NothingElse = (F G : Form) (B buffer : List ℕ) → OnlyItsOwn buffer (conversion F G B buffer)

-- "writes the 02 model": the planner accepts it
abbrev pub NewAccepted : Type 0
NewAccepted = (B buffer : List ℕ) → (to_new B buffer).number ≡ 0 → AdmittedIn new_form (bytes_of (to_new B buffer))

-- "another writes the 01 model": its rules accept it
abbrev pub OldAccepted : Type 0
OldAccepted = (B buffer : List ℕ) → (to_old B buffer).number ≡ 0 → AdmittedIn old_form (bytes_of (to_old B buffer))

-- "Going forward, the best values and actions are the same at every state.", with every number of steps left
abbrev pub SameBest : Type 0
SameBest = (B buffer : List ℕ) → (to_new B buffer).number ≡ 0 → (h : ℕ) (s : State)
    → (optimum (process (model (bytes_of (to_new B buffer)))) h s ≡ optimum (process (model_in old_form B)) h s)
    × (lowest_best (process (model (bytes_of (to_new B buffer)))) h s ≡ lowest_best (process (model_in old_form B)) h s)

-- going back, the model that is loaded is the same, and so they are too
abbrev pub SameBack : Type 0
SameBack = (B buffer : List ℕ) → (to_old B buffer).number ≡ 0 → model_in old_form (bytes_of (to_old B buffer)) ≡ model B

-- "Going back and forward again gives the original bytes.", in any buffer that is long enough
abbrev pub BackAndForward : Type 0
BackAndForward = (B buffer other : List ℕ) → (to_old B buffer).number ≡ 0 → length B ≤ length other → to_new (bytes_of (to_old B buffer)) other ≡ wrote other B

-- and so does going forward and back
abbrev pub ForwardAndBack : Type 0
ForwardAndBack = (B buffer other : List ℕ) → (to_new B buffer).number ≡ 0 → length B ≤ length other → to_old (bytes_of (to_new B buffer)) other ≡ wrote other B

-- every old model fits the new form, and stays far below its limit
abbrev pub NeverTwenty : Type 0
NeverTwenty = (B buffer : List ℕ) → ((to_new B buffer).number ≡ 20 → ⊥) × ((to_new B buffer).size < 115500)
