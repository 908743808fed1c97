-- What is claimed of finding an action by its name, as types: each is proved in proofs/laws/Statements.
use Rattle.std.specs.Prelude.{◌≡◌, ◌↔◌, ◌⊎◌, List, [], ◌++◌, ℕ, ◌-◌, length, get_or, replicate}
use Rattle.theory.specs.Load.{site_at}
use Rattle.theory.specs.Name.{name_refusal, name}
use Rattle.theory.specs.Rows.{Range, Admitted, EarlyRow}
use Rattle.model_find.specs.Find.{FindOut, refused_find, found, find}

-- x is y without its trailing spaces
pub record Sent (y x : List ℕ) : Type 0 where
  pub spaces : ℕ
  pub bytes : y ≡ x ++ replicate spaces 0x20
  pub last : (x ≡ []) ⊎ (get_or x (length x - 1) 0 ≡ 0x20 → ⊥)

-- an action of the model carries x; "the empty name counts as carried by nobody"
pub record Carries (B x : List ℕ) (a : ℕ) : Type 0 where
  pub some : x ≡ [] → ⊥
  pub among : Range 1 (site_at B).actions a
  pub named : name B a ≡ x

-- ---- the rows

-- number, place and action; neither steps nor stage words are asked, so never 9
pub data FindRow (B y : List ℕ) : FindOut → Type 0 where
  find_0 : {x : List ℕ} {a : ℕ} → Admitted B 1 8 → Sent y x → Carries B x a → ((b : ℕ) → Carries B x b → b ≡ a) → FindRow B y (found a)
  -- "both after the model's own refusals"
  find_1_10 : {k p : ℕ} → EarlyRow B 1 8 k p → FindRow B y (refused_find k p)
  -- "a name that no action carries with 18"
  find_18 : {x : List ℕ} → Admitted B 1 8 → Sent y x → ((a : ℕ) → Carries B x a → ⊥) → FindRow B y (refused_find 18 0)
  -- "and one that several carry with 19"
  find_19 : {x : List ℕ} {a b : ℕ} → Admitted B 1 8 → Sent y x → Carries B x a → Carries B x b → (a ≡ b → ⊥) → FindRow B y (refused_find 19 0)

-- every outcome is one of them, and no two are rows of the same call
abbrev pub FindRows : Type 0
FindRows = (B y : List ℕ) (o : FindOut) → FindRow B y o ↔ (find B y ≡ o)

-- ---- and home again

-- "For an action whose name is not empty and no other's, asking its name and then its number leads home again."
abbrev pub FindsHome : Type 0
FindsHome = (B : List ℕ) (a : ℕ) → (name_refusal B a).number ≡ 0 → (name B a ≡ [] → ⊥)
    → ((b : ℕ) → (name_refusal B b).number ≡ 0 → name B b ≡ name B a → b ≡ a) → find B (name B a) ≡ found a

-- the other way round: the name of the action found is the name sent without its trailing spaces
abbrev pub NamesFound : Type 0
NamesFound = (B y : List ℕ) → (find B y).number ≡ 0 → ((name_refusal B (find B y).action).number ≡ 0) × Sent y (name B (find B y).action)

-- "Trailing spaces of the name sent do not matter."
abbrev pub SpacesLost : Type 0
SpacesLost = (B y : List ℕ) (k : ℕ) → find B (y ++ replicate k 0x20) ≡ find B y

-- "the empty name counts as carried by nobody", and spaces alone are the empty name: 18 wherever the model is accepted
abbrev pub EmptyNobodys : Type 0
EmptyNobodys = (B : List ℕ) (k : ℕ) → Admitted B 1 8 → find B (replicate k 0x20) ≡ refused_find 18 0

-- two actions of an accepted model carry the name sent
pub record Shared (B y : List ℕ) : Type 0 where
  pub admitted : Admitted B 1 8
  pub sent : List ℕ
  pub is_sent : Sent y sent
  pub one : ℕ
  pub other : ℕ
  pub one_carries : Carries B sent one
  pub other_carries : Carries B sent other
  pub differ : one ≡ other → ⊥

-- "one that several carry with 19": there and nowhere else
abbrev pub SharedRefused : Type 0
SharedRefused = (B y : List ℕ) → Shared B y ↔ ((find B y).number ≡ 19)
