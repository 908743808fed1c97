-- Where a text stops: a byte string begins a text of the grammar, or there is a first byte that no text can have there.
use Rattle.std.specs.Prelude.{◌≡◌, Bool, true, false, List, [], ◌∷◌, ◌++◌, ℕ, suc, length}
use Rattle.import_grammar.specs.Grammar.{Text, text_bytes, InGrammar}
use Rattle.import_grammar.specs.Reader.{Machine, at, mid, dead, step, Reading, read, unfinished, finish}

-- some text of the grammar begins so
pub record BeginsText (w : List ℕ) : Type 0 where
  pub rest : List ℕ
  pub text : Text
  pub same : text_bytes text ≡ w ++ rest

abbrev pub alive : Machine → Bool
alive (at s p) = true
alive (mid s) = true
alive dead = false

-- ---- where a text stops: the first byte that no text can have there, or the length where it only ends early

pub data Outcome : Type 0 where
  fine : Text → Outcome
  stops : ℕ → Outcome

unfoldable pub concluded : Reading → ℕ → Outcome
concluded (read t) i = fine t
concluded unfinished i = stops i

-- the definition that the code is held to
unfoldable pub scan : Machine → List ℕ → ℕ → Outcome
unfolding concluded
scan m [] i = concluded (finish m) i
scan m (k ∷ w) i = elim (alive (step m k)) [
  | true ↦ scan (step m k) w (suc i)
  | false ↦ stops i
]

abbrev pub Impossible : List ℕ → List ℕ → Type 0
Impossible u [] = InGrammar u → ⊥
Impossible u (k ∷ v) = BeginsText (u ++ (k ∷ [])) → ⊥

-- "24 and the offset of the first byte that no text of the grammar can have there (or the length, if it only ends early)"
pub record Stopped (w : List ℕ) (i : ℕ) : Type 0 where
  pub before : List ℕ
  pub after : List ℕ
  pub parts : before ++ after ≡ w
  pub place : length before ≡ i
  pub begins : BeginsText before
  pub ending : Impossible before after

abbrev pub Right : List ℕ → Outcome → Type 0
Right w (fine t) = text_bytes t ≡ w
Right w (stops i) = Stopped w i
