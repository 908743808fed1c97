-- "Given a model and a name, the planner gives the action's number.": one function of the bytes of both, refused calls included.
use Rattle.std.specs.Prelude.{Bool, true, false, ◌&&◌, List, [], ◌∷◌, ℕ, eqb, length, take}
use Rattle.whole.specs.Cases.{if}
use Rattle.theory.specs.Widths.{steps_most}
use Rattle.theory.specs.Verdict.{from_to}
use Rattle.theory.specs.Load.{site_at}
use Rattle.theory.specs.Solve.{early}
use Rattle.theory.specs.Name.{trimmed, name}

-- number and place of a refusal, and the action
pub record FindOut : Type 0 where
  pub number : ℕ
  pub place : ℕ
  pub action : ℕ

-- "All else that a refused call returns is zero."
abbrev pub refused_find : ℕ → ℕ → FindOut
refused_find k p = record { number = k; place = p; action = 0 }

-- "Success has number and place 0."
abbrev pub found : ℕ → FindOut
found a = record { number = 0; place = 0; action = a }

-- "Trailing spaces of the name sent do not matter.": the bytes without those at their end
unfoldable pub trim : List ℕ → List ℕ
trim y = take (trimmed y (length y)) y

-- byte for byte: leading and inner spaces count, and capitals
unfoldable pub same_name : List ℕ → List ℕ → Bool
same_name [] [] = true
same_name [] (b ∷ y) = false
same_name (a ∷ x) [] = false
same_name (a ∷ x) (b ∷ y) = eqb a b && same_name x y

-- action a carries x; "the empty name counts as carried by nobody"
unfoldable pub carries : List ℕ → List ℕ → ℕ → Bool
carries B [] a = false
carries B (b ∷ x) a = same_name (name B a) (b ∷ x)

-- those of some actions that carry it
unfoldable pub bearers : List ℕ → List ℕ → List ℕ → List ℕ
bearers B x [] = []
bearers B x (a ∷ l) = if (carries B x a) (a ∷ bearers B x l) (bearers B x l)

-- "a name that no action carries with 18, and one that several carry with 19"
unfoldable pub found_among : List ℕ → FindOut
found_among [] = refused_find 18 0
found_among (a ∷ []) = found a
found_among (a ∷ b ∷ l) = refused_find 19 0

-- "both after the model's own refusals": 10, then those of the model; no steps are asked
unfoldable pub find : List ℕ → List ℕ → FindOut
find B y =
    let v = early B 1 steps_most in
    if (eqb v.number 0) (found_among (bearers B (trim y) (from_to 1 (site_at B).actions))) (refused_find v.number v.place)
