-- One byte of the scan, and what its answers stand for.
use Rattle.std.specs.Prelude.{Bool, true, false, List, [], ◌∷◌, ◌≡◌, ℕ, zero, suc, ◌+◌, ◌-◌, ◌*◌, ◌/◌, ◌%◌, ◌≤◌, ◌<◌, eqb, length, drop}
use Rattle.whole.specs.Cases.{if}
use Rattle.import_found.specs.Places.{Place, lost, result_at, go, next_case, xor}
use Rattle.import_places.specs.declared.Walk.{Walk}
use Rattle.import_places.specs.declared.Step.{Step}
use Rattle.import_places.specs.declared.Step.TheVariants.{On, Go, Result, NextCase, Lost}
use Rattle.import_places.specs.declared.Next.{Next}
use Rattle.import_places.specs.declared.Next.TheVariants.{Go as GoAt, Result as ResultAt, NextCase as NextCaseAt, Lost as LostAt}

-- the signs that bits stand for, the lowest first
unfoldable pub signs : ℕ → ℕ → List Bool
signs m zero = []
signs m (suc c) = eqb (m % 2) 1 ∷ signs (m / 2) c

-- 2 to a power
unfoldable pub two_to : ℕ → ℕ
two_to zero = 1
two_to (suc c) = two_to c * 2

unfoldable pub popped : Walk → Step
popped s =
    if (eqb s.count 0) Lost
    (On (record { depth = 0; value = xor (eqb (s.mask % 2) 1) s.value; whole = false; mask = s.mask / 2; count = s.count - 1 }))

unfoldable pub token_of : Walk → ℕ → Step
token_of s k =
    if (eqb k 38) (if s.value (if s.whole (On s) Go) (On s))
    (if (eqb k 124) (if s.value (On (record { depth = 0; value = true; whole = true; mask = s.mask; count = s.count })) Go)
    (if (eqb k 58) (if s.value Result NextCase) (On s)))

unfoldable pub step_of : Walk → ℕ → Step
step_of s k =
    if (eqb k 40) (On (record { depth = s.depth + 1; value = s.value; whole = s.whole; mask = s.mask; count = s.count }))
    (if (eqb k 41)
    (if (eqb s.depth 0) (popped s) (On (record { depth = s.depth - 1; value = s.value; whole = s.whole; mask = s.mask; count = s.count })))
    (if (eqb s.depth 0) (token_of s k) (On s)))

unfoldable pub meant : List ℕ → Next → Place
meant w (GoAt i m c) = go (drop i w) false (signs m c)
meant w (ResultAt i) = result_at (drop i w)
meant w (NextCaseAt i) = next_case (drop i w)
meant w LostAt = lost

-- what is found lies in the text, and its signs are all there are
abbrev pub InText : List ℕ → Next → Type 0
InText w (GoAt i m c) = (i ≤ length w) × (m < two_to c)
InText w (ResultAt i) = i ≤ length w
InText w (NextCaseAt i) = i ≤ length w
InText w LostAt = Unit {0}

-- the place that is meant
pub record PlaceComes (w : List ℕ) (p : Place) (r : Next) : Type 0 where
  pub place : meant w r ≡ p
  pub inside : InText w r
