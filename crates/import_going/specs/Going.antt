-- One byte of each walk, and what its answers stand for.
use Rattle.std.specs.Prelude.{Option, Some, None, Bool, true, false, List, [], ◌∷◌, ◌≡◌, ℕ, ◌+◌, ◌-◌, ◌≤◌, eqb, length, drop}
use Rattle.whole.specs.Cases.{if}
use Rattle.import_found.specs.Places.{Place, lost}
use Rattle.std.specs.declared.ops.ControlFlow.{ControlFlow}
use Rattle.std.specs.declared.ops.ControlFlow.TheVariants.{Continue, Break}

-- a byte that only a condition has
unfoldable pub is_mark : ℕ → Bool
is_mark k = if (eqb k 60) true (if (eqb k 62) true (if (eqb k 67) true (eqb k 78)))

unfoldable pub seen_of : ℕ → ℕ → ControlFlow Bool ℕ
unfolding is_mark
seen_of d k =
    if (eqb k 40) (Continue (d + 1))
    (if (eqb k 41) (if (eqb d 0) (Break false) (Continue (d - 1)))
    (if (is_mark k) (Break true) (Continue d)))

-- what stands behind the first of a byte
unfoldable pub upto : ℕ → (List ℕ → Place) → List ℕ → Place
upto c K [] = lost
upto c K (k ∷ w) = if (eqb k c) (K w) (upto c K w)

unfoldable pub found_at : (List ℕ → Place) → List ℕ → Option ℕ → Place
found_at K w (Some i) = K (drop i w)
found_at K w None = lost

-- how far it is
unfoldable pub reached : Option ℕ → ℕ
reached (Some i) = i
reached None = 0

-- the offset behind the first byte c from an offset on
pub record Behind (c : ℕ) (w : List ℕ) (from : ℕ) (r : Option ℕ) : Type 0 where
  pub place : (K : List ℕ → Place) → found_at K w r ≡ upto c K (drop from w)
  pub within : reached r ≤ length w
