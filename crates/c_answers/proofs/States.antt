-- The numbers of a state as they are passed on: read back, they are themselves.
use mathlib.Core.Path.{◌≡◌, refl, ap₂}
use mathlib.Core.List.{List, [], ◌∷◌, map}
use lib.IntN.{ℤ}
use mir.Syntax.{w32}
use mir.Val.{SFits}
use Rattle.whole.proofs.Signed.{R32, back32}

abbrev pub Fitting : List ℤ → Type 0
Fitting [] = Unit {0}
Fitting (z ∷ l) = SFits w32 z × Fitting l

pub read_back : (l : List ℤ) → Fitting l → map R32 l ≡ l
read_back [] f = refl
read_back (z ∷ l) f = ap₂ ◌∷◌ (back32 z f.0) (read_back l f.1)
