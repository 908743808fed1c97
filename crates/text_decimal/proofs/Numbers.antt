-- Laws of decimal digits and of signs.
use mathlib.Core.Path.{◌≡◌, refl, ap, ◌∙◌}
use mathlib.Core.Bool.{Bool, true, false}
use mathlib.Core.List.{List, [], ◌∷◌, ◌++◌}
use Prim.Native.Nat.{ℕ, zero, suc, ◌+◌, ◌-◌, ◌≤◌, ◌<◌, ◌/◌, ◌%◌}
use native.Mathlib.Omega.{arith}
use lib.Dec.{ltb}
use lib.IntN.{ℤ, pos, negsuc, nat_abs}
use lib.ListN.{length, length-append}
use lib.Signed.{lt_z}
use mir.Syntax.{w64}
use mir.Val.{SFits}
use borrow.Author.Tests.{lt-ltb, le-ltb, ltb-true}
use Rattle.whole.specs.Cases.{if}
use Rattle.whole.proofs.Signed.{R, back, abs_back}
use Rattle.theory.specs.Listing.{digits, spaced}

abbrev last : ℕ → List ℕ
last x = (48 + x % 10) ∷ []

pub digits_least : (k x : ℕ) → k ≡ 0 → digits k x ≡ last x
unfolding digits
digits_least k x e = rw e

pub digits_few : (k x : ℕ) → x < 10 → digits k x ≡ last x
unfolding digits
digits_few zero x h = refl
digits_few (suc k) x h = simp (lt-ltb _ _ h)

pub digits_more : (k x : ℕ) → (k ≡ 0 → ⊥) → 10 ≤ x → digits k x ≡ digits (k - 1) (x / 10) ++ last x
unfolding digits
digits_more zero x n h = absurd (n refl)
digits_more (suc k) x n h =
    let e : suc k - 1 ≡ k = omega arith in
    rw e (simp (le-ltb _ _ h))

pub digits_some : (k x : ℕ) → 0 < length (digits k x)
unfolding digits
digits_some zero x = omega arith
digits_some (suc k) x = go (ltb x 10)
  where
    go : (b : Bool) → 0 < length (if b (last x) (digits k (x / 10) ++ last x))
    go true = omega arith
    go false = omega (arith, length-append (digits k (x / 10)) (last x))

-- a byte fewer without the last digit
pub digits_longer : (k x : ℕ) → (k ≡ 0 → ⊥) → 10 ≤ x → length (digits k x) ≡ length (digits (k - 1) (x / 10)) + 1
digits_longer k x n h = ap length (digits_more k x n h) ∙ length-append (digits (k - 1) (x / 10)) (last x)

-- ---- a space and a number

pub spaced_plain : (x : ℕ) → spaced (pos x) ≡ (32 ∷ []) ++ digits 19 x
unfolding spaced
spaced_plain x = refl

-- a number that a test found negative, and x its magnitude
module _ (z : ℤ) (x : ℕ) (f : SFits w64 z) (e : x ≡ nat_abs (R z)) where
  pub spaced_negative : lt_z (R z) (pos 0) ≡ true → spaced z ≡ (32 ∷ 45 ∷ []) ++ digits 19 x
  unfolding spaced
  spaced_negative t = go z x (abs_back z f e) (rw (back z f) at t)
    where
      go : (z : ℤ) (x : ℕ) → x ≡ nat_abs z → lt_z z (pos 0) ≡ true → spaced z ≡ (32 ∷ 45 ∷ []) ++ digits 19 x
      go (pos n) x e t = let h = ltb-true n 0 t in absurd (omega arith)
      go (negsuc n) x e t = rw e

  pub spaced_positive : lt_z (R z) (pos 0) ≡ false → spaced z ≡ spaced (pos x)
  spaced_positive t = go z x (abs_back z f e) (rw (back z f) at t)
    where
      go : (z : ℤ) (x : ℕ) → x ≡ nat_abs z → lt_z z (pos 0) ≡ false → spaced z ≡ spaced (pos x)
      go (pos n) x e t = rw e
      go (negsuc n) x e t = let z : ◌≡◌ {A = ℕ} 0 1 = cc in absurd (omega arith)
