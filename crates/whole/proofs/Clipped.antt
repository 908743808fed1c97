-- A product, clipped to the first number beyond the limits.
use Rattle.std.specs.Prelude.{Option, Some, None}
use Rattle.std.proofs.Common.{◌≡◌, suc, ◌^◌, ◌<◌, Bool, true, false, ℤ, pos, ◌*ℤ◌, nat_abs, sym, refl, ap, ◌∙◌, ap₂, arith, w64, SFits, le-leb, leb-true}
use borrow.Author.Tests.{lt-leb}
use lib.Signed.{mag}
use Rattle.whole.specs.Cases.{if}
use Rattle.whole.specs.Linears.{clipped}
use Rattle.whole.specs.Within.{limit, Small, small, limited}
use Rattle.whole.specs.WithinLaws.{limited_gives, limited_lacks}
use Rattle.whole.proofs.Signed.{R, back, by_abs, small_back}

first_over : small (pos (suc limit)) ≡ false
unfolding small
first_over = lt-leb (suc limit) limit (omega arith)

pub small_clipped : (z : ℤ) → small (clipped z) ≡ small z
unfolding clipped
small_clipped z = go (small z) refl
  where
    go : (b : Bool) → small z ≡ b → small (if b z (pos (suc limit))) ≡ b
    go true e = e
    go false e = first_over

clipped_is : (z : ℤ) → small z ≡ true → clipped z ≡ z
unfolding clipped
clipped_is z e = ap (λ (b : Bool). if b z (pos (suc limit))) e

clipped_over : (z : ℤ) → small z ≡ false → clipped z ≡ pos (suc limit)
unfolding clipped
clipped_over z e = ap (λ (b : Bool). if b z (pos (suc limit))) e

-- it fits, whatever it was
clipped_fits : (z : ℤ) → SFits w64 (clipped z)
unfolding clipped small
clipped_fits z = go (small z) refl
  where
    go : (b : Bool) → small z ≡ b → SFits w64 (if b z (pos (suc limit)))
    go true e = by_abs z (let h = leb-true (nat_abs z) limit e in omega arith)
    go false e = by_abs (pos (suc limit)) (omega arith)

module _ (a b : ℤ) {o : Option ℤ} (fa : SFits w64 a) (fb : SFits w64 b) (e : o ≡ limited (R a *ℤ R b)) where
  judged : limited (a *ℤ b) ≡ o
  judged = sym (e ∙ ap₂ (λ (x y : ℤ). limited (x *ℤ y)) (back a fa) (back b fb))

  pub times_over : o ≡ None → pos (suc limit) ≡ clipped (a *ℤ b)
  unfolding small
  times_over q = sym (clipped_over (a *ℤ b) (lt-leb (nat_abs (a *ℤ b)) limit (limited_lacks (a *ℤ b) (judged ∙ q))))

  pub times_is : (p : ℤ) → o ≡ Some p → R p ≡ clipped (a *ℤ b)
  unfolding small
  times_is p q =
      let g = limited_gives (a *ℤ b) p (judged ∙ q) in
      ap R g.0 ∙ (small_back (a *ℤ b) (record { small = g.1 }) ∙ sym (clipped_is (a *ℤ b) (le-leb (nat_abs (a *ℤ b)) limit g.1)))

-- a product as it is read back
pub times_back : (k z : ℤ) {r : ℤ} → SFits w64 k → mag z < 2 ^ 63 → r ≡ clipped (R k *ℤ R z) → R r ≡ clipped (k *ℤ z)
times_back k z fk fz e =
    ap R (e ∙ ap₂ (λ (x y : ℤ). clipped (x *ℤ y)) (back k fk) (back z (record { sfits = fz }))) ∙ back (clipped (k *ℤ z)) (clipped_fits (k *ℤ z))

-- one within the limits was not clipped
pub clipped_in : (z : ℤ) → Small (clipped z) → clipped z ≡ z
unfolding small
clipped_in z s = clipped_is z (sym (small_clipped z) ∙ le-leb (nat_abs (clipped z)) limit s.small)
