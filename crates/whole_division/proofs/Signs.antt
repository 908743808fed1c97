-- Signs: a number below zero is held by its complement.
use mathlib.Core.Path.{◌≡◌, sym, ap, ◌∙◌}
use mathlib.Core.Bool.{Bool, true, false}
use Prim.Native.Nat.{ℕ, suc, ◌-◌, ◌*◌, ◌<◌, ◌≤◌}
use native.Mathlib.Omega.{arith}
use lib.IntN.{ℤ, pos, negsuc, nat_abs, ◌+ℤ◌, ◌*ℤ◌}
use lib.Signed.{lt_z}
use mir.Syntax.{w64}
use mir.Val.{SFits}
use Rattle.whole.specs.Cases.{if}
use Rattle.whole.specs.declared.Numerator.{Numerator}
use Rattle.whole.specs.Numerator.{word, number}
use Rattle.whole.specs.NumeratorLaws.{below}
use Rattle.whole.proofs.Signed.{R, negated, not_negative, abs_back}
use Rattle.whole_division.specs.declared.Quotient.{Quotient}
use Rattle.whole_division.specs.Floor.{floor_by}
use Rattle.whole_division.specs.Words.{two_words, Divided}

-- the quotient of the words, with the sign that was there
pub sign_kept : (b : Bool) (n d : ℕ) (q : Quotient) → Divided n d q → if b (negsuc (two_words q.high q.low)) (pos (two_words q.high q.low)) ≡ floor_by (if b (negsuc n) (pos n)) d
unfolding floor_by
sign_kept true n d q e = ap negsuc e.quotient
sign_kept false n d q e = ap pos e.quotient

-- the words of a numerator, by the sign of the high one, whose magnitude is m
module _ (x : Numerator) (f : SFits w64 x.high) (l : x.low < word) {m : ℕ} (e : m ≡ nat_abs (R x.high)) where
  module _ (t : lt_z (R x.high) (pos 0) ≡ true) where
    is_suc : m ≡ suc (negated x.high f t).n
    is_suc = abs_back x.high f e ∙ ap nat_abs (negated x.high f t).is

    is_less : m - 1 ≡ (negated x.high f t).n
    is_less = omega (arith, is_suc)

    pub not_zero : 1 ≤ m
    not_zero = omega (arith, is_suc)

    pub complement_is : negsuc (two_words (m - 1) (18446744073709551615 - x.low)) ≡ number x
    unfolding number
    complement_is =
        let d = negated x.high f t in
        ap (λ (k : ℕ). negsuc (two_words k (18446744073709551615 - x.low))) is_less
        ∙ sym (ap (λ (z : ℤ). z *ℤ pos word +ℤ pos x.low) d.is ∙ below (suc d.n * word) x.low (two_words d.n (18446744073709551615 - x.low)) (omega arith))

  module _ (t : lt_z (R x.high) (pos 0) ≡ false) where
    pub plain_is : pos (two_words m x.low) ≡ number x
    unfolding number
    plain_is =
        let d = not_negative x.high f t in
        ap (λ (k : ℕ). pos (two_words k x.low)) (e ∙ ap nat_abs d.3) ∙ sym (ap (λ (z : ℤ). z *ℤ pos word +ℤ pos x.low) d.2)
