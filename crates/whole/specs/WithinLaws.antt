-- Whole numbers judged: the two cases, from the magnitude and back to it.
use Rattle.std.specs.Prelude.{◌≡◌, ℕ, ◌<◌, ◌≤◌, ℤ, nat_le, unsigned_abs, Some, None}
use Rattle.std.proofs.Common.{ap, arith, le-leb, leb→le}
use Rattle.std.proofs.lemmas.Bool.{lt-leb}
use Rattle.std.proofs.Math.Dec.{nleb→lt}
use Rattle.whole.specs.Cases.{if, by_test}
use Rattle.whole.specs.Within.{limit, limited, small}

-- a small number is given
pub limited_is : (z : ℤ) → unsigned_abs z ≤ limit → limited z ≡ Some z
unfolding limited small
limited_is z h = ap (λ b. if b (Some z) None) (le-leb (unsigned_abs z) limit h)

-- one that is not small is not
pub limited_over : (z : ℤ) → limit < unsigned_abs z → limited z ≡ None
unfolding limited small
limited_over z h = ap (λ b. if b (Some z) None) (lt-leb (unsigned_abs z) limit h)

-- what is given is z, and small
pub limited_gives : (z q : ℤ) → limited z ≡ Some q → (q ≡ z) × (unsigned_abs z ≤ limit)
unfolding limited small
limited_gives z q = by_test (nat_le (unsigned_abs z) limit) (λ b. if b (Some z) None ≡ Some q → (q ≡ z) × (unsigned_abs z ≤ limit))
    (λ t e. (cc, leb→le (unsigned_abs z) limit t))
    (λ t e. absurd (let n : ◌≡◌ {A = ℕ} 0 1 = cc in omega arith))

-- where nothing is given, z is not small
pub limited_lacks : (z : ℤ) → limited z ≡ None → limit < unsigned_abs z
unfolding limited small
limited_lacks z = by_test (nat_le (unsigned_abs z) limit) (λ b. if b (Some z) None ≡ None → limit < unsigned_abs z)
    (λ t e. absurd (let n : ◌≡◌ {A = ℕ} 0 1 = cc in omega arith))
    (λ t e. nleb→lt (unsigned_abs z) limit t)
