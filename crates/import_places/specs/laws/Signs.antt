-- The bits that a row of signs takes.
use Rattle.std.specs.Prelude.{◌≡◌, refl, ℕ, zero, suc, ◌+◌, ◌-◌, ◌/◌, ◌≤◌, ◌<◌, length}
use Rattle.std.proofs.Common.{sym, ap, subst, arith}
use Rattle.import_places.specs.Walking.{signs, two_to}

pub signs_length : (m c : ℕ) → length (signs m c) ≡ c
unfolding signs
signs_length m zero = refl
signs_length m (suc c) = ap suc (signs_length (m / 2) c)

two_more : (c d k : ℕ) → k ≡ d + c → two_to c ≤ two_to k
unfolding two_to
two_more c zero k e = let q : k ≡ c = omega (arith, e) in subst (λ (j : ℕ). two_to c ≤ two_to j) (sym q) (omega arith)
two_more c (suc d) zero e = absurd (omega (arith, e))
two_more c (suc d) (suc k) e = let h = two_more c d k (omega (arith, e)) in omega (arith, h)

-- at most 32 signs fit 32 bits
pub mask_bound : (m c : ℕ) → m < two_to c → c ≤ 32 → m < 4294967296
unfolding two_to
mask_bound m c h l = let q = two_more c (32 - c) 32 (omega (arith, l)) in omega (arith, q, h)
