-- Fractions, so that 01's formula for the value can be stated as it stands; one whose numerator is none is "none".
use Rattle.std.specs.Prelude.{◌≡◌, List, [], ◌∷◌, ℕ, ◌*◌, ◌<◌, pos}
use Rattle.std.proofs.Common.{mul-pos, arith}
use Rattle.theory.specs.Total.{Total, num, ◌⊑◌, ◌⊕◌, weigh}

-- a numerator, or none, and a denominator above 0
pub record Fraction : Type 0 where
  pub numerator : Total
  pub den : ℕ
  pub den>0 : 0 < den

-- the same number, or both none
abbrev pub Equal : Fraction → Fraction → Type 0
Equal p q = weigh q.den p.numerator ≡ weigh p.den q.numerator

-- not larger: none is below all
abbrev pub AtMost : Fraction → Fraction → Type 0
AtMost p q = weigh q.den p.numerator ⊑ weigh p.den q.numerator

-- p + q: "a sum with it .. is it"
unfoldable pub plus : Fraction → Fraction → Fraction
plus p q = record { numerator = weigh q.den p.numerator ⊕ weigh p.den q.numerator; den = p.den * q.den; den>0 = mul-pos p.den>0 q.den>0 }

-- k × p: "or a product not by 0, is it"
unfoldable pub times : ℕ → Fraction → Fraction
times k p = record { numerator = weigh k p.numerator; den = p.den; den>0 = p.den>0 }

-- p ÷ k
unfoldable pub divided : Fraction → (k : ℕ) → 0 < k → Fraction
divided p k h = record { numerator = p.numerator; den = p.den * k; den>0 = mul-pos p.den>0 h }

-- the sum over settings of weight × what f gives
unfoldable pub weighed : {E : Type 0} → (E → ℕ) → (E → Fraction) → List E → Fraction
weighed w f [] = record { numerator = num (pos 0); den = 1; den>0 = omega arith }
weighed w f (e ∷ l) = plus (times (w e) (f e)) (weighed w f l)
