-- A word of a node, as it is read back and judged.
use mathlib.Core.Path.{◌≡◌, refl, sym, ap, ap₂, ◌∙◌}
use mathlib.Core.Bool.{Bool, true, false, ◌&&◌}
use mathlib.Core.List.{[], ◌∷◌}
use Prim.Native.Nat.{ℕ, ◌^◌, ◌<◌}
use native.Mathlib.Omega.{arith}
use borrow.Author.Tests.{ltb-true}
use lib.Dec.{eqb, leb, eqb-suc-zero}
use lib.IntN.{ℤ, pos, negsuc, nat_abs}
use lib.Signed.{mag, lt_z, le_z}
use Rattle.whole.specs.Within.{limit, small}
use Rattle.whole.proofs.Signed.{R, back}
use Rattle.theory.specs.Diagram.{zeros}
use Rattle.theory.specs.Value.{among_ℤ}
use Rattle.table_rows.specs.Row.{kind_number}

pub and_assoc : (a b c : Bool) → (a && b) && c ≡ a && (b && c)
and_assoc true b c = refl
and_assoc false b c = refl

pub and_true : (a : Bool) → a && true ≡ a
and_true true = refl
and_true false = refl

-- three facts, as the code and as a definition bracket them
pub all_three : {a b c x y z : Bool} → a ≡ x → b ≡ y → c ≡ z → (a && b) && c ≡ x && (y && z)
all_three {a} {b} {c} p q s = and_assoc a b c ∙ ap₂ ◌&&◌ p (ap₂ ◌&&◌ q s)

clash : {X : Type 0} → false ≡ true → X
clash e = absurd (let z : ◌≡◌ {A = ℕ} 0 1 = cc in omega arith)

zero_by : (v : ℤ) → eqb (nat_abs v) 0 ≡ zeros (v ∷ [])
unfolding zeros
zero_by (pos n) = sym (and_true (eqb n 0))
zero_by (negsuc n) = eqb-suc-zero n

-- 1 to n: not below 1, and the magnitude at most n
among_by : (n : ℕ) (v : ℤ) (k : ℕ) → k ≡ nat_abs v → le_z (pos 1) v ≡ true → leb k n ≡ among_ℤ n v
unfolding among_ℤ
among_by n (pos v) k e t = ap (λ (j : ℕ). leb j n) e ∙ ap (λ (b : Bool). b && leb v n) (sym t)
among_by n (negsuc v) k e t = clash t

below : (n : ℕ) (v : ℤ) → le_z (pos 1) v ≡ false → false ≡ among_ℤ n v
unfolding among_ℤ
below n (pos v) t = ap (λ (b : Bool). b && leb v n) (sym t)
below n (negsuc v) t = refl

-- no kind is below 0
kind_by : (v : ℤ) (k : ℕ) → k ≡ nat_abs v → lt_z v (pos 0) ≡ false → k ≡ kind_number v
unfolding kind_number
kind_by (pos v) k e t = e
kind_by (negsuc v) k e t = clash (sym t)

none : (v : ℤ) → lt_z v (pos 0) ≡ true → 4 ≡ kind_number v
unfolding kind_number
none (pos v) t = absurd (omega (arith, ltb-true v 0 t))
none (negsuc v) t = refl

pub read_is : {z v : ℤ} → z ≡ v → mag z < 2 ^ 63 → R z ≡ v
read_is {z} e f = back z (record { sfits = f }) ∙ e

-- z is the word v as a call gave it, k the magnitude that another call read of it
module _ {z v : ℤ} {k : ℕ} (e : z ≡ v) (f : mag z < 2 ^ 63) (m : k ≡ nat_abs (R z)) where
  pub magnitude_is : k ≡ nat_abs v
  magnitude_is = m ∙ ap nat_abs (read_is e f)

  pub small_is : leb k limit ≡ small v
  unfolding small
  small_is = ap (λ (j : ℕ). leb j limit) magnitude_is

  pub zero_is : eqb k 0 ≡ zeros (v ∷ [])
  zero_is = ap (λ (j : ℕ). eqb j 0) magnitude_is ∙ zero_by v

  pub among_is : (n : ℕ) → le_z (pos 1) (R z) ≡ true → leb k n ≡ among_ℤ n v
  among_is n t = among_by n v k magnitude_is (ap (le_z (pos 1)) (sym (read_is e f)) ∙ t)

  pub kind_is : lt_z (R z) (pos 0) ≡ false → k ≡ kind_number v
  kind_is t = kind_by v k magnitude_is (ap (λ (y : ℤ). lt_z y (pos 0)) (sym (read_is e f)) ∙ t)

module _ {z v : ℤ} (e : z ≡ v) (f : mag z < 2 ^ 63) where
  pub among_below : (n : ℕ) → le_z (pos 1) (R z) ≡ false → false ≡ among_ℤ n v
  among_below n t = below n v (ap (le_z (pos 1)) (sym (read_is e f)) ∙ t)

  pub kind_below : lt_z (R z) (pos 0) ≡ true → 4 ≡ kind_number v
  kind_below t = none v (ap (λ (y : ℤ). lt_z y (pos 0)) (sym (read_is e f)) ∙ t)
