-- A result that a test chose, and operands that lie within the limits.
use mathlib.Core.Path.{◌≡◌, refl, sym, ap, ◌∙◌}
use mathlib.Core.Bool.{Bool, true, false, ◌&&◌}
use mathlib.Core.List.{List, [], ◌∷◌}
use Prim.Native.Nat.{ℕ, suc, ◌≤◌, ◌<◌}
use native.Mathlib.Omega.{arith}
use borrow.Author.Tests.{eq-eqb, ne_eqb, lt-ltb, le-ltb, le-leb, lt-leb, leb-true}
use lib.Dec.{eqb, leb, ltb}
use lib.IntN.{ℤ, pos, negsuc}
use Rattle.whole.specs.Cases.{if}
use Rattle.whole.specs.Linears.{Smalls, smalls}
use Rattle.whole.specs.LinearsLaws.{smalls_of}
use Rattle.whole.specs.Within.{limit, small}
use Rattle.theory.specs.Plain.{in_32_bits}
use Rattle.import_numbers.specs.Numbers.{all_within}
use Rattle.import_linears.specs.Nine.{Nine}

module _ {A : Type 0} {r : A} where
  pub yes : (b : Bool) (x y : A) {c : Bool} → c ≡ b → c ≡ true → r ≡ x → r ≡ if b x y
  yes true x y e t g = g
  yes false x y e t g = absurd (let z : ◌≡◌ {A = Bool} true false = sym t ∙ e in let w : ◌≡◌ {A = ℕ} 0 1 = cc in omega arith)

  pub no : (b : Bool) (x y : A) {c : Bool} → c ≡ b → c ≡ false → r ≡ y → r ≡ if b x y
  no false x y e t g = g
  no true x y e t g = absurd (let z : ◌≡◌ {A = Bool} true false = sym e ∙ t in let w : ◌≡◌ {A = ℕ} 0 1 = cc in omega arith)

  pub hit : (a b : ℕ) (x y : A) → a ≡ b → r ≡ x → r ≡ if (eqb a b) x y
  hit a b x y h g = yes (eqb a b) x y refl (eq-eqb a b h) g

  pub miss : (a b : ℕ) (x y : A) → (a ≡ b → ⊥) → r ≡ y → r ≡ if (eqb a b) x y
  miss a b x y h g = no (eqb a b) x y refl (ne_eqb a b h) g

  pub hit_lt : (a b : ℕ) (x y : A) → a < b → r ≡ x → r ≡ if (ltb a b) x y
  hit_lt a b x y h g = yes (ltb a b) x y refl (lt-ltb a b h) g

  pub miss_lt : (a b : ℕ) (x y : A) → b ≤ a → r ≡ y → r ≡ if (ltb a b) x y
  miss_lt a b x y h g = no (ltb a b) x y refl (le-ltb a b h) g

  pub hit_le : (a b : ℕ) (x y : A) → a ≤ b → r ≡ x → r ≡ if (leb a b) x y
  hit_le a b x y h g = yes (leb a b) x y refl (le-leb a b h) g

  pub miss_le : (a b : ℕ) (x y : A) → b < a → r ≡ y → r ≡ if (leb a b) x y
  miss_le a b x y h g = no (leb a b) x y refl (lt-leb a b h) g

and_true : (a b : Bool) → (a && b) ≡ true → (a ≡ true) × (b ≡ true)
and_true true b e = (refl, e)
and_true false b e = absurd (let w : ◌≡◌ {A = ℕ} 0 1 = cc in omega arith)

in_small : (z : ℤ) → in_32_bits z ≡ true → small z ≡ true
unfolding in_32_bits small
in_small (pos n) e = le-leb n limit (let h = leb-true n 2147483647 e in omega arith)
in_small (negsuc n) e = le-leb (suc n) limit (let h = leb-true n 2147483647 (and_true (leb n 2147483647) true e).0 in omega arith)

all_small : (l : List ℤ) → all_within l ≡ true → smalls l ≡ true
unfolding all_within smalls
all_small [] e = refl
all_small (z ∷ l) e =
    let p = and_true (in_32_bits z) (all_within l) e in
    ap (λ (b : Bool). b && smalls l) (in_small z p.0) ∙ all_small l p.1

pub nine_smalls : {l : List ℤ} → Nine l → Smalls l
nine_smalls {l} n = smalls_of l n.long (all_small l n.within)
