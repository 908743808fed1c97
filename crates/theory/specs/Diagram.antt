-- "Diagrams", first part: linears, tests and their order, diagrams as trees.
use Rattle.std.specs.Prelude.{Bool, true, false, ◌&&◌, List, [], ◌∷◌, eqb, ℤ, pos, negsuc, nat_abs, ◌+ℤ◌, ◌*ℤ◌}
use Prim.Native.Nat.{ℕ, zero, suc, compare, Ordering}
use Rattle.std.proofs.Math.Dec.{compare_is_eq}
use Rattle.std.specs.Int.Signed.{quot_z}
use Rattle.theory.specs.Widths.{levels_most}
use Rattle.whole.specs.Divisor.{gcd_of, gcd_all, at_least_one}
-- number by number: the order, "smaller first", sums, products and quotients
unfoldable pub use Rattle.whole.specs.Linears.{cmp_list, add_list, scale_list, quot_list}
pub use Rattle.whole.specs.Linears.{then, cmp_ℤ}

-- "A linear has eight coefficients and a constant"
pub record Linear : Type 0 where
  pub coeffs : List ℤ
  pub const : ℤ

-- k coefficients: zeros beyond those that there are
unfoldable pub padded : ℕ → List ℤ → List ℤ
padded zero l = []
padded (suc k) [] = pos 0 ∷ padded k []
padded (suc k) (z ∷ l) = z ∷ padded k l

-- a condition now, the next step's condition of that number, or p ≤ 0
pub data Test : Type 0 where
  now : ℕ → Test
  later : ℕ → Test
  linear : Linear → Test

-- k coefficients 0
unfoldable pub no_coeffs : ℕ → List ℤ
no_coeffs zero = []
no_coeffs (suc k) = pos 0 ∷ no_coeffs k

-- the linear 0
abbrev pub zero_linear : Linear
zero_linear = record { coeffs = no_coeffs levels_most; const = pos 0 }

-- a linear with the action that it is numbered with, 0 where it is not numbered; or "a leaf "forbidden"", which is the leaf "none" too
pub data Leaf : Type 0 where
  some : Linear → ℕ → Leaf
  forbidden : Leaf

-- the linear of a leaf: "A leaf "none" has .. all other words zero"
unfoldable pub lin_of : Leaf → Linear
lin_of (some p a) = p
lin_of forbidden = zero_linear

-- its action
unfoldable pub act_of : Leaf → ℕ
act_of (some p a) = a
act_of forbidden = 0

-- it is not forbidden
unfoldable pub permitted : Leaf → Bool
permitted (some p a) = true
permitted forbidden = false

-- "High is taken when the condition is yes"; "high is taken when p ≤ 0": test, high, low
pub data Tree : Type 0 where
  leaf : Leaf → Tree
  branch : Test → Tree → Tree → Tree

-- a leaf that is not numbered
abbrev pub plain : Linear → Leaf
plain p = some p 0

-- ---- "Order of tests: conditions 1 to 8, then linear tests by the coefficients of L1 to L8 and the constant, smaller first."

-- "by the coefficients of L1 to L8 and the constant"
unfoldable pub cmp_linear : Linear → Linear → Ordering
cmp_linear p q = then (cmp_list p.coeffs q.coeffs) (cmp_ℤ p.const q.const)

-- condition against condition, condition against linear, linear against linear
unfoldable pub cmp : Test → Test → Ordering
cmp (now i) (now j) = compare i j
cmp (now i) (later j) = Ordering.lt
cmp (now i) (linear q) = Ordering.lt
cmp (later i) (now j) = Ordering.gt
cmp (later i) (later j) = compare i j
cmp (later i) (linear q) = Ordering.lt
cmp (linear p) (now j) = Ordering.gt
cmp (linear p) (later j) = Ordering.gt
cmp (linear p) (linear q) = cmp_linear p q

-- ---- "Equal nodes are one node."

-- the same numbers and the same action, or both forbidden
unfoldable pub same_leaf : Leaf → Leaf → Bool
same_leaf (some p a) (some q b) = compare_is_eq (cmp_linear p q) && eqb a b
same_leaf (some p a) forbidden = false
same_leaf forbidden (some q b) = false
same_leaf forbidden forbidden = true

-- the same test over the same branches
unfoldable pub same : Tree → Tree → Bool
same (leaf f) (leaf g) = same_leaf f g
same (leaf f) (branch t h l) = false
same (branch t h l) (leaf g) = false
same (branch t h l) (branch u h' l') = compare_is_eq (cmp t u) && same h h' && same l l'

-- ---- linears: each number of a result is one that a rule names

infixl 60 ◌⊞◌ ◌⊟◌
infixl 61 ◌⊠◌
-- p + q
unfoldable pub ◌⊞◌ : Linear → Linear → Linear
p ⊞ q = record { coeffs = add_list p.coeffs q.coeffs; const = p.const +ℤ q.const }

-- k × q
unfoldable pub ◌⊠◌ : ℤ → Linear → Linear
k ⊠ q = record { coeffs = scale_list k q.coeffs; const = k *ℤ q.const }

-- p − q
unfoldable pub ◌⊟◌ : Linear → Linear → Linear
p ⊟ q = p ⊞ (negsuc 0 ⊠ q)

-- p + k
unfoldable pub plus_constant : ℤ → Linear → Linear
plus_constant k p = record { coeffs = p.coeffs; const = p.const +ℤ k }

-- no coefficient differs from zero: "a constant"
unfoldable pub zeros : List ℤ → Bool
zeros [] = true
zeros (a ∷ r) = compare_is_eq (cmp_ℤ a (pos 0)) && zeros r

-- ---- "A test is divided by the greatest common divisor of its nine numbers."

-- all numbers of a linear divided
unfoldable pub quotient : ℕ → Linear → Linear
quotient g p = record { coeffs = quot_list g p.coeffs; const = quot_z p.const (pos g) }

-- "the greatest common divisor of its nine numbers", 1 where all are 0
unfoldable pub divisor : Linear → ℕ
divisor p = at_least_one (gcd_of (nat_abs p.const) (gcd_all p.coeffs))

-- the test of a linear
unfoldable pub test_of : Linear → Test
test_of p = linear (quotient (divisor p) p)
