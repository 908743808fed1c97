-- Which kinds are leaves.
use mathlib.Core.Path.{◌≡◌, refl, sym, ap, ◌∙◌}
use mathlib.Core.Bool.{Bool, true, false, ◌||◌}
use Prim.Native.Nat.{ℕ, ◌<◌, ◌^◌}
use native.Mathlib.Omega.{arith}
use borrow.Author.Tests.{eqb-true, eqb-false}
use lib.Dec.{eqb}
use lib.IntN.{ℤ, pos}
use lib.Signed.{mag}
use mir.Syntax.{w64}
use mir.Val.{of_z}
use Rattle.table.specs.Table.{eq_ℤ, is_leaf, is_none}
use Rattle.table.proofs.Words.{R, back}
use Rattle.table.proofs.Look.{eq_ℤ_true}
use Rattle.table.proofs.Tests.{kind_yes, kind_no}

clash : {X : Type 0} {b : Bool} → b ≡ true → b ≡ false → X
clash p q = absurd (let e = sym p ∙ q in let z : ◌≡◌ {A = ℕ} 0 1 = cc in omega arith)

-- ---- a leaf's kind, and back

pub none_kind : (k : ℤ) → is_none k ≡ true → k ≡ pos 3
unfolding is_none
none_kind k e = eq_ℤ_true k (pos 3) e

pub some_kind : (k : ℤ) → is_leaf k ≡ true → is_none k ≡ false → k ≡ pos 0
unfolding is_leaf
some_kind k e n = go (eq_ℤ k (pos 0)) refl
  where
    go : (b : Bool) → eq_ℤ k (pos 0) ≡ b → k ≡ pos 0
    go true q = eq_ℤ_true k (pos 0) q
    go false q = clash (ap (λ (b : Bool). b || is_none k) (sym q) ∙ e) n

pub leaf_as : {k : ℤ} → k ≡ pos 0 → is_leaf k ≡ true
unfolding is_leaf eq_ℤ
leaf_as e = ap is_leaf e

pub some_as : {k : ℤ} → k ≡ pos 0 → is_none k ≡ false
unfolding is_none eq_ℤ
some_as e = ap is_none e

pub none_as : {k : ℤ} → k ≡ pos 3 → is_none k ≡ true
unfolding is_none eq_ℤ
none_as e = ap is_none e

pub none_leaf : (k : ℤ) → is_none k ≡ true → is_leaf k ≡ true
unfolding is_leaf is_none eq_ℤ
none_leaf k e = ap is_leaf (none_kind k e)

pub leaf_not : {X : Type 0} {k : ℤ} → k ≡ pos 0 → is_leaf k ≡ false → X
leaf_not e n = clash (leaf_as e) n

pub some_not : {X : Type 0} {k : ℤ} → k ≡ pos 0 → is_none k ≡ true → X
some_not e n = clash n (some_as e)

-- what has branches is not "none"
pub branch_not : {X : Type 0} (k : ℤ) → is_leaf k ≡ false → is_none k ≡ true → X
branch_not k n e = clash (none_leaf k e) n

-- a leaf is no linear test
pub leaf_untested : (k : ℤ) → is_leaf k ≡ true → eq_ℤ k (pos 2) ≡ false
unfolding eq_ℤ
leaf_untested k e = go (is_none k) refl
  where
    go : (b : Bool) → is_none k ≡ b → eq_ℤ k (pos 2) ≡ false
    go true q = ap (λ (z : ℤ). eq_ℤ z (pos 2)) (none_kind k q)
    go false q = ap (λ (z : ℤ). eq_ℤ z (pos 2)) (some_kind k e q)

-- a condition and a test are no leaves
pub condition_as : {k : ℤ} → k ≡ pos 1 → is_leaf k ≡ false
unfolding is_leaf is_none eq_ℤ
condition_as e = ap is_leaf e

pub test_as : {k : ℤ} → k ≡ pos 2 → is_leaf k ≡ false
unfolding is_leaf is_none eq_ℤ
test_as e = ap is_leaf e

-- ---- what the code's tests say

pub leaf_yes : (z : ℤ) → mag z < 2 ^ 63 → of_z w64 z ≡ of_z w64 (pos 0) → is_leaf z ≡ true
unfolding is_leaf
leaf_yes z f e = ap (λ (b : Bool). b || is_none z) (kind_yes 0 (omega arith) z f e)

-- not the kind of a linear
pub leaf_no : (z : ℤ) → (of_z w64 z ≡ of_z w64 (pos 0) → ⊥) → is_none z ≡ is_leaf z
unfolding is_leaf
leaf_no z n = ap (λ (b : Bool). b || is_none z) (sym (kind_no 0 z n))

pub none_told : (z : ℤ) → mag z < 2 ^ 63 → eqb (of_z w64 z) 3 ≡ is_none z
unfolding is_none
none_told z f = go (eqb (of_z w64 z) 3) refl
  where
    go : (b : Bool) → eqb (of_z w64 z) 3 ≡ b → eqb (of_z w64 z) 3 ≡ eq_ℤ z (pos 3)
    go true e = e ∙ sym (kind_yes 3 (omega arith) z f (eqb-true (of_z w64 z) 3 e))
    go false e = e ∙ sym (kind_no 3 z (eqb-false (of_z w64 z) 3 e))

-- what it answers of a word
pub leaf_told : (z : ℤ) {r : Bool} → mag z < 2 ^ 63 → r ≡ is_leaf (R z) → is_leaf z ≡ r
leaf_told z f e = sym (e ∙ ap is_leaf (back z f))
