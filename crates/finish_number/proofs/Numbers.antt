-- Numbers and membership, and what entering a diagram comes to.
use mathlib.Core.Path.{◌≡◌, refl, sym, ap, ◌∙◌}
use mathlib.Core.Bool.{Bool, true, false}
use mathlib.Core.List.{List, [], ◌∷◌, ◌++◌}
use Prim.Native.Nat.{ℕ, zero, suc}
use native.Mathlib.Omega.{arith}
use Rattle.whole.specs.Cases.{if}
use Rattle.theory.specs.Diagram.{Test, Leaf, Tree, leaf, branch, same}
use Rattle.theory.specs.Computation.{member, enter}
use Rattle.theory.specs.Solve.{number_of}
use Rattle.whole.specs.Cases.{by_eq}
use Rattle.theory.proofs.laws.Table.{number_above, enter_fresh}

clash : {A : Type 0} → true ≡ false → A
clash e = absurd (let z : ◌≡◌ {A = ℕ} 0 1 = cc in omega arith)

-- the number in a list with one more before it
abbrev one_on : ℕ → ℕ
one_on n = elim n [ zero ↦ 0 | suc k ↦ suc (suc k) ]

-- no member, no number
pub number_none : (t : Tree) (X : List Tree) → member t X ≡ false → number_of t X ≡ 0
unfolding number_of member
number_none t [] e = refl
number_none t (x ∷ X) e = go (same x t) e (number_none t X)
  where
    go : (b : Bool) → if b true (member t X) ≡ false → (member t X ≡ false → number_of t X ≡ 0) → if b 1 (one_on (number_of t X)) ≡ 0
    go true e r = clash e
    go false e r = ap (λ (n : ℕ). one_on n) (r e)

pub number_out : (t : Tree) (X : List Tree) → number_of t X ≡ 0 → member t X ≡ false
number_out t X z = by_eq (member t X) (λ b. b ≡ false) (λ m. absurd (let q = number_above t X m in omega arith)) (λ _. refl)

pub number_in : (t : Tree) (X : List Tree) → (number_of t X ≡ 0 → ⊥) → member t X ≡ true
number_in t X z = by_eq (member t X) (λ b. b ≡ true) (λ _. refl) (λ m. absurd (z (number_none t X m)))

-- another tree at the end changes no number
pub number_other : (t v : Tree) (X : List Tree) → same v t ≡ false → number_of t (X ++ (v ∷ [])) ≡ number_of t X
unfolding number_of
number_other t v [] e = ap (λ (b : Bool). if b 1 0) e
number_other t v (x ∷ X) e = ap (λ (n : ℕ). if (same x t) 1 (one_on n)) (number_other t v X e)

-- ---- entering

pub enter_there : (t : Tree) (X : List Tree) → member t X ≡ true → enter t X ≡ X
unfolding enter
enter_there (leaf f) X m = ap (λ (b : Bool). if b X (X ++ (leaf f ∷ []))) m
enter_there (branch t h l) X m = ap (λ (b : Bool). if b X (enter l (enter h X) ++ (branch t h l ∷ []))) m

module _ (v : Tree) (X : List Tree) (m : member v X ≡ false) where
  pub enter_leaf : {f : Leaf} → v ≡ leaf f → enter v X ≡ X ++ (v ∷ [])
  unfolding enter
  enter_leaf {f} e =
      ap (λ (z : Tree). enter z X) e
      ∙ (ap (λ (b : Bool). if b X (X ++ (leaf f ∷ []))) (ap (λ (z : Tree). member z X) (sym e) ∙ m)
      ∙ ap (λ (z : Tree). X ++ (z ∷ [])) (sym e))

  pub enter_branch : {t : Test} {h l : Tree} → v ≡ branch t h l → enter v X ≡ enter l (enter h X) ++ (v ∷ [])
  unfolding enter
  enter_branch {t} {h} {l} e =
      ap (λ (z : Tree). enter z X) e
      ∙ (ap (λ (b : Bool). if b X (enter l (enter h X) ++ (branch t h l ∷ []))) (ap (λ (z : Tree). member z X) (sym e) ∙ m)
      ∙ ap (λ (z : Tree). enter l (enter h X) ++ (z ∷ [])) (sym e))

  -- its branches do not bring a node itself
  pub still_out : {t : Test} {h l : Tree} → v ≡ branch t h l → member v (enter l (enter h X)) ≡ false
  still_out {t} {h} {l} e =
      ap (λ (z : Tree). member z (enter l (enter h X))) e ∙ enter_fresh t h l X (ap (λ (z : Tree). member z X) (sym e) ∙ m)
