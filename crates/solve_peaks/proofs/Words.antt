-- A word raised, in its place among the others.
use mathlib.Core.Path.{◌≡◌, refl, ap, ◌∙◌}
use mathlib.Core.List.{List, [], ◌∷◌, ◌++◌, append-nil}
use Prim.Native.Nat.{ℕ, zero, suc, max, ◌-◌, ◌≤◌, ◌<◌}
use native.Mathlib.Omega.{arith}
use lib.ListN.{length, get_or, set, replicate, drop_of_length-le}
use Rattle.table_clear.specs.Wipe.{wiped}
use Rattle.theory.specs.Peaks.{raise}

-- the larger count takes its place
pub raise_larger : (a n : ℕ) (P : List ℕ) → get_or P a 0 < n → set P a n ≡ raise a n P
unfolding raise
raise_larger a n [] h = refl
raise_larger zero n (p ∷ P) h = ap (λ (k : ℕ). k ∷ P) (let z : n ≡ max p n = omega arith in z)
raise_larger (suc a) n (p ∷ P) h = ap (λ (Q : List ℕ). p ∷ Q) (raise_larger a n P h)

-- another stays
pub raise_same : (a n : ℕ) (P : List ℕ) → n ≤ get_or P a 0 → P ≡ raise a n P
unfolding raise
raise_same a n [] h = refl
raise_same zero n (p ∷ P) h = ap (λ (k : ℕ). k ∷ P) (let z : p ≡ max p n = omega arith in z)
raise_same (suc a) n (p ∷ P) h = ap (λ (Q : List ℕ). p ∷ Q) (raise_same a n P h)

-- all of them
pub all_cleared : (P : List ℕ) {Q : List ℕ} → Q ≡ wiped 0 0 (length P) P → Q ≡ replicate (length P) 0
all_cleared P e = e ∙ (ap (λ (R : List ℕ). replicate (length P - 0) 0 ++ R) (let d : length P ≤ length P = omega arith in drop_of_length-le P d) ∙
    (append-nil _ ∙ ap (λ (k : ℕ). replicate k 0) (let q : length P - 0 ≡ length P = omega arith in q)))
