-- Laws of what a stack holds.
use mathlib.Core.Path.{◌≡◌, refl, sym, ap, ◌∙◌}
use mathlib.Core.List.{List, ◌∷◌}
use Prim.Native.Nat.{ℕ, zero, suc, ◌+◌, ◌-◌, ◌≤◌, ◌<◌}
use native.Mathlib.Nat.{le_refl}
use native.Mathlib.Numerals.{add-one}
use native.Mathlib.Omega.{arith}
use borrow.Author.Tests.{lt-ltb, le-ltb, ltb-true}
use lib.Dec.{ltb}
use mathlib.Core.Bool.{Bool, true, false}
use Rattle.whole.specs.Cases.{if}
use lib.ListN.{length, get_or, set, drop, get_or-eq_default}
use lib.Seq.{get_or-set_same, get_or-set_other}
use Rattle.theory.specs.Widths.{stack_most}
use Rattle.model_stack.specs.Held.{last_first, pushed}

pub held_length : (l : List ℕ) (n : ℕ) → length (last_first l n) ≡ n
unfolding last_first
held_length l zero = refl
held_length l (suc n) = ap suc (held_length l n)

-- a store above what is held changes nothing
held_set : (l : List ℕ) (i x n : ℕ) → n ≤ i → last_first (set l i x) n ≡ last_first l n
unfolding last_first
held_set l i x zero h = refl
held_set l i x (suc n) h = λ j. get_or-set_other l i n x 0 (omega arith) j ∷ held_set l i x n (omega arith) j

pub push_more : (l : List ℕ) (n x : ℕ) → n < length l → n < stack_most → last_first (set l n x) (n + 1) ≡ pushed x (last_first l n)
unfolding last_first pushed
push_more l n x h s =
    rw (add-one, lt-ltb (length (last_first l n)) stack_most (rw (held_length l n) s)) (λ j. get_or-set_same l n x 0 h j ∷ held_set l n x n (le_refl n) j)

pub push_full : (l : List ℕ) (n x : ℕ) → stack_most ≤ n → last_first l n ≡ pushed x (last_first l n)
unfolding pushed
push_full l n x h = rw (le-ltb (length (last_first l n)) stack_most (rw (held_length l n) h))

pub pop_more : (l : List ℕ) (n : ℕ) → 0 < n → last_first l (n - 1) ≡ drop 1 (last_first l n)
unfolding last_first
pop_more l n h = go (n - 1) (omega arith)
  where
    go : (k : ℕ) → n ≡ suc k → last_first l k ≡ drop 1 (last_first l n)
    go k e = rw e

pub pop_none : (l : List ℕ) (n : ℕ) → n ≤ 0 → last_first l n ≡ drop 1 (last_first l n)
unfolding last_first
pop_none l n h = let e : n ≡ 0 = omega arith in rw e

pub top_more : (l : List ℕ) (n : ℕ) → 0 < n → get_or l (n - 1) 0 ≡ get_or (last_first l n) 0 0
unfolding last_first
top_more l n h = go (n - 1) (omega arith)
  where
    go : (k : ℕ) → n ≡ suc k → get_or l k 0 ≡ get_or (last_first l n) 0 0
    go k e = rw e

pub top_none : (l : List ℕ) (n : ℕ) → n ≤ 0 → 0 ≡ get_or (last_first l n) 0 0
unfolding last_first
top_none l n h = let e : n ≡ 0 = omega arith in rw e

-- past the items nothing stands
pub top_past : (l : List ℕ) (n : ℕ) → 0 < n → length l < n → 0 ≡ get_or (last_first l n) 0 0
top_past l n h k = let i : length l ≤ n - 1 = omega arith in sym (get_or-eq_default l 0 i) ∙ top_more l n h

pub pushed_length : (x : ℕ) (l : List ℕ) → length l ≤ stack_most → length (pushed x l) ≤ stack_most
unfolding pushed
pushed_length x l h = go (ltb (length l) stack_most) refl
  where
    go : (b : Bool) → ltb (length l) stack_most ≡ b → length (if b (x ∷ l) l) ≤ stack_most
    go true e = ltb-true (length l) stack_most e
    go false e = h
