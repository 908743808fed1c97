-- A test over a run of numbers or over a part of a list, one turn at a time.
use mathlib.Core.Path.{◌≡◌, refl, sym, ap, ap₂, ◌∙◌}
use mathlib.Core.Bool.{Bool, true, false, ◌&&◌}
use mathlib.Core.List.{List, [], ◌∷◌, ◌++◌, map}
use Prim.Native.Nat.{ℕ, zero, suc, ◌+◌, ◌-◌, ◌≤◌, ◌<◌}
use native.Mathlib.Numerals.{add-one}
use native.Mathlib.Omega.{arith}
use lib.ListN.{length, get_or, take, drop, drop_of_length-le}
use lib.Seq.{drop-cons, take-nil}
use Rattle.theory.specs.Valid.{all}
use Rattle.theory.specs.Verdict.{from_to}

module _ (f : ℕ → Bool) where
  pub run_turn : (i n : ℕ) → i < n → all f (from_to (suc i) (n - i)) ≡ (f (i + 1) && all f (from_to (suc (i + 1)) (n - (i + 1))))
  unfolding all from_to
  run_turn i n h =
      let e : n - i ≡ suc (n - suc i) = omega arith in
      rw (add-one, e)

  pub run_done : (i n : ℕ) → n ≤ i → all f (from_to (suc i) (n - i)) ≡ true
  unfolding all from_to
  run_done i n h = let e : n - i ≡ 0 = omega arith in rw e

  pub part_turn : (l : List ℕ) (at k : ℕ) → at < length l → 0 < k → all f (take k (drop at l)) ≡ (f (get_or l at 0) && all f (take (k - 1) (drop (at + 1) l)))
  unfolding all
  part_turn l at zero h g = absurd (omega arith)
  part_turn l at (suc k) h g =
      let e : suc k - 1 ≡ k = omega arith in
      rw (add-one, e, drop-cons l at 0 h)

  pub part_past : (l : List ℕ) (at k : ℕ) → length l ≤ at → all f (take k (drop at l)) ≡ true
  unfolding all
  part_past l at k h = rw (drop_of_length-le l h, take-nil k)

  -- no part is left, or the list ends before it
  pub part_over : (l : List ℕ) (at k : ℕ) → (0 < k → length l ≤ at) → all f (take k (drop at l)) ≡ true
  unfolding all
  part_over l at zero h = refl
  part_over l at (suc k) h = part_past l at (suc k) (h (omega arith))

-- two tests that agree on a run
pub run_same : (f g : ℕ → Bool) (x k : ℕ) → ((i : ℕ) → x ≤ i → i < x + k → f i ≡ g i) → all f (from_to x k) ≡ all g (from_to x k)
unfolding all from_to
run_same f g x zero h = refl
run_same f g x (suc k) h =
    ap₂ ◌&&◌ (h x (omega arith) (omega arith)) (run_same f g (suc x) k (λ i a b. h i (omega arith) (omega arith)))

pub all_map : {A B : Type 0} (f : B → Bool) (h : A → B) (l : List A) → all f (map h l) ≡ all (λ x. f (h x)) l
unfolding all
all_map f h [] = refl
all_map f h (x ∷ l) = ap (λ b. f (h x) && b) (all_map f h l)

pub and_assoc : (a b c : Bool) → ((a && b) && c) ≡ (a && (b && c))
and_assoc true b c = refl
and_assoc false b c = refl

pub all_append : {A : Type 0} (f : A → Bool) (l r : List A) → all f (l ++ r) ≡ (all f l && all f r)
unfolding all
all_append f [] r = refl
all_append f (x ∷ l) r = ap (λ b. f x && b) (all_append f l r) ∙ sym (and_assoc (f x) (all f l) (all f r))
