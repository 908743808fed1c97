-- One byte of the scan takes the place that is looked for one byte on.
use mathlib.Core.Path.{◌≡◌, refl, sym, ap, ◌∙◌, subst}
use mathlib.Core.Bool.{Bool, true, false, not, beq}
use mathlib.Core.List.{List, [], ◌∷◌}
use Prim.Native.Nat.{ℕ, zero, suc, ◌+◌, ◌-◌, ◌≤◌, ◌<◌, ◌%◌, ◌/◌}
use native.Mathlib.Numerals.{add-one}
use native.Mathlib.Omega.{arith}
use lib.Dec.{eqb}
use lib.ListN.{length, get_or, drop, drop_of_length-le}
use lib.Seq.{drop-cons}
use borrow.Author.Tests.{ne_eqb}
use Rattle.whole.specs.Cases.{if}
use Rattle.import_found.specs.Places.{Place, lost, result_at, go, next_case, xor, find}
use Rattle.import_places.specs.declared.Walk.{Walk}
use Rattle.import_places.specs.declared.Step.{Step}
use Rattle.import_places.specs.declared.Step.TheVariants.{On, Go, Result, NextCase, Lost}
use Rattle.import_places.specs.Walking.{signs, two_to, popped, token_of, step_of}

pub other_is_xor : (a b : Bool) → not (beq a b) ≡ xor a b
other_is_xor true true = refl
other_is_xor true false = refl
other_is_xor false true = refl
other_is_xor false false = refl

abbrev pub from_walk : List ℕ → Walk → Place
from_walk w s = find w s.depth s.value s.whole (signs s.mask s.count)

-- what an answer to one byte stands for: w is behind the byte
abbrev pub after : List ℕ → Walk → Step → Place
after w s (On t) = from_walk w t
after w s Go = go w false (signs s.mask s.count)
after w s Result = result_at w
after w s NextCase = next_case w
after w s Lost = lost

push_if : (w : List ℕ) (s : Walk) (b : Bool) (x y : Step) → after w s (if b x y) ≡ if b (after w s x) (after w s y)
push_if w s true x y = refl
push_if w s false x y = refl

if_both : (b : Bool) (x y x' y' : Place) → x ≡ x' → y ≡ y' → if b x y ≡ if b x' y'
if_both true x y x' y' p q = p
if_both false x y x' y' p q = q

-- by the same test on both sides
alike : (w : List ℕ) (s : Walk) (b : Bool) (x y : Place) (x' y' : Step) → x ≡ after w s x' → y ≡ after w s y' → if b x y ≡ after w s (if b x' y')
alike w s true x y x' y' p q = p
alike w s false x y x' y' p q = q

walk : ℕ → Bool → Bool → ℕ → ℕ → Walk
walk d v a m c = record { depth = d; value = v; whole = a; mask = m; count = c }

token_steps : (k : ℕ) (w : List ℕ) (v a : Bool) (m c : ℕ) →
    (if (eqb k 38) (if v (if a (find w 0 v a (signs m c)) (go w false (signs m c))) (find w 0 v a (signs m c)))
    (if (eqb k 124) (if v (find w 0 true true (signs m c)) (go w false (signs m c)))
    (if (eqb k 58) (if v (result_at w) (next_case w)) (find w 0 v a (signs m c)))))
    ≡ after w (walk 0 v a m c) (token_of (walk 0 v a m c) k)
unfolding token_of walk
token_steps k w v a m c =
    let s : Walk = walk 0 v a m c in
    alike w s (eqb k 38) _ _ _ _ (alike w s v _ _ _ _ (alike w s a _ _ _ _ refl refl) refl)
    (alike w s (eqb k 124) _ _ _ _ (alike w s v _ _ _ _ refl refl)
    (alike w s (eqb k 58) _ _ _ _ (alike w s v _ _ _ _ refl refl) refl))

otherwise : (w : List ℕ) (s : Walk) (x y : Step) (b : Bool) → b ≡ false → after w s y ≡ after w s (if b x y)
otherwise w s x y b e = sym (ap (λ (t : Bool). after w s (if t x y)) e)

pub not_zero : (n : ℕ) → eqb (suc n) 0 ≡ false
not_zero n = ne_eqb (suc n) 0 (λ e. omega arith)

pub less_one : (n : ℕ) → n ≡ suc n - 1
less_one n = omega arith

pop_steps : (w : List ℕ) (v a : Bool) (m c : ℕ) →
    elim (signs m c) as (λ _. Place) [ [] ↦ lost | p ∷ qs ↦ find w 0 (xor p v) false qs ] ≡ after w (walk 0 v a m c) (popped (walk 0 v a m c))
unfolding popped walk signs
pop_steps w v a m zero = refl
pop_steps w v a m (suc c) =
    ap (λ (j : ℕ). find w 0 (xor (eqb (m % 2) 1) v) false (signs (m / 2) j)) (less_one c)
    ∙ otherwise w (walk 0 v a m (suc c)) Lost (On (record { depth = 0; value = xor (eqb (m % 2) 1) v; whole = false; mask = m / 2; count = suc c - 1 })) (eqb (suc c) 0) (not_zero c)

one_step : (k : ℕ) (w : List ℕ) (d : ℕ) (v a : Bool) (m c : ℕ) → find (k ∷ w) d v a (signs m c) ≡ after w (walk d v a m c) (step_of (walk d v a m c) k)
unfolding find step_of walk
one_step k w zero v a m c =
    alike w (walk zero v a m c) (eqb k 40) _ _ _ _ refl (alike w (walk zero v a m c) (eqb k 41) _ _ _ _ (pop_steps w v a m c) (token_steps k w v a m c))
one_step k w (suc d) v a m c =
    alike w (walk (suc d) v a m c) (eqb k 40) _ _ _ _ (ap (λ (j : ℕ). find w j v a (signs m c)) (sym (add-one (suc d))))
    (alike w (walk (suc d) v a m c) (eqb k 41) _ _ _ _
    (ap (λ (j : ℕ). find w j v a (signs m c)) (less_one d)
    ∙ otherwise w (walk (suc d) v a m c) (popped (walk (suc d) v a m c)) (On (walk (suc d - 1) v a m c)) (eqb (suc d) 0) (not_zero d))
    (otherwise w (walk (suc d) v a m c) (token_of (walk (suc d) v a m c) k) (On (walk (suc d) v a m c)) (eqb (suc d) 0) (not_zero d)))

-- the byte at a place
pub on_byte : (text : List ℕ) (s : Walk) (i : ℕ) (t : Step) → i < length text → t ≡ step_of s (get_or text i 0) → from_walk (drop i text) s ≡ after (drop (i + 1) text) s t
unfolding walk
on_byte text s i t h e =
    ap (λ (w : List ℕ). from_walk w s) (drop-cons text i 0 h)
    ∙ one_step (get_or text i 0) (drop (suc i) text) s.depth s.value s.whole s.mask s.count
    ∙ ap (after (drop (suc i) text) s) (sym e) ∙ ap (λ (j : ℕ). after (drop j text) s t) (sym (add-one i))

abbrev depth_after : Step → ℕ
depth_after (On t) = t.depth
depth_after Go = 0
depth_after Result = 0
depth_after NextCase = 0
depth_after Lost = 0

shallow : (n : ℕ) (b : Bool) (x y : Step) → depth_after x ≤ n → depth_after y ≤ n → depth_after (if b x y) ≤ n
shallow n true x y p q = p
shallow n false x y p q = q

step_depth : (s : Walk) (k : ℕ) → depth_after (step_of s k) ≤ s.depth + 1
unfolding step_of popped token_of
step_depth s k =
    let n = s.depth + 1 in
    shallow n (eqb k 40) _ _ (omega arith)
    (shallow n (eqb k 41) _ _ (shallow n (eqb s.depth 0) _ _ (shallow n (eqb s.count 0) _ _ (omega arith) (omega arith)) (omega arith))
    (shallow n (eqb s.depth 0) _ _
    (shallow n (eqb k 38) _ _ (shallow n s.value _ _ (shallow n s.whole _ _ (omega arith) (omega arith)) (omega arith))
    (shallow n (eqb k 124) _ _ (shallow n s.value _ _ (omega arith) (omega arith))
    (shallow n (eqb k 58) _ _ (shallow n s.value _ _ (omega arith) (omega arith)) (omega arith)))) (omega arith)))

pub on_depth : (s w : Walk) (k : ℕ) → On w ≡ step_of s k → w.depth ≤ s.depth + 1
on_depth s w k e = subst (λ (t : Step). depth_after t ≤ s.depth + 1) (sym e) (step_depth s k)

-- ---- signs

half_low : (m c : ℕ) → m < two_to c → m / 2 < two_to (c - 1)
unfolding two_to
half_low m zero h = omega arith
half_low m (suc c) h = subst (λ (k : ℕ). m / 2 < two_to k) (less_one c) (omega (arith, h))

abbrev LowAfter : Step → Type 0
LowAfter (On t) = t.mask < two_to t.count
LowAfter Go = Unit {0}
LowAfter Result = Unit {0}
LowAfter NextCase = Unit {0}
LowAfter Lost = Unit {0}

low_if : (b : Bool) (x y : Step) → LowAfter x → LowAfter y → LowAfter (if b x y)
low_if true x y p q = p
low_if false x y p q = q

step_low : (s : Walk) (k : ℕ) → s.mask < two_to s.count → LowAfter (step_of s k)
unfolding step_of popped token_of
step_low s k h =
    low_if (eqb k 40) (On (record { depth = s.depth + 1; value = s.value; whole = s.whole; mask = s.mask; count = s.count })) _ h
    (low_if (eqb k 41) _ _
    (low_if (eqb s.depth 0) _ (On (record { depth = s.depth - 1; value = s.value; whole = s.whole; mask = s.mask; count = s.count }))
    (low_if (eqb s.count 0) Lost (On (record { depth = 0; value = xor (eqb (s.mask % 2) 1) s.value; whole = false; mask = s.mask / 2; count = s.count - 1 })) tt (half_low s.mask s.count h)) h)
    (low_if (eqb s.depth 0) _ (On s)
    (low_if (eqb k 38) _ _ (low_if s.value _ (On s) (low_if s.whole (On s) Go h tt) h)
    (low_if (eqb k 124) _ _ (low_if s.value (On (record { depth = 0; value = true; whole = true; mask = s.mask; count = s.count })) Go h tt)
    (low_if (eqb k 58) _ (On s) (low_if s.value Result NextCase tt tt) h))) h))

pub on_low : (s w : Walk) (k : ℕ) → On w ≡ step_of s k → s.mask < two_to s.count → w.mask < two_to w.count
on_low s w k e h = subst LowAfter (sym e) (step_low s k h)

pub record At (text : List ℕ) (meant : Place) (s : Walk) (i : ℕ) : Type 0 where
  pub within : i ≤ length text
  pub shallows : s.depth ≤ i
  pub low : s.mask < two_to s.count
  pub rest : from_walk (drop i text) s ≡ meant

pub at_end : (text : List ℕ) (meant : Place) (s : Walk) (i : ℕ) → At text meant s i → length text ≤ i → lost ≡ meant
unfolding find
at_end text meant s i a h = ap (λ (w : List ℕ). from_walk w s) (sym (drop_of_length-le text h)) ∙ a.rest
