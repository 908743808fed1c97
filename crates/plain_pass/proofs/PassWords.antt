-- What the words of a pass hold after each change.
use mathlib.Core.Path.{◌≡◌, refl, ap, ◌∙◌}
use mathlib.Core.Bool.{Bool, true, false}
use mathlib.Core.List.{List}
use Prim.Native.Nat.{ℕ, zero, suc, ◌+◌, ◌-◌, ◌≤◌, ◌<◌}
use native.Mathlib.Omega.{arith}
use lib.ListN.{length, get_or, set, drop, length-set}
use Rattle.theory.specs.Widths.{stack_most}
use Rattle.model_stack.specs.Held.{last_first, pushed}
use Rattle.model_stack.proofs.Stacked.{held_length, push_more, push_full, pop_more, pop_none}
use Rattle.plain_pass.specs.Pass.{chosen}
use Rattle.plain_pass.specs.Parts.{StackRoom, HoldsStack}
use Rattle.plain_pass.proofs.Reach.{pushed_room}

-- the same stack, by another name
pub holds_as : {l : List ℕ} {n : ℕ} {s s' : List ℕ} → HoldsStack l n s → s ≡ s' → HoldsStack l n s'
holds_as h e = record { room = h.room; holds = h.holds ∙ e }

less : (k : ℕ) → suc (suc k) - 1 ≡ suc k
less k = omega arith

fewer : (k : ℕ) → suc (suc k) - 2 ≡ k
fewer k = omega arith

few_held : (l : List ℕ) (b : Bool) (k : ℕ) → k < 2 → last_first l k ≡ chosen b (last_first l k)
unfolding last_first chosen
few_held l b zero h = refl
few_held l b (suc zero) h = refl
few_held l b (suc (suc k)) h = absurd (omega arith)

high_left : (l : List ℕ) (k : ℕ) → last_first l (suc k) ≡ chosen true (last_first l (suc (suc k)))
unfolding last_first chosen
high_left l k = refl

low_left : (l : List ℕ) (k : ℕ) → k < length l → k < stack_most → last_first (set l k (get_or l (suc k) 0)) (suc k) ≡ chosen false (last_first l (suc (suc k)))
unfolding last_first chosen
low_left l k u h =
    ap (last_first (set l k (get_or l (suc k) 0))) (let e : suc k ≡ k + 1 = omega arith in e)
    ∙ push_more l k (get_or l (suc k) 0) u h
    ∙ pushed_room (get_or l (suc k) 0) (last_first l k) (omega (arith, held_length l k))

module _ (l : List ℕ) (n : ℕ) (r : StackRoom l n) where
  pub more_held : (x : ℕ) → n < stack_most → HoldsStack (set l n x) (n + 1) (pushed x (last_first l n))
  more_held x h = record {
    room = record { long = length-set l n x ∙ r.long; few = omega arith };
    holds = push_more l n x (omega (arith, r.long)) h;
  }

  pub full_held : (x : ℕ) → stack_most ≤ n → HoldsStack l n (pushed x (last_first l n))
  full_held x h = record { room = r; holds = push_full l n x h }

  pub popped_held : HoldsStack l (n - 1) (drop 1 (last_first l n))
  popped_held = record { room = record { long = r.long; few = omega (arith, r.few) }; holds = go n refl }
    where
      go : (k : ℕ) → n ≡ k → last_first l (n - 1) ≡ drop 1 (last_first l n)
      go zero e = ap (last_first l) (let q : n - 1 ≡ n = omega arith in q) ∙ pop_none l n (omega arith)
      go (suc k) e = pop_more l n (omega arith)

  pub too_few : (b : Bool) → n < 2 → HoldsStack l n (chosen b (last_first l n))
  too_few b h = record { room = r; holds = few_held l b n h }

  module _ (h : 2 ≤ n) where
    two : (P : ℕ → Type 0) → ((k : ℕ) → n ≡ suc (suc k) → P (suc (suc k))) → P n
    two P f = go n refl
      where
        go : (j : ℕ) → n ≡ j → P j
        go zero e = absurd (omega arith)
        go (suc zero) e = absurd (omega arith)
        go (suc (suc k)) e = f k e

    pub high_held : (b : Bool) → b ≡ true → HoldsStack l (n - 1) (chosen b (last_first l n))
    high_held b t = record {
      room = record { long = r.long; few = omega (arith, r.few) };
      holds = two (λ j. last_first l (j - 1) ≡ chosen b (last_first l j)) (λ k _. rw t (ap (last_first l) (less k) ∙ high_left l k));
    }

    pub low_held : (b : Bool) → b ≡ false → HoldsStack (set l (n - 2) (get_or l (n - 1) 0)) (n - 1) (chosen b (last_first l n))
    low_held b t = record {
      room = record { long = length-set l (n - 2) _ ∙ r.long; few = omega (arith, r.few) };
      holds = two (λ j. last_first (set l (j - 2) (get_or l (j - 1) 0)) (j - 1) ≡ chosen b (last_first l j)) (λ k e. rw (t, less k, fewer k) (low_left l k (omega (arith, r.few, r.long)) (omega (arith, r.few))));
    }
