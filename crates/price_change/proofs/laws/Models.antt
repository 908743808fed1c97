-- An accepted model's process meets what the laws of two processes ask, with every model near it.
use Rattle.std.specs.Prelude.{◌≡◌, refl, ℕ, suc, ◌*◌, ◌^◌, ℤ, length}
use Rattle.std.proofs.Math.Path.{ap, ap₂}
use mathlib.Core.List.{List, [], ◌∷◌}
use Rattle.std.proofs.Common.{arith}
use Rattle.theory.specs.Meaning.{Model, settings, numbers_from, weight, moved, power, process}
use Rattle.theory.specs.Meaning.{Action as ModelAction}
use Rattle.theory.specs.Verdict.{verdict}
use Rattle.theory.specs.Load.{model}
use Rattle.theorems.proofs.laws.Weights.{power_step}
use Rattle.theorems.proofs.laws.Chances.{state_weights_sum}
use Rattle.price_change.specs.Prices.{AlikeButRewards, Kept, Repriced, NearModels}
use Rattle.price_change.proofs.laws.Prices.{near_weigh}

numbers_same : (a : ℕ) (l k : List ModelAction) → length l ≡ length k → numbers_from a l ≡ numbers_from a k
unfolding numbers_from
numbers_same a [] [] q = refl
numbers_same a [] (y ∷ k) q = absurd (omega arith)
numbers_same a (x ∷ l) [] q = absurd (omega arith)
numbers_same a (x ∷ l) (y ∷ k) q = ap (λ (z : List ℕ). a ∷ z) (numbers_same (suc a) l k (omega arith))

-- D, which no move changes, times e
unit_kept : (M : Model) (e : ℕ) → Kept (process M) (λ s. s.den * e)
unfolding process moved
unit_kept M e a s r = refl

module _ (M N : Model) (e : ℕ) (c : NearModels M N e) where
  alike : AlikeButRewards (process M) (process N)
  unfolding process moved
  alike = record {
    same_first = refl;
    same_others = numbers_same 2 M.others N.others c.actions;
    same_settings = ap settings c.conditions;
    same_weight = λ a s r. ap₂ (λ W ws. weight W ws r) c.weights (c.chances a s);
    same_next = λ a s r. ap (λ (l : List ℤ). record { conditions = r; nums = l; den = s.den; D>0 = s.D>0 }) (c.levels a s r);
    same_end = c.end;
  }

pub repriced : (B : List ℕ) → (verdict B).number ≡ 0 → (N : Model) (e : ℕ) → NearModels (model B) N e
    → Repriced (process (model B)) (process N) ((model B).weights ^ (model B).conditions) (power (model B)) (λ s. s.den * e)
unfolding process
repriced B ok N e c = let M = model B in record {
  alike = alike M N e c;
  even = λ a s i. state_weights_sum B ok a i s;
  scaled = power_step M.weights M.conditions;
  kept = unit_kept M e;
  near = λ h a s _. rw (← same_power (suc h)) (near_weigh (power M (suc h)) (s.den * e) _ _ (c.rewards a s));
}
  where
    same_power : (h : ℕ) → power (model B) h ≡ power N h
    same_power h = ap₂ (λ W n. W ^ (n * h)) c.weights c.conditions
