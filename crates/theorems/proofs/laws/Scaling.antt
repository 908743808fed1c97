-- States scaled by one number above 0: the optimum is scaled, and the lowest best action kept.
use Rattle.std.specs.Prelude.{◌≡◌, ℤ, pos, ◌*ℤ◌, ◌≤ℤ◌}
use Rattle.std.proofs.Math.Path.{refl, sym, ap, ap₂}
use Rattle.std.proofs.Common.{◌∙◌, arith}
use mathlib.Core.List.{List, [], ◌∷◌}
use Prim.Native.Nat.{ℕ, zero, suc, ◌<◌}
use Rattle.std.proofs.Math.Nat.{le_of_mul-le-mul_left}
use Rattle.std.specs.Int.Signed.{le_z, le_z_yes}
use Rattle.whole.specs.Cases.{if, by_test, same_bool}
use Rattle.whole.specs.Int.{atom, diff, mul_mono}
use Rattle.theory.specs.Total.{Total, num, none, le_total, ◌⊕◌, weigh, max_total, mean, greatest_from, first_best}
use Rattle.theory.specs.Process.{Process, total, optimum, lowest_best}
use Rattle.theory.proofs.laws.Total.{weigh_num, weigh-⊕}
use Rattle.theory.proofs.laws.Lists.{mean_ext, mean_weigh}

-- a positive factor keeps the order
pub number_order : (k : ℕ) → 0 < k → (a b : ℤ) → le_z (pos k *ℤ a) (pos k *ℤ b) ≡ le_z a b
number_order k h a b = same_bool _ _ (λ t. (there (le_z_yes t)).le) (λ t. (mul_mono k a b (le_z_yes t)).le)
  where
    there : (pos k *ℤ a) ≤ℤ (pos k *ℤ b) → a ≤ℤ b
    there t = rw (← atom a, ← atom b) (simp diff (le_of_mul-le-mul_left {k = k} (omega (arith, simp diff at (rw (← atom a, ← atom b) at t))) h))

pub weigh_order : (k : ℕ) → 0 < k → (a b : Total) → le_total (weigh k a) (weigh k b) ≡ le_total a b
unfolding le_total weigh
weigh_order zero h a b = absurd (omega arith)
weigh_order (suc k) h none b = refl
weigh_order (suc k) h (num a) none = refl
weigh_order (suc k) h (num a) (num b) = number_order (suc k) h a b

pub weigh_max : (k : ℕ) → 0 < k → (a b : Total) → max_total (weigh k a) (weigh k b) ≡ weigh k (max_total a b)
unfolding max_total
weigh_max k h a b = ap (λ t. if t (weigh k a) (weigh k b)) (weigh_order k h b a) ∙ by_test (le_total b a) (λ t. if t (weigh k a) (weigh k b) ≡ weigh k (if t a b)) (λ _. refl) (λ _. refl)

module _ {A : Type 0} (k : ℕ) (k>0 : 0 < k) (f g : A → Total) (fg : (a : A) → f a ≡ weigh k (g a)) where
  pub greatest_scale : (x y : Total) → x ≡ weigh k y → (l : List A) → greatest_from f x l ≡ weigh k (greatest_from g y l)
  unfolding greatest_from
  greatest_scale x y e [] = e
  greatest_scale x y e (b ∷ l) = greatest_scale (max_total x (f b)) (max_total y (g b)) (ap₂ max_total e (fg b) ∙ weigh_max k k>0 y (g b)) l

  pub first_best_scale : (a : A) (l : List A) → first_best f a l ≡ first_best g a l
  unfolding first_best
  first_best_scale a [] = refl
  first_best_scale a (b ∷ l) = ap (λ t. first_best f (if t a b) l) (ap₂ le_total (fg b) (fg a) ∙ weigh_order k k>0 (g b) (g a)) ∙ first_best_scale (if (le_total (g b) (g a)) a b) l

-- a map of states that multiplies rewards and ends by k, and keeps weights and steps
pub record Scales {S A E : Type 0} (P : Process S A E) (k : ℕ) (φ : S → S) : Type 0 where
  pub positive : 0 < k
  pub rewards : (h : ℕ) (a : A) (s : S) → P.reward h a (φ s) ≡ weigh k (P.reward h a s)
  pub weights : (a : A) (s : S) → P.weight a (φ s) ≡ P.weight a s
  pub steps : (a : A) (s : S) (e : E) → P.next a (φ s) e ≡ φ (P.next a s e)
  pub ends : (s : S) → P.end (φ s) ≡ pos k *ℤ P.end s

module _ {S A E : Type 0} (P : Process S A E) (k : ℕ) (φ : S → S) (c : Scales P k φ) where
  total_scale : (f : S → Total) → ((s : S) → f (φ s) ≡ weigh k (f s)) → (h : ℕ) (a : A) (s : S) → total P f h a (φ s) ≡ weigh k (total P f h a s)
  unfolding total
  total_scale f fs h a s = ap₂ ◌⊕◌ (c.rewards h a s)
      (ap (λ w. mean w (λ e. f (P.next a (φ s) e)) P.settings) (c.weights a s)
      ∙ mean_ext (P.weight a s) (λ e. f (P.next a (φ s) e)) (λ e. weigh k (f (P.next a s e))) P.settings (λ e _ _. ap f (c.steps a s e) ∙ fs (P.next a s e))
      ∙ mean_weigh (P.weight a s) k (λ e. f (P.next a s e)) P.settings) ∙ sym (weigh-⊕ k _ _)

  pub optimum_scale : (h : ℕ) (s : S) → optimum P h (φ s) ≡ weigh k (optimum P h s)
  unfolding optimum
  optimum_scale zero s = ap num (c.ends s) ∙ sym (weigh_num k (P.end s))
  optimum_scale (suc h) s =
      let t : (a : A) → total P (optimum P h) h a (φ s) ≡ weigh k (total P (optimum P h) h a s) = λ a. total_scale (optimum P h) (optimum_scale h) h a s in
      greatest_scale k c.positive (λ a. total P (optimum P h) h a (φ s)) (λ a. total P (optimum P h) h a s) t _ _ (t P.first) P.others

  pub lowest_best_scale : (h : ℕ) (s : S) → lowest_best P h (φ s) ≡ lowest_best P h s
  unfolding lowest_best
  lowest_best_scale zero s = refl
  lowest_best_scale (suc h) s =
      first_best_scale k c.positive (λ a. total P (optimum P h) h a (φ s)) (λ a. total P (optimum P h) h a s)
      (λ a. total_scale (optimum P h) (optimum_scale h) h a s) P.first P.others
