-- Laws of totals and of means that the joining of two sites needs.
use Rattle.std.specs.Prelude.{◌≡◌, ℕ, zero, suc, ◌+◌, ◌*◌, pos, ◌+ℤ◌, ◌*ℤ◌}
use Rattle.std.proofs.Math.Path.{refl, sym, ap, ap₂}
use Rattle.std.proofs.Common.{◌∙◌, arith}
use mathlib.Core.List.{List, [], ◌∷◌, ◌++◌, map}
use Rattle.std.specs.Int.Signed.{le_z_yes}
use Rattle.whole.specs.Int.{distrib_r, add_mono}
use Rattle.theory.specs.Total.{Total, num, none, le_total, ◌⊑◌, ◌⊕◌, weigh, mean}
use Rattle.theory.specs.Loss.{sum}
use Rattle.theory.proofs.laws.Total.{sums, ⊕_assoc, zero-⊕, weigh_num, weigh_none, weigh_zero, weigh-⊕, weigh_times, weigh_nothing}

pub ⊕_swap : (a b c d : Total) → a ⊕ b ⊕ (c ⊕ d) ≡ a ⊕ c ⊕ (b ⊕ d)
⊕_swap a b c d = simp sums

pub ⊕_mono : (a b c d : Total) → a ⊑ b → c ⊑ d → (a ⊕ c) ⊑ (b ⊕ d)
unfolding le_total ◌⊕◌
⊕_mono none b c d h k = record { le = tt }
⊕_mono (num a) none c d h k = absurd h.le
⊕_mono (num a) (num b) none d h k = record { le = tt }
⊕_mono (num a) (num b) (num c) none h k = absurd k.le
⊕_mono (num a) (num b) (num c) (num d) h k = record { le = (add_mono a b c d (le_z_yes h.le) (le_z_yes k.le)).le }

pub weigh_plus : (w v : ℕ) (a : Total) → weigh (w + v) a ≡ weigh w a ⊕ weigh v a
unfolding ◌⊕◌
weigh_plus w v (num a) = weigh_num (w + v) a ∙ ap num (distrib_r a (pos w) (pos v)) ∙ sym (ap₂ ◌⊕◌ (weigh_num w a) (weigh_num v a))
weigh_plus zero v none = ap (λ z. weigh z none) (omega arith) ∙ sym (ap (λ z. z ⊕ weigh v none) (weigh_zero none) ∙ zero-⊕ _)
weigh_plus (suc w) v none = weigh_none (suc w + v) (omega arith) ∙ sym (ap (λ z. z ⊕ weigh v none) (weigh_none (suc w) (omega arith)))

module _ {E : Type 0} (w : E → ℕ) where
  pub mean_times : (c : ℕ) (f : E → Total) (l : List E) → mean (λ e. c * w e) f l ≡ weigh c (mean w f l)
  unfolding mean
  mean_times c f [] = sym (weigh_nothing c)
  mean_times c f (e ∷ l) = ap₂ ◌⊕◌ (weigh_times c (w e) (f e)) (mean_times c f l) ∙ sym (weigh-⊕ c _ _)

  pub mean_const : (x : Total) (l : List E) → mean w (λ _. x) l ≡ weigh (sum w l) x
  unfolding mean sum
  mean_const x [] = sym (weigh_zero x)
  mean_const x (e ∷ l) = ap (λ z. weigh (w e) x ⊕ z) (mean_const x l) ∙ sym (weigh_plus (w e) (sum w l) x)

  pub mean_append : (f : E → Total) (l k : List E) → mean w f (l ++ k) ≡ mean w f l ⊕ mean w f k
  unfolding mean
  mean_append f [] k = sym (simp sums)
  mean_append f (e ∷ l) k = ap (λ z. weigh (w e) (f e) ⊕ z) (mean_append f l k) ∙ sym (⊕_assoc _ _ _)

  pub mean_map : {D : Type 0} (g : D → E) (f : E → Total) (l : List D) → mean w f (map g l) ≡ mean (λ d. w (g d)) (λ d. f (g d)) l
  unfolding mean
  mean_map g f [] = refl
  mean_map g f (d ∷ l) = ap (λ z. weigh (w (g d)) (f (g d)) ⊕ z) (mean_map g f l)
