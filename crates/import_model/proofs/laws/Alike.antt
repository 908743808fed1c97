-- Two processes that agree on their actions have the same optimum, the same lowest best actions, and the same totals of policies.
use Rattle.std.specs.Prelude.{◌≡◌, refl, Bool}
use Rattle.std.proofs.Math.Path.{ap, ap₂}
use Rattle.std.proofs.Common.{◌∙◌}
use mathlib.Core.List.{List, [], ◌∷◌, Memᴰ}
use Prim.Native.Nat.{ℕ, zero, suc}
use Rattle.whole.specs.Cases.{if, by_test}
use Rattle.theory.specs.Total.{Total, num, le_total, ◌⊕◌, max_total, mean, greatest_from, first_best}
use Rattle.theory.specs.Process.{Process, Action, total, optimum, lowest_best, Policy, expected}

greatest_as : {A : Type 0} (f g : A → Total) (x y : Total) (l : List A) → ((a : A) → Memᴰ a l → f a ≡ g a) → x ≡ y → greatest_from f x l ≡ greatest_from g y l
unfolding greatest_from
greatest_as f g x y [] h e = e
greatest_as f g x y (b ∷ l) h e = greatest_as f g (max_total x (f b)) (max_total y (g b)) l (λ a m. h a (Memᴰ.tail m)) (ap₂ max_total e (h b (Memᴰ.head refl)))

first_as : {A : Type 0} (f g : A → Total) (a : A) (l : List A) → f a ≡ g a → ((b : A) → Memᴰ b l → f b ≡ g b) → first_best f a l ≡ first_best g a l
unfolding first_best
first_as f g a [] e h = refl
first_as f g a (b ∷ l) e h =
    let q : f b ≡ g b = h b (Memᴰ.head refl) in
    let c = if (le_total (f b) (f a)) a b in
    let p : f c ≡ g c = by_test (le_total (f b) (f a)) (λ t. f (if t a b) ≡ g (if t a b)) (λ _. e) (λ _. q) in
    first_as f g c l p (λ d m. h d (Memᴰ.tail m)) ∙ ap (λ (t : Bool). first_best g (if t a b) l) (ap₂ le_total q e)

module _ {S A E : Type 0} where
  -- the same actions, settings and end; the same rewards, weights and next states of the actions
  pub record Alike (P Q : Process S A E) : Type 0 where
    pub same_first : P.first ≡ Q.first
    pub same_others : P.others ≡ Q.others
    pub same_settings : P.settings ≡ Q.settings
    pub same_reward : (h : ℕ) (a : A) (s : S) → Action P a → P.reward h a s ≡ Q.reward h a s
    pub same_weight : (a : A) (s : S) (e : E) → Action P a → P.weight a s e ≡ Q.weight a s e
    pub same_next : (a : A) (s : S) (e : E) → Action P a → P.next a s e ≡ Q.next a s e
    pub same_end : (s : S) → P.end s ≡ Q.end s

  module _ (P Q : Process S A E) (al : Alike P Q) where
    total_as : (f g : S → Total) → ((s : S) → f s ≡ g s) → (h : ℕ) (a : A) (s : S) → Action P a → total P f h a s ≡ total Q g h a s
    unfolding total
    total_as f g q h a s m = λ i. (al.same_reward h a s m i) ⊕ mean (λ e. al.same_weight a s e m i) (λ e. (ap f (al.same_next a s e m) ∙ q (Q.next a s e)) i) (al.same_settings i)

    pub optimum_as : (h : ℕ) (s : S) → optimum P h s ≡ optimum Q h s
    unfolding optimum
    optimum_as zero s = ap num (al.same_end s)
    optimum_as (suc h) s =
        let f : A → Total = λ a. total P (optimum P h) h a s in
        let g : A → Total = λ a. total Q (optimum Q h) h a s in
        let each : (a : A) → Action P a → f a ≡ g a = λ a m. total_as (optimum P h) (optimum Q h) (optimum_as h) h a s m in
        greatest_as f g (f P.first) (g P.first) P.others (λ a m. each a (Memᴰ.tail m)) (each P.first (Memᴰ.head refl))
        ∙ ap₂ (λ (a : A) (l : List A). greatest_from g (g a) l) al.same_first al.same_others

    pub lowest_best_as : (h : ℕ) (s : S) → lowest_best P h s ≡ lowest_best Q h s
    unfolding lowest_best
    lowest_best_as zero s = al.same_first
    lowest_best_as (suc h) s =
        let f : A → Total = λ a. total P (optimum P h) h a s in
        let g : A → Total = λ a. total Q (optimum Q h) h a s in
        let each : (a : A) → Action P a → f a ≡ g a = λ a m. total_as (optimum P h) (optimum Q h) (optimum_as h) h a s m in
        first_as f g P.first P.others (each P.first (Memᴰ.head refl)) (λ a m. each a (Memᴰ.tail m))
        ∙ ap₂ (λ (a : A) (l : List A). first_best g a l) al.same_first al.same_others

    pub expected_as : (π : Policy P) (ρ : Policy Q) → ((h : ℕ) (s : S) → π.choice h s ≡ ρ.choice h s) → (h : ℕ) (s : S) → expected P π h s ≡ expected Q ρ h s
    unfolding expected
    expected_as π ρ c zero s = ap num (al.same_end s)
    expected_as π ρ c (suc h) s =
        total_as (expected P π h) (expected Q ρ h) (expected_as π ρ c h) h (π.choice (suc h) s) s (π.allowed (suc h) s)
        ∙ ap (λ (a : A). total Q (expected Q ρ h) h a s) (c (suc h) s)
