-- Laws of totals.
use Rattle.std.specs.Prelude.{◌≡◌, refl, ◌⊎◌, not, ℕ, zero, suc, ◌+◌, ◌*◌, ◌<◌, T, ℤ, pos, negsuc, ◌+ℤ◌, ◌-ℤ◌, ◌*ℤ◌, ◌≤ℤ◌}
use Rattle.std.proofs.Common.{sym, ap, ◌∙◌, inl, inr, arith}
use Rattle.std.proofs.Math.IntN.{+ℤ_assoc, +ℤ_comm, +ℤ_idl, *ℤ-zero, zero-*ℤ}
use Rattle.std.specs.Int.Signed.{le_z_yes, ≤ℤ_refl}
use Rattle.whole.specs.Cases.{if, by_test}
use Rattle.whole.specs.Int.{atom, up, diff, le_in, distrib, mul_assoc, mul_mono, ≤_trans, ≤-antisym, not_le}
use Rattle.theory.specs.Total.{Total, num, none, le_total, ◌⊑◌, Has, ◌⊕◌, weigh, max_total}
use Rattle.theory.specs.Loss.{excess}

-- ---- order

pub ⊑_refl : (a : Total) → a ⊑ a
unfolding le_total
⊑_refl none = record { le = tt }
⊑_refl (num a) = record { le = (≤ℤ_refl a).le }

pub ⊑_trans : (a b c : Total) → a ⊑ b → b ⊑ c → a ⊑ c
unfolding le_total
⊑_trans none b c h k = record { le = tt }
⊑_trans (num a) none c h k = absurd h.le
⊑_trans (num a) (num b) none h k = absurd k.le
⊑_trans (num a) (num b) (num c) h k = record { le = (≤_trans a b c (le_z_yes h.le) (le_z_yes k.le)).le }

pub ⊑-antisym : (a b : Total) → a ⊑ b → b ⊑ a → a ≡ b
unfolding le_total
⊑-antisym none none h k = refl
⊑-antisym none (num b) h k = absurd k.le
⊑-antisym (num a) none h k = absurd h.le
⊑-antisym (num a) (num b) h k = ap num (≤-antisym a b (le_z_yes h.le) (le_z_yes k.le))

pub ⊑-of_eq : (a b : Total) → a ≡ b → a ⊑ b
⊑-of_eq a b h = rw h (⊑_refl b)

pub not-⊑ : (a b : Total) → T (not (le_total a b)) → b ⊑ a
unfolding le_total
not-⊑ none b t = absurd t
not-⊑ (num a) none t = record { le = tt }
not-⊑ (num a) (num b) t = record { le = (not_le a b t).le }

pub max_left : (a b : Total) → a ⊑ max_total a b
unfolding max_total
max_left a b = by_test (le_total b a) (λ t. a ⊑ if t a b) (λ _. ⊑_refl a) (λ t. not-⊑ b a t)

pub max_right : (a b : Total) → b ⊑ max_total a b
unfolding max_total
max_right a b = by_test (le_total b a) (λ t. b ⊑ if t a b) (λ t. record { le = t }) (λ _. ⊑_refl b)

pub none_below : (a : Total) → none ⊑ a
unfolding le_total
none_below a = record { le = tt }

-- what is above a total is one
pub has_above : (a b : Total) → a ⊑ b → Has a → Has b
unfolding le_total
has_above none b h p = absurd p
has_above (num a) none h p = absurd h.le
has_above (num a) (num b) h p = tt

pub by_has : {X : Type 0} (a : Total) → (a ≡ none → X) → (Has a → X) → X
by_has none f g = f refl
by_has (num a) f g = g tt

pub has_not_none : (a : Total) → Has a → a ≡ none → ⊥
has_not_none a p q = rw q at p

-- ---- sums

pub ⊕_comm : (a b : Total) → a ⊕ b ≡ b ⊕ a
unfolding ◌⊕◌
⊕_comm none none = refl
⊕_comm none (num b) = refl
⊕_comm (num a) none = refl
⊕_comm (num a) (num b) = ap num (+ℤ_comm a b)

pub ⊕_assoc : (a b c : Total) → a ⊕ b ⊕ c ≡ a ⊕ (b ⊕ c)
unfolding ◌⊕◌
⊕_assoc none b c = refl
⊕_assoc (num a) none c = refl
⊕_assoc (num a) (num b) none = refl
⊕_assoc (num a) (num b) (num c) = ap num (+ℤ_assoc a b c)

pub ⊕_left_comm : (a b c : Total) → a ⊕ (b ⊕ c) ≡ b ⊕ (a ⊕ c)
⊕_left_comm a b c = sym (⊕_assoc a b c) ∙ ap (λ z. z ⊕ c) (⊕_comm a b) ∙ ⊕_assoc b a c

pub zero-⊕ : (a : Total) → num (pos 0) ⊕ a ≡ a
unfolding ◌⊕◌
zero-⊕ none = refl
zero-⊕ (num a) = ap num (+ℤ_idl a)

pub none-⊕ : (a : Total) → none ⊕ a ≡ none
unfolding ◌⊕◌
none-⊕ a = refl

pub ⊕_zero : (a : Total) → a ⊕ num (pos 0) ≡ a
⊕_zero a = ⊕_comm a _ ∙ zero-⊕ a

pub num-⊕ : (a b : ℤ) → num a ⊕ num b ≡ num (a +ℤ b)
unfolding ◌⊕◌
num-⊕ a b = refl

pub pos-⊕ : (m n : ℕ) → num (pos m) ⊕ num (pos n) ≡ num (pos (m + n))
unfolding ◌⊕◌
pos-⊕ m n = refl

pub ⊕_pos : (a : Total) (m n : ℕ) → a ⊕ num (pos m) ⊕ num (pos n) ≡ a ⊕ num (pos (m + n))
⊕_pos a m n = ⊕_assoc a _ _ ∙ ap (λ z. a ⊕ z) (pos-⊕ m n)

pub ruleset sums = (⊕_assoc, ⊕_comm, ⊕_left_comm, zero-⊕, ⊕_zero)

pub has_left : (a b : Total) → Has (a ⊕ b) → Has a
unfolding ◌⊕◌
has_left none b h = h
has_left (num a) b h = tt

pub has_right : (a b : Total) → Has (a ⊕ b) → Has b
unfolding ◌⊕◌
has_right none b h = absurd h
has_right (num a) none h = h
has_right (num a) (num b) h = tt

pub has-⊕ : (a b : Total) → Has a → Has b → Has (a ⊕ b)
unfolding ◌⊕◌
has-⊕ none b h k = h
has-⊕ (num a) none h k = k
has-⊕ (num a) (num b) h k = tt

pub one_none : (a b : Total) → a ⊕ b ≡ none → (a ≡ none) ⊎ (b ≡ none)
one_none none b q = inl refl
one_none (num a) none q = inr refl
one_none (num a) (num b) q = absurd (has_not_none (num a ⊕ num b) (has-⊕ (num a) (num b) tt tt) q)

more : (a : ℤ) (n : ℕ) → a ≤ℤ (a +ℤ pos n)
more a n = rw (← atom a) (simp diff (omega arith))

pub ⊕_more : (a : Total) (n : ℕ) → a ⊑ (a ⊕ num (pos n))
unfolding le_total ◌⊕◌
⊕_more none n = record { le = tt }
⊕_more (num a) n = record { le = (more a n).le }

same : (a : ℤ) (n : ℕ) → a ≡ a +ℤ pos n → n ≡ 0
same a n e = omega (arith, simp diff at (rw (← atom a) at e))

number : Total → ℤ
number (num a) = a
number none = pos 0

pub ⊕_same : (a : Total) (n : ℕ) → Has a → a ≡ a ⊕ num (pos n) → n ≡ 0
unfolding ◌⊕◌ number
⊕_same none n p e = absurd p
⊕_same (num a) n p e = same a n (ap number e)

-- ---- weights

pub weigh_num : (w : ℕ) (a : ℤ) → weigh w (num a) ≡ num (pos w *ℤ a)
unfolding weigh
weigh_num zero a = ap num (sym (zero-*ℤ a))
weigh_num (suc w) a = refl

pub weigh_pos : (w n : ℕ) → weigh w (num (pos n)) ≡ num (pos (w * n))
weigh_pos w n = weigh_num w (pos n)

pub weigh_mono : (w : ℕ) (a b : Total) → a ⊑ b → weigh w a ⊑ weigh w b
unfolding le_total weigh
weigh_mono zero a b h = ⊑_refl (num (pos 0))
weigh_mono (suc w) none b h = record { le = tt }
weigh_mono (suc w) (num a) none h = absurd h.le
weigh_mono (suc w) (num a) (num b) h = record { le = (mul_mono (suc w) a b (le_z_yes h.le)).le }

pub weigh_ext : (w : ℕ) (a b : Total) → (0 < w → a ≡ b) → weigh w a ≡ weigh w b
unfolding weigh
weigh_ext zero a b h = refl
weigh_ext (suc w) a b h = ap (weigh (suc w)) (h (omega arith))

pub weigh-⊕ : (w : ℕ) (a b : Total) → weigh w (a ⊕ b) ≡ weigh w a ⊕ weigh w b
unfolding weigh ◌⊕◌
weigh-⊕ zero a b = refl
weigh-⊕ (suc w) none b = refl
weigh-⊕ (suc w) (num a) none = refl
weigh-⊕ (suc w) (num a) (num b) = ap num (distrib (pos (suc w)) a b)

pub weigh_none : (w : ℕ) → 0 < w → weigh w none ≡ none
unfolding weigh
weigh_none zero p = absurd (omega arith)
weigh_none (suc w) p = refl

pub weigh_zero : (a : Total) → weigh 0 a ≡ num (pos 0)
unfolding weigh
weigh_zero a = refl

pub weigh_one : (a : Total) → weigh 1 a ≡ a
unfolding weigh
weigh_one none = refl
weigh_one (num a) = ap num (*ℤ-one a)
  where
    *ℤ-one : (a : ℤ) → pos 1 *ℤ a ≡ a
    *ℤ-one a = rw (← atom a) (simp diff (omega arith))

pub weigh_nothing : (w : ℕ) → weigh w (num (pos 0)) ≡ num (pos 0)
weigh_nothing w = weigh_num w (pos 0) ∙ ap num (*ℤ-zero (pos w))

pub weigh_times : (w v : ℕ) (a : Total) → weigh (w * v) a ≡ weigh w (weigh v a)
weigh_times w v (num a) = weigh_num (w * v) a ∙ ap num (mul_assoc (pos w) (pos v) a) ∙ sym (ap (weigh w) (weigh_num v a) ∙ weigh_num w (pos v *ℤ a))
weigh_times zero v none = ap (λ z. weigh z none) (omega arith) ∙ weigh_zero none ∙ sym (weigh_zero (weigh v none))
weigh_times (suc w) zero none = ap (λ z. weigh z none) (omega arith) ∙ weigh_zero none ∙ sym (ap (weigh (suc w)) (weigh_zero none) ∙ weigh_nothing (suc w))
weigh_times (suc w) (suc v) none = weigh_none (suc w * suc v) (omega arith) ∙ sym (ap (weigh (suc w)) (weigh_none (suc v) (omega arith)) ∙ weigh_none (suc w) (omega arith))

pub weigh_swap : (w v : ℕ) (a : Total) → weigh w (weigh v a) ≡ weigh v (weigh w a)
weigh_swap w v a = sym (weigh_times w v a) ∙ ap (λ z. weigh z a) (omega arith) ∙ weigh_times v w a

pub has_weigh : (w : ℕ) (a : Total) → 0 < w → Has (weigh w a) → Has a
unfolding weigh
has_weigh zero a p h = absurd (omega arith)
has_weigh (suc w) none p h = h
has_weigh (suc w) (num a) p h = tt

-- a sum of two is none where one is; a weighed one where it has weight
pub weigh_is_none : (w : ℕ) (a : Total) → weigh w a ≡ none → (0 < w) × (a ≡ none)
unfolding weigh
weigh_is_none zero a q = absurd (has_not_none (num (pos 0)) tt q)
weigh_is_none (suc w) none q = (omega arith, refl)
weigh_is_none (suc w) (num a) q = absurd (has_not_none (num (pos (suc w) *ℤ a)) tt q)

-- ---- excess

pos_up : (z : ℤ) → pos 0 ≤ℤ z → pos (up z) ≡ z
pos_up (pos n) h = refl
pos_up (negsuc n) h = absurd h.le

excess_num : (a b : ℤ) → b ≤ℤ a → b +ℤ pos (up (a -ℤ b)) ≡ a
excess_num a b h = ap (λ z. b +ℤ z) (pos_up (a -ℤ b) (rw (← atom a, ← atom b) (simp diff (omega (arith, le_in))))) ∙ rw (← atom a, ← atom b) (simp diff (omega arith))

-- what is added to a smaller total gives the larger
pub excess_adds : (a b : Total) → b ⊑ a → Has b → b ⊕ num (pos (excess a b)) ≡ a
unfolding le_total ◌⊕◌ excess
excess_adds a none h p = absurd p
excess_adds none (num b) h p = absurd h.le
excess_adds (num a) (num b) h p = ap num (excess_num a b (le_z_yes h.le))

same_excess : (a : ℤ) → up (a -ℤ a) ≡ 0
same_excess a = ap (λ z. up z) (zero_sub a)
  where
    zero_sub : (a : ℤ) → a -ℤ a ≡ pos 0
    zero_sub a = rw (← atom a) (simp diff (omega arith))

pub excess_self : (a : Total) → excess a a ≡ 0
unfolding excess
excess_self none = refl
excess_self (num a) = same_excess a
