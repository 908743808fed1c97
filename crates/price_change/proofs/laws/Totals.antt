-- Totals, means and sums, compared.
use Rattle.std.specs.Prelude.{◌≡◌, ℕ, suc, ◌+◌, ◌*◌, ℤ, pos, ◌+ℤ◌, ◌≤ℤ◌}
use mathlib.Core.List.{List, [], ◌∷◌}
use native.Mathlib.Omega.{arith}
use Rattle.std.specs.Int.Signed.{le_z_yes}
use Rattle.whole.specs.Int.{atom, diff, add_mono}
use Rattle.theory.specs.Total.{Total, num, none, le_total, ◌⊑◌, Has, ◌⊕◌, mean}
use Rattle.theory.specs.Loss.{sum}
use Rattle.theory.proofs.laws.Total.{⊑_refl, sums, weigh_mono}

pub ⊕_swap : (a b c d : Total) → a ⊕ b ⊕ (c ⊕ d) ≡ a ⊕ c ⊕ (b ⊕ d)
⊕_swap a b c d = simp sums

pub ⊕_mono : (a b c d : Total) → a ⊑ b → c ⊑ d → (a ⊕ c) ⊑ (b ⊕ d)
unfolding le_total ◌⊕◌
⊕_mono none b c d h k = record { le = tt }
⊕_mono (num a) none c d h k = absurd h.le
⊕_mono (num a) (num b) none d h k = record { le = tt }
⊕_mono (num a) (num b) (num c) none h k = absurd k.le
⊕_mono (num a) (num b) (num c) (num d) h k = record { le = (add_mono a b c d (le_z_yes h.le) (le_z_yes k.le)).le }

cancel : (a b : ℤ) (n : ℕ) → (a +ℤ pos n) ≤ℤ (b +ℤ pos n) → a ≤ℤ b
cancel a b n h = rw (← atom a, ← atom b) (simp diff (omega (arith, simp diff at (rw (← atom a, ← atom b) at h))))

pub ⊕_cancel : (a b : Total) (n : ℕ) → (a ⊕ num (pos n)) ⊑ (b ⊕ num (pos n)) → a ⊑ b
unfolding le_total ◌⊕◌
⊕_cancel none b n h = record { le = tt }
⊕_cancel (num a) none n h = absurd h.le
⊕_cancel (num a) (num b) n h = record { le = (cancel a b n (le_z_yes h.le)).le }

grows : (a : ℤ) (n : ℕ) → (a +ℤ pos (suc n)) ≤ℤ a → ⊥
grows a n h = omega (arith, simp diff at (rw (← atom a) at h))

pub ⊕_grows : (a : Total) (n : ℕ) → Has a → (a ⊕ num (pos (suc n))) ⊑ a → ⊥
unfolding le_total ◌⊕◌
⊕_grows none n p h = p
⊕_grows (num a) n p h = grows a n (le_z_yes h.le)

module _ {E : Type 0} (w : E → ℕ) where
  pub mean_mono : (f g : E → Total) (l : List E) → ((e : E) → f e ⊑ g e) → mean w f l ⊑ mean w g l
  unfolding mean
  mean_mono f g [] h = ⊑_refl _
  mean_mono f g (e ∷ l) h = ⊕_mono _ _ _ _ (weigh_mono (w e) (f e) (g e) (h e)) (mean_mono f g l h)

  pub sum_times : (k : ℕ) (l : List E) → sum (λ e. w e * k) l ≡ sum w l * k
  unfolding sum
  sum_times k [] = omega arith
  sum_times k (e ∷ l) = rw (sum_times k l) (omega arith)
