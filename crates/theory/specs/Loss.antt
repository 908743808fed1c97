-- "How much an override loses", by recursion: what demand 3's proof rests on, and what Override of `theorems` states.
use Rattle.std.specs.Prelude.{List, [], ◌∷◌, ℕ, zero, suc, ◌+◌, ◌*◌, ◌-ℤ◌}
use Rattle.whole.specs.Int.{up}
use Rattle.theory.specs.Total.{Total, num, none}
use Rattle.theory.specs.Process.{Process, total, optimum, Policy}

-- by how much a exceeds b, 0 if it does not or either is none
unfoldable pub excess : Total → Total → ℕ
excess none b = 0
excess (num a) none = 0
excess (num a) (num b) = up (a -ℤ b)

-- the sum of what w gives
unfoldable pub sum : {E : Type 0} → (E → ℕ) → List E → ℕ
sum w [] = 0
sum w (e ∷ l) = w e + sum w l

module _ {S A E : Type 0} (P : Process S A E) where
  -- "what its action falls short of the best there", h + 1 steps left: V less its total with V after it, whatever a policy does later
  unfoldable pub shortfall : ℕ → S → A → ℕ
  shortfall h s a = excess (optimum P (suc h) s) (total P (optimum P h) h a s)

  -- "the expected sum, over the steps": here, and from each next state by its setting's weight, 0 times anything being nothing
  unfoldable pub loss : Policy P → ℕ → S → ℕ
  loss π zero s = 0
  loss π (suc h) s = let a = π.choice (suc h) s in
      shortfall h s a + sum (λ e. P.weight a s e * loss π h (P.next a s e)) P.settings
