-- "The value that is meant", over any states, actions and settings: a finite-horizon decision process in whole numbers.
use mathlib.Core.List.{List, [], ◌∷◌, Memᴰ}
use Rattle.std.specs.Prelude.{◌≡◌, ℕ, zero, suc, ◌<◌, ℤ}
use Rattle.theory.specs.Total.{Total, num, none, ◌⊑◌, ◌⊕◌, mean, greatest_from, first_best}

-- states S, actions A, settings E; a reward is none where the action is not permitted; `reward` and `end` times what totals are compared at, with one step more left than `reward`'s first argument says
pub record Process (S A E : Type 0) : Type 0 where
  pub first : A
  pub others : List A
  pub settings : List E
  pub reward : ℕ → A → S → Total
  pub weight : A → S → E → ℕ
  pub next : A → S → E → S
  pub end : S → ℤ

module _ {S A E : Type 0} (P : Process S A E) where
  abbrev pub Action : A → Type 0
  Action a = Memᴰ a (P.first ∷ P.others)

  -- "reward at s plus the sum, over all settings of the next conditions, of the setting's weight × V_(h−1) of the next state", h + 1 steps left
  unfoldable pub total : (S → Total) → ℕ → A → S → Total
  total after h a s = P.reward h a s ⊕ mean (P.weight a s) (λ e. after (P.next a s e)) P.settings

  -- "V₀ is that diagram", `end`; "V_h(s) is the largest over the actions of" their totals
  unfoldable pub optimum : ℕ → S → Total
  optimum zero s = num (P.end s)
  optimum (suc h) s = greatest_from (λ a. total (optimum h) h a s) (total (optimum h) h P.first s) P.others

  -- the lowest of the actions that reach it: "A tie given to the later action" is a fault
  unfoldable pub lowest_best : ℕ → S → A
  lowest_best zero s = P.first
  lowest_best (suc h) s = first_best (λ a. total (optimum h) h a s) P.first P.others

  -- "A policy names an action for every number of steps left, mask and levels."
  pub record Policy : Type 0 where
    pub choice : ℕ → S → A
    pub allowed : (h : ℕ) (s : S) → Action (choice h s)

  -- "Its expected total at s is V₀ with no step left; with h left it is the expression above for its action there, its own totals for h − 1 steps standing for V_(h−1)."
  unfoldable pub expected : Policy → ℕ → S → Total
  expected π zero s = num (P.end s)
  expected π (suc h) s = total (expected π h) h (π.choice (suc h) s) s

  -- "It reaches its start and, from a state reached with a step left, each next state under its action whose setting's weight is above zero, with one step fewer."
  pub data Reached (π : Policy) (h : ℕ) (s : S) : ℕ → S → Type 0 where
    start : Reached π h s h s
    move : {g : ℕ} {r : S} (e : E) → Reached π h s (suc g) r → Memᴰ e P.settings
        → 0 < P.weight (π.choice (suc g) r) r e → Reached π h s g (P.next (π.choice (suc g) r) r e)

  -- it does not get "through its steps without a chance above zero of a forbidden action": it picks one at a state that it reaches with a step left
  pub record Stopped (π : Policy) (h : ℕ) (s : S) : Type 0 where
    pub left : ℕ
    pub state : S
    pub reached : Reached π h s (suc left) state
    pub forbidden : P.reward left (π.choice (suc left) state) state ≡ none

  -- "One action betters another at a state .. when its total in that maximum, with V_(h−1) after it whatever a policy does later, is higher"; "an action that has a total betters each that has none": none betters a
  abbrev pub Unbettered : ℕ → S → A → Type 0
  Unbettered h s a = (b : A) → Action b → total (optimum h) h b s ⊑ total (optimum h) h a s

  -- no bettered action is picked at a reached state with a step left
  abbrev pub Sound : Policy → ℕ → S → Type 0
  Sound π h s = (g : ℕ) (r : S) → Reached π h s (suc g) r → Unbettered g r (π.choice (suc g) r)
