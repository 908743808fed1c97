-- Two sites that differ in their rewards only, and what it is for an action to be best by more than a margin.
use Rattle.std.specs.Prelude.{◌≡◌, ◌⊎◌, Bool, List, [], map, ℕ, suc, ◌*◌, pos, length}
use Rattle.theory.specs.Total.{Total, num, ◌⊑◌, Has, ◌⊕◌}
use Rattle.theory.specs.Process.{Process, Action, total, optimum}
use Rattle.theory.specs.Loss.{sum}
use Rattle.theory.specs.Meaning.{Model, State, action_at, env, worth_at, level_at, end_at, chance_at}

-- at most d apart, or both none
abbrev pub Near : ℕ → Total → Total → Type 0
Near d x y = (x ⊑ (y ⊕ num (pos d))) × (y ⊑ (x ⊕ num (pos d)))

-- ---- processes

module _ {S A E : Type 0} (P : Process S A E) where
  -- the weights of every action and state sum to w
  abbrev pub Even : ℕ → Type 0
  Even w = (a : A) (s : S) → Action P a → sum (P.weight a s) P.settings ≡ w

  -- what no move changes
  abbrev pub Kept : (S → ℕ) → Type 0
  Kept unit = (a : A) (s : S) (e : E) → unit (P.next a s e) ≡ unit s

  -- a has a total, h + 1 steps left, and it "exceeds that of every other action that has one by more than" d
  pub record Clear (d h : ℕ) (s : S) (a : A) : Type 0 where
    pub has : Has (total P (optimum P h) h a s)
    pub apart : (b : A) → Action P b → (b ≡ a) ⊎ ((total P (optimum P h) h b s ⊕ num (pos (suc d))) ⊑ total P (optimum P h) h a s)

-- what totals are compared at grows w-fold with each step left
abbrev pub Scale : ℕ → (ℕ → ℕ) → Type 0
Scale w scale = (h : ℕ) → scale (suc h) ≡ w * scale h

-- "the same chances, next levels, end worth": two processes that differ in their rewards only
pub record AlikeButRewards {S A E : Type 0} (P Q : Process S A E) : Type 0 where
  pub same_first : P.first ≡ Q.first
  pub same_others : P.others ≡ Q.others
  pub same_settings : P.settings ≡ Q.settings
  pub same_weight : (a : A) (s : S) (e : E) → P.weight a s e ≡ Q.weight a s e
  pub same_next : (a : A) (s : S) (e : E) → P.next a s e ≡ Q.next a s e
  pub same_end : (s : S) → P.end s ≡ Q.end s

-- .. "and forbidden leaves, and rewards that differ nowhere by more than e": the unit is D × e, the scale W^(n×h)
pub record Repriced {S A E : Type 0} (P Q : Process S A E) (w : ℕ) (scale : ℕ → ℕ) (unit : S → ℕ) : Type 0 where
  pub alike : AlikeButRewards P Q
  pub even : Even P w
  pub scaled : Scale w scale
  pub kept : Kept P unit
  pub near : (h : ℕ) (a : A) (s : S) → Action P a → Near (unit s * scale (suc h)) (P.reward h a s) (Q.reward h a s)

-- ---- models

-- "any model with the same chances, next levels, end worth and forbidden leaves, and rewards that differ nowhere by more than e": at every state, of every action; nothing is asked of the other one's limits
pub record NearModels (M N : Model) (e : ℕ) : Type 0 where
  pub conditions : M.conditions ≡ N.conditions
  pub weights : M.weights ≡ N.weights
  pub actions : length M.others ≡ length N.others
  pub chances : (a : ℕ) (s : State) → map (chance_at (env s [])) (action_at M a).chances ≡ map (chance_at (env s [])) (action_at N a).chances
  pub levels : (a : ℕ) (s : State) (r : List Bool) → map (level_at (env s r)) (action_at M a).levels ≡ map (level_at (env s r)) (action_at N a).levels
  pub end : (s : State) → end_at (env s []) M.end ≡ end_at (env s []) N.end
  pub rewards : (a : ℕ) (s : State) → Near (s.den * e) (worth_at (env s []) (action_at M a).reward) (worth_at (env s []) (action_at N a).reward)
