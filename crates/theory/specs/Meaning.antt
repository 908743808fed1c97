-- "The value that is meant", of a model: states, what diagrams come to at them, and the model's process.
use Rattle.std.specs.Prelude.{Bool, true, false, List, [], ◌∷◌, map, ℕ, zero, suc, ◌+◌, ◌-◌, ◌*◌, ◌^◌, ◌<◌, ℤ, pos, ◌+ℤ◌, ◌*ℤ◌}
use Rattle.std.specs.Int.Signed.{le_z}
use Rattle.whole.specs.Cases.{if}
use Rattle.whole.specs.Int.{up}
use Rattle.theory.specs.Diagram.{Linear, Test, now, later, linear, Leaf, some, forbidden, lin_of, Tree, leaf, branch}
use Rattle.theory.specs.Total.{Total, num, none, weigh}
use Rattle.theory.specs.Process.{Process}

-- ---- models

-- one action: its reward, a chance for each condition, a next level for each level
pub record Action : Type 0 where
  pub reward : Tree
  pub chances : List Tree
  pub levels : List Tree

-- m, n and W of the site, its actions, and the end worth where one is given
pub record Model : Type 0 where
  pub levels : ℕ
  pub conditions : ℕ
  pub weights : ℕ
  pub first : Action
  pub others : List Action
  pub end : List Tree

-- the action k places after x
unfoldable pub nth_action : Action → List Action → ℕ → Action
nth_action x l zero = x
nth_action x [] (suc k) = x
nth_action x (y ∷ l) (suc k) = nth_action y l k

-- actions are numbered from 1
unfoldable pub action_at : Model → ℕ → Action
action_at M a = nth_action M.first M.others (a - 1)

-- the numbers from a on, one for each of a list
unfoldable pub numbers_from : {X : Type 0} → ℕ → List X → List ℕ
numbers_from a [] = []
numbers_from a (x ∷ l) = a ∷ numbers_from (suc a) l

-- ---- states

-- "numerators of any size over that D"; the conditions in order, the first first
pub record State : Type 0 where
  pub conditions : List Bool
  pub nums : List ℤ
  pub den : ℕ
  pub D>0 : 0 < den

-- what tests are judged by: this step's conditions, the next step's, and the levels
pub record Env : Type 0 where
  pub is_now : ℕ → Bool
  pub is_later : ℕ → Bool
  pub nums : List ℤ
  pub den : ℕ
  pub D>0 : 0 < den

-- condition k of a list, numbered from 1; no beyond it
unfoldable pub nth : List Bool → ℕ → Bool
nth [] k = false
nth (b ∷ l) zero = false
nth (b ∷ l) (suc k) = elim k [ zero ↦ b | suc j ↦ nth l (suc j) ]

-- a state, and a setting of the next conditions
unfoldable pub env : State → List Bool → Env
env s r = record { is_now = nth s.conditions; is_later = nth r; nums = s.nums; den = s.den; D>0 = s.D>0 }

-- ---- what a diagram comes to

-- the sum of coefficient × numerator
unfoldable pub dot : List ℤ → List ℤ → ℤ
dot [] xs = pos 0
dot (c ∷ cs) [] = pos 0
dot (c ∷ cs) (x ∷ xs) = (c *ℤ x) +ℤ dot cs xs

-- a linear times D
unfoldable pub value : Env → Linear → ℤ
value e p = dot p.coeffs e.nums +ℤ p.const *ℤ pos e.den

-- "High is taken when the condition is yes"; "high is taken when p ≤ 0"
unfoldable pub holds : Env → Test → Bool
holds e (now k) = e.is_now k
holds e (later k) = e.is_later k
holds e (linear p) = le_z (value e p) (pos 0)

-- the leaf that a state comes to
unfoldable pub at : Env → Tree → Leaf
at e (leaf f) = f
at e (branch t h l) = elim (holds e t) [ true ↦ at e h | false ↦ at e l ]

-- what a leaf comes to, times D: nothing where it is forbidden
unfoldable pub leaf_worth : Env → Leaf → Total
leaf_worth e (some p a) = num (value e p)
leaf_worth e forbidden = none

-- what a reward or a stage comes to, times D
unfoldable pub worth_at : Env → Tree → Total
worth_at e F = leaf_worth e (at e F)

-- what a level or an end worth comes to, times D: no leaf of them is forbidden
unfoldable pub level_at : Env → Tree → ℤ
level_at e F = value e (lin_of (at e F))

-- "V₀ is that diagram; without the command it is 0": times D
unfoldable pub end_at : Env → List Tree → ℤ
end_at e [] = pos 0
end_at e (F ∷ l) = level_at e F

-- ---- the process

-- each setting with one more condition before it, no before yes
unfoldable pub doubled : List (List Bool) → List (List Bool)
doubled [] = []
doubled (r ∷ l) = (false ∷ r) ∷ (true ∷ r) ∷ doubled l

-- all settings of k conditions, "condition 1 fastest, no before yes"
unfoldable pub settings : ℕ → List (List Bool)
settings zero = [] ∷ []
settings (suc k) = doubled (settings k)

-- the weight, out of W, that a condition is yes next
unfoldable pub chance_at : Env → Tree → ℕ
chance_at e C = up (lin_of (at e C)).const

-- "A setting's weight is the product over conditions of w or W − w"
unfoldable pub weight : ℕ → List ℕ → List Bool → ℕ
weight W [] r = 1
weight W (w ∷ ws) [] = 1
weight W (w ∷ ws) (b ∷ r) = if b w (W - w) * weight W ws r

-- the state after an action's next levels: "Next levels may read the next conditions"
unfoldable pub moved : State → List Tree → List Bool → State
moved s Ds r = record { conditions = r; nums = map (level_at (env s r)) Ds; den = s.den; D>0 = s.D>0 }

-- W^(n×h)
abbrev pub power : Model → ℕ → ℕ
power M h = M.weights ^ (M.conditions * h)

-- totals with h steps left are compared times D × W^(n×h); V₀ is the end worth
unfoldable pub process : Model → Process State ℕ (List Bool)
process M = record {
  first = 1;
  others = numbers_from 2 M.others;
  settings = settings M.conditions;
  reward = λ h a s. weigh (power M (suc h)) (worth_at (env s []) (action_at M a).reward);
  weight = λ a s r. weight M.weights (map (chance_at (env s [])) (action_at M a).chances) r;
  next = λ a s r. moved s (action_at M a).levels r;
  end = λ s. end_at (env s []) M.end;
}
