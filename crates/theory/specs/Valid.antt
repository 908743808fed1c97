-- What holds of the diagrams of an accepted model: "Coefficients beyond level m are zero .. Next-step conditions stand only in next levels. The leaves of a chance are constants 0 to W".
use Rattle.std.specs.Prelude.{Bool, true, false, ◌&&◌, List, [], ◌∷◌, ℕ, ◌-◌, eqb, leb, pos, length}
use Rattle.std.specs.Int.Signed.{le_z}
use Rattle.whole.specs.Within.{small}
use Rattle.theory.specs.Widths.{levels_most, conditions_most, actions_most, weights_most}
use Rattle.theory.specs.Diagram.{Linear, Test, now, later, linear, Leaf, some, forbidden, lin_of, act_of, permitted, Tree, leaf, branch, zeros}
use Rattle.theory.specs.Meaning.{Action, Model}

-- each of a list
unfoldable pub all : {A : Type 0} → (A → Bool) → List A → Bool
all p [] = true
all p (x ∷ l) = p x && all p l

-- each test and each leaf of a diagram
unfoldable pub all_nodes : (Test → Bool) → (Leaf → Bool) → Tree → Bool
all_nodes t? f? (leaf f) = f? f
all_nodes t? f? (branch t h l) = t? t && (all_nodes t? f? h && all_nodes t? f? l)

-- 1 to n
unfoldable pub among : ℕ → ℕ → Bool
among n k = leb 1 k && leb k n

-- all numbers within ±(2⁶² − 1)
unfoldable pub small_linear : Linear → Bool
small_linear p = all small p.coeffs && small p.const

-- as many coefficients as there are words for, and all numbers within the limits
unfoldable pub wide : Linear → Bool
wide p = eqb (length p.coeffs) levels_most && small_linear p

-- conditions among n; next_step ones where they are allowed
unfoldable pub good_test : ℕ → Bool → Test → Bool
good_test n next (now k) = among n k
good_test n next (later k) = next && among n k
good_test n next (linear p) = wide p

-- a leaf of a reward: wide and not numbered, or forbidden
unfoldable pub good_leaf : Leaf → Bool
good_leaf f = wide (lin_of f) && eqb (act_of f) 0

-- a leaf of a level or an end worth: forbidden is "allowed in rewards only, not in an end worth"
unfoldable pub level_leaf : Leaf → Bool
level_leaf f = permitted f && good_leaf f

-- a leaf of a stage: numbered with one of A actions, or none
unfoldable pub stage_leaf : ℕ → Leaf → Bool
stage_leaf A (some p a) = wide p && among A a
stage_leaf A forbidden = true

-- a constant 0 to W
unfoldable pub weight_leaf : ℕ → Leaf → Bool
weight_leaf W f = level_leaf f && (zeros (lin_of f).coeffs && (le_z (pos 0) (lin_of f).const && le_z (lin_of f).const (pos W)))

-- an action's diagrams: "Every reward, chance and next level is given"
unfoldable pub valid_action : ℕ → ℕ → ℕ → Action → Bool
valid_action m n W x =
    all_nodes (good_test n false) good_leaf x.reward
    && (eqb (length x.chances) n && (all (all_nodes (good_test n false) (weight_leaf W)) x.chances
    && (eqb (length x.levels) m && all (all_nodes (good_test n true) level_leaf) x.levels)))

-- a model: numbers of the site in range, each action valid, and an end worth "under the rules for a reward"
unfoldable pub valid : Model → Bool
valid M =
    among levels_most M.levels && (leb M.conditions conditions_most && (among weights_most M.weights
    && (leb (length M.others) (actions_most - 1) && (all (valid_action M.levels M.conditions M.weights) (M.first ∷ M.others)
    && all (all_nodes (good_test M.conditions false) level_leaf) M.end))))
