-- "Stage h, for each action in turn": the operations of a stage, and of all stages up to a horizon.
use Rattle.std.specs.Prelude.{List, [], ◌∷◌, ◌++◌, ℕ, zero, suc}
use Rattle.theory.specs.Diagram.{Tree}
use Rattle.theory.specs.Computation.{make, Moment, Ops, end, operation, and_then}
use Rattle.theory.specs.Rules.{best, zero_leaf, substitute, expectation, add_reward}
use Rattle.theory.specs.Meaning.{Action, Model, power}

-- the diagrams of an action
abbrev pub action_diagrams : Action → List Tree
action_diagrams x = x.reward ∷ (x.chances ++ x.levels)

-- those of some actions
unfoldable pub all_diagrams : List Action → List Tree
all_diagrams [] = []
all_diagrams (x ∷ l) = action_diagrams x ++ all_diagrams l

-- the diagrams of the model, always needed
unfoldable pub model_diagrams : Model → List Tree
model_diagrams M = all_diagrams (M.first ∷ M.others)

-- an operation of action a in stage h
abbrev pub moment : ℕ → ℕ → Moment
moment h a = record { stage = h; action = a }

-- "for each condition in order, w × the yes side + (W − w) × the no side": condition k on; `kept` is needed besides the last result F
unfoldable pub sum_out : ℕ → Moment → List Tree → ℕ → List Tree → Tree → Ops Tree
sum_out W h kept k [] F = end F
sum_out W h kept k (w ∷ ws) F = operation h (F ∷ kept) (expectation W w k F) (sum_out W h kept (suc k) ws)

-- an action's total in stage h over stage h − 1, P: "substitute in stage h−1 as it stands ..; for each condition in order ..; add W^(n×h) × reward and number the leaves with the action"
unfoldable pub action_total : Model → ℕ → List Tree → Tree → ℕ → Action → Ops Tree
action_total M h kept P a x =
    operation (moment h a) kept (substitute x.levels P)
    (λ F. and_then (sum_out M.weights (moment h a) kept 1 x.chances F)
    (λ G. operation (moment h a) (G ∷ kept) (add_reward (power M h) x.reward a G) end))

-- "best (F the best so far, G this; for action 1 it is this alone)": the actions from a on
unfoldable pub best_on : Model → ℕ → List Tree → Tree → ℕ → List Action → Tree → Ops Tree
best_on M h kept P a [] F = end F
best_on M h kept P a (x ∷ l) F =
    and_then (action_total M h (F ∷ kept) P a x)
    (λ G. operation (moment h a) (G ∷ F ∷ kept) (best F G)
    (best_on M h kept P (suc a) l))

-- one stage: action 1 alone, then the others
unfoldable pub stage_over : Model → ℕ → List Tree → Tree → Ops Tree
stage_over M h kept P = and_then (action_total M h kept P 1 M.first) (best_on M h kept P 2 M.others)

-- the next k stages, from stage h on, over stage h − 1, P; `finished` are the stages up to it, which stay needed
unfoldable pub stages_on : Model → ℕ → ℕ → List Tree → Tree → Ops (List Tree)
stages_on M zero h finished P = end []
stages_on M (suc k) h finished P =
    and_then (stage_over M h (finished ++ model_diagrams M) P)
    (λ S. and_then (stages_on M k (suc h) (S ∷ finished) S) (λ l. end (S ∷ l)))

-- over stage 0: the end worth, which is there since loading, or "a leaf 0, finished as stage 1 begins"
unfoldable pub stages_over_end : Model → ℕ → List Tree → Ops (List Tree)
stages_over_end M H [] = operation (moment 1 1) (model_diagrams M) (make zero_leaf) (λ Z. stages_on M H 1 (Z ∷ []) Z)
stages_over_end M H (E ∷ l) = stages_on M H 1 (E ∷ []) E

-- stages 1 to H, the first first
unfoldable pub all_stages : Model → ℕ → Ops (List Tree)
all_stages M H = stages_over_end M H M.end
