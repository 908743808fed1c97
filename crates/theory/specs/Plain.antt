-- "Plain working": a state worked from the model, without diagrams or tables, as one function of its inputs.
use Rattle.std.specs.Prelude.{Bool, true, false, ◌&&◌, List, [], ◌∷◌, map, ℕ, zero, suc, ◌+◌, ◌-◌, ◌*◌, T, eqb, ℤ, pos, negsuc, ◌+ℤ◌, ◌*ℤ◌}
use Rattle.std.specs.Int.Signed.{le_z}
use Rattle.whole.specs.Cases.{if}
use Rattle.whole.specs.Within.{small}
use Rattle.theory.specs.Widths.{steps_most}
use Rattle.theory.specs.Total.{num, none}
use Rattle.theory.specs.Meaning.{Action, Model, State, env, worth_at, end_at, chance_at, weight, settings, moved, power}
use Rattle.theory.specs.Valid.{all}
use Rattle.theory.specs.Load.{site_at, model}
use Rattle.theory.specs.Solve.{early}
use Rattle.theory.specs.Value.{Asked, accepted, state_of, ValueOut, refused_value, answered}

-- a worth and the action that has it, none, or a number that left its limits
pub data Worth : Type 0 where
  is : ℤ → ℕ → Worth
  nothing : Worth
  over : Worth

-- with a number within the limits, what follows
unfoldable pub judged : ℤ → Worth → Worth
judged z rest = if (small z) rest over

-- "a next state's numerator (also with no step left) leaves 32 bits"
unfoldable pub in_32_bits : ℤ → Bool
in_32_bits z = le_z (negsuc 2147483647) z && le_z z (pos 2147483647)

-- "then settings, condition 1 fastest, no before yes": the settings that are left, on a running sum; "those of weight 0 are skipped"; it "leaves an action at its first .. none"
unfoldable pub sum_settings : (State → Worth) → (List Bool → ℕ) → (List Bool → State) → List (List Bool) → ℤ → Worth
sum_settings worth w next [] sum = is sum 0
sum_settings worth w next (r ∷ l) sum = elim (eqb (w r) 0) [
  | true ↦ sum_settings worth w next l sum
  | false ↦ if (all in_32_bits (next r).nums) (elim (worth (next r)) [
    | is v a ↦ judged (pos (w r) *ℤ v) (judged (sum +ℤ pos (w r) *ℤ v) (sum_settings worth w next l (sum +ℤ pos (w r) *ℤ v)))
    | nothing ↦ nothing
    | over ↦ over
  ]) over
]

-- an action with h steps left whose reward is z: "W^(n×h) × reward" and the settings; `worth` is that of states with a step fewer
unfoldable pub rewarded : Model → ℕ → (State → Worth) → Action → State → ℤ → Worth
rewarded M h worth x s z = judged z (judged (pos (power M h) *ℤ z)
    (sum_settings worth (weight M.weights (map (chance_at (env s [])) x.chances)) (moved s x.levels) (settings M.conditions) (pos (power M h) *ℤ z)))

-- an action's worth: "judges W^(n×h) first, and leaves an action at its first forbidden reward"
unfoldable pub action_worth : Model → ℕ → (State → Worth) → Action → State → Worth
action_worth M h worth x s = judged (pos (power M h)) (elim (worth_at (env s []) x.reward) [ num z ↦ rewarded M h worth x s z | none ↦ nothing ])

-- a worth, numbered with the action that it is of
unfoldable pub numbered : ℕ → Worth → Worth
numbered a (is v _) = is v a
numbered a nothing = nothing
numbered a over = over

-- the better of the best so far and an action's worth, the earlier where they are equal
unfoldable pub better : ℤ → ℕ → ℕ → Worth → Worth
better v b a (is u _) = if (le_z u v) (is v b) (is u a)
better v b a nothing = is v b
better v b a over = over

-- each action from number a on, over the best so far: none loses to any worth
unfoldable pub try_actions : (Action → Worth) → ℕ → List Action → Worth → Worth
try_actions f a [] best = best
try_actions f a (x ∷ l) over = over
try_actions f a (x ∷ l) nothing = try_actions f (suc a) l (numbered a (f x))
try_actions f a (x ∷ l) (is v b) = try_actions f (suc a) l (better v b a (f x))

-- "the worth of a state tries each action": D × W^(n×h) × V_h; with no step left "an end worth times D beyond ±(2⁶² − 1) is 11"
unfoldable pub state_worth : Model → ℕ → State → Worth
state_worth M zero s = judged (end_at (env s []) M.end) (is (end_at (env s []) M.end) 0)
state_worth M (suc h) s =
    try_actions (λ x. action_worth M (suc h) (state_worth M h) x s) 2 M.others (numbered 1 (action_worth M (suc h) (state_worth M h) M.first s))

-- ---- the outcome

-- the answer, or 11 at place "0 .. in plain working"
unfoldable pub worth_out : Worth → ValueOut
worth_out (is v a) = answered (num v) a
worth_out nothing = answered none 0
worth_out over = refused_value 11 0

-- what follows from a test that holds, or else
unfoldable pub if_true : {A : Type 0} → (b : Bool) → (T b → A) → A → A
if_true true f x = f tt
if_true false f x = x

-- the order of refusals: 10, 9, the model's own, 13, then 11
unfoldable pub plain_of : List ℕ → ℕ → Asked → ValueOut
plain_of B steps q =
    let v = early B steps steps_most in
    let S = site_at B in
    if (eqb v.number 0)
    (if_true (accepted S.levels S.conditions q) (λ t. worth_out (state_worth (model B) steps (state_of S.levels S.conditions q t))) (refused_value 13 0))
    (refused_value v.number v.place)
