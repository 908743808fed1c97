-- Where plain working stays within its limits: "It gives 11 when a next state's numerator (also with no step left) leaves 32 bits,
-- or when W^(n×h), a reward, W^(n×h) × reward, weight × worth or a running sum (all but the first times D; reward first,
-- then settings, condition 1 fastest, no before yes) leaves ±(2⁶² − 1)." From K8 on it "leaves an action at its first forbidden reward or none".
use Rattle.std.specs.Prelude.{Bool, ℕ, zero, suc, ◌^◌, ◌≤◌, ◌<◌, ℤ, pos, neg_ℤ, nat_abs, ◌+ℤ◌, ◌*ℤ◌, ◌≤ℤ◌, ◌<ℤ◌}
use mathlib.Core.List.{List, [], ◌∷◌, map, Memᴰ}
use Rattle.theory.specs.Total.{Total, OfNumber, weigh}
use Rattle.theory.specs.Process.{optimum}
use Rattle.theory.specs.Meaning.{Action, Model, State, env, worth_at, end_at, chance_at, weight, settings, moved, power, process}

-- a signed number of 32 bits
abbrev pub In32 : ℤ → Type 0
In32 z = (neg_ℤ (pos (2 ^ 31)) ≤ℤ z) × (z <ℤ pos (2 ^ 31))

-- a number within ±(2⁶² − 1)
abbrev pub In62 : ℤ → Type 0
In62 z = nat_abs z < 2 ^ 62

-- the settings that are left, on a running sum, over next states that are `ok` and have a worth; those of weight 0 are skipped
abbrev pub SumStays : (State → Type 0) → (State → Total) → (List Bool → ℕ) → (List Bool → State) → List (List Bool) → ℤ → Type 0
SumStays ok worth w next [] sum = Unit {0}
SumStays ok worth w next (r ∷ l) sum =
    (1 ≤ w r → ((z : ℤ) → Memᴰ z (next r).nums → In32 z) × ok (next r))
    × OfNumber (weigh (w r) (worth (next r))) (λ v. (1 ≤ w r → In62 v × In62 (sum +ℤ v)) × SumStays ok worth w next l (sum +ℤ v))

module _ (M : Model) where
  -- an action with h steps left, whose reward is z
  abbrev pub RewardStays : (State → Type 0) → (State → Total) → ℕ → State → Action → ℤ → Type 0
  RewardStays ok worth h s x z = In62 z × (In62 (pos (power M h) *ℤ z)
      × SumStays ok worth (weight M.weights (map (chance_at (env s [])) x.chances)) (moved s x.levels) (settings M.conditions) (pos (power M h) *ℤ z))

  -- an action: "judges W^(n×h) first"
  abbrev pub ActionStays : (State → Type 0) → (State → Total) → ℕ → State → Action → Type 0
  ActionStays ok worth h s x = In62 (pos (power M h)) × OfNumber (worth_at (env s []) x.reward) (RewardStays ok worth h s x)

  -- a state: each action; the worth of a next state is its best expected total; "an end worth times D beyond ±(2⁶² − 1) is 11"
  abbrev pub Stays : ℕ → State → Type 0
  Stays zero s = In62 (end_at (env s []) M.end)
  Stays (suc h) s = (x : Action) → Memᴰ x (M.first ∷ M.others) → ActionStays (Stays h) (optimum (process M) h) (suc h) s x
