-- What an action earns, and the worths of states and actions, at a point that stands for a state.
use Rattle.std.specs.Prelude.{◌≡◌, List, [], ℕ, ◌-◌, ◌*◌, ◌^◌, pos, Option, Some, None, ℤ}
use Rattle.whole.specs.Within.{limited}
use Rattle.theory.specs.Total.{num, none}
use Rattle.theory.specs.Total.{Total as Reward}
use Rattle.theory.specs.Meaning.{State, env, worth_at, action_at}
use Rattle.theory.specs.Verdict.{reward_slot}
use Rattle.theory.specs.Load.{find_slot, site_at, model}
use Rattle.theory.specs.Plain.{Worth, nothing, over, state_worth, action_worth}
use Rattle.theory.specs.Load.{loaded_entries}
use Rattle.value_walk.specs.declared.Asked.{Asked}
use Rattle.plain_pass.specs.declared.Point.{Point}
use Rattle.plain_limits.specs.declared.Total.{Total}
use Rattle.plain_limits.specs.Totals.{total_of, times_of, summed}
use Rattle.plain_step.specs.PointState.{Spells}

-- the point that a state of m levels asked for stands at, with no setting
abbrev pub point_of : ℕ → Asked → Point
point_of m q = record { mask = q.mask; setting = 0; n = q.n; levels = m }

-- W^(n×h) × reward, each judged, "W^(n×h) first"; none where the reward is forbidden
unfoldable pub earned_of : Option ℤ → Reward → Worth
earned_of (Some p) (num z) = summed (times_of (Some p) (limited z))
earned_of (Some p) none = nothing
earned_of None (num z) = over
earned_of None none = over

pub record Earned (B : List ℕ) (h a : ℕ) (x : Point) (r : Total) : Type 0 where
  pub is : (s : State) → Spells (site_at B) x s
      → total_of r ≡ earned_of (limited (pos ((site_at B).weights ^ ((site_at B).conditions * h)))) (worth_at (env s []) (find_slot (reward_slot a) (loaded_entries B)))

-- the worth of the state with h steps left
pub record StateWorth (B : List ℕ) (h : ℕ) (x : Point) (r : Total) : Type 0 where
  pub is : (s : State) → Spells (site_at B) x s → total_of r ≡ state_worth (model B) h s

-- the worth of action a there
pub record ActionWorth (B : List ℕ) (h a : ℕ) (x : Point) (r : Total) : Type 0 where
  pub is : (s : State) → Spells (site_at B) x s → total_of r ≡ action_worth (model B) h (state_worth (model B) (h - 1)) (action_at (model B) a) s
