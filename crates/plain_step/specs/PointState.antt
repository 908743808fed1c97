-- A point stands for a state of an accepted model; the chances, weights and next states there.
use Rattle.std.specs.Prelude.{◌≡◌, Bool, true, false, List, [], map, ℕ, ◌≤◌, ◌<◌, leb, pos, length, take, get_or, ℤ, Option, Some, None}
use Rattle.whole.specs.Cases.{if}
use Rattle.whole.specs.Within.{limit}
use Rattle.theory.specs.Widths.{conditions_most}
use Rattle.theory.specs.Meaning.{Action, State, env, level_at, chance_at, weight, moved}
use Rattle.theory.specs.Valid.{all}
use Rattle.theory.specs.Verdict.{Site, verdict, chance_slot, level_slot}
use Rattle.theory.specs.Load.{find_slot, action_of, site_at}
use Rattle.theory.specs.Value.{bits}
use Rattle.theory.specs.Plain.{in_32_bits}
use Rattle.theory.specs.Load.{loaded_entries}
use Rattle.plain_pass.specs.declared.Point.{Point}
use Rattle.plain_pass.specs.Pass.{nums_of, den_of, FlatPoint, StateStands}
use Rattle.plain_limits.specs.Totals.{judged_32}

-- ---- points and states

-- an accepted model, of a length that its offsets can have
pub record ModelReady (B : List ℕ) : Type 0 where
  pub accepted : (verdict B).number ≡ 0
  pub short : length B < 4294967296

-- a state of a site's levels and conditions, as a point has it
pub record Spells (S : Site) (x : Point) (s : State) : Type 0 where
  pub conditions_are : s.conditions ≡ bits S.conditions x.mask
  pub nums_are : s.nums ≡ take S.levels (nums_of x)
  pub den_is : pos s.den ≡ den_of x

-- beyond a site's levels the numerators are 0
pub record FitsSite (S : Site) (x : Point) : Type 0 where
  pub flat : FlatPoint x
  pub few : x.levels ≤ S.levels

-- a point with no setting that spells some state
pub record StandingPoint (B : List ℕ) (x : Point) : Type 0 where
  pub ready : ModelReady B
  pub alone : x.setting ≡ 0
  pub fits : FitsSite (site_at B) x
  pub state : State
  pub spells : Spells (site_at B) x state

-- a is an action of the site
abbrev pub SiteAction : List ℕ → ℕ → Type 0
SiteAction B a = (1 ≤ a) × (a ≤ (site_at B).actions)

-- the action that the model's bytes give
abbrev pub act : List ℕ → ℕ → Action
act B a = action_of (site_at B) (loaded_entries B) a

abbrev pub under : Point → ℕ → Point
under x r = record { mask = x.mask; setting = r; n = x.n; levels = x.levels }

-- ---- chances and weights

-- the chance of condition k, 0 beyond condition n
pub record Chance (B : List ℕ) (a k : ℕ) (x : Point) (w : ℕ) : Type 0 where
  pub bounded : w ≤ (site_at B).weights
  pub is : (s : State) → Spells (site_at B) x s → w ≡ if (leb k (site_at B).conditions) (chance_at (env s []) (find_slot (chance_slot a k) (loaded_entries B))) 0

-- a chance for each condition that a site can have, none above W
pub record OutOf (W : ℕ) (c : List ℕ) : Type 0 where
  pub long : length c ≡ conditions_most
  pub each : (k : ℕ) → k < conditions_most → get_or c k 0 ≤ W

pub record ChancesAre (B : List ℕ) (a : ℕ) (x : Point) (c : List ℕ) : Type 0 where
  pub bounded : OutOf (site_at B).weights c
  pub are : (s : State) → Spells (site_at B) x s → map (chance_at (env s [])) (act B a).chances ≡ take (site_at B).conditions c

pub record Weighs (S : Site) (c : List ℕ) (r w : ℕ) : Type 0 where
  pub is : w ≡ weight S.weights (take S.conditions c) (bits S.conditions r)
  pub bounded : w ≤ limit

-- ---- next states

-- next level i
pub record LevelIs (B : List ℕ) (a i : ℕ) (x : Point) (z : Option ℤ) : Type 0 where
  pub is : (s : State) (r : List Bool) → StateStands (site_at B).levels (site_at B).conditions x s r
      → z ≡ judged_32 (level_at (env s r) (find_slot (level_slot a i) (loaded_entries B)))

-- the state after action a, with the setting that a mask spells
abbrev pub after : List ℕ → ℕ → State → ℕ → State
after B a s r = moved s (act B a).levels (bits (site_at B).conditions r)

pub record Reaches (S : Site) (t : State) (y : Point) : Type 0 where
  pub fits : all in_32_bits t.nums ≡ true
  pub alone : y.setting ≡ 0
  pub point_fits : FitsSite S y
  pub spells : Spells S y t

-- the next state, or some numerator of it leaves 32 bits
pub record Led (S : Site) (t : State) (y : Option Point) : Type 0 where
  pub at : (p : Point) → y ≡ Some p → Reaches S t p
  pub over : y ≡ None → all in_32_bits t.nums ≡ false

pub record LeadsTo (B : List ℕ) (a : ℕ) (x : Point) (r : ℕ) (y : Option Point) : Type 0 where
  pub leads : (s : State) → Spells (site_at B) x s → Led (site_at B) (after B a s r) y
