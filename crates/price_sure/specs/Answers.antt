-- What the best worth and the largest of the others say, at a point that stands for a state.
use Rattle.std.specs.Prelude.{◌≡◌, false, List, ℕ, ◌*◌, ◌^◌, ◌≤◌}
use Rattle.theory.specs.Meaning.{State}
use Rattle.theory.specs.Load.{site_at, model}
use Rattle.theory.specs.Plain.{Worth, is, nothing, over}
use Rattle.plain_pass.specs.declared.Point.{Point}
use Rattle.plain_step.specs.PointState.{Spells}
use Rattle.price_change.specs.Sure.{SureOut, refused_sure, said, exceeds, sure_at}
use Rattle.price_sure.specs.declared.Said.{Said}

abbrev pub out : Said → SureOut
out r = record { number = r.number; place = r.place; sure = r.sure }

-- the best worth against the largest of the others, by more than d
unfoldable pub answer_of : ℕ → Worth → Worth → SureOut
answer_of d (is v a) other = said (exceeds d v other)
answer_of d nothing other = said false
answer_of d over other = refused_sure 11 0

-- d is the denominator of the state
pub record OverDen (B : List ℕ) (x : Point) (d : ℕ) : Type 0 where
  pub least : 1 ≤ d
  pub is : (s : State) → Spells (site_at B) x s → s.den ≡ d

-- and p is W^(n×h)
pub record Priced (B : List ℕ) (h : ℕ) (x : Point) (d p : ℕ) : Type 0 where
  pub den : OverDen B x d
  pub power : p ≡ (site_at B).weights ^ ((site_at B).conditions * h)

pub record SureAt (B : List ℕ) (h e : ℕ) (x : Point) (r : Said) : Type 0 where
  pub is : (s : State) → Spells (site_at B) x s → out r ≡ sure_at (model B) h s e
