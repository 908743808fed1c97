-- What is claimed of two sites together, as types: each is proved in proofs/laws/Statements.
use Rattle.std.specs.Prelude.{◌≡◌, ◌↔◌, ◌⊎◌, Bool, List, ℕ, suc, ◌*◌, ◌^◌, ◌≤◌}
use Rattle.theory.specs.Total.{none, Has, ◌⊑◌, ◌⊏◌}
use Rattle.theory.specs.Loss.{sum}
use Rattle.theory.specs.Process.{Process, Policy, Action, total, optimum, lowest_best, expected, Sound}
use Rattle.theory.specs.Meaning.{State, power}
use Rattle.theory.specs.Verdict.{verdict}
use Rattle.theory.specs.Load.{model, site_at}
use Rattle.theory.specs.Value.{Asked}
use Rattle.theorems.specs.Demands.{Solving, left, Accepted, start, site}
use Rattle.value_joined.specs.Joined.{joined_site}
use Rattle.value_joined.specs.Total.{TotalOut, answered_total, total_of}

-- two solved models with their tables, 1 to both horizons steps left, a state of each, "the same W, D"
pub record Asking : Type 0 where
  pub one : Solving
  pub two : Solving
  pub steps : ℕ
  pub some : 1 ≤ steps
  pub in_one : steps ≤ one.horizon
  pub in_two : steps ≤ two.horizon
  pub at_one : Asked
  pub at_two : Asked
  pub accepts_one : Accepted one at_one
  pub accepts_two : Accepted two at_two
  pub weights : (site_at one.bytes).weights ≡ (site_at two.bytes).weights
  pub den : at_one.den ≡ at_two.den

module _ (g : Asking) where
  -- what the planner gives
  abbrev pub answer : TotalOut
  answer = let a = left g.one in let b = left g.two in
      total_of g.one.bytes a.nodes a.stages g.at_one g.two.bytes b.nodes b.stages g.at_two g.steps

  -- the joined site, and the state that is asked for
  abbrev pub both : Process (State × State) (ℕ × ℕ) (List Bool × List Bool)
  both = joined_site (model g.one.bytes) (model g.two.bytes)

  abbrev pub begins : State × State
  begins = (start g.one g.at_one g.accepts_one, start g.two g.at_two g.accepts_two)

  -- "The pair of lowest best actions"
  abbrev pub best_pair : ℕ × ℕ
  best_pair = (lowest_best (site g.one) g.steps begins.0, lowest_best (site g.two) g.steps begins.1)

-- "this is the best expected total of the joined site": its numerator with the pair of lowest best actions; none, with both actions 0; or 11, where it lies outside two words
abbrev pub BestTotal : Type 0
BestTotal = (g : Asking) → answer g ≡ answered_total (optimum (both g) g.steps (begins g)) (best_pair g).0 (best_pair g).1

-- "The pair of lowest best actions is best for it": it is one of its actions, and its total is the best
abbrev pub BestPair : Type 0
BestPair = (g : Asking) (h : ℕ) → g.steps ≡ suc h
    → Action (both g) (best_pair g) × (total (both g) (optimum (both g) h) h (best_pair g) (begins g) ≡ optimum (both g) g.steps (begins g))

-- ""none" on either side is none": the joined site has no total exactly where one of the sites has none
abbrev pub NoneOfEither : Type 0
NoneOfEither = (g : Asking)
    → (optimum (both g) g.steps (begins g) ≡ none) ↔ ((optimum (site g.one) g.steps (begins g).0 ≡ none) ⊎ (optimum (site g.two) g.steps (begins g).1 ≡ none))

-- "best": no policy of the joined site expects more, and one that never picks a bettered pair expects it; any other has less, or no total
abbrev pub OfAllPolicies : Type 0
OfAllPolicies = (g : Asking) (π : Policy (both g)) → let best = optimum (both g) g.steps (begins g) in let own = expected (both g) π g.steps (begins g) in
    (own ⊑ best) × (Has best → ((own ≡ best) ↔ Sound (both g) π g.steps (begins g)) × ((Sound (both g) π g.steps (begins g) → ⊥) → own ⊏ best))

-- "whose conditions are drawn independently": the weights of all pairs of settings sum to Wⁿ¹ × Wⁿ², what a total with one step more is compared at
abbrev pub PairsSum : Type 0
PairsSum = (B C : List ℕ) → (verdict B).number ≡ 0 → (verdict C).number ≡ 0 → let J = joined_site (model B) (model C) in
    (a : ℕ × ℕ) → Action J a → (s : State × State)
    → sum (J.weight a s) J.settings ≡ (model B).weights ^ (model B).conditions * (model C).weights ^ (model C).conditions
