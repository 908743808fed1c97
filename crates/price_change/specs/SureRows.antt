-- "What a refusal gives", of the call that says whether an action is sure: each number with when it is given, and each answer.
use Rattle.std.specs.Prelude.{true, false, ◌≡◌, ◌↔◌, List, ℕ, ◌-◌, ℤ, pos, ◌≤ℤ◌}
use Rattle.whole.specs.Int.{up}
use Rattle.theory.specs.Process.{lowest_best}
use Rattle.theory.specs.Meaning.{process}
use Rattle.theory.specs.Load.{site_at, model}
use Rattle.theory.specs.Value.{Asked}
use Rattle.theory.specs.Staying.{Stays}
use Rattle.theory.specs.Rows.{Admitted, EarlyRow, StateFits, Accepts, asked_state}
use Rattle.price_change.specs.Sure.{margin, SureOut, refused_sure, said, sure_of}
use Rattle.price_change.specs.Prices.{Clear}

module _ (B : List ℕ) (steps : ℕ) (q : Asked) (e : ℤ) where
  -- no early row, and neither 13 nor 23
  pub record Asks : Type 0 where
    pub early : Admitted B steps 8
    pub state : Accepts B steps q
    pub least : pos 0 ≤ℤ e

  -- the lowest of the best actions is clear by more than 2 × h × e
  abbrev pub IsSure : Asks → Type 0
  IsSure k = let s = asked_state B steps q k.state in
      Clear (process (model B)) (margin (model B) steps s (up e)) (steps - 1) s (lowest_best (process (model B)) steps s)

  pub data SureRow : SureOut → Type 0 where
    -- no number leaves its limits, and it is sure, or not
    sure_1 : (k : Asks) → Stays (model B) steps (asked_state B steps q k.state) → IsSure k → SureRow (said true)
    sure_0 : (k : Asks) → Stays (model B) steps (asked_state B steps q k.state) → (IsSure k → ⊥) → SureRow (said false)
    sure_1_10 : {k p : ℕ} → EarlyRow B steps 8 k p → SureRow (refused_sure k p)
    -- "13: D < 1, mask bit n or above, nonzero numerator beyond m"
    sure_13 : Admitted B steps 8 → (StateFits (site_at B).levels (site_at B).conditions q → ⊥) → SureRow (refused_sure 13 0)
    -- "e below zero with 23, after 13"
    sure_23 : Admitted B steps 8 → Accepts B steps q → (pos 0 ≤ℤ e → ⊥) → SureRow (refused_sure 23 0)
    -- 11 as plain working gives it
    sure_11 : (k : Asks) → (Stays (model B) steps (asked_state B steps q k.state) → ⊥) → SureRow (refused_sure 11 0)

-- every outcome is one row, and a row is the outcome
abbrev pub SureRows : Type 0
SureRows = (B : List ℕ) (steps : ℕ) (q : Asked) (e : ℤ) (o : SureOut) → SureRow B steps q e o ↔ (sure_of B steps q e ≡ o)
