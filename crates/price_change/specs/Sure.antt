-- "Does a price change matter?": whether the plan's action is sure at a state, as one function of its inputs.
use Rattle.std.specs.Prelude.{Bool, true, false, List, ℕ, suc, ◌-◌, ◌*◌, eqb, ℤ, pos, ◌+ℤ◌, length}
use Rattle.std.specs.Int.Signed.{le_z}
use Rattle.whole.specs.Cases.{if}
use Rattle.whole.specs.Int.{up}
use Rattle.theory.specs.Widths.{steps_most}
use Rattle.theory.specs.Meaning.{Model, State, action_at, power}
use Rattle.theory.specs.Valid.{all}
use Rattle.theory.specs.Verdict.{or, from_to}
use Rattle.theory.specs.Load.{site_at, model}
use Rattle.theory.specs.Solve.{early}
use Rattle.theory.specs.Value.{Asked, accepted, state_of}
use Rattle.theory.specs.Plain.{Worth, is, nothing, over, action_worth, state_worth, if_true}

-- "2 × h × e", times D × W^(n×h) as worths are
unfoldable pub margin : Model → ℕ → State → ℕ → ℕ
margin M h s e = 2 * h * e * (s.den * power M h)

-- "the planner works the state plainly": what action a comes to, h steps left
unfoldable pub worth_of : Model → ℕ → State → ℕ → Worth
worth_of M h s a = action_worth M h (state_worth M (h - 1)) (action_at M a) s

-- v "exceeds that of every other action that has one by more than" d, in whole numbers by d + 1 or more: one that has none is not compared
unfoldable pub exceeds : ℕ → ℤ → Worth → Bool
exceeds d v (is u _) = le_z (u +ℤ pos (suc d)) v
exceeds d v nothing = true
exceeds d v over = false

-- "the plan's action is sure": action a, whose worth is v, against every other one
unfoldable pub leads : Model → ℕ → State → ℕ → ℤ → ℕ → Bool
leads M h s d v a = all (λ b. or (eqb b a) (exceeds d v (worth_of M h s b))) (from_to 1 (suc (length M.others)))

-- ---- the outcome

-- sure is 1 or 0
pub record SureOut : Type 0 where
  pub number : ℕ
  pub place : ℕ
  pub sure : ℕ

abbrev pub refused_sure : ℕ → ℕ → SureOut
refused_sure k p = record { number = k; place = p; sure = 0 }

abbrev pub said : Bool → SureOut
said b = record { number = 0; place = 0; sure = if b 1 0 }

-- "a "none" state reads as not sure"; 11 as plain working gives it
unfoldable pub sure_out : (ℤ → ℕ → Bool) → Worth → SureOut
sure_out test (is v a) = said (test v a)
sure_out test nothing = said false
sure_out test over = refused_sure 11 0

-- "Given a signed 32-bit e, zero or more, and a state"
unfoldable pub sure_at : Model → ℕ → State → ℕ → SureOut
sure_at M h s e = sure_out (leads M h s (margin M h s e)) (state_worth M h s)

-- "It refuses e below zero with 23, after 13"
unfoldable pub sure_of : List ℕ → ℕ → Asked → ℤ → SureOut
sure_of B steps q e =
    let v = early B steps steps_most in
    let S = site_at B in
    if (eqb v.number 0)
    (if_true (accepted S.levels S.conditions q)
    (λ t. if (le_z (pos 0) e) (sure_at (model B) steps (state_of S.levels S.conditions q t) (up e)) (refused_sure 23 0)) (refused_sure 13 0))
    (refused_sure v.number v.place)
