-- "Given both models, both tables, the same W, D and steps left, the planner gives both actions and the total's numerator": the outcome, as one function of its inputs.
use Rattle.std.specs.Prelude.{Bool, ◌&&◌, List, ℕ, ◌*◌, ◌^◌, eqb, ℤ, pos, ◌+ℤ◌, ◌*ℤ◌}
use Rattle.whole.specs.Cases.{if}
use Rattle.whole.specs.Linears.{eq_ℤ}
use Rattle.whole.specs.Numerator.{number, words}
use Rattle.whole.specs.declared.Numerator.{Numerator}
use Rattle.whole_wide.specs.Wide.{in_two_words}
use Rattle.theory.specs.Total.{Total, num, none}
use Rattle.theory.specs.Verdict.{Site, or}
use Rattle.theory.specs.Load.{site_at}
use Rattle.theory.specs.Value.{Asked, ValueOut, value_of}

-- number and place, "both actions and the total's numerator", held in two 64-bit words
pub record TotalOut : Type 0 where
  pub number : ℕ
  pub place : ℕ
  pub first : ℕ
  pub second : ℕ
  pub numerator : Numerator

-- "All else that a refused call returns is zero."
abbrev pub refused_total : ℕ → ℕ → TotalOut
refused_total k p = record { number = k; place = p; first = 0; second = 0; numerator = words (pos 0) }

-- ""none" on either side is none, with both actions 0"
abbrev pub no_total : TotalOut
no_total = refused_total 0 0

-- a total's numerator with the actions: "a numerator outside two words with 11, place 0"
unfoldable pub answered_number : ℤ → ℕ → ℕ → TotalOut
answered_number z a b = if (in_two_words z) (record { number = 0; place = 0; first = a; second = b; numerator = words z }) (refused_total 11 0)

unfoldable pub answered_total : Total → ℕ → ℕ → TotalOut
answered_total (num z) a b = answered_number z a b
answered_total none a b = no_total

-- "the total's numerator over D × W^((n₁+n₂)×h)", of two numerators over D × W^(n₁×h) and D × W^(n₂×h): each times the other's power
unfoldable pub crosswise : Site → Site → ℕ → ℤ → ℤ → ℤ
crosswise S R h x y = x *ℤ pos (S.weights ^ (R.conditions * h)) +ℤ y *ℤ pos (S.weights ^ (S.conditions * h))

-- what two values that were read come to; "None" reads as action 0, and no other value does
unfoldable pub both_read : Site → Site → ℕ → ValueOut → ValueOut → TotalOut
both_read S R h v w =
    if (or (eqb v.action 0) (eqb w.action 0)) no_total
    (answered_number (crosswise S R h (number v.numerator) (number w.numerator)) v.action w.action)

-- "It refuses unequal W or D with 26"
unfoldable pub same_scale : Site → Site → Asked → Asked → Bool
same_scale S R q r = eqb S.weights R.weights && eq_ℤ q.den r.den

-- "after both sides' own refusals (all of the first's, then the second's)"
unfoldable pub total_after : Site → Site → ℕ → Asked → Asked → ValueOut → ValueOut → TotalOut
total_after S R h q r v w =
    if (eqb v.number 0)
    (if (eqb w.number 0)
    (if (same_scale S R q r) (both_read S R h v w) (refused_total 26 0))
    (refused_total w.number w.place))
    (refused_total v.number v.place)

-- models B and C, their nodes and stages, the states q and r, h steps left
unfoldable pub total_of : List ℕ → List ℤ → List ℕ → Asked → List ℕ → List ℤ → List ℕ → Asked → ℕ → TotalOut
total_of B nodes stages q C nodes' stages' r h =
    total_after (site_at B) (site_at C) h q r (value_of B nodes stages h q) (value_of C nodes' stages' h r)
