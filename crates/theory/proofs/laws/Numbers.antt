-- A model's own refusals have numbers up to 8.
use Rattle.std.proofs.Common.{⊎_elim, arith}
use Rattle.std.specs.Prelude.{Bool, true, false, List, ℕ, ◌≤◌}
use Rattle.theory.specs.Form.{Form}
use Rattle.theory.specs.Command.{Command, site, push_leaf, push_condition, push_test, push_forbidden, give, name_action, end_model, command_in, Slot}
use Rattle.theory.specs.Verdict.{Verdict, Site, Facts, Progress}
use Rattle.theory.specs.Rows.{Rules, none, asks, Breaks, first_asks_in, later_asks, asks_in, VerdictRowIn, verdict_0, verdict_3, verdict_2, verdict_2_end, verdict_1_7, verdict_8}

-- each rule's number is 7 at most
abbrev RulesBelow : Rules → Type 0
RulesBelow none = Unit {0}
RulesBelow (asks k P l) = (k ≤ 7) × RulesBelow l

breaks_most : (m : Rules) → RulesBelow m → (k : ℕ) → Breaks m k → k ≤ 7
breaks_most none b k d = absurd d
breaks_most (asks j P l) b k d = ⊎_elim (λ e. omega (arith, b.0, e.1)) (λ e. breaks_most l b.1 k e.1) d

first_below : (F : Form) (c : Command) → RulesBelow (first_asks_in F c)
first_below F (site m n a w) = (omega arith, (omega arith, (omega arith, (omega arith, tt))))
first_below F (push_leaf p) = (omega arith, tt)
first_below F (push_condition k) = (omega arith, tt)
first_below F (push_test p) = (omega arith, tt)
first_below F push_forbidden = (omega arith, tt)
first_below F (give g) = (omega arith, tt)
first_below F (name_action a b) = (omega arith, tt)
first_below F end_model = (omega arith, tt)

later_below : (S : Site) (K : List Facts) (G : List Slot) (c : Command) → RulesBelow (later_asks S K G c)
later_below S K G (site m n a w) = (omega arith, tt)
later_below S K G (push_leaf p) = (omega arith, (omega arith, tt))
later_below S K G (push_condition k) = (omega arith, (omega arith, tt))
later_below S K G (push_test p) = (omega arith, (omega arith, (omega arith, tt)))
later_below S K G push_forbidden = (omega arith, tt)
later_below S K G (give g) = (omega arith, (omega arith, (omega arith, (omega arith, tt))))
later_below S K G (name_action a b) = (omega arith, (omega arith, (omega arith, tt)))
later_below S K G end_model = (omega arith, (omega arith, tt))

below : (F : Form) (s : Progress) (c : Command) → RulesBelow (asks_in F s c)
below F s c = go s.begun
  where
    go : (b : Bool) → RulesBelow (elim b [ true ↦ later_asks s.site s.stack s.given c | false ↦ first_asks_in F c ])
    go true = later_below s.site s.stack s.given c
    go false = first_below F c

pub verdict_most : (F : Form) {B : List ℕ} {v : Verdict} → VerdictRowIn F B v → v.number ≤ 8
verdict_most F (verdict_0 d e) = omega arith
verdict_most F (verdict_3 m l e) = omega arith
verdict_most F (verdict_2 m l e f) = omega arith
verdict_most F (verdict_2_end m) = omega arith
verdict_most F {B} (verdict_1_7 {k = k} {at = at} {s = s} m w d) = omega (arith, breaks_most (asks_in F s (command_in F B at)) (below F s (command_in F B at)) k d)
verdict_most F (verdict_8 d l) = omega arith
