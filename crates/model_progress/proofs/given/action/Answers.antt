-- `model_progress::given::action` meets its contract.
use mathlib.Core.Path.{◌≡◌, sym, ap, ◌∙◌}
use mathlib.Core.Bool.{Bool, true, false}
use Prim.Native.Nat.{ℕ}
use lib.ListN.{get_or}
use Rattle.model_progress.specs.GivenFlags.{action_given}
use Rattle.model_progress.proofs.given.action.Goals.{then-has, else-has}
use Rattle.model_progress.proofs.given.action.Goals as goal

no_both : {A : Type 0} {b : Bool} → b ≡ true → b ≡ false → A
no_both e f = let z : true ≡ false = sym e ∙ f in absurd (cc)

pub returns-then-row : goal.returns-then-row
unfolding action_given
returns-then-row c = let h = sym (c.has.ensures ∙ ap (λ (k : ℕ). get_or c.args.flags.now k false) c.place.ensures) in
    elim c.if-has.branch [
      | then-has w ↦ rw (h ∙ w.if-has.true, sym w.row.ensures ∙ sym w.value-is ∙ c.if-row.true) c.row-then-row.ensures
      | else-has w ↦ no_both c.if-row.true (w.value-is ∙ w.if-has.false)
    ]

pub returns-else-row : goal.returns-else-row
unfolding action_given
returns-else-row c = let h = sym (c.has.ensures ∙ ap (λ (k : ℕ). get_or c.args.flags.now k false) c.place.ensures) in
    elim c.if-has.branch [
      | then-has w ↦ rw (h ∙ w.if-has.true, sym w.row.ensures ∙ sym w.value-is ∙ c.if-row.false) c.if-row.false
      | else-has w ↦ rw (h ∙ w.if-has.false) (w.value-is ∙ w.if-has.false)
    ]
