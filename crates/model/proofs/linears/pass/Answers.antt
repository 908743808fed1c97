use mathlib.Core.Path.{◌≡◌, refl, sym, subst}
use mathlib.Core.Bool.{true}
use Prim.Native.Nat.{ℕ, ◌+◌}
use native.Mathlib.Omega.{arith}
use Rattle.model_form.specs.Forms.{form_of}
use mathlib.Core.List.{List}
use Rattle.std.specs.Prelude.{Option, Some}
use Rattle.theory.specs.Form.{Form}
use Rattle.model_facts.specs.declared.Seen.{Seen}
use Rattle.model_progress.specs.declared.Progress.{Progress}
use Rattle.model.specs.Walk.{Walk, PassesLinear}
use Rattle.model.proofs.linears.pass.Goals as goal

-- what a passed command gives
passed : (form : Form) (B : List ℕ) (at : ℕ) (s : Progress) {r : Option Seen} {t : Seen} → r ≡ Some t → PassesLinear form B at s r → PassesLinear form B at s (Some t)
passed form B at s e = subst (PassesLinear form B at s) e

pub loop-after-init : goal.loop-after-init
loop-after-init c = (omega arith, λ F w. w)

pub returns-in_default : goal.returns-in_default
returns-in_default c = c.loop-after.invariant

pub overflow_add-at : goal.overflow_add-at
overflow_add-at c = let on = passed (form_of c.args.form) c.args.model.now c.loop-after.at _ c.in-Some.is c.turn.ensures refl in
    omega (arith, on.0, c.linear_bytes.ensures.0, c.well_formed)

pub loop-after-smaller : goal.loop-after-smaller
loop-after-smaller c = let on = passed (form_of c.args.form) c.args.model.now c.loop-after.at _ c.in-Some.is c.turn.ensures refl in
    omega (arith, on.0, c.linear_bytes.ensures.0)

pub loop-after-preserved : goal.loop-after-preserved
loop-after-preserved c = let on = passed (form_of c.args.form) c.args.model.now c.loop-after.at _ c.in-Some.is c.turn.ensures refl in
    let h = c.loop-after.invariant.0 in (
      omega arith,
      λ F w. subst (λ (k : ℕ). Walk (form_of c.args.form) c.args.model.now (c.loop-after.at + (1 + k))
          (record { begun = true; site = c.args.site; seen = c.in-Some.after }) F) (sym c.linear_bytes.ensures.0) (on.1 F (c.loop-after.invariant.1 F w)),
    )
