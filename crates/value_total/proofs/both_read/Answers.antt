-- `value_total::both_read` meets its contract: a value of action 0 has no total (`first_none`, `second_none`); else the sum of the numerators, each
-- times the other's power of W, fits two words or is outside (`inside_is`, `outside_is`).
use mathlib.Core.Path.{sym, ◌∙◌}
use native.Mathlib.Nat.{mul-le-mul}
use native.Mathlib.Omega.{arith}
use Rattle.whole.specs.Numerator.{number}
use Rattle.theory.specs.Widths.{steps_most}
use Rattle.model_progress.specs.GivenFlags.{site_as}
use Rattle.value_walk.specs.Out.{out}
use Rattle.value_joined.specs.Total.{crosswise}
use Rattle.value_joined.proofs.laws.Cases.{first_none, second_none, both_some}
use Rattle.value_total.proofs.Joins.{outside_is, inside_is}
use Rattle.value_total.proofs.both_read.Goals as goal
use Rattle.value_total.proofs.both_read.Goals.{then-v-eq0-via-then-v-eq0, then-v-eq0-via-else-v-eq0+then-w-eq0}

pub returns-then-v-eq0 : goal.returns-then-v-eq0
returns-then-v-eq0 c = let a = c.args in
    c.refused.ensures ∙ elim c.then-v-eq0.branch [
      | then-v-eq0-via-then-v-eq0 w ↦ sym (first_none (site_as a.s) (site_as a.r) a.steps (out a.v) (out a.w) w.if-v-eq0.true)
      | then-v-eq0-via-else-v-eq0+then-w-eq0 w ↦ sym (second_none (site_as a.s) (site_as a.r) a.steps (out a.v) (out a.w) w.if-w-eq0.true)
    ]

pub overflow_mul-r : goal.overflow_mul-r
overflow_mul-r c = omega (arith, mul-le-mul {n₁ = c.args.r.conditions} {m₁ = c.args.steps} {n₂ = 255} {m₂ = steps_most} (omega arith) c.requires.1)

pub overflow_mul-s : goal.overflow_mul-s
overflow_mul-s c = omega (arith, mul-le-mul {n₁ = c.args.s.conditions} {m₁ = c.args.steps} {n₂ = 255} {m₂ = steps_most} (omega arith) c.requires.1)

pub returns-in_default : goal.returns-in_default
unfolding crosswise
returns-in_default c = let a = c.args in
    outside_is (crosswise (site_as a.s) (site_as a.r) a.steps (number a.v.numerator) (number a.w.numerator)) a.v.action a.w.action
    c.total.ensures c.in_default.is c.refused-in_default.ensures ∙ sym
    (both_some (site_as a.s) (site_as a.r) a.steps (out a.v) (out a.w) c.if-v-eq0.false c.if-w-eq0.false)

pub returns : goal.returns
unfolding crosswise
returns c = let a = c.args in
    inside_is (crosswise (site_as a.s) (site_as a.r) a.steps (number a.v.numerator) (number a.w.numerator)) a.v.action a.w.action
    c.total.ensures c.in-Some.is ∙ sym (both_some (site_as a.s) (site_as a.r) a.steps (out a.v) (out a.w) c.if-v-eq0.false
    c.if-w-eq0.false)
