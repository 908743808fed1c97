use mathlib.Core.Path.{refl, sym, ◌∙◌}
use native.Mathlib.Omega.{arith}
use Rattle.import_walk.proofs.Loops.{count_on, count_here, count_end}
use Rattle.import_walk.proofs.number.number_at.Goals as goal

pub loop-i-init : goal.loop-i-init
loop-i-init c = record { within = c.requires.0; on = omega arith; least = omega arith; value = refl; rest = refl }

pub grown-value-requires : goal.grown-value-requires
grown-value-requires c = (c.requires.1, c.loop-i.invariant.least)

pub loop-i-preserved : goal.loop-i-preserved
loop-i-preserved c = count_on _ _ _ _ _ _ c.loop-i.invariant c.loop-i-test.true
    (sym c.goes_on.ensures ∙ c.if-not-goes_on.false) c.grown-value.ensures.0 c.grown-value.ensures.1

pub returns-then-not-goes_on : goal.returns-then-not-goes_on
returns-then-not-goes_on c = count_here _ _ _ _ _ c.loop-i.invariant c.loop-i-test.true (sym c.goes_on.ensures ∙ c.if-not-goes_on.true) _ refl refl

pub returns : goal.returns
returns c = count_end _ _ _ _ _ c.loop-i.invariant c.loop-i-test.false _ refl refl
