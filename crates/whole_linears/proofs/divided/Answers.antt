use mathlib.Core.Path.{refl, sym, ap, ◌∙◌}
use Prim.Native.Nat.{ℕ}
use Rattle.whole.specs.Linears.{quot_list}
use Rattle.whole.specs.LinearsLaws.{quot_one}
use Rattle.whole.proofs.Filled.{none_filled, one_filled}
use Rattle.whole.proofs.Loops.{divisor_fits_as, part_is, divided_all}
use Rattle.whole_linears.proofs.divided.Goals as goal

pub returns-then-g-eq1 : goal.returns-then-g-eq1
returns-then-g-eq1 c = sym (quot_one _) ∙ ap (λ (g : ℕ). quot_list g c.args.a) (sym c.if-g-eq1.true ∙ c.divisor-g.ensures)

pub loop-i-init : goal.loop-i-init
loop-i-init c = none_filled refl

pub quot-requires : goal.quot-requires
quot-requires c = divisor_fits_as _ c.requires _ c.divisor-g.ensures

pub loop-i-preserved : goal.loop-i-preserved
loop-i-preserved c = one_filled c.loop-i.invariant c.loop-i-test.true (part_is _ c.requires c.loop-i.i _ c.divisor-g.ensures c.quot.ensures)

pub returns : goal.returns
returns c = divided_all _ c.requires c.loop-i.invariant c.loop-i-test.false
