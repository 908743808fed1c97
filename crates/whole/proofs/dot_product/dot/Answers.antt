use Rattle.std.proofs.Common.{get_or, pos, refl, ap, ◌∙◌}
use Rattle.whole.specs.Numerator.{words}
use Rattle.whole.proofs.Products.{none_added, one_added, all_added, product_fits, sum_fits}
use Rattle.whole.proofs.dot_product.dot.Goals as goal

pub loop-i-init : goal.loop-i-init
loop-i-init c = none_added _ _

pub wide-requires : goal.wide-requires
wide-requires c = c.requires

pub returns-then-mag-gt-FEW : goal.returns-then-mag-gt-FEW
returns-then-mag-gt-FEW c = c.wide.ensures

pub overflow_mul-s : goal.overflow_mul-s
overflow_mul-s c = product_fits (get_or c.args.c c.loop-i.i (pos 0)) (get_or c.args.n c.loop-i.i (pos 0)) (c.requires.each c.loop-i.i)
    (record { sfits = c.from-arg-1.given }) c.from.ensures c.mag.ensures c.if-mag-gt-FEW.false

pub overflow_add-s : goal.overflow_add-s
overflow_add-s c = sum_fits (get_or c.args.c c.loop-i.i (pos 0)) (get_or c.args.n c.loop-i.i (pos 0)) (c.requires.each c.loop-i.i)
    (record { sfits = c.from-arg-1.given }) c.from.ensures c.mag.ensures c.if-mag-gt-FEW.false c.loop-i.invariant c.loop-i-test.true

pub loop-i-preserved : goal.loop-i-preserved
loop-i-preserved c = one_added (get_or c.args.c c.loop-i.i (pos 0)) (get_or c.args.n c.loop-i.i (pos 0)) (c.requires.each c.loop-i.i)
    (record { sfits = c.from-arg-1.given }) c.from.ensures c.mag.ensures c.if-mag-gt-FEW.false c.loop-i.invariant c.loop-i-test.true c.requires.long
    c.well_formed.1.0.1.0.1 refl refl

pub returns : goal.returns
returns c = c.from_word.ensures ∙ ap words (all_added _ _ c.requires.long c.well_formed.1.0.1.0.1 c.loop-i.invariant c.loop-i-test.false)
