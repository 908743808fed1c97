use Rattle.std.proofs.Common.{sym, subst}
use Rattle.whole.specs.Within.{Small}
use Rattle.whole.proofs.Signed.{small_back}
use Rattle.whole.proofs.Products.{none_summed, one_summed, all_summed, summed_small, product_small}
use Rattle.whole.proofs.dot_product.wide.Goals as goal

pub loop-k-init : goal.loop-k-init
loop-k-init c = none_summed _ _

pub product-requires : goal.product-requires
product-requires c = let s = c.requires.each c.loop-k.k in subst Small (sym (small_back _ s)) s

pub sum-s-requires : goal.sum-s-requires
sum-s-requires c = (summed_small c.loop-k.invariant, product_small c.product.ensures)

pub loop-k-preserved : goal.loop-k-preserved
loop-k-preserved c = one_summed _ _ c.requires c.well_formed.1.0.1.0.1 c.loop-k.invariant c.loop-k-test.true (record { sfits = c.product-arg-in-loop-k-1.given }) c.product.ensures c.sum-s.ensures

pub returns : goal.returns
returns c = all_summed _ _ c.requires c.well_formed.1.0.1.0.1 c.loop-k.invariant c.loop-k-test.false
