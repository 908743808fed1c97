-- `whole::dot_product::dot` meets its contract: s with the products from i on is the whole sum, and s is at most i greatest products (`Added`), so
-- each product and each sum fits a word; a coefficient over FEW leaves all to `wide`.
use Rattle.whole.proofs.Products.{Added}
use Rattle.whole.proofs.dot_product.dot.Given as goal

abbrev pub invariant-loop-i : goal.invariant-loop-i
invariant-loop-i l = Added l.c l.n l.i l.s
