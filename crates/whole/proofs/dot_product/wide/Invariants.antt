-- `whole::dot_product::wide` meets its contract: s with the products from k on is the whole sum, and its high word is at most k times that
-- of one product (`Summed`), so `sum` may take both; k grows to NUMBERS.
use Rattle.whole.proofs.Products.{Summed}
use Rattle.whole.proofs.dot_product.wide.Given as goal

abbrev pub invariant-loop-k : goal.invariant-loop-k
invariant-loop-k l = Summed l.c l.n l.k l.s
