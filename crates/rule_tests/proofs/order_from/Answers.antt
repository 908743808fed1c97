-- `rule_tests::order_from` meets its contract: the test's numbers are lent whole.
use native.Mathlib.Omega.{arith}
use Rattle.rule_tests.proofs.Ordered.{ordered, index_of, order_lent}
use Rattle.rule_tests.proofs.order_from.Goals as goal

pub order_words-requires : goal.order_words-requires
order_words-requires c = let n = c.struct_told-1.given.1.0.1.0.1 in
    (omega (arith, c.requires.words), omega (arith, n))

pub returns : goal.returns
returns c = let n = c.struct_told-1.given.1.0.1.0.1 in
    ordered _ _ (order_lent c.args.nodes.now c.args.f c.order_words-arg-1.given c.args.z n c.struct_told-1.given.0.1 (index_of _ c.order_words.ensures))
