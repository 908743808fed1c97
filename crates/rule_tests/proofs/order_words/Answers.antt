-- `rule_tests::order_words` meets its contract: each early answer is what the kinds give where they differ (`kinds_order`, `kinds_differ`), else the numbers decide.
use mathlib.Core.Path.{refl}
use native.Mathlib.Omega.{arith}
use Rattle.whole.specs.Linears.{ord_num}
use Rattle.rule_tests.proofs.Ordered.{compared, ordered, index_of, first_differs, kinds_order, kinds_differ, kinds_same}
use Rattle.rule_tests.proofs.order_words.Goals as goal

pub returns-then-y-eq-CONDITION : goal.returns-then-y-eq-CONDITION
unfolding ord_num
returns-then-y-eq-CONDITION c = ordered _ _ (kinds_order c.args.x c.args.y _ c.ranges.x.sfits c.ranges.y.sfits 2 1 (omega arith) (omega arith) c.if-x-eq-LINEAR.true c.if-y-eq-CONDITION.true refl)

pub returns-then-y-eq-LINEAR : goal.returns-then-y-eq-LINEAR
unfolding ord_num
returns-then-y-eq-LINEAR c = ordered _ _ (kinds_order c.args.x c.args.y _ c.ranges.x.sfits c.ranges.y.sfits 1 2 (omega arith) (omega arith) c.if-x-eq-CONDITION.true c.if-y-eq-LINEAR.true refl)

pub returns-then-m-n : goal.returns-then-m-n
returns-then-m-n c = let e = first_differs _ _ c.args.i c.args.j c.requires.0 c.requires.1 _ c.m-1.given c.n-1.given c.if-m-n.true (compared _ _ c.cmp.ensures) in
    ordered _ _ (kinds_order c.args.x c.args.y _ c.ranges.x.sfits c.ranges.y.sfits 1 1 (omega arith) (omega arith) c.if-x-eq-CONDITION.true c.if-y-eq-CONDITION-2.true e)

pub returns-then-x-y : goal.returns-then-x-y
returns-then-x-y c = ordered _ _ (kinds_differ c.args.x c.args.y _ c.ranges.x.sfits c.ranges.y.sfits c.if-x-y.true (compared _ _ c.cmp-then-x-y.ensures))

pub returns : goal.returns
returns c = ordered _ _ (kinds_same c.args.x c.args.y _ c.ranges.x.sfits c.ranges.y.sfits c.if-x-y.false (index_of _ c.order_numbers.ensures))
