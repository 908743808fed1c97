use mathlib.Core.Path.{refl}
use native.Mathlib.Omega.{arith}
use Rattle.rule_tests.proofs.Ordered.{compared, ordered, number_differs, number_same, constant_order}
use Rattle.rule_tests.proofs.order_numbers.Goals as goal

pub loop-k-init : goal.loop-k-init
loop-k-init c = refl

pub returns-then-p-q : goal.returns-then-p-q
returns-then-p-q c = let l = c.loop-k in
    ordered _ _ (number_differs _ _ c.args.i c.args.j c.requires.0 c.requires.1 l.k l.invariant (omega arith) c.p-1.given c.q-1.given c.if-p-q.true (compared _ _ c.cmp.ensures))

pub loop-k-preserved : goal.loop-k-preserved
loop-k-preserved c = let l = c.loop-k in
    number_same _ _ c.args.i c.args.j c.requires.0 c.requires.1 l.k l.invariant (omega arith) c.p-1.given c.q-1.given c.if-p-q.false

pub returns : goal.returns
returns c = let l = c.loop-k in
    ordered _ _ (constant_order _ _ c.args.i c.args.j c.requires.0 c.requires.1 l.k (omega arith) l.invariant c.c-1.given c.d-1.given (compared _ _ c.cmp-2.ensures))
