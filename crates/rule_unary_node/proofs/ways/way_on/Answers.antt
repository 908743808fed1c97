use mathlib.Core.Path.{◌≡◌, refl, ap}
use mathlib.Core.Bool.{true, false}
use borrow.Author.Tests.{eq-eqb, ne_eqb}
use native.Mathlib.Omega.{arith}
use Rattle.std.specs.declared.cmp.Ordering.{Ordering}
use Rattle.std.specs.declared.cmp.Ordering.TheVariants.{Less, Equal, Greater}
use Rattle.std.specs.Ordering.{ordering_index}
use Rattle.rule_unary_node.proofs.WayOn.{way_as}
use Rattle.rule_unary_node.proofs.ways.way_on.Goals as goal

one_is : (o : Ordering) → ordering_index o ≡ 1 → o ≡ Equal
one_is Less e = absurd (omega arith)
one_is Equal e = refl
one_is Greater e = absurd (omega arith)

pub returns-in_default : goal.returns-in_default
returns-in_default c = way_as c.args.d c.args.op (ordering_index c.args.o) false false _ c.if-d.false (ne_eqb _ _ (λ e. c.in_default.not-Equal (one_is c.args.o e))) refl

pub returns-then-op-eq-YES_SIDE : goal.returns-then-op-eq-YES_SIDE
returns-then-op-eq-YES_SIDE c = way_as c.args.d c.args.op (ordering_index c.args.o) false true true c.if-d.false (eq-eqb _ _ (ap ordering_index c.in-Equal.is)) (eq-eqb _ _ c.if-op-eq-YES_SIDE.true)

pub returns-else-op-eq-YES_SIDE : goal.returns-else-op-eq-YES_SIDE
returns-else-op-eq-YES_SIDE c = way_as c.args.d c.args.op (ordering_index c.args.o) false true false c.if-d.false (eq-eqb _ _ (ap ordering_index c.in-Equal.is)) (ne_eqb _ _ c.if-op-eq-YES_SIDE.false)

pub returns-then-d : goal.returns-then-d
returns-then-d c = way_as c.args.d c.args.op (ordering_index c.args.o) true _ _ c.if-d.true refl refl
