-- `rule_choose::roots::split_by` meets its contract: the six ways out are the cases of `split_by`: which of the two
-- nodes end, and else whether their order is 0 or 1 (`split_as`).
use mathlib.Core.Path.{refl, ap, ◌∙◌}
use mathlib.Core.Bool.{true, false}
use lib.Dec.{eqb}
use Rattle.std.specs.declared.cmp.Ordering.{Ordering}
use Rattle.std.specs.Ordering.{ordering_index}
use Rattle.rule_choose.proofs.RootCases.{split_as}
use Rattle.rule_choose.proofs.roots.split_by.Goals as goal

pub returns-then-y : goal.returns-then-y
returns-then-y c = c.ended.ensures ∙ split_as c.args.x c.args.f c.args.y c.args.g (ordering_index c.args.o) true true _ _ c.if-x.true c.if-y.true refl refl

pub returns-then-x : goal.returns-then-x
returns-then-x c = c.right.ensures ∙ split_as c.args.x c.args.f c.args.y c.args.g (ordering_index c.args.o) true false _ _ c.if-x.true c.if-y.false refl refl

pub returns-then-y-2 : goal.returns-then-y-2
returns-then-y-2 c = c.left.ensures ∙ split_as c.args.x c.args.f c.args.y c.args.g (ordering_index c.args.o) false true _ _ c.if-x.false c.if-y-2.true refl refl

pub returns-in-Less : goal.returns-in-Less
returns-in-Less c = c.left-in-Less.ensures ∙ split_as c.args.x c.args.f c.args.y c.args.g (ordering_index c.args.o) false false true _ c.if-x.false c.if-y-2.false (ap (λ (o : Ordering). eqb (ordering_index o) 0) c.in-Less.is) refl

pub returns-in-Equal : goal.returns-in-Equal
returns-in-Equal c = c.both.ensures ∙ split_as c.args.x c.args.f c.args.y c.args.g (ordering_index c.args.o) false false false true c.if-x.false
    c.if-y-2.false (ap (λ (o : Ordering). eqb (ordering_index o) 0) c.in-Equal.is) (ap (λ (o : Ordering). eqb (ordering_index o) 1) c.in-Equal.is)

pub returns-in-Greater : goal.returns-in-Greater
returns-in-Greater c = c.right-in-Greater.ensures ∙ split_as c.args.x c.args.f c.args.y c.args.g (ordering_index c.args.o) false false false false c.if-x.false
    c.if-y-2.false (ap (λ (o : Ordering). eqb (ordering_index o) 0) c.in-Greater.is) (ap (λ (o : Ordering). eqb (ordering_index o) 1) c.in-Greater.is)
