use mathlib.Core.Path.{refl}
use native.Mathlib.Omega.{arith}
use borrow.Author.Rules.{rules}
use Rattle.rule_node.proofs.Outcomes.{stops, ran_passed}
use Rattle.rule_node.proofs.RuleSteps.{at_in}
use Rattle.rule_compose.proofs.ComposeSteps.{sub_asks, sub_answered, retain_asks, sub_stored, sub_ends, sub_tested, sub_high, sub_low, sub_head_stops, high_asks, sub_high_stops, low_asks, sub_low_stops, over_asks, sub_made}
use Rattle.rule_compose.proofs.+substitute.Goals as goal

pub below_at-s-requires : goal.below_at-s-requires
below_at-s-requires t c = at_in c.args.f c.requires.0.bare c.requires.1

pub at_leaf-requires : goal.at_leaf-requires
at_leaf-requires t c = (c.requires.0, c.requires.1, c.requires.2, sub_ends c.requires.0 c.args.f c.requires.1 c.requires.2 c.below_at-s.ensures c.if-s.true)

pub returns-then-s : goal.returns-then-s
returns-then-s t c = c.at_leaf.ensures

pub recall-requires : goal.recall-requires
recall-requires t c = sub_asks c.requires.0 c.args.f c.requires.1 c.requires.2

pub returns-in-Some : goal.returns-in-Some
returns-in-Some t c = sub_answered c.requires.0 c.args.f c.requires.1 c.requires.2 _ c.in-Some.ensures

pub condition_at-k-requires : goal.condition_at-k-requires
condition_at-k-requires t c = (at_in c.args.f c.requires.0.bare c.requires.1, λ e. (sub_tested c.requires.0 c.args.f c.requires.1 c.requires.2 c.below_at-s.ensures c.if-s.false).number e)

pub head-requires : goal.head-requires
head-requires t c = (c.requires.0, c.requires.1, c.requires.2)

pub returns-in_err-p : goal.returns-in_err-p
returns-in_err-p t c = ran_passed (sub_head_stops c.requires.0 c.args.f c.requires.1 c.requires.2 c.below_at-s.ensures c.if-s.false c.condition_at-k.ensures c.in_err-p.ensures (stops c.in_err-p.field-0.0)) c.from_residual.ensures.1

pub substitute-requires : goal.substitute-requires
substitute-requires t c = (
  omega (arith, sub_high c.requires.0 c.args.f c.requires.1 c.requires.2 c.below_at-s.ensures c.if-s.false, c.decreases),
  high_asks
      c.requires.0 c.args.f c.requires.1 c.requires.2 c.below_at-s.ensures c.if-s.false c.condition_at-k.ensures
      c.in_ok-p.ensures,
)

pub returns-in_err-h : goal.returns-in_err-h
returns-in_err-h t c = ran_passed (sub_high_stops c.requires.0 c.args.f c.requires.1 c.requires.2 c.below_at-s.ensures c.if-s.false c.condition_at-k.ensures
    c.in_ok-p.ensures refl c.in_err-h.ensures (stops c.in_err-h.field-0.0)) c.from_residual-in_err-h.ensures.1

pub substitute-requires-2 : goal.substitute-requires-2
substitute-requires-2 t c = (
  omega (arith, sub_low c.requires.0 c.args.f c.requires.1 c.requires.2 c.below_at-s.ensures c.if-s.false, c.decreases),
  low_asks
      c.requires.0 c.args.f c.requires.1 c.requires.2 c.below_at-s.ensures c.if-s.false c.condition_at-k.ensures
      c.in_ok-p.ensures refl c.in_ok-h.ensures,
)

pub shape_of-nodes-in_err-l : goal.shape_of-nodes-in_err-l
shape_of-nodes-in_err-l t c = search (rules, c.head.auto, c.substitute.auto, c.substitute-2.auto)

pub shape_of-work-in_err-l : goal.shape_of-work-in_err-l
shape_of-work-in_err-l t c = search (rules, c.head.auto, c.substitute.auto, c.substitute-2.auto)

pub returns-in_err-l : goal.returns-in_err-l
returns-in_err-l t c = ran_passed (sub_low_stops c.requires.0 c.args.f c.requires.1 c.requires.2 c.below_at-s.ensures c.if-s.false c.condition_at-k.ensures
    c.in_ok-p.ensures refl c.in_ok-h.ensures refl c.in_err-l.ensures (stops c.in_err-l.field-0.0)) c.from_residual-in_err-l.ensures.1

pub over_test-requires : goal.over_test-requires
over_test-requires t c = over_asks c.requires.0 c.args.f c.requires.1 c.requires.2 c.below_at-s.ensures c.if-s.false c.condition_at-k.ensures
    c.in_ok-p.ensures refl c.in_ok-h.ensures refl c.in_ok-l.ensures
    refl

pub shape_of-nodes-in_err-r : goal.shape_of-nodes-in_err-r
shape_of-nodes-in_err-r t c = search (rules, c.head.auto, c.substitute.auto, c.substitute-2.auto, c.over_test.auto)

pub shape_of-work-in_err-r : goal.shape_of-work-in_err-r
shape_of-work-in_err-r t c = search (rules, c.head.auto, c.substitute.auto, c.substitute-2.auto, c.over_test.auto)

pub returns-in_err-r : goal.returns-in_err-r
returns-in_err-r t c = ran_passed (sub_made c.requires.0 c.args.f c.requires.1 c.requires.2 c.below_at-s.ensures c.if-s.false c.condition_at-k.ensures
    c.in_ok-p.ensures refl c.in_ok-h.ensures refl c.in_ok-l.ensures refl
    c.in_err-r.ensures) c.from_residual-in_err-r.ensures.1

pub retain-requires : goal.retain-requires
retain-requires t c = let J = sub_made c.requires.0 c.args.f c.requires.1 c.requires.2 c.below_at-s.ensures c.if-s.false c.condition_at-k.ensures
    c.in_ok-p.ensures refl c.in_ok-h.ensures refl c.in_ok-l.ensures refl
    c.in_ok-r.ensures in
    retain_asks c.requires.0 c.args.f c.requires.1 c.requires.2 J refl

pub shape_of-nodes : goal.shape_of-nodes
shape_of-nodes t c = search (rules, c.head.auto, c.substitute.auto, c.substitute-2.auto, c.over_test.auto, c.retain.auto)

pub shape_of-work : goal.shape_of-work
shape_of-work t c = search (rules, c.head.auto, c.substitute.auto, c.substitute-2.auto, c.over_test.auto, c.retain.auto)

pub returns : goal.returns
returns t c = let J = sub_made c.requires.0 c.args.f c.requires.1 c.requires.2 c.below_at-s.ensures c.if-s.false c.condition_at-k.ensures
    c.in_ok-p.ensures refl c.in_ok-h.ensures refl c.in_ok-l.ensures refl
    c.in_ok-r.ensures in
    sub_stored c.requires.0 c.args.f c.requires.1 c.requires.2 J refl c.retain.ensures
