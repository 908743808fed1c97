-- `rule_expect::expectation` meets its contract: four computations in turn, each on the table that the one before leaves; a stop of any of them is the expectation's stop.
use mathlib.Core.Path.{refl}
use Rattle.rule_node.proofs.Outcomes.{stops, ran_passed}
use Rattle.rule_expect.proofs.ExpectationSteps.{yes_picks, yes_stops, complement_asks, complement_stops, no_asks, no_stops, sum_asks, expected}
use borrow.Author.Rules.{rules}
use Rattle.rule_expect.proofs.expectation.Goals as goal

pub weighted-requires : goal.weighted-requires
weighted-requires c = (c.requires.0, yes_picks c.requires.3 c.requires.4, c.requires.1, c.requires.2)

pub returns-in_err-p : goal.returns-in_err-p
returns-in_err-p c = ran_passed (yes_stops c.requires.0 c.args.weights c.args.k c.args.w c.args.f c.requires.1 c.requires.2 c.requires.5 c.in_err-p.ensures (stops c.in_err-p.field-0.0)) c.from_residual.ensures.1

pub complement-requires : goal.complement-requires
complement-requires c = complement_asks c.requires.0 c.args.weights c.args.k c.args.w c.args.f c.requires.1 c.requires.2 c.requires.5 c.in_ok-p.ensures

pub returns-in_err-v : goal.returns-in_err-v
returns-in_err-v c = ran_passed (complement_stops c.requires.0 c.args.weights c.args.k c.args.w c.args.f c.requires.1 c.requires.2 c.requires.5 c.in_ok-p.ensures refl c.in_err-v.ensures (stops c.in_err-v.field-0.0)) c.from_residual-in_err-v.ensures.1

pub weighted-requires-2 : goal.weighted-requires-2
weighted-requires-2 c = no_asks c.requires.0 c.args.weights c.args.k c.args.w c.args.f c.requires.1 c.requires.2 c.requires.5 c.in_ok-p.ensures refl
    c.in_ok-v.ensures refl c.requires.3 c.requires.4

pub returns-in_err-q : goal.returns-in_err-q
returns-in_err-q c = ran_passed (no_stops c.requires.0 c.args.weights c.args.k c.args.w c.args.f c.requires.1 c.requires.2 c.requires.5 c.in_ok-p.ensures
    refl c.in_ok-v.ensures refl c.in_err-q.ensures (stops c.in_err-q.field-0.0)) c.from_residual-in_err-q.ensures.1

pub merge-requires : goal.merge-requires
merge-requires c = sum_asks c.requires.0 c.args.weights c.args.k c.args.w c.args.f c.requires.1 c.requires.2 c.requires.5 c.in_ok-p.ensures
    refl c.in_ok-v.ensures refl c.in_ok-q.ensures refl

pub shape_of-nodes : goal.shape_of-nodes
shape_of-nodes c = search (rules, c.weighted.auto, c.complement.auto, c.weighted-2.auto, c.merge.auto)

pub shape_of-work : goal.shape_of-work
shape_of-work c = search (rules, c.weighted.auto, c.complement.auto, c.weighted-2.auto, c.merge.auto)

pub returns : goal.returns
returns c = expected c.requires.0 c.args.weights c.args.k c.args.w c.args.f c.requires.1 c.requires.2 c.requires.5 c.in_ok-p.ensures
    refl c.in_ok-v.ensures refl c.in_ok-q.ensures refl c.merge.ensures
