use mathlib.Core.Path.{refl}
use native.Mathlib.Omega.{arith}
use borrow.Author.Rules.{rules}
use Rattle.rule_node.proofs.Outcomes.{stops, ran_passed}
use Rattle.rule_node.proofs.CacheEntries.{room_in, answered, kept_run, keepable}
use Rattle.rule_node.proofs.RuleSteps.{at_in}
use Rattle.rule_node.proofs.Meanings.{lasts_walk}
use Rattle.rule_walk.proofs.Walks.{walk_key, walk_leaf, walk_ends, walk_on, high_ended, low_asks, low_ended, root_asks, root_made}
use Rattle.rule_walk.proofs.+walk.Goals as goal

pub below_at-s-requires : goal.below_at-s-requires
below_at-s-requires t c = at_in c.args.f c.requires.0.bare c.requires.1

pub decide_at-requires : goal.decide_at-requires
decide_at-requires t c = (c.requires.0, walk_leaf c.requires.0 c.args.f c.args.g c.args.p c.requires.1 c.requires.2 c.requires.3 c.below_at-s.ensures c.if-s.true, c.requires.2, c.requires.3)

pub returns-then-s : goal.returns-then-s
returns-then-s t c = walk_ends c.requires.0 c.args.f c.args.g c.args.p c.requires.1 c.requires.2 c.requires.3 c.below_at-s.ensures c.if-s.true c.decide_at.ensures

pub look-requires : goal.look-requires
look-requires t c = (room_in c.requires.0, walk_key c.requires.0 c.args.f c.args.g c.args.p c.requires.1 c.requires.2 c.requires.3)

pub returns-in-Some : goal.returns-in-Some
returns-in-Some t c = answered c.requires.0 9 c.args.f c.args.g c.args.p 0 _ c.in-Some.ensures

pub walk-requires : goal.walk-requires
walk-requires t c = let o = walk_on c.requires.0 c.args.f c.args.g c.args.p c.requires.1 c.requires.2 c.requires.3 c.below_at-s.ensures c.if-s.false in
    (omega (arith, o.high, c.decreases), (c.requires.0, o.fh, o.gh, c.requires.3))

pub returns-in_err-h : goal.returns-in_err-h
returns-in_err-h t c = let o = walk_on c.requires.0 c.args.f c.args.g c.args.p c.requires.1 c.requires.2 c.requires.3 c.below_at-s.ensures c.if-s.false in
    ran_passed (high_ended c.args.f c.args.g c.args.p c.requires.3 o c.in_err-h.ensures (stops c.in_err-h.field-0.0)) c.from_residual.ensures.1

pub walk-requires-2 : goal.walk-requires-2
walk-requires-2 t c = let o = walk_on c.requires.0 c.args.f c.args.g c.args.p c.requires.1 c.requires.2 c.requires.3 c.below_at-s.ensures c.if-s.false in
    (omega (arith, o.low, c.decreases), low_asks c.args.f c.args.g c.args.p c.requires.3 o c.in_ok-h.ensures)

pub returns-in_err-l : goal.returns-in_err-l
returns-in_err-l t c = let o = walk_on c.requires.0 c.args.f c.args.g c.args.p c.requires.1 c.requires.2 c.requires.3 c.below_at-s.ensures c.if-s.false in
    ran_passed (low_ended c.args.f c.args.g c.args.p c.requires.3 o c.in_ok-h.ensures refl c.in_err-l.ensures (stops c.in_err-l.field-0.0)) c.from_residual-in_err-l.ensures.1

pub choose-requires : goal.choose-requires
choose-requires t c = let o = walk_on c.requires.0 c.args.f c.args.g c.args.p c.requires.1 c.requires.2 c.requires.3 c.below_at-s.ensures c.if-s.false in
    root_asks c.args.f c.args.g c.args.p c.requires.3 o c.in_ok-h.ensures refl c.in_ok-l.ensures refl

pub returns-in_err-r : goal.returns-in_err-r
returns-in_err-r t c = let o = walk_on c.requires.0 c.args.f c.args.g c.args.p c.requires.1 c.requires.2 c.requires.3 c.below_at-s.ensures c.if-s.false in
    ran_passed (root_made c.args.f c.args.g c.args.p c.requires.3 o c.in_ok-h.ensures refl c.in_ok-l.ensures refl c.in_err-r.ensures) c.from_residual-in_err-r.ensures.1

pub keep-requires : goal.keep-requires
keep-requires t c = let o = walk_on c.requires.0 c.args.f c.args.g c.args.p c.requires.1 c.requires.2 c.requires.3 c.below_at-s.ensures c.if-s.false in
    let J = root_made c.args.f c.args.g c.args.p c.requires.3 o c.in_ok-h.ensures refl c.in_ok-l.ensures refl c.in_ok-r.ensures in
    keepable J refl (walk_key c.requires.0 c.args.f c.args.g c.args.p c.requires.1 c.requires.2 c.requires.3)

pub shape_of-nodes : goal.shape_of-nodes
shape_of-nodes t c = search (rules, c.walk.auto, c.walk-2.auto, c.choose.auto, c.keep.auto)

pub shape_of-work : goal.shape_of-work
shape_of-work t c = search (rules, c.walk.auto, c.walk-2.auto, c.choose.auto, c.keep.auto)

pub returns : goal.returns
returns t c = let o = walk_on c.requires.0 c.args.f c.args.g c.args.p c.requires.1 c.requires.2 c.requires.3 c.below_at-s.ensures c.if-s.false in
    let J = root_made c.args.f c.args.g c.args.p c.requires.3 o c.in_ok-h.ensures refl c.in_ok-l.ensures refl c.in_ok-r.ensures in
    kept_run (lasts_walk _ _ c.args.f c.requires.1 c.args.g c.requires.2 c.args.p 0 c.requires.3) J refl c.keep.ensures
