use mathlib.Core.Path.{refl}
use native.Mathlib.Omega.{arith}
use Rattle.rule_node.proofs.Outcomes.{stops, ran_passed}
use Rattle.rule_node.proofs.CacheEntries.{room_in, answered, kept_run, keepable}
use Rattle.rule_node.proofs.RuleSteps.{at_in}
use Rattle.rule_unary_node.proofs.RulesByNumber.{act_key, act_lasts}
use Rattle.rule_unary.proofs.UnarySteps.{walk_ends, walk_ended, pick_falls, pick_in, walk_picked, high_falls, low_falls, walk_high, walk_low, high_stopped, low_stopped, join_asks, walk_joined}
use Rattle.rule_unary.proofs.rules.+over.Goals as goal

pub way_at-requires : goal.way_at-requires
way_at-requires t c = (at_in c.args.f c.requires.0.bare c.requires.2, λ h. c.requires.1.picks h)

pub at_leaf-requires : goal.at_leaf-requires
at_leaf-requires t c = (c.requires.0.bare, c.requires.1, walk_ends c.requires.0 c.requires.1 c.args.f c.requires.2 c.way_at.ensures c.in-End.is)

pub returns-in-End : goal.returns-in-End
returns-in-End t c = walk_ended c.requires.0 c.requires.1 c.args.f c.requires.2 c.way_at.ensures c.at_leaf.ensures

pub over-requires : goal.over-requires
over-requires t c = let h = pick_falls c.requires.0 c.requires.1 c.args.f c.requires.2 c.way_at.ensures c.in-Pick.is in
    (omega (arith, h, c.decreases), (c.requires.0, c.requires.1, pick_in c.requires.0 c.requires.1 c.args.f c.requires.2 c.way_at.ensures c.in-Pick.is))

pub returns-in-Pick : goal.returns-in-Pick
returns-in-Pick t c = walk_picked c.requires.0 c.requires.1 c.args.f c.requires.2 c.way_at.ensures c.in-Pick.is c.over.ensures

pub look-requires : goal.look-requires
look-requires t c = (room_in c.requires.0, act_key c.requires.1 c.requires.0.bare c.args.f c.requires.2)

pub returns-in-Some : goal.returns-in-Some
returns-in-Some t c = answered c.requires.0 c.args.op c.args.f 0 c.args.p c.args.q _ c.in-Some.ensures

pub over-requires-in-Both : goal.over-requires-in-Both
over-requires-in-Both t c = let h = high_falls c.requires.0 c.requires.1 c.args.f c.requires.2 c.way_at.ensures c.in-Both.is in
    (omega (arith, h, c.decreases), (c.requires.0, c.requires.1, walk_high c.requires.0 c.requires.1 c.args.f c.requires.2 c.way_at.ensures c.in-Both.is))

pub returns-in_err-h-in-Both : goal.returns-in_err-h-in-Both
returns-in_err-h-in-Both t c = ran_passed (high_stopped c.requires.0 c.requires.1 c.args.f c.requires.2 c.way_at.ensures c.in-Both.is c.in_err-h-in-Both.ensures (stops c.in_err-h-in-Both.field-0.0)) c.from_residual.ensures.1

pub over-requires-in-Both-2 : goal.over-requires-in-Both-2
over-requires-in-Both-2 t c = let h = low_falls c.requires.0 c.requires.1 c.args.f c.requires.2 c.way_at.ensures c.in-Both.is in (
  omega (arith, h, c.decreases),
  (
    c.in_ok-h-in-Both.ensures.table,
    c.requires.1,
    walk_low c.requires.0 c.requires.1 c.args.f
        c.requires.2 c.way_at.ensures c.in-Both.is c.in_ok-h-in-Both.ensures,
  ),
)

pub returns-in_err-l-in-Both : goal.returns-in_err-l-in-Both
returns-in_err-l-in-Both t c = ran_passed (low_stopped c.requires.0 c.requires.1 c.args.f c.requires.2 c.way_at.ensures c.in-Both.is
    c.in_ok-h-in-Both.ensures refl c.in_err-l-in-Both.ensures (stops c.in_err-l-in-Both.field-0.0)) c.from_residual-in_err-l-in-Both.ensures.1

pub join-requires : goal.join-requires
join-requires t c = join_asks c.requires.0 c.requires.1 c.args.f c.requires.2 c.way_at.ensures c.in-Both.is
    c.in_ok-h-in-Both.ensures refl c.in_ok-l-in-Both.ensures refl

pub returns-in_err-r-in-Both : goal.returns-in_err-r-in-Both
returns-in_err-r-in-Both t c = ran_passed (walk_joined c.requires.0 c.requires.1 c.args.f c.requires.2 c.way_at.ensures c.in-Both.is
    c.in_ok-h-in-Both.ensures refl c.in_ok-l-in-Both.ensures refl c.in_err-r-in-Both.ensures) c.from_residual-in_err-r-in-Both.ensures.1

pub keep-requires : goal.keep-requires
keep-requires t c = let J = walk_joined c.requires.0 c.requires.1 c.args.f c.requires.2 c.way_at.ensures c.in-Both.is
    c.in_ok-h-in-Both.ensures refl c.in_ok-l-in-Both.ensures refl c.in_ok-r-in-Both.ensures in
    keepable J refl (act_key c.requires.1 c.requires.0.bare c.args.f c.requires.2)

pub returns-in_ok-r-in-Both : goal.returns-in_ok-r-in-Both
returns-in_ok-r-in-Both t c = let J = walk_joined c.requires.0 c.requires.1 c.args.f c.requires.2 c.way_at.ensures c.in-Both.is
    c.in_ok-h-in-Both.ensures refl c.in_ok-l-in-Both.ensures refl c.in_ok-r-in-Both.ensures in
    kept_run (act_lasts c.requires.1 c.args.nodes.now c.args.count c.args.f c.requires.2) J refl c.keep.ensures
