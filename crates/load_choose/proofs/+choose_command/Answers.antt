use native.Mathlib.Omega.{arith}
use mathlib.Core.Path.{refl}
use native.Mathlib.Nat.{lt_of_lt_of_le}
use borrow.Author.Rules.{rules}
use Rattle.rule_node.proofs.Outcomes.{lifted, stops, ran_passed}
use Rattle.rule_node.proofs.CacheEntries.{room_in, keepable}
use Rattle.rule_node.proofs.RuleSteps.{at_in, high_stops, low_stops, root_on, high_in, joined}
use Rattle.load_choose.proofs.Commands.{choice_key, choice_goes, choice_ends, choice_answered, choice_stored}
use Rattle.load_choose.proofs.+choose_command.Goals as goal

pub test_from-requires : goal.test_from-requires
test_from-requires t c = c.requires.1

pub choice_at-s-requires : goal.choice_at-s-requires
choice_at-s-requires t c = (at_in c.args.f c.requires.0.bare c.requires.2, at_in c.args.g c.requires.0.bare c.requires.3)

pub test_from-requires-then-s : goal.test_from-requires-then-s
test_from-requires-then-s t c = c.requires.1

pub join_test-requires : goal.join_test-requires
join_test-requires t c = let w = choice_goes c.requires.0 c.requires.1 c.args.f c.args.g c.requires.2 c.requires.3 c.test_from.ensures c.choice_at-s.ensures in
    let o = w.0 c.if-s.true in
    (c.requires.0.bare, c.test_from-then-s.ensures.proper, o.fh, o.gl)

pub returns-then-s : goal.returns-then-s
returns-then-s t c = let w = choice_goes c.requires.0 c.requires.1 c.args.f c.args.g c.requires.2 c.requires.3 c.test_from.ensures c.choice_at-s.ensures in
    let o = w.0 c.if-s.true in
    choice_ends c.requires.0 c.requires.1 c.args.f c.args.g c.requires.2 c.requires.3 o c.test_from-then-s.ensures c.join_test.ensures

pub look-requires : goal.look-requires
look-requires t c = (room_in c.requires.0, choice_key c.requires.0 c.requires.1 c.args.f c.args.g c.requires.2 c.requires.3)

pub returns-in-Some : goal.returns-in-Some
returns-in-Some t c = choice_answered c.requires.0 c.requires.1 c.args.f c.args.g c.requires.2 c.requires.3 _ c.in-Some.ensures

pub choose_command-requires : goal.choose_command-requires
choose_command-requires t c = let w = choice_goes c.requires.0 c.requires.1 c.args.f c.args.g c.requires.2 c.requires.3 c.test_from.ensures c.choice_at-s.ensures in
    let o = w.1 c.if-s.false in
    (omega (arith, o.high, c.decreases), (c.requires.0, c.requires.1, o.fh, o.gh))

pub returns-in_err-h : goal.returns-in_err-h
returns-in_err-h t c = let w = choice_goes c.requires.0 c.requires.1 c.args.f c.args.g c.requires.2 c.requires.3 c.test_from.ensures c.choice_at-s.ensures in
    let o = w.1 c.if-s.false in
    ran_passed (high_stops _ _ _ _ _ _ _ _ _ _ _ o _ c.in_err-h.ensures (stops c.in_err-h.field-0.0)) c.from_residual.ensures.1

pub choose_command-requires-2 : goal.choose_command-requires-2
choose_command-requires-2 t c = let w = choice_goes c.requires.0 c.requires.1 c.args.f c.args.g c.requires.2 c.requires.3 c.test_from.ensures c.choice_at-s.ensures in
    let o = w.1 c.if-s.false in
    let Q = c.in_ok-h.ensures in
    (omega (arith, o.low, c.decreases), (Q.table, c.requires.1, lt_of_lt_of_le o.fl Q.more, lt_of_lt_of_le o.gl Q.more))

pub returns-in_err-l : goal.returns-in_err-l
returns-in_err-l t c = let w = choice_goes c.requires.0 c.requires.1 c.args.f c.args.g c.requires.2 c.requires.3 c.test_from.ensures c.choice_at-s.ensures in
    let o = w.1 c.if-s.false in
    let Q = c.in_ok-h.ensures in
    ran_passed (low_stops _ _ _ _ _ _ _ _ _ _ _ o _ Q refl _ _ _ c.in_err-l.ensures (stops c.in_err-l.field-0.0)) c.from_residual-in_err-l.ensures.1

pub join-requires : goal.join-requires
join-requires t c = let w = choice_goes c.requires.0 c.requires.1 c.args.f c.args.g c.requires.2 c.requires.3 c.test_from.ensures c.choice_at-s.ensures in
    let o = w.1 c.if-s.false in
    let Q = c.in_ok-h.ensures in
    let S = c.in_ok-l.ensures in
    (S.table.bare, root_on _ _ _ _ _ _ _ _ _ _ _ o _ Q refl _ _ _ S, high_in _ _ _ _ _ _ _ _ _ _ _ o _ Q refl _ _ _ S, S.within refl)

pub returns-in_err-r : goal.returns-in_err-r
returns-in_err-r t c = let w = choice_goes c.requires.0 c.requires.1 c.args.f c.args.g c.requires.2 c.requires.3 c.test_from.ensures c.choice_at-s.ensures in
    let o = w.1 c.if-s.false in
    let Q = c.in_ok-h.ensures in
    let S = c.in_ok-l.ensures in
    ran_passed (joined _ _ _ _ _ _ _ _ _ _ _ o _ Q refl _ _ _ S refl _ _ _ (lifted S.table c.in_err-r.ensures)) c.from_residual-in_err-r.ensures.1

pub keep-requires : goal.keep-requires
keep-requires t c = let w = choice_goes c.requires.0 c.requires.1 c.args.f c.args.g c.requires.2 c.requires.3 c.test_from.ensures c.choice_at-s.ensures in
    let o = w.1 c.if-s.false in
    let Q = c.in_ok-h.ensures in
    let S = c.in_ok-l.ensures in
    let J = joined _ _ _ _ _ _ _ _ _ _ _ o _ Q refl _ _ _ S refl _ _ _ (lifted S.table c.in_ok-r.ensures) in
    keepable J refl (choice_key c.requires.0 c.requires.1 c.args.f c.args.g c.requires.2 c.requires.3)

pub shape_of-nodes : goal.shape_of-nodes
shape_of-nodes t c = search (rules, c.choose_command.auto, c.choose_command-2.auto, c.join.auto, c.keep.auto)

pub shape_of-work : goal.shape_of-work
shape_of-work t c = search (rules, c.choose_command.auto, c.choose_command-2.auto, c.join.auto, c.keep.auto)

pub returns : goal.returns
returns t c = let w = choice_goes c.requires.0 c.requires.1 c.args.f c.args.g c.requires.2 c.requires.3 c.test_from.ensures c.choice_at-s.ensures in
    let o = w.1 c.if-s.false in
    let Q = c.in_ok-h.ensures in
    let S = c.in_ok-l.ensures in
    let J = joined _ _ _ _ _ _ _ _ _ _ _ o _ Q refl _ _ _ S refl _ _ _ (lifted S.table c.in_ok-r.ensures) in
    choice_stored c.requires.0 c.requires.1 c.args.f c.args.g c.requires.2 c.requires.3 J refl c.keep.ensures
