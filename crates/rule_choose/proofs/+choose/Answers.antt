use native.Mathlib.Omega.{arith}
use native.Mathlib.Nat.{lt_of_lt_of_le}
use mathlib.Core.Path.{refl}
use Rattle.rule_node.specs.Nodes.{tree_at}
use Rattle.rule_node.proofs.Outcomes.{grown, lifted, stops, ran_passed}
use Rattle.rule_node.proofs.Meanings.{names_more}
use Rattle.rule_node.proofs.RuleSteps.{high_stops, low_stops, root_on, high_in, joined}
use Rattle.rule_choose.proofs.Choices.{choice_goes, choice_ends, choice_kept, choice_answered, choice_stored}
use Rattle.rule_choose.proofs.+choose.Goals as goal

pub join_choice-requires : goal.join_choice-requires
join_choice-requires t c = let w = choice_goes c.requires.0 c.requires.1 c.args.f c.args.g c.requires.2 c.requires.3 c.choice_of-s.ensures in
    let o = w.0 c.if-s.true in
    (c.requires.0.bare, c.requires.1, o.fh, o.gl)

pub returns-then-s : goal.returns-then-s
returns-then-s t c = let w = choice_goes c.requires.0 c.requires.1 c.args.f c.args.g c.requires.2 c.requires.3 c.choice_of-s.ensures in
    let o = w.0 c.if-s.true in
    choice_ends c.requires.0 c.requires.1 c.args.f c.args.g c.requires.2 c.requires.3 o c.join_choice.ensures

pub returns-in-Some : goal.returns-in-Some
returns-in-Some t c = choice_answered c.requires.0 c.requires.1 c.args.f c.args.g c.requires.2 c.requires.3 _ c.in-Some.ensures

pub choose-requires : goal.choose-requires
choose-requires t c = let w = choice_goes c.requires.0 c.requires.1 c.args.f c.args.g c.requires.2 c.requires.3 c.choice_of-s.ensures in
    let o = w.1 c.if-s.false in
    (omega (arith, o.high, c.decreases), (c.requires.0, c.requires.1, o.fh, o.gh))

pub returns-in_err-h : goal.returns-in_err-h
returns-in_err-h t c = let w = choice_goes c.requires.0 c.requires.1 c.args.f c.args.g c.requires.2 c.requires.3 c.choice_of-s.ensures in
    let o = w.1 c.if-s.false in
    ran_passed (high_stops _ _ _ _ _ _ _ _ _ _ _ o _ c.in_err-h.ensures (stops c.in_err-h.field-0.0)) c.from_residual.ensures.1

pub choose-requires-2 : goal.choose-requires-2
choose-requires-2 t c = let w = choice_goes c.requires.0 c.requires.1 c.args.f c.args.g c.requires.2 c.requires.3 c.choice_of-s.ensures in
    let o = w.1 c.if-s.false in
    let Q = c.in_ok-h.ensures in
    (omega (arith, o.low, c.decreases), (Q.table, names_more Q.more c.requires.1, lt_of_lt_of_le o.fl Q.more, lt_of_lt_of_le o.gl Q.more))

pub returns-in_err-l : goal.returns-in_err-l
returns-in_err-l t c = let w = choice_goes c.requires.0 c.requires.1 c.args.f c.args.g c.requires.2 c.requires.3 c.choice_of-s.ensures in
    let o = w.1 c.if-s.false in
    let Q = c.in_ok-h.ensures in
    let S = choice_kept (grown Q) c.requires.1 (tree_at c.choose.new.nodes c.in_ok-h.h.count c.choice_of-s.result.fl)
    (tree_at c.choose.new.nodes c.in_ok-h.h.count c.choice_of-s.result.gl) c.in_err-l.ensures in
    ran_passed (low_stops _ _ _ _ _ _ _ _ _ _ _ o _ Q refl _ _ _ S (stops c.in_err-l.field-0.0)) c.from_residual-in_err-l.ensures.1

pub join-requires : goal.join-requires
join-requires t c = let w = choice_goes c.requires.0 c.requires.1 c.args.f c.args.g c.requires.2 c.requires.3 c.choice_of-s.ensures in
    let o = w.1 c.if-s.false in
    let Q = c.in_ok-h.ensures in
    let S = choice_kept (grown Q) c.requires.1 (tree_at c.choose.new.nodes c.in_ok-h.h.count c.choice_of-s.result.fl)
    (tree_at c.choose.new.nodes c.in_ok-h.h.count c.choice_of-s.result.gl) c.in_ok-l.ensures in
    (S.table.bare, root_on _ _ _ _ _ _ _ _ _ _ _ o _ Q refl _ _ _ S, high_in _ _ _ _ _ _ _ _ _ _ _ o _ Q refl _ _ _ S, S.within refl)

pub returns-in_err-r : goal.returns-in_err-r
returns-in_err-r t c = let w = choice_goes c.requires.0 c.requires.1 c.args.f c.args.g c.requires.2 c.requires.3 c.choice_of-s.ensures in
    let o = w.1 c.if-s.false in
    let Q = c.in_ok-h.ensures in
    let S = choice_kept (grown Q) c.requires.1 (tree_at c.choose.new.nodes c.in_ok-h.h.count c.choice_of-s.result.fl)
    (tree_at c.choose.new.nodes c.in_ok-h.h.count c.choice_of-s.result.gl) c.in_ok-l.ensures in
    ran_passed (joined _ _ _ _ _ _ _ _ _ _ _ o _ Q refl _ _ _ S refl _ _ _ (lifted S.table c.in_err-r.ensures)) c.from_residual-in_err-r.ensures.1

pub returns : goal.returns
returns t c = let w = choice_goes c.requires.0 c.requires.1 c.args.f c.args.g c.requires.2 c.requires.3 c.choice_of-s.ensures in
    let o = w.1 c.if-s.false in
    let Q = c.in_ok-h.ensures in
    let S = choice_kept (grown Q) c.requires.1 (tree_at c.choose.new.nodes c.in_ok-h.h.count c.choice_of-s.result.fl)
    (tree_at c.choose.new.nodes c.in_ok-h.h.count c.choice_of-s.result.gl) c.in_ok-l.ensures in
    let J = joined _ _ _ _ _ _ _ _ _ _ _ o _ Q refl _ _ _ S refl _ _ _ (lifted S.table c.in_ok-r.ensures) in
    choice_stored c.requires.0 c.requires.1 c.args.f c.args.g c.requires.2 c.requires.3 J refl c.keep.ensures
