-- `rule_choose::roots::choice_of` meets its contract: a branch names its own test.
use native.Mathlib.Omega.{arith}
use Rattle.rule_choose.proofs.RootCases.{choice_told, choice_stands}
use Rattle.rule_choose.proofs.roots.choice_of.Goals as goal

pub overflow_mul-i : goal.overflow_mul-i
overflow_mul-i c = let h = c.requires.0.words (c.stands_at.ensures c.if-stands_at.true).0 in omega arith

pub offset_bounds-nodes-i : goal.offset_bounds-nodes-i
offset_bounds-nodes-i c = let h = c.requires.0.words (c.stands_at.ensures c.if-stands_at.true).0 in omega arith

pub bounds-nodes-i : goal.bounds-nodes-i
bounds-nodes-i c = let h = c.requires.0.words (c.stands_at.ensures c.if-stands_at.true).0 in omega arith

pub overflow_add-i : goal.overflow_add-i
overflow_add-i c = let h = c.requires.0.words (c.stands_at.ensures c.if-stands_at.true).0 in omega arith

pub choice_by-requires : goal.choice_by-requires
choice_by-requires c = let h = c.requires.0.words (c.stands_at.ensures c.if-stands_at.true).0 in (omega arith, c.requires.1, c.requires.2)

pub returns-then-stands_at : goal.returns-then-stands_at
returns-then-stands_at c = choice_stands _ _ c.args.f c.args.g c.args.nodes.now c.args.op c.args.p (c.stands_at.ensures c.if-stands_at.true) c.choice_by-arg-1.given c.choice_by.ensures

pub returns : goal.returns
returns c = choice_told _ _ c.args.f c.args.g c.test_at.ensures c.choice_at.ensures
