-- `rule_walk::decide_at` meets its contract: the two cases of `decide`: a constant picks g or p by its sign, and any other linear is a choice by the test that f names.
use mathlib.Core.Path.{refl}
use mathlib.Core.Logic.{inr}
use Rattle.rule_walk.proofs.Walks.{decided_constant, decided_test}
use Rattle.rule_walk.proofs.decide_at.Goals as goal

pub returns-then-is_constant : goal.returns-then-is_constant
returns-then-is_constant c = decided_constant c.requires.0 c.args.f c.args.g c.args.p c.requires.1 c.requires.2 c.requires.3 c.get-x.ensures
    c.is_constant.ensures c.if-is_constant.true c.constant.ensures c.decided.ensures

pub choose-requires : goal.choose-requires
choose-requires c = (c.requires.0, inr (refl, c.requires.1.below), c.requires.2, c.requires.3)

pub returns : goal.returns
returns c = decided_test c.requires.0 c.args.f c.args.g c.args.p c.requires.1 c.requires.2 c.requires.3 c.get-x.ensures c.is_constant.ensures c.if-is_constant.false c.choose.ensures
