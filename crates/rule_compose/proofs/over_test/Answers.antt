-- `rule_compose::over_test` meets its contract: the two cases of `over_test`: k = 0 walks the test's diagram, and any other k is a choice by the next step's condition.
use Rattle.rule_node.proofs.Outcomes.{ran_as}
use Rattle.rule_compose.proofs.ComposeSteps.{over_walk, over_choice, names_later}
use Rattle.rule_compose.proofs.over_test.Goals as goal

pub returns-then-k-eq0 : goal.returns-then-k-eq0
returns-then-k-eq0 c = ran_as (over_walk c.args.k _ _ c.args.p c.args.h c.args.l c.if-k-eq0.true) c.walk.ensures

pub choose-requires : goal.choose-requires
choose-requires c = (c.requires.0, names_later c.requires.1 c.if-k-eq0.false, c.requires.3, c.requires.4)

pub returns : goal.returns
returns c = ran_as (over_choice c.args.k _ _ c.args.p c.args.h c.args.l c.if-k-eq0.false) c.choose.ensures
