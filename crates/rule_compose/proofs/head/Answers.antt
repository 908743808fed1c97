use Rattle.rule_node.proofs.Outcomes.{ran_as, ran_ret}
use Rattle.rule_compose.proofs.ComposeSteps.{head_linear, head_none}
use Rattle.rule_compose.proofs.head.Goals as goal

pub returns-then-k-eq0 : goal.returns-then-k-eq0
returns-then-k-eq0 c = ran_as (head_linear c.args.k _ _ _ c.if-k-eq0.true) c.linear_diagram.ensures

pub returns : goal.returns
returns c = ran_as (head_none c.args.k _ _ _ c.if-k-eq0.false) (ran_ret c.requires.0 c.args.f c.requires.1)
