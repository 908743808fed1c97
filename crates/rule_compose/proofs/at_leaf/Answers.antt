use Rattle.rule_compose.proofs.ComposeSteps.{sub_none, sub_leaf}
use Rattle.rule_compose.proofs.at_leaf.Goals as goal

pub returns-then-none_at : goal.returns-then-none_at
returns-then-none_at c = sub_none c.requires.0 c.args.f c.requires.1 c.requires.2 c.requires.3 c.none_at.ensures c.if-none_at.true

pub returns : goal.returns
returns c = sub_leaf c.requires.0 c.args.f c.requires.1 c.requires.2 c.requires.3 c.none_at.ensures c.if-none_at.false c.linear_diagram.ensures
