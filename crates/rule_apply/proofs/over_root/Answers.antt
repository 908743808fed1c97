-- `rule_apply::over_root` meets its contract: the two cases of `maker_of`: best chooses by the root's test, and sum and product have a node of it.
use mathlib.Core.Path.{refl, ap, ◌∙◌}
use mathlib.Core.Logic.{inr}
use Rattle.theory.specs.Diagram.{Test}
use Rattle.theory.specs.Rules.{choose}
use Rattle.rule_node.specs.Nodes.{tree_at}
use Rattle.rule_node.proofs.Outcomes.{ran_as, lifted}
use Rattle.rule_node.proofs.Meanings.{root_test}
use Rattle.rule_apply.proofs.Merges.{is_choose, is_node}
use Rattle.rule_apply.proofs.over_root.Goals as goal

pub choose-requires : goal.choose-requires
choose-requires c = (c.requires.0, inr (refl, c.requires.1.below), c.requires.2, c.requires.3)

pub returns-in-Best : goal.returns-in-Best
returns-in-Best c = ran_as (ap (λ (t : Test). choose t (tree_at c.args.nodes.now c.args.count c.args.h) (tree_at c.args.nodes.now c.args.count c.args.l))
    (root_test c.requires.0 c.requires.1) ∙ is_choose c.args.rule _ _ _ c.in-Best.is) c.choose.ensures

pub join-requires : goal.join-requires
join-requires c = (c.requires.0.bare, c.requires.1, c.requires.2, c.requires.3)

pub returns-in-Sum : goal.returns-in-Sum
returns-in-Sum c = ran_as (is_node c.args.rule _ _ _ c.in-Sum.is) (lifted c.requires.0 c.join.ensures)
