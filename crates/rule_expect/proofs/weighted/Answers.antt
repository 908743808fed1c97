-- `rule_expect::weighted` meets its contract: the side, then the product with w, which is still there in the table that the side leaves.
use mathlib.Core.Path.{refl}
use Rattle.rule_node.proofs.Outcomes.{stops, ran_passed}
use Rattle.rule_expect.proofs.ExpectationSteps.{weighted_stops, weighted_asks, weighted_made}
use Rattle.rule_expect.proofs.weighted.Goals as goal

pub returns-in_err-y : goal.returns-in_err-y
returns-in_err-y c = ran_passed (weighted_stops c.args.w c.requires.2 c.in_err-y.ensures (stops c.in_err-y.field-0.0)) c.from_residual.ensures.1

pub merge-requires : goal.merge-requires
merge-requires c = weighted_asks c.args.w c.requires.2 c.in_ok-y.ensures refl

pub returns : goal.returns
returns c = weighted_made c.args.w c.requires.2 c.in_ok-y.ensures refl c.merge.ensures
