-- `check_pond::fits` meets its contract: false promises nothing; true comes only behind tests that give the rule's places as held, one law
-- for each rule (`zero_fits`, `levels_fit`, `reward_fits`, `best_fits`).
use Rattle.std.proofs.Common.{arith}
use Rattle.check_pond.proofs.Operations.{zero_fits, levels_fit, reward_fits, best_fits}
use Rattle.check_pond.proofs.fits.Goals as goal

pub returns-in-Zero : goal.returns-in-Zero
returns-in-Zero c = λ _. zero_fits c.args.held c.args.rule c.in-Zero.is

pub returns-else-at-held : goal.returns-else-at-held
returns-else-at-held c =
    λ t. levels_fit c.args.held c.args.rule _ _ _ c.in-Levels.is c.if-m-ne1.false (omega (arith, c.if-at-held.false)) t

pub returns-else-reward-held : goal.returns-else-reward-held
returns-else-reward-held c =
    λ t. reward_fits c.args.held c.args.rule _ _ _ _ _ c.in-Reward.is (omega (arith, c.if-action-gt8.false)) (omega (arith, c.if-reward-held.false)) t

pub returns-else-f-held : goal.returns-else-f-held
returns-else-f-held c = λ t. best_fits c.args.held c.args.rule _ _ c.in-Best.is (omega (arith, c.if-f-held.false)) t
