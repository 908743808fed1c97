-- `plain_step::weighing::chance` meets its contract.
use Rattle.plain_step.proofs.Weigh.{chance_beyond, chance_found}
use Rattle.plain_step.proofs.weighing.chance.Goals as goal

pub returns-then-conditions-k : goal.returns-then-conditions-k
returns-then-conditions-k c = chance_beyond c.args.model.now c.args.a c.args.k c.args.x c.requires.0 c.requires.1 c.requires.2 _ c.conditions.ensures c.if-conditions-k.true

pub chance_at-requires : goal.chance_at-requires
chance_at-requires c = (c.requires.0.ready.accepted, c.requires.0.ready.short, tt, c.requires.3, c.requires.0.fits.flat)

pub returns : goal.returns
returns c = chance_found c.args.model.now c.args.a c.args.k c.args.x c.requires.0 c.requires.1 c.requires.2 _ c.conditions.ensures c.if-conditions-k.false _ c.chance_at.ensures
