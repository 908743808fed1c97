-- `plain_worth::worths::ended` meets its contract.
use Rattle.plain_worth.proofs.Answers.{ended_is}
use Rattle.plain_worth.proofs.worths.ended.Goals as goal

pub end_at-requires : goal.end_at-requires
end_at-requires c = (c.requires.0.ready.accepted, c.requires.0.ready.short, c.requires.1, c.requires.0.fits.flat)

pub returns : goal.returns
returns c = ended_is c.args.model.now c.args.x c.requires.0 c.end_at.ensures c.narrow-z.ensures c.worth_of.ensures
