-- `plain_step::moves::next_level` meets its contract.
use Rattle.plain_step.proofs.NextStates.{level_found}
use Rattle.plain_step.proofs.moves.next_level.Goals as goal

pub level_at-requires : goal.level_at-requires
level_at-requires c = (c.requires.0.accepted, c.requires.0.short, tt, c.requires.2, c.requires.3)

pub returns : goal.returns
returns c = level_found c.args.model.now c.args.a c.args.i c.args.x _ c.level_at.ensures c.in_32_bits.ensures
