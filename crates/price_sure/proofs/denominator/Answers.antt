-- `price_sure::denominator` meets its contract.
use Rattle.std.proofs.Common.{get_or, pos, rules}
use Rattle.theory.specs.Widths.{levels_most}
use Rattle.price_sure.proofs.Entry.{sized}
use Rattle.price_sure.proofs.denominator.Goals as goal

pub returns : goal.returns
returns c = sized (get_or c.args.q.n levels_most (pos 0)) (search rules) c.size.ensures
