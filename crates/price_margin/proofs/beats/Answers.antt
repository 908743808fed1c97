-- `price_margin::beats` meets its contract.
use Rattle.plain_limits.proofs.Judge.{no_number}
use Rattle.price_margin.proofs.Margins.{beats_not, beats_none, beats_is}
use borrow.Author.Rules.{rules}
use Rattle.price_margin.proofs.beats.Goals as goal

pub returns-in_default : goal.returns-in_default
returns-in_default c = beats_not _ _ (no_number c.args.t c.in_default.not-Is)

pub returns-in_default-best : goal.returns-in_default-best
returns-in_default-best c = beats_none c.args.t c.args.best _ _ c.in-Is.is (no_number c.args.best c.in_default-best.not-Is)

pub returns : goal.returns
returns c = beats_is c.args.t c.args.best _ _ c.in-Is.is _ _ c.in-Is-best.is (search rules) (search rules)
