-- `price_margin::more_than` meets its contract.
use Rattle.price_margin.proofs.Margins.{not_more, free, divided}
use Rattle.price_margin.proofs.more_than.Goals as goal

pub returns-then-x-eq0 : goal.returns-then-x-eq0
returns-then-x-eq0 c = not_more c.args.x c.args.h c.args.e c.args.d c.args.p c.if-x-eq0.true

pub returns-then-e-eq0 : goal.returns-then-e-eq0
returns-then-e-eq0 c = free c.args.x c.args.h c.args.e c.args.d c.args.p c.if-x-eq0.false c.if-e-eq0.true

pub returns-else-e-eq0 : goal.returns-else-e-eq0
returns-else-e-eq0 c = divided c.args.x c.args.h c.args.e c.args.d c.args.p
    c.if-x-eq0.false c.if-e-eq0.false c.requires.0 c.requires.2
