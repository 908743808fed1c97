-- `solve_stages::counted` meets its contract.
use Rattle.solve_stages.proofs.StagesCounted.{joined_as}
use Rattle.solve_stages.proofs.counted.Goals as goal

pub raise_peak-requires : goal.raise_peak-requires
raise_peak-requires c = (c.requires.0, c.requires.1 c.if-own-eq0.true)

pub returns-then-own-eq0 : goal.returns-then-own-eq0
returns-then-own-eq0 c = (joined_as c.args.run c.args.own c.max-peak.ensures, λ ok. c.raise_peak.ensures)

pub returns-else-own-eq0 : goal.returns-else-own-eq0
returns-else-own-eq0 c = (joined_as c.args.run c.args.own c.max-peak.ensures, λ ok. absurd (c.if-own-eq0.false ok))
