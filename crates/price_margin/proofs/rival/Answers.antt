-- `price_margin::rival` meets its contract.
use Rattle.price_margin.proofs.Margins.{rival_beaten, rival_tried}
use Rattle.price_margin.proofs.rival.Goals as goal

pub returns-then-beats : goal.returns-then-beats
returns-then-beats c = rival_beaten c.args.best c.args.other c.args.t c.beats.ensures c.if-beats.true

pub returns : goal.returns
returns c = rival_tried c.args.best c.args.other c.args.t c.beats.ensures c.if-beats.false c.better.ensures
