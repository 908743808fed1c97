-- `collect_compact::slide_one` meets its contract: a node that is not marked changes nothing; a marked one gets its branches' new indexes and is stored at j.
use Rattle.collect_compact.proofs.Moves.{one_no, one_yes, inside_as}
use Rattle.collect_compact.proofs.slide_one.Goals as goal

pub returns-then-work-i-eq0 : goal.returns-then-work-i-eq0
returns-then-work-i-eq0 c = one_no c.args.nodes.now c.args.work.now c.args.cap c.args.i c.args.j c.if-work-i-eq0.true

pub renumbered-x-requires : goal.renumbered-x-requires
renumbered-x-requires c = (c.requires.1, c.requires.2, inside_as c.get.ensures c.requires.5)

pub returns : goal.returns
returns c = one_yes c.args.nodes.now c.args.work.now c.args.cap c.args.i c.args.j c.if-work-i-eq0.false c.get.ensures c.renumbered-x.ensures c.put.ensures
