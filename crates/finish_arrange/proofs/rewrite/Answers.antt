use Rattle.finish_arrange.proofs.Rewrites.{rewrites, room, inside, rewrite_more, rewritten}
use Rattle.finish_arrange.proofs.rewrite.Goals as goal

pub loop-i-init : goal.loop-i-init
loop-i-init c = rewrites c.args.cap c.args.count c.args.nodes.now c.args.work.now

pub get-requires : goal.get-requires
get-requires c = room c.requires.0 c.loop-i.invariant c.loop-i-test.true

pub renumbered-x-requires : goal.renumbered-x-requires
renumbered-x-requires c = (c.requires.1, c.requires.0.few, inside c.requires.0 c.loop-i.invariant c.loop-i-test.true c.get.ensures)

pub put-requires : goal.put-requires
put-requires c = room c.requires.0 c.loop-i.invariant c.loop-i-test.true

pub loop-i-preserved : goal.loop-i-preserved
loop-i-preserved c = rewrite_more c.requires.0 c.loop-i.invariant c.loop-i-test.true c.get.ensures c.renumbered-x.ensures c.put.ensures

pub shape_of-nodes : goal.shape_of-nodes
shape_of-nodes c = c.loop-i.invariant.len

pub returns : goal.returns
returns c = rewritten c.loop-i.invariant c.loop-i-test.false
