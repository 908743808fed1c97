-- `finish::clear_all` meets its contract: words that are zero from 0 on are all zero (`all_wiped`).
use Rattle.finish.proofs.Fill.{all_wiped}
use lib.IntN.{pos}
use Rattle.finish.proofs.clear_all.Goals as goal

pub returns : goal.returns
returns c = record {
  nodes = all_wiped (pos 0) c.args.nodes.now c.nodes_from.ensures;
  stages = all_wiped 0 c.args.stages.now c.words_from.ensures;
  work = all_wiped 0 c.args.work.now c.words_from-2.ensures;
}
