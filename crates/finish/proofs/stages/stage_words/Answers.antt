use Rattle.finish.proofs.Fill.{numbers_wiped}
use Rattle.finish.proofs.stages.stage_words.Goals as goal

pub returns : goal.returns
returns c = numbers_wiped c.args.work.now c.args.cap c.args.roots.now c.args.stages.now c.root_numbers.auto.stages
    c.root_numbers.ensures c.words_from.ensures
