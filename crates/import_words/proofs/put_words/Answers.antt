use Rattle.import_words.proofs.Laws.{begin, within_back, room, further, all_put}
use Rattle.import_words.proofs.put_words.Goals as goal

pub loop-i-init : goal.loop-i-init
loop-i-init c = begin c.args.a c.args.out.now c.args.at

pub put_word-next-requires : goal.put_word-next-requires
put_word-next-requires c = (
  within_back c.args.a c.well_formed.1.1.0.1.0.1 c.requires.0 c.loop-i-test.true c.put_word-arg-in-loop-i-1.given,
  room c.args.a
      c.well_formed.1.1.0.1.0.1 c.args.out.now c.args.at c.requires.1 c.loop-i.invariant c.loop-i-test.true,
)

pub loop-i-preserved : goal.loop-i-preserved
loop-i-preserved c = further c.args.a c.well_formed.1.1.0.1.0.1 c.args.out.now c.args.at c.requires.1 c.loop-i.invariant
    c.loop-i-test.true c.put_word-arg-in-loop-i-1.given c.put_word-next.auto.out c.put_word-next.ensures

pub shape_of-out : goal.shape_of-out
shape_of-out c = c.loop-i.invariant.kept

pub returns : goal.returns
returns c = all_put c.args.a c.well_formed.1.1.0.1.0.1 c.args.out.now c.args.at c.requires.1 c.loop-i.invariant c.loop-i-test.false
