-- `whole_division::divided` meets its contract.
use Rattle.whole_division.specs.Words.{two_words}
use Rattle.whole_division.proofs.Signs.{sign_kept}
use Rattle.whole_division.proofs.divided.Goals as goal

pub divide-q-requires : goal.divide-q-requires
divide-q-requires c = c.requires

pub returns : goal.returns
returns c = let x = c.args.x in
    sign_kept x.below (two_words x.high x.low) c.args.d c.divide-q.result c.divide-q.ensures
