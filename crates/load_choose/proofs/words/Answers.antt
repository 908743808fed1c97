-- `load_choose::words` meets its contract.
use mathlib.Core.Path.{refl}
use Rattle.load_choose.specs.CommandTest.{leaf_words}
use Rattle.load_choose.proofs.words.Goals as goal

pub returns : goal.returns
unfolding leaf_words
returns c = refl
