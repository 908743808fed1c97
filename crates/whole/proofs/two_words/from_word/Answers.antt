-- `whole::two_words::from_word` meets its contract.
use Rattle.whole.proofs.Signed.{back, abs_back}
use Rattle.whole.proofs.TwoWords.{words_below, words_above}
use Rattle.whole.proofs.two_words.from_word.Goals as goal

pub overflow_sub-result : goal.overflow_sub-result
overflow_sub-result c = (words_below c.args.z _ c.ranges.z (rw (back c.args.z c.ranges.z) at c.if-z-lt0.true) (abs_back c.args.z c.ranges.z c.mag-n.ensures)).0

pub returns-then-z-lt0 : goal.returns-then-z-lt0
returns-then-z-lt0 c = (words_below c.args.z _ c.ranges.z (rw (back c.args.z c.ranges.z) at c.if-z-lt0.true) (abs_back c.args.z c.ranges.z c.mag-n.ensures)).1

pub returns-else-z-lt0 : goal.returns-else-z-lt0
returns-else-z-lt0 c = words_above c.args.z _ c.ranges.z (rw (back c.args.z c.ranges.z) at c.if-z-lt0.false) (abs_back c.args.z c.ranges.z c.mag-n.ensures)
