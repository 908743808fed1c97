-- `whole::two_words::negated` meets its contract.
use Rattle.whole.proofs.TwoWords.{minus_fits, less_fits, negated_zero, negated_low}
use Rattle.whole.proofs.two_words.negated.Goals as goal

pub overflow_sub-high : goal.overflow_sub-high
overflow_sub-high c = minus_fits c.args.x c.requires

pub overflow_sub-result-else-low-eq0 : goal.overflow_sub-result-else-low-eq0
overflow_sub-result-else-low-eq0 c = less_fits c.args.x c.requires

pub returns-then-low-eq0 : goal.returns-then-low-eq0
returns-then-low-eq0 c = negated_zero c.args.x c.requires c.if-low-eq0.true

pub returns-else-low-eq0 : goal.returns-else-low-eq0
returns-else-low-eq0 c = negated_low c.args.x c.requires c.struct_known-1.given.0.fits
