-- `whole::two_words::not_positive` meets its contract.
use Rattle.std.proofs.Common.{◌∙◌, arith}
use Rattle.whole.specs.Numerator.{number}
use Rattle.whole.proofs.TwoWords.{high_back, below_zero, zero_low, above_zero}
use Rattle.whole.proofs.two_words.not_positive.Goals as goal

pub returns-then-x-lt0 : goal.returns-then-x-lt0
unfolding number
returns-then-x-lt0 c = let x = c.args.x in
    c.if-x-lt0.true ∙ below_zero x.high x.low (omega arith) (rw (high_back x.high c.struct_told-1.given.1.0.1) at c.if-x-lt0.true)

pub returns-then-x-eq0 : goal.returns-then-x-eq0
unfolding number
returns-then-x-eq0 c = let x = c.args.x in zero_low x.high x.low c.struct_told-1.given.1.0.1 c.if-x-eq0.true

pub returns-else-x-eq0 : goal.returns-else-x-eq0
unfolding number
returns-else-x-eq0 c = let x = c.args.x in
    above_zero x.high x.low (rw (high_back x.high c.struct_told-1.given.1.0.1) at c.if-x-lt0.false) c.if-x-eq0.false
