-- `plain_limits::narrow` meets its contract.
use native.Mathlib.Omega.{arith}
use Rattle.whole.specs.Within.{limited}
use Rattle.whole.specs.Numerator.{number}
use Rattle.whole.proofs.TwoWords.{high_back}
use Rattle.plain_limits.proofs.Judge.{above_over, below_over, high_above, high_below, high_minus, high_none}
use borrow.Author.Rules.{rules}
use Rattle.plain_limits.proofs.narrow.Goals as goal

pub returns-then-high-gt0 : goal.returns-then-high-gt0
unfolding number
returns-then-high-gt0 c = let x = c.args.x in
    high_above limited (λ n h. above_over n (omega (arith, h))) x.high x.low (rw (high_back x.high (search rules)) at c.if-high-gt0.true)

pub returns-then-high-ltminus1 : goal.returns-then-high-ltminus1
unfolding number
returns-then-high-ltminus1 c = let x = c.args.x in
    high_below limited (λ n h. below_over n (omega (arith, h))) x.high x.low (omega arith) (rw (high_back x.high (search rules)) at c.if-high-ltminus1.true)

pub returns-then-high-lt0 : goal.returns-then-high-lt0
unfolding number
returns-then-high-lt0 c = let x = c.args.x in
    let b = high_back x.high (search rules) in
    high_minus limited x.high x.low (omega arith) (rw b at c.if-high-ltminus1.false) (rw b at c.if-high-lt0.true) c.negative.ensures

pub returns : goal.returns
unfolding number
returns c = let x = c.args.x in
    let b = high_back x.high (search rules) in
    high_none limited x.high x.low (rw b at c.if-high-gt0.false) (rw b at c.if-high-lt0.false) c.not_negative.ensures
