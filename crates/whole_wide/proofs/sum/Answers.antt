-- `whole_wide::sum` meets its contract: two halves with what the pair before carries fit a word; the four
-- sums with their carries are the whole sum (`sum_is`).
use Rattle.std.proofs.Common.{ℕ, ◌+◌, ap, ◌∙◌, arith}
use Rattle.whole_division.specs.Words.{two_words}
use Rattle.whole_wide.proofs.Halves.{third_sum, fourth_sum, sum_is}
use Rattle.whole_wide.proofs.sum.Goals as goal

pub overflow_add-r-2 : goal.overflow_add-r-2
overflow_add-r-2 c = omega (arith, third_sum c.args.high c.args.low c.args.h c.args.l c.args.d (omega arith) (omega arith) (omega arith) (omega arith) (omega arith))

pub overflow_add-s-2 : goal.overflow_add-s-2
overflow_add-s-2 c = omega (arith, fourth_sum c.args.high c.args.low c.args.h c.args.l c.args.d (omega arith) (omega arith) (omega arith) (omega arith) (omega arith))

pub returns : goal.returns
returns c = let a = c.args in
    sum_is a.high a.low a.h a.l c.from.result ∙ ap (λ (d : ℕ). two_words a.high a.low + two_words a.h a.l + d) c.from.ensures
