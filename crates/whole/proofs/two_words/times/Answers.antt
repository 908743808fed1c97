-- `whole::two_words::times` meets its contract.
use Rattle.std.proofs.Common.{arith}
use Rattle.whole.proofs.TwoWords.{low_bound, mid_bound, high_bound, times_is}
use Rattle.whole.proofs.two_words.times.Goals as goal

pub overflow_mul-low : goal.overflow_mul-low
overflow_mul-low c = record { fits = omega (arith, low_bound c.args.p c.args.q c.requires) }

pub overflow_mul-mid : goal.overflow_mul-mid
overflow_mul-mid c = record { fits = omega (arith, mid_bound c.args.p c.args.q c.requires) }

pub overflow_add-mid : goal.overflow_add-mid
overflow_add-mid c = record { fits = omega (arith, low_bound c.args.p c.args.q c.requires, mid_bound c.args.p c.args.q c.requires) }

pub overflow_cast-high : goal.overflow_cast-high
overflow_cast-high c = record { sfits = omega (arith, high_bound c.args.p c.args.q c.requires) }

pub returns : goal.returns
returns c = times_is c.args.p c.args.q c.requires
