-- `whole::two_words::sum` meets its contract.
use Rattle.std.proofs.Common.{refl, arith}
use Rattle.whole.proofs.TwoWords.{highs_fit, more_fits, sum_carried, sum_plain}
use Rattle.whole.proofs.two_words.sum.Goals as goal

pub overflow_add-high : goal.overflow_add-high
overflow_add-high c = highs_fit c.args.x c.args.y c.requires

pub overflow_add-result : goal.overflow_add-result
overflow_add-result c = more_fits c.args.x c.args.y c.requires

pub returns-then-low-x : goal.returns-then-low-x
returns-then-low-x c = sum_carried c.args.x c.args.y c.requires _ c.struct_known-1.given.0.fits c.struct_known-2-1.given.0.fits refl (omega arith)

pub returns-else-low-x : goal.returns-else-low-x
returns-else-low-x c = sum_plain c.args.x c.args.y c.requires _ c.struct_known-1.given.0.fits c.struct_known-2-1.given.0.fits refl (omega arith)
