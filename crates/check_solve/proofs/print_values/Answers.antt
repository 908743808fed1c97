-- `check_solve::print_values` meets its contract: a file as long as all models has every part that is lent of it; a shorter one prints nothing.
use Rattle.std.proofs.Common.{sym, arith}
use lib.Seq.{length-take-le}
use Rattle.check_solve.proofs.print_values.Goals as goal

pub slice_bounds-pond_values-end : goal.slice_bounds-pond_values-end
slice_bounds-pond_values-end g c = sym (length-take-le 317 c.args.models.now (omega (arith, c.if-models-lt-END.false)))

pub slice_bounds-refused_values-end : goal.slice_bounds-refused_values-end
slice_bounds-refused_values-end g c = sym (length-take-le 317 c.args.models.now (omega (arith, c.if-models-lt-END.false)))
