-- `solve_in_room::fill` meets its contract: a run that ends with 0 leaves what `finish` requires (`to_finish`); any other run asks nothing of the tables' words.
use native.Mathlib.Omega.{arith}
use Rattle.solve_value_iteration.proofs.Start.{size_few}
use Rattle.solve_in_room.proofs.Left.{to_finish, finished, not_finished}
use Rattle.solve_in_room.proofs.fill.Goals as goal

pub run_stages-r-requires : goal.run_stages-r-requires
run_stages-r-requires c = (c.requires.0, c.requires.1, c.requires.2, c.requires.4, c.requires.6, c.requires.7)

pub overflow_add-first : goal.overflow_add-first
overflow_add-first c = omega (arith, c.model_size-first.ensures.1)

pub overflow_add-first-then-r-eq0 : goal.overflow_add-first-then-r-eq0
overflow_add-first-then-r-eq0 c = omega (arith, c.model_size-first.ensures.1)

pub overflow_add-first-then-r-eq0-2 : goal.overflow_add-first-then-r-eq0-2
overflow_add-first-then-r-eq0-2 c = omega (arith, c.model_size-first.ensures.1, c.requires.2)

pub offset_bounds-roots-first : goal.offset_bounds-roots-first
offset_bounds-roots-first c = omega (arith, c.model_size-first.ensures.1)

pub slice_bounds-finish-start : goal.slice_bounds-finish-start
slice_bounds-finish-start c = omega (arith, size_few c.args.model.now c.requires.0, c.model_size-first.ensures.0, c.requires.2, c.requires.6, c.run_stages-r.auto.roots)

pub slice_bounds-finish-end : goal.slice_bounds-finish-end
slice_bounds-finish-end c = omega (arith, size_few c.args.model.now c.requires.0, c.model_size-first.ensures.0, c.requires.2, c.requires.6, c.run_stages-r.auto.roots)

pub finish-requires : goal.finish-requires
finish-requires c = to_finish c.model_size-first.ensures.0 c.run_stages-r.ensures c.if-r-eq0.true c.requires.2 c.requires.5

pub returns-then-r-eq0 : goal.returns-then-r-eq0
returns-then-r-eq0 c = finished c.model_size-first.ensures.0 c.run_stages-r.ensures c.finish.ensures c.run_stages-r.auto.nodes c.run_stages-r.auto.work

pub returns-else-r-eq0 : goal.returns-else-r-eq0
returns-else-r-eq0 c = not_finished c.run_stages-r.ensures c.if-r-eq0.false c.args.nodes.now c.args.stages.now c.args.work.now
