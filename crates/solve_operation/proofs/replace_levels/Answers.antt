-- `solve_operation::replace_levels` meets its contract: the m roots from `at` on lie below count, as `substitute` requires of levels; their trees are the part of the roots' trees.
use native.Mathlib.Omega.{arith}
use Rattle.solve_operation.proofs.Roots.{levels_ask, levels_ran}
use Rattle.solve_operation.proofs.replace_levels.Goals as goal

pub offset_bounds-roots-f : goal.offset_bounds-roots-f
offset_bounds-roots-f c = let h = c.requires.2.3 in omega arith

pub bounds-roots-f : goal.bounds-roots-f
bounds-roots-f c = c.requires.2.3

pub overflow_add-end : goal.overflow_add-end
overflow_add-end c = let h = c.requires.2.0 in omega arith

pub offset_bounds-roots-at : goal.offset_bounds-roots-at
offset_bounds-roots-at c = let h = c.requires.2.0 in omega arith

pub slice_bounds-substitute-count : goal.slice_bounds-substitute-count
slice_bounds-substitute-count c = let h = c.requires.2.0 in omega arith

pub slice_bounds-substitute-start : goal.slice_bounds-substitute-start
slice_bounds-substitute-start c = let h = c.requires.2.0 in omega arith

pub slice_bounds-substitute-end : goal.slice_bounds-substitute-end
slice_bounds-substitute-end c = c.requires.2.0

pub substitute-requires : goal.substitute-requires
substitute-requires c = let a = c.args in
    (c.requires.0, c.requires.1.at a.f c.requires.2.3, levels_ask a.roots.now a.at a.m c.requires.2.0 c.requires.1 c.requires.2.1 c.requires.2.2)

pub returns : goal.returns
returns c = let a = c.args in
    levels_ran a.roots.now a.at a.m c.requires.2.0 c.requires.2.3 c.substitute.ensures
