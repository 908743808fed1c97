-- `solve_operation::keep_roots` meets its contract: `collect` on the first roots alone; the others stay as they are (`prefix_kept`).
use mathlib.Core.Path.{sym, subst}
use Prim.Native.Nat.{ℕ}
use native.Mathlib.Omega.{arith}
use lib.Seq.{length-take-le}
use Rattle.solve_operation.proofs.Roots.{prefix_kept, kept_length}
use Rattle.table_unique.specs.Unique.{Space}
use Rattle.solve_operation.proofs.keep_roots.Goals as goal

pub slice_bounds-collect-end : goal.slice_bounds-collect-end
slice_bounds-collect-end c = c.requires.3

pub slice_bounds-collect-end-2 : goal.slice_bounds-collect-end-2
slice_bounds-collect-end-2 c = sym (length-take-le c.args.held c.args.roots.now c.requires.3)

pub collect-requires : goal.collect-requires
collect-requires c = (subst (λ (k : ℕ). Space k c.args.nodes.now c.args.work.now c.args.count) (let h = c.max.ensures in omega arith) c.requires.0, c.requires.1, c.requires.2)

pub shape_of-roots : goal.shape_of-roots
shape_of-roots c = kept_length (prefix_kept c.requires.3 c.collect.ensures)

pub returns : goal.returns
returns c = prefix_kept c.requires.3 c.collect.ensures
