use Prim.Native.Nat.{◌+◌, ◌≤◌}
use native.Mathlib.Omega.{arith}
use mathlib.Core.Path.{◌≡◌, ap}
use lib.ListN.{length}
use Rattle.theory.specs.Listing.{node_line}
use Rattle.text_decimal.proofs.Puts.{rename}
use Rattle.text_plan.proofs.Joined.{upon, lined_none, lined_room, lined_more, part_room}
use Rattle.text_plan.proofs.texts.node_lines.Goals as goal
use Rattle.text_plan.proofs.texts.node_lines.Goals.{In-loop-r}

-- the next line has room
room : (p : In-loop-r) → p.loop-r.next + length (node_line p.args.nodes.now (p.loop-r.r + 1)) ≤ length p.loop-r.buffer
room p = let a = p.args in let l = p.loop-r in
    lined_room (node_line a.nodes.now) a.buffer.now a.at l.r l.next l.buffer a.last l.invariant.1 p.loop-r-test.true p.requires.1

pub node_line-next-requires : goal.node_line-next-requires
node_line-next-requires c = let l = c.loop-r in
    (record { above = omega arith; within = omega (arith, c.requires.0, c.loop-r-test.true) }, part_room (node_line c.args.nodes.now (l.r + 1)) l.buffer l.next (room (goal.at.node_line-next-requires c).In-loop-r))

pub loop-r-preserved : goal.loop-r-preserved
loop-r-preserved c = let a = c.args in let l = c.loop-r in let q = c.node_line-next in
    (omega (arith, c.loop-r-test.true), lined_more (node_line a.nodes.now) a.buffer.now a.at l.r l.next l.buffer a.last l.invariant.1 c.loop-r-test.true c.requires.1 q.result q.new.out q.auto.out q.ensures)

pub returns : goal.returns
returns c = let a = c.args in let l = c.loop-r in
    let e : l.r ≡ a.last = omega (arith, c.loop-r-test.false, l.invariant.0) in
    rename (ap (upon (node_line a.nodes.now)) e) l.invariant.1.put

pub loop-r-init : goal.loop-r-init
loop-r-init c = let a = c.args in (omega arith, lined_none (node_line a.nodes.now) a.buffer.now a.at)

pub slice_bounds-node_line-count : goal.slice_bounds-node_line-count
slice_bounds-node_line-count c = omega (arith, room (goal.at.slice_bounds-node_line-count c).In-loop-r)

pub slice_bounds-node_line-start : goal.slice_bounds-node_line-start
slice_bounds-node_line-start c = omega (arith, room (goal.at.slice_bounds-node_line-start c).In-loop-r)

pub slice_bounds-node_line-end : goal.slice_bounds-node_line-end
slice_bounds-node_line-end c = omega (arith, room (goal.at.slice_bounds-node_line-end c).In-loop-r)

pub overflow_add-next : goal.overflow_add-next
overflow_add-next c = omega (arith, room (goal.at.overflow_add-next c).In-loop-r, c.node_line-next.ensures.behind)

pub shape_of-buffer : goal.shape_of-buffer
shape_of-buffer c = c.loop-r.invariant.1.kept
