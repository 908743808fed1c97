use Prim.Native.Nat.{◌+◌, ◌≤◌}
use native.Mathlib.Omega.{arith}
use mathlib.Core.Path.{◌≡◌, ap}
use lib.ListN.{length}
use Rattle.theory.specs.Listing.{stage_line}
use Rattle.text_decimal.proofs.Puts.{rename}
use Rattle.text_plan.proofs.Joined.{upon, lined_none, lined_room, lined_more, part_room}
use Rattle.text_plan.proofs.texts.stage_lines.Goals as goal
use Rattle.text_plan.proofs.texts.stage_lines.Goals.{In-loop-h}

-- the next line has room
room : (p : In-loop-h) → p.loop-h.next + length (stage_line p.args.stages.now (p.loop-h.h + 1)) ≤ length p.loop-h.buffer
room p = let a = p.args in let l = p.loop-h in
    lined_room (stage_line a.stages.now) a.buffer.now a.at l.h l.next l.buffer a.last l.invariant.1 p.loop-h-test.true p.requires.1

pub stage_line-next-requires : goal.stage_line-next-requires
stage_line-next-requires c = let l = c.loop-h in
    (omega arith, omega (arith, c.requires.0, c.loop-h-test.true), part_room (stage_line c.args.stages.now (l.h + 1)) l.buffer l.next (room (goal.at.stage_line-next-requires c).In-loop-h))

pub loop-h-preserved : goal.loop-h-preserved
loop-h-preserved c = let a = c.args in let l = c.loop-h in let q = c.stage_line-next in
    (omega (arith, c.loop-h-test.true), lined_more (stage_line a.stages.now) a.buffer.now a.at l.h l.next l.buffer a.last l.invariant.1 c.loop-h-test.true c.requires.1 q.result q.new.out q.auto.out q.ensures)

pub returns : goal.returns
returns c = let a = c.args in let l = c.loop-h in
    let e : l.h ≡ a.last = omega (arith, c.loop-h-test.false, l.invariant.0) in
    rename (ap (upon (stage_line a.stages.now)) e) l.invariant.1.put

pub loop-h-init : goal.loop-h-init
loop-h-init c = let a = c.args in (omega arith, lined_none (stage_line a.stages.now) a.buffer.now a.at)

pub slice_bounds-stage_line-count : goal.slice_bounds-stage_line-count
slice_bounds-stage_line-count c = omega (arith, room (goal.at.slice_bounds-stage_line-count c).In-loop-h)

pub slice_bounds-stage_line-start : goal.slice_bounds-stage_line-start
slice_bounds-stage_line-start c = omega (arith, room (goal.at.slice_bounds-stage_line-start c).In-loop-h)

pub slice_bounds-stage_line-end : goal.slice_bounds-stage_line-end
slice_bounds-stage_line-end c = omega (arith, room (goal.at.slice_bounds-stage_line-end c).In-loop-h)

pub overflow_add-next : goal.overflow_add-next
overflow_add-next c = omega (arith, room (goal.at.overflow_add-next c).In-loop-h, c.stage_line-next.ensures.behind)

pub shape_of-buffer : goal.shape_of-buffer
shape_of-buffer c = c.loop-h.invariant.1.kept
