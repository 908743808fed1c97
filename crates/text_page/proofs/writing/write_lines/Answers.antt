use Prim.Native.Nat.{◌+◌}
use native.Mathlib.Omega.{arith}
use mathlib.Core.Path.{◌≡◌, ap, ◌∙◌}
use Rattle.value_walk.specs.State.{asked}
use Rattle.text_decimal.proofs.Puts.{rename}
use Rattle.text_plan.proofs.Joined.{upon, lined_none, lined_room, lined_more, part_room}
use Rattle.text_page_lines.specs.Page.{line_at}
use Rattle.text_page.proofs.Read.{lines_room, lines_are}
use Rattle.text_page.proofs.writing.write_lines.Goals as goal

pub loop-h-init : goal.loop-h-init
loop-h-init c = (omega arith, lined_none (line_at c.args.model.now c.args.nodes.now c.args.stages.now (asked c.args.q)) c.args.text.now c.args.place)

pub slice_bounds-write_line-count : goal.slice_bounds-write_line-count
slice_bounds-write_line-count c = omega (
  arith,
  lined_room (line_at c.args.model.now c.args.nodes.now c.args.stages.now (asked c.args.q)) c.args.text.now
      c.args.place c.loop-h.h c.loop-h.next c.loop-h.text c.args.horizon c.loop-h.invariant.1 c.loop-h-test.true
      (lines_room c.args.model.now c.args.horizon c.args.nodes.now c.args.stages.now (asked c.args.q) c.args.place
      c.requires.1),
)

pub slice_bounds-write_line-start : goal.slice_bounds-write_line-start
slice_bounds-write_line-start c = omega (
  arith,
  lined_room (line_at c.args.model.now c.args.nodes.now c.args.stages.now (asked c.args.q)) c.args.text.now
      c.args.place c.loop-h.h c.loop-h.next c.loop-h.text c.args.horizon c.loop-h.invariant.1 c.loop-h-test.true
      (lines_room c.args.model.now c.args.horizon c.args.nodes.now c.args.stages.now (asked c.args.q) c.args.place
      c.requires.1),
)

pub slice_bounds-write_line-end : goal.slice_bounds-write_line-end
slice_bounds-write_line-end c = omega (
  arith,
  lined_room (line_at c.args.model.now c.args.nodes.now c.args.stages.now (asked c.args.q)) c.args.text.now
      c.args.place c.loop-h.h c.loop-h.next c.loop-h.text c.args.horizon c.loop-h.invariant.1 c.loop-h-test.true
      (lines_room c.args.model.now c.args.horizon c.args.nodes.now c.args.stages.now (asked c.args.q) c.args.place
      c.requires.1),
)

pub write_line-next-requires : goal.write_line-next-requires
write_line-next-requires c = (
  c.requires.0 (c.loop-h.h + 1) (omega arith) (omega (arith, c.loop-h-test.true)),
  part_room
      ((line_at c.args.model.now c.args.nodes.now c.args.stages.now (asked c.args.q)) (c.loop-h.h + 1))
      c.loop-h.text c.loop-h.next (lined_room
      (line_at c.args.model.now c.args.nodes.now c.args.stages.now (asked c.args.q)) c.args.text.now c.args.place
      c.loop-h.h c.loop-h.next c.loop-h.text c.args.horizon c.loop-h.invariant.1
      c.loop-h-test.true (lines_room c.args.model.now c.args.horizon c.args.nodes.now c.args.stages.now
      (asked c.args.q) c.args.place c.requires.1)),
)

pub overflow_add-next : goal.overflow_add-next
overflow_add-next c = omega (
  arith,
  lined_room (line_at c.args.model.now c.args.nodes.now c.args.stages.now (asked c.args.q)) c.args.text.now
      c.args.place c.loop-h.h c.loop-h.next c.loop-h.text c.args.horizon c.loop-h.invariant.1
      c.loop-h-test.true (lines_room c.args.model.now c.args.horizon c.args.nodes.now c.args.stages.now
      (asked c.args.q) c.args.place c.requires.1),
  c.write_line-next.ensures.behind,
)

pub loop-h-preserved : goal.loop-h-preserved
loop-h-preserved c = (
  omega (arith, c.loop-h-test.true),
  lined_more (line_at c.args.model.now c.args.nodes.now c.args.stages.now
      (asked c.args.q)) c.args.text.now c.args.place c.loop-h.h c.loop-h.next c.loop-h.text c.args.horizon
      c.loop-h.invariant.1 c.loop-h-test.true (lines_room c.args.model.now c.args.horizon c.args.nodes.now
      c.args.stages.now (asked c.args.q) c.args.place c.requires.1) c.write_line-next.result
      c.write_line-next.new.text c.write_line-next.auto.text c.write_line-next.ensures,
)

pub shape_of-text : goal.shape_of-text
shape_of-text c = c.loop-h.invariant.1.kept

pub returns : goal.returns
returns c = let e : c.loop-h.h ≡ c.args.horizon = omega (arith, c.loop-h-test.false, c.loop-h.invariant.0) in
    rename (ap (upon (line_at c.args.model.now c.args.nodes.now c.args.stages.now (asked c.args.q))) e ∙ lines_are
    c.args.model.now c.args.horizon c.args.nodes.now c.args.stages.now (asked c.args.q)) c.loop-h.invariant.1.put
