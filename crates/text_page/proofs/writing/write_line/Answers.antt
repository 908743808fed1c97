-- `text_page::writing::write_line` meets its contract: a stage that can be shown has its steps and its divisor above 0 (`shown_divisor`); the value,
-- the whole part and the name that were read make the line of that stage (`line_is`), which has 51 bytes.
use native.Mathlib.Omega.{arith}
use lib.IntN.{pos}
use lib.ListN.{get_or}
use Rattle.theory.specs.Widths.{levels_most}
use Rattle.text_decimal.proofs.Puts.{rename}
use Rattle.text_page.proofs.Read.{narrow_state, divisor_read, den_read, shown_steps, shown_divisor, part_is, action_as, name_as, holds, room, line_is}
use Rattle.text_page.proofs.writing.write_line.Goals as goal

pub overflow_sub-root : goal.overflow_sub-root
overflow_sub-root c = (shown_steps c.requires.0).0

pub offset_bounds-stages-h : goal.offset_bounds-stages-h
offset_bounds-stages-h c = omega (arith, shown_steps c.requires.0)

pub bounds-stages-h : goal.bounds-stages-h
bounds-stages-h c = omega (arith, shown_steps c.requires.0)

pub part-x-requires : goal.part-x-requires
part-x-requires c = divisor_read (get_or c.args.q.n levels_most (pos 0)) c.part-arg-1.given (shown_divisor c.requires.0)

pub put_line-requires : goal.put_line-requires
put_line-requires c = let g = c.well_formed.1.1.1.1.1.1.0.1.1 in
    let f = narrow_state c.args.q g.1.0.0 g.1.0.1.1 in
    let w = c.requires.0 in
    let e = c.value_after-v.ensures in
    let z = part_is w e (den_read (get_or c.args.q.n levels_most (pos 0)) c.part-arg-1.given) c.part-x.ensures in
    let n = name_as w e c.name.ensures.bytes in
    (holds w f z n, omega (arith, room w f z n c.requires.1))

pub returns : goal.returns
returns c = let g = c.well_formed.1.1.1.1.1.1.0.1.1 in
    let f = narrow_state c.args.q g.1.0.0 g.1.0.1.1 in
    let w = c.requires.0 in
    let e = c.value_after-v.ensures in
    let z = part_is w e (den_read (get_or c.args.q.n levels_most (pos 0)) c.part-arg-1.given) c.part-x.ensures in
    rename (line_is w f z (name_as w e c.name.ensures.bytes) (action_as w e)) c.put_line.ensures
