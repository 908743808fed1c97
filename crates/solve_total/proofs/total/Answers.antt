-- `solve_total::total` meets its contract: three operations in turn replace the levels, sum the conditions out and add the reward, each on roots that
-- stand (`levels_replaced`, `conditions_summed`, `reward_added`); a stop is the total's, and the places are few (`total_few`), so they fit.
use native.Mathlib.Omega.{arith}
use Rattle.solve_total.proofs.Roots.{on_standing}
use Rattle.solve_total.proofs.Whole.{totals_of, total_few, levels_fit, levels_replaced, levels_stop, conditions_summed, conditions_stop, exponent_few, reward_fits, reward_added}
use Rattle.solve_total.proofs.total.Goals as goal

pub overflow_cast-weights : goal.overflow_cast-weights
overflow_cast-weights c = let t = totals_of c.args.run c.requires c.site-operands.ensures c.byte_index-m.ensures.0 c.byte_index-n.ensures.0 in
    let f = (total_few t).few_weights in
    omega (arith, f)

pub overflow_sub-row : goal.overflow_sub-row
overflow_sub-row c = c.requires.some_action

pub overflow_add-row : goal.overflow_add-row
overflow_add-row c = omega (arith, c.byte_index-n.ensures.1)

pub overflow_add-row-2 : goal.overflow_add-row-2
overflow_add-row-2 c = omega (arith, c.byte_index-m.ensures.1, c.byte_index-n.ensures.1)

pub overflow_mul-row : goal.overflow_mul-row
overflow_mul-row c = let t = totals_of c.args.run c.requires c.site-operands.ensures c.byte_index-m.ensures.0 c.byte_index-n.ensures.0 in
    let f = (total_few t).small in
    omega (arith, f)

pub overflow_add-row-3 : goal.overflow_add-row-3
overflow_add-row-3 c = let t = totals_of c.args.run c.requires c.site-operands.ensures c.byte_index-m.ensures.0 c.byte_index-n.ensures.0 in
    let f = (total_few t).small in
    omega (arith, f)

pub overflow_add-row-4 : goal.overflow_add-row-4
overflow_add-row-4 c = let t = totals_of c.args.run c.requires c.site-operands.ensures c.byte_index-m.ensures.0 c.byte_index-n.ensures.0 in
    let f = (total_few t).small in
    omega (arith, f, c.byte_index-n.ensures.1)

pub operate-s-requires : goal.operate-s-requires
operate-s-requires c = let t = totals_of c.args.run c.requires c.site-operands.ensures c.byte_index-m.ensures.0 c.byte_index-n.ensures.0 in
    (c.requires.ready.standing, omega arith, c.requires.room, levels_fit t)

pub returns-then-s-ne0 : goal.returns-then-s-ne0
returns-then-s-ne0 c = let t = totals_of c.args.run c.requires c.site-operands.ensures c.byte_index-m.ensures.0 c.byte_index-n.ensures.0 in
    levels_stop t c.operate-s.ensures c.if-s-ne0.true

pub overflow_add-chances : goal.overflow_add-chances
overflow_add-chances c = let t = totals_of c.args.run c.requires c.site-operands.ensures c.byte_index-m.ensures.0 c.byte_index-n.ensures.0 in
    let f = (total_few t).small in
    omega (arith, f)

pub sum_out-e-requires : goal.sum_out-e-requires
sum_out-e-requires c = let t = totals_of c.args.run c.requires c.site-operands.ensures c.byte_index-m.ensures.0 c.byte_index-n.ensures.0 in
    let d = levels_replaced t c.operate-s.ensures c.if-s-ne0.false c.operate-s.auto.roots in
    let f = total_few t in
    let g = f.row in
    record { standing = on_standing d.on; none_yet = c.if-s-ne0.false; ends = omega (arith, g); few_conditions = f.few_conditions; few_weights = f.few_weights }

pub returns-then-e-ne0 : goal.returns-then-e-ne0
returns-then-e-ne0 c = let t = totals_of c.args.run c.requires c.site-operands.ensures c.byte_index-m.ensures.0 c.byte_index-n.ensures.0 in
    let d = levels_replaced t c.operate-s.ensures c.if-s-ne0.false c.operate-s.auto.roots in
    conditions_stop t d c.sum_out-e.ensures c.if-e-ne0.true

pub overflow_mul-exponent : goal.overflow_mul-exponent
overflow_mul-exponent c = let t = totals_of c.args.run c.requires c.site-operands.ensures c.byte_index-m.ensures.0 c.byte_index-n.ensures.0 in
    let f = exponent_few t in
    omega (arith, f)

pub overflow_cast-exponent : goal.overflow_cast-exponent
overflow_cast-exponent c = let t = totals_of c.args.run c.requires c.site-operands.ensures c.byte_index-m.ensures.0 c.byte_index-n.ensures.0 in
    let f = exponent_few t in
    omega (arith, f)

pub operate-requires : goal.operate-requires
operate-requires c = let t = totals_of c.args.run c.requires c.site-operands.ensures c.byte_index-m.ensures.0 c.byte_index-n.ensures.0 in
    let d = levels_replaced t c.operate-s.ensures c.if-s-ne0.false c.operate-s.auto.roots in
    let e = conditions_summed t d c.sum_out-e.ensures c.if-e-ne0.false c.sum_out-e.auto.roots in
    (on_standing e.on, omega arith, e.on.room, reward_fits t e)

pub returns : goal.returns
returns c = let t = totals_of c.args.run c.requires c.site-operands.ensures c.byte_index-m.ensures.0 c.byte_index-n.ensures.0 in
    let d = levels_replaced t c.operate-s.ensures c.if-s-ne0.false c.operate-s.auto.roots in
    let e = conditions_summed t d c.sum_out-e.ensures c.if-e-ne0.false c.sum_out-e.auto.roots in
    reward_added t e c.operate.ensures
