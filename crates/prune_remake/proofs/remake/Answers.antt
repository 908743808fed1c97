use mathlib.Core.Path.{◌∙◌}
use native.Mathlib.Omega.{arith}
use Rattle.prune_remake.proofs.RowRemade.{went_ok, grew_there}
use Rattle.prune_remake.proofs.RowsRemade.{begins, fits_here, made, at_in, step, all_remade}
use Rattle.prune_remake.proofs.remake.Goals as goal

pub work-requires : goal.work-requires
work-requires c = (omega arith, omega (arith, c.requires.5))

pub loop-i-init : goal.loop-i-init
loop-i-init c = begins c.args.work.now c.requires.1 c.requires.2 c.requires.4 c.requires.5 c.work.ensures

pub remake_row-requires : goal.remake_row-requires
remake_row-requires c = let U = c.loop-i.invariant in
    let h = c.loop-i-test.true in
    (U.remade.bare, omega (arith, h, c.requires.3), fits_here c.requires.0 U.remade h c.requires.3, U.remade.there)

pub unwrap-r-requires : goal.unwrap-r-requires
unwrap-r-requires c = went_ok _ (made c.requires.0 c.loop-i.invariant.remade c.loop-i-test.true c.requires.3 c.remake_row.ensures)

pub overflow_cast-work : goal.overflow_cast-work
overflow_cast-work c = let U = c.loop-i.invariant in
    let h = c.loop-i-test.true in
    let r = grew_there c.unwrap-r.ensures c.remake_row.ensures in
    let a = at_in c.requires.0 U.remade h c.requires.3 r in
    record { fits = omega (arith, a, r.bare.chained.space.room, r.bare.chained.space.few) }

pub overflow_mul-work : goal.overflow_mul-work
overflow_mul-work c = record { fits = omega (arith, c.requires.2, c.requires.3, c.loop-i-test.true) }

pub overflow_add-work : goal.overflow_add-work
overflow_add-work c = record { fits = omega (arith, c.requires.2, c.requires.3, c.loop-i-test.true) }

pub offset_bounds-work-cap : goal.offset_bounds-work-cap
offset_bounds-work-cap c = record { fits = omega (arith, c.requires.2, c.requires.3, c.loop-i-test.true) }

pub bounds-work-cap : goal.bounds-work-cap
bounds-work-cap c = omega (arith, c.remake_row.ensures.bare.chained.space.works, c.requires.3, c.loop-i-test.true)

pub loop-i-preserved : goal.loop-i-preserved
loop-i-preserved c = let U = c.loop-i.invariant in
    step c.requires.0 U.remade c.loop-i-test.true c.requires.3 (grew_there c.unwrap-r.ensures c.remake_row.ensures) U c.remake_row.auto.nodes c.remake_row.auto.work

pub shape_of-nodes : goal.shape_of-nodes
shape_of-nodes c = c.loop-i.invariant.nodes_len

pub shape_of-work : goal.shape_of-work
shape_of-work c = c.loop-i.invariant.work_len ∙ c.work.auto.words

pub returns : goal.returns
returns c = let U = c.loop-i.invariant in
    (all_remade U c.loop-i-test.false, U.nodes_len, U.work_len ∙ c.work.auto.words)
