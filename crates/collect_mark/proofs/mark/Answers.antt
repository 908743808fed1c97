use mathlib.Core.Path.{◌∙◌}
use native.Mathlib.Omega.{arith}
use Rattle.collect_mark.proofs.Reach.{begins, root, fits, done, cleared_len, cleared_rest}
use Rattle.collect_mark.proofs.mark.Goals as goal

pub work-requires : goal.work-requires
work-requires c = let z = c.requires.0 in let q = z.works in ((omega arith), (omega arith))

pub loop-r-init : goal.loop-r-init
loop-r-init c = let z = c.requires.0 in
    begins z.room c.requires.1 c.requires.2 c.args.work.now (let q = z.works in omega arith) c.work.ensures

pub offset_bounds-work-r : goal.offset_bounds-work-r
offset_bounds-work-r c = let q = c.requires.2.at _ c.loop-r-test.true in let z = c.requires.0 in omega (arith, z.room, z.few)

pub bounds-work-r : goal.bounds-work-r
bounds-work-r c = fits c.requires.0.room c.requires.1 c.requires.2 c.loop-r.invariant _ (c.requires.2.at _ c.loop-r-test.true)

pub loop-r-preserved : goal.loop-r-preserved
loop-r-preserved c = root c.requires.0.room c.requires.1 c.requires.2 c.loop-r.invariant c.loop-r-test.true

pub descend-requires : goal.descend-requires
descend-requires c = let z = c.requires.0 in
    (omega (arith, z.room, z.words), omega (arith, z.room, z.works, c.loop-r.invariant.len, c.work.auto.words), omega (arith, z.room, z.few), c.requires.1)

pub shape_of-work : goal.shape_of-work
shape_of-work c = c.descend.auto.work ∙ (c.loop-r.invariant.len ∙ c.work.auto.words)

pub returns : goal.returns
returns c = let z = c.requires.0 in let w = c.args.work.now in
    done z.room c.requires.1 c.requires.2 c.loop-r.invariant c.loop-r-test.false c.descend.ensures
    (cleared_len z.room c.requires.1 c.requires.2 w (let q = z.works in omega arith) c.work.ensures)
    (cleared_rest z.room c.requires.1 c.requires.2 w (let q = z.works in omega arith) c.work.ensures)
