use native.Mathlib.Omega.{arith}
use Rattle.collect_compact.proofs.Slides.{begins, space_after, closed_after, slid_before, steps, ends, valid_here, j_le}
use Rattle.collect_compact.proofs.slide.Goals as goal

pub stay-first-requires : goal.stay-first-requires
stay-first-requires c = let z = c.requires.0 in (omega (arith, z.works), z.few, z.room)

pub loop-i-init : goal.loop-i-init
loop-i-init c = begins c.stay-first.ensures c.requires.0 c.requires.1

pub slide_one-j-requires : goal.slide_one-j-requires
slide_one-j-requires c = let v = c.loop-i.invariant in
    let t = c.stay-first.ensures in
    let z = space_after t c.requires.0 in
    let d = closed_after t c.requires.0 c.requires.1 c.requires.2 in
    let h = c.loop-i-test.true in
    (omega (arith, z.words, v.len), omega (arith, z.works, v.lenw), z.few, omega (arith, z.room, h), j_le z c.requires.1 d v h, valid_here z c.requires.1 d v h)

pub loop-i-preserved : goal.loop-i-preserved
loop-i-preserved c = let t = c.stay-first.ensures in
    steps (space_after t c.requires.0) c.requires.1 (closed_after t c.requires.0 c.requires.1 c.requires.2) c.loop-i.invariant c.loop-i-test.true c.slide_one-j.ensures

pub shape_of-nodes : goal.shape_of-nodes
shape_of-nodes c = c.loop-i.invariant.len

pub shape_of-work : goal.shape_of-work
shape_of-work c = omega (arith, c.loop-i.invariant.lenw, c.stay-first.ensures.len)

pub returns : goal.returns
returns c = let t = c.stay-first.ensures in
    slid_before t c.requires.0 (ends (space_after t c.requires.0) c.requires.1 (closed_after t c.requires.0 c.requires.1 c.requires.2) c.loop-i.invariant c.loop-i-test.false)
