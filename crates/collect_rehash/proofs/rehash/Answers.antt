use native.Mathlib.Omega.{arith}
use mathlib.Core.Path.{◌∙◌}
use lib.ListN.{length-set}
use Rattle.collect_rehash.proofs.Heads.{begins, steps, ends}
use Rattle.collect_rehash.proofs.rehash.Goals as goal

pub work-requires : goal.work-requires
work-requires c = let z = c.requires.works in ((omega arith), (omega arith))

pub overflow_mul-cap : goal.overflow_mul-cap
overflow_mul-cap c = let z = c.requires in omega (arith, z.few)

pub overflow_mul-cap-2 : goal.overflow_mul-cap-2
overflow_mul-cap-2 c = let z = c.requires in omega (arith, z.few)

pub work-requires-2 : goal.work-requires-2
work-requires-2 c = let z = c.requires in ((omega arith), omega (arith, z.works, c.work.auto.words))

pub loop-i-init : goal.loop-i-init
loop-i-init c = begins c.requires c.work.ensures c.work-2.ensures

pub get-requires : goal.get-requires
get-requires c = let z = c.requires in omega (arith, z.room, z.words, c.loop-i-test.true)

pub hash-b-requires : goal.hash-b-requires
hash-b-requires c = let z = c.requires in (z.some, z.few)

pub offset_bounds-work-b : goal.offset_bounds-work-b
offset_bounds-work-b c = let z = c.requires in omega (arith, z.few, c.hash-b.ensures.1)

pub bounds-work-b : goal.bounds-work-b
bounds-work-b c = let z = c.requires in omega (arith, z.works, c.hash-b.ensures.1, c.loop-i.invariant.len, c.work-2.auto.words, c.work.auto.words)

pub overflow_add-work : goal.overflow_add-work
overflow_add-work c = let z = c.requires in omega (arith, z.few, z.room, c.loop-i-test.true)

pub offset_bounds-work-cap : goal.offset_bounds-work-cap
offset_bounds-work-cap c = let z = c.requires in omega (arith, z.few, z.room, c.loop-i-test.true)

pub bounds-work-cap : goal.bounds-work-cap
bounds-work-cap c = let z = c.requires in omega (arith, z.works, z.room, c.loop-i-test.true, c.loop-i.invariant.len, c.work-2.auto.words, c.work.auto.words)

pub overflow_add-work-in-loop-i : goal.overflow_add-work-in-loop-i
overflow_add-work-in-loop-i c = let z = c.requires in omega (arith, z.few, z.room, c.loop-i-test.true)

pub overflow_cast-work : goal.overflow_cast-work
overflow_cast-work c = let z = c.requires in omega (arith, z.few, z.room, c.loop-i-test.true)

pub offset_bounds-work-b-in-loop-i : goal.offset_bounds-work-b-in-loop-i
offset_bounds-work-b-in-loop-i c = let z = c.requires in omega (arith, z.few, c.hash-b.ensures.1)

pub bounds-work-b-in-loop-i : goal.bounds-work-b-in-loop-i
bounds-work-b-in-loop-i c = let z = c.requires in simp length-set (omega (arith, z.works, c.hash-b.ensures.1, c.loop-i.invariant.len, c.work-2.auto.words, c.work.auto.words))

pub loop-i-preserved : goal.loop-i-preserved
loop-i-preserved c = let z = c.requires in
    steps c.loop-i.invariant (omega (arith, z.works, c.work-2.auto.words, c.work.auto.words)) c.loop-i-test.true z.room _
    c.get.ensures _ c.hash-b.ensures.0 c.hash-b.ensures.1

pub shape_of-work : goal.shape_of-work
shape_of-work c = c.loop-i.invariant.len ∙ (c.work-2.auto.words ∙ c.work.auto.words)

pub returns : goal.returns
returns c = ends c.requires c.work.ensures c.work-2.ensures c.loop-i.invariant c.loop-i-test.false
