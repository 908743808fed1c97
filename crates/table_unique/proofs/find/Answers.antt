use Rattle.std.proofs.Common.{◌+◌, ◌-◌, refl, arith}
use Rattle.table.proofs.Look.{hit, miss}
use Rattle.table_unique.proofs.Chain.{begins, goes_on, less, hits, misses}
use Rattle.table_unique.proofs.find.Goals as goal

pub hash-b-requires : goal.hash-b-requires
hash-b-requires c = (c.requires.space.some, c.requires.space.few)

pub offset_bounds-work-b : goal.offset_bounds-work-b
offset_bounds-work-b c = let q = c.requires.space.few in omega (arith, c.hash-b.ensures.1)

pub bounds-work-b : goal.bounds-work-b
bounds-work-b c = let q = c.requires.space.works in omega (arith, c.hash-b.ensures.1)

pub overflow_cast-at : goal.overflow_cast-at
overflow_cast-at c = omega (arith, c.shared_slice_known-2-1.given c.hash-b.result)

pub loop-at-init : goal.loop-at-init
loop-at-init c = begins c.requires c.args.x _ c.hash-b.ensures.1 c.hash-b.ensures.0

pub is_at-requires : goal.is_at-requires
is_at-requires c = let q = c.loop-at.invariant.within in let r = c.requires.space.room in let w = c.requires.space.words in omega arith

pub returns-then-is_at : goal.returns-then-is_at
returns-then-is_at c = hits c.requires c.args.x c.loop-at.at c.loop-at-test.true c.loop-at.invariant (hit refl c.is_at.ensures c.if-is_at.true)

pub overflow_add-at : goal.overflow_add-at
overflow_add-at c = let q = c.loop-at.invariant.within in let r = c.requires.space.room in let f = c.requires.space.few in omega arith

pub offset_bounds-work-cap : goal.offset_bounds-work-cap
offset_bounds-work-cap c = let q = c.loop-at.invariant.within in let r = c.requires.space.room in let f = c.requires.space.few in omega arith

pub bounds-work-cap : goal.bounds-work-cap
bounds-work-cap c = let q = c.loop-at.invariant.within in let r = c.requires.space.room in let f = c.requires.space.works in let z = c.loop-at-test.true in omega arith

pub overflow_cast-at-in-loop-at : goal.overflow_cast-at-in-loop-at
overflow_cast-at-in-loop-at c = omega (arith, c.shared_slice_known-in-loop-at-1.given (c.args.cap + (c.loop-at.at - 1)))

pub loop-at-smaller : goal.loop-at-smaller
loop-at-smaller c = less c.requires c.args.x c.loop-at.at c.loop-at-test.true c.loop-at.invariant

pub loop-at-preserved : goal.loop-at-preserved
loop-at-preserved c = goes_on c.requires c.args.x c.loop-at.at c.loop-at-test.true c.loop-at.invariant (miss refl c.is_at.ensures c.if-is_at.false)

pub returns : goal.returns
returns c = misses c.requires c.args.x c.loop-at.at c.loop-at-test.false c.loop-at.invariant
