use Rattle.std.proofs.Common.{refl, arith}
use Rattle.table.proofs.Words.{back}
use Rattle.table_unique.proofs.NodeHash.{hash_goes, hash_ends, hash_as}
use Rattle.table_unique.proofs.hash.Goals as goal

pub loop-z-init : goal.loop-z-init
loop-z-init c = (omega arith, refl)

pub added-h-requires-in-loop-z : goal.added-h-requires-in-loop-z
added-h-requires-in-loop-z c = c.loop-z.invariant.0

pub next-k-requires : goal.next-k-requires
next-k-requires c = c.loop-z.invariant.0

pub loop-z-preserved : goal.loop-z-preserved
loop-z-preserved c = (
  c.next-k.ensures.1,
  hash_goes c.args.x.n c.struct_told-1.given.1.0.1.0.1 _ _
      c.loop-z.h c.loop-z.k c.loop-z.z-index c.loop-z.invariant.1 c.loop-z-test.true (back _ c.added-arg-1.given)
      c.added-h-in-loop-z.ensures c.next-k.ensures.0,
)

pub bucket-requires : goal.bucket-requires
bucket-requires c = c.requires

pub returns : goal.returns
returns c = let n = hash_ends c.args.x.n c.struct_told-1.given.1.0.1.0.1 _ _ c.loop-z.h c.loop-z.k
    c.loop-z.z-index c.loop-z.invariant.1 c.loop-z-test.false in
    let e = hash_as c.args.cap c.args.x (back _ c.struct_told-1.given.0.1) (back _ c.struct_told-2-1.given.1.1.0.1)
    (back _ c.struct_told-3-1.given.1.1.1.0.1) c.added-h.ensures n c.added.ensures c.added-2.ensures
    c.bucket.ensures.0 in
    (e, c.bucket.ensures.1)
