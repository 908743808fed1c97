-- `table_cache::keep` meets its contract: the entry's six words lie within the work words, for its place has room for
-- them (`slot`); the six writes are `store_of` by definition.
use mathlib.Core.Path.{ap}
use Prim.Native.Nat.{ℕ}
use lib.ListN.{length-set}
use native.Mathlib.Omega.{arith}
use Rattle.table_cache.specs.Cache.{store_of}
use Rattle.table_cache.proofs.keep.Goals as goal

pub bounds-work-at-2 : goal.bounds-work-at-2
bounds-work-at-2 c = simp length-set (omega (arith, c.requires.0.works, c.slot-at.ensures.1))

pub bounds-work-at-3 : goal.bounds-work-at-3
bounds-work-at-3 c = simp length-set (omega (arith, c.requires.0.works, c.slot-at.ensures.1))

pub bounds-work-at-4 : goal.bounds-work-at-4
bounds-work-at-4 c = simp length-set (omega (arith, c.requires.0.works, c.slot-at.ensures.1))

pub bounds-work-at-5 : goal.bounds-work-at-5
bounds-work-at-5 c = simp length-set (omega (arith, c.requires.0.works, c.slot-at.ensures.1))

pub bounds-work-at-6 : goal.bounds-work-at-6
bounds-work-at-6 c = simp length-set (omega (arith, c.requires.0.works, c.slot-at.ensures.1))

pub returns : goal.returns
unfolding store_of
returns c = ap (λ (k : ℕ). store_of c.args.work.now k c.args.op c.args.f c.args.g
    c.args.p c.args.q c.args.r) c.slot-at.ensures.0
