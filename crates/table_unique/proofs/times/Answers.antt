-- `table_unique::times` meets its contract: a factor is below 2³¹, so its high half is 0 and both products fit; the sum by halves is the product's last 64 bits.
use Rattle.std.proofs.Common.{◌/◌, ◌%◌, ◌∙◌, arith}
use Rattle.table_unique.proofs.NodeHash.{none, most, product}
use Rattle.table_unique.proofs.times.Goals as goal

pub overflow_mul-cross : goal.overflow_mul-cross
overflow_mul-cross c = let q = none (c.args.x % 4294967296) c.args.k c.requires in omega (arith, q)

pub overflow_mul-cross-2 : goal.overflow_mul-cross-2
overflow_mul-cross-2 c = let f = c.ranges.x.fits in let q = most (c.args.x / 4294967296) c.args.k c.requires (omega (arith, f)) in omega (arith, q)

pub overflow_add-cross : goal.overflow_add-cross
overflow_add-cross c = let f = c.ranges.x.fits in let n = none (c.args.x % 4294967296) c.args.k c.requires in let q = most (c.args.x / 4294967296) c.args.k c.requires (omega (arith, f)) in omega (arith, n, q)

pub overflow_mul-low : goal.overflow_mul-low
overflow_mul-low c = let q = most (c.args.x % 4294967296) c.args.k c.requires (omega arith) in omega (arith, q)

pub returns : goal.returns
returns c = c.wrapping_add_u64.ensures.value ∙ product c.args.x c.args.k c.requires
