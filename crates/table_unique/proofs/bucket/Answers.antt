use Rattle.std.proofs.Common.{ℕ, ◌+◌, ◌*◌, ◌/◌, ◌%◌, ◌≤◌, refl, mul-le-mul_right, arith}
use Rattle.table_unique.specs.Unique.{bucket_of}
use Rattle.table_unique.proofs.bucket.Goals as goal

-- 32 bits times the room
most : (s cap : ℕ) → (s % 4294967296 + s / 4294967296) % 4294967296 * cap ≤ 4294967295 * cap
most s cap = mul-le-mul_right cap (let z : (s % 4294967296 + s / 4294967296) % 4294967296 ≤ 4294967295 = omega arith in z)

pub overflow_mul-result : goal.overflow_mul-result
overflow_mul-result c = omega (arith, most c.args.sum c.args.cap)

pub returns : goal.returns
unfolding bucket_of
returns c = (refl, omega (arith, most c.args.sum c.args.cap))
