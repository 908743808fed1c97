-- `table_unique::hash` meets its contract: the sum so far, the factor, and the numbers that are left give the sum of all numbers; each factor is below 2³¹.
use Rattle.std.proofs.Common.{◌≡◌, ◌<◌, drop}
use Rattle.table_unique.specs.Unique.{factors_end, hash_list}
use Rattle.table_unique.proofs.hash.Given as goal

abbrev pub invariant-loop-z : goal.invariant-loop-z
invariant-loop-z l = (l.k < factors_end) × (hash_list l.h l.k (drop l.z-index l.fn.x.n) ≡ hash_list l.initial.h l.initial.k l.fn.x.n)
