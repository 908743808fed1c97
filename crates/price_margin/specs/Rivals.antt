-- The largest worth of all actions but the best, kept beside the best.
use Rattle.std.specs.Prelude.{Bool, true, false}
use Rattle.std.specs.Int.Signed.{lt_z}
use Rattle.whole.specs.Cases.{if}
use Rattle.theory.specs.Plain.{Worth, is, nothing, over}
use Rattle.plain_limits.specs.Totals.{tried}

-- t is larger than the best so far: none loses to any worth
unfoldable pub beats : Worth → Worth → Bool
beats (is u _) (is v _) = lt_z v u
beats (is u _) nothing = true
beats (is u _) over = true
beats nothing best = false
beats over best = false

-- what is beaten is the largest of the others; else the larger of that and t is
unfoldable pub rival : Worth → Worth → Worth → Worth
rival best other t = if (beats t best) best (tried other 0 t)
