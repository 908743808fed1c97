-- Totals, and how they are judged.
use Rattle.std.specs.Prelude.{◌≡◌, Bool, true, false, ℕ, ℤ, pos, ◌+ℤ◌, ◌*ℤ◌, Option, Some, None}
use Rattle.whole.specs.Cases.{if}
use Rattle.whole.specs.Within.{Small, limited}
use Rattle.theory.specs.Plain.{Worth, is, nothing, over, in_32_bits, better, numbered}
use Rattle.plain_limits.specs.declared.Total.{Total}
use Rattle.plain_limits.specs.declared.Total.TheVariants as total

-- what document 01 says of a total
unfoldable pub total_of : Total → Worth
total_of (total.Is v a) = is v a
total_of total.None = nothing
total_of total.Over = over

-- a numerator where it has 32 bits
unfoldable pub judged_32 : ℤ → Option ℤ
judged_32 z = if (in_32_bits z) (Some z) None

-- the product of two numbers, all three judged
unfoldable pub times_of : Option ℤ → Option ℤ → Option ℤ
times_of (Some p) (Some z) = limited (p *ℤ z)
times_of (Some p) None = None
times_of None z = None

unfoldable pub plus_of : ℤ → Option ℤ → Option ℤ
plus_of s (Some p) = limited (s +ℤ p)
plus_of s None = None

-- a number as a worth
unfoldable pub summed : Option ℤ → Worth
summed (Some z) = is z 0
summed None = over

-- the running sum with weight × worth: it "leaves an action at its first .. none"
unfoldable pub added_of : Worth → ℕ → Worth → Worth
added_of (is s _) w (is v a) = summed (plus_of s (limited (pos w *ℤ v)))
added_of (is s _) w nothing = nothing
added_of (is s _) w over = over
added_of nothing w t = nothing
added_of over w t = over

-- the best so far and action a's worth
unfoldable pub tried : Worth → ℕ → Worth → Worth
tried (is v b) a t = better v b a t
tried nothing a t = numbered a t
tried over a t = over

-- a running sum within its limits, of no action
unfoldable pub KeptSum : Worth → Type 0
KeptSum (is z a) = Small z × (a ≡ 0)
KeptSum nothing = Unit {0}
KeptSum over = Unit {0}

-- a sum to which no setting is added
unfoldable pub stopped : Worth → Bool
stopped (is v a) = false
stopped nothing = true
stopped over = true

unfoldable pub is_over : Worth → Bool
is_over (is v a) = false
is_over nothing = false
is_over over = true
