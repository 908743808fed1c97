-- What a sum of a text is worked out to.
use Rattle.std.specs.Prelude.{◌≡◌, true, false, List, [], ◌∷◌, ℕ, ◌≤◌, eqb, length, drop}
use Rattle.whole.specs.Cases.{if}
use Rattle.import_grammar.specs.Grammar.{Spaces, Sum, deepest, spaces_bytes, sum_bytes}
use Rattle.import_numbers.specs.Numbers.{linear_of, nine, sum_numbers, all_within}
use Rattle.import_frames.specs.Frames.{digit, of_sum}
use Rattle.import_sum_at.specs.declared.Worked.{Worked}

-- what may stand behind a sum: the end, or a byte that is none of a sum's but ")"
pub data BehindSum : List ℕ → Type 0 where
  nothing : BehindSum []
  other : {k : ℕ} {w : List ℕ} → digit k ≡ false → eqb k 40 ≡ false → if (eqb k 41) true (if (of_sum k) false true) ≡ true → BehindSum (k ∷ w)

-- the linear of the sum, and the place of what stands behind it
pub record FoundSum {n : ℕ} (w : List ℕ) (s : Sum n) (g : List ℕ) (r : Worked) : Type 0 where
  pub fine : r.beyond ≡ false
  pub linear_is : r.linear ≡ nine (linear_of n s)
  pub place : drop r.next w ≡ g

-- for each reading: "a number beyond signed 32 bits, written, worked out", or the sum's linear
pub record SumWorks (w : List ℕ) (at : ℕ) (r : Worked) : Type 0 where
  pub within : r.next ≤ length w
  pub found : (n : ℕ) (s : Sum n) → n ≤ deepest → (p : Spaces) (g : List ℕ) → BehindSum g → drop at w ≡ sum_bytes s (spaces_bytes p g) → all_within (sum_numbers n s) ≡ true → FoundSum w s g r
  pub lost : (n : ℕ) (s : Sum n) → n ≤ deepest → (p : Spaces) (g : List ℕ) → BehindSum g → drop at w ≡ sum_bytes s (spaces_bytes p g) → all_within (sum_numbers n s) ≡ false → r.beyond ≡ true
