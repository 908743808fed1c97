-- What a test of 32 bits says, the loop over nine numbers, and products as they are read back.
use mathlib.Core.Path.{◌≡◌, sym, ap, ◌∙◌}
use mathlib.Core.Bool.{Bool, true, false, ◌&&◌}
use mathlib.Core.List.{List}
use Prim.Native.Nat.{ℕ, ◌+◌, ◌-◌, ◌≤◌, ◌<◌, ◌^◌}
use native.Mathlib.Omega.{arith}
use borrow.Author.Tests.{le-ltb}
use lib.IntN.{ℤ, pos, negsuc}
use lib.ListN.{length, get_or, set, drop, drop_of_length-le}
use lib.Signed.{mag, le_z}
use mir.Syntax.{w64}
use mir.Val.{SFits}
use Rattle.whole.specs.Cases.{if}
use Rattle.whole.specs.Linears.{numbers, clip_list, eq_list}
use Rattle.whole.specs.LinearsLaws.{rest}
use Rattle.whole.proofs.Signed.{R, back}
use Rattle.theory.specs.Plain.{in_32_bits}
use Rattle.import_numbers.specs.Numbers.{all_within}
use Rattle.import_linears.specs.Nine.{constant9, level9, last, flat, multiplied}

abbrev least : ℤ
least = negsuc 2147483647

module _ (z : ℤ) (f : SFits w64 z) where
  pub below : le_z least (R z) ≡ false → false ≡ in_32_bits z
  unfolding in_32_bits
  below t = sym (ap (λ (b : Bool). b && le_z z (pos 2147483647)) (ap (le_z least) (sym (back z f)) ∙ t))

  pub above : le_z least (R z) ≡ true → le_z (R z) (pos 2147483647) ≡ in_32_bits z
  unfolding in_32_bits
  above t = ap (λ (y : ℤ). le_z y (pos 2147483647)) (back z f) ∙ sym (ap (λ (b : Bool). b && le_z z (pos 2147483647)) (ap (le_z least) (sym (back z f)) ∙ t))

-- what is left decides
module _ (a : List ℤ) (n : length a ≡ numbers) (i : ℕ) (is : all_within (drop i a) ≡ all_within a) where
  abbrev x : ℤ
  x = get_or a i (pos 0)

  here : i < numbers → (in_32_bits x && all_within (drop (i + 1) a)) ≡ all_within a
  unfolding all_within
  here h = sym (ap all_within (rest a i (omega arith))) ∙ is

  module _ (h : i < numbers) (f : mag x < 2 ^ 63) {r : Bool} (e : r ≡ in_32_bits (R x)) where
    read : r ≡ in_32_bits x
    read = e ∙ ap in_32_bits (back x (record { sfits = f }))

    pub one_out : r ≡ false → false ≡ all_within a
    one_out q = sym (ap (λ (b : Bool). b && all_within (drop (i + 1) a)) (sym read ∙ q)) ∙ here h

    pub one_in : r ≡ true → all_within (drop (i + 1) a) ≡ all_within a
    one_in q = sym (ap (λ (b : Bool). b && all_within (drop (i + 1) a)) (sym read ∙ q)) ∙ here h

  pub all_in : numbers ≤ i → true ≡ all_within a
  unfolding all_within
  all_in h = sym (ap all_within (drop_of_length-le a {i = i} (omega arith))) ∙ is

-- a number as it is read back
pub as_constant : (n : ℕ) {z : ℤ} → z ≡ pos n → constant9 z ≡ constant9 (pos n)
as_constant n e = ap constant9 e

pub level_is : (k : ℕ) → 49 ≤ k → k ≤ 56 → set (constant9 (pos 0)) (k - 49) (pos 1) ≡ level9 k
unfolding level9
level_is k g h = rw (le-ltb k 49 g, le-ltb 56 k h)

pub flat_as : (a : List ℤ) → mag (last a) < 2 ^ 63 → {r : Bool} → r ≡ eq_list a (constant9 (R (last a))) → r ≡ flat a
unfolding flat
flat_as a f e = e ∙ ap (λ (z : ℤ). eq_list a (constant9 z)) (back (last a) (record { sfits = f }))

module _ (p q : List ℤ) {b : Bool} (e : b ≡ flat p) where
  pub by_first : mag (last p) < 2 ^ 63 → b ≡ true → {r : List ℤ} → r ≡ clip_list (R (last p)) q → r ≡ multiplied p q
  unfolding multiplied
  by_first f t g = g ∙ (ap (λ (z : ℤ). clip_list z q) (back (last p) (record { sfits = f })) ∙ sym (ap (λ (c : Bool). if c (clip_list (last p) q) (clip_list (last q) p)) (sym e ∙ t)))

  pub by_second : mag (last q) < 2 ^ 63 → b ≡ false → {r : List ℤ} → r ≡ clip_list (R (last q)) p → r ≡ multiplied p q
  unfolding multiplied
  by_second f t g = g ∙ (ap (λ (z : ℤ). clip_list z p) (back (last q) (record { sfits = f })) ∙ sym (ap (λ (c : Bool). if c (clip_list (last p) q) (clip_list (last q) p)) (sym e ∙ t)))
