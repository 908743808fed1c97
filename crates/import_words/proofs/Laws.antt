-- A number of 32 bits as a word, its bytes, and the loop over nine numbers.
use mathlib.Core.Path.{◌≡◌, refl, sym, ap, ◌∙◌, subst}
use mathlib.Core.Bool.{true, false}
use mathlib.Core.List.{List, [], ◌∷◌, ◌++◌, append_assoc, append-nil}
use Prim.Native.Nat.{ℕ, zero, suc, ◌+◌, ◌-◌, ◌*◌, ◌≤◌, ◌<◌, ◌^◌, ◌/◌, ◌%◌}
use native.Mathlib.Omega.{arith}
use native.Mathlib.Numerals.{add-one}
use borrow.Author.Tests.{ltb-true}
use lib.Dec.{T, leb, leb→le}
use lib.IntN.{ℤ, pos, negsuc, nat_abs}
use lib.ListN.{length, take, get_or, length-append}
use lib.Seq.{take-suc, take_all, length-take-le}
use lib.Signed.{mag, lt_z}
use mir.Syntax.{w64}
use mir.Val.{SFits}
use Rattle.whole.specs.Cases.{both}
use Rattle.whole.specs.Linears.{numbers}
use Rattle.whole.proofs.Signed.{R, back}
use Rattle.theory.specs.Plain.{in_32_bits}
use Rattle.text_decimal.specs.Put.{PutAt}
use Rattle.text_decimal.proofs.Puts.{none, then, rename}
use Rattle.c_answers.specs.Answers.{le}
use Rattle.import_numbers.specs.Numbers.{all_within}
use Rattle.import_model.specs.Encode.{low_first, word_of, words_bytes}

-- ---- one number

pub as_low_first : (k n : ℕ) → le k n ≡ low_first k n
unfolding le low_first
as_low_first zero n = refl
as_low_first (suc k) n = ap (λ (l : List ℕ). n % 256 ∷ l) (as_low_first k (n / 256))

pub low_length : (k n : ℕ) → length (low_first k n) ≡ k
unfolding low_first
low_length zero n = refl
low_length (suc k) n = ap suc (low_length k (n / 256))

-- a negative number: its magnitude is at most 2³¹, and is taken from 2³²
pub record Below (z : ℤ) (n : ℕ) : Type 0 where
  pub few : n ≤ 2147483648
  pub is : 4294967296 - n ≡ word_of z

below_as : (z : ℤ) (n : ℕ) → T (in_32_bits z) → n ≡ nat_abs z → lt_z z (pos 0) ≡ true → Below z n
unfolding in_32_bits word_of
below_as (pos k) n t e l = absurd (omega (arith, ltb-true k 0 l))
below_as (negsuc k) n t e l =
    let h = leb→le k 2147483647 (both (leb k 2147483647) true t).0 in
    record { few = omega arith; is = omega arith }

pub not_below : (z : ℤ) (n : ℕ) → n ≡ nat_abs z → lt_z z (pos 0) ≡ false → n ≡ word_of z
unfolding word_of
not_below (pos k) n e l = e
not_below (negsuc k) n e l = absurd (let z : ◌≡◌ {A = ℕ} 0 1 = cc in omega arith)

-- the same of a number as it is read back
module _ (z : ℤ) (n : ℕ) (f : SFits w64 z) (t : T (in_32_bits z)) (e : n ≡ nat_abs (R z)) where
  abs_is : n ≡ nat_abs z
  abs_is = e ∙ ap nat_abs (back z f)

  pub negative : lt_z (R z) (pos 0) ≡ true → Below z n
  negative l = below_as z n t abs_is (ap (λ (y : ℤ). lt_z y (pos 0)) (sym (back z f)) ∙ l)

  pub not_negative : lt_z (R z) (pos 0) ≡ false → n ≡ word_of z
  not_negative l = not_below z n abs_is (ap (λ (y : ℤ). lt_z y (pos 0)) (sym (back z f)) ∙ l)

pub word_back : (z : ℤ) → SFits w64 z → {n : ℕ} → n ≡ word_of (R z) → n ≡ word_of z
word_back z f e = e ∙ ap word_of (back z f)

-- ---- nine numbers

words_append : (a b : List ℤ) → words_bytes (a ++ b) ≡ words_bytes a ++ words_bytes b
unfolding words_bytes
words_append [] b = refl
words_append (z ∷ a) b =
    ap (λ (x : List ℕ). low_first 4 (word_of z) ++ x) (words_append a b)
    ∙ sym (append_assoc (low_first 4 (word_of z)) (words_bytes a) (words_bytes b))

words_one : (z : ℤ) → words_bytes (z ∷ []) ≡ low_first 4 (word_of z)
unfolding words_bytes
words_one z = append-nil (low_first 4 (word_of z))

pub words_end : (a : List ℤ) (z : ℤ) → words_bytes (a ++ (z ∷ [])) ≡ words_bytes a ++ low_first 4 (word_of z)
words_end a z = words_append a (z ∷ []) ∙ ap (λ (x : List ℕ). words_bytes a ++ x) (words_one z)

pub words_length : (a : List ℤ) → length (words_bytes a) ≡ length a * 4
unfolding words_bytes
words_length [] = refl
words_length (z ∷ a) = omega (arith, words_length a, length-append (low_first 4 (word_of z)) (words_bytes a), low_length 4 (word_of z))

none_yet : (a : List ℤ) → words_bytes (take 0 a) ≡ []
unfolding words_bytes
none_yet a = refl

one_more : (a : List ℤ) (i : ℕ) → i < length a → words_bytes (take (i + 1) a) ≡ words_bytes (take i a) ++ low_first 4 (word_of (get_or a i (pos 0)))
one_more a i h =
    ap (λ (k : ℕ). words_bytes (take k a)) (add-one i)
    ∙ ap words_bytes (take-suc a i (pos 0) h)
    ∙ words_end (take i a) (get_or a i (pos 0))

pub each_within : (a : List ℤ) (i : ℕ) → i < length a → T (all_within a) → T (in_32_bits (get_or a i (pos 0)))
unfolding all_within
each_within [] i h t = absurd (omega arith)
each_within (z ∷ a) zero h t = (both (in_32_bits z) (all_within a) t).0
each_within (z ∷ a) (suc i) h t = each_within a i (omega arith) (both (in_32_bits z) (all_within a) t).1

pub within_back : (a : List ℤ) → length a ≡ numbers → T (all_within a) → {i : ℕ} → i < numbers → mag (get_or a i (pos 0)) < 2 ^ 63 → T (in_32_bits (R (get_or a i (pos 0))))
within_back a n t {i} h f = subst (λ (y : ℤ). T (in_32_bits y)) (sym (back (get_or a i (pos 0)) (record { sfits = f }))) (each_within a i (omega (arith, n)) t)

-- i of them have been written
pub record Written (a : List ℤ) (before : List ℕ) (at i next : ℕ) (after : List ℕ) : Type 0 where
  pub few : i ≤ numbers
  pub kept : length after ≡ length before
  pub put : PutAt before at (words_bytes (take i a)) next after

pub begin : (a : List ℤ) (out : List ℕ) (at : ℕ) → Written a out at 0 at out
begin a out at = record { few = omega arith; kept = refl; put = rename (sym (none_yet a)) (none out at) }

module _ (a : List ℤ) (n : length a ≡ numbers) (before : List ℕ) (at : ℕ) (fits : at + 36 ≤ length before) {i next : ℕ} {after : List ℕ} (w : Written a before at i next after) where
  place : next ≡ at + i * 4
  place = omega (arith, w.put.behind, words_length (take i a), length-take-le i a (omega (arith, n, w.few)))

  pub room : i < numbers → next + 4 ≤ length after
  room h = omega (arith, place, w.kept, fits)

  pub further : i < numbers → mag (get_or a i (pos 0)) < 2 ^ 63 → {next' : ℕ} {after' : List ℕ} → length after' ≡ length after
      → PutAt after next (low_first 4 (word_of (R (get_or a i (pos 0))))) next' after' → Written a before at (i + 1) next' after'
  further h f k p =
      let z = get_or a i (pos 0) in
      let e : low_first 4 (word_of (R z)) ≡ low_first 4 (word_of z) = ap (λ (y : ℤ). low_first 4 (word_of y)) (back z (record { sfits = f })) in
      record { few = omega arith; kept = k ∙ w.kept; put = rename (sym (one_more a i (omega (arith, n)))) (then (omega (arith, fits)) w.put (rename e p)) }

  pub all_put : numbers ≤ i → PutAt before at (words_bytes a) next after
  all_put h = rename (ap words_bytes (take_all i a (omega (arith, n)))) w.put
