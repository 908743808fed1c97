-- The bytes of a number as they are written one by one, and how many bytes an answer has.
use mathlib.Core.Path.{◌≡◌, refl, sym, ap, ◌∙◌, subst}
use mathlib.Core.List.{List, [], ◌∷◌, ◌++◌, append_assoc, append-nil}
use Prim.Native.Nat.{ℕ, zero, suc, ◌+◌, ◌-◌, ◌/◌, ◌%◌, ◌≤◌, ◌<◌}
use native.Mathlib.Omega.{arith}
use lib.ListN.{length, set, replicate, length-append}
use Rattle.text_decimal.specs.Put.{PutAt}
use Rattle.text_decimal.proofs.Puts.{none, put_next, then, rename, written_length}
use Rattle.c_answers.specs.Answers.{le, pair_bytes}

pub le_length : (k x : ℕ) → length (le k x) ≡ k
unfolding le
le_length zero x = refl
le_length (suc k) x = ap suc (le_length k _)

pub le_zeros : (k : ℕ) → le k 0 ≡ replicate k 0
unfolding le
le_zeros zero = refl
le_zeros (suc k) = ap (λ (l : List ℕ). 0 ∷ l) (le_zeros k)

-- ---- the loop

-- i of k bytes of x have been written, and rest has the others
pub record Begun (out₀ : List ℕ) (at x k : ℕ) (out : List ℕ) (rest i : ℕ) : Type 0 where
  pub few : i ≤ k
  pub bytes : List ℕ
  pub put : PutAt out₀ at bytes (at + i) out
  pub whole : bytes ++ le (k - i) rest ≡ le k x

pub begin : (out : List ℕ) (at x k : ℕ) → Begun out at x k out x 0
begin out at x k =
    let e : at ≡ at + 0 = omega arith in
    let f : k - 0 ≡ k = omega arith in
    record { few = omega arith; bytes = []; put = subst (λ (n : ℕ). PutAt out at [] n out) e (none out at); whole = ap (λ (n : ℕ). le n x) f }

module _ {out₀ out : List ℕ} {at x k rest i : ℕ} (s : Begun out₀ at x k out rest i) (h : at + k ≤ length out₀) where
  pub begun_length : length out ≡ length out₀
  begun_length =
      let e = s.put.behind in
      let f = s.few in
      ap length s.put.left ∙ written_length out₀ s.bytes at (omega arith)

  next_byte : i < k → le (k - i) rest ≡ (rest % 256) ∷ le (k - (i + 1)) (rest / 256)
  unfolding le
  next_byte l = let e : k - i ≡ suc (k - (i + 1)) = omega arith in ap (λ (n : ℕ). le n rest) e

  pub further : i < k → Begun out₀ at x k (set out (at + i) (rest % 256)) (rest / 256) (i + 1)
  further l =
      let b = s.bytes ++ ((rest % 256) ∷ []) in
      let e : at + i + 1 ≡ at + (i + 1) = omega arith in
      let p = put_next out₀ s.bytes b out at (at + i) (rest % 256) s.put (omega arith) refl in
      record {
        few = omega arith;
        bytes = b;
        put = subst (λ (n : ℕ). PutAt out₀ at b n (set out (at + i) (rest % 256))) e p;
        whole =
            append_assoc s.bytes ((rest % 256) ∷ []) (le (k - (i + 1)) (rest / 256))
            ∙ ap (λ (l : List ℕ). s.bytes ++ l) (sym (next_byte l))
            ∙ s.whole;
      }

  pub ended : k ≤ i → PutAt out₀ at (le k x) (at + i) out
  unfolding le
  ended l =
      let f = s.few in
      let e : 0 ≡ k - i = omega arith in
      rename (sym (append-nil s.bytes) ∙ ap (λ (n : ℕ). s.bytes ++ le n rest) e ∙ s.whole) s.put

-- ---- answers

pub pair_length : (place second : ℕ) → length (pair_bytes place second) ≡ 8
unfolding pair_bytes
pair_length place second = omega (arith, length-append (le 4 place) (le 4 second), le_length 4 place, le_length 4 second)

-- ---- parts of an answer, one behind the other

module _ {l l₁ l₂ : List ℕ} {n m : ℕ} where
  pub pair_put : (place second : ℕ) → PutAt l 0 (le 4 place) n l₁ → PutAt l₁ n (le 4 second) m l₂ → PutAt l 0 (pair_bytes place second) m l₂ × (m ≡ 8)
  unfolding pair_bytes
  pair_put place second p q =
      let a = p.behind in
      let b = q.behind in
      (then (omega arith) p q, omega (arith, le_length 4 place, le_length 4 second))
