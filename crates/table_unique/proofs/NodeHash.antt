-- The hash of a node: products by halves, and what is left of its numbers decides.
use Rattle.std.proofs.Common.{◌≡◌, ℕ, ◌+◌, ◌*◌, ◌/◌, ◌%◌, ◌^◌, ◌<◌, ◌≤◌, List, length, get_or, drop, ℤ, pos, sym, ap, ◌∙◌, add-mul, mul-le-mul, mul_right_comm, arith, drop_of_length-le}
use Rattle.whole.specs.Linears.{numbers}
use Rattle.whole.specs.LinearsLaws.{rest}
use Rattle.table.specs.declared.Node.{Node}
use Rattle.table_unique.specs.Unique.{factors_end, added_of, next_of, hash_list, bucket_of, hash_of}

-- ---- a product by halves, of a factor that is all in its low half

module _ (a k : ℕ) (h : k < factors_end) where
  pub none : a * (k / 4294967296) ≡ 0
  none = let e : k / 4294967296 ≡ 0 = omega arith in let d : a * (k / 4294967296) ≡ a * 0 = ap (λ (z : ℕ). a * z) e in omega (arith, d)

  pub most : a < 4294967296 → a * (k % 4294967296) ≤ 9223372030412324865
  most q = mul-le-mul {n₁ = a} {m₁ = k % 4294967296} {n₂ = 4294967295} {m₂ = 2147483647} (omega arith) (omega arith)

pub product : (x k : ℕ) → k < factors_end → (x % 4294967296 * (k % 4294967296) + (x % 4294967296 * (k / 4294967296) + x / 4294967296 * (k % 4294967296)) % 4294967296 * 4294967296) % 2 ^ 64 ≡ x * k % 2 ^ 64
product x k h =
    let e : k % 4294967296 ≡ k = omega arith in
    let a : x % 4294967296 * (k % 4294967296) ≡ x % 4294967296 * k = ap (λ (z : ℕ). x % 4294967296 * z) e in
    let b : x / 4294967296 * (k % 4294967296) ≡ x / 4294967296 * k = ap (λ (z : ℕ). x / 4294967296 * z) e in
    let n = none (x % 4294967296) k h in
    let s : x ≡ x / 4294967296 * 4294967296 + x % 4294967296 = omega arith in
    let p : x * k ≡ x / 4294967296 * k * 4294967296 + x % 4294967296 * k = ap (λ (z : ℕ). z * k) s ∙
    (add-mul (x / 4294967296 * 4294967296) (x % 4294967296) k ∙ ap (λ (z : ℕ). z + x % 4294967296 * k) (mul_right_comm (x / 4294967296) 4294967296 k)) in
    omega (arith, a, b, n, p)

-- a share goes into the sum
pub added_as : (h b k : ℕ) {t r : ℕ} → t ≡ b * k % 2 ^ 64 → r ≡ (h + t) % 2 ^ 64 → r ≡ (h + b * k) % 2 ^ 64
added_as h b k e d = omega (arith, e, d)

-- ---- the numbers

module _ (l : List ℤ) (n : length l ≡ numbers) (h₀ k₀ h k i : ℕ) (is : hash_list h k (drop i l) ≡ hash_list h₀ k₀ l) where
  pub hash_goes : i < numbers → {z : ℤ} {g k' : ℕ} → z ≡ get_or l i (pos 0) → g ≡ added_of h z k → k' ≡ next_of k → hash_list g k' (drop (i + 1) l) ≡ hash_list h₀ k₀ l
  unfolding hash_list
  hash_goes q {z} {g} {k'} f e d =
      let w : hash_list g k' (drop (i + 1) l) ≡ hash_list (added_of h (get_or l i (pos 0)) k) (next_of k) (drop (i + 1) l) = cc (f, e, d) in
      w ∙ (ap (hash_list h k) (sym (rest l i (omega arith))) ∙ is)

  pub hash_ends : numbers ≤ i → h ≡ hash_list h₀ k₀ l
  unfolding hash_list
  hash_ends q = sym (ap (hash_list h k) (drop_of_length-le l {i = i} (omega arith))) ∙ is

-- the parts, whose words are those of x
pub hash_as : (cap : ℕ) (x : Node) {kind high low : ℤ} {a b c d r : ℕ} → kind ≡ x.kind → high ≡ x.high → low ≡ x.low → a ≡ added_of 0 kind 1640531527
    → b ≡ hash_list a 1367130551 x.n → c ≡ added_of b high 2024237689 → d ≡ added_of c low 1812433253 → r ≡ bucket_of d cap → r ≡ hash_of cap x
unfolding hash_of
hash_as cap x {kind} {high} {low} {a} {b} {c} {d} fk fh fl ea eb ec ed er =
    er ∙ ap (λ (k : ℕ). bucket_of k cap) (cc (ea, eb, ec, ed, fk, fh, fl))
