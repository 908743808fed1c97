-- A name and the spaces behind it; a line of three parts.
use mathlib.Core.Path.{◌≡◌, sym, ap, ◌∙◌}
use mathlib.Core.List.{List, [], ◌∷◌, ◌++◌, append_assoc}
use Prim.Native.Nat.{ℕ, zero, suc, ◌-◌, ◌≤◌}
use native.Mathlib.Omega.{arith}
use lib.IntN.{ℤ, pos}
use lib.ListN.{length, take, drop, replicate, length-append, length-replicate}
use lib.Seq.{take_all, drop-append-le}
use Rattle.text_decimal.specs.Put.{PutAt}
use Rattle.text_decimal.proofs.Puts.{then, rename}
use Rattle.text_page_lines.specs.Page.{in_decimal, right, left, value_text, page_line}

fewer : (k n : ℕ) → k ≤ n → drop {A = ℕ} k (replicate n 32) ≡ replicate (n - k) 32
fewer zero n h = let e : n ≡ n - 0 = omega arith in ap (λ (j : ℕ). replicate {A = ℕ} j 32) e
fewer (suc k) zero h = absurd (omega arith)
fewer (suc k) (suc n) h = let e : n - k ≡ suc n - suc k = omega arith in fewer k n (omega arith) ∙ ap (λ (j : ℕ). replicate {A = ℕ} j 32) e

module _ (k : ℕ) {end : List ℕ} (h : k ≤ 16) (e : end ≡ replicate 16 32 ++ (10 ∷ [])) where
  pub rest_is : take (17 - k) (drop k end) ≡ replicate (16 - k) 32 ++ (10 ∷ [])
  rest_is =
      let d : drop k end ≡ replicate (16 - k) 32 ++ (10 ∷ []) = ap (drop k) e ∙ drop-append-le k (replicate 16 32) (10 ∷ []) (omega (arith, length-replicate {A = ℕ} 16 32)) ∙ ap (λ (l : List ℕ). l ++ (10 ∷ [])) (fewer k 16 h) in
      let n : length {A = ℕ} (replicate (16 - k) 32 ++ (10 ∷ [])) ≡ 17 - k = omega (arith, length-append {A = ℕ} (replicate (16 - k) 32) (10 ∷ []), length-replicate {A = ℕ} (16 - k) 32) in
      ap (take (17 - k)) d ∙ take_all (17 - k) (replicate (16 - k) 32 ++ (10 ∷ [])) (omega arith)

  pub rest_length : length (take (17 - k) (drop k end)) ≡ 17 - k
  rest_length = ap length rest_is ∙ omega (arith, length-append {A = ℕ} (replicate (16 - k) 32) (10 ∷ []), length-replicate {A = ℕ} (16 - k) 32)

pub name_put : {b b₁ b₂ t end : List ℕ} {at n m : ℕ} → at ≤ length b → length t ≤ 16 → end ≡ replicate 16 32 ++ (10 ∷ []) → PutAt b at t n b₁ → PutAt b₁ n
    (take (17 - length t) (drop (length t) end)) m b₂ → PutAt b at (left 16 t ++ (10 ∷ [])) m b₂
unfolding left
name_put {t = t} h k e p q = rename (sym (append_assoc t (replicate (16 - length t) 32) (10 ∷ []))) (then h p (rename (rest_is (length t) k e) q))

pub line_put : (h a : ℕ) (z : ℤ) (t : List ℕ) {b b₁ b₂ b₃ steps value : List ℕ} {at n m r : ℕ} → at ≤ length b
    → steps ≡ right 2 (in_decimal (pos h)) ++ (32 ∷ []) → value ≡ right 30 (value_text a z) ++ (32 ∷ [])
    → PutAt b at steps n b₁ → PutAt b₁ n value m b₂ → PutAt b₂ m (left 16 t ++ (10 ∷ [])) r b₃ → PutAt b at (page_line h a z t) r b₃
unfolding page_line
line_put h a z t l e f p q s =
    rename (append_assoc (right 2 (in_decimal (pos h)) ++ (32 ∷ [])) (right 30 (value_text a z) ++ (32 ∷ [])) (left 16 t ++ (10 ∷ [])))
    (then l (then l (rename e p) (rename f q)) s)
