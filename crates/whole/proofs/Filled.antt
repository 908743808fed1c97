-- A list filled number by number: the first i are those of f.
use Rattle.std.proofs.Common.{◌≡◌, ℕ, ◌+◌, ◌<◌, ◌≤◌, Bool, true, false, eqb, List, length, get_or, set, ℤ, pos, sym, refl, ap, ◌∙◌, arith, length-set, get_or-set_other, get_or-set_same, ext_get_or, eqb-true}
use borrow.Author.Tests.{eqb-false}

pub record Filled (n : ℕ) (f : ℕ → ℤ) (i : ℕ) (out : List ℤ) : Type 0 where
  pub upto : i ≤ n
  pub long : length out ≡ n
  pub each : (k : ℕ) → k < i → get_or out k (pos 0) ≡ f k

module _ {n : ℕ} {f : ℕ → ℤ} {out : List ℤ} where
  pub none_filled : length out ≡ n → Filled n f 0 out
  none_filled e = record { upto = omega arith; long = e; each = λ k h. absurd (omega arith) }

  pub one_filled : {i : ℕ} {z : ℤ} → Filled n f i out → i < n → z ≡ f i → Filled n f (i + 1) (set out i z)
  one_filled {i} {z} F h e = record {
    upto = omega arith;
    long = length-set out i z ∙ F.long;
    each = λ k q. go k q (eqb k i) (λ t. eqb-true k i t) (λ t. eqb-false k i t);
  }
    where
      go : (k : ℕ) → k < i + 1 → (b : Bool) → (b ≡ true → k ≡ i) → (b ≡ false → k ≡ i → ⊥) → get_or (set out i z) k (pos 0) ≡ f k
      go k q true y d = let s : k ≡ i = y refl in ap (λ (j : ℕ). get_or (set out i z) j (pos 0)) s ∙ (get_or-set_same out i z (pos 0) (let w = F.long in omega arith) ∙ (e ∙ ap f (sym s)))
      go k q false y d = let s = d refl in get_or-set_other out i k z (pos 0) s ∙ F.each k (omega arith)

  pub all_filled : {i : ℕ} (X : List ℤ) → Filled n f i out → n ≤ i → length X ≡ n → ((k : ℕ) → k < n → get_or X k (pos 0) ≡ f k) → out ≡ X
  all_filled X F h e g = ext_get_or (pos 0) out X (F.long ∙ sym e) (λ k q. let w = F.long in F.each k (omega arith) ∙ sym (g k (omega arith)))
