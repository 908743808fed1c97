-- A list filled element by element.
use mathlib.Core.Path.{◌≡◌, sym, ap, ap₂, ◌∙◌}
use mathlib.Core.List.{List, [], ◌∷◌, ◌++◌}
use Prim.Native.Nat.{ℕ, suc, ◌+◌, ◌≤◌, ◌<◌}
use native.Mathlib.Numerals.{add-one}
use native.Mathlib.Omega.{arith}
use lib.ListN.{length, get_or, set, drop, length-set, length-append}
use lib.Seq.{drop-cons, append_snoc, set_at}

-- the first i elements are P i, the others those of l
pub record Filled {A : Type 0} (P : ℕ → List A) (l : List A) (i : ℕ) (l' : List A) : Type 0 where
  pub is : l' ≡ P i ++ drop i l
  pub front : length (P i) ≡ i
  pub upto : i ≤ length l
  pub len : length l' ≡ length l

pub fill : {A : Type 0} (P : ℕ → List A) (l : List A) (v : A) {i : ℕ} {l' : List A} → P (i + 1) ≡ P i ++ (v ∷ []) → i < length l → Filled P l i l' → Filled P l (i + 1) (set l' i v)
fill {A} P l v {i} {l'} e h F = record {
  is =
      ap (λ (t : List A). set t i v) (F.is ∙ ap (λ (t : List A). P i ++ t) (drop-cons l i v h))
      ∙ (set_at (P i) (get_or l i v) (drop (suc i) l) v i F.front
      ∙ (sym (append_snoc (P i) v (drop (suc i) l))
      ∙ ap₂ (λ (s : List A) (k : ℕ). s ++ drop k l) (sym e) (sym (add-one i))));
  front = ap length e ∙ (length-append (P i) (v ∷ []) ∙ ap (λ (k : ℕ). k + 1) F.front);
  upto = omega arith;
  len = length-set l' i v ∙ F.len;
}
