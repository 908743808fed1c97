-- The stage words filled: with the roots' numbers, and with zeros behind them.
use mathlib.Core.Path.{◌≡◌, refl, ap, ap₂, ◌∙◌}
use mathlib.Core.List.{List, [], ◌∷◌, ◌++◌, map}
use Prim.Native.Nat.{ℕ, ◌+◌, ◌-◌, ◌≤◌, ◌<◌}
use native.Mathlib.Numerals.{add-one}
use native.Mathlib.Omega.{arith}
use lib.ListN.{length, get_or, set, take, drop, replicate, length-map}
use lib.Seq.{take-suc, take_all, take_at}
use Rattle.table_clear.proofs.Fill.{Filled, fill}
use Rattle.finish.specs.Finish.{numbers_of}

-- zeros, and nothing else
pub all_wiped : {A : Type 0} (z : A) (l : List A) {l' : List A} → l' ≡ take 0 l ++ replicate (length l - 0) z → l' ≡ replicate (length l) z
all_wiped z l e = e ∙ ap (λ (k : ℕ). replicate k z) (let q : length l - 0 ≡ length l = omega arith in q)

-- ---- the roots' numbers

map_last : {A B : Type 0} (g : A → B) (l : List A) (x : A) → map g (l ++ (x ∷ [])) ≡ map g l ++ (g x ∷ [])
map_last g [] x = refl
map_last {A} {B} g (y ∷ l) x = ap (λ (t : List B). g y ∷ t) (map_last g l x)

module _ (w : List ℕ) (cap : ℕ) (R s : List ℕ) where
  abbrev pub firsts : ℕ → List ℕ
  firsts j = numbers_of w cap (take j R)

  firsts_more : (j : ℕ) → j < length R → firsts (j + 1) ≡ firsts j ++ (get_or w (cap + get_or R j 0) 0 ∷ [])
  unfolding numbers_of
  firsts_more j h = ap (λ (k : ℕ). numbers_of w cap (take k R)) (add-one j) ∙ (ap (numbers_of w cap) (take-suc R j 0 h) ∙ map_last (λ r. get_or w (cap + r) 0) (take j R) (get_or R j 0))

  pub numbers_begin : Filled firsts s 0 s
  unfolding numbers_of
  numbers_begin = record { is = refl; front = refl; upto = omega arith; len = refl }

  pub numbers_go : length R ≤ length s → {j : ℕ} {s' : List ℕ} → Filled firsts s j s' → j < length R → Filled firsts s (j + 1) (set s' j (get_or w (cap + get_or R j 0) 0))
  numbers_go q {j} F h = fill firsts s (get_or w (cap + get_or R j 0) 0) (firsts_more j h) (omega arith) F

  pub numbers_length : length (numbers_of w cap R) ≡ length R
  unfolding numbers_of
  numbers_length = length-map R (λ r. get_or w (cap + r) 0)

  pub numbers_end : {j : ℕ} {s' : List ℕ} → Filled firsts s j s' → length R ≤ j → j ≤ length R → s' ≡ numbers_of w cap R ++ drop (length R) s
  numbers_end {j} F h k = F.is ∙ ap₂ (λ (t : List ℕ) (i : ℕ). numbers_of w cap t ++ drop i s) (take_all j R h) (let e : j ≡ length R = omega arith in e)

  -- with zeros behind them
  pub numbers_wiped : {s₁ s₂ : List ℕ} → length s₁ ≡ length s → s₁ ≡ numbers_of w cap R ++ drop (length R) s → s₂ ≡ take (length R) s₁ ++ replicate (length s₁ - length R) 0 → s₂ ≡ numbers_of w cap R ++ replicate (length s - length R) 0
  numbers_wiped {s₁} n e f = f ∙ ap₂ (λ (t : List ℕ) (k : ℕ). t ++ replicate (k - length R) 0) (ap (take (length R)) e ∙ take_at (numbers_of w cap R) (drop (length R) s) (length R) numbers_length) n
