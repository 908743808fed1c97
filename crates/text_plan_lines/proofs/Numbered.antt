-- The lines of a listing by the numbers that the code writes.
use mathlib.Core.Path.{◌≡◌, refl, sym, ap, ◌∙◌}
use mathlib.Core.Bool.{Bool, true, false}
use mathlib.Core.List.{List, [], ◌∷◌, ◌++◌, map, append_assoc}
use Prim.Native.Nat.{ℕ, ◌+◌, ◌-◌, ◌*◌, ◌≤◌, ◌<◌}
use native.Mathlib.Omega.{arith}
use Rattle.std.proofs.lemmas.List.{map-id}
use borrow.Author.Tests.{eq-eqb, ne_eqb}
use lib.Dec.{eqb}
use lib.IntN.{ℤ, pos, nat_abs}
use lib.ListN.{length, get_or, take, drop, length-append, length-take}
use Rattle.whole.specs.Cases.{if}
use Rattle.theory.specs.Widths.{node_words, levels_most}
use Rattle.theory.specs.Verdict.{refusal}
use Rattle.theory.specs.Value.{node_word, node_linear, high_of, low_of}
use Rattle.theory.specs.Listing.{spaced, spaced_all, line, numbers_of, first_line, node_line, stage_line, refusal_line}
use Rattle.table_rows.specs.Row.{Inside}
use Rattle.table_rows.proofs.Rowed.{take_more}
use Rattle.model_progress.specs.declared.Site.{Site}
use Rattle.model_progress.specs.GivenFlags.{site_as}
use Rattle.text_plan_lines.specs.Lines.{node_rest}

pub first_is :
    (s : Site) (h : ℕ) {xs : List ℕ} →
    xs ≡ s.levels ∷ s.conditions ∷ s.actions ∷ s.weights ∷ h ∷ [] →
    line (80 ∷ 76 ∷ 65 ∷ 78 ∷ []) (map pos xs) ≡ first_line (site_as s) h
unfolding first_line
first_is s h e = ap (λ (l : List ℕ). line (80 ∷ 76 ∷ 65 ∷ 78 ∷ []) (map pos l)) e

pub stage_is : (stages : List ℕ) (h : ℕ) {xs : List ℕ} → xs ≡ h ∷ get_or stages (h - 1) 0 ∷ [] → line (83 ∷ []) (map pos xs) ≡ stage_line stages h
unfolding stage_line
stage_is stages h e = ap (λ (l : List ℕ). line (83 ∷ []) (map pos l)) e

pub refusal_is : (number place : ℕ) → line (82 ∷ []) (map pos (number ∷ place ∷ [])) ≡ refusal_line (refusal number place)
unfolding refusal_line
refusal_is number place = refl

-- ---- nodes

-- a line whose start has a part before it, whichever of four it is
behind :
    (s x y u z : List ℕ) (l₀ l₁ l₂ m₀ m₂ : List ℤ) →
    l₀ ≡ m₀ →
    l₂ ≡ m₂ →
    (a b d : Bool) →
    if a (line (s ++ x) l₀) (if b (line (s ++ y) l₁) (if d (line (s ++ u) []) (line (s ++ z) l₂))) ≡ s ++ if a (line x m₀) (if b (line y l₁) (if d (line u []) (line z m₂)))
behind s x y u z l₀ l₁ l₂ m₀ m₂ p q true b d = append_assoc s x (spaced_all l₀ ++ (10 ∷ [])) ∙ ap (λ (l : List ℤ). s ++ line x l) p
behind s x y u z l₀ l₁ l₂ m₀ m₂ p q false true d = append_assoc s y (spaced_all l₁ ++ (10 ∷ []))
behind s x y u z l₀ l₁ l₂ m₀ m₂ p q false false true = append_assoc s u (spaced_all [] ++ (10 ∷ []))
behind s x y u z l₀ l₁ l₂ m₀ m₂ p q false false false = append_assoc s z (spaced_all l₂ ++ (10 ∷ [])) ∙ ap (λ (l : List ℤ). s ++ line z l) q

first_of : (a : Bool) (x y : List ℕ) → a ≡ true → x ≡ if a x y
first_of true x y e = refl
first_of false x y e = absurd (let z : ◌≡◌ {A = ℕ} 0 1 = cc in omega arith)

second_of : (a : Bool) (x y : List ℕ) → a ≡ false → y ≡ if a x y
second_of true x y e = absurd (let z : ◌≡◌ {A = ℕ} 0 1 = cc in omega arith)
second_of false x y e = refl

-- where a node's numbers begin
abbrev pub from : ℕ → ℕ
from r = (r - 1) * node_words + 1

-- a part has no more words than were asked for
pub part_few : (W : List ℤ) (at k : ℕ) → length (take (at + k - at) (drop at W)) ≤ k
part_few W at k = omega (arith, length-take (at + k - at) (drop at W))

module _ (W : List ℤ) (r : ℕ) (h : Inside W r) where
  -- word k of a node, of those that stand before it and it
  one_more : (k : ℕ) → k < levels_most + 3 → take (k + 1) (drop (from r) W) ≡ take k (drop (from r) W) ++ (node_word W r (k + 1) ∷ [])
  one_more k l = take_more W (from r) k ((r - 1) * node_words + (k + 1)) (omega arith) (omega (arith, h.above, h.within))

  up_to_high : numbers_of (node_linear W r) ++ (high_of W r ∷ []) ≡ take (levels_most + 2) (drop (from r) W)
  unfolding node_linear
  up_to_high =
      ap (λ (l : List ℤ). l ++ (high_of W r ∷ [])) (sym (one_more levels_most (omega arith)))
      ∙ sym (one_more (levels_most + 1) (omega arith))

  up_to_low : numbers_of (node_linear W r) ++ (high_of W r ∷ low_of W r ∷ []) ≡ take (levels_most + 3) (drop (from r) W)
  up_to_low =
      sym (append_assoc (numbers_of (node_linear W r)) (high_of W r ∷ []) (low_of W r ∷ []))
      ∙ ap (λ (l : List ℤ). l ++ (low_of W r ∷ [])) up_to_high
      ∙ sym (one_more (levels_most + 2) (omega arith))

  pub node_is : node_line W r ≡ (78 ∷ spaced (pos r)) ++ node_rest W r
  unfolding node_line node_rest
  node_is = behind (78 ∷ spaced (pos r)) (32 ∷ 86 ∷ []) (32 ∷ 66 ∷ []) (32 ∷ 88 ∷ []) (32 ∷ 76 ∷ [])
      (numbers_of (node_linear W r) ++ (high_of W r ∷ []))
      (node_word W r 1 ∷ high_of W r ∷ low_of W r ∷ [])
      (numbers_of (node_linear W r) ++ (high_of W r ∷ low_of W r ∷ []))
      (take (levels_most + 2) (drop (from r) W))
      (take (levels_most + 3) (drop (from r) W))
      up_to_high
      up_to_low
      (eqb (nat_abs (node_word W r 0)) 0)
      (eqb (nat_abs (node_word W r 0)) 1)
      (eqb (nat_abs (node_word W r 0)) 3)

  pub node_length : length (node_line W r) ≡ 1 + (length (spaced (pos r)) + length (node_rest W r))
  node_length = ap length node_is ∙ omega (arith, length-append (spaced (pos r)) (node_rest W r))

-- the kind that the code found, k
module _ (W : List ℤ) (r k : ℕ) (e : k ≡ nat_abs (node_word W r 0)) where
  is : (n : ℕ) → k ≡ n → eqb (nat_abs (node_word W r 0)) n ≡ true
  is n z = eq-eqb (nat_abs (node_word W r 0)) n (sym e ∙ z)

  is_not : (n : ℕ) → (k ≡ n → ⊥) → eqb (nat_abs (node_word W r 0)) n ≡ false
  is_not n f = ne_eqb (nat_abs (node_word W r 0)) n (λ z. f (e ∙ z))

  pub rest_leaf : k ≡ 0 → line (32 ∷ 86 ∷ []) (map (λ (z : ℤ). z) (take (from r + (levels_most + 2) - from r) (drop (from r) W))) ≡ node_rest W r
  unfolding node_rest
  rest_leaf z =
      let n : from r + (levels_most + 2) - from r ≡ levels_most + 2 = omega arith in
      ap (line (32 ∷ 86 ∷ [])) (map-id _)
      ∙ ap (λ (i : ℕ). line (32 ∷ 86 ∷ []) (take i (drop (from r) W))) n ∙ first_of (eqb (nat_abs (node_word W r 0)) 0) _ _ (is 0 z)

  pub rest_condition : {xs : List ℤ} → k ≡ 1 → xs ≡ node_word W r 1 ∷ high_of W r ∷ low_of W r ∷ [] → line (32 ∷ 66 ∷ []) (map (λ (z : ℤ). z) xs) ≡ node_rest W r
  unfolding node_rest
  rest_condition z x =
      ap (line (32 ∷ 66 ∷ [])) (map-id _ ∙ x)
      ∙ first_of (eqb (nat_abs (node_word W r 0)) 1) _ _ (is 1 z)
      ∙ second_of (eqb (nat_abs (node_word W r 0)) 0) _ _ (is_not 0 (λ (o : k ≡ 0). omega arith))

  pub rest_none : k ≡ 3 → 32 ∷ 88 ∷ 10 ∷ [] ≡ node_rest W r
  unfolding node_rest spaced_all
  rest_none z =
      first_of (eqb (nat_abs (node_word W r 0)) 3) _ _ (is 3 z)
      ∙ second_of (eqb (nat_abs (node_word W r 0)) 1) _ _ (is_not 1 (λ (o : k ≡ 1). omega arith))
      ∙ second_of (eqb (nat_abs (node_word W r 0)) 0) _ _ (is_not 0 (λ (o : k ≡ 0). omega arith))

  pub rest_test : (k ≡ 1 → ⊥) → (k ≡ 3 → ⊥) → (k ≡ 0 → ⊥) → line (32 ∷ 76 ∷ []) (map (λ (z : ℤ). z) (take (from r + (levels_most + 3) - from r) (drop (from r) W))) ≡ node_rest W r
  unfolding node_rest
  rest_test o x z =
      let n : from r + (levels_most + 3) - from r ≡ levels_most + 3 = omega arith in
      ap (line (32 ∷ 76 ∷ [])) (map-id _)
      ∙ ap (λ (i : ℕ). line (32 ∷ 76 ∷ []) (take i (drop (from r) W))) n
      ∙ second_of (eqb (nat_abs (node_word W r 0)) 3) _ _ (is_not 3 x)
      ∙ second_of (eqb (nat_abs (node_word W r 0)) 1) _ _ (is_not 1 o)
      ∙ second_of (eqb (nat_abs (node_word W r 0)) 0) _ _ (is_not 0 z)
