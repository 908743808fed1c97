-- What holds of every number from 1 on: one more of them, and one that fails.
use mathlib.Core.Path.{◌≡◌, refl, sym, ap, ◌∙◌}
use mathlib.Core.Bool.{Bool, true, false, ◌&&◌}
use mathlib.Core.List.{List, [], ◌∷◌, ◌++◌}
use Prim.Native.Nat.{ℕ, ◌+◌, ◌-◌, ◌≤◌, ◌<◌}
use native.Mathlib.Omega.{arith}
use Rattle.theory.specs.Valid.{all}
use Rattle.theory.specs.Verdict.{from_to}
use Rattle.text_plan.proofs.Joined.{from_to_append}

and_assoc : (a b c : Bool) → a && (b && c) ≡ (a && b) && c
and_assoc true b c = refl
and_assoc false b c = refl

and_true : (a : Bool) → a && true ≡ a
and_true true = refl
and_true false = refl

and_false : (a : Bool) → a && false ≡ false
and_false true = refl
and_false false = refl

pub and_left : (a b : Bool) → a && b ≡ true → a ≡ true
and_left true b e = refl
and_left false b e = e

pub and_right : (a b : Bool) → a && b ≡ true → b ≡ true
and_right true b e = e
and_right false b e = absurd (let z : ◌≡◌ {A = ℕ} 0 1 = cc in omega arith)

module _ (p : ℕ → Bool) where
  -- it holds of 1 to k
  abbrev pub every : ℕ → Bool
  every k = all p (from_to 1 k)

  all_append : (l m : List ℕ) → all p (l ++ m) ≡ all p l && all p m
  unfolding all
  all_append [] m = refl
  all_append (x ∷ l) m = ap (λ (b : Bool). p x && b) (all_append l m) ∙ and_assoc (p x) (all p l) (all p m)

  one : (a : ℕ) → all p (from_to a 1) ≡ p a
  unfolding all from_to
  one a = and_true (p a)

  every_append : (k d : ℕ) → every (k + d) ≡ every k && all p (from_to (1 + k) d)
  every_append k d = ap (all p) (from_to_append 1 k d) ∙ all_append (from_to 1 k) (from_to (1 + k) d)

  every_more : (k : ℕ) → every (k + 1) ≡ every k && p (k + 1)
  every_more k =
      let e : 1 + k ≡ k + 1 = omega arith in
      every_append k 1 ∙ ap (λ (b : Bool). every k && b) (one (1 + k) ∙ ap p e)

  pub every_none : every 0 ≡ true
  unfolding all from_to
  every_none = refl

  pub every_true : (k : ℕ) → every k ≡ true → p (k + 1) ≡ true → every (k + 1) ≡ true
  every_true k a b = every_more k ∙ (λ i. a i && b i)

  pub every_false : (k last : ℕ) → k < last → p (k + 1) ≡ false → every last ≡ false
  every_false k last h b =
      let e : last ≡ k + 1 + (last - (k + 1)) = omega arith in
      let r : Bool = all p (from_to (1 + (k + 1)) (last - (k + 1))) in
      ap every e
      ∙ every_append (k + 1) (last - (k + 1))
      ∙ ap (λ (x : Bool). x && r) (every_more k ∙ ap (λ (x : Bool). every k && x) b ∙ and_false (every k))

  pub every_last : (last : ℕ) → 1 ≤ last → every last ≡ true → p last ≡ true
  every_last last h t =
      let e : last ≡ last - 1 + 1 = omega arith in
      ap p e ∙ and_right (every (last - 1)) (p (last - 1 + 1)) (sym (every_more (last - 1)) ∙ ap every (sym e) ∙ t)
