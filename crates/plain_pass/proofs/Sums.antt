-- The sum of a linear's products, read from the bytes: the levels that a point has, then the constant.
use mathlib.Core.Path.{◌≡◌, sym, ap, ap₂, ◌∙◌, subst}
use mathlib.Core.List.{List}
use Prim.Native.Nat.{ℕ, zero, suc, ◌+◌, ◌-◌, ◌≤◌, ◌<◌}
use native.Mathlib.Omega.{arith}
use lib.IntN.{ℤ, pos, ◌+ℤ◌, ◌*ℤ◌}
use lib.ListN.{length, get_or, drop}
use Rattle.whole.specs.Int.{ring}
use Rattle.whole.specs.Linears.{numbers, dot_list}
use Rattle.whole.specs.LinearsLaws.{rest}
use Rattle.whole.proofs.Products.{Added, all_added}
use Rattle.theory.specs.Widths.{levels_most}
use Rattle.theory.specs.Command.{signed_from, linear_at}
use Rattle.model_command.specs.CursorReadings.{linear_of}
use Rattle.model_command.proofs.Linears.{number_at, signed_length, signed_at, linear_read}
use Rattle.plain_pass.specs.declared.Point.{Point}
use Rattle.plain_pass.specs.Pass.{FlatPoint, numerator}
use Rattle.plain_pass.proofs.Turns.{numerator_sum}

-- a linear's numbers, in their order
abbrev pub listed : List ℕ → ℕ → List ℤ
listed B at = signed_from B at numbers

pub listed_long : (B : List ℕ) (at : ℕ) → length (listed B at) ≡ numbers
listed_long B at = signed_length B at numbers

pub listed_at : (B : List ℕ) (at k : ℕ) → k < numbers → get_or (listed B at) k (pos 0) ≡ number_at B at k
listed_at B at k h = signed_at B at numbers k h

listed_linear : (B : List ℕ) (at : ℕ) → linear_of (listed B at) ≡ linear_at B at
listed_linear B at = (linear_read B at {i = numbers} {out = listed B at} (record { upto = omega arith; long = listed_long B at; each = λ k h. listed_at B at k h }) (omega arith)).1

module _ (c n : List ℤ) (ec : length c ≡ numbers) (en : length n ≡ numbers) where
  -- a numerator 0 adds nothing
  zero_added : {i : ℕ} {s : ℤ} → i < numbers → get_or n i (pos 0) ≡ pos 0 → Added c n i s → Added c n (i + 1) s
  unfolding dot_list
  zero_added {i} {s} h z A =
      let a = get_or c i (pos 0) in
      let t = dot_list (drop (i + 1) c) (drop (i + 1) n) in
      let e : dot_list (drop i c) (drop i n) ≡ a *ℤ pos 0 +ℤ t = ap₂ dot_list (rest c i (omega arith)) (rest n i (omega arith)) ∙ ap (λ (y : ℤ). a *ℤ y +ℤ t) z in
      let f : a *ℤ pos 0 +ℤ t ≡ t = simp ring in
      record {
        upto = omega arith;
        is = ap (λ (y : ℤ). s +ℤ y) (sym (e ∙ f)) ∙ A.is;
        bounded = omega (arith, A.bounded);
      }

  rest_added : (m : ℕ) → ((k : ℕ) → m ≤ k → k < levels_most → get_or n k (pos 0) ≡ pos 0) → {s : ℤ} → Added c n m s → (j : ℕ) → m + j ≤ levels_most → Added c n (m + j) s
  rest_added m z {s} A zero h = subst (λ (k : ℕ). Added c n k s) (let q : m ≡ m + 0 = omega arith in q) A
  rest_added m z {s} A (suc j) h =
      subst (λ (k : ℕ). Added c n k s) (let q : m + j + 1 ≡ m + suc j = omega arith in q) (zero_added (omega arith) (z (m + j) (omega arith) (omega arith)) (rest_added m z A j (omega arith)))

-- beyond the levels all are 0
pub flat_added : (c : List ℤ) (x : Point) → length c ≡ numbers → length x.n ≡ numbers → FlatPoint x → {i : ℕ} {s : ℤ} → i ≤ x.levels → x.levels ≤ i → Added c x.n i s → Added c x.n levels_most s
flat_added c x ec en f {i} {s} u v A =
    let h = f.few in
    subst (λ (k : ℕ). Added c x.n k s) (let q : i + (levels_most - i) ≡ levels_most = omega arith in q)
    (rest_added c x.n ec en i (λ k a b. f.rest k (omega arith) b) A (levels_most - i) (omega arith))

-- with the constant added, the linear at the point
pub sum_is : (B : List ℕ) (at : ℕ) (x : Point) → length x.n ≡ numbers → {s : ℤ} → Added (listed B at) x.n numbers s → s ≡ numerator x (linear_at B at)
sum_is B at x en A =
    all_added (listed B at) x.n (listed_long B at) en A (omega arith)
    ∙ (numerator_sum (listed B at) x (listed_long B at) en ∙ ap (numerator x) (listed_linear B at))
