-- The loops over a linear's numbers: what a turn does, and what the last one leaves.
use Rattle.std.proofs.Common.{◌≡◌, ℕ, ◌+◌, ◌-◌, ◌^◌, ◌<◌, ◌≤◌, Bool, true, false, ◌&&◌, List, [], ◌∷◌, length, get_or, take, drop, ℤ, pos, ◌+ℤ◌, ◌-ℤ◌, ◌*ℤ◌, nat_abs, sym, refl, ap, ◌∙◌, subst, ap₂, arith, drop_of_length-le, length-take-le, w64, SFits, le-leb}
use borrow.Author.Tests.{lt-leb}
use lib.Signed.{mag, quot_z}
use Rattle.whole.specs.Divisor.{gcd_of, gcd_all, at_least_one, least_positive}
use Rattle.whole.specs.Linears.{coefficients, numbers, Smalls, smalls, add_list, sub_list, clipped, clip_list, quot_list, divisor_list}
use Rattle.whole.specs.LinearsLaws.{add_length, add_at, sub_length, sub_at, clip_length, clip_at, quot_length, quot_at, rest}
use Rattle.whole.specs.Within.{limit, Small, small}
use Rattle.whole.proofs.Clipped.{times_back}
use Rattle.whole.proofs.Euclid.{gcd_small}
use Rattle.whole.proofs.Divided.{least_small, part}
use Rattle.whole.proofs.Filled.{Filled, all_filled}
use Rattle.whole.proofs.Laws.{sum_fits, difference_fits}
use Rattle.whole.proofs.Signed.{R, back, small_fits, small_back}

-- ---- sums and differences

module _ (a b : ℤ) (p : Small a) (q : Small b) where
  pub add_fits : SFits w64 (R a +ℤ R b)
  add_fits = sum_fits a b (small_fits a p) (small_fits b q) (p, q)

  pub add_is : R (R a +ℤ R b) ≡ a +ℤ b
  add_is = back (R a +ℤ R b) add_fits ∙ ap₂ ◌+ℤ◌ (small_back a p) (small_back b q)

  pub sub_fits : SFits w64 (R a -ℤ R b)
  sub_fits = difference_fits a b (small_fits a p) (small_fits b q) (p, q)

  pub sub_is : R (R a -ℤ R b) ≡ a -ℤ b
  sub_is = back (R a -ℤ R b) sub_fits ∙ ap₂ ◌-ℤ◌ (small_back a p) (small_back b q)

module _ (a b : List ℤ) (s : Smalls a × Smalls b) where
  same_length : length a ≡ length b
  same_length = s.0.long ∙ sym s.1.long

  pub added : {i : ℕ} {out : List ℤ} → Filled numbers (λ k. get_or a k (pos 0) +ℤ get_or b k (pos 0)) i out → numbers ≤ i → out ≡ add_list a b
  added F h = all_filled (add_list a b) F h (add_length a b same_length ∙ s.0.long) (λ k q. add_at a b same_length k)

  pub subtracted : {i : ℕ} {out : List ℤ} → Filled numbers (λ k. get_or a k (pos 0) -ℤ get_or b k (pos 0)) i out → numbers ≤ i → out ≡ sub_list a b
  subtracted F h = all_filled (sub_list a b) F h (sub_length a b same_length ∙ s.0.long) (λ k q. sub_at a b same_length k (let w = s.0.long in omega arith))

-- ---- products

pub multiplied : (z : ℤ) (a : List ℤ) → length a ≡ numbers → {i : ℕ} {out : List ℤ} → Filled numbers (λ k. clipped (z *ℤ get_or a k (pos 0))) i out → numbers ≤ i → out ≡ clip_list z a
multiplied z a n F h = all_filled (clip_list z a) F h (clip_length z a ∙ n) (λ k q. clip_at z a k (omega arith))

-- ---- limits: what is left decides

module _ (a : List ℤ) (n : length a ≡ numbers) (i : ℕ) (is : smalls (drop i a) ≡ smalls a) where
  abbrev x : ℤ
  x = get_or a i (pos 0)

  here : i < numbers → (small x && smalls (drop (i + 1) a)) ≡ smalls a
  unfolding smalls
  here h = sym (ap smalls (rest a i (omega arith))) ∙ is

  module _ (h : i < numbers) (f : mag x < 2 ^ 63) {r : ℕ} (e : r ≡ nat_abs (R x)) where
    pub one_over : limit < r → false ≡ smalls a
    unfolding small
    one_over q = sym (ap (λ (b : Bool). b && smalls (drop (i + 1) a)) (lt-leb (nat_abs x) limit (let w = e ∙ ap nat_abs (back x (record { sfits = f })) in omega arith))) ∙ here h

    pub one_fine : r ≤ limit → smalls (drop (i + 1) a) ≡ smalls a
    unfolding small
    one_fine q = sym (ap (λ (b : Bool). b && smalls (drop (i + 1) a)) (le-leb (nat_abs x) limit (let w = e ∙ ap nat_abs (back x (record { sfits = f })) in omega arith))) ∙ here h

  pub all_fine : numbers ≤ i → true ≡ smalls a
  unfolding smalls
  all_fine h = sym (ap smalls (drop_of_length-le a {i = i} (omega arith))) ∙ is

-- ---- the divisor, from the last coefficient to the first

get_d_take : (n : ℕ) (l : List ℤ) (k : ℕ) → k < n → get_or (take n l) k (pos 0) ≡ get_or l k (pos 0)
get_d_take n [] k h = ap (λ (r : List ℤ). get_or r k (pos 0)) (lib.Seq.take-nil n)
get_d_take Prim.Native.Nat.zero (x ∷ l) k h = absurd (omega arith)
get_d_take (Prim.Native.Nat.suc n) (x ∷ l) Prim.Native.Nat.zero h = refl
get_d_take (Prim.Native.Nat.suc n) (x ∷ l) (Prim.Native.Nat.suc k) h = get_d_take n l k (omega arith)

module _ (a : List ℤ) (n : length a ≡ numbers) where
  firsts : length (take coefficients a) ≡ coefficients
  firsts = length-take-le coefficients a (omega arith)

  pub gcd_none : 0 ≡ gcd_all (drop coefficients (take coefficients a))
  unfolding gcd_all
  gcd_none = ap gcd_all (sym (drop_of_length-le (take coefficients a) {i = coefficients} (let w = firsts in omega arith)))

  pub gcd_more : (i g r m : ℕ) → i ≤ coefficients → (i ≡ 0 → ⊥) → g ≡ gcd_all (drop i (take coefficients a)) → mag (get_or a (i - 1) (pos 0)) < 2 ^ 63 → m ≡ nat_abs
      (R (get_or a (i - 1) (pos 0))) → r ≡ gcd_of m g → r ≡ gcd_all (drop (i - 1) (take coefficients a))
  unfolding gcd_all
  gcd_more i g r m h z e f em er =
      let w = firsts in
      let j : i - 1 + 1 ≡ i = omega arith in
      er ∙ (ap₂ gcd_of (em ∙ (ap nat_abs (back (get_or a (i - 1) (pos 0)) (record { sfits = f })) ∙ ap nat_abs (sym (get_d_take coefficients a (i - 1) (omega arith))))) (e ∙ ap (λ (k : ℕ). gcd_all (drop k (take coefficients a))) (sym j))
      ∙ ap gcd_all (sym (rest (take coefficients a) (i - 1) (omega arith))))

gcd_all_small : (l : List ℤ) → ((k : ℕ) → Small (get_or l k (pos 0))) → gcd_all l ≤ limit
unfolding gcd_all
gcd_all_small [] f = omega arith
gcd_all_small (x ∷ l) f = gcd_small limit (nat_abs x) (gcd_all l) (f 0).small (gcd_all_small l (λ k. f (Prim.Native.Nat.suc k)))

-- ---- each divided

module _ (a : List ℤ) (s : Smalls a) where
  take_small : (k : ℕ) → Small (get_or (take coefficients a) k (pos 0))
  take_small k = go (lib.Dec.ltb k coefficients) refl
    where
      go : (b : Bool) → lib.Dec.ltb k coefficients ≡ b → Small (get_or (take coefficients a) k (pos 0))
      go true e = subst Small (sym (get_d_take coefficients a k (borrow.Author.Tests.ltb-true k coefficients e))) (s.each k)
      go false e = subst Small (sym (lib.ListN.get_or-eq_default (take coefficients a) (pos 0) (let w = firsts a s.long in let u = borrow.Author.Tests.ltb-false k coefficients e in omega arith))) (record { small = omega arith })

  divisor_fits : (0 < divisor_list a) × (divisor_list a ≤ limit)
  unfolding divisor_list
  divisor_fits = (least_positive _, least_small _ (gcd_small limit _ _ (s.each coefficients).small (gcd_all_small (take coefficients a) take_small)))

  pub divisor_fits_as : (g : ℕ) → g ≡ divisor_list a → (0 < g) × (g ≤ limit)
  divisor_fits_as g e = rw e divisor_fits

  pub part_is : (k g : ℕ) → g ≡ divisor_list a → {q : ℤ} → q ≡ quot_z (R (get_or a k (pos 0))) (pos g) → R q ≡ quot_z (get_or a k (pos 0)) (pos (divisor_list a))
  part_is k g m {q} e = part (get_or a k (pos 0)) (s.each k) g (divisor_list a) m q e

  pub divided_all : {i : ℕ} {out : List ℤ} → Filled numbers (λ k. quot_z (get_or a k (pos 0)) (pos (divisor_list a))) i out → numbers ≤ i → out ≡ quot_list (divisor_list a) a
  divided_all F h = all_filled (quot_list (divisor_list a) a) F h (quot_length (divisor_list a) a ∙ s.long) (λ k q. quot_at (divisor_list a) a k (let w = s.long in omega arith))

-- what the calls say of the divisor
pub divisor_is : (a : List ℤ) (m f g r : ℕ) → mag (get_or a coefficients (pos 0)) < 2 ^ 63 → m ≡ nat_abs (R (get_or a coefficients (pos 0))) → f ≡ gcd_all (take coefficients a) → g ≡ gcd_of m f → r ≡ at_least_one g → r ≡ divisor_list a
unfolding divisor_list
divisor_is a m f g r h em ef eg er = er ∙ ap at_least_one (eg ∙ ap₂ gcd_of (em ∙ ap nat_abs (back (get_or a coefficients (pos 0)) (record { sfits = h }))) ef)

-- the same, with k as it stands in a word
pub times_word : (k z : ℤ) {r : ℤ} → SFits w64 k → mag z < 2 ^ 63 → r ≡ clipped (R k *ℤ R z) → R r ≡ clipped (R k *ℤ z)
times_word k z {r} fk fz e = times_back k z fk fz e ∙ ap (λ (y : ℤ). clipped (y *ℤ z)) (sym (back k fk))

pub multiplied_word : (k : ℤ) (a : List ℤ) → SFits w64 k → length a ≡ numbers → {i : ℕ} {out : List ℤ} → Filled numbers (λ j. clipped (R k *ℤ get_or a j (pos 0))) i out → numbers ≤ i → out ≡ clip_list k a
multiplied_word k a f n F h = multiplied (R k) a n F h ∙ ap (λ (y : ℤ). clip_list y a) (back k f)
