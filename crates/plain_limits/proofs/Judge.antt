-- Numbers judged: two words and 32 bits, sums and products, the best so far.
use Rattle.std.specs.Prelude.{Option, Some, None}
use mathlib.Core.Path.{◌≡◌, refl, sym, ap, ap₂, ◌∙◌, subst}
use mathlib.Core.Bool.{Bool, true, false, not, ◌&&◌}
use Prim.Native.Nat.{ℕ, suc, ◌+◌, ◌-◌, ◌*◌, ◌≤◌, ◌<◌}
use native.Mathlib.Nat.{mul-le-mul}
use native.Mathlib.Omega.{arith}
use borrow.Author.Tests.{ltb-true, ltb-false, le-leb, lt-leb, lt-ltb}
use lib.Dec.{T}
use lib.IntN.{ℤ, pos, negsuc, nat_abs, ◌+ℤ◌, ◌-ℤ◌, ◌*ℤ◌}
use lib.Signed.{le_z, lt_z}
use mir.Syntax.{w32, w64}
use mir.Val.{SFits, to_z}
use Rattle.whole.specs.Cases.{if, clash}
use Rattle.whole.specs.Int.{diff, dif_negsuc}
use Rattle.whole.specs.Within.{limit, limited, Small}
use Rattle.whole.specs.WithinLaws.{limited_is, limited_over, limited_gives, limited_lacks}
use Rattle.whole.specs.Numerator.{word}
use Rattle.whole.specs.NumeratorLaws.{below}
use Rattle.whole.specs.Magnitude.{abs_mul}
use Rattle.whole.proofs.Signed.{R, R32, back, back32, plain, by_abs, abs_back}
use Rattle.theory.specs.Plain.{Worth, is, nothing, over, in_32_bits, better, numbered}
use Rattle.theory.specs.Verdict.{or}
use Rattle.plain_limits.specs.declared.Total.{Total}
use Rattle.plain_limits.specs.declared.Total.TheVariants as total
use Rattle.plain_limits.specs.Totals.{total_of, judged_32, times_of, plus_of, added_of, summed, tried, KeptSum, stopped, is_over}

-- ---- products

module _ (a b : ℤ) (fa : SFits w64 a) (fb : SFits w64 b) where
  pub product_as : {r : Option ℤ} → r ≡ limited (R a *ℤ R b) → r ≡ limited (a *ℤ b)
  product_as e = e ∙ ap limited (ap₂ ◌*ℤ◌ (back a fa) (back b fb))

  -- magnitudes of 31 bits
  module _ {p q : ℕ} (ep : p ≡ nat_abs (R a)) (eq : q ≡ nat_abs (R b)) (hp : p ≤ 2147483647) (hq : q ≤ 2147483647) where
    short_small : nat_abs (a *ℤ b) ≤ limit
    short_small =
        let k : nat_abs a * nat_abs b ≤ 2147483647 * 2147483647 = mul-le-mul {n₁ = nat_abs a} {m₁ = nat_abs b} {n₂ = 2147483647} {m₂ = 2147483647} (omega (arith, abs_back a fa ep)) (omega (arith, abs_back b fb eq)) in
        rw (abs_mul a b) (omega (arith, k))

    pub short_fits : SFits w64 (R a *ℤ R b)
    short_fits = rw (back a fa, back b fb) (by_abs (a *ℤ b) (let k = short_small in omega arith))

    pub short_is : Some (R (R a *ℤ R b)) ≡ limited (a *ℤ b)
    short_is = ap Some (back (R a *ℤ R b) short_fits ∙ ap₂ ◌*ℤ◌ (back a fa) (back b fb)) ∙ sym (limited_is (a *ℤ b) short_small)

-- ---- within the limits, by magnitude

pub above_is : (n : ℕ) → n ≤ limit → Some (to_z w64 n) ≡ limited (pos n)
above_is n h = ap Some (plain n (omega arith)) ∙ sym (limited_is (pos n) h)

pub above_over : (n : ℕ) → limit < n → None ≡ limited (pos n)
above_over n h = sym (limited_over (pos n) h)

less : (n : ℕ) → negsuc 0 -ℤ pos n ≡ negsuc n
less n = simp (diff, dif_negsuc) (omega arith)

module _ (n : ℕ) (h : n < limit) where
  less_is : negsuc 0 -ℤ to_z w64 n ≡ negsuc n
  less_is = ap (λ (z : ℤ). negsuc 0 -ℤ z) (plain n (omega arith)) ∙ less n

  fits : SFits w64 (negsuc n)
  fits = by_abs (negsuc n) (omega arith)

  pub below_fits : SFits w64 (negsuc 0 -ℤ to_z w64 n)
  below_fits = rw less_is fits

  pub below_is : Some (R (negsuc 0 -ℤ to_z w64 n)) ≡ limited (negsuc n)
  below_is = ap Some (ap R less_is ∙ back (negsuc n) fits) ∙ sym (limited_is (negsuc n) (omega arith))

pub below_over : (n : ℕ) → limit ≤ n → None ≡ limited (negsuc n)
below_over n h = sym (limited_over (negsuc n) (omega arith))

-- ---- two words

abbrev held : ℤ → ℕ → ℤ
held h l = h *ℤ pos word +ℤ pos l

-- what a number comes to where it is told by its words: o beyond them
module _ {A : Type 0} (F : ℤ → A) where
  pub high_above : {o : A} → ((n : ℕ) → word ≤ n → o ≡ F (pos n)) → (h : ℤ) (l : ℕ) → lt_z (pos 0) h ≡ true → o ≡ F (held h l)
  high_above f (pos k) l t = let u = ltb-true 0 k t in f (k * word + l) (omega arith)
  high_above f (negsuc k) l t = clash (sym t)

  pub high_below : {o : A} → ((n : ℕ) → word ≤ n → o ≡ F (negsuc n)) → (h : ℤ) (l : ℕ) → l < word → lt_z h (negsuc 0) ≡ true → o ≡ F (held h l)
  high_below f (pos k) l b t = clash (sym t)
  high_below f (negsuc k) l b t =
      let u = ltb-true 0 k t in
      f (suc k * word - suc l) (omega arith) ∙ ap F (sym (below (suc k * word) l (suc k * word - suc l) (omega arith)))

  pub high_minus : (h : ℤ) (l : ℕ) → l < word → lt_z h (negsuc 0) ≡ false → lt_z h (pos 0) ≡ true → {r : A} → r ≡ F (negsuc (18446744073709551615 - l)) → r ≡ F (held h l)
  high_minus (pos k) l b t u e = absurd (let v = ltb-true k 0 u in omega arith)
  high_minus (negsuc k) l b t u e =
      let v = ltb-false 0 k t in
      e ∙ ap F (sym (below (suc k * word) l (18446744073709551615 - l) (omega arith)))

  pub high_none : (h : ℤ) (l : ℕ) → lt_z (pos 0) h ≡ false → lt_z h (pos 0) ≡ false → {r : A} → r ≡ F (pos l) → r ≡ F (held h l)
  high_none (pos k) l t u e = let v = ltb-false 0 k t in e ∙ ap (λ (n : ℕ). F (pos n)) (omega arith)
  high_none (negsuc k) l t u e = clash u

-- ---- 32 bits

abbrev least : ℤ
least = negsuc 2147483647

abbrev most : ℤ
most = pos 2147483647

not_less : (z : ℤ) (b : Bool) → lt_z z least ≡ b → le_z least z ≡ not b
not_less (pos k) b t = ap not t
not_less (negsuc k) true t = lt-leb k 2147483647 (ltb-true 2147483647 k t)
not_less (negsuc k) false t = le-leb k 2147483647 (ltb-false 2147483647 k t)

not_more : (z : ℤ) (b : Bool) → lt_z most z ≡ b → le_z z most ≡ not b
not_more (pos k) true t = lt-leb k 2147483647 (ltb-true 2147483647 k t)
not_more (pos k) false t = le-leb k 2147483647 (ltb-false 2147483647 k t)
not_more (negsuc k) b t = ap not t

module _ (z : ℤ) where
  abbrev if_both : Bool → Bool → Option ℤ
  if_both a b = if (a && b) (Some z) None

  bits_below : lt_z z least ≡ true → None ≡ judged_32 z
  unfolding judged_32 in_32_bits
  bits_below t = ap (λ (b : Bool). if_both b (le_z z most)) (sym (not_less z true t))

  bits_above : lt_z z least ≡ false → lt_z most z ≡ true → None ≡ judged_32 z
  unfolding judged_32 in_32_bits
  bits_above s t = ap₂ if_both (sym (not_less z false s)) (sym (not_more z true t))

  bits_fit : lt_z z least ≡ false → lt_z most z ≡ false → SFits w32 z × (Some z ≡ judged_32 z)
  unfolding judged_32 in_32_bits
  bits_fit s t = (fit z s t, ap₂ if_both (sym (not_less z false s)) (sym (not_more z false t)))
    where
      fit : (z : ℤ) → lt_z z least ≡ false → lt_z most z ≡ false → SFits w32 z
      fit (pos k) s t = record { sfits = let v = ltb-false 2147483647 k t in omega arith }
      fit (negsuc k) s t = record { sfits = let v = ltb-false 2147483647 k s in omega arith }

-- with the number as the code has it
module _ (z : ℤ) (f : SFits w64 z) where
  read : (F : ℤ → Bool) {b : Bool} → F (R z) ≡ b → F z ≡ b
  read F t = ap F (sym (back z f)) ∙ t

  pub is_below : lt_z (R z) least ≡ true → None ≡ judged_32 z
  is_below t = bits_below z (read (λ (y : ℤ). lt_z y least) t)

  module _ (s : lt_z (R z) least ≡ false) where
    pub is_above : lt_z most (R z) ≡ true → None ≡ judged_32 z
    is_above t = bits_above z (read (λ (y : ℤ). lt_z y least) s) (read (λ (y : ℤ). lt_z most y) t)

    module _ (t : lt_z most (R z) ≡ false) where
      fits_32 : SFits w32 z × (Some z ≡ judged_32 z)
      fits_32 = bits_fit z (read (λ (y : ℤ). lt_z y least) s) (read (λ (y : ℤ). lt_z most y) t)

      pub cast_fits : SFits w32 (R z)
      cast_fits = rw (back z f) fits_32.0

      pub cast_is : Some (R32 (R z)) ≡ judged_32 z
      cast_is = ap Some (ap R32 (back z f) ∙ back32 z fits_32.0) ∙ fits_32.1

-- beyond the limits is beyond 32 bits
limits_over : (z : ℤ) → limit < nat_abs z → None ≡ judged_32 z
limits_over (pos n) h = bits_above (pos n) refl (lt-ltb 2147483647 n (omega arith))
limits_over (negsuc n) h = bits_below (negsuc n) (lt-ltb 2147483647 n (omega arith))

module _ {w : Option ℤ} (z : ℤ) (e : w ≡ limited z) where
  pub not_within : w ≡ None → None ≡ judged_32 z
  not_within o = limits_over z (limited_lacks z (sym e ∙ o))

  pub within_judged : (q : ℤ) → w ≡ Some q → SFits w64 q → {r : Option ℤ} → r ≡ judged_32 (R q) → r ≡ judged_32 z
  within_judged q o f u = u ∙ ap judged_32 (back q f ∙ (limited_gives z q (sym e ∙ o)).0)

-- ---- products and sums

pub times_over : (p z : Option ℤ) → p ≡ None → None ≡ times_of p z
unfolding times_of
times_over p z e = sym (ap (λ (q : Option ℤ). times_of q z) e)

module _ (p z : Option ℤ) (a : ℤ) (e : p ≡ Some a) (f : SFits w64 a) where
  pub times_none : z ≡ None → None ≡ times_of p z
  unfolding times_of
  times_none g = sym (ap₂ times_of e g)

  pub times_is : (b : ℤ) → z ≡ Some b → SFits w64 b → {r : Option ℤ} → r ≡ limited (R a *ℤ R b) → r ≡ times_of p z
  unfolding times_of
  times_is b g k u = u ∙ ap₂ (λ (x y : ℤ). limited (x *ℤ y)) (back a f) (back b k) ∙ sym (ap₂ times_of e g)

pub small_of : (z : ℤ) (q : ℤ) → limited z ≡ Some q → Small q
small_of z q e = let d = limited_gives z q e in record { small = omega (arith, d.1, ap nat_abs d.0) }

pub kept_small : (t : Total) (z : ℤ) (a : ℕ) → t ≡ total.Is z a → KeptSum (total_of t) → Small z
unfolding KeptSum total_of
kept_small t z a e k = (subst (λ (u : Total). KeptSum (total_of u)) e k).0

summed_kept : (z : ℤ) → KeptSum (summed (limited z))
unfolding KeptSum summed
summed_kept z = go (limited z) refl
  where
    go : (w : Option ℤ) → limited z ≡ w → KeptSum (summed w)
    go (Some q) e = (small_of z q e, refl)
    go None e = tt

plus_kept : (s : ℤ) (w : Option ℤ) → KeptSum (summed (plus_of s w))
unfolding plus_of KeptSum summed
plus_kept s (Some p) = summed_kept (s +ℤ p)
plus_kept s None = tt

pub added_kept : (sum : Worth) (w : ℕ) (t : Worth) → KeptSum (added_of sum w t)
unfolding added_of KeptSum
added_kept (is s b) w (is v a) = plus_kept s (limited (pos w *ℤ v))
added_kept (is s b) w nothing = tt
added_kept (is s b) w over = tt
added_kept nothing w t = tt
added_kept over w t = tt

pub times_kept : (p z : Option ℤ) → KeptSum (summed (times_of p z))
unfolding times_of KeptSum summed
times_kept (Some p) (Some z) = summed_kept (p *ℤ z)
times_kept (Some p) None = tt
times_kept None z = tt

pub summed_over : (w : Option ℤ) → w ≡ None → total_of total.Over ≡ summed w
unfolding summed total_of
summed_over w e = sym (ap summed e)

pub summed_is : (w : Option ℤ) (z : ℤ) → w ≡ Some z → SFits w64 z → total_of (total.Is (R z) 0) ≡ summed w
unfolding summed total_of
summed_is w z e f = ap (λ (y : ℤ). is y 0) (back z f) ∙ sym (ap summed e)

-- a total that is no number
pub no_number : (t : Total) → ((v : ℤ) (a : ℕ) → t ≡ total.Is v a → ⊥) → T (stopped (total_of t))
unfolding stopped total_of
no_number (total.Is v a) k = absurd (k v a refl)
no_number total.None k = tt
no_number total.Over k = tt

pub sum_stays : (sum : Worth) (w : ℕ) (t : Worth) → T (stopped sum) → sum ≡ added_of sum w t
unfolding added_of stopped
sum_stays (is s b) w t k = absurd k
sum_stays nothing w t k = refl
sum_stays over w t k = refl

pub numbered_stays : (a : ℕ) (t : Worth) → T (stopped t) → t ≡ numbered a t
unfolding numbered stopped
numbered_stays a (is s b) k = absurd k
numbered_stays a nothing k = refl
numbered_stays a over k = refl

module _ (sum : Total) (w : ℕ) (t : Total) (s : ℤ) (b : ℕ) (e : sum ≡ total.Is s b) where
  worth_stays : (x : Worth) → T (stopped x) → x ≡ added_of (is s b) w x
  unfolding added_of stopped
  worth_stays (is v a) k = absurd k
  worth_stays nothing k = refl
  worth_stays over k = refl

  pub added_stays : T (stopped (total_of t)) → total_of t ≡ added_of (total_of sum) w (total_of t)
  unfolding total_of
  added_stays k = worth_stays (total_of t) k ∙ sym (ap (λ (q : Total). added_of (total_of q) w (total_of t)) e)

  module _ (v : ℤ) (a : ℕ) (g : t ≡ total.Is v a) (f : SFits w64 v) (h : w ≤ limit) (m : Option ℤ) (k : m ≡ limited (to_z w64 w *ℤ R v)) where
    product : m ≡ limited (pos w *ℤ v)
    product = k ∙ ap₂ (λ (x y : ℤ). limited (x *ℤ y)) (plain w (omega arith)) (back v f)

    sum_is : summed (plus_of s m) ≡ added_of (total_of sum) w (total_of t)
    unfolding added_of total_of
    sum_is = ap (λ (q : Option ℤ). summed (plus_of s q)) product ∙ sym (ap₂ (λ (q u : Total). added_of (total_of q) w (total_of u)) e g)

    pub added_much : m ≡ None → total_of total.Over ≡ added_of (total_of sum) w (total_of t)
    unfolding plus_of summed total_of
    added_much n = sym (ap (λ (q : Option ℤ). summed (plus_of s q)) n) ∙ sum_is

    module _ (p : ℤ) (n : m ≡ Some p) (c : KeptSum (total_of sum)) (fs : SFits w64 s) (fp : SFits w64 p) where
      pub addends_small : Small (R s) × Small (R p)
      addends_small = (rw (back s fs) (kept_small sum s b e c), rw (back p fp) (small_of _ p (sym k ∙ n)))

      pub added_is : {q : Option ℤ} → q ≡ limited (R s +ℤ R p) → {r : Worth} → r ≡ summed q → r ≡ added_of (total_of sum) w (total_of t)
      unfolding plus_of
      added_is u o = o ∙ ap summed (u ∙ ap₂ (λ (x y : ℤ). limited (x +ℤ y)) (back s fs) (back p fp)) ∙ sym (ap (λ (q : Option ℤ). summed (plus_of s q)) n) ∙ sum_is

-- ---- totals

pub numbered_is : (a : ℕ) (t : Total) (z : ℤ) (b : ℕ) → t ≡ total.Is z b → SFits w64 z → total_of (total.Is (R z) a) ≡ numbered a (total_of t)
unfolding numbered total_of
numbered_is a t z b e f = ap (λ (y : ℤ). is y a) (back z f) ∙ sym (ap (λ (u : Total). numbered a (total_of u)) e)

module _ (v : ℤ) (b a : ℕ) (t : Total) where
  pub larger_none : SFits w64 v → t ≡ total.None → total_of (total.Is (R v) b) ≡ better v b a (total_of t)
  unfolding total_of better
  larger_none f g = ap (λ (y : ℤ). is y b) (back v f) ∙ sym (ap (λ (u : Total). better v b a (total_of u)) g)

  pub larger_over : t ≡ total.Over → total_of t ≡ better v b a (total_of t)
  unfolding total_of better
  larger_over g = ap total_of g ∙ sym (ap (λ (u : Total). better v b a (total_of u)) g)

  module _ (u : ℤ) (j : ℕ) (g : t ≡ total.Is u j) (fv : SFits w64 v) (fu : SFits w64 u) where
    compared : (c : Bool) → le_z (R u) (R v) ≡ c → if c (is v b) (is u a) ≡ better v b a (total_of t)
    unfolding total_of better
    compared c q =
        ap (λ (d : Bool). if d (is v b) (is u a)) (sym q ∙ ap₂ le_z (back u fu) (back v fv))
        ∙ sym (ap (λ (x : Total). better v b a (total_of x)) g)

    pub larger_stays : le_z (R u) (R v) ≡ true → total_of (total.Is (R v) b) ≡ better v b a (total_of t)
    unfolding total_of
    larger_stays q = ap (λ (y : ℤ). is y b) (back v fv) ∙ compared true q

    pub larger_moves : le_z (R u) (R v) ≡ false → total_of (total.Is (R u) a) ≡ better v b a (total_of t)
    unfolding total_of
    larger_moves q = ap (λ (y : ℤ). is y a) (back u fu) ∙ compared false q

module _ (best : Total) (a : ℕ) (t : Worth) where
  pub best_is : (v : ℤ) (b : ℕ) → best ≡ total.Is v b → SFits w64 v → {r : Worth} → r ≡ better (R v) b a t → r ≡ tried (total_of best) a t
  unfolding tried total_of
  best_is v b e f o = o ∙ ap (λ (y : ℤ). better y b a t) (back v f) ∙ sym (ap (λ (u : Total). tried (total_of u) a t) e)

  pub best_none : best ≡ total.None → {r : Worth} → r ≡ numbered a t → r ≡ tried (total_of best) a t
  unfolding tried total_of
  best_none e o = o ∙ sym (ap (λ (u : Total). tried (total_of u) a t) e)

  pub best_over : best ≡ total.Over → total_of best ≡ tried (total_of best) a t
  unfolding tried total_of
  best_over e = ap total_of e ∙ sym (ap (λ (u : Total). tried (total_of u) a t) e)

-- ---- whether something is left

pub sum_ends : (t : Worth) (b : Bool) → T (stopped t) → true ≡ or (stopped t) b
unfolding stopped
sum_ends (is v a) b k = absurd k
sum_ends nothing b k = refl
sum_ends over b k = refl

pub sum_goes : (t : Total) (z : ℤ) (a : ℕ) (b : Bool) → t ≡ total.Is z a → b ≡ or (stopped (total_of t)) b
unfolding stopped total_of
sum_goes t z a b e = sym (ap (λ (x : Total). or (stopped (total_of x)) b) e)

pub best_ends : (t : Total) (b : Bool) → t ≡ total.Over → true ≡ or (is_over (total_of t)) b
unfolding is_over total_of
best_ends t b e = sym (ap (λ (x : Total). or (is_over (total_of x)) b) e)

pub best_goes : (t : Total) (b : Bool) → (t ≡ total.Over → ⊥) → b ≡ or (is_over (total_of t)) b
unfolding is_over total_of
best_goes (total.Is v a) b k = refl
best_goes total.None b k = refl
best_goes total.Over b k = absurd (k refl)
