-- How far apart two worths are, and whether it is more than a margin.
use mathlib.Core.Path.{◌≡◌, refl, sym, ap, ap₂, ◌∙◌, subst}
use mathlib.Core.Bool.{Bool, true, false}
use Prim.Native.Nat.{ℕ, suc, ◌+◌, ◌-◌, ◌*◌, ◌/◌, ◌≤◌, ◌<◌}
use native.Mathlib.Nat.{le-div_iff_mul-le}
use native.Mathlib.Omega.{arith}
use borrow.Author.Tests.{eq-eqb, leb-false, le-ltb, lt-ltb}
use lib.Dec.{T, eqb, leb, ltb, leb→le, le→leb, ltb→lt, lt→ltb}
use lib.IntN.{ℤ, pos, negsuc, nat_abs, ◌+ℤ◌, ◌-ℤ◌}
use lib.Signed.{◌≤ℤ◌, le_z, le_z_yes, lt_z}
use mir.Syntax.{w64}
use mir.Val.{SFits}
use Rattle.whole.specs.Cases.{if, clash, same_bool, from_true}
use Rattle.whole.specs.Int.{up, down, atom, diff, le_in}
use Rattle.whole.proofs.Signed.{R, back}
use Rattle.theory.specs.Plain.{Worth, is, nothing, over}
use Rattle.plain_limits.specs.declared.Total.{Total}
use Rattle.plain_limits.specs.declared.Total.TheVariants as total
use Rattle.plain_limits.specs.Totals.{total_of, tried, stopped}
use Rattle.price_change.specs.Sure.{exceeds}
use Rattle.price_margin.specs.Rivals.{beats, rival}

-- ---- how far v lies above u

up_low : (z : ℤ) → z ≤ℤ pos 0 → 0 ≡ up z
up_low (pos n) h = let k = leb→le n 0 h.le in omega arith
up_low (negsuc n) h = refl

lies_low : (v u : ℤ) → v ≤ℤ u → (v -ℤ u) ≤ℤ pos 0
lies_low v u h = rw (← atom v, ← atom u) (simp diff (omega (arith, le_in v u h)))

-- k more than u is v
gap : (v u : ℤ) (k : ℕ) → up v + down u ≡ up u + down v + k → v -ℤ u ≡ pos k
gap v u k e = rw (← atom v, ← atom u) (simp diff (omega (arith, e)))

of_pos : {z : ℤ} {k : ℕ} → z ≡ pos k → nat_abs z ≡ up z
of_pos e = ap nat_abs e ∙ sym (ap up e)

-- what is not at most u lies above it by the magnitude of the difference
apart : (v u : ℤ) → le_z v u ≡ false → nat_abs (v -ℤ u) ≡ up (v -ℤ u)
apart (pos m) (pos n) q = let h = leb-false m n q in of_pos (gap (pos m) (pos n) (m - n) (omega arith))
apart (pos m) (negsuc n) q = of_pos (gap (pos m) (negsuc n) (m + suc n) (omega arith))
apart (negsuc m) (pos n) q = clash q
apart (negsuc m) (negsuc n) q = let h = leb-false n m q in of_pos (gap (negsuc m) (negsuc n) (suc n - suc m) (omega arith))

module _ (v u : ℤ) (fv : SFits w64 v) (fu : SFits w64 u) where
  pub none_above : le_z (R v) (R u) ≡ true → 0 ≡ up (v -ℤ u)
  none_above t = up_low (v -ℤ u) (lies_low v u (le_z_yes (from_true (ap₂ le_z (sym (back v fv)) (sym (back u fu)) ∙ t))))

  pub lies_above : le_z (R v) (R u) ≡ false → {a : ℕ} → a ≡ nat_abs (R v -ℤ R u) → a ≡ up (v -ℤ u)
  lies_above q e = e ∙ ap₂ (λ (x y : ℤ). nat_abs (x -ℤ y)) (back v fv) (back u fu) ∙ apart v u (ap₂ le_z (sym (back v fv)) (sym (back u fu)) ∙ q)

-- ---- more than a product, by division

module _ (x h e d p : ℕ) where
  pub not_more : x ≡ 0 → false ≡ ltb (2 * h * e * (d * p)) x
  not_more z = sym (le-ltb _ x (omega arith))

  pub free : (x ≡ 0 → ⊥) → e ≡ 0 → eqb e 0 ≡ ltb (2 * h * e * (d * p)) x
  free n z = eq-eqb e 0 z ∙ sym (lt-ltb _ x (subst (λ (k : ℕ). 2 * h * k * (d * p) < x) (sym z) (omega (arith, n))))

  order : p * d * e * (2 * h) ≡ 2 * h * e * (d * p)
  order = omega arith

  pub divided : (x ≡ 0 → ⊥) → (e ≡ 0 → ⊥) → 1 ≤ h → 1 ≤ d → leb p ((x - 1) / (2 * h) / e / d) ≡ ltb (2 * h * e * (d * p)) x
  divided n m kh kd = same_bool _ _
      (λ t. let a = (le-div_iff_mul-le {k = d} {x = p} kd).0 (leb→le p _ t) in
      let b = (le-div_iff_mul-le {k = e} {x = p * d} (omega (arith, m))).0 a in
      let c = (le-div_iff_mul-le {k = 2 * h} {x = p * d * e} (omega arith)).0 b in
      lt→ltb _ x (omega (arith, n, c, order)))
      (λ t. let g = ltb→lt (2 * h * e * (d * p)) x t in
      let c : p * d * e * (2 * h) ≤ x - 1 = omega (arith, g, order) in
      let b = (le-div_iff_mul-le {k = 2 * h} {x = p * d * e} (omega arith)).1 c in
      let a = (le-div_iff_mul-le {k = e} {x = p * d} (omega (arith, m))).1 b in
      le→leb p _ ((le-div_iff_mul-le {k = d} {x = p} kd).1 a))

-- ---- worths

-- v is d + 1 or more above u
above_margin : (d : ℕ) (v u : ℤ) → ltb d (up (v -ℤ u)) ≡ le_z (u +ℤ pos (suc d)) v
above_margin d v u = same_bool _ _ (λ t. (there (up_at (v -ℤ u) (ltb→lt d (up (v -ℤ u)) t))).le) (λ t. lt→ltb d (up (v -ℤ u)) (at_up (v -ℤ u) (here (le_z_yes t))))
  where
    up_at : (z : ℤ) → d < up z → pos (suc d) ≤ℤ z
    up_at (pos n) h = record { le = le→leb (suc d) n (omega arith) }
    up_at (negsuc n) h = absurd (omega arith)

    at_up : (z : ℤ) → pos (suc d) ≤ℤ z → d < up z
    at_up (pos n) h = let k = leb→le (suc d) n h.le in omega arith
    at_up (negsuc n) h = absurd h.le

    there : pos (suc d) ≤ℤ (v -ℤ u) → (u +ℤ pos (suc d)) ≤ℤ v
    there h = rw (← atom v, ← atom u) (simp diff (omega (arith, simp diff at (rw (← atom v, ← atom u) at h))))

    here : (u +ℤ pos (suc d)) ≤ℤ v → pos (suc d) ≤ℤ (v -ℤ u)
    here h = rw (← atom v, ← atom u) (simp diff (omega (arith, simp diff at (rw (← atom v, ← atom u) at h))))

module _ (d : ℕ) (v : ℤ) (t : Total) where
  pub exceeds_none : t ≡ total.None → true ≡ exceeds d v (total_of t)
  unfolding exceeds total_of
  exceeds_none e = sym (ap (λ (x : Total). exceeds d v (total_of x)) e)

  pub exceeds_over : t ≡ total.Over → false ≡ exceeds d v (total_of t)
  unfolding exceeds total_of
  exceeds_over e = sym (ap (λ (x : Total). exceeds d v (total_of x)) e)

  pub exceeds_is : (u : ℤ) (a : ℕ) → t ≡ total.Is u a → SFits w64 v → SFits w64 u → {x : ℕ} → x ≡ up (R v -ℤ R u) → {r : Bool} → r ≡ ltb d x → r ≡ exceeds d v (total_of t)
  unfolding exceeds total_of
  exceeds_is u a e fv fu q k =
      k ∙ ap (ltb d) (q ∙ ap₂ (λ (y z : ℤ). up (y -ℤ z)) (back v fv) (back u fu)) ∙ above_margin d v u ∙ sym (ap (λ (x : Total). exceeds d v (total_of x)) e)

-- ---- the best and the largest of the others

module _ (best other t : Total) where
  pub rival_beaten : {b : Bool} → b ≡ beats (total_of t) (total_of best) → b ≡ true → total_of best ≡ rival (total_of best) (total_of other) (total_of t)
  unfolding rival
  rival_beaten e k = sym (ap (λ b. if b (total_of best) (tried (total_of other) 0 (total_of t))) (sym e ∙ k))

  pub rival_tried : {b : Bool} → b ≡ beats (total_of t) (total_of best) → b ≡ false → {r : Worth} → r ≡ tried (total_of other) 0 (total_of t) → r ≡ rival (total_of best) (total_of other) (total_of t)
  unfolding rival
  rival_tried e k q = q ∙ sym (ap (λ b. if b (total_of best) (tried (total_of other) 0 (total_of t))) (sym e ∙ k))

-- what is no number beats nothing, and a number beats what is none
pub beats_not : (t best : Worth) → T (stopped t) → false ≡ beats t best
unfolding beats stopped
beats_not (is u a) best k = absurd k
beats_not nothing best k = refl
beats_not over best k = refl

module _ (t best : Total) (u : ℤ) (a : ℕ) (e : t ≡ total.Is u a) where
  beaten : (w : Worth) → T (stopped w) → true ≡ beats (is u a) w
  unfolding beats stopped
  beaten (is v b) k = absurd k
  beaten nothing k = refl
  beaten over k = refl

  pub beats_none : T (stopped (total_of best)) → true ≡ beats (total_of t) (total_of best)
  unfolding total_of
  beats_none k = beaten (total_of best) k ∙ sym (ap (λ (x : Total). beats (total_of x) (total_of best)) e)

  pub beats_is : (v : ℤ) (b : ℕ) → best ≡ total.Is v b → SFits w64 v → SFits w64 u → lt_z (R v) (R u) ≡ beats (total_of t) (total_of best)
  unfolding beats total_of
  beats_is v b g fv fu = ap₂ lt_z (back v fv) (back u fu) ∙ sym (ap₂ (λ (x y : Total). beats (total_of x) (total_of y)) e g)
