-- "How much an override loses", proved: over `loses`, from which theory's laws have demand 3 too.
use Rattle.std.specs.Prelude.{◌≡◌, T, ℤ, pos, ◌+ℤ◌, ◌-ℤ◌, ◌≤ℤ◌}
use Rattle.std.proofs.Math.Path.{refl, sym, ap, subst}
use Rattle.std.proofs.Common.{ap₂, ◌∙◌}
use Rattle.std.proofs.Math.Bool.{Bool}
use mathlib.Core.List.{List, [], ◌∷◌, map}
use Prim.Native.Nat.{ℕ, zero, suc, ◌+◌, ◌*◌, ◌^◌, ◌≤◌}
use native.Mathlib.Omega.{arith}
use Rattle.whole.specs.Int.{atom, diff}
use Rattle.theory.specs.Total.{Total, num, none, Has, ◌⊕◌, weigh}
use Rattle.theory.specs.Process.{Process, Policy, total, optimum, expected, Reached}
use Rattle.theory.specs.Loss.{sum, shortfall, loss}
use Rattle.theory.specs.Meaning.{Model, State, action_at, env, chance_at, weight, settings, moved, power, process}
use Rattle.theory.specs.Valid.{valid}
use Rattle.theory.specs.Load.{model}
use Rattle.theory.proofs.laws.Total.{num-⊕, pos-⊕, has_above, has_left, weigh-⊕, weigh_times}
use Rattle.theory.proofs.laws.Lists.{mean_pos, sum_most}
use Rattle.theory.proofs.laws.Process.{loses, falls_short, exact_expected, expected_below, gathered}
use Rattle.theory.proofs.laws.AcceptedModel.{accepted_valid}
use Rattle.theorems.specs.Fraction.{plus, divided, weighed}
use Rattle.theorems.specs.Demands.{start}
use Rattle.theorems.specs.Override.{over_steps, counted, short, short_after, lost, StepByStep, fraction, LostFormula, Loses, FallsShort, LosesNothing, LosesAtMost, EveryRead}
use Rattle.theorems.proofs.laws.Weights.{power_step}
use Rattle.theorems.proofs.laws.Formula.{weighed_mean}
use Rattle.theorems.proofs.laws.Chances.{state_weights}
use Rattle.theorems.proofs.laws.Demands.{went, read_optimum}

-- ---- the sum over the steps is the recursion's

counted_is : (w x : ℕ) → counted w x ≡ w * x
unfolding counted
counted_is zero x = omega arith
counted_is (suc w) x = refl

module _ {E : Type 0} (w : E → ℕ) where
  sum_nothing : (l : List E) → 0 ≡ sum (λ e. w e * 0) l
  unfolding sum
  sum_nothing [] = refl
  sum_nothing (e ∷ l) = omega (arith, sum_nothing l)

  sum_plus : (f g : E → ℕ) (l : List E) → sum (λ e. counted (w e) (f e)) l + sum (λ e. w e * g e) l ≡ sum (λ e. w e * (f e + g e)) l
  unfolding sum
  sum_plus f g [] = omega arith
  sum_plus f g (e ∷ l) = one (w e) (f e) (g e) _ _ _ _ (counted_is (w e) (f e)) (sum_plus f g l)
    where
      one : (w f g c x y z : ℕ) → c ≡ w * f → x + y ≡ z → c + x + (w * g + y) ≡ w * (f + g) + z
      one w f g c x y z q r = rw q (omega arith)

  -- the settings' sum of what the steps add up to
  steps_sum : (f : ℕ → E → ℕ) (l : List E) (n : ℕ) → over_steps (λ k. sum (λ e. counted (w e) (f k e)) l) n ≡ sum (λ e. w e * over_steps (λ k. f k e) n) l
  unfolding over_steps
  steps_sum f l zero = sum_nothing l
  steps_sum f l (suc n) = ap (λ z. sum (λ e. counted (w e) (f zero e)) l + z) (steps_sum (λ k. f (suc k)) l n) ∙ sum_plus (f zero) (λ e. over_steps (λ k. f (suc k) e) n) l

module _ {S A E : Type 0} (P : Process S A E) (π : Policy P) where
  -- here, and from each next state on
  lost_parts : (h : ℕ) (s : S) → let a = π.choice (suc h) s in
      lost P π (suc h) s ≡ short P π (suc h) s + sum (λ e. P.weight a s e * lost P π h (P.next a s e)) P.settings
  unfolding lost over_steps short_after
  lost_parts h s =
      let a = π.choice (suc h) s in
      ap (λ z. short P π (suc h) s + z) (steps_sum (P.weight a s) (λ k e. short_after P π k h (P.next a s e)) P.settings h)

  pub step_by_step : StepByStep P π
  unfolding lost loss over_steps short
  step_by_step zero s = refl
  step_by_step (suc h) s =
      let a = π.choice (suc h) s in
      lost_parts h s ∙ (λ i. shortfall P h s a + sum (λ e. P.weight a s e * step_by_step h (P.next a s e) i) P.settings)

  -- the recursion's two parts
  loss_parts : (h : ℕ) (s : S) → let a = π.choice (suc h) s in
      loss P π (suc h) s ≡ sum (λ e. P.weight a s e * loss P π h (P.next a s e)) P.settings + shortfall P h s a
  unfolding loss
  loss_parts h s = omega arith

-- ---- in fractions

-- K here, and from the next states on F over f, which is m over their own scale
lost_common : (f W D P : ℕ) (K F m : Total) → weigh (D * P) F ≡ weigh f m → weigh (D * (W * P) * (f * W)) (K ⊕ m) ≡ weigh (D * (W * P)) (weigh (f * W) K ⊕ weigh (D * (W * P)) F)
lost_common f W D P K F m e =
    let c = D * (W * P) in
    weigh-⊕ (c * (f * W)) K m
    ∙ ap₂ ◌⊕◌ (weigh_times c (f * W) K)
    (ap (λ (k : ℕ). weigh k m) turned ∙ weigh_times (c * W) f m ∙ ap (weigh (c * W)) (sym e) ∙ sym (weigh_times (c * W) (D * P) F) ∙ ap (λ (k : ℕ). weigh k F) squared ∙ weigh_times c c F)
    ∙ sym (weigh-⊕ c (weigh (f * W) K) (weigh c F))
  where
    turned : D * (W * P) * (f * W) ≡ D * (W * P) * W * f
    turned = omega arith

    squared : D * (W * P) * W * (D * P) ≡ D * (W * P) * (D * (W * P))
    squared = omega arith

module _ (M : Model) (W>0 : 1 ≤ M.weights) where
  pub lost_formula : LostFormula M W>0
  unfolding process moved plus divided
  lost_formula π h s =
      let a = action_at M (π.choice (suc h) s) in
      let w = weight M.weights (map (chance_at (env s [])) a.chances) in
      let later : List Bool → ℕ = λ r. lost (process M) π h (moved s a.levels r) in
      let X = weighed w (λ r. fraction M W>0 h (moved s a.levels r) (later r)) (settings M.conditions) in
      let k = short (process M) π (suc h) s in
      let m = sum (λ r. w r * later r) (settings M.conditions) in
      let W = M.weights ^ M.conditions in
      subst (λ (p : ℕ). weigh (s.den * p * (X.den * W)) (num (pos (lost (process M) π (suc h) s))) ≡ weigh (s.den * p) (weigh (X.den * W) (num (pos k)) ⊕ weigh (s.den * p) X.numerator))
      (sym (power_step M.weights M.conditions h))
      (ap (λ (l : ℕ). weigh (s.den * (W * power M h) * (X.den * W)) (num (pos l))) (lost_parts (process M) π h s)
      ∙ ap (weigh (s.den * (W * power M h) * (X.den * W))) (sym (pos-⊕ k m))
      ∙ lost_common X.den W s.den (power M h) (num (pos k)) X.numerator (num (pos m))
      (weighed_mean w (λ r. num (pos (later r))) (s.den * power M h) (fraction M W>0 h s 0).den>0 (settings M.conditions) ∙ ap (weigh X.den) (mean_pos w later (settings M.conditions))))

-- ---- the bound

-- at the scale of h + 1 steps: l from the next states on, k here
bound_sizes : (h w d p D c l k : ℕ) → d * l ≤ w * (h * p * (D * c)) → d * k ≤ p * (D * (w * c)) → d * (l + k) ≤ suc h * p * (D * (w * c))
bound_sizes h w d p D c l k a b = omega arith

module _ (M : Model) (ok : T (valid M)) (π : Policy (process M)) (p d : ℕ) where
  -- it falls short by at most p ÷ d here
  abbrev Least : ℕ → State → Type 0
  Least k r = d * shortfall (process M) k r (π.choice (suc k) r) ≤ p * (r.den * power M (suc k))

  loss_most : (h : ℕ) (s : State) → ((k : ℕ) (r : State) → Reached (process M) π h s (suc k) r → Least k r) → d * loss (process M) π h s ≤ h * p * (s.den * power M h)
  unfolding process moved
  loss_most = gathered (process M) π (λ h s. d * loss (process M) π h s ≤ h * p * (s.den * power M h)) Least
      (λ s. unfold loss in (omega arith))
      (λ h s here onward.
      let a = π.choice (suc h) s in
      let w = state_weights M ok a (π.allowed (suc h) s) s in
      let m = sum_most ((process M).weight a s) (λ e. loss (process M) π h ((process M).next a s e)) (h * p * (s.den * power M h)) d (process M).settings (λ e i q. onward e i q) in
      rw (loss_parts (process M) π h s, power_step M.weights M.conditions h)
      (bound_sizes h (M.weights ^ M.conditions) d p s.den (power M h) _ _ (rw w at m) (rw (power_step M.weights M.conditions h) at here)))

-- ---- the statements, of a value v

num_is : (a b : ℤ) → num a ≡ num b → a ≡ b
num_is a b e = ap (λ (x : Total). number_of x) e
  where
    number_of : Total → ℤ
    number_of (num z) = z
    number_of none = pos 0

-- what a number is, less another
less_is : (v x : ℤ) (l : ℕ) → num x ⊕ num (pos l) ≡ num v → v -ℤ x ≡ pos l
less_is v x l e = apart v x l (num_is _ _ (sym (num-⊕ x (pos l)) ∙ e))
  where
    apart : (v x : ℤ) (l : ℕ) → x +ℤ pos l ≡ v → v -ℤ x ≡ pos l
    apart v x l e = rw (← e, ← atom x) (simp diff (omega arith))

-- a total that there is
number_had : (x : Total) → Has x → (z : ℤ) × (x ≡ num z)
number_had (num z) p = (z, refl)
number_had none p = absurd p

module _ (M : Model) (ok : T (valid M)) (h : ℕ) (s : State) (v : ℤ) (is : Has (optimum (process M) h s) → num v ≡ optimum (process M) h s) where
  module _ (π : Policy (process M)) (x : ℤ) (e : expected (process M) π h s ≡ num x) where
    has : Has (expected (process M) π h s)
    has = rw e tt

    value_is : num v ≡ optimum (process M) h s
    value_is = is (has_above _ _ (expected_below (process M) π h s) has)

    loss_less : v -ℤ x ≡ pos (loss (process M) π h s)
    loss_less = less_is v x _ (rw (← e, value_is) (loses (process M) π h s has))

  pub value_loses : Loses M h s v
  value_loses π x e = loss_less π x e ∙ ap pos (sym (step_by_step (process M) π h s))

  pub value_falls_short : FallsShort M h s v
  unfolding short
  value_falls_short π x e k r w =
      let (b, q) = falls_short (process M) π h s (has π x e) k r w in
      let (best, i) = number_had _ b in
      let (its, j) = number_had (total (process M) (optimum (process M) k) k (π.choice (suc k) r) r) (has_left _ _ (subst Has (sym q) b)) in
      (best, its, i, j, less_is best its _ (rw (← j, ← i) q))

  pub value_loses_nothing : LosesNothing M h s v
  unfolding short
  value_loses_nothing π x e =
      let q = exact_expected (process M) π h s (has π x e) in
      (λ i. q.0 (e ∙ ap num (sym i) ∙ value_is π x e), λ all. num_is _ _ (value_is π x e ∙ sym (q.1 all) ∙ e))

  pub value_loses_at_most : LosesAtMost M h s v
  unfolding short
  value_loses_at_most π x e p d above all = rw (loss_less π x e) (simp diff (omega (arith, loss_most M ok π p d h s all)))

-- ---- of the value that is read

module _ (C : Model → ℕ → State → ℤ → Type 0)
    (holds : (M : Model) → T (valid M) → (h : ℕ) (s : State) (v : ℤ) → (Has (optimum (process M) h s) → num v ≡ optimum (process M) h s) → C M h s v) where
  of_reading : EveryRead C
  of_reading g h a b q t = holds (model g.bytes) (accepted_valid g.bytes (went g).before.own) h (start g q t) _ (read_optimum g h a b q t)

pub override_loses : EveryRead Loses
override_loses = of_reading Loses value_loses

pub override_falls_short : EveryRead FallsShort
override_falls_short = of_reading FallsShort value_falls_short

pub override_loses_nothing : EveryRead LosesNothing
override_loses_nothing = of_reading LosesNothing value_loses_nothing

pub override_loses_at_most : EveryRead LosesAtMost
override_loses_at_most = of_reading LosesAtMost value_loses_at_most
