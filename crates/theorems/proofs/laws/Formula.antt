-- The optimum, times D × W^(n×h), is 01's formula: the largest over the actions of reward plus the weighed sum ÷ Wⁿ.
use Rattle.std.specs.Prelude.{◌≡◌, List, [], ◌∷◌, map, ℕ, suc, ◌*◌, ◌^◌, ◌≤◌, ◌<◌}
use Rattle.std.proofs.Common.{sym, ap, ap₂, ◌∙◌, mul-zero, arith}
use Rattle.std.proofs.Math.Path.{subst}
use Rattle.std.proofs.Math.Nat.{pow-zero}
use Rattle.theory.specs.Total.{Total, num, ◌⊕◌, weigh, mean}
use Rattle.theory.specs.Process.{Action, total, optimum, lowest_best}
use Rattle.theory.specs.Meaning.{Model, State, action_at, env, worth_at, end_at, chance_at, weight, settings, moved, power, process}
use Rattle.theorems.specs.Fraction.{Fraction, Equal, AtMost, plus, times, divided, weighed}
use Rattle.theorems.specs.Demands.{meant, formula, end_worth, Formula}
use Rattle.theory.proofs.laws.Total.{weigh-⊕, weigh_times, weigh_nothing, weigh_mono}
use Rattle.theory.proofs.laws.Process.{total_below, lowest_best_action, lowest_best_total}
use Rattle.theorems.proofs.laws.Weights.{power_step}

one_more : (w d k : ℕ) (x n m : Total) → weigh d n ≡ weigh k m → weigh d (weigh k (weigh w x) ⊕ weigh d n) ≡ weigh (d * k) (weigh w x ⊕ m)
one_more w d k x n m e = ap (λ z. weigh d (weigh k (weigh w x) ⊕ z)) e ∙ ap (weigh d) (sym (weigh-⊕ k (weigh w x) m)) ∙ sym (weigh_times d k (weigh w x ⊕ m))

-- fractions over one denominator
abbrev over : {E : Type 0} → (E → Total) → (d : ℕ) → 0 < d → E → Fraction
over X d h e = record { numerator = X e; den = d; den>0 = h }

pub weighed_mean : {E : Type 0} (w : E → ℕ) (X : E → Total) (d : ℕ) (h : 0 < d) (l : List E)
    → weigh d (weighed w (over X d h) l).numerator ≡ weigh (weighed w (over X d h) l).den (mean w X l)
unfolding weighed mean plus times
weighed_mean w X d h [] = weigh_nothing d ∙ sym (weigh_nothing 1)
weighed_mean w X d h (e ∷ l) = one_more (w e) d (weighed w (over X d h) l).den (X e) (weighed w (over X d h) l).numerator (mean w X l) (weighed_mean w X d h l)

common : (f W D P : ℕ) (R F m : Total) → weigh (D * P) F ≡ weigh f m → weigh (D * (W * P)) (weigh (f * W) R ⊕ weigh D F) ≡ weigh (D * (f * W)) (weigh (W * P) R ⊕ m)
common f W D P R F m e =
    weigh-⊕ (D * (W * P)) (weigh (f * W) R) (weigh D F)
    ∙ ap₂ ◌⊕◌
    (sym (weigh_times (D * (W * P)) (f * W) R) ∙ ap (λ (k : ℕ). weigh k R) reward ∙ weigh_times (D * (f * W)) (W * P) R)
    (sym (weigh_times (D * (W * P)) D F) ∙ ap (λ (k : ℕ). weigh k F) sums ∙ weigh_times (D * W) (D * P) F ∙ ap (weigh (D * W)) e ∙ sym (weigh_times (D * W) f m) ∙ ap (λ (k : ℕ). weigh k m) back)
    ∙ sym (weigh-⊕ (D * (f * W)) (weigh (W * P) R) m)
  where
    reward : D * (W * P) * (f * W) ≡ D * (f * W) * (W * P)
    reward = omega arith

    sums : D * (W * P) * D ≡ D * W * (D * P)
    sums = omega arith

    back : D * W * f ≡ D * (f * W)
    back = omega arith

module _ (M : Model) (w : 1 ≤ M.weights) (h : ℕ) (s : State) where
  abbrev W : ℕ
  W = M.weights ^ M.conditions

  -- an action's total is its formula
  total_formula : (a : ℕ) → Equal (formula M w h s a) (over (λ (a : ℕ). total (process M) (optimum (process M) h) h a s) (s.den * power M (suc h)) (meant M w (suc h) s).den>0 a)
  unfolding total process moved plus divided
  total_formula a =
      let X = weighed (weight M.weights (map (chance_at (env s [])) (action_at M a).chances)) (λ r. meant M w h (moved s (action_at M a).levels r)) (settings M.conditions) in
      let R = worth_at (env s []) (action_at M a).reward in
      let m = mean (weight M.weights (map (chance_at (env s [])) (action_at M a).chances)) (λ r. optimum (process M) h (moved s (action_at M a).levels r)) (settings M.conditions) in
      subst (λ (p : ℕ). weigh (s.den * p) (weigh (X.den * W) R ⊕ weigh s.den X.numerator) ≡ weigh (s.den * (X.den * W)) (weigh p R ⊕ m))
      (sym (power_step M.weights M.conditions h))
      (common X.den W s.den (power M h) R X.numerator m
      (weighed_mean _ (λ r. optimum (process M) h (moved s (action_at M a).levels r)) (s.den * power M h) (meant M w h s).den>0 (settings M.conditions)))

  each_below : (a : ℕ) → Action (process M) a → AtMost (formula M w h s a) (meant M w (suc h) s)
  each_below a i = rw (total_formula a) (weigh_mono (formula M w h s a).den _ _ (total_below (process M) h s a i))

  one_equal : Equal (formula M w h s (lowest_best (process M) (suc h) s)) (meant M w (suc h) s)
  one_equal =
      let a = lowest_best (process M) (suc h) s in
      total_formula a ∙ ap (weigh (formula M w h s a).den) (sym (lowest_best_total (process M) h s))

-- W^(n×0) is 1
end_formula : (M : Model) (w : 1 ≤ M.weights) (s : State) → Equal (meant M w 0 s) (end_worth M s)
unfolding optimum process
end_formula M w s = ap (λ (d : ℕ). weigh d (num (end_at (env s []) M.end))) (once s.den M.weights M.conditions)
  where
    once : (d W n : ℕ) → d ≡ d * W ^ (n * 0)
    once d W n = let e : W ^ (n * 0) ≡ 1 = ap (λ (k : ℕ). W ^ k) (mul-zero n) ∙ pow-zero W in rw e (omega arith)

pub formula_holds : Formula
formula_holds M w s = (end_formula M w s, λ h. (each_below M w h s, (lowest_best (process M) (suc h) s, (lowest_best_action (process M) (suc h) s, one_equal M w h s))))
