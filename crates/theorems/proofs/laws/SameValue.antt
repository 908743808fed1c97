-- "20/2 and 10/1 may give different numerators, never different values."
use Rattle.std.specs.Prelude.{◌≡◌, Bool, ◌&&◌, ℕ, zero, suc, ◌*◌, ◌^◌, ◌<◌, T, ltb, ℤ, pos, negsuc, ◌+ℤ◌, ◌*ℤ◌, take, drop}
use Rattle.std.proofs.Math.Path.{refl, sym, ap, ap₂, PathP, to_path_p}
use Rattle.std.proofs.Common.{◌∙◌, arith, mul-le-mul_left, mul_comm}
use mathlib.Core.List.{List, [], ◌∷◌, map}
use Rattle.std.proofs.Math.Bridge.{le_prop}
use Rattle.std.proofs.Math.IntN.{*ℤ_comm, *ℤ-zero, zero-*ℤ}
use Rattle.std.specs.Int.Signed.{le_z}
use Rattle.whole.specs.Cases.{if, both}
use Rattle.whole.specs.Int.{up, ring}
use Rattle.whole.specs.Numerator.{number, words}
use Rattle.theory.specs.Diagram.{Linear, Test, now, later, linear, Leaf, some, forbidden, lin_of, Tree, leaf, branch, scale_list, zeros}
use Rattle.theory.specs.Total.{Total, num, none, weigh}
use Rattle.theory.specs.Process.{optimum, lowest_best}
use Rattle.theory.specs.Meaning.{Model, State, env, dot, value, holds, at, leaf_worth, worth_at, level_at, end_at, action_at, chance_at, weight, moved, power, process}
use Rattle.theory.specs.Load.{model, site_at}
use Rattle.theory.specs.Value.{Asked, accepted, bits, state_of, ValueOut, answered}
use Rattle.theory.proofs.laws.Total.{has_not_none, weigh_num, weigh_none, weigh_swap}
use Rattle.theorems.specs.Demands.{Exact, SameValue}
use Rattle.theorems.proofs.laws.Scaling.{number_order, Scales, optimum_scale, lowest_best_scale}

-- ---- states: numerators and denominator times k

pub product_positive : (a b : ℕ) → 0 < a → 0 < b → 0 < a * b
product_positive a b h k = omega (arith, mul-le-mul_left a k)

unfoldable pub scaled : (k : ℕ) → 0 < k → State → State
scaled k h s = record { conditions = s.conditions; nums = scale_list (pos k) s.nums; den = k * s.den; D>0 = product_positive k s.den h s.D>0 }

dot_scaled : (k : ℤ) (a x : List ℤ) → dot a (scale_list k x) ≡ k *ℤ dot a x
unfolding dot scale_list
dot_scaled k [] x = sym (*ℤ-zero k)
dot_scaled k (c ∷ a) [] = sym (*ℤ-zero k)
dot_scaled k (c ∷ a) (y ∷ x) = dot_step k c y (dot a (scale_list k x)) (dot a x) (dot_scaled k a x)
  where
    dot_step : (k c y m n : ℤ) → m ≡ k *ℤ n → c *ℤ (k *ℤ y) +ℤ m ≡ k *ℤ (c *ℤ y +ℤ n)
    dot_step k c y m n p = rw p (simp ring)

module _ (k : ℕ) (k>0 : 0 < k) (s : State) where
  abbrev t : State
  t = scaled k k>0 s

  module _ (r : List Bool) where
    pub value_scaled : (p : Linear) → value (env t r) p ≡ pos k *ℤ value (env s r) p
    unfolding value env scaled
    value_scaled p = value_step (pos k) p.const (pos s.den) _ (dot p.coeffs s.nums) (dot_scaled (pos k) p.coeffs s.nums)
      where
        value_step : (k c d m n : ℤ) → m ≡ k *ℤ n → m +ℤ c *ℤ (k *ℤ d) ≡ k *ℤ (n +ℤ c *ℤ d)
        value_step k c d m n p = rw p (simp ring)

    holds_scaled : (u : Test) → holds (env t r) u ≡ holds (env s r) u
    unfolding holds env scaled
    holds_scaled (now i) = refl
    holds_scaled (later i) = refl
    holds_scaled (linear p) =
        ap (λ z. le_z z (pos 0)) (value_scaled p) ∙ ap (le_z (pos k *ℤ value (env s r) p)) (sym (*ℤ-zero (pos k))) ∙ number_order k k>0 (value (env s r) p) (pos 0)

    -- the same leaf
    pub at_scaled : (F : Tree) → at (env t r) F ≡ at (env s r) F
    unfolding at
    at_scaled (leaf f) = refl
    at_scaled (branch u h l) =
        ap (λ b. if b (at (env t r) h) (at (env t r) l)) (holds_scaled u) ∙ ap₂ (if (holds (env s r) u)) (at_scaled h) (at_scaled l)

    leaf_scaled : (f : Leaf) → leaf_worth (env t r) f ≡ weigh k (leaf_worth (env s r) f)
    unfolding leaf_worth
    leaf_scaled (some p a) = ap num (value_scaled p) ∙ sym (weigh_num k (value (env s r) p))
    leaf_scaled forbidden = sym (weigh_none k k>0)

    pub worth_scaled : (F : Tree) → worth_at (env t r) F ≡ weigh k (worth_at (env s r) F)
    unfolding worth_at
    worth_scaled F = ap (leaf_worth (env t r)) (at_scaled F) ∙ leaf_scaled (at (env s r) F)

    pub level_scaled : (F : Tree) → level_at (env t r) F ≡ pos k *ℤ level_at (env s r) F
    unfolding level_at
    level_scaled F = ap (λ (f : Leaf). value (env t r) (lin_of f)) (at_scaled F) ∙ value_scaled (lin_of (at (env s r) F))

    levels_scaled : (Ds : List Tree) → map (level_at (env t r)) Ds ≡ scale_list (pos k) (map (level_at (env s r)) Ds)
    unfolding scale_list
    levels_scaled [] = refl
    levels_scaled (D ∷ Ds) = ap₂ ◌∷◌ (level_scaled D) (levels_scaled Ds)

    moved_scaled : (Ds : List Tree) → moved t Ds r ≡ scaled k k>0 (moved s Ds r)
    unfolding moved scaled
    moved_scaled Ds = λ i. record { conditions = r; nums = levels_scaled Ds i; den = k * s.den; D>0 = product_positive k s.den k>0 s.D>0 }

  chances_scaled : (Cs : List Tree) → map (chance_at (env t [])) Cs ≡ map (chance_at (env s [])) Cs
  unfolding chance_at
  chances_scaled [] = refl
  chances_scaled (C ∷ Cs) = ap₂ ◌∷◌ (ap (λ (f : Leaf). up (lin_of f).const) (at_scaled [] C)) (chances_scaled Cs)

ends_scaled : (k : ℕ) (h : 0 < k) (s : State) (l : List Tree) → end_at (env (scaled k h s) []) l ≡ pos k *ℤ end_at (env s []) l
unfolding end_at
ends_scaled k h s [] = sym (*ℤ-zero (pos k))
ends_scaled k h s (F ∷ l) = level_scaled k h s [] F

module _ (M : Model) (k : ℕ) (k>0 : 0 < k) where
  scales : Scales (process M) k (scaled k k>0)
  unfolding process
  scales = record {
    positive = k>0;
    rewards = λ h a s. ap (weigh (power M (suc h))) (worth_scaled k k>0 s [] (action_at M a).reward) ∙ weigh_swap (power M (suc h)) k (worth_at (env s []) (action_at M a).reward);
    weights = λ a s. ap (weight M.weights) (chances_scaled k k>0 s (action_at M a).chances);
    steps = λ a s r. moved_scaled k k>0 s r (action_at M a).levels;
    ends = λ s. ends_scaled k k>0 s M.end;
  }

  pub optimum_scaled : (h : ℕ) (s : State) → optimum (process M) h (scaled k k>0 s) ≡ weigh k (optimum (process M) h s)
  optimum_scaled = optimum_scale (process M) k (scaled k k>0) scales

  pub lowest_best_scaled : (h : ℕ) (s : State) → lowest_best (process M) h (scaled k k>0 s) ≡ lowest_best (process M) h s
  lowest_best_scaled = lowest_best_scale (process M) k (scaled k k>0) scales

-- ---- equal fractions

-- states are equal where their conditions and numbers are
same_state : (s t : State) → s.conditions ≡ t.conditions → s.nums ≡ t.nums → s.den ≡ t.den → s ≡ t
same_state s t p q d = λ i. record { conditions = p i; nums = q i; den = d i; D>0 = over i }
  where
    over : PathP (λ i. 0 < d i) s.D>0 t.D>0
    over = to_path_p (λ i. 0 < d i) (le_prop _ _)

module _ (s t : State) (p : s.conditions ≡ t.conditions) (q : scale_list (pos t.den) s.nums ≡ scale_list (pos s.den) t.nums) where
  meet : scaled t.den t.D>0 s ≡ scaled s.den s.D>0 t
  unfolding scaled
  meet = same_state _ _ p q (mul_comm t.den s.den)

  pub same_value : (M : Model) (h : ℕ) → weigh t.den (optimum (process M) h s) ≡ weigh s.den (optimum (process M) h t)
  same_value M h = sym (optimum_scaled M t.den t.D>0 h s) ∙ ap (optimum (process M) h) meet ∙ optimum_scaled M s.den s.D>0 h t

  pub same_action : (M : Model) (h : ℕ) → lowest_best (process M) h s ≡ lowest_best (process M) h t
  same_action M h = sym (lowest_best_scaled M t.den t.D>0 h s) ∙ (ap (lowest_best (process M) h) meet ∙ lowest_best_scaled M s.den s.D>0 h t)

-- ---- states as they are asked

take_scale : (k : ℤ) (m : ℕ) (l : List ℤ) → take m (scale_list k l) ≡ scale_list k (take m l)
unfolding scale_list
take_scale k zero l = refl
take_scale k (suc m) [] = refl
take_scale k (suc m) (z ∷ l) = ap (λ (r : List ℤ). (k *ℤ z) ∷ r) (take_scale k m l)

den_pos : (z : ℤ) → T (le_z (pos 1) z) → pos (up z) ≡ z
den_pos (pos n) t = refl
den_pos (negsuc n) t = absurd t

module _ (m n : ℕ) where
  -- an accepted denominator is its natural number
  pub asked_den : (q : Asked) (t : T (accepted m n q)) → pos (state_of m n q t).den ≡ q.den
  unfolding accepted state_of
  asked_den q t = den_pos q.den (both (le_z (pos 1) q.den) (ltb q.mask (2 ^ n) && zeros (drop m q.nums)) t).0

  module _ (q r : Asked) (t : T (accepted m n q)) (u : T (accepted m n r)) (p : q.mask ≡ r.mask) (e : scale_list r.den q.nums ≡ scale_list q.den r.nums) where
    abbrev S : State
    S = state_of m n q t

    abbrev R : State
    R = state_of m n r u

    asked_conditions : S.conditions ≡ R.conditions
    unfolding state_of
    asked_conditions = ap (bits n) p

    asked_nums : scale_list (pos R.den) S.nums ≡ scale_list (pos S.den) R.nums
    unfolding state_of
    asked_nums = rw (asked_den r u, asked_den q t) (sym (take_scale r.den m q.nums) ∙ (ap (take m) e ∙ take_scale q.den m r.nums))

    pub same_value_asked : (M : Model) (h : ℕ) → weigh R.den (optimum (process M) h S) ≡ weigh S.den (optimum (process M) h R)
    same_value_asked M h = same_value S R asked_conditions asked_nums M h

    pub same_action_asked : (M : Model) (h : ℕ) → lowest_best (process M) h S ≡ lowest_best (process M) h R
    same_action_asked M h = same_action S R asked_conditions asked_nums M h

-- ---- values that are read

-- the number that a total reads as
unfoldable reads : Total → ℤ
reads (num z) = z
reads none = pos 0

answered_number : ((z : ℤ) → number (words z) ≡ z) → (x : Total) (a : ℕ) → number (answered x a).numerator ≡ reads x
unfolding answered reads
answered_number back (num z) a = back z
answered_number back none a = back (pos 0)

-- equal fractions read as such, with one action
same_reads : (d k : ℕ) → 0 < d → 0 < k → (x y : Total) → weigh d x ≡ weigh k y → reads x *ℤ pos d ≡ reads y *ℤ pos k
unfolding reads
same_reads d k p q (num z) (num y) e = *ℤ_comm z (pos d) ∙ ap reads (sym (weigh_num d z) ∙ e ∙ weigh_num k y) ∙ *ℤ_comm (pos k) y
same_reads d k p q (num z) none e = absurd (has_not_none (num (pos d *ℤ z)) tt (sym (weigh_num d z) ∙ e ∙ weigh_none k q))
same_reads d k p q none (num y) e = absurd (has_not_none (num (pos k *ℤ y)) tt (sym (weigh_num k y) ∙ sym e ∙ weigh_none d p))
same_reads d k p q none none e = zero-*ℤ (pos d) ∙ sym (zero-*ℤ (pos k))

same_acts : (d k : ℕ) → 0 < d → 0 < k → (x y : Total) (a : ℕ) → weigh d x ≡ weigh k y → (answered x a).action ≡ (answered y a).action
unfolding answered
same_acts d k p q (num z) (num y) a e = refl
same_acts d k p q (num z) none a e = absurd (has_not_none (num (pos d *ℤ z)) tt (sym (weigh_num d z) ∙ e ∙ weigh_none k q))
same_acts d k p q none (num y) a e = absurd (has_not_none (num (pos k *ℤ y)) tt (sym (weigh_num k y) ∙ sym e ∙ weigh_none d p))
same_acts d k p q none none a e = refl

-- where they are exact
pub same_values : ((z : ℤ) → number (words z) ≡ z) → Exact → SameValue
same_values back exact g h low high q r t u p e =
    let m = (site_at g.bytes).levels in
    let n = (site_at g.bytes).conditions in
    let M = model g.bytes in
    let s = state_of m n q t in
    let s' = state_of m n r u in
    let x = optimum (process M) h s in
    let y = optimum (process M) h s' in
    let a = exact g h low high q t in
    let b = exact g h low high r u in
    let va = ap (λ (o : ValueOut). number o.numerator) a ∙ answered_number back x (lowest_best (process M) h s) in
    let vb = ap (λ (o : ValueOut). number o.numerator) b ∙ answered_number back y (lowest_best (process M) h s') in
    let same = same_value_asked m n q r t u p e M h in (
      ap₂ ◌*ℤ◌ va (sym (asked_den m n r u)) ∙ same_reads s'.den s.den s'.D>0 s.D>0 x y same ∙ sym (ap₂ ◌*ℤ◌ vb (sym (asked_den m n q t))),
      ap (λ (o : ValueOut). o.action) a ∙ same_acts s'.den s.den s'.D>0 s.D>0 x y (lowest_best (process M) h s) same
          ∙ ap (λ (c : ℕ). (answered y c).action) (same_action_asked m n q r t u p e M h) ∙ sym (ap (λ (o : ValueOut). o.action) b),
    )
