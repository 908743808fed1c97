-- Two models' sites as one: the abstract law's instance.
use Rattle.std.specs.Prelude.{◌≡◌, ◌↔◌, ◌⊎◌, ℕ, suc, ◌+◌, ◌*◌, ◌^◌, ◌≤◌, ℤ, pos, ◌+ℤ◌, ◌*ℤ◌}
use Rattle.std.proofs.Common.{sym, ap₂, ◌∙◌, subst, ⊎_elim}
use Rattle.std.proofs.Math.Path.{ap}
use mathlib.Core.List.Memᴰ
use mathlib.Core.List.{List, [], ◌∷◌, ◌++◌, map, Memᴰ}
use native.Mathlib.Omega.{arith}
use Rattle.std.proofs.Math.Nat.{pow-zero, one-le-pow}
use Rattle.whole.specs.Int.{atom, diff}
use Rattle.theory.specs.Total.{Total, none, ◌⊕◌, weigh}
use Rattle.theory.specs.Loss.{sum}
use Rattle.theory.specs.Process.{Action, total, optimum, lowest_best}
use Rattle.theory.specs.Meaning.{Model, State, numbers_from, env, worth_at, action_at, end_at, power, process}
use Rattle.theory.specs.Verdict.{verdict}
use Rattle.theory.specs.Load.{model}
use Rattle.theory.proofs.laws.Total.{weigh-⊕, weigh_times, weigh_swap}
use Rattle.theory.proofs.laws.Process.{lowest_best_action}
use Rattle.theorems.proofs.laws.Weights.{power_step}
use Rattle.theorems.proofs.laws.Demands.{weights_sum}
use Rattle.value_joined.specs.Joined.{pairs, other_pairs, joined, joined_site}
use Rattle.value_joined.specs.Statements.{PairsSum}
use Rattle.value_joined.proofs.laws.Joined.{pairs_out, Even, Scale, joined_optimum, joined_best, joined_none}

-- the weights of every action and state sum to Wⁿ, and W^(n×h) grows by it
even : (B : List ℕ) → (verdict B).number ≡ 0 → Even (process (model B)) ((model B).weights ^ (model B).conditions)
even B v a s i = weights_sum B v a i s

scaled : (M : Model) → Scale (M.weights ^ M.conditions) (power M)
scaled M h = power_step M.weights M.conditions h

-- rewards added at the common scale are each side's at its own, times the other's
rewards_add : (p q : ℕ) (x y : Total) → weigh q (weigh p x) ⊕ weigh p (weigh q y) ≡ weigh (p * q) (x ⊕ y)
rewards_add p q x y = sym (weigh-⊕ (p * q) x y ∙ ap₂ ◌⊕◌ (weigh_times p q x ∙ weigh_swap p q x) (weigh_times p q y))

-- at the end both powers are 1
power_end : (M : Model) (z : ℤ) → pos (power M 0) *ℤ z ≡ z
power_end M z = ap (λ (n : ℕ). pos n *ℤ z) (ap (λ (k : ℕ). M.weights ^ k) nothing ∙ pow-zero M.weights) ∙ once z
  where
    nothing : M.conditions * 0 ≡ 0
    nothing = omega arith

    once : (z : ℤ) → pos 1 *ℤ z ≡ z
    once z = rw (← atom z) (simp diff (omega arith))

-- the joined site is the two processes joined, crosswise
pub site_is : (M N : Model) → joined (power N) (power M) (process M) (process N) ≡ joined_site M N
unfolding process joined_site
site_is M N = λ i. record {
  first = (joined_site M N).first;
  others = (joined_site M N).others;
  settings = (joined_site M N).settings;
  reward = λ h a s. rewards_add (power M (suc h)) (power N (suc h)) (worth_at (env s.0 []) (action_at M a.0).reward) (worth_at (env s.1 []) (action_at N a.1).reward) i;
  weight = (joined_site M N).weight;
  next = (joined_site M N).next;
  end = λ s. ends s i;
}
  where
    ends : (s : State × State) → pos (power N 0) *ℤ end_at (env s.0 []) M.end +ℤ pos (power M 0) *ℤ end_at (env s.1 []) N.end ≡ end_at (env s.0 []) M.end +ℤ end_at (env s.1 []) N.end
    ends s = ap₂ ◌+ℤ◌ (power_end N (end_at (env s.0 []) M.end)) (power_end M (end_at (env s.1 []) N.end))

module _ (B C : List ℕ) (v : (verdict B).number ≡ 0) (w : (verdict C).number ≡ 0) where
  abbrev M : Model
  M = model B

  abbrev N : Model
  N = model C

  -- its best total is the sum of theirs, at the common scale
  pub site_optimum : (h : ℕ) (s r : State) → optimum (joined_site M N) h (s, r) ≡ weigh (power N h) (optimum (process M) h s) ⊕ weigh (power M h) (optimum (process N) h r)
  site_optimum h s r = ap (λ J. optimum J h (s, r)) (sym (site_is M N)) ∙ joined_optimum (process M) (process N) _ _ (power N) (power M) (even B v) (even C w) (scaled N) (scaled M) h s r

  -- the pair of lowest best actions is an action, and reaches it
  pub site_best : (h : ℕ) (s r : State) → let c : ℕ × ℕ = (lowest_best (process M) (suc h) s, lowest_best (process N) (suc h) r) in
      Action (joined_site M N) c × (total (joined_site M N) (optimum (joined_site M N) h) h c (s, r) ≡ optimum (joined_site M N) (suc h) (s, r))
  site_best h s r = subst (λ J. let c : ℕ × ℕ = (lowest_best (process M) (suc h) s, lowest_best (process N) (suc h) r) in Action J c × (total J (optimum J h) h c (s, r) ≡ optimum J (suc h) (s, r)))
      (site_is M N) (joined_best (process M) (process N) _ _ (power N) (power M) (even B v) (even C w) (scaled N) (scaled M) h s r)

  -- none exactly where one of theirs is
  pub site_none : 1 ≤ M.weights → 1 ≤ N.weights → (h : ℕ) (s r : State) → (optimum (joined_site M N) h (s, r) ≡ none) ↔ ((optimum (process M) h s ≡ none) ⊎ (optimum (process N) h r ≡ none))
  site_none a b h s r = subst (λ J. (optimum J h (s, r) ≡ none) ↔ ((optimum (process M) h s ≡ none) ⊎ (optimum (process N) h r ≡ none))) (site_is M N)
      (joined_none (process M) (process N) _ _ (power N) (power M) (even B v) (even C w) (scaled N) (scaled M) h s r
      (one-le-pow (N.conditions * h) N.weights b) (one-le-pow (M.conditions * h) M.weights a))

-- ---- actions are numbered from 1

numbers_above : {X : Type 0} (a : ℕ) (l : List X) (b : ℕ) → Memᴰ b (numbers_from a l) → a ≤ b
unfolding numbers_from
numbers_above a [] b m = absurd (Memᴰ.not-nil m)
numbers_above a (x ∷ l) b m = ⊎_elim (λ e. omega arith) (λ n. let k = numbers_above (suc a) l b n in omega arith) (Memᴰ.cases_cons m)

pub lowest_some : (M : Model) (h : ℕ) (s : State) → 1 ≤ lowest_best (process M) h s
unfolding process
lowest_some M h s = ⊎_elim (λ e. omega arith) (λ n. let k = numbers_above 2 M.others _ n in omega arith) (Memᴰ.cases_cons (lowest_best_action (process M) h s))

-- ---- weights of pairs

module _ {E D : Type 0} (u : E → ℕ) (v : D → ℕ) where
  sum_row : (e : E) (k : List D) (l : List (E × D)) → sum (λ p. u p.0 * v p.1) (map (λ d. (e, d)) k ++ l) ≡ u e * sum v k + sum (λ p. u p.0 * v p.1) l
  unfolding sum
  sum_row e [] l = omega arith
  sum_row e (d ∷ k) l = more (u e) (v d) (sum v k) _ _ (sum_row e k l)
    where
      more : (a b c x y : ℕ) → x ≡ a * c + y → a * b + x ≡ a * (b + c) + y
      more a b c x y e = rw e (omega arith)

  pairs_sum : (l : List E) (k : List D) → sum (λ p. u p.0 * v p.1) (pairs l k) ≡ sum u l * sum v k
  unfolding pairs sum
  pairs_sum [] k = omega arith
  pairs_sum (e ∷ l) k = sum_row e k (pairs l k) ∙ ap (λ (n : ℕ). u e * sum v k + n) (pairs_sum l k) ∙ spread (u e) (sum u l) (sum v k)
    where
      spread : (a b c : ℕ) → a * c + b * c ≡ (a + b) * c
      spread a b c = omega arith

pub site_weights : PairsSum
unfolding joined_site process other_pairs pairs
site_weights B C v w a i s =
    let (j, k) = pairs_out a (1 ∷ numbers_from 2 (model B).others) (1 ∷ numbers_from 2 (model C).others) i in
    pairs_sum ((process (model B)).weight a.0 s.0) ((process (model C)).weight a.1 s.1) (process (model B)).settings (process (model C)).settings
    ∙ ap₂ ◌*◌ (weights_sum B v a.0 j s.0) (weights_sum C w a.1 k s.1)
