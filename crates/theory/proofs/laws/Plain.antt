-- Plain working: where it answers, it answers with the optimum and the lowest of the best actions.
use Rattle.std.specs.Prelude.{◌≡◌, not, T, eqb, ltb, leb, ℤ, ◌+ℤ◌, ◌*ℤ◌, length}
use Rattle.std.proofs.Math.Path.{refl, ap₂, subst}
use Rattle.std.proofs.Common.{sym, ap, ◌∙◌, arith, eq-eqb, eqb→eq}
use Rattle.std.proofs.Math.Bool.{Bool, true, false}
use mathlib.Core.List.{List, [], ◌∷◌, map}
use Prim.Native.Nat.{ℕ, zero, suc, ◌+◌, ◌≤◌, ◌<◌}
use Rattle.std.proofs.Math.Nat.{one-le-pow}
use Rattle.std.proofs.Math.IntN.{pos}
use Rattle.std.specs.Int.Signed.{le_z}
use Rattle.whole.specs.Cases.{if, by_test, both, from_true}
use Rattle.whole.specs.Within.{small}
use Rattle.theory.specs.Widths.{steps_most, bytes_most, levels_most, conditions_most, weights_most}
use Rattle.theory.specs.Total.{Total, num, none, le_total, ◌⊕◌, weigh, max_total, mean, greatest_from, first_best}
use Rattle.theory.specs.Process.{Process, total, optimum, lowest_best}
use Rattle.theory.specs.Meaning.{Action, Model, State, nth_action, action_at, numbers_from, env, worth_at, chance_at, weight, settings, moved, power, process}
use Rattle.theory.specs.Valid.{all, among, valid}
use Rattle.theory.specs.Verdict.{refusal, verdict, or}
use Rattle.theory.specs.Load.{site_at, model}
use Rattle.theory.specs.Solve.{early}
use Rattle.theory.specs.Value.{Asked, accepted, state_of, ValueOut, refused_value, answered}
use Rattle.theory.specs.Plain.{Worth, is, nothing, over, judged, in_32_bits, sum_settings, rewarded, action_worth, better, try_actions, numbered, state_worth, worth_out, if_true, plain_of}
use Rattle.theory.proofs.laws.Total.{⊕_comm, ⊕_assoc, ⊕_zero, zero-⊕, num-⊕, none-⊕, weigh_num, weigh_none, weigh_zero}
use Rattle.theory.proofs.laws.Valid.{among_out}
use Rattle.theory.proofs.laws.AcceptedModel.{positive, accepted_valid}

-- ---- actions and their numbers

in_order : (φ : ℕ → Action) (a : ℕ) (y : Action) (l : List Action) → ((k : ℕ) → φ (a + k) ≡ nth_action y l (suc k)) → map φ (numbers_from a l) ≡ l
unfolding numbers_from nth_action
in_order φ a y [] h = refl
in_order φ a y (z ∷ l) h = ap₂ ◌∷◌ (ap φ (omega arith) ∙ h 0) (in_order φ (suc a) z l (λ k. ap φ (omega arith) ∙ h (suc k)))

-- numbers 2, 3, .. are those of the actions after the first, in order
pub actions_in_order : (M : Model) → map (action_at M) (numbers_from 2 M.others) ≡ M.others
unfolding action_at
actions_in_order M = in_order (action_at M) 2 M.first M.others (λ k. ap (nth_action M.first M.others) (omega arith))

pub first_action : (M : Model) → action_at M 1 ≡ M.first
unfolding action_at nth_action
first_action M = refl

-- ---- what a worth says

-- a worth, where it is not over, is a total
abbrev pub Means : Worth → Total → Type 0
Means (is v a) t = t ≡ num v
Means nothing t = t ≡ none
Means over t = Unit {0}

-- and it names the action
abbrev pub MeansAt : Worth → Total → ℕ → Type 0
MeansAt (is v a) t c = (t ≡ num v) × (a ≡ c)
MeansAt nothing t c = t ≡ none
MeansAt over t c = Unit {0}

means : (o : Worth) (t : Total) (c : ℕ) → MeansAt o t c → Means o t
means (is v a) t c m = m.0
means nothing t c m = m
means over t c m = tt

means_if : (b : Bool) (x : Worth) (t : Total) → Means x t → Means (if b x over) t
means_if true x t m = m
means_if false x t m = tt

means_judged : (z : ℤ) (x : Worth) (t : Total) → Means x t → Means (judged z x) t
unfolding judged
means_judged z = means_if (small z)

-- ---- sums over settings

unweighed : (w : ℕ) (x y : Total) → w ≡ 0 → y ≡ weigh w x ⊕ y
unweighed w x y e = rw e (sym (ap (λ z. z ⊕ y) (weigh_zero x) ∙ zero-⊕ y))

-- a number added to a running sum
added : (sum v : ℤ) (w : ℕ) (x y : Total) → x ≡ num v → num (sum +ℤ pos w *ℤ v) ⊕ y ≡ num sum ⊕ (weigh w x ⊕ y)
added sum v w x y e = ap (λ z. z ⊕ y) (sym (num-⊕ sum (pos w *ℤ v)) ∙ ap (λ z. num sum ⊕ z) (sym (weigh_num w v) ∙ ap (weigh w) (sym e))) ∙ ⊕_assoc _ _ _

-- and none
none_added : (sum : ℤ) (w : ℕ) (x y : Total) → 0 < w → x ≡ none → num sum ⊕ (weigh w x ⊕ y) ≡ none
none_added sum w x y p e = ap (λ z. num sum ⊕ (z ⊕ y)) (ap (weigh w) e ∙ weigh_none w p) ∙ ap (λ z. num sum ⊕ z) (none-⊕ y) ∙ ⊕_comm (num sum) none ∙ none-⊕ (num sum)

module _ (worth : State → Worth) (f : State → Total) (ok : (s : State) → Means (worth s) (f s)) (w : List Bool → ℕ) (next : List Bool → State) where
  abbrev rest : List (List Bool) → Total
  rest l = mean w (λ r. f (next r)) l

  sum_exact : (l : List (List Bool)) (sum : ℤ) → Means (sum_settings worth w next l sum) (num sum ⊕ rest l)
  unfolding sum_settings mean
  sum_exact [] sum = ⊕_zero _
  sum_exact (r ∷ l) sum = by_test (eqb (w r) 0)
      (λ b. Means (elim b [
        | true ↦ sum_settings worth w next l sum
        | false ↦ if (all in_32_bits (next r).nums) (elim (worth (next r)) [
          | is v a ↦ judged (pos (w r) *ℤ v) (judged (sum +ℤ pos (w r) *ℤ v) (sum_settings worth w next l (sum +ℤ pos (w r) *ℤ v)))
          | nothing ↦ nothing
          | over ↦ over
        ]) over
      ]) (num sum ⊕ (weigh (w r) (f (next r)) ⊕ rest l)))
      (λ t. subst (Means (sum_settings worth w next l sum)) (ap (λ z. num sum ⊕ z) (unweighed (w r) (f (next r)) (rest l) (eqb→eq (w r) 0 t))) (sum_exact l sum))
      (λ t. means_if (all in_32_bits (next r).nums) _ _ (turn (positive (w r) t) (λ z. sum_exact l z) (worth (next r)) (ok (next r))))
    where
      turn : 1 ≤ w r → ((z : ℤ) → Means (sum_settings worth w next l z) (num z ⊕ rest l)) → (o : Worth) → Means o (f (next r))
          → Means (elim o [
            | is v a ↦ judged (pos (w r) *ℤ v) (judged (sum +ℤ pos (w r) *ℤ v) (sum_settings worth w next l (sum +ℤ pos (w r) *ℤ v)))
            | nothing ↦ nothing
            | over ↦ over
          ]) (num sum ⊕ (weigh (w r) (f (next r)) ⊕ rest l))
      turn p ih (is v a) m = means_judged _ _ _ (means_judged _ _ _ (subst (Means (sum_settings worth w next l (sum +ℤ pos (w r) *ℤ v))) (added sum v (w r) (f (next r)) (rest l) m) (ih (sum +ℤ pos (w r) *ℤ v))))
      turn p ih nothing m = none_added sum (w r) (f (next r)) (rest l) p m
      turn p ih over m = tt

-- ---- the actions

-- the better of the best so far, numbered b, and of y, numbered a
abbrev pub either : ℕ → Worth → Worth → Worth
either a (is v b) y = better v b a y
either a nothing y = numbered a y
either a over y = over

either_exact : (a b : ℕ) (o y : Worth) (s t : Total) → MeansAt o s b → Means y t → MeansAt (either a o y) (max_total s t) (if (le_total t s) b a)
unfolding better numbered max_total le_total
either_exact a b (is v d) (is u e) s t m n = rw (m.0, n) (by_test (le_z u v) (λ z. MeansAt (if z (is v d) (is u a)) (if z (num v) (num u)) (if z b a)) (λ _. (refl, m.1)) (λ _. (refl, refl)))
either_exact a b (is v d) nothing s t m n = rw (m.0, n) (refl, m.1)
either_exact a b (is v d) over s t m n = tt
either_exact a b nothing (is u e) s t m n = rw (m, n) (refl, refl)
either_exact a b nothing nothing s t m n = rw (m, n) refl
either_exact a b nothing over s t m n = tt
either_exact a b over y s t m n = tt

numbered_exact : (o : Worth) (t : Total) (a : ℕ) → Means o t → MeansAt (numbered a o) t a
unfolding numbered
numbered_exact (is v b) t a m = (m, refl)
numbered_exact nothing t a m = m
numbered_exact over t a m = tt

pub tried : (F : Action → Worth) (a : ℕ) (x : Action) (l : List Action) (o : Worth) → try_actions F a (x ∷ l) o ≡ try_actions F (suc a) l (either a o (F x))
unfolding try_actions
tried F a x l (is v b) = refl
tried F a x l nothing = refl
tried F a x [] over = refl
tried F a x (y ∷ l) over = refl

module _ (F : Action → Worth) (g : Action → Total) (ok : (x : Action) → Means (F x) (g x)) (φ : ℕ → Action) where
  abbrev worth_of : ℕ → Total
  worth_of a = g (φ a)

  -- the best of b and the actions of l, numbered from a
  actions_exact : (l : List Action) (a : ℕ) → map φ (numbers_from a l) ≡ l → (b : ℕ) (o : Worth) → MeansAt o (worth_of b) b
      → MeansAt (try_actions F a l o) (greatest_from worth_of (worth_of b) (numbers_from a l)) (first_best worth_of b (numbers_from a l))
  unfolding numbers_from greatest_from first_best
  actions_exact [] a n b o m = unfold try_actions in m
  actions_exact (x ∷ l) a n b o m =
      let c : ℕ = if (le_total (worth_of a) (worth_of b)) b a in
      let i : MeansAt (either a o (F x)) (worth_of c) c = subst (λ (z : Total). MeansAt (either a o (F x)) z c) (sym (picked_is b a))
      (either_exact a b o (F x) (worth_of b) (worth_of a) m (subst (λ (y : Action). Means (F x) (g y)) (sym here) (ok x))) in
      rw (tried F a x l o) (subst (λ (z : Total). MeansAt (try_actions F (suc a) l (either a o (F x))) (greatest_from worth_of z (numbers_from (suc a) l)) (first_best worth_of c (numbers_from (suc a) l)))
      (picked_is b a) (actions_exact l (suc a) (cc) c (either a o (F x)) i))
    where
      here : φ a ≡ x
      here = cc

      picked_is : (b a : ℕ) → worth_of (if (le_total (worth_of a) (worth_of b)) b a) ≡ max_total (worth_of b) (worth_of a)
      picked_is b a = unfold max_total in (by_test (le_total (worth_of a) (worth_of b)) (λ t. worth_of (if t b a) ≡ if t (worth_of b) (worth_of a)) (λ _. refl) (λ _. refl))

-- ---- states

-- a model's weights are out of 1 or more
pub weights_positive : (M : Model) → T (valid M) → 0 < M.weights
unfolding valid
weights_positive M t =
    let a = both (among levels_most M.levels) _ t in
    let b = both (leb M.conditions conditions_most) _ a.1 in
    (among_out weights_most M.weights (both (among weights_most M.weights) _ b.1).0).0

module _ (M : Model) (ok : T (valid M)) where
  abbrev P : Process State ℕ (List Bool)
  P = process M

  -- an action's total, of the action instead of its number
  unfoldable pub action_total : ℕ → (State → Total) → State → Action → Total
  action_total h f s x = weigh (power M (suc h)) (worth_at (env s []) x.reward)
      ⊕ mean (weight M.weights (map (chance_at (env s [])) x.chances)) (λ r. f (moved s x.levels r)) (settings M.conditions)

  pub action_exact : (h : ℕ) (worth : State → Worth) (f : State → Total) → ((s : State) → Means (worth s) (f s))
      → (s : State) (x : Action) → Means (action_worth M (suc h) worth x s) (action_total h f s x)
  unfolding action_worth action_total rewarded
  action_exact h worth f k s x = means_judged _ _ _ (reward (worth_at (env s []) x.reward))
    where
      w : List Bool → ℕ
      w = weight M.weights (map (chance_at (env s [])) x.chances)

      rest : Total
      rest = mean w (λ r. f (moved s x.levels r)) (settings M.conditions)

      reward : (t : Total) → Means (elim t [ num z ↦ rewarded M (suc h) worth x s z | none ↦ nothing ]) (weigh (power M (suc h)) t ⊕ rest)
      reward (num z) = means_judged _ _ _ (means_judged _ _ _ (subst (Means (sum_settings worth w (moved s x.levels) (settings M.conditions) (pos (power M (suc h)) *ℤ z)))
          (ap (λ y. y ⊕ rest) (sym (weigh_num (power M (suc h)) z))) (sum_exact worth f k w (moved s x.levels) (settings M.conditions) (pos (power M (suc h)) *ℤ z))))
      reward none = ap (λ y. y ⊕ rest) (weigh_none (power M (suc h)) (one-le-pow _ M.weights (weights_positive M ok))) ∙ none-⊕ rest

  state_named : (h : ℕ) → ((s : State) → Means (state_worth M h s) (optimum P h s)) → (s : State) → MeansAt (state_worth M (suc h) s) (optimum P (suc h) s) (lowest_best P (suc h) s)
  unfolding state_worth optimum lowest_best process total action_total
  state_named h k s =
      let F : Action → Worth = λ x. action_worth M (suc h) (state_worth M h) x s in
      let g = action_total h (optimum P h) s in
      let ex : (x : Action) → Means (F x) (g x) = action_exact h (state_worth M h) (optimum P h) k s in
      actions_exact F g ex (action_at M) M.others 2 (actions_in_order M) 1 (numbered 1 (F M.first))
      (numbered_exact (F M.first) (g (action_at M 1)) 1 (subst (λ (x : Action). Means (F M.first) (g x)) (sym (first_action M)) (ex M.first)))

  -- plain working's worth of a state is "V_h(s)"
  pub state_exact : (h : ℕ) (s : State) → Means (state_worth M h s) (optimum P h s)
  state_exact zero s = unfold state_worth optimum process in (means_judged _ _ _ refl)
  state_exact (suc h) s = means (state_worth M (suc h) s) (optimum P (suc h) s) (lowest_best P (suc h) s) (state_named h (state_exact h) s)

  -- and its action the lowest that reaches it
  pub state_action : (h : ℕ) (s : State) → MeansAt (state_worth M (suc h) s) (optimum P (suc h) s) (lowest_best P (suc h) s)
  state_action h s = state_named h (state_exact h) s

  pub plain_exact : (h : ℕ) (s : State) (v : ℤ) (a : ℕ) → state_worth M h s ≡ is v a → optimum P h s ≡ num v
  plain_exact h s v a e = subst (λ (o : Worth). Means o (optimum P h s)) e (state_exact h s)

  pub plain_none : (h : ℕ) (s : State) → state_worth M h s ≡ nothing → optimum P h s ≡ none
  plain_none h s e = subst (λ (o : Worth). Means o (optimum P h s)) e (state_exact h s)

  pub plain_action : (h : ℕ) (s : State) (v : ℤ) (a : ℕ) → state_worth M (suc h) s ≡ is v a → a ≡ lowest_best P (suc h) s
  plain_action h s v a e = (subst (λ (o : Worth). MeansAt o (optimum P (suc h) s) (lowest_best P (suc h) s)) e (state_action h s)).1

  pub worth_exact : (h : ℕ) (s : State) → 1 ≤ h → (worth_out (state_worth M h s)).number ≡ 0 → worth_out (state_worth M h s) ≡ answered (optimum P h s) (lowest_best P h s)
  unfolding worth_out answered
  worth_exact zero s k n = absurd (omega arith)
  worth_exact (suc h) s k n = go (state_worth M (suc h) s) (state_action h s) n
    where
      go : (o : Worth) → MeansAt o (optimum P (suc h) s) (lowest_best P (suc h) s) → (worth_out o).number ≡ 0 → worth_out o ≡ answered (optimum P (suc h) s) (lowest_best P (suc h) s)
      go (is v a) m n = ap₂ answered (sym m.0) m.1
      go nothing m n = rw m refl
      go over m n = absurd (omega arith)

-- ---- the outcome

early_verdict : (B : List ℕ) (steps words : ℕ) → (early B steps words).number ≡ 0 → (verdict B).number ≡ 0
unfolding early
early_verdict B steps words e = go (or (not (eqb words steps_most)) (ltb bytes_most (length B))) (not (among steps_most steps)) e
  where
    go : (b c : Bool) → (if b (refusal 10 0) (if c (refusal 9 0) (verdict B))).number ≡ 0 → (verdict B).number ≡ 0
    go true c e = absurd (omega arith)
    go false true e = absurd (omega arith)
    go false false e = e

-- where plain working answers, no refusal of the call applies, the state is accepted, and the answer is the optimum and the lowest of the best actions
pub plain_of_exact : (B : List ℕ) (h : ℕ) (q : Asked) → 1 ≤ h → (plain_of B h q).number ≡ 0
    → ((early B h steps_most).number ≡ 0)
    × ((t : T (accepted (site_at B).levels (site_at B).conditions q)) × (let s = state_of (site_at B).levels (site_at B).conditions q t in
    plain_of B h q ≡ answered (optimum (process (model B)) h s) (lowest_best (process (model B)) h s)))
unfolding plain_of if_true
plain_of_exact B h q k n = go (eqb (early B h steps_most).number 0) refl n
  where
    m : ℕ
    m = (site_at B).levels

    c : ℕ
    c = (site_at B).conditions

    out : T (accepted m c q) → ValueOut
    out t = worth_out (state_worth (model B) h (state_of m c q t))

    good : T (accepted m c q) → ValueOut
    good t = answered (optimum (process (model B)) h (state_of m c q t)) (lowest_best (process (model B)) h (state_of m c q t))

    some : (b : Bool) (f : T b → ValueOut) (g : T b → ValueOut) → ((t : T b) → (f t).number ≡ 0 → f t ≡ g t) → (if_true b f (refused_value 13 0)).number ≡ 0
        → (t : T b) × (if_true b f (refused_value 13 0) ≡ g t)
    some true f g ok n = (tt, ok tt n)
    some false f g ok n = absurd (omega arith)

    go : (b : Bool) → eqb (early B h steps_most).number 0 ≡ b
        → (if b (if_true (accepted m c q) out (refused_value 13 0)) (refused_value (early B h steps_most).number (early B h steps_most).place)).number ≡ 0
        → ((early B h steps_most).number ≡ 0)
        × ((t : T (accepted m c q)) × (if b (if_true (accepted m c q) out (refused_value 13 0)) (refused_value (early B h steps_most).number (early B h steps_most).place) ≡ good t))
    go true e n =
        let z : (early B h steps_most).number ≡ 0 = eqb→eq _ 0 (from_true e) in
        (z, some (accepted m c q) out good (λ t. worth_exact (model B) (accepted_valid B (early_verdict B h steps_most z)) h (state_of m c q t) k) n)
    go false e n = absurd (let z : ◌≡◌ {A = ℕ} 0 1 = cc (eq-eqb (early B h steps_most).number 0 n) in omega arith)
