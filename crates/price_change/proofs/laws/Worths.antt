-- Each action's worth is its total, and has not left its limits where the state's has not.
use Rattle.std.specs.Prelude.{◌≡◌, T, ltb, length}
use Rattle.std.proofs.Common.{sym, ap, ◌∙◌}
use Rattle.std.proofs.Math.Path.{subst}
use Rattle.std.proofs.Math.Logic.{⊎_elim}
use mathlib.Core.List.Memᴰ
use mathlib.Core.List.{List, [], ◌∷◌, map, Memᴰ}
use Prim.Native.Nat.{ℕ, suc, ◌+◌, ◌-◌, ◌≤◌, ◌<◌}
use native.Mathlib.Omega.{arith}
use Rattle.std.proofs.Math.Dec.{ltb→lt, nltb→le}
use Rattle.whole.specs.Cases.{by_test}
use Rattle.theory.specs.Process.{total, optimum}
use Rattle.theory.specs.Process.{Action as ProcessAction}
use Rattle.theory.specs.Meaning.{Action, Model, State, action_at, numbers_from, process}
use Rattle.theory.specs.Valid.{valid}
use Rattle.theory.specs.Plain.{Worth, is, nothing, over, action_worth, better, numbered, try_actions, state_worth}
use Rattle.theory.proofs.laws.Plain.{actions_in_order, first_action, Means, either, tried, action_total, action_exact, state_exact}
use Rattle.theory.proofs.laws.PlainLimits.{Fine}
use Rattle.price_change.specs.Sure.{worth_of}

-- ---- an action

module _ (M : Model) (ok : T (valid M)) (h : ℕ) (s : State) where
  pub worth_exact : (a : ℕ) → Means (worth_of M (suc h) s a) (total (process M) (optimum (process M) h) h a s)
  unfolding worth_of action_total total process
  worth_exact a = subst (λ (k : ℕ). Means (action_worth M (suc h) (state_worth M k) (action_at M a) s) (action_total M ok h (optimum (process M) h) s (action_at M a))) (let z : h ≡ suc h - 1 = omega arith in z)
      (action_exact M ok h (state_worth M h) (optimum (process M) h) (state_exact M ok h) s (action_at M a))

-- ---- no action is over where the best is not

either_fine : (a : ℕ) (o y : Worth) → Fine (either a o y) → Fine o × Fine y
unfolding better numbered
either_fine a (is v b) (is u e) h = (tt, tt)
either_fine a (is v b) nothing h = (tt, tt)
either_fine a (is v b) over h = absurd h
either_fine a nothing (is u e) h = (tt, tt)
either_fine a nothing nothing h = (tt, tt)
either_fine a nothing over h = absurd h
either_fine a over y h = absurd h

numbered_fine : (a : ℕ) (o : Worth) → Fine (numbered a o) → Fine o
unfolding numbered
numbered_fine a (is v b) h = tt
numbered_fine a nothing h = tt
numbered_fine a over h = h

tried_fine : (F : Action → Worth) (l : List Action) (a : ℕ) (o : Worth) → Fine (try_actions F a l o) → Fine o × ((x : Action) → Memᴰ x l → Fine (F x))
tried_fine F [] a o h = ((unfold try_actions in h), λ x m. absurd (Memᴰ.not-nil m))
tried_fine F (x ∷ l) a o h =
    let ih = tried_fine F l (suc a) (either a o (F x)) (subst Fine (tried F a x l o) h) in
    let d = either_fine a o (F x) ih.0 in
    (d.0, λ y m. ⊎_elim (λ i. subst (λ (z : Action). Fine (F z)) (sym i) d.1) (λ i. ih.1 y i) (Memᴰ.cases_cons m))

map_member : {A C : Type 0} (f : A → C) (l : List A) (a : A) → Memᴰ a l → Memᴰ (f a) (map f l)
map_member f [] a m = absurd (Memᴰ.not-nil m)
map_member f (x ∷ l) a m = ⊎_elim (λ i. Memᴰ.head (ap f i)) (λ i. Memᴰ.tail (map_member f l a i)) (Memᴰ.cases_cons m)

pub each_fine : (M : Model) (h : ℕ) (s : State) → Fine (state_worth M (suc h) s) → (a : ℕ) → ProcessAction (process M) a → Fine (worth_of M (suc h) s a)
unfolding state_worth worth_of process
each_fine M h s f a m =
    let F : Action → Worth = λ x. action_worth M (suc h) (state_worth M h) x s in
    let d = tried_fine F M.others 2 (numbered 1 (F M.first)) f in
    subst (λ (k : ℕ). Fine (action_worth M (suc h) (state_worth M k) (action_at M a) s)) (let z : h ≡ suc h - 1 = omega arith in z)
    (⊎_elim (λ i. subst (λ (x : Action). Fine (F x)) (sym (ap (action_at M) i ∙ first_action M)) (numbered_fine 1 (F M.first) d.0))
    (λ i. d.1 (action_at M a) (subst (Memᴰ (action_at M a)) (actions_in_order M) (map_member (action_at M) (numbers_from 2 M.others) a i)))
    (Memᴰ.cases_cons m))

-- ---- the numbers of the actions are 1 to A

numbers_range : {X : Type 0} (a : ℕ) (l : List X) (b : ℕ) → Memᴰ b (numbers_from a l) → (a ≤ b) × (b < a + length l)
unfolding numbers_from
numbers_range a [] b m = absurd (Memᴰ.not-nil m)
numbers_range a (x ∷ l) b m = ⊎_elim (λ e. (omega arith, omega arith)) (λ i. let d = numbers_range (suc a) l b i in (omega (arith, d.0), omega (arith, d.1))) (Memᴰ.cases_cons m)

range_numbers : {X : Type 0} (a : ℕ) (l : List X) (b : ℕ) → a ≤ b → b < a + length l → Memᴰ b (numbers_from a l)
unfolding numbers_from
range_numbers a [] b h k = absurd (omega arith)
range_numbers a (x ∷ l) b h k = by_test (ltb a b) (λ _. Memᴰ b (a ∷ numbers_from (suc a) l))
    (λ t. Memᴰ.tail (range_numbers (suc a) l b (omega (arith, ltb→lt a b t)) (omega arith)))
    (λ t. Memᴰ.head (let z = nltb→le a b t in omega arith))

module _ (M : Model) (a : ℕ) where
  pub action_range : ProcessAction (process M) a → (1 ≤ a) × (a < 1 + suc (length M.others))
  unfolding process
  action_range m = ⊎_elim (λ e. (omega arith, omega arith)) (λ i. let d = numbers_range 2 M.others a i in (omega (arith, d.0), omega (arith, d.1))) (Memᴰ.cases_cons m)

  pub range_action : 1 ≤ a → a < 1 + suc (length M.others) → ProcessAction (process M) a
  unfolding process
  range_action h k = by_test (ltb 1 a) (λ _. Memᴰ a (1 ∷ numbers_from 2 M.others))
      (λ t. Memᴰ.tail (range_numbers 2 M.others a (omega (arith, ltb→lt 1 a t)) (omega arith)))
      (λ t. Memᴰ.head (let z = nltb→le 1 a t in omega arith))
