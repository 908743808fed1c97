-- Plain working answers exactly where it stays within its limits.
use Rattle.std.specs.Prelude.{◌≡◌, refl, Bool, true, false, T, eqb, leb, ℤ, pos, negsuc, nat_abs, ◌+ℤ◌, ◌*ℤ◌}
use Rattle.std.proofs.Common.{sym, ap, ◌∙◌, arith, eqb→eq, leb→le, le→leb, ltb→lt, lt→ltb}
use Rattle.std.proofs.Math.Path.{subst}
use Rattle.std.proofs.Math.Logic.{⊎_elim}
use mathlib.Core.List.Memᴰ
use mathlib.Core.List.{List, [], ◌∷◌, Memᴰ}
use Prim.Native.Nat.{ℕ, zero, suc, ◌≤◌}
use Rattle.std.proofs.Math.IntN.{+ℤ_idr}
use Rattle.std.specs.Int.Signed.{le_z}
use Rattle.whole.specs.Cases.{if, by_test, both, and_in}
use Rattle.whole.specs.Within.{small}
use Rattle.theory.specs.Total.{Total, num, none, OfNumber, weigh}
use Rattle.theory.specs.Process.{optimum}
use Rattle.theory.specs.Meaning.{Action, Model, State, env, worth_at, process}
use Rattle.theory.specs.Valid.{all, valid}
use Rattle.theory.specs.Plain.{Worth, is, nothing, over, judged, in_32_bits, sum_settings, rewarded, action_worth, better, try_actions, numbered, state_worth}
use Rattle.theory.specs.Staying.{In32, In62, SumStays, RewardStays, ActionStays, Stays}
use Rattle.theory.proofs.laws.Total.{weigh_num, weigh_none, weigh_zero}
use Rattle.theory.proofs.laws.AcceptedModel.{positive}
use Rattle.theory.proofs.laws.Plain.{Means, either, tried, state_exact}

-- ---- numbers

pub in_32 : (z : ℤ) → T (in_32_bits z) → In32 z
unfolding in_32_bits
in_32 (pos n) t = (record { le = tt }, record { lt = lt→ltb n 2147483648 (omega (arith, leb→le n 2147483647 t)) })
in_32 (negsuc n) t = (record { le = (both (leb n 2147483647) true t).0 }, record { lt = tt })

pub back_32 : (z : ℤ) → In32 z → T (in_32_bits z)
unfolding in_32_bits
back_32 (pos n) d = le→leb n 2147483647 (omega (arith, ltb→lt n 2147483648 d.1.lt))
back_32 (negsuc n) d = and_in (leb n 2147483647) true d.0.le tt

pub in_62 : (z : ℤ) → T (small z) → In62 z
unfolding small
in_62 z t = let h = leb→le (nat_abs z) 4611686018427387903 t in omega arith

pub back_62 : (z : ℤ) → In62 z → T (small z)
unfolding small
back_62 z h = le→leb (nat_abs z) 4611686018427387903 (omega arith)

all_in : (l : List ℤ) → T (all in_32_bits l) → (z : ℤ) → Memᴰ z l → In32 z
unfolding all
all_in [] t z m = absurd (Memᴰ.not-nil m)
all_in (y ∷ l) t z m = let d = both (in_32_bits y) (all in_32_bits l) t in ⊎_elim (λ i. rw i (in_32 y d.0)) (λ i. all_in l d.1 z i) (Memᴰ.cases_cons m)

all_back : (l : List ℤ) → ((z : ℤ) → Memᴰ z l → In32 z) → T (all in_32_bits l)
unfolding all
all_back [] f = tt
all_back (y ∷ l) f = and_in (in_32_bits y) (all in_32_bits l) (back_32 y (f y (Memᴰ.head refl))) (all_back l (λ z m. f z (Memᴰ.tail m)))

-- ---- what an answer needs

-- a worth, or none: no number left its limits
abbrev pub Fine : Worth → Type 0
Fine (is v a) = Unit {0}
Fine nothing = Unit {0}
Fine over = ⊥

if_fine : (b : Bool) (x : Worth) → Fine (if b x over) → T b × Fine x
if_fine true x h = (tt, h)
if_fine false x h = absurd h

fine_if : (b : Bool) (x : Worth) → T b → Fine x → Fine (if b x over)
fine_if true x t h = h
fine_if false x t h = absurd t

judged_out : (z : ℤ) (x : Worth) → Fine (judged z x) → In62 z × Fine x
unfolding judged
judged_out z x h = let d = if_fine (small z) x h in (in_62 z d.0, d.1)

judged_in : (z : ℤ) (x : Worth) → In62 z → Fine x → Fine (judged z x)
unfolding judged
judged_in z x h k = fine_if (small z) x (back_62 z h) k

-- what is asked of a number that is added, and where nothing is
unweighed : (w : ℕ) (x : Total) → w ≡ 0 → weigh w x ≡ num (pos 0)
unweighed w x e = rw e (weigh_zero x)

weighed : (w : ℕ) (x : Total) (v : ℤ) → x ≡ num v → weigh w x ≡ num (pos w *ℤ v)
weighed w x v e = ap (weigh w) e ∙ weigh_num w v

stopped : (w : ℕ) (x : Total) → 1 ≤ w → x ≡ none → weigh w x ≡ none
stopped w x p e = ap (weigh w) e ∙ weigh_none w p

module _ (worth : State → Worth) (ok : State → Type 0) (f : State → Total) (means : (s : State) → Means (worth s) (f s)) (w : List Bool → ℕ) (next : List Bool → State) where
  abbrev after : List Bool → List (List Bool) → ℤ → Worth → Worth
  after r l sum o = elim o [
    | is u b ↦ judged (pos (w r) *ℤ u) (judged (sum +ℤ pos (w r) *ℤ u) (sum_settings worth w next l (sum +ℤ pos (w r) *ℤ u)))
    | nothing ↦ nothing
    | over ↦ over
  ]

  abbrev turn : List Bool → List (List Bool) → ℤ → Bool → Worth
  turn r l sum b = elim b [
    | true ↦ sum_settings worth w next l sum
    | false ↦ if (all in_32_bits (next r).nums) (after r l sum (worth (next r))) over
  ]

  -- what is asked of what is added for a setting, and then
  abbrev Adds : List Bool → List (List Bool) → ℤ → ℤ → Type 0
  Adds r l sum v = (1 ≤ w r → In62 v × In62 (sum +ℤ v)) × SumStays ok f w next l (sum +ℤ v)

  module _ (k : (s : State) → Fine (worth s) → ok s) where
    sum_stays : (l : List (List Bool)) (sum : ℤ) → Fine (sum_settings worth w next l sum) → SumStays ok f w next l sum
    unfolding sum_settings
    sum_stays [] sum h = tt
    sum_stays (r ∷ l) sum h = by_test (eqb (w r) 0) (λ b. Fine (turn r l sum b) → SumStays ok f w next (r ∷ l) sum)
        (λ t h. skipped (eqb→eq (w r) 0 t) (sum_stays l sum h))
        (λ t h. let d = if_fine (all in_32_bits (next r).nums) _ h in worked (positive (w r) t) d.0 (λ z. sum_stays l z) (worth (next r)) (means (next r)) (k (next r)) d.1) h
      where
        skipped : w r ≡ 0 → SumStays ok f w next l sum → SumStays ok f w next (r ∷ l) sum
        skipped z i = (
          (λ p. absurd (omega arith)),
          subst (λ (t : Total). OfNumber t (Adds r l sum)) (sym (unweighed (w r) (f (next r)) z)) ((λ p. absurd (omega arith)), subst (SumStays ok f w next l) (sym (+ℤ_idr sum)) i),
        )

        worked : 1 ≤ w r → T (all in_32_bits (next r).nums) → ((z : ℤ) → Fine (sum_settings worth w next l z) → SumStays ok f w next l z)
            → (o : Worth) → Means o (f (next r)) → (Fine o → ok (next r)) → Fine (after r l sum o) → SumStays ok f w next (r ∷ l) sum
        worked p t ih (is u b) m k h =
            let x = judged_out (pos (w r) *ℤ u) _ h in
            let y = judged_out (sum +ℤ pos (w r) *ℤ u) _ x.1 in (
              (λ _. (all_in (next r).nums t, k tt)),
              subst (λ (t : Total). OfNumber t (Adds r l sum)) (sym (weighed (w r) (f (next r)) u m)) ((λ _. (x.0, y.0)), ih (sum +ℤ pos (w r) *ℤ u) y.1),
            )
        worked p t ih nothing m k h = ((λ _. (all_in (next r).nums t, k tt)), subst (λ (t : Total). OfNumber t (Adds r l sum)) (sym (stopped (w r) (f (next r)) p m)) tt)
        worked p t ih over m k h = absurd h

  module _ (k : (s : State) → ok s → Fine (worth s)) where
    stays_sum : (l : List (List Bool)) (sum : ℤ) → SumStays ok f w next l sum → Fine (sum_settings worth w next l sum)
    unfolding sum_settings
    stays_sum [] sum d = tt
    stays_sum (r ∷ l) sum d = by_test (eqb (w r) 0) (λ b. Fine (turn r l sum b))
        (λ t. stays_sum l sum (skipped (eqb→eq (w r) 0 t)))
        (λ t. let c = d.0 (positive (w r) t) in
        fine_if (all in_32_bits (next r).nums) _ (all_back (next r).nums c.0) (worked (positive (w r) t) (λ z. stays_sum l z) (worth (next r)) (means (next r)) (k (next r) c.1)))
      where
        skipped : w r ≡ 0 → SumStays ok f w next l sum
        skipped z = subst (SumStays ok f w next l) (+ℤ_idr sum) (subst (λ (t : Total). OfNumber t (Adds r l sum)) (unweighed (w r) (f (next r)) z) d.1).1

        worked : 1 ≤ w r → ((z : ℤ) → SumStays ok f w next l z → Fine (sum_settings worth w next l z)) → (o : Worth) → Means o (f (next r)) → Fine o → Fine (after r l sum o)
        worked p ih (is u b) m h =
            let c = subst (λ (t : Total). OfNumber t (Adds r l sum)) (weighed (w r) (f (next r)) u m) d.1 in
            judged_in (pos (w r) *ℤ u) _ (c.0 p).0 (judged_in (sum +ℤ pos (w r) *ℤ u) _ (c.0 p).1 (ih (sum +ℤ pos (w r) *ℤ u) c.1))
        worked p ih nothing m h = tt
        worked p ih over m h = h

-- ---- actions

either_out : (a : ℕ) (o y : Worth) → Fine (either a o y) → Fine o × Fine y
unfolding better numbered
either_out a (is v b) (is u e) h = (tt, tt)
either_out a (is v b) nothing h = (tt, tt)
either_out a (is v b) over h = absurd h
either_out a nothing (is u e) h = (tt, tt)
either_out a nothing nothing h = (tt, tt)
either_out a nothing over h = absurd h
either_out a over y h = absurd h

either_in : (a : ℕ) (o y : Worth) → Fine o → Fine y → Fine (either a o y)
unfolding better numbered
either_in a (is v b) (is u e) h k = by_test (le_z u v) (λ z. Fine (if z (is v b) (is u a))) (λ _. tt) (λ _. tt)
either_in a (is v b) nothing h k = tt
either_in a (is v b) over h k = k
either_in a nothing (is u e) h k = tt
either_in a nothing nothing h k = tt
either_in a nothing over h k = k
either_in a over y h k = h

module _ (F : Action → Worth) where
  tried_out : (l : List Action) (a : ℕ) (o : Worth) → Fine (try_actions F a l o) → Fine o × ((x : Action) → Memᴰ x l → Fine (F x))
  tried_out [] a o h = ((unfold try_actions in h), λ x m. absurd (Memᴰ.not-nil m))
  tried_out (x ∷ l) a o h =
      let ih = tried_out l (suc a) (either a o (F x)) (subst Fine (tried F a x l o) h) in
      let d = either_out a o (F x) ih.0 in
      (d.0, λ y m. ⊎_elim (λ i. subst (λ (z : Action). Fine (F z)) (sym i) d.1) (λ i. ih.1 y i) (Memᴰ.cases_cons m))

  tried_in : (l : List Action) (a : ℕ) (o : Worth) → Fine o → ((x : Action) → Memᴰ x l → Fine (F x)) → Fine (try_actions F a l o)
  tried_in [] a o h f = unfold try_actions in h
  tried_in (x ∷ l) a o h f = subst Fine (sym (tried F a x l o))
      (tried_in l (suc a) (either a o (F x)) (either_in a o (F x) h (f x (Memᴰ.head refl))) (λ y m. f y (Memᴰ.tail m)))

numbered_out : (a : ℕ) (o : Worth) → Fine (numbered a o) → Fine o
unfolding numbered
numbered_out a (is v b) h = tt
numbered_out a nothing h = tt
numbered_out a over h = h

numbered_in : (a : ℕ) (o : Worth) → Fine o → Fine (numbered a o)
unfolding numbered
numbered_in a (is v b) h = tt
numbered_in a nothing h = tt
numbered_in a over h = h

-- ---- states

module _ (M : Model) (ok : T (valid M)) where
  abbrev best : ℕ → State → Total
  best h s = optimum (process M) h s

  abbrev Act : ℕ → State → Action → Worth
  Act h s x = action_worth M (suc h) (state_worth M h) x s

  action_stays : (h : ℕ) (s : State) (x : Action) → ((s : State) → Fine (state_worth M h s) → Stays M h s) → Fine (Act h s x) → ActionStays M (Stays M h) (best h) (suc h) s x
  unfolding action_worth rewarded
  action_stays h s x k e = let p = judged_out _ _ e in (p.0, reward (worth_at (env s []) x.reward) p.1)
    where
      reward : (t : Total) → Fine (elim t [ num z ↦ rewarded M (suc h) (state_worth M h) x s z | none ↦ nothing ]) → OfNumber t (RewardStays M (Stays M h) (best h) (suc h) s x)
      reward (num z) e =
          let q = judged_out _ _ e in
          let r = judged_out _ _ q.1 in
          (q.0, (r.0, sum_stays (state_worth M h) (Stays M h) (best h) (state_exact M ok h) _ _ k _ _ r.1))
      reward none e = tt

  stays_action : (h : ℕ) (s : State) (x : Action) → ((s : State) → Stays M h s → Fine (state_worth M h s)) → ActionStays M (Stays M h) (best h) (suc h) s x → Fine (Act h s x)
  unfolding action_worth rewarded
  stays_action h s x k d = judged_in _ _ d.0 (reward (worth_at (env s []) x.reward) d.1)
    where
      reward : (t : Total) → OfNumber t (RewardStays M (Stays M h) (best h) (suc h) s x) → Fine (elim t [ num z ↦ rewarded M (suc h) (state_worth M h) x s z | none ↦ nothing ])
      reward (num z) c = judged_in _ _ c.0 (judged_in _ _ c.1.0 (stays_sum (state_worth M h) (Stays M h) (best h) (state_exact M ok h) _ _ k _ _ c.1.1))
      reward none c = tt

  -- where it answers it stays within its limits
  pub answers_stay : (h : ℕ) (s : State) → Fine (state_worth M h s) → Stays M h s
  unfolding state_worth
  answers_stay zero s e = (judged_out _ _ e).0
  answers_stay (suc h) s e = λ x m.
      let t = tried_out (Act h s) M.others 2 (numbered 1 (Act h s M.first)) e in
      action_stays h s x (answers_stay h)
      (⊎_elim (λ i. subst (λ (y : Action). Fine (Act h s y)) (sym i) (numbered_out 1 (Act h s M.first) t.0)) (λ i. t.1 x i) (Memᴰ.cases_cons m))

  -- and where it stays within them it answers
  pub stays_answers : (h : ℕ) (s : State) → Stays M h s → Fine (state_worth M h s)
  unfolding state_worth
  stays_answers zero s d = judged_in _ _ d tt
  stays_answers (suc h) s d = tried_in (Act h s) M.others 2 (numbered 1 (Act h s M.first))
      (numbered_in 1 _ (stays_action h s M.first (stays_answers h) (d M.first (Memᴰ.head refl))))
      (λ x m. stays_action h s x (stays_answers h) (d x (Memᴰ.tail m)))

  pub over_leaves : (h : ℕ) (s : State) → state_worth M h s ≡ over → Stays M h s → ⊥
  over_leaves h s e d = subst Fine e (stays_answers h s d)
