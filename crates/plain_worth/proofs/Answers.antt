-- What an action earns at once, the end worth, and the answer.
use Rattle.std.specs.Prelude.{Option, Some, None, is_some}
use mathlib.Core.Path.{◌≡◌, refl, sym, ap, ap₂, ◌∙◌}
use mathlib.Core.List.{List, []}
use mathlib.Core.Bool.{Bool, true, false}
use Prim.Native.Nat.{ℕ, ◌*◌, ◌^◌, ◌≤◌}
use native.Mathlib.Nat.{mul-le-mul}
use native.Mathlib.Omega.{arith}
use lib.IntN.{ℤ, pos}
use mir.Syntax.{w64}
use mir.Val.{SFits}
use Rattle.whole.specs.Cases.{if, by_test, clash}
use Rattle.whole.specs.Within.{limited, small}
use Rattle.whole.specs.Numerator.{number, words}
use Rattle.whole.specs.NumeratorLaws.{number_words}
use Rattle.whole.specs.declared.Numerator.{Numerator}
use Rattle.whole.proofs.Signed.{R, back}
use Rattle.theory.specs.Diagram.{Tree}
use Rattle.theory.specs.Total.{num, none}
use Rattle.theory.specs.Total.{Total as Reward}
use Rattle.theory.specs.Meaning.{State, env, worth_at, end_at}
use Rattle.theory.specs.Verdict.{reward_slot, end_slot}
use Rattle.theory.specs.Load.{find_slot, found, site_at}
use Rattle.theory.specs.Value.{ValueOut, refused_value, answered}
use Rattle.theory.specs.Plain.{is, nothing, over, judged, state_worth, worth_out}
use Rattle.theory.proofs.laws.AcceptedModel.{end_found}
use Rattle.theory.specs.Load.{loaded_entries}
use Rattle.plain_pass.specs.declared.Point.{Point}
use Rattle.plain_pass.specs.Pass.{reward_of, StateStands}
use Rattle.plain_limits.specs.declared.Total.{Total}
use Rattle.plain_limits.specs.declared.Total.TheVariants as total
use Rattle.plain_limits.specs.Totals.{total_of, times_of, summed}
use Rattle.plain_step.specs.PointState.{ModelReady, Spells, StandingPoint}
use Rattle.plain_worth.specs.Worths.{earned_of, Earned, StateWorth}
use Rattle.plain_step.proofs.Lists.{within_widths, alone}

-- n × h
pub exponent_fits : (B : List ℕ) → ModelReady B → (n h : ℕ) → n ≡ (site_at B).conditions → h ≤ 8 → n * h ≤ 32
exponent_fits B ok n h e k = mul-le-mul {n₁ = n} {m₁ = h} {n₂ = 4} {m₂ = 8} (omega (arith, (within_widths B ok).0)) k

-- what the code has is what the state earns
module _ (B : List ℕ) (h a : ℕ) (x : Point) (st : StandingPoint B x) {n W : ℕ} (en : n ≡ (site_at B).conditions) (eW : W ≡ (site_at B).weights) {p : Option ℤ} (ep : p ≡ limited (pos (W ^ (n * h)))) where
  power_is : p ≡ limited (pos ((site_at B).weights ^ ((site_at B).conditions * h)))
  power_is = ep ∙ ap₂ (λ (k m : ℕ). limited (pos (m ^ (k * h)))) en eW

  over_earned : (w : Option ℤ) (r : Reward) → is_some w ≡ false → over ≡ earned_of w r
  unfolding earned_of
  over_earned (Some z) r e = clash e
  over_earned None (num z) e = refl
  over_earned None none e = refl

  pub earned_over : is_some p ≡ false → Earned B h a x total.Over
  unfolding total_of
  earned_over e = record { is = λ s q. over_earned _ _ (ap is_some (sym power_is) ∙ e) }

  module _ {v : Option Numerator} (f : (s : State) (z : List Bool) → StateStands (site_at B).levels (site_at B).conditions x s z → v ≡ reward_of (worth_at (env s z) (find_slot (reward_slot a) (loaded_entries B)))) where
    abbrev worth_of : State → Reward
    worth_of s = worth_at (env s []) (find_slot (reward_slot a) (loaded_entries B))

    is_reward : (s : State) → Spells (site_at B) x s → v ≡ reward_of (worth_of s)
    is_reward s q = f s [] (alone B x s st.ready q st.alone)

    none_earned : (w : Option ℤ) (r : Reward) → is_some w ≡ true → reward_of r ≡ None → nothing ≡ earned_of w r
    unfolding earned_of reward_of
    none_earned w (num y) e k = absurd (let q : ◌≡◌ {A = ℕ} 0 1 = cc in omega arith)
    none_earned (Some z) none e k = refl
    none_earned None none e k = clash (sym e)

    pub earned_none : is_some p ≡ true → v ≡ None → Earned B h a x total.None
    unfolding total_of
    earned_none e k = record { is = λ s q. none_earned _ (worth_of s) (ap is_some (sym power_is) ∙ e) (sym (is_reward s q) ∙ k) }

    some_earned : (w : Option ℤ) (r : Reward) (u : Numerator) → reward_of r ≡ Some u → summed (times_of w (limited (number u))) ≡ earned_of w r
    unfolding earned_of reward_of times_of summed
    some_earned (Some p) (num z) u k =
        let e : words z ≡ u = cc in
        ap (λ (y : Numerator). summed (times_of (Some p) (limited (number y)))) (sym e) ∙ ap (λ (y : ℤ). summed (times_of (Some p) (limited y))) (number_words z)
    some_earned None (num z) u k = refl
    some_earned w none u k = absurd (let q : ◌≡◌ {A = ℕ} 0 1 = cc in omega arith)

    pub earned_is : (u : Numerator) → v ≡ Some u → {w : Option ℤ} → w ≡ limited (number u) → {m : Option ℤ} → m ≡ times_of p w → (t : Total) → total_of t ≡ summed m → Earned B h a x t
    earned_is u k ew em t et = record {
      is = λ s q. et ∙ ap summed (em ∙ ap (times_of p) ew)
          ∙ ap (λ (y : Option ℤ). summed (times_of y (limited (number u)))) power_is
          ∙ some_earned _ (worth_of s) u (sym (is_reward s q) ∙ k);
    }

-- a number judged
summed_judged : (z : ℤ) → summed (limited z) ≡ judged z (is z 0)
unfolding summed limited judged
summed_judged z = by_test (small z) (λ b. summed (if b (Some z) None) ≡ if b (is z 0) over) (λ _. refl) (λ _. refl)

pub ended_is : (B : List ℕ) (x : Point) → StandingPoint B x
    → {v : Numerator} → ((s : State) (z : List Bool) → StateStands (site_at B).levels (site_at B).conditions x s z → v ≡ words (end_at (env s z) (found end_slot (loaded_entries B))))
    → {w : Option ℤ} → w ≡ limited (number v) → {t : Total} → total_of t ≡ summed w → StateWorth B 0 x t
unfolding state_worth
ended_is B x st f ew et = record {
  is = λ s q.
      et ∙ ap summed (ew ∙ ap (λ (u : Numerator). limited (number u)) (f s [] (alone B x s st.ready q st.alone)) ∙ ap limited (number_words _))
      ∙ summed_judged _ ∙ ap (λ (l : List Tree). judged (end_at (env s []) l) (is (end_at (env s []) l) 0)) (sym (end_found B));
}

module _ (t : Total) {o : ValueOut} where
  pub answer_over : t ≡ total.Over → o ≡ refused_value 11 0 → o ≡ worth_out (total_of t)
  unfolding worth_out total_of
  answer_over e q = q ∙ sym (ap (λ (u : Total). worth_out (total_of u)) e)

  pub answer_none : t ≡ total.None → o ≡ record { number = 0; place = 0; action = 0; numerator = record { low = 0; high = pos 0 } } → o ≡ worth_out (total_of t)
  unfolding worth_out total_of answered words
  answer_none e q = q ∙ sym (ap (λ (u : Total). worth_out (total_of u)) e)

  pub answer_is : (z : ℤ) (a : ℕ) → t ≡ total.Is z a → SFits w64 z → (x : Numerator) → x ≡ words (R z) → o ≡ record { number = 0; place = 0; action = a; numerator = x } → o ≡ worth_out (total_of t)
  unfolding worth_out total_of answered
  answer_is z a e f x h q = q ∙ (λ i. record { number = 0; place = 0; action = a; numerator = (h ∙ ap words (back z f)) i }) ∙ sym (ap (λ (u : Total). worth_out (total_of u)) e)
