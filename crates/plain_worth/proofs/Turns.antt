-- The loops of an action's worth and of a state's: what holds at each turn.
use Rattle.std.specs.Prelude.{Option, Some, None}
use mathlib.Core.Path.{◌≡◌, refl, sym, ap, ap₂, ◌∙◌, subst}
use mathlib.Core.Bool.{Bool, true, false}
use mathlib.Core.List.{List, [], map}
use Prim.Native.Nat.{ℕ, zero, suc, ◌+◌, ◌-◌, ◌*◌, ◌^◌, ◌≤◌, ◌<◌}
use native.Mathlib.Omega.{arith}
use lib.Dec.{leb, ltb}
use lib.IntN.{ℤ, pos, ◌*ℤ◌}
use Rattle.whole.specs.Within.{limited}
use Rattle.theory.specs.Total.{num, none}
use Rattle.theory.specs.Total.{Total as Reward}
use Rattle.theory.specs.Meaning.{Action, Model, State, env, worth_at, chance_at, weight, settings, moved, action_at}
use Rattle.theory.specs.Verdict.{or, from_to, reward_slot}
use Rattle.theory.specs.Load.{find_slot, site_at, model, model_of, action_of}
use Rattle.theory.specs.Value.{bits}
use Rattle.theory.specs.Plain.{Worth, is, nothing, over, judged, sum_settings, rewarded, action_worth, try_actions, numbered, state_worth}
use Rattle.theory.proofs.laws.AcceptedModel.{model_loaded}
use Rattle.theory.specs.Load.{loaded_entries}
use Rattle.theory.proofs.laws.Plain.{first_action}
use Rattle.model.proofs.Accepted.{site_accepted}
use Rattle.plain_pass.specs.declared.Point.{Point}
use Rattle.plain_pass.proofs.Actions.{action_is}
use Rattle.plain_limits.specs.declared.Total.{Total}
use Rattle.plain_limits.specs.declared.Total.TheVariants as total
use Rattle.plain_limits.specs.Totals.{total_of, times_of, added_of, summed, tried, KeptSum, stopped, is_over}
use Rattle.plain_step.specs.PointState.{ModelReady, Spells, StandingPoint, SiteAction, act, after, ChancesAre, Weighs, Reaches, LeadsTo}
use Rattle.plain_worth.specs.Worths.{earned_of, Earned, StateWorth, ActionWorth}
use Rattle.plain_limits.proofs.Judge.{times_kept, added_kept}
use Rattle.plain_worth.proofs.Runs.{left, on, settings_are, judged_on, settings_end, settings_skip, settings_over, settings_add, others, actions_end, actions_on}

-- ---- where an action's worth starts

on_same : (w : Worth) (f g : ℤ → Worth) → ((z : ℤ) → f z ≡ g z) → on w f ≡ on w g
unfolding on
on_same (is z a) f g h = h z
on_same nothing f g h = refl
on_same over f g h = refl

on_times : (p z : Option ℤ) (f : ℤ → Worth) → on (summed p) (λ a. on (summed z) (λ b. on (summed (limited (a *ℤ b))) f)) ≡ on (summed (times_of p z)) f
unfolding on times_of summed
on_times (Some a) (Some b) f = refl
on_times (Some a) None f = refl
on_times None z f = refl

earned_number : (p : Option ℤ) (z : ℤ) → earned_of p (num z) ≡ summed (times_of p (limited z))
unfolding earned_of times_of summed
earned_number (Some p) z = refl
earned_number None z = refl

earned_none : (f : ℤ → Worth) (p : Option ℤ) → on (summed p) (λ _. nothing) ≡ on (earned_of p none) f
unfolding earned_of on summed
earned_none f (Some p) = refl
earned_none f None = refl

-- a reward that is a number, and one that is forbidden
starts : (p : ℤ) (f : ℤ → Worth) (r : Reward) → judged p (elim r [ num z ↦ judged z (judged (p *ℤ z) (f (p *ℤ z))) | none ↦ nothing ]) ≡ on (earned_of (limited p) r) f
starts p f (num z) =
    judged_on p (λ a. judged z (judged (a *ℤ z) (f (a *ℤ z))))
    ∙ on_same (summed (limited p)) _ _ (λ a. judged_on z (λ b. judged (a *ℤ b) (f (a *ℤ b))) ∙ on_same (summed (limited z)) _ _ (λ b. judged_on (a *ℤ b) f))
    ∙ on_times (limited p) (limited z) f
    ∙ ap (λ (t : Worth). on t f) (sym (earned_number (limited p) z))
starts p f none = judged_on p (λ _. nothing) ∙ earned_none f (limited p)

-- ---- the settings of an action

abbrev weigh : List ℕ → ℕ → State → List Bool → ℕ
weigh B a s = weight (site_at B).weights (map (chance_at (env s [])) (act B a).chances)

abbrev further : List ℕ → ℕ → State → Worth
further B h = state_worth (model B) (h - 1)

abbrev sum_of : List ℕ → ℕ → ℕ → State → List (List Bool) → ℤ → Worth
sum_of B h a s = sum_settings (further B h) (weigh B a s) (moved s (act B a).levels)

abbrev worth_of : List ℕ → ℕ → ℕ → State → Worth
worth_of B h a s = action_worth (model B) h (further B h) (action_at (model B) a) s

-- the settings from mask r on are left
pub record Sums (B : List ℕ) (h a : ℕ) (x : Point) (count : ℕ) (sum : Total) (r : ℕ) : Type 0 where
  pub most : r ≤ count
  pub kept : KeptSum (total_of sum)
  pub runs : (s : State) → Spells (site_at B) x s → on (total_of sum) (sum_of B h a s (left (site_at B).conditions r count)) ≡ worth_of B h a s

earned_kept : (p : Option ℤ) (r : Reward) → KeptSum (earned_of p r)
unfolding earned_of KeptSum
earned_kept (Some p) (num z) = times_kept (Some p) (limited z)
earned_kept (Some p) none = tt
earned_kept None (num z) = tt
earned_kept None none = tt

as_loaded : (B : List ℕ) (h a : ℕ) → SiteAction B a → (s : State) → worth_of B h a s ≡ action_worth (model_of (site_at B) (loaded_entries B)) h (further B h) (act B a) s
as_loaded B h a A s = ap₂ (λ (M : Model) (y : Action). action_worth M h (further B h) y s) (model_loaded B) (action_is B a A.0 A.1)

pub sums_start : (B : List ℕ) (h a : ℕ) (x : Point) (count : ℕ) (sum : Total) → StandingPoint B x → SiteAction B a → count ≡ 2 ^ (site_at B).conditions → Earned B h a x sum → Sums B h a x count sum 0
unfolding action_worth rewarded model_of action_of
sums_start B h a x count sum st A e u = record {
  most = omega arith;
  kept = subst KeptSum (sym (u.is st.state st.spells)) (earned_kept _ _);
  runs = λ s p. ap₂ (λ (w : Worth) l. on w (sum_of B h a s l)) (u.is s p) (ap (λ (k : ℕ). map (bits (site_at B).conditions) (from_to 0 k)) (let z : count - 0 ≡ count = omega arith in z ∙ e) ∙ sym (settings_are (site_at B).conditions))
      ∙ sym (starts (pos ((site_at B).weights ^ ((site_at B).conditions * h))) (sum_of B h a s (settings (site_at B).conditions)) (worth_at (env s []) (find_slot (reward_slot a) (loaded_entries B)))) ∙ sym (as_loaded B h a A s);
}

module _ (B : List ℕ) (h a : ℕ) (x : Point) (count : ℕ) (sum : Total) (r : ℕ) (I : Sums B h a x count sum r) where
  pub sums_end : {b : Bool} → b ≡ or (stopped (total_of sum)) (leb count r) → b ≡ true → ActionWorth B h a x sum
  sums_end e f = record { is = λ s p. settings_end (further B h) (weigh B a s) (moved s (act B a).levels) (site_at B).conditions r count (total_of sum) (worth_of B h a s) (I.runs s p) I.kept _ e f }

  module _ (c : List ℕ) (C : ChancesAre B a x c) (w : ℕ) (G : Weighs (site_at B) c r w) (g : r < count) where
    weighs_so : (s : State) → Spells (site_at B) x s → w ≡ weigh B a s (bits (site_at B).conditions r)
    weighs_so s p = G.is ∙ ap (λ l. weight (site_at B).weights l (bits (site_at B).conditions r)) (sym (C.are s p))

    pub sums_skip : w ≡ 0 → Sums B h a x count sum (r + 1)
    sums_skip z = record {
      most = omega arith;
      kept = I.kept;
      runs = λ s p. settings_skip (further B h) (weigh B a s) (moved s (act B a).levels) (site_at B).conditions r count (total_of sum) (worth_of B h a s) (I.runs s p) g (sym (weighs_so s p) ∙ z);
    }

    module _ (z : w ≡ 0 → ⊥) (o : Option Point) (L : LeadsTo B a x r o) where
      pub sums_over : stopped (total_of sum) ≡ false → o ≡ None → ActionWorth B h a x total.Over
      unfolding total_of
      sums_over k e = record {
        is = λ s p.
            settings_over (further B h) (weigh B a s) (moved s (act B a).levels) (site_at B).conditions r count (total_of sum) (worth_of B h a s) (I.runs s p) g k (λ q. z (weighs_so s p ∙ q))
            ((L.leads s p).over e);
      }

      pub sums_add : (y : Point) → o ≡ Some y → (t : Total) → StateWorth B (h - 1) y t → (sum' : Total) → total_of sum' ≡ added_of (total_of sum) w (total_of t) → Sums B h a x count sum' (r + 1)
      sums_add y e t Y sum' k = record {
        most = omega arith;
        kept = subst KeptSum (sym k) (added_kept (total_of sum) w (total_of t));
        runs = λ s p.
            let R : Reaches (site_at B) (after B a s r) y = (L.leads s p).at y e in
            settings_add (further B h) (weigh B a s) (moved s (act B a).levels) (site_at B).conditions r count (total_of sum) (worth_of B h a s) (I.runs s p) g (λ q. z (weighs_so s p ∙ q)) R.fits
            (total_of t) (Y.is (after B a s r) R.spells) (total_of sum') (k ∙ ap (λ (n : ℕ). added_of (total_of sum) n (total_of t)) (weighs_so s p));
      }

-- the next state stands, as this one does
pub next_stands : (B : List ℕ) (a : ℕ) (x : Point) (r : ℕ) (o : Option Point) → StandingPoint B x → LeadsTo B a x r o → (y : Point) → o ≡ Some y → StandingPoint B y
next_stands B a x r o st L y e =
    let R : Reaches (site_at B) (after B a st.state r) y = (L.leads st.state st.spells).at y e in
    record { ready = st.ready; alone = R.alone; fits = R.point_fits; state = after B a st.state r; spells = R.spells }

-- ---- the actions of a state

abbrev tries : List ℕ → ℕ → State → Action → Worth
tries B h s y = action_worth (model B) h (further B h) y s

pub record Tries (B : List ℕ) (h : ℕ) (x : Point) (last : ℕ) (best : Total) (a : ℕ) : Type 0 where
  pub low : 2 ≤ a
  pub high : a ≤ last + 1
  pub runs : (s : State) → Spells (site_at B) x s → try_actions (tries B h s) a (others (act B) a last) (total_of best) ≡ state_worth (model B) h s

state_tries : (M : Model) (h : ℕ) (s : State) → (h ≡ 0 → ⊥)
    → try_actions (λ y. action_worth M h (state_worth M (h - 1)) y s) 2 M.others (numbered 1 (action_worth M h (state_worth M (h - 1)) M.first s)) ≡ state_worth M h s
unfolding state_worth
state_tries M zero s n = absurd (n refl)
state_tries M (suc h) s n = ap (λ (k : ℕ). try_actions (λ y. action_worth M (suc h) (state_worth M k) y s) 2 M.others (numbered 1 (action_worth M (suc h) (state_worth M k) M.first s))) (let e : suc h - 1 ≡ h = omega arith in e)

others_are : (B : List ℕ) (last : ℕ) → last ≡ (site_at B).actions → others (act B) 2 last ≡ (model B).others
unfolding model_of
others_are B last e = ap (λ (k : ℕ). map (act B) (from_to 2 k)) (let z : last + 1 - 2 ≡ (site_at B).actions - 1 = omega arith in z) ∙ ap (λ (M : Model). M.others) (sym (model_loaded B))

module _ (B : List ℕ) (h : ℕ) (x : Point) (last : ℕ) (e : last ≡ (site_at B).actions) where
  pub tries_start : ModelReady B → (h ≡ 0 → ⊥) → (t : Total) → ActionWorth B h 1 x t → (best : Total) → total_of best ≡ numbered 1 (total_of t) → Tries B h x last best 2
  tries_start ok n t Y best f = record {
    low = omega arith;
    high = omega (arith, (site_accepted B ok.accepted).actions.0);
    runs = λ s p. ap₂ (try_actions (tries B h s) 2) (others_are B last e) (f ∙ ap (numbered 1) (Y.is s p ∙ ap (tries B h s) (first_action (model B)))) ∙ state_tries (model B) h s n;
  }

  module _ (best : Total) (a : ℕ) (I : Tries B h x last best a) where
    pub tries_end : {b : Bool} → b ≡ or (is_over (total_of best)) (ltb last a) → b ≡ true → StateWorth B h x best
    tries_end f g = record { is = λ s p. actions_end (tries B h s) (act B) a last (total_of best) (state_worth (model B) h s) (I.runs s p) _ f g }

    pub tries_on : a ≤ last → (t : Total) → ActionWorth B h a x t → (best' : Total) → total_of best' ≡ tried (total_of best) a (total_of t) → Tries B h x last best' (a + 1)
    tries_on g t Y best' f = record {
      low = omega (arith, I.low);
      high = omega arith;
      runs = λ s p. actions_on (tries B h s) (act B) a last (total_of best) (state_worth (model B) h s) (I.runs s p) g
          (total_of t) (Y.is s p ∙ ap (tries B h s) (action_is B a (omega (arith, I.low)) (omega arith))) (total_of best') f;
    }
