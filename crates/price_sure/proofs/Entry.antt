-- The public entry: what the refusals leave, the state that is asked for, and W^(n×h).
use Rattle.std.specs.Prelude.{Option, Some, None}
use mathlib.Core.Path.{◌≡◌, refl, sym, ap, ap₂, ◌∙◌, subst}
use mathlib.Core.Bool.{Bool, true, false, ◌&&◌}
use mathlib.Core.List.{List, [], ◌∷◌}
use Prim.Native.Nat.{ℕ, zero, suc, ◌*◌, ◌^◌, ◌≤◌}
use native.Mathlib.Omega.{arith}
use borrow.Author.Tests.{eq-eqb, ne_eqb}
use lib.Dec.{T, eqb, ltb, leb→le, le→leb, ltb→lt}
use lib.IntN.{ℤ, pos, negsuc, nat_abs}
use lib.ListN.{drop}
use lib.Signed.{le_z, lt_z}
use mir.Syntax.{w32, w64}
use mir.Val.{SFits}
use Rattle.whole.specs.Cases.{if, by_eq, both, from_true, clash, is_true}
use Rattle.whole.specs.Int.{up}
use Rattle.whole.specs.Within.{small, limited}
use Rattle.whole.specs.WithinLaws.{limited_gives}
use Rattle.whole.proofs.Signed.{R, R32, back, back32, widens}
use Rattle.theory.specs.Diagram.{zeros}
use Rattle.theory.specs.Meaning.{Action, Model, State, power}
use Rattle.theory.specs.Verdict.{Verdict}
use Rattle.theory.specs.Load.{site_at, model}
use Rattle.theory.specs.Solve.{early}
use Rattle.theory.specs.Value.{Asked, accepted, state_of}
use Rattle.theory.specs.Plain.{Worth, over, judged, action_worth, numbered, try_actions, state_worth, if_true}
use Rattle.theory.proofs.laws.AcceptedModel.{accepted_site}
use Rattle.model.specs.declared.Verdict.{Verdict as CodeVerdict}
use Rattle.model.specs.Answers.{shown}
use Rattle.value_walk.specs.State.{asked}
use Rattle.value_walk.specs.declared.Asked.{Asked as CodeAsked}
use Rattle.plain_pass.specs.declared.Point.{Point}
use Rattle.plain_pass.specs.Pass.{den_of}
use Rattle.plain_step.specs.PointState.{ModelReady, Spells}
use Rattle.plain_worth.specs.Worths.{point_of}
use Rattle.price_change.specs.Sure.{SureOut, refused_sure, margin, leads, sure_out, sure_at, sure_of}
use Rattle.price_sure.specs.declared.Said.{Said}
use Rattle.price_sure.specs.Answers.{out, OverDen, Priced, SureAt}

-- ---- W^(n×h), which plain working judges first

tried_over : (F : Action → Worth) (a : ℕ) (l : List Action) → try_actions F a l over ≡ over
unfolding try_actions
tried_over F a [] = refl
tried_over F a (x ∷ l) = refl

judged_no : (z : ℤ) (w : Worth) → small z ≡ false → judged z w ≡ over
unfolding judged
judged_no z w e = ap (λ (b : Bool). if b w over) e

first_over : (M : Model) (h : ℕ) (worth : State → Worth) (x : Action) (s : State) → small (pos (power M h)) ≡ false → action_worth M h worth x s ≡ over
unfolding action_worth
first_over M h worth x s e = judged_no _ _ e

-- beyond the limits every worth is over
power_over : (M : Model) (h : ℕ) (s : State) → 1 ≤ h → small (pos (power M h)) ≡ false → state_worth M h s ≡ over
unfolding state_worth numbered
power_over M zero s n e = absurd (omega arith)
power_over M (suc h) s n e =
    let F : Action → Worth = λ x. action_worth M (suc h) (state_worth M h) x s in
    ap (λ (w : Worth). try_actions F 2 M.others (numbered 1 w)) (first_over M (suc h) (state_worth M h) M.first s e) ∙ tried_over F 2 M.others

limited_no : (z : ℤ) → limited z ≡ None → small z ≡ false
unfolding limited
limited_no z e = by_eq (small z) (λ b. if b (Some z) None ≡ None → b ≡ false) (λ _ k. absurd (let q : ◌≡◌ {A = ℕ} 0 1 = cc in omega arith)) (λ _ _. refl) e

module _ (B : List ℕ) (ok : ModelReady B) (h : ℕ) (x : Point) {n W : ℕ} (en : n ≡ (site_at B).conditions) (eW : W ≡ (site_at B).weights) {w : Option ℤ} (ew : w ≡ limited (pos (W ^ (n * h)))) where
  power_is : W ^ (n * h) ≡ power (model B) h
  power_is = let o = (accepted_site B ok.accepted).1 in ap₂ (λ (v m : ℕ). v ^ (m * h)) (eW ∙ sym o.same_weights) (en ∙ sym o.same_conditions)

  pub worked_over : 1 ≤ h → w ≡ None → (e : ℕ) (r : Said) → out r ≡ refused_sure 11 0 → SureAt B h e x r
  unfolding sure_at sure_out
  worked_over k g e r f = record {
    is = λ s _. f ∙ sym (ap (sure_out (leads (model B) h s (margin (model B) h s e)))
        (power_over (model B) h s k (ap (λ (m : ℕ). small (pos m)) (sym power_is) ∙ limited_no (pos (W ^ (n * h))) (sym ew ∙ g))));
  }

  pub worked_priced : (p : ℤ) → w ≡ Some p → SFits w64 p → (d : ℕ) → OverDen B x d → {q : ℕ} → q ≡ nat_abs (R p) → Priced B h x d q
  worked_priced p g f d D k = record {
    den = D;
    power = k ∙ ap nat_abs (back p f ∙ (limited_gives (pos (W ^ (n * h))) p (sym ew ∙ g)).0) ∙ ap₂ (λ (v m : ℕ). v ^ (m * h)) eW en;
  }

-- ---- the refusals

if_yes : {A : Type 0} (b : Bool) (f : T b → A) (x : A) (t : T b) → if_true b f x ≡ f t
unfolding if_true
if_yes true f x t = refl
if_yes false f x t = absurd t

if_no : {A : Type 0} (b : Bool) (f : T b → A) (x : A) → b ≡ false → if_true b f x ≡ x
unfolding if_true
if_no true f x e = clash e
if_no false f x e = refl

-- a number of 1 or more, and one of 0 or more
pos_up : (z : ℤ) → T (le_z (pos 1) z) → (pos (up z) ≡ z) × (1 ≤ nat_abs z)
pos_up (pos n) t = (refl, leb→le 1 n t)
pos_up (negsuc n) t = absurd t

sign : (e : ℤ) → lt_z e (pos 0) ≡ true → le_z (pos 0) e ≡ false
sign (pos n) k = let h = ltb→lt n 0 (from_true k) in absurd (omega arith)
sign (negsuc n) k = refl

no_sign : (e : ℤ) → lt_z e (pos 0) ≡ false → (le_z (pos 0) e ≡ true) × (nat_abs e ≡ up e)
no_sign (pos n) k = (is_true _ (le→leb 0 n (omega arith)), refl)
no_sign (negsuc n) k = clash k

module _ (B : List ℕ) (steps : ℕ) {v : CodeVerdict} (ev : shown v ≡ early B steps 8) (e : ℤ) where
  abbrev fits? : Asked → Bool
  fits? q = accepted (site_at B).levels (site_at B).conditions q

  abbrev stated : (q : Asked) → T (fits? q) → SureOut
  stated q t = if (le_z (pos 0) e) (sure_at (model B) steps (state_of (site_at B).levels (site_at B).conditions q t) (up e)) (refused_sure 23 0)

  abbrev settled : Asked → SureOut
  settled q = if_true (fits? q) (stated q) (refused_sure 13 0)

  from_is : (q : Asked) → if (eqb v.number 0) (settled q) (refused_sure v.number v.place) ≡ sure_of B steps q e
  unfolding sure_of
  from_is q = ap (λ (w : Verdict). if (eqb w.number 0) (settled q) (refused_sure w.number w.place)) ev

  pub refused_early : (q : Asked) → (v.number ≡ 0 → ⊥) → {o : SureOut} → o ≡ refused_sure v.number v.place → o ≡ sure_of B steps q e
  refused_early q z p = p ∙ ap (λ (b : Bool). if b (settled q) (refused_sure v.number v.place)) (sym (ne_eqb v.number 0 z)) ∙ from_is q

  module _ (z : v.number ≡ 0) (a : CodeAsked) {m n : ℕ} (em : m ≡ (site_at B).levels) (en : n ≡ (site_at B).conditions) {b : Bool} (eb : b ≡ accepted m n (asked a)) where
    onward : {o : SureOut} → o ≡ settled (asked a) → o ≡ sure_of B steps (asked a) e
    onward p = p ∙ ap (λ (b : Bool). if b (settled (asked a)) (refused_sure v.number v.place)) (sym (eq-eqb v.number 0 z)) ∙ from_is (asked a)

    judged_so : b ≡ fits? (asked a)
    judged_so = eb ∙ (λ i. accepted (em i) (en i) (asked a))

    pub refused_state : b ≡ false → {o : SureOut} → o ≡ refused_sure 13 0 → o ≡ sure_of B steps (asked a) e
    refused_state f p = onward (p ∙ sym (if_no (fits? (asked a)) (stated (asked a)) (refused_sure 13 0) (sym judged_so ∙ f)))

    module _ (f : b ≡ true) where
      holds : T (fits? (asked a))
      holds = from_true (sym judged_so ∙ f)

      abbrev s : State
      s = state_of (site_at B).levels (site_at B).conditions (asked a) holds

      at_state : {o : SureOut} → o ≡ stated (asked a) holds → o ≡ sure_of B steps (asked a) e
      at_state p = onward (p ∙ sym (if_yes (fits? (asked a)) (stated (asked a)) (refused_sure 13 0) holds))

      den_least : (pos (up (asked a).den) ≡ (asked a).den) × (1 ≤ nat_abs (asked a).den)
      unfolding accepted
      den_least = pos_up (asked a).den (both (le_z (pos 1) (asked a).den) (ltb a.mask (2 ^ (site_at B).conditions) && zeros (drop (site_at B).levels (asked a).nums)) holds).0

      spells : Spells (site_at B) (point_of m a) s
      unfolding state_of
      spells = record { conditions_are = refl; nums_are = refl; den_is = den_least.0 }

      pub refused_change : SFits w32 e → lt_z (R32 e) (pos 0) ≡ true → {o : SureOut} → o ≡ refused_sure 23 0 → o ≡ sure_of B steps (asked a) e
      refused_change g k p = at_state (p ∙ sym (ap (λ (y : Bool). if y (sure_at (model B) steps s (up e)) (refused_sure 23 0)) (sign e (ap (λ (y : ℤ). lt_z y (pos 0)) (sym (back32 e g)) ∙ k))))

      -- the state's denominator
      pub over_den : {x : Point} → x ≡ point_of m a → {d : ℕ} → d ≡ nat_abs (asked a).den → OverDen B x d
      over_den {x} k q = record { least = subst (λ (n : ℕ). 1 ≤ n) (sym q) den_least.1; is = λ s c. ap nat_abs (c.den_is ∙ ap den_of k) ∙ sym q }

      pub settled_is : SFits w32 e → lt_z (R32 e) (pos 0) ≡ false → {x : Point} → x ≡ point_of m a → {c : ℕ} → c ≡ nat_abs (R32 e) → {r : Said} → SureAt B steps c x r → out r ≡ sure_of B steps (asked a) e
      settled_is g k i j W =
          let l = no_sign e (ap (λ (y : ℤ). lt_z y (pos 0)) (sym (back32 e g)) ∙ k) in
          at_state (W.is s (subst (λ (x : Point). Spells (site_at B) x s) (sym i) spells)
          ∙ ap (sure_at (model B) steps s) (j ∙ ap nat_abs (back32 e g) ∙ l.1)
          ∙ sym (ap (λ (y : Bool). if y (sure_at (model B) steps s (up e)) (refused_sure 23 0)) l.0))

pub widened : (z : ℤ) → SFits w32 z → {r : ℕ} → r ≡ nat_abs (R (R32 z)) → r ≡ nat_abs z
widened z f k = k ∙ ap nat_abs (back (R32 z) (widens z f) ∙ back32 z f)

pub sized : (z : ℤ) → SFits w32 z → {r : ℕ} → r ≡ nat_abs (R32 z) → r ≡ nat_abs z
sized z f k = k ∙ ap nat_abs (back32 z f)
