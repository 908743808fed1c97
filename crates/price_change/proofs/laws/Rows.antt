-- Every outcome is one row, and each row is the outcome.
use Rattle.std.specs.Prelude.{◌≡◌, Bool, true, false, not, List, ℕ, eqb, ℤ, pos}
use Rattle.std.proofs.Math.Path.{refl, ap}
use Rattle.std.proofs.Common.{sym, ◌∙◌, subst}
use Rattle.std.proofs.Math.Dec.{T, T_not}
use Rattle.std.specs.Int.Signed.{le_z, le_z_yes}
use Rattle.whole.specs.Cases.{if, by_test, is_true}
use Rattle.whole.specs.Int.{up}
use Rattle.theory.specs.Widths.{steps_most}
use Rattle.theory.specs.Meaning.{State}
use Rattle.theory.specs.Valid.{valid}
use Rattle.theory.specs.Verdict.{Verdict, Site}
use Rattle.theory.specs.Load.{site_at, model}
use Rattle.theory.specs.Solve.{early}
use Rattle.theory.specs.Value.{Asked, accepted}
use Rattle.theory.specs.Plain.{Worth, is, nothing, over, state_worth, if_true}
use Rattle.theory.specs.Staying.{Stays}
use Rattle.theory.specs.Rows.{Admitted, asked_state}
use Rattle.theory.proofs.laws.Fits.{state_accepted, state_refused}
use Rattle.theory.proofs.laws.AcceptedModel.{accepted_valid}
use Rattle.theory.proofs.laws.PlainLimits.{Fine, answers_stay, stays_answers, over_leaves}
use Rattle.theory.proofs.laws.Rows.{admitted, by_early, early_some, early_is, admitted_is, verdict_is, if_yes, if_no, some_not}
use Rattle.price_change.specs.Sure.{margin, leads, SureOut, refused_sure, said, sure_out, sure_at, sure_of}
use Rattle.price_change.specs.SureRows.{Asks, IsSure, SureRow, sure_1, sure_0, sure_1_10, sure_13, sure_23, sure_11, SureRows}
use Rattle.price_change.proofs.laws.Sure.{sure_exactly, none_unsure}

no : (b : Bool) → (T b → ⊥) → b ≡ false
no true f = absurd (f tt)
no false f = refl

-- what an accepted state, and another one, come to
pub state_yes : (b : Bool) (f : T b → SureOut) (t : T b) → if_true b f (refused_sure 13 0) ≡ f t
unfolding if_true
state_yes true f t = refl
state_yes false f t = absurd t

state_no : (b : Bool) (f : T b → SureOut) → T (not b) → if_true b f (refused_sure 13 0) ≡ refused_sure 13 0
unfolding if_true
state_no true f t = absurd t
state_no false f t = refl

by_state : (b : Bool) (f : T b → SureOut) (P : SureOut → Type 0) → ((t : T b) → P (f t)) → (T (not b) → P (refused_sure 13 0)) → P (if_true b f (refused_sure 13 0))
unfolding if_true
by_state true f P g h = g tt
by_state false f P g h = h tt

module _ (B : List ℕ) (steps : ℕ) (q : Asked) (e : ℤ) where
  abbrev Row : SureOut → Type 0
  Row = SureRow B steps q e

  abbrev S : Site
  S = site_at B

  abbrev fits? : Bool
  fits? = accepted S.levels S.conditions q

  abbrev state : T fits? → State
  state t = asked_state B steps q t

  own : Admitted B steps 8 → T (valid (model B))
  own d = accepted_valid B (ap (λ (v : Verdict). v.number) (verdict_is B d.own))

  abbrev test : T fits? → ℤ → ℕ → Bool
  test t = leads (model B) steps (state t) (margin (model B) steps (state t) (up e))

  -- an accepted state with e not below zero, by its worth
  worth_row : (k : Asks B steps q e) (o : Worth) → state_worth (model B) steps (state k.state) ≡ o → Row (sure_out (test k.state) o)
  unfolding sure_out
  worth_row k o w = go o w
    where
      MOk : T (valid (model B))
      MOk = own k.early

      s : State
      s = state k.state

      stays : (o : Worth) → state_worth (model B) steps s ≡ o → Fine o → Stays (model B) steps s
      stays o w f = answers_stay (model B) MOk steps s (subst Fine (sym w) f)

      go : (o : Worth) → state_worth (model B) steps s ≡ o → Row (sure_out (test k.state) o)
      go (is v a) w =
          let x = sure_exactly (model B) MOk s (margin (model B) steps s (up e)) steps k.early.horizon.0 v a w in
          by_test (test k.state v a) (λ b. Row (said b)) (λ t. sure_1 k (stays _ w tt) (x.0 t)) (λ t. sure_0 k (stays _ w tt) (λ c. T_not (test k.state v a) t (x.1 c)))
      go nothing w = sure_0 k (stays _ w tt) (none_unsure (model B) MOk s (margin (model B) steps s (up e)) steps k.early.horizon.0 w)
      go over w = sure_11 k (over_leaves (model B) MOk steps s w)

  abbrev out : T fits? → SureOut
  out t = if (le_z (pos 0) e) (sure_at (model B) steps (state t) (up e)) (refused_sure 23 0)

  pub sure_row : Row (sure_of B steps q e)
  unfolding sure_of sure_at
  sure_row = by_early B steps steps_most (λ v b. Row (if b (if_true fits? out (refused_sure 13 0)) (refused_sure v.number v.place)))
      (λ p. by_state fits? out Row
      (λ t. by_test (le_z (pos 0) e) (λ b. Row (if b (sure_at (model B) steps (state t) (up e)) (refused_sure 23 0)))
      (λ l. worth_row (record { early = admitted p; state = t; least = le_z_yes l }) _ refl)
      (λ l. sure_23 (admitted p) t (λ g. T_not (le_z (pos 0) e) l g.le)))
      (λ t. sure_13 (admitted p) (λ f. T_not fits? t (state_accepted S.levels S.conditions q f))))
      (λ k p r. sure_1_10 r)

  -- ---- a row decides

  from : Verdict → SureOut
  from v = if (eqb v.number 0) (if_true fits? out (refused_sure 13 0)) (refused_sure v.number v.place)

  pub asked_is : (k : Asks B steps q e) → sure_of B steps q e ≡ sure_out (test k.state) (state_worth (model B) steps (state k.state))
  unfolding sure_of sure_at from
  asked_is k = ap from (admitted_is k.early) ∙ state_yes fits? out k.state ∙ if_yes (le_z (pos 0) e) _ (refused_sure 23 0) k.least.le

  module _ (k : Asks B steps q e) where
    abbrev s : State
    s = state k.state

    abbrev answer : Worth → SureOut
    answer = sure_out (test k.state)

    fine : Stays (model B) steps s → Fine (state_worth (model B) steps s)
    fine = stays_answers (model B) (own k.early) steps s

    is_sure : IsSure B steps q e k → (o : Worth) → state_worth (model B) steps s ≡ o → Fine o → answer o ≡ said true
    unfolding sure_out
    is_sure c (is v a) w f = ap said (is_true (test k.state v a) ((sure_exactly (model B) (own k.early) s (margin (model B) steps s (up e)) steps k.early.horizon.0 v a w).1 c))
    is_sure c nothing w f = absurd (none_unsure (model B) (own k.early) s (margin (model B) steps s (up e)) steps k.early.horizon.0 w c)
    is_sure c over w f = absurd f

    not_sure : (IsSure B steps q e k → ⊥) → (o : Worth) → state_worth (model B) steps s ≡ o → Fine o → answer o ≡ said false
    unfolding sure_out
    not_sure n (is v a) w f = ap said (no (test k.state v a) (λ t. n ((sure_exactly (model B) (own k.early) s (margin (model B) steps s (up e)) steps k.early.horizon.0 v a w).0 t)))
    not_sure n nothing w f = refl
    not_sure n over w f = absurd f

    leaves : (Stays (model B) steps s → ⊥) → (o : Worth) → state_worth (model B) steps s ≡ o → answer o ≡ refused_sure 11 0
    unfolding sure_out
    leaves n (is v a) w = absurd (n (answers_stay (model B) (own k.early) steps s (subst Fine (sym w) tt)))
    leaves n nothing w = absurd (n (answers_stay (model B) (own k.early) steps s (subst Fine (sym w) tt)))
    leaves n over w = refl

  pub sure_is : {o : SureOut} → Row o → sure_of B steps q e ≡ o
  unfolding sure_of from
  sure_is (sure_1 k st c) = asked_is k ∙ is_sure k c _ refl (fine k st)
  sure_is (sure_0 k st n) = asked_is k ∙ not_sure k n _ refl (fine k st)
  sure_is (sure_1_10 {k = k} r) = ap from (early_is r) ∙ if_no (eqb k 0) _ _ (some_not k (early_some r))
  sure_is (sure_13 d t) = ap from (admitted_is d) ∙ state_no fits? out (state_refused S.levels S.conditions q t)
  sure_is (sure_23 d t n) = ap from (admitted_is d) ∙ state_yes fits? out t ∙ if_no (le_z (pos 0) e) _ (refused_sure 23 0) (by_test (le_z (pos 0) e) (λ b. T (not b)) (λ l. n (le_z_yes l)) (λ _. tt))
  sure_is (sure_11 k n) = asked_is k ∙ leaves k n _ refl

pub sure_rows : SureRows
sure_rows B steps q e o = (λ r. sure_is B steps q e r, λ k. subst (SureRow B steps q e) k (sure_row B steps q e))
