-- Each statement, proved.
use Rattle.std.specs.Prelude.{◌≡◌, refl, List, ℕ, suc, ◌-◌, ◌*◌, ℤ, pos, length}
use Rattle.std.proofs.Common.{sym, ap, ◌∙◌, subst}
use native.Mathlib.Omega.{arith}
use Rattle.whole.specs.Int.{up}
use Rattle.theory.specs.Total.{Total, num, none, ◌⊑◌, Has, ◌⊕◌}
use Rattle.theory.specs.Process.{Process, Action, total, optimum, lowest_best}
use Rattle.theory.specs.Meaning.{Model, State, power, process}
use Rattle.theory.specs.Verdict.{Verdict, verdict}
use Rattle.theory.specs.Load.{site_at, model}
use Rattle.theory.specs.Value.{Asked, ValueOut, accepted, answered}
use Rattle.theory.specs.Plain.{plain_of}
use Rattle.theory.specs.Staying.{Stays}
use Rattle.theory.specs.Rows.{Range, Admitted, Accepts, asked_state, plain_0}
use Rattle.theory.proofs.laws.Total.{⊑-antisym, none_below, none-⊕}
use Rattle.theory.proofs.laws.Process.{lowest_best_action, lowest_best_total}
use Rattle.theory.proofs.laws.AcceptedModel.{accepted_site}
use Rattle.theory.proofs.laws.Rows.{verdict_is, plain_is}
use Rattle.price_change.specs.Sure.{SureOut, margin}
use Rattle.price_change.specs.Prices.{Near, Clear, Repriced, NearModels}
use Rattle.price_change.specs.SureRows.{SureRow, sure_1, sure_0, sure_1_10, sure_13, sure_23, sure_11}
use Rattle.price_change.specs.Statements.{Moves, StaysBest, ValueMoves, SameActionBest}
use Rattle.price_change.proofs.laws.Prices.{alike_is, near_optimum, near_total, stays_clear, clear_best}
use Rattle.price_change.proofs.laws.Models.{repriced}
use Rattle.price_change.proofs.laws.Worths.{action_range}
use Rattle.price_change.proofs.laws.Rows.{sure_row}

module _ {S A E : Type 0} (P : Process S A E) where
  pub moves : Moves P
  moves Q w scale unit k = subst
      (λ R. ((h : ℕ) (s : S) → Near (h * (unit s * scale h)) (optimum P h s) (optimum R h s))
      × ((h : ℕ) (a : A) (s : S) → Action P a → Near (suc h * (unit s * scale (suc h))) (total P (optimum P h) h a s) (total R (optimum R h) h a s)))
      (alike_is P Q k.alike)
      (near_optimum w scale k.scaled unit P Q.reward k.even k.kept k.near, near_total w scale k.scaled unit P Q.reward k.even k.kept k.near)

  pub stays_best : StaysBest P
  stays_best Q w scale unit k h s a i c =
      let d = stays_clear w scale k.scaled unit P Q.reward k.even k.kept k.near h s a i c in
      let same = alike_is P Q k.alike in
      (subst (λ R. Clear R 0 h s a) same d, (clear_best P _ h s a i c, subst (λ R. lowest_best R (suc h) s ≡ a) same (clear_best _ _ h s a i d)))

  -- its actions are those of every process alike
  pub same_action : (Q : Process S A E) (w : ℕ) (scale : ℕ → ℕ) (unit : S → ℕ) → Repriced P Q w scale unit → (a : A) → Action P a → Action Q a
  same_action Q w scale unit k a i = subst (λ R. Action R a) (alike_is P Q k.alike) i

-- what is near none is none
near_none : (d : ℕ) (x y : Total) → Near d x y → x ≡ none → y ≡ none
near_none d x y n e = ⊑-antisym y none (subst (λ (z : Total). y ⊑ z) (ap (λ (z : Total). z ⊕ num (pos d)) e ∙ none-⊕ _) n.1) (none_below y)

pub value_moves : ValueMoves
value_moves B ok N e c h s =
    let n : Near (h * (s.den * e * power (model B) h)) (optimum (process (model B)) h s) (optimum (process N) h s) = (moves (process (model B)) (process N) _ _ _ (repriced B ok N e c)).0 h s in
    let m = subst (λ (d : ℕ). Near d (optimum (process (model B)) h s) (optimum (process N) h s)) (order h e s.den (power (model B) h)) n in
    (m, (near_none _ _ _ m, near_none _ _ _ (m.1, m.0)))
  where
    order : (h e d p : ℕ) → h * (d * e * p) ≡ h * e * (d * p)
    order h e d p = omega arith

-- the action of an answer that is not none
answered_action : (t : Total) (a : ℕ) → Has t → (answered t a).action ≡ a
unfolding answered
answered_action (num v) a p = refl
answered_action none a p = absurd p

-- what is best alone, by more than 2 × h × e, in an accepted model that plain working answers for
module _ (B : List ℕ) (h : ℕ) (q : Asked) (d : Admitted B (suc h) 8) (t : Accepts B (suc h) q) where
  abbrev M : Model
  M = model B

  abbrev s : State
  s = asked_state B (suc h) q t

  abbrev best : ℕ
  best = lowest_best (process M) (suc h) s

  -- 0 is the verdict of its bytes
  own : (verdict B).number ≡ 0
  own = ap (λ (v : Verdict). v.number) (verdict_is B d.own)

  best_range : Range 1 (site_at B).actions best
  best_range = let r = action_range M best (lowest_best_action (process M) (suc h) s) in
      let n : suc (length M.others) ≡ (site_at B).actions = (accepted_site B own).1.same_actions in
      (r.0, omega (arith, r.1))

  plain_best : Stays M (suc h) s → plain_of B (suc h) q ≡ answered (optimum (process M) (suc h) s) best
  plain_best st = plain_is B (suc h) q (plain_0 d t st best_range)

  -- it is best in every model near this one
  stays : (e : ℕ) → Clear (process M) (margin M (suc h) s e) h s best → (N : Model) → NearModels M N e → Action (process N) best × (Clear (process N) 0 h s best × (lowest_best (process N) (suc h) s ≡ best))
  unfolding margin
  stays e c N near =
      let k = repriced B own N e near in
      let i = lowest_best_action (process M) (suc h) s in
      let m = stays_best (process M) (process N) _ _ _ k h s best i (subst (λ (n : ℕ). Clear (process M) n h s best) (order (suc h) e s.den (power M (suc h))) c) in
      (same_action (process M) (process N) _ _ _ k best i, (m.0, m.1.1))
    where
      order : (h e d p : ℕ) → 2 * h * e * (d * p) ≡ 2 * (h * (d * e * p))
      order h e d p = omega arith

-- sure is 1 in one row only
sure_only : (B : List ℕ) (h : ℕ) (q : Asked) (e : ℤ) {o : SureOut} → SureRow B (suc h) q e o → o.sure ≡ 1 → (N : Model) → NearModels (model B) N (up e)
    → let a = (plain_of B (suc h) q).action in
    (t : Accepts B (suc h) q) × (let s = asked_state B (suc h) q t in
    (plain_of B (suc h) q ≡ answered (optimum (process (model B)) (suc h) s) a)
    × (Action (process N) a × (Clear (process N) 0 h s a × (lowest_best (process N) (suc h) s ≡ a))))
sure_only B h q e (sure_1 k st c) z N near =
    let b = best B h q k.early k.state in
    let u = s B h q k.early k.state in
    let P = process (model B) in
    let p = plain_best B h q k.early k.state st in
    let c' : Clear P (margin (model B) (suc h) u (up e)) h u b = subst (λ (g : ℕ). Clear P (margin (model B) (suc h) u (up e)) g u b) (let y : suc h - 1 ≡ h = omega arith in y) c in
    let a : b ≡ (plain_of B (suc h) q).action = sym (ap (λ (v : ValueOut). v.action) p ∙ answered_action (optimum P (suc h) u) b (subst Has (sym (lowest_best_total P h u)) c'.has)) in (
      k.state,
      (
        p ∙ ap (answered (optimum P (suc h) u)) a,
        subst (λ (x : ℕ). Action (process N) x × (Clear (process N) 0 h u x × (lowest_best (process N) (suc h) u ≡ x))) a (stays B h q k.early k.state (up e) c' N near),
      ),
    )
sure_only B h q e (sure_0 k st n) z N near = absurd (omega arith)
sure_only B h q e (sure_1_10 r) z N near = absurd (omega arith)
sure_only B h q e (sure_13 d t) z N near = absurd (omega arith)
sure_only B h q e (sure_23 d t n) z N near = absurd (omega arith)
sure_only B h q e (sure_11 k n) z N near = absurd (omega arith)

pub same_action_best : SameActionBest
same_action_best B h q e z N near = sure_only B h q e (sure_row B (suc h) q e) z N near
