-- What a solve leaves: an early refusal, a later one, or the tables.
use mathlib.Core.Path.{◌≡◌, refl, sym, ap, ◌∙◌}
use mathlib.Core.Logic.{⊎_elim}
use mathlib.Core.Bool.{Bool, true, false}
use mathlib.Core.List.{List}
use borrow.Author.Tests.{eqb-true}
use lib.Dec.{eqb}
use Rattle.whole.specs.Cases.{if}
use Prim.Native.Nat.{ℕ, ◌*◌, ◌/◌, min, ◌≤◌, ◌<◌}
use native.Mathlib.Nat.{min-le_left, min-le_right, div-mul-le_self}
use native.Mathlib.Omega.{arith}
use lib.IntN.{ℤ, pos}
use lib.ListN.{length, replicate}
use Rattle.theory.specs.Widths.{nodes_most, node_words, work_words, peak_words}
use Rattle.theory.specs.Verdict.{Verdict, refusal}
use Rattle.theory.specs.Computation.{refused}
use Rattle.theory.specs.Solve.{room, solve_in, early, early_with_peaks, solve}
use Rattle.theory.proofs.laws.Refusals.{refused_number}
use Rattle.theory.proofs.laws.Rows.{Passed, by_early, early_some}
use Rattle.finish.specs.Finish.{Cleared}
use Rattle.model.specs.Answers.{shown}
use Rattle.model.specs.declared.Verdict.{Verdict as CodeVerdict}
use Rattle.solve_laws.specs.Onward.{answered_ok, answered_no}
use Rattle.solve_laws.specs.Outcome.{solve_early, solve_solved, solve_refused}
use Rattle.solve_stages.specs.declared.Planned.{Planned}
use Rattle.solve_in_room.specs.Solves.{Solves}
use Rattle.solve_tables.specs.SolveOutcome.{outcome}

-- ---- before it runs

-- the code's verdict is early's
pub goes_on : (v : Verdict) (u : CodeVerdict) → shown u ≡ v → u.number ≡ 0 → v.number ≡ 0
goes_on v u e z = sym (ap (λ (x : Verdict). x.number) e) ∙ z

-- the peaks' words are judged first
counted : (v : Verdict) (n : ℕ) (b : Bool) → eqb n peak_words ≡ b → (if b v (refusal 10 0)).number ≡ 0 → (n ≡ peak_words) × (v.number ≡ 0)
counted v n true e z = (eqb-true n peak_words e, z)
counted v n false e z = absurd (omega arith)

early_passed : (B : List ℕ) (H size : ℕ) → (early B H size).number ≡ 0 → Passed B H size
early_passed B H size = by_early B H size (λ u _. u.number ≡ 0 → Passed B H size) (λ p _. p) (λ k p r z. absurd (omega (arith, early_some r)))

pub passed : (B : List ℕ) (H size n : ℕ) → (early_with_peaks B H size n).number ≡ 0 → (n ≡ peak_words) × Passed B H size
unfolding early_with_peaks
passed B H size n z = let j = counted (early B H size) n (eqb n peak_words) refl z in (j.0, early_passed B H size j.1)

pub record Fitting (cap nodes work : ℕ) : Type 0 where
  pub few : cap ≤ nodes_most
  pub words : cap * node_words ≤ nodes
  pub works : cap * work_words ≤ work

pub fitting : {cap : ℕ} (nodes work : ℕ) → cap ≡ room nodes work → Fitting cap nodes work
unfolding room
fitting nodes work e =
    let a = min-le_left (nodes / node_words) (min (work / work_words) nodes_most) in
    let b = min-le_right (nodes / node_words) (min (work / work_words) nodes_most) in
    let c = min-le_left (work / work_words) nodes_most in
    let d = min-le_right (work / work_words) nodes_most in
    let m = div-mul-le_self nodes node_words in
    let n = div-mul-le_self work work_words in
    record { few = omega arith; words = omega arith; works = omega arith }

-- ---- the outcome

module _ (B : List ℕ) (H : ℕ) (l : List ℤ) (s w p : List ℕ) where
  pub refused_early : (u : CodeVerdict) → shown u ≡ early_with_peaks B H (length s) (length p) → (u.number ≡ 0 → ⊥) → outcome (record { number = u.number; place = u.place; peak = 0 }) l s w p ≡ solve B H l s w p
  refused_early u e off = sym (solve_early B H l s w p (λ z. off (ap (λ (x : Verdict). x.number) e ∙ z))
      ∙ ap (λ (x : Verdict). record { number = x.number; place = x.place; peak = 0; nodes = l; stages = s; work = w; peaks = p }) (sym e))

  module _ {cap : ℕ} (e : (early_with_peaks B H (length s) (length p)).number ≡ 0) (c : cap ≡ room (length l) (length w)) {l₁ : List ℤ} {s₁ w₁ p₁ : List ℕ} {r : Planned} (S : Solves B H cap l l₁ s₁ w w₁ p₁ r) where
    in_room : solve_in cap B H ≡ solve_in (room (length l) (length w)) B H
    in_room = ap (λ (N : ℕ). solve_in N B H) c

    refused_in : (r.stop ≡ 0 → ⊥) → solve_in cap B H ≡ refused r.stop r.place
    refused_in off = S.outcome ∙ answered_no r.stop r.place S.stages r.peak off

    pub stop_small : (r.stop ≡ 0 → ⊥) → r.stop < 4294967296
    stop_small off = ⊎_elim (λ z. omega arith) (λ z. omega arith) (refused_number cap B H r.stop r.place (refused_in off))

    pub refused_late : (r.stop ≡ 0 → ⊥) → {l₂ : List ℤ} {s₂ w₂ p₂ : List ℕ} → Cleared l₁ l₂ s₁ s₂ w₁ w₂ → p₂ ≡ replicate (length p₁) 0 → length p₁ ≡ length p → length l₁ ≡ length l → length s₁ ≡ length s → length w₁ ≡ length w
        → outcome (record { number = r.stop; place = r.place; peak = 0 }) l₂ s₂ w₂ p₂ ≡ solve B H l s w p
    refused_late off C cp np nl ns nw = sym (solve_refused B H l s w p e r.stop r.place (sym in_room ∙ refused_in off)
        ∙ (λ i. record {
          number = r.stop;
          place = r.place;
          peak = 0;
          nodes = (ap (λ (n : ℕ). replicate n (pos 0)) (sym nl) ∙ sym C.nodes) i;
          stages = (ap (λ (n : ℕ). replicate n 0) (sym ns) ∙ sym C.stages) i;
          work = (ap (λ (n : ℕ). replicate n 0) (sym nw) ∙ sym C.work) i;
          peaks = (ap (λ (n : ℕ). replicate n 0) (sym np) ∙ sym cp) i;
        }))

    pub solved_out : r.stop ≡ 0 → outcome (record { number = 0; place = 0; peak = r.peak }) l₁ s₁ w₁ p₁ ≡ solve B H l s w p
    solved_out ok = sym (solve_solved B H l s w p e S.stages r.peak (sym in_room ∙ (S.outcome ∙ answered_ok r.stop r.place S.stages r.peak ok))
        ∙ (λ i. record { number = 0; place = 0; peak = r.peak; nodes = sym (S.nodes ok) i; stages = sym (S.roots ok) i; work = sym (S.work ok) i; peaks = sym (S.peaks ok) i }))
