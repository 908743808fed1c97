-- The answer of a solve: with too short an `out` the early refusals alone decide, and nothing runs.
use mathlib.Core.Path.{◌≡◌, refl, sym, ap, ◌∙◌}
use mathlib.Core.Logic.{⊎_elim}
use mathlib.Core.Bool.{Bool}
use mathlib.Core.List.{List, ◌++◌}
use Prim.Native.Nat.{ℕ, ◌≤◌, ◌<◌}
use borrow.Author.Tests.{lt-ltb, le-ltb, eqb-true}
use lib.Dec.{eqb}
use lib.IntN.{ℤ}
use lib.ListN.{length, drop}
use Rattle.whole.specs.Cases.{if, by_eq}
use Rattle.text_decimal.specs.Put.{PutAt}
use Rattle.theory.specs.Diagram.{Tree}
use Rattle.theory.specs.Computation.{Solved, solved, refused}
use Rattle.theory.specs.Valid.{among}
use Rattle.theory.specs.Verdict.{Verdict}
use Rattle.theory.specs.Solve.{room, solve_in, SolveOut, solve_left, early, early_with_peaks, solve}
use Rattle.theory.proofs.laws.Refusals.{refused_number}
use Rattle.c_answers.specs.Answers.{pair_bytes, short}
use Rattle.c_answers.specs.SolveAnswer as A
use Rattle.c_answers.specs.SolveAnswer.{model_verdict, solve_answer}
use Rattle.c_answers.proofs.Bytes.{pair_length}
use Rattle.c_answers.proofs.Answered.{at_start}

module _ (B : List ℕ) (H : ℕ) (nodes : List ℤ) (stages work peaks : List ℕ) where
  abbrev first : Verdict
  first = early_with_peaks B H (length stages) (length peaks)

  ran : (s : Solved (List Tree)) → solve_in (room (length nodes) (length work)) B H ≡ s → short (solve_left B H nodes stages work peaks s).number ≡ 17
  unfolding solve_left short
  ran (solved S peak) e = refl
  ran (refused r h) e = ⊎_elim (λ x. ap short x) (λ x. ap short x) (refused_number (room (length nodes) (length work)) B H r h e)

  early_decides : short first.number ≡ short (solve B H nodes stages work peaks).number
  unfolding solve short
  early_decides =
      let s = solve_in (room (length nodes) (length work)) B H in
      by_eq (eqb first.number 0)
      (λ b. short first.number ≡ short (if b (solve_left B H nodes stages work peaks s) (record { number = first.number; place = first.place; peak = 0; nodes = nodes; stages = stages; work = work; peaks = peaks })).number)
      (λ e. ap short (eqb-true first.number 0 e) ∙ sym (ran s refl))
      (λ _. refl)

  -- v is the early refusal that the code found
  pub solve_short : {v : Verdict} {r : ℕ} {out : List ℕ} → length out < 8 → v ≡ first → r ≡ short v.number
      → A.solved r out nodes stages work peaks ≡ solve_answer (solve B H nodes stages work peaks) nodes stages work peaks out
  unfolding solve_answer
  solve_short {out = out} h e s =
      let o = solve B H nodes stages work peaks in
      ap (λ (k : ℕ). A.solved k out nodes stages work peaks) (s ∙ ap (λ (w : Verdict). short w.number) e ∙ early_decides)
      ∙ sym (ap (λ (b : Bool). if b (A.solved (short o.number) out nodes stages work peaks) (A.solved o.number (pair_bytes o.place o.peak ++ drop 8 out) o.nodes o.stages o.work o.peaks)) (lt-ltb (length out) 8 h))

-- o is what the solve came to, with the words as it left them
pub solve_whole : (nodes : List ℤ) (stages work peaks out : List ℕ) {o v : SolveOut} {after : List ℕ} {n : ℕ} → 8 ≤ length out → o ≡ v → PutAt out 0 (pair_bytes o.place o.peak) n after
    → A.solved o.number after o.nodes o.stages o.work o.peaks ≡ solve_answer v nodes stages work peaks out
unfolding solve_answer
solve_whole nodes stages work peaks out {o} {v} h e p =
    (λ i. A.solved o.number (at_start (pair_length o.place o.peak) p i) o.nodes o.stages o.work o.peaks)
    ∙ ap (λ (w : SolveOut). A.solved w.number (pair_bytes w.place w.peak ++ drop 8 out) w.nodes w.stages w.work w.peaks) e
    ∙ sym (ap (λ (b : Bool). if b (A.solved (short v.number) out nodes stages work peaks) (A.solved v.number (pair_bytes v.place v.peak ++ drop 8 out) v.nodes v.stages v.work v.peaks)) (le-ltb (length out) 8 h))

-- a model alone: the steps and stage words that no one asks for are good ones
pub model_judged : (B : List ℕ) {v : Verdict} → v ≡ early B 1 8 → v ≡ model_verdict B
unfolding early among model_verdict
model_judged B e = e
