-- Answers of judging a model and of solving it.
use Rattle.std.specs.Prelude.{List, ◌++◌, ℕ, ltb, ℤ, length, drop}
use Rattle.whole.specs.Cases.{if}
use Rattle.theory.specs.Widths.{bytes_most}
use Rattle.theory.specs.Verdict.{Verdict, refusal, verdict}
use Rattle.theory.specs.Solve.{SolveOut}
use Rattle.c_answers.specs.Answers.{pair_bytes, pair_size, short}

-- "10: .. model above 65,535 bytes", then the model's own; no steps are asked, and no stage words lent
unfoldable pub model_verdict : List ℕ → Verdict
model_verdict B = if (ltb bytes_most (length B)) (refusal 10 0) (verdict B)

-- a solve also has its tables and its peaks; with too short an `out` they too are left as they are
pub record SolveAnswer : Type 0 where
  pub number : ℕ
  pub out : List ℕ
  pub nodes : List ℤ
  pub stages : List ℕ
  pub work : List ℕ
  pub peaks : List ℕ

abbrev pub solved : ℕ → List ℕ → List ℤ → List ℕ → List ℕ → List ℕ → SolveAnswer
solved number out nodes stages work peaks = record { number = number; out = out; nodes = nodes; stages = stages; work = work; peaks = peaks }

unfoldable pub solve_answer : SolveOut → List ℤ → List ℕ → List ℕ → List ℕ → List ℕ → SolveAnswer
solve_answer v nodes stages work peaks out =
    if (ltb (length out) pair_size) (solved (short v.number) out nodes stages work peaks)
    (solved v.number (pair_bytes v.place v.peak ++ drop pair_size out) v.nodes v.stages v.work v.peaks)
