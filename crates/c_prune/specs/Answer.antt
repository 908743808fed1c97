-- The answer of a path for a stage: its place, four bytes.
use Rattle.std.specs.Prelude.{List, ◌++◌, ℕ, ltb, ℤ, length, drop}
use Rattle.whole.specs.Cases.{if}
use Rattle.c_answers.specs.Answers.{le, short}
use Rattle.prune_paths.specs.Prune.{PruneOut}

-- number, answer and tables; with too short an `out` the tables are left as they are
pub record PruneAnswer : Type 0 where
  pub number : ℕ
  pub out : List ℕ
  pub nodes : List ℤ
  pub stages : List ℕ
  pub work : List ℕ

abbrev pub pruned : ℕ → List ℕ → List ℤ → List ℕ → List ℕ → PruneAnswer
pruned number out nodes stages work = record { number = number; out = out; nodes = nodes; stages = stages; work = work }

unfoldable pub prune_answer : PruneOut → List ℤ → List ℕ → List ℕ → List ℕ → PruneAnswer
prune_answer v nodes stages work out =
    if (ltb (length out) 4) (pruned (short v.number) out nodes stages work)
    (pruned v.number (le 4 v.place ++ drop 4 out) v.nodes v.stages v.work)
