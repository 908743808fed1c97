-- `model_progress::given::row` meets its contract: all flags behind i being raised says the same as all from 1 to n; the next one decides the
-- loop (`run_turn`), and with none left the answer is true (`run_done`).
use mathlib.Core.Path.{◌≡◌}
use mathlib.Core.Bool.{false}
use Prim.Native.Nat.{suc, ◌-◌, ◌≤◌}
use lib.ListN.{get_or}
use Rattle.theory.specs.Valid.{all}
use Rattle.theory.specs.Verdict.{from_to}
use Rattle.model_progress.specs.GivenFlags.{place, row_given}
use Rattle.model_progress.proofs.given.row.Given as goal

abbrev pub invariant-loop-i : goal.invariant-loop-i
invariant-loop-i l = (l.i ≤ l.n) × (all (λ k. get_or l.flags (place l.base k l.a) false) (from_to (suc l.i) (l.n - l.i)) ≡ row_given l.flags l.base l.a l.n)
