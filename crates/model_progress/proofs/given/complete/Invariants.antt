-- `model_progress::given::complete` meets its contract: all actions behind a being given says the same as all from 1 on; the next one decides
-- the loop (`run_turn`), and with none left the answer is true (`run_done`).
use mathlib.Core.Path.{◌≡◌}
use Prim.Native.Nat.{suc, ◌-◌, ◌≤◌}
use Rattle.theory.specs.Valid.{all}
use Rattle.theory.specs.Verdict.{from_to}
use Rattle.model_progress.specs.GivenFlags.{action_given, all_given, site_as}
use Rattle.model_progress.proofs.given.complete.Given as goal

abbrev pub invariant-loop-a : goal.invariant-loop-a
invariant-loop-a l = (l.a ≤ l.site.actions) × (all (action_given l.flags (site_as l.site)) (from_to (suc l.a) (l.site.actions - l.a)) ≡ all_given l.flags (site_as l.site))
