-- Stages: what the loops over actions and stages come to.
use Rattle.std.specs.Prelude.{◌≡◌, List, [], ◌∷◌, ℕ, suc, ◌+◌, max, ℤ, take, drop}
use Rattle.theory.specs.Diagram.{Tree}
use Rattle.theory.specs.Computation.{Ops, end, operation, and_then, run_all}
use Rattle.theory.specs.Rules.{best}
use Rattle.theory.specs.Load.{model}
use Rattle.theory.specs.Stage.{moment, action_total, stages_on}
use Rattle.theory.specs.Peaks.{peaks_of}
use Rattle.rule_node.specs.Nodes.{trees}
use Rattle.collect_mark.specs.Mark.{roots_of}
use Rattle.solve_laws.specs.Alike.{Alike}
use Rattle.solve_laws.specs.Onward.{answered}
use Rattle.solve_operation.specs.Operation.{held_trees, Standing}
use Rattle.solve_operation.specs.declared.Run.{Run}
use Rattle.solve_total.specs.StageTable.{model_size, action_numbered, root_at, ActionRan}
use Rattle.solve_stages.specs.declared.Planned.{Planned}

-- action a's total G, then the better of F, the best so far, and G
unfoldable pub bettered : List ℕ → ℕ → Tree → ℕ → Tree → List Tree → Ops Tree
bettered B h P a F K = and_then (action_total (model B) h (F ∷ K) P a (action_numbered B a)) (λ G. operation (moment h a) (G ∷ F ∷ K) (best F G) end)

-- a run, and an action's own run from peak 0 after it: the one peak is the larger
unfoldable pub joined : Run → Run → Run
joined r own = record { stop = own.stop; count = own.count; peak = max r.peak own.peak }

-- some operations that ran, and the peaks' words after them
pub record Counted (cap p : ℕ) (l : List ℤ) (n : ℕ) (R : List ℕ) (held h : ℕ) (ops : List Tree → Ops Tree) (P : List ℕ) (l' : List ℤ) (w' R' P' : List ℕ) (r : Run) : Type 0 where
  pub ran : ActionRan cap p l n R held h ops l' w' R' r
  pub peaks : r.stop ≡ 0 → (K : List Tree) → Alike (held_trees l n R held) K → P' ≡ peaks_of P (ops K)

-- the stages up to H, their roots behind stage 0's
pub record Staged (B : List ℕ) (cap p H : ℕ) (l : List ℤ) (n : ℕ) (R P : List ℕ) (l' : List ℤ) (w' R' P' : List ℕ) (r : Planned) : Type 0 where
  pub outcome : run_all cap p (stages_on (model B) H 1 (root_at l n R (model_size B) ∷ []) (root_at l n R (model_size B)))
      ≡ answered r.stop r.place (roots_of (trees l' r.count) (take H (drop (suc (model_size B)) R'))) r.peak
  pub standing : r.stop ≡ 0 → Standing cap l' w' r.count R' (suc (model_size B) + H)
  pub peaks : r.stop ≡ 0 → P' ≡ peaks_of P (stages_on (model B) H 1 (root_at l n R (model_size B) ∷ []) (root_at l n R (model_size B)))
