-- What value iteration leaves.
use Rattle.std.specs.Prelude.{◌≡◌, List, [], ◌∷◌, ℕ, suc, ◌+◌, ℤ, take, drop}
use Rattle.theory.specs.Diagram.{Tree}
use Rattle.theory.specs.Computation.{done, stopped, run, refused, run_all}
use Rattle.theory.specs.Load.{site_at, load, model}
use Rattle.theory.specs.Stage.{model_diagrams, stages_on, all_stages}
use Rattle.theory.specs.Peaks.{peaks_of, solved_peaks}
use Rattle.theory.specs.Solve.{solve_in}
use Rattle.rule_node.specs.Nodes.{trees, Good}
use Rattle.table_unique.specs.Unique.{Space}
use Rattle.collect_mark.specs.Mark.{roots_of}
use Rattle.load_command.specs.CommandStep.{standing, NumbersBelow}
use Rattle.load_model.specs.ModelRoots.{end_of, model_roots as numbers_of}
use Rattle.load_model.specs.declared.Done.{Done}
use Rattle.solve_laws.specs.Onward.{answered}
use Rattle.solve_operation.specs.Operation.{Standing}
use Rattle.solve_operation.specs.declared.Run.{Run}
use Rattle.solve_total.specs.StageTable.{model_size, root_at, StageReady}
use Rattle.solve_stages.specs.declared.Planned.{Planned}

-- what loading leaves, in whatever part of the room: nodes and the roots of the model's diagrams and of its end worth; or it stopped
pub record Brought (B : List ℕ) (cap : ℕ) (l : List ℤ) (w R : List ℕ) (r : Done) : Type 0 where
  pub good : Good l r.count
  pub space : Space cap l w r.count
  pub ran : r.stop ≡ 0 → run cap (load B) [] ≡ done (model B) (trees l r.count)
  pub below : r.stop ≡ 0 → NumbersBelow r.count (numbers_of (site_at B) R)
  pub roots : r.stop ≡ 0 → standing l r.count (numbers_of (site_at B) R) ≡ model_diagrams (model B)
  pub end_below : r.stop ≡ 0 → NumbersBelow r.count (end_of (site_at B) R r.ended)
  pub end_root : r.stop ≡ 0 → standing l r.count (end_of (site_at B) R r.ended) ≡ (model B).end
  pub stops : (r.stop ≡ 0 → ⊥) → run cap (load B) [] ≡ stopped r.stop

-- stage 0 stands behind the model's roots, and its stages are left to run, with the peak n so far and the words P; or it stopped
pub record Grounded (B : List ℕ) (cap n : ℕ) (P : List ℕ) (l : List ℤ) (w R P' : List ℕ) (r : Run) : Type 0 where
  pub ready : r.stop ≡ 0 → StageReady B cap l w r.count R (suc (model_size B))
  pub left : r.stop ≡ 0 → (H : ℕ) → run_all cap n (all_stages (model B) H) ≡ run_all cap r.peak (stages_on (model B) H 1 (root_at l r.count R (model_size B) ∷ []) (root_at l r.count R (model_size B)))
  pub counts : r.stop ≡ 0 → (H : ℕ) → peaks_of P (all_stages (model B) H) ≡ peaks_of P' (stages_on (model B) H 1 (root_at l r.count R (model_size B) ∷ []) (root_at l r.count R (model_size B)))
  pub stops : (r.stop ≡ 0 → ⊥) → (H : ℕ) → run_all cap n (all_stages (model B) H) ≡ refused r.stop 1

-- the diagrams of stages 1 to H, by their roots
abbrev pub stage_trees : List ℕ → ℕ → List ℤ → ℕ → List ℕ → List Tree
stage_trees B H l n R = roots_of (trees l n) (take H (drop (suc (model_size B)) R))

-- the run of a solve, its stages' roots standing in the table, and the peaks
pub record Plans (B : List ℕ) (H cap : ℕ) (l : List ℤ) (w R P : List ℕ) (r : Planned) : Type 0 where
  pub outcome : solve_in cap B H ≡ answered r.stop r.place (stage_trees B H l r.count R) r.peak
  pub standing : r.stop ≡ 0 → Standing cap l w r.count R (suc (model_size B) + H)
  pub peaks : r.stop ≡ 0 → P ≡ solved_peaks B H
