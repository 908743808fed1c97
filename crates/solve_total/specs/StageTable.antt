-- Planning on a table: its roots are the model's diagrams, stages 0, 1, .., and what a stage has so far; what some operations come to.
use Rattle.std.specs.Prelude.{◌≡◌, List, [], ◌∷◌, ◌++◌, ℕ, suc, ◌+◌, ◌-◌, ◌*◌, ◌≤◌, ◌<◌, ℤ, length, get_or, take, drop}
use Rattle.theory.specs.Widths.{bytes_most, conditions_most, weights_most, steps_most}
use Rattle.theory.specs.Diagram.{Tree}
use Rattle.theory.specs.Computation.{Ops, run_all}
use Rattle.theory.specs.Meaning.{Action}
use Rattle.theory.specs.Verdict.{verdict}
use Rattle.theory.specs.Load.{site_at, model}
use Rattle.theory.specs.Stage.{model_diagrams, action_total}
use Rattle.rule_node.specs.Nodes.{blank, tree_at}
use Rattle.solve_laws.specs.Alike.{Alike}
use Rattle.solve_laws.specs.Onward.{answered}
use Rattle.solve_laws.specs.Roots.{Rooted}
use Rattle.solve_operation.specs.Operation.{held_trees, Standing}
use Rattle.solve_operation.specs.declared.Run.{Run}
use Rattle.solve_total.specs.declared.Backup.{Backup}
use Rattle.solve_total.specs.declared.Chances.{Chances}

-- how many diagrams an action has: a reward, the conditions' chances, the next levels
abbrev pub action_size : List ℕ → ℕ
action_size B = 1 + (site_at B).conditions + (site_at B).levels

-- and a model
abbrev pub model_size : List ℕ → ℕ
model_size B = (site_at B).actions * action_size B

-- an accepted model, its diagrams the first of the roots that are held
pub record StageReady (B : List ℕ) (cap : ℕ) (l : List ℤ) (w : List ℕ) (n : ℕ) (R : List ℕ) (held : ℕ) : Type 0 where
  pub accepted : (verdict B).number ≡ 0
  pub bytes : length B ≤ bytes_most
  pub standing : Standing cap l w n R held
  pub models : take (model_size B) (held_trees l n R held) ≡ model_diagrams (model B)
  pub first : model_size B ≤ held

-- action a of the model
abbrev pub action_numbered : List ℕ → ℕ → Action
action_numbered B a = get_or ((model B).first ∷ (model B).others) (a - 1) (model B).first

-- the tree of the root at a place
abbrev pub root_at : List ℤ → ℕ → List ℕ → ℕ → Tree
root_at l n R i = tree_at l n (get_or R i 0)

-- a backup whose stage before is among the roots that are held; the first k are the model's diagrams and more, and there is one behind them
pub record Due (B : List ℕ) (cap : ℕ) (l : List ℤ) (w : List ℕ) (n : ℕ) (R : List ℕ) (k : ℕ) (b : Backup) : Type 0 where
  pub ready : StageReady B cap l w n R k
  pub room : k < length R
  pub earlier : b.before < b.held
  pub few_stages : b.stage ≤ steps_most
  pub some_action : 1 ≤ b.action
  pub an_action : b.action ≤ (site_at B).actions

-- the stage before
abbrev pub before_of : List ℤ → ℕ → List ℕ → Backup → Tree
before_of l n R b = get_or (held_trees l n R b.held) b.before blank

-- the action's total over it, P
abbrev pub total_of : List ℕ → Backup → Tree → List Tree → Ops Tree
total_of B b P K = action_total (model B) b.stage K P b.action (action_numbered B b.action)

-- chances among the roots that are held, and the root behind those, of which the conditions are summed out
pub record Sums (cap : ℕ) (l : List ℤ) (w : List ℕ) (r : Run) (R : List ℕ) (held : ℕ) (c : Chances) : Type 0 where
  pub standing : Standing cap l w r.count R (held + 1)
  pub none_yet : r.stop ≡ 0
  pub ends : c.first + c.count ≤ held
  pub few_conditions : c.count ≤ conditions_most
  pub few_weights : c.weights ≤ weights_most

-- those chances
abbrev pub chances_of : List ℤ → ℕ → List ℕ → ℕ → Chances → List Tree
chances_of l n R held c = take c.count (drop c.first (held_trees l n R held))

-- some operations on a table whose first roots are held, the diagrams K being needed besides: what they come to stands as the root behind those, or they are refused at stage h
pub record ActionRan (cap p : ℕ) (l : List ℤ) (n : ℕ) (R : List ℕ) (held h : ℕ) (ops : List Tree → Ops Tree) (l' : List ℤ) (w' R' : List ℕ) (r : Run) : Type 0 where
  pub outcome : (K : List Tree) → Alike (held_trees l n R held) K → run_all cap p (ops K) ≡ answered r.stop h (root_at l' r.count R' held) r.peak
  pub rooted : r.stop ≡ 0 → Rooted cap l' w' r.count (take (suc held) R') (held_trees l n R held ++ (root_at l' r.count R' held ∷ []))
  pub fits : r.stop ≡ 0 → p ≤ cap → r.peak ≤ cap
