-- K4, "Parallel tests": what is stated of the rule that makes nodes, and of plans made with it. Each is proved in proofs/laws/Parallel.
-- That no low branch of a loaded diagram, a stage or a solved table is parallel to its node stands with their order: Ordered, Reduced, and Demands over them.
use Rattle.std.specs.Prelude.{◌≡◌, true, false, not, List, ℕ, ◌≤◌, T}
use Rattle.whole.specs.Cases.{if}
use Rattle.theory.specs.Diagram.{Test, Tree, leaf, branch}
use Rattle.theory.specs.Computation.{ret, result}
use Rattle.theory.specs.Rules.{parallel, node, over}
use Rattle.theory.specs.Process.{optimum, lowest_best}
use Rattle.theory.specs.Meaning.{State, Env, holds, at, process}
use Rattle.theory.specs.Load.{spelled}
use Rattle.theory.specs.Valid.{all_nodes}
use Rattle.theory.specs.Value.{Asked, ValueOut, answered}
use Rattle.theorems.specs.Ordered.{Ordered}
use Rattle.theorems.specs.Demands.{Solving, Accepted, start, reading}

-- "On the low side of a test, a later test with the same coefficients and a larger constant is never true."
abbrev pub NeverTrue : Type 0
NeverTrue = (e : Env) (t u : Test) → T (parallel t u) → holds e t ≡ false → holds e u ≡ false

-- so a node comes, at every state, to what its test picks
abbrev pub NodePicks : Type 0
NodePicks = (e : Env) (t : Test) (h l : Tree) → at e (result (node t h l)) ≡ if (holds e t) (at e h) (at e l)

-- "as often as it applies": below an ordered node no test at all of its low side, not only the first, is parallel to its own
abbrev pub LowSideApart : Type 0
LowSideApart = (t : Test) (h l : Tree) → Ordered (branch t h l) → T (all_nodes (λ u. not (parallel t u)) (λ _. true) l)

-- making anew what the rules made changes nothing
abbrev pub MadeAnew : Type 0
MadeAnew = (F : Tree) → Ordered F → result (over node (λ f. ret (leaf f)) F) ≡ F

-- ---- "Where a model is solved both before and now, no value and no action differs"

-- the value and the action of a model as its bytes spell it, each test over its branches as they stand: neither *node* nor *choose* is in it, nor any table
abbrev pub meant_by : List ℕ → ℕ → State → ValueOut
meant_by B h s = answered (optimum (process (spelled B)) h s) (lowest_best (process (spelled B)) h s)

-- it is what is read from the tables of a solve: the way taken here. Nothing of what nodes are made, shared or dropped can show in it.
abbrev pub Unmoved : Type 0
Unmoved = (g : Solving) (h : ℕ) → 1 ≤ h → h ≤ g.horizon → (q : Asked) (t : Accepted g q) → reading g h q ≡ meant_by g.bytes h (start g q t)

-- hence any planner of which that holds, the one before among them, reads the same value and the same action wherever both have solved
abbrev pub NoneDiffers : Type 0
NoneDiffers = (g : Solving) (h : ℕ) → 1 ≤ h → h ≤ g.horizon → (q : Asked) (t : Accepted g q)
    → (before : ℕ → Asked → ValueOut) → before h q ≡ meant_by g.bytes h (start g q t) → reading g h q ≡ before h q
