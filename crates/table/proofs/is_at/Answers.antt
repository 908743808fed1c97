-- `table::is_at` meets its contract: nodes that differ in low or in the constant are not equal, for equal nodes have equal fields; else `same` decides.
use mathlib.Core.Path.{ap, sym, ◌∙◌, subst}
use lib.IntN.{pos}
use lib.ListN.{get_or}
use mir.Syntax.{w64}
use mir.Val.{of_z}
use Rattle.whole.specs.Linears.{coefficients}
use Rattle.table.specs.declared.Node.{Node}
use Rattle.table.specs.Table.{node_at, SameNode, other}
use Rattle.table.proofs.Store.{number_at}
use native.Mathlib.Omega.{arith}
use Rattle.table.proofs.is_at.Goals as goal
use Rattle.table.proofs.is_at.Goals.{then-nodes-at-via-then-nodes-at, then-nodes-at-via-else-nodes-at+then-nodes-at-2}

pub returns-then-nodes-at : goal.returns-then-nodes-at
unfolding node_at
returns-then-nodes-at c = elim c.then-nodes-at.branch [
  | then-nodes-at-via-then-nodes-at w ↦ other (λ e. w.if-nodes-at.true (ap (λ (n : Node). of_z w64 n.low) e))
  | then-nodes-at-via-else-nodes-at+then-nodes-at-2 w ↦ other (λ e. w.if-nodes-at-2.true (ap (of_z w64) (sym (number_at c.args.nodes.now c.args.i coefficients (omega arith)))
      ∙ ap (λ (n : Node). of_z w64 (get_or n.n coefficients (pos 0))) e))
]

pub returns : goal.returns
returns c = subst (λ (n : Node). SameNode n c.args.x c.same.result) c.get.ensures c.same.ensures
