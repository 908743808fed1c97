-- `prune_copy::stand_in` meets its contract.
use mathlib.Core.Path.{sym, ◌∙◌}
use Rattle.prune_copy.proofs.StandIn.{stands_copy, stands_other}
use Rattle.prune_copy.proofs.stand_in.Goals as goal

pub returns-then-k-turns : goal.returns-then-k-turns
returns-then-k-turns c = sym (stands_copy c.args.nodes.now c.args.turns.now c.args.k c.args.r c.args.c c.if-k-turns.true)

pub returns-else-k-turns : goal.returns-else-k-turns
returns-else-k-turns c = c.branch-nodes.ensures ∙ sym (stands_other c.args.nodes.now c.args.turns.now c.args.k c.args.r c.args.c c.if-k-turns.false)
