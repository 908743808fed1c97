-- `value_walk::walks::branch` meets its contract.
use mathlib.Core.Path.{sym, ap, ◌∙◌}
use lib.IntN.{nat_abs}
use Rattle.whole.specs.Cases.{if}
use Rattle.theory.specs.Value.{high_of, low_of}
use Rattle.value_walk.proofs.walks.branch.Goals as goal

pub returns-then-high : goal.returns-then-high
returns-then-high c = c.magnitude.ensures ∙ ap (λ b. nat_abs (if b (high_of c.args.nodes.now c.args.r)
    (low_of c.args.nodes.now c.args.r))) (sym c.if-high.true)

pub returns-else-high : goal.returns-else-high
returns-else-high c = c.magnitude-else-high.ensures ∙ ap (λ b. nat_abs (if b (high_of c.args.nodes.now c.args.r)
    (low_of c.args.nodes.now c.args.r))) (sym c.if-high.false)
