-- `value_total::same_scale` meets its contract.
use Rattle.model_progress.specs.GivenFlags.{site_as}
use Rattle.value_walk.specs.State.{asked}
use Rattle.value_total.proofs.Joins.{other_weights, by_dens}
use borrow.Author.Rules.{rules}
use borrow.Author.Tests.{ne_eqb}
use mathlib.Core.Path.{◌∙◌}
use Rattle.value_total.proofs.same_scale.Goals as goal

pub returns-then-s-r : goal.returns-then-s-r
returns-then-s-r c = let a = c.args in
    by_dens (site_as a.s) (site_as a.r) (asked a.q) (asked a.p) c.if-s-r.true (search rules) (search rules)

pub returns-else-s-r : goal.returns-else-s-r
returns-else-s-r c = let a = c.args in
    ne_eqb a.s.weights a.r.weights c.if-s-r.false ∙ other_weights (site_as a.s) (site_as a.r) (asked a.q) (asked a.p) c.if-s-r.false
