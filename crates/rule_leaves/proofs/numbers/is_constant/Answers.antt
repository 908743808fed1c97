-- `rule_leaves::numbers::is_constant` meets its contract: `all` goes over the coefficients.
use Rattle.std.proofs.Common.{rules, ◌≡◌, pos, ℤ, take}
use Rattle.std.specs.List.{All}
use Rattle.std.specs.Prelude.{IsTrue, ◌↔◌}
use Rattle.theory.specs.Widths.{levels_most}
use Rattle.rule_node.specs.Nodes.{linear_held}
use Rattle.rule_leaves.proofs.Sums.{zeros_told}
use Rattle.rule_leaves.proofs.numbers.is_constant.Goals as goal

pub returns : goal.returns
unfolding linear_held
returns c =
    let t : IsTrue c.all.result ↔ All (λ (z : ℤ). z ≡ pos 0) (take levels_most c.args.x.n) = search rules in
    zeros_told (take levels_most c.args.x.n) t
