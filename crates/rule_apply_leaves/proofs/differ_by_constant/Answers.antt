-- `rule_apply_leaves::differ_by_constant` meets its contract: two linears have a constant difference where their coefficients are equal.
use mathlib.Core.Path.{ap}
use Prim.Native.Nat.{ℕ, ◌+◌, ◌*◌}
use lib.ListN.{take, drop}
use Rattle.table.specs.Table.{node_words}
use Rattle.rule_apply_leaves.proofs.Constants.{eight_from, coefficients_same}
use Rattle.rule_apply_leaves.proofs.differ_by_constant.Goals as goal

pub returns : goal.returns
returns c =
    coefficients_same c.args.nodes.now c.args.f c.args.g c.requires (ap (λ (k : ℕ). take k (drop (c.args.f * node_words + 1) c.args.nodes.now)) (eight_from (c.args.f * node_words + 1)))
    (ap (λ (k : ℕ). take k (drop (c.args.g * node_words + 1) c.args.nodes.now)) (eight_from (c.args.g * node_words + 1))) c.eq.ensures
