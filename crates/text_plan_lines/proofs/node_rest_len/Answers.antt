-- `text_plan_lines::node_rest_len` meets its contract: the kind tells which numbers follow, one law for each (`rest_condition`, `rest_none`,
-- `rest_leaf`, `rest_test`); a part has no more words than were asked for (`part_few`), which bounds the length.
use mathlib.Core.Path.{◌≡◌, ap, ◌∙◌}
use Prim.Native.Nat.{◌+◌}
use native.Mathlib.Omega.{arith}
use lib.ListN.{length}
use Rattle.theory.specs.Widths.{levels_most}
use Rattle.text_plan_lines.proofs.Numbered.{from, part_few, rest_leaf, rest_condition, rest_none, rest_test}
use Rattle.text_plan_lines.proofs.node_rest_len.Goals as goal

pub returns-in-0 : goal.returns-in-0
returns-in-0 c = let e = rest_leaf c.args.nodes.now c.args.r c.magnitude.result c.magnitude.ensures c.in-0.is in
    (c.line_len.ensures.0 ∙ ap length e, omega (arith, c.line_len.ensures.1, part_few c.args.nodes.now (from c.args.r) (levels_most + 2)))

pub returns-in-1 : goal.returns-in-1
returns-in-1 c = let e = rest_condition c.args.nodes.now c.args.r c.magnitude.result c.magnitude.ensures c.in-1.is c.condition_numbers.ensures in
    (c.line_len-in-1.ensures.0 ∙ ap length e, omega (arith, c.line_len-in-1.ensures.1, ap length c.condition_numbers.ensures))

pub returns-in-3 : goal.returns-in-3
returns-in-3 c = let e = rest_none c.args.nodes.now c.args.r c.magnitude.result c.magnitude.ensures c.in-3.is in
    (ap length e, omega arith)

pub returns-in_default : goal.returns-in_default
returns-in_default c = let e = rest_test c.args.nodes.now c.args.r c.magnitude.result c.magnitude.ensures (λ (e : c.magnitude.result ≡ 1). omega arith) (λ (e : c.magnitude.result ≡ 3). omega arith) (λ (e : c.magnitude.result ≡ 0). omega arith) in
    (c.line_len-in_default.ensures.0 ∙ ap length e, omega (arith, c.line_len-in_default.ensures.1, part_few c.args.nodes.now (from c.args.r) (levels_most + 3)))
