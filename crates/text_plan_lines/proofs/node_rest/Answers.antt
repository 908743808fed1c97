-- `text_plan_lines::node_rest` meets its contract: the kind tells which numbers follow, one law for each (`rest_condition`, `rest_none`, `rest_leaf`,
-- `rest_test`): the line that is put is the rest of the node's line, so it also has room.
use native.Mathlib.Omega.{arith}
use mathlib.Core.Path.{◌≡◌, ap}
use lib.ListN.{length}
use Rattle.text_decimal.proofs.Puts.{rename}
use Rattle.text_plan_lines.proofs.Numbered.{rest_leaf, rest_condition, rest_none, rest_test}
use Rattle.text_plan_lines.proofs.node_rest.Goals as goal

pub put_line-requires : goal.put_line-requires
put_line-requires c = let e = rest_leaf c.args.nodes.now c.args.r c.magnitude.result c.magnitude.ensures c.in-0.is in
    omega (arith, c.requires.1, ap length e)

pub returns-in-0 : goal.returns-in-0
returns-in-0 c = rename (rest_leaf c.args.nodes.now c.args.r c.magnitude.result c.magnitude.ensures c.in-0.is) c.put_line.ensures

pub put_line-requires-in-1 : goal.put_line-requires-in-1
put_line-requires-in-1 c = let e = rest_condition c.args.nodes.now c.args.r c.magnitude.result c.magnitude.ensures c.in-1.is c.condition_numbers.ensures in
    omega (arith, c.requires.1, ap length e)

pub returns-in-1 : goal.returns-in-1
returns-in-1 c = rename (rest_condition c.args.nodes.now c.args.r c.magnitude.result c.magnitude.ensures c.in-1.is c.condition_numbers.ensures) c.put_line-in-1.ensures

pub put_bytes-requires : goal.put_bytes-requires
put_bytes-requires c = let e = rest_none c.args.nodes.now c.args.r c.magnitude.result c.magnitude.ensures c.in-3.is in
    omega (arith, c.requires.1, ap length e)

pub returns-in-3 : goal.returns-in-3
returns-in-3 c = rename (rest_none c.args.nodes.now c.args.r c.magnitude.result c.magnitude.ensures c.in-3.is) c.put_bytes.ensures

pub put_line-requires-in_default : goal.put_line-requires-in_default
put_line-requires-in_default c = let e = rest_test c.args.nodes.now c.args.r c.magnitude.result c.magnitude.ensures (λ (e : c.magnitude.result ≡ 1). omega arith) (λ (e : c.magnitude.result ≡ 3). omega arith) (λ (e : c.magnitude.result ≡ 0). omega arith) in
    omega (arith, c.requires.1, ap length e)

pub returns-in_default : goal.returns-in_default
returns-in_default c =
    rename (rest_test c.args.nodes.now c.args.r c.magnitude.result c.magnitude.ensures (λ (e : c.magnitude.result ≡ 1). omega arith) (λ (e : c.magnitude.result ≡ 3). omega arith) (λ (e : c.magnitude.result ≡ 0). omega arith)) c.put_line-in_default.ensures
