-- `text_plan_lines::node_line` meets its contract.
use native.Mathlib.Omega.{arith}
use Prim.Native.Nat.{◌≤◌}
use mathlib.Core.Path.{sym}
use lib.ListN.{length}
use Rattle.text_decimal.proofs.Puts.{then, rename}
use Rattle.text_plan_lines.proofs.Numbered.{node_is, node_length}
use Rattle.text_plan_lines.proofs.node_line.Goals as goal

pub put_bytes-n-requires : goal.put_bytes-n-requires
put_bytes-n-requires c = omega (arith, c.requires.1, node_length c.args.nodes.now c.args.r c.requires.0)

pub put_spaced-m-requires : goal.put_spaced-m-requires
put_spaced-m-requires c = omega (arith, c.requires.1, node_length c.args.nodes.now c.args.r c.requires.0, c.put_bytes-n.ensures.behind, c.put_bytes-n.auto.out)

pub node_rest-requires : goal.node_rest-requires
node_rest-requires c = let e = node_length c.args.nodes.now c.args.r c.requires.0 in
    (c.requires.0, omega (arith, c.requires.1, e, c.put_bytes-n.ensures.behind, c.put_bytes-n.auto.out, c.put_spaced-m.ensures.behind, c.put_spaced-m.auto.out))

pub returns : goal.returns
returns c = let h : 0 ≤ length c.args.out.now = omega arith in
    rename (sym (node_is c.args.nodes.now c.args.r c.requires.0)) (then h (then h c.put_bytes-n.ensures c.put_spaced-m.ensures) c.node_rest.ensures)
