-- `text_plan_lines::node_line_len` meets its contract.
use native.Mathlib.Omega.{arith}
use Rattle.text_plan_lines.proofs.Numbered.{node_length}
use Rattle.text_plan_lines.proofs.node_line_len.Goals as goal

pub returns : goal.returns
returns c = let n = c.spaced_len.ensures in
    let m = c.node_rest_len.ensures in
    (omega (arith, n.0, m.0, node_length c.args.nodes.now c.args.r c.requires), omega (arith, n.1, m.1))
