-- `text_decimal::lines::put_line` meets its contract: the start, the numbers and the line's end in turn (`line_put`).
use native.Mathlib.Omega.{arith}
use Prim.Native.Nat.{◌≤◌}
use mathlib.Core.List.{map}
use lib.ListN.{length}
use Rattle.text_decimal.proofs.Rows.{line_put}
use Rattle.text_decimal.proofs.lines.put_line.Goals as goal

pub returns : goal.returns
returns g c = let h : c.args.at ≤ length c.args.out.now = omega (arith, c.requires) in
    line_put (map g.T.Decimal.whole c.args.xs.now) h c.put_bytes-n.ensures c.put_all-m.ensures c.put_bytes.ensures
