-- A space, then the digits.
use native.Mathlib.Omega.{arith}
use Prim.Native.Nat.{◌≤◌}
use mathlib.Core.Path.{ap, sym}
use lib.ListN.{length}
use Rattle.text_decimal.proofs.Puts.{then, rename}
use Rattle.text_decimal.proofs.Numbers.{spaced_plain}
use Rattle.text_decimal.proofs.U64Decimal.put_spaced.Goals as goal

pub put_bytes-n-requires : goal.put_bytes-n-requires
put_bytes-n-requires c = omega (arith, c.requires, ap length (spaced_plain c.args.self))

pub put_digits-requires : goal.put_digits-requires
put_digits-requires c = omega (arith, c.requires, ap length (spaced_plain c.args.self), c.put_bytes-n.ensures.behind, c.put_bytes-n.auto.out)

pub returns : goal.returns
returns c = let a = c.args in
    let h : a.at ≤ length a.out.now = omega (arith, c.requires) in
    rename (sym (spaced_plain a.self)) (then h c.put_bytes-n.ensures c.put_digits.ensures)
