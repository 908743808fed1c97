-- By its sign a number is a space, a minus and its magnitude's digits (`spaced_negative`), or a number without sign (`spaced_positive`); the bytes
-- before and the digits behind them are put in turn (`then`).
use native.Mathlib.Omega.{arith}
use Prim.Native.Nat.{◌≤◌}
use mathlib.Core.Path.{ap, sym}
use lib.ListN.{length}
use Rattle.text_decimal.proofs.Puts.{then, rename}
use Rattle.text_decimal.proofs.Numbers.{spaced_negative, spaced_positive}
use Rattle.text_decimal.proofs.I64Decimal.put_spaced.Goals as goal

pub put_bytes-n-requires : goal.put_bytes-n-requires
put_bytes-n-requires c = let e = spaced_negative c.args.self c.mag-x.result c.ranges.self c.mag-x.ensures c.if-self-lt0.true in
    omega (arith, c.requires, ap length e)

pub put_digits-requires : goal.put_digits-requires
put_digits-requires c = let e = spaced_negative c.args.self c.mag-x.result c.ranges.self c.mag-x.ensures c.if-self-lt0.true in
    omega (arith, c.requires, ap length e, c.put_bytes-n.ensures.behind, c.put_bytes-n.auto.out)

pub returns-then-self-lt0 : goal.returns-then-self-lt0
returns-then-self-lt0 c = let a = c.args in
    let e = spaced_negative a.self c.mag-x.result c.ranges.self c.mag-x.ensures c.if-self-lt0.true in
    let h : a.at ≤ length a.out.now = omega (arith, c.requires) in
    rename (sym e) (then h c.put_bytes-n.ensures c.put_digits.ensures)

pub put_spaced-requires : goal.put_spaced-requires
put_spaced-requires c = let e = spaced_positive c.args.self c.mag-x.result c.ranges.self c.mag-x.ensures c.if-self-lt0.false in
    omega (arith, c.requires, ap length e)

pub returns : goal.returns
returns c = let e = spaced_positive c.args.self c.mag-x.result c.ranges.self c.mag-x.ensures c.if-self-lt0.false in
    rename (sym e) c.put_spaced.ensures
