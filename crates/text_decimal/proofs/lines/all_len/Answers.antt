use native.Mathlib.Omega.{arith}
use mathlib.Core.Path.{sym, ap, ◌∙◌}
use mathlib.Core.List.{map}
use Prim.Native.Nat.{◌<◌}
use lib.IntN.{pos}
use lib.ListN.{length, length-map}
use Rattle.std.proofs.lemmas.List.{get_or-map}
use Rattle.theory.specs.Listing.{spaced}
use Rattle.text_decimal.proofs.Rows.{counted_none, counted_more}
use Rattle.text_decimal.proofs.lines.all_len.Goals as goal

pub loop-x-init : goal.loop-x-init
loop-x-init g c = counted_none (map g.T.Decimal.whole c.args.xs.now)

pub loop-x-preserved : goal.loop-x-preserved
loop-x-preserved g c =
    let w = g.T.Decimal.whole in
    let xs = c.args.xs.now in
    let l = c.loop-x in
    let n = c.spaced_len-n.ensures in
    let e = get_or-map w xs l.x-index c.x-item.result (pos 0) c.loop-x-test.true ∙ ap w (sym c.x-item.is) in
    let h : l.x-index < length (map w xs) = omega (arith, length-map xs w, c.loop-x-test.true) in
    counted_more (map w xs) l.x-index l.n c.spaced_len-n.result l.invariant h (n.0 ∙ ap (λ z. length (spaced z)) (sym e)) n.1
