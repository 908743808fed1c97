use native.Mathlib.Omega.{arith}
use mathlib.Core.Path.{sym, ap, ◌∙◌}
use mathlib.Core.List.{map}
use Prim.Native.Nat.{◌<◌}
use lib.IntN.{pos}
use lib.ListN.{length, length-map}
use Rattle.std.proofs.lemmas.List.{get_or-map}
use Rattle.theory.specs.Listing.{spaced}
use Rattle.text_decimal.proofs.Puts.{none, rename}
use Rattle.text_decimal.proofs.Rows.{written_none, written_room, written_more}
use Rattle.text_decimal.proofs.lines.put_all.Goals as goal

pub loop-x-init : goal.loop-x-init
loop-x-init g c = written_none (map g.T.Decimal.whole c.args.xs.now) c.args.out.now c.args.at (none c.args.out.now c.args.at)

pub put_spaced-next-requires : goal.put_spaced-next-requires
put_spaced-next-requires g c =
    let w = g.T.Decimal.whole in
    let a = c.args in
    let l = c.loop-x in
    let h : l.x-index < length (map w a.xs.now) = omega (arith, length-map a.xs.now w, c.loop-x-test.true) in
    let r = written_room (map w a.xs.now) a.out.now a.at l.x-index l.next l.out l.invariant h c.requires in
    let e = get_or-map w a.xs.now l.x-index c.x-item.result (pos 0) c.loop-x-test.true ∙ ap w (sym c.x-item.is) in
    omega (arith, r, ap (λ z. length (spaced z)) e)

pub loop-x-preserved : goal.loop-x-preserved
loop-x-preserved g c =
    let w = g.T.Decimal.whole in
    let a = c.args in
    let l = c.loop-x in
    let q = c.put_spaced-next in
    let h : l.x-index < length (map w a.xs.now) = omega (arith, length-map a.xs.now w, c.loop-x-test.true) in
    let e = get_or-map w a.xs.now l.x-index c.x-item.result (pos 0) c.loop-x-test.true ∙ ap w (sym c.x-item.is) in
    written_more (map w a.xs.now) a.out.now a.at l.x-index l.next l.out l.invariant h c.requires q.result q.new.out q.auto.out (rename (ap spaced (sym e)) q.ensures)
