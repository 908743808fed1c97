use mathlib.Core.Path.{◌∙◌}
use Prim.Native.Nat.{◌-◌}
use native.Mathlib.Omega.{arith}
use lib.ListN.{length}
use Rattle.import_emit.proofs.Going.{Going, begun, some_part, going_on, gone_full, gone_all}
use Rattle.std.proofs.lemmas.Result.{err_from_is_err_and}
use mathlib.Core.Path.{ap, sym}
use Rattle.import_emit_cases.specs.Emitting.{is_full, place}
use Rattle.import_emit.proofs.write_parts.Goals as goal

pub loop-i-init : goal.loop-i-init
loop-i-init c = begun _ _ _ _ _ c.requires

pub put_part-p-requires : goal.put_part-p-requires
put_part-p-requires c = let p = c.requires in
    let v = c.loop-i.invariant in
    some_part _ _ _ p.lent.room _ _ _ _ p.parts p.spaces c.loop-i-test.true (record { short = p.lent.short; long = v.long; room = v.room }) (v.gone p.parts p.spaces p.comes)

pub shape_of-list-in_err-at : goal.shape_of-list-in_err-at
shape_of-list-in_err-at c = omega (arith, c.put_part-p.auto.list, c.loop-i.invariant.long, c.requires.lent.long)

pub shape_of-out-in_err-at : goal.shape_of-out-in_err-at
shape_of-out-in_err-at c = omega (arith, c.put_part-p.ensures.same, c.loop-i.invariant.same)

pub returns-in_err-at : goal.returns-in_err-at
returns-in_err-at c = let q = c.put_part-p.ensures in
    let v = c.loop-i.invariant in
    let r = c.requires.lent.room in
    let h = c.loop-i-test.true in
    let p = err_from_is_err_and c.from_residual.result c.from_residual.ensures.1 in
    rw (p.1, ← c.in_err-at.was) (record { same = q.same ∙ v.same; put = λ P e k. gone_full _ _ _ r _ _ _ _ _ q h P e v.same (ap is_full c.in_err-at.was) (v.gone P e k) })

pub loop-i-smaller : goal.loop-i-smaller
loop-i-smaller c = let h = c.loop-i-test.true in
    omega (arith, c.put_part-p.ensures.further h, h)

pub loop-i-preserved : goal.loop-i-preserved
loop-i-preserved c = let p = c.requires in
    let v = c.loop-i.invariant in
    let q = c.put_part-p in
    rw (sym (ap place c.in_ok-at.was))
    (going_on _ _ _ p.lent.room _ _ _ _ _ q.ensures c.loop-i-test.true _ _ _ p (omega (arith, q.auto.list, v.long)) (ap is_full c.in_ok-at.was) v.gone v.same)

pub write_end-requires : goal.write_end-requires
write_end-requires c = c.loop-i.invariant.room

pub shape_of-list : goal.shape_of-list
shape_of-list c = omega (arith, c.loop-i.invariant.long, c.requires.lent.long)

pub shape_of-out : goal.shape_of-out
shape_of-out c = omega (arith, c.write_end.ensures.same, c.loop-i.invariant.same)

pub returns : goal.returns
returns c = let p = c.write_end.ensures in
    let v = c.loop-i.invariant in
    let r = c.requires.lent.room in
    record { same = p.same ∙ v.same; put = λ P e k. gone_all _ _ _ r _ _ _ P e c.loop-i-test.false v.same p (v.gone P e k) }
