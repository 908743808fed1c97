-- `import_emit_cases::step` meets its contract: the latest entry has both outcomes written and gives its own command, or it is marked and its second outcome is visited.
use native.Mathlib.Omega.{arith}
use Rattle.import_emit_cases.proofs.Stepping.{lies, marked_fits, own_fits, own_writes, second_lent, second_writes}
use Rattle.std.specs.Prelude.{Ok}
use Rattle.std.proofs.lemmas.Result.{err_from_is_err_and}
use Rattle.import_emit_cases.proofs.step.Goals as goal

pub look-t-requires : goal.look-t-requires
look-t-requires c = let a = (lies _ _ _ _ _ c.top-e.result c.requires.0 c.requires.1 c.top-e.ensures).inside in (omega (arith, a), c.requires.1.short)

pub put_told-requires : goal.put_told-requires
put_told-requires c = (own_fits _ _ _ _ _ c.top-e.result c.requires.0 c.requires.1 c.top-e.ensures c.look-t.result c.look-t.ensures c.if-e.true, c.requires.1.room)

pub returns-in_err-behind : goal.returns-in_err-behind
returns-in_err-behind c = let p = err_from_is_err_and c.from_residual.result c.from_residual.ensures.1 in rw p.1 (own_writes _ _ _ _ _ c.top-e.result c.requires.0 c.requires.1 c.top-e.ensures c.look-t.result c.look-t.ensures
    c.if-e.true _ _ c.in_err-behind.ensures)

pub returns-then-e : goal.returns-then-e
returns-then-e c = own_writes _ _ _ _ _ c.top-e.result c.requires.0 c.requires.1 c.top-e.ensures c.look-t.result c.look-t.ensures
    c.if-e.true (Ok c.in_ok-behind.behind) _ c.in_ok-behind.ensures

pub push-requires : goal.push-requires
push-requires c = (omega (arith, c.requires.0, c.requires.1.few), marked_fits _ _ _ _ _ c.top-e.result c.requires.0 c.requires.1 c.top-e.ensures _)

pub decided-s-requires : goal.decided-s-requires
decided-s-requires c = let a = lies _ _ _ _ _ c.top-e.result c.requires.0 c.requires.1 c.top-e.ensures in let b = a.inside in (omega (arith, b), c.requires.1.short, a.low)

pub write_leaf-requires : goal.write_leaf-requires
write_leaf-requires c = second_lent _ _ _ _ _ c.top-e.result c.requires.0 c.requires.1 c.top-e.ensures c.look-t.result c.look-t.ensures
    c.if-e.false c.push.new.list c.push.ensures _ c.first_value-v.ensures c.decided-s.result
    c.decided-s.ensures

pub returns : goal.returns
returns c = second_writes _ _ _ _ _ c.top-e.result c.requires.0 c.requires.1 c.top-e.ensures c.look-t.result c.look-t.ensures
    c.if-e.false c.push.new.list c.push.ensures _ c.first_value-v.ensures c.decided-s.result
    c.decided-s.ensures c.write_leaf.result _ _ c.write_leaf.ensures
