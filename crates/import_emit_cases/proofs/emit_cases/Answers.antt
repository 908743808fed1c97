-- `import_emit_cases::emit_cases` meets its contract: the first command, then those that the list stands for.
use Rattle.import_emit_cases.proofs.Looping.{no_signs, first_lent, first_full, rest_lent, then_rest}
use Rattle.std.specs.Prelude.{Ok}
use Rattle.std.proofs.lemmas.Result.{err_from_is_err_and}
use Rattle.import_emit_cases.proofs.emit_cases.Goals as goal

pub go-s-requires : goal.go-s-requires
go-s-requires c = (c.requires.inside, c.requires.short, no_signs)

pub write_leaf-requires : goal.write_leaf-requires
write_leaf-requires c = first_lent _ _ _ _ _ c.requires c.go-s.result c.go-s.ensures

pub returns-in_err-w : goal.returns-in_err-w
returns-in_err-w c = let p = err_from_is_err_and c.from_residual.result c.from_residual.ensures.1 in rw p.1 (first_full _ _ _ _ _ c.requires c.go-s.result c.go-s.ensures _ _ _ c.in_err-w.ensures c.write_leaf.auto.out)

pub finish-requires : goal.finish-requires
finish-requires c = rest_lent _ _ _ _ _ c.requires c.go-s.result c.go-s.ensures c.in_ok-w.w _ _ c.in_ok-w.ensures
    c.write_leaf.auto.out c.write_leaf.auto.list

pub returns : goal.returns
returns c = then_rest _ _ _ _ _ c.requires c.go-s.result c.go-s.ensures c.in_ok-w.w _ _ c.in_ok-w.ensures
    c.write_leaf.auto.out c.finish.result _ c.finish.auto.out
    c.finish.ensures
