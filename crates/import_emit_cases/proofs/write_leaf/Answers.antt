-- `import_emit_cases::write_leaf` meets its contract: where commands are emitted the way down ends at a result, and its command is the first.
use Rattle.import_emit_cases.proofs.Stepping.{starting, leaf_fits, leaf_writes}
use Rattle.std.specs.Prelude.{Ok}
use Rattle.std.proofs.lemmas.Result.{err_from_is_err_and}
use Rattle.import_emit_cases.proofs.write_leaf.Goals as goal

pub descend-d-requires : goal.descend-d-requires
descend-d-requires c = starting _ c.args.spot _ _ _ _ c.requires

pub put_told-requires : goal.put_told-requires
put_told-requires c = (leaf_fits _ c.args.spot _ _ _ _ c.requires c.descend-d.result _ c.descend-d.ensures c.leaf-t.result c.leaf-t.ensures, c.requires.room)

pub returns-in_err-behind : goal.returns-in_err-behind
returns-in_err-behind c = let p = err_from_is_err_and c.from_residual.result c.from_residual.ensures.1 in rw p.1 (leaf_writes _ c.args.spot _ _ _ _ c.requires c.descend-d.result _ c.descend-d.ensures c.leaf-t.result c.leaf-t.ensures
    _ _ c.in_err-behind.ensures)

pub returns : goal.returns
returns c = leaf_writes _ c.args.spot _ _ _ _ c.requires c.descend-d.result _ c.descend-d.ensures c.leaf-t.result c.leaf-t.ensures
    (Ok c.in_ok-behind.behind) _ c.in_ok-behind.ensures
