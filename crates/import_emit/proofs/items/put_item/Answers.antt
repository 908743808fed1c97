-- `import_emit::items::put_item` meets its contract. That there are commands to write gives the place behind the cases its room.
use borrow.Author.Rules.{rules}
use Rattle.import_emit.proofs.Part.{cases_full, cases_then}
use Rattle.import_emit.proofs.Puts.{inside}
use mathlib.Core.Path.{refl}
use Rattle.std.proofs.lemmas.Result.{err_from_is_err_and}
use Rattle.import_emit.proofs.items.put_item.Goals as goal

pub returns-in_err-behind : goal.returns-in_err-behind
returns-in_err-behind c = let p = err_from_is_err_and c.from_residual.result c.from_residual.ensures.1 in rw p.1 (cases_full c.in_err-behind.ensures refl)

pub put_slot-requires : goal.put_slot-requires
put_slot-requires c = let p = c.requires in
    let b = p.begins in
    record { action = p.action; room = inside b.room ((c.in_ok-behind.ensures.commands b.commands b.emits).put refl) }

pub returns : goal.returns
returns c = cases_then c.in_ok-behind.ensures c.requires.begins.room refl c.put_slot.ensures
