-- `import_emit::items::put_slot` meets its contract.
use mathlib.Core.Path.{refl}
use native.Mathlib.Omega.{arith}
use borrow.Author.Rules.{rules}
use Rattle.import_emit.proofs.Puts.{fits, fits_not}
use Rattle.import_emit.proofs.items.put_slot.Goals as goal

pub returns-then-out-at : goal.returns-then-out-at
returns-then-out-at c = let o = c.args.o in
    record { same = refl; put = fits_not refl (omega (arith, c.slot_len.ensures o.action o.index, c.if-out-at.true)) }

pub put_given-requires : goal.put_given-requires
put_given-requires c = omega (arith, c.slot_len.ensures c.args.o.action c.args.o.index, c.if-out-at.false, c.requires.room)

pub returns : goal.returns
returns c = record { same = c.put_given.auto.out; put = fits refl c.put_given.ensures }
