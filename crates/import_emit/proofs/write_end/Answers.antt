-- `import_emit::write_end` meets its contract.
use mathlib.Core.Path.{refl}
use native.Mathlib.Omega.{arith}
use borrow.Author.Rules.{rules}
use Rattle.import_write.proofs.Laws.{end_length}
use Rattle.import_emit.proofs.Puts.{fits, fits_not}
use Rattle.import_emit.proofs.write_end.Goals as goal

pub returns-then-at-out : goal.returns-then-at-out
returns-then-at-out c = record { same = refl; put = fits_not refl (omega (arith, end_length, c.if-at-out.true)) }

pub put_end-requires : goal.put_end-requires
put_end-requires c = omega (arith, end_length, c.if-at-out.false, c.requires)

pub returns : goal.returns
returns c = record { same = c.put_end.auto.out; put = fits refl c.put_end.ensures }
