-- `import_write::put_byte` meets its contract.
use native.Mathlib.Omega.{arith}
use mathlib.Core.Path.{refl}
use Rattle.text_decimal.proofs.Puts.{put_first}
use borrow.Author.Rules.{rules}
use Rattle.import_write.proofs.put_byte.Goals as goal

pub returns : goal.returns
returns c = put_first c.args.out.now _ c.args.at c.args.byte (omega (arith, c.requires)) refl
