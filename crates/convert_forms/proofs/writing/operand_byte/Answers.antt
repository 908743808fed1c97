-- `convert_forms::writing::operand_byte` meets its contract.
use mathlib.Core.Path.{refl}
use borrow.Author.Tests.{lt-ltb, le-ltb}
use Rattle.convert_forms.proofs.writing.operand_byte.Goals as goal

pub returns-then-j-size : goal.returns-then-j-size
returns-then-j-size c = rw (lt-ltb _ _ c.if-j-size.true) c.byte_at.ensures

pub returns-else-j-size : goal.returns-else-j-size
returns-else-j-size c = rw (le-ltb _ _ c.if-j-size.false) refl
