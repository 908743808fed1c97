-- `import_look::operator_at` meets its contract: the cases of `operator_of`: "=" is the second byte, or another byte is, or there is none; `next` stays within the text in each.
use native.Mathlib.Omega.{arith}
use Rattle.import_look.proofs.Telling.{op_equals, op_bare, op_none}
use Rattle.import_look.proofs.operator_at.Goals as goal

pub returns-then-byte_at-eq61 : goal.returns-then-byte_at-eq61
returns-then-byte_at-eq61 c = (op_equals _ _ _ _ c.byte_at-less.ensures c.byte_at.ensures c.if-i-text.true c.if-byte_at-eq61.true, let h = c.if-i-text.true in omega (arith, h))

pub returns-then-i-text : goal.returns-then-i-text
returns-then-i-text c = (op_bare _ _ _ _ c.byte_at-less.ensures c.byte_at.ensures c.if-i-text.true c.if-byte_at-eq61.false, let h = c.if-i-text.true in omega (arith, h))

pub returns : goal.returns
returns c = (op_none _ _ c.if-i-text.false, c.requires.0)
