-- `whole_division::from_words` meets its contract.
use Rattle.std.proofs.Common.{arith}
use Rattle.whole_division.proofs.Signs.{not_zero, complement_is, plain_is}
use Rattle.whole_division.proofs.from_words.Goals as goal

pub overflow_sub-result : goal.overflow_sub-result
overflow_sub-result c = not_zero c.args.x (record { sfits = c.struct_told-1.given.1.0.1 }) (omega arith) c.unsigned_abs-high.ensures.value c.if-x-lt0.true

pub returns-then-x-lt0 : goal.returns-then-x-lt0
returns-then-x-lt0 c = complement_is c.args.x (record { sfits = c.struct_told-1.given.1.0.1 }) (omega arith) c.unsigned_abs-high.ensures.value c.if-x-lt0.true

pub returns-else-x-lt0 : goal.returns-else-x-lt0
returns-else-x-lt0 c = plain_is c.args.x (record { sfits = c.struct_told-1.given.1.0.1 }) (omega arith) c.unsigned_abs-high.ensures.value c.if-x-lt0.false
