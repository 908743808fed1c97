-- `import_words::word` meets its contract.
use native.Mathlib.Omega.{arith}
use Rattle.import_words.proofs.Laws.{negative, not_negative}
use Rattle.import_words.proofs.word.Goals as goal

pub overflow_sub-result : goal.overflow_sub-result
overflow_sub-result c = let d = negative c.args.z c.unsigned_abs-n.result c.ranges.z c.requires c.unsigned_abs-n.ensures.value c.if-z-lt0.true in omega (arith, d.few)

pub returns-then-z-lt0 : goal.returns-then-z-lt0
returns-then-z-lt0 c = (negative c.args.z c.unsigned_abs-n.result c.ranges.z c.requires c.unsigned_abs-n.ensures.value c.if-z-lt0.true).is

pub returns-else-z-lt0 : goal.returns-else-z-lt0
returns-else-z-lt0 c = not_negative c.args.z c.unsigned_abs-n.result c.ranges.z c.requires c.unsigned_abs-n.ensures.value c.if-z-lt0.false
