use native.Mathlib.Omega.{arith}
use Rattle.import_places.specs.laws.Signs.{mask_bound}
use Rattle.import_going.proofs.Reaching.{bit_most, too_deep, not_deep}
use Rattle.import_going.proofs.turning.opened.Goals as goal

pub returns-then-s-ge-DEEPEST : goal.returns-then-s-ge-DEEPEST
returns-then-s-ge-DEEPEST c = too_deep _ c.if-s-ge-DEEPEST.true

pub overflow_mul-result : goal.overflow_mul-result
overflow_mul-result c = omega (arith, mask_bound _ _ c.requires (omega (arith, c.if-s-ge-DEEPEST.false)))

pub overflow_add-result : goal.overflow_add-result
overflow_add-result c = omega (arith, mask_bound _ _ c.requires (omega (arith, c.if-s-ge-DEEPEST.false)), c.from.ensures, bit_most c.args.s.sign)

pub returns : goal.returns
returns c = not_deep _ _ c.if-s-ge-DEEPEST.false c.from.ensures
