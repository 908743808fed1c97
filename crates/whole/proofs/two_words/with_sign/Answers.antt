-- `whole::two_words::with_sign` meets its contract.
use Rattle.std.proofs.Common.{◌∙◌, arith}
use Rattle.whole.specs.Numerator.{number}
use Rattle.whole.proofs.TwoWords.{turned_below, turned_above}
use Rattle.whole.proofs.two_words.with_sign.Goals as goal

pub returns-then-z-lt0 : goal.returns-then-z-lt0
returns-then-z-lt0 c = let e = c.negated.ensures in
    record {
      is = e.is ∙ turned_below c.args.z (number c.args.x) c.ranges.z c.if-z-lt0.true;
      bounded = e.bounded;
    }

pub returns-else-z-lt0 : goal.returns-else-z-lt0
returns-else-z-lt0 c = record {
  is = turned_above c.args.z (number c.args.x) c.ranges.z c.if-z-lt0.false;
  bounded = omega arith;
}
