use mathlib.Core.Path.{refl}
use Rattle.import_frames.specs.Frames.{total}
use Rattle.import_frames.proofs.Laws.{yes, no, nine_smalls}
use Rattle.import_frames.proofs.total.Goals as goal

pub sub-requires : goal.sub-requires
sub-requires c = (nine_smalls c.requires.sum_nine, nine_smalls c.requires.term_nine)

pub returns-then-s : goal.returns-then-s
unfolding total
returns-then-s c = yes c.args.s.minus _ _ refl c.if-s.true c.sub.ensures

pub add-requires : goal.add-requires
add-requires c = (nine_smalls c.requires.sum_nine, nine_smalls c.requires.term_nine)

pub returns : goal.returns
unfolding total
returns c = no c.args.s.minus _ _ refl c.if-s.false c.add.ensures
