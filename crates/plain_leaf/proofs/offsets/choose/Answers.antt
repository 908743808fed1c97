-- `plain_leaf::offsets::choose` meets its contract: with fewer than two nothing is chosen (`too_few`); the high one, which lies below, stays when the
-- last is dropped (`high_held`), and the low one is written over it before (`low_held`).
use Rattle.plain_pass.proofs.PassWords.{too_few, high_held, low_held}
use Rattle.plain_leaf.proofs.offsets.choose.Goals as goal
use Rattle.plain_leaf.proofs.offsets.choose.Goals.{then-not-high, else-not-high}

pub returns-then-len-lt2 : goal.returns-then-len-lt2
returns-then-len-lt2 c = too_few c.args.items.now c.args.len c.requires c.args.high c.if-len-lt2.true

pub returns : goal.returns
returns c = elim c.if-not-high.branch [
  | then-not-high w ↦ rw w.items-is (low_held c.args.items.now c.args.len c.requires c.if-len-lt2.false c.args.high w.if-not-high.true)
  | else-not-high w ↦ rw w.items-is (high_held c.args.items.now c.args.len c.requires c.if-len-lt2.false c.args.high w.if-not-high.false)
]
