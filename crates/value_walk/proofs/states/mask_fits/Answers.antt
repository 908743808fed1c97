-- `value_walk::states::mask_fits` meets its contract.
use Rattle.value_walk.proofs.Accept.{mask_narrow, mask_shifted}
use Rattle.value_walk.proofs.states.mask_fits.Goals as goal

pub returns-then-n-ge-BITS : goal.returns-then-n-ge-BITS
returns-then-n-ge-BITS c = mask_narrow _ _ c.ranges.mask.fits c.if-n-ge-BITS.true

pub returns-else-n-ge-BITS : goal.returns-else-n-ge-BITS
returns-else-n-ge-BITS c = mask_shifted c.args.n c.args.mask
