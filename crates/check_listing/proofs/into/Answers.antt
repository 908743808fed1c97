-- `check_listing::into` meets its contract.
use mathlib.Core.Path.{sym}
use lib.Seq.{length-take-le}
use Rattle.check_listing.proofs.into.Goals as goal

pub slice_bounds-listing-end-2 : goal.slice_bounds-listing-end-2
slice_bounds-listing-end-2 c = sym (length-take-le c.args.n c.args.room.now c.if-room-n.false)
