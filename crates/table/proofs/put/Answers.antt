use Rattle.table.proofs.Words.{back}
use Rattle.table.proofs.Store.{put_as}
use Rattle.table.proofs.put.Goals as goal

pub returns : goal.returns
returns c = put_as c.args.nodes.now c.args.i c.args.x c.requires c.struct_told-1.given.1.0.1.0.1
    (back _ c.struct_told-1.given.0.1) (back _ c.struct_told-1.given.1.1.0.1) (back _ c.struct_told-1.given.1.1.1.0.1) c.copy_from_slice.ensures.after
