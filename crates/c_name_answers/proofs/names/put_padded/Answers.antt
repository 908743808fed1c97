-- `c_name_answers::names::put_padded` meets its contract.
use native.Mathlib.Omega.{arith}
use Prim.Native.Nat.{◌≤◌}
use lib.ListN.{length}
use Rattle.c_name_answers.proofs.Named.{padded_put}
use Rattle.c_name_answers.proofs.names.put_padded.Goals as goal

pub returns : goal.returns
returns c = let h : c.args.at ≤ length c.args.out.now = omega (arith, c.requires) in
    padded_put c.args.name.now h c.put_bytes-n.ensures c.put_le.ensures
