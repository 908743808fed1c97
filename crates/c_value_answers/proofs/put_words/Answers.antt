-- `c_value_answers::put_words` meets its contract.
use native.Mathlib.Omega.{arith}
use Prim.Native.Nat.{◌≤◌}
use lib.ListN.{length}
use Rattle.c_answers.proofs.Bytes.{le_length}
use Rattle.c_value_answers.proofs.Read.{words_put}
use Rattle.c_value_answers.proofs.put_words.Goals as goal

pub put_le-requires : goal.put_le-requires
put_le-requires c = omega (arith, c.requires, c.put_le-n.ensures.behind, c.put_le-n.auto.out, le_length 8 c.args.low)

pub returns : goal.returns
returns c = let h : c.args.at ≤ length c.args.out.now = omega (arith, c.requires) in
    words_put c.args.low c.args.high h c.ranges.high c.bits.ensures c.put_le-n.ensures c.put_le.ensures
