-- `c_answers::put_pair` meets its contract.
use native.Mathlib.Omega.{arith}
use Rattle.c_answers.proofs.Bytes.{le_length, pair_put}
use Rattle.c_answers.proofs.put_pair.Goals as goal

pub put_le-requires : goal.put_le-requires
put_le-requires c = omega (arith, c.requires, c.put_le-n.ensures.behind, c.put_le-n.auto.out, le_length 4 c.args.place)

pub returns : goal.returns
returns c = pair_put c.args.place c.args.second c.put_le-n.ensures c.put_le.ensures
