-- `c_total::put_total` meets its contract.
use native.Mathlib.Omega.{arith}
use Rattle.c_answers.proofs.Bytes.{le_length}
use Rattle.value_total.specs.Out.{total_out}
use Rattle.c_total.proofs.Answered.{total_put}
use borrow.Author.Rules.{rules}
use Rattle.c_total.proofs.put_total.Goals as goal

pub put_words-requires : goal.put_words-requires
put_words-requires c = omega (arith, c.requires, c.put_pair-n.ensures.1, c.put_pair-n.auto.out, c.put_le-m.ensures.behind, c.put_le-m.auto.out, le_length 4 c.args.t.second)

pub returns : goal.returns
returns c = total_put (total_out c.args.t) (omega (arith, c.requires, c.put_pair-n.ensures.1, c.put_pair-n.auto.out))
    (search rules) c.put_pair-n.ensures.0 c.put_le-m.ensures
    c.put_words.ensures
