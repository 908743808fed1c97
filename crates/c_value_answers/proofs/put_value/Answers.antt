-- `c_value_answers::put_value` meets its contract.
use Rattle.value_walk.specs.Out.{out as value_out}
use Rattle.c_value_answers.proofs.Read.{value_put}
use borrow.Author.Rules.{rules}
use Rattle.c_value_answers.proofs.put_value.Goals as goal

pub returns : goal.returns
returns c = value_put (value_out c.args.v) (search rules) c.put_pair-n.ensures.0 c.put_words.ensures
