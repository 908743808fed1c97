-- `rule_compose_entry::key` meets its contract: each word of the record is a call's contract; `entry_words` is that record.
use Rattle.rule_compose_entry.specs.Entry.{entry_words}
use Rattle.rule_compose_entry.proofs.key.Goals as goal

pub returns : goal.returns
unfolding entry_words
returns c = λ i. record {
  op = c.with_level-op.ensures i;
  f = c.with_level-at.ensures i;
  g =
      c.two_levels-g.ensures i;
  p = c.two_levels-p.ensures i;
  q = c.two_levels-q.ensures i;
}
