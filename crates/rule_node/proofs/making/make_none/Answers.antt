use Rattle.rule_node.proofs.LeafNumbers.{none_valid, none_made}
use Rattle.rule_node.proofs.making.make_none.Goals as goal

pub intern-requires : goal.intern-requires
intern-requires c = (c.requires, none_valid _)

pub returns : goal.returns
returns c = none_made c.intern.ensures
