use Rattle.rule_node.proofs.LeafNumbers.{leaf_over, leaf_valid, leaf_made}
use Rattle.rule_node.proofs.making.make_leaf.Goals as goal

pub intern-requires : goal.intern-requires
intern-requires c = (
  c.requires.0,
  leaf_valid c.requires.0 c.args.s
      c.well_formed.1.1.1.1.0.1.1.1.0.1.0.1 c.requires.1 c.within.ensures c.if-not-within.false,
)

pub returns : goal.returns
returns c = leaf_made c.requires.0 c.args.s c.well_formed.1.1.1.1.0.1.1.1.0.1.0.1 c.requires.1 c.within.ensures c.if-not-within.false c.intern.ensures

pub returns-then-not-within : goal.returns-then-not-within
returns-then-not-within c = leaf_over c.requires.0 c.args.s c.well_formed.1.1.1.1.0.1.1.1.0.1.0.1 c.requires.1 c.within.ensures c.if-not-within.true
