-- `rule_node::making::join_test` meets its contract: the low branch is narrowed first; where both branches are one then the node is that branch, and else it is valid and is interned.
use Rattle.rule_node.proofs.BranchNode.{join_same, join_valid, join_made, words_of}
use Rattle.rule_node.proofs.making.join_test.Goals as goal

pub narrowed-k-requires : goal.narrowed-k-requires
narrowed-k-requires c = (c.requires.0.good, words_of c.requires.0, c.requires.1, c.requires.3)

pub returns-then-h-k : goal.returns-then-h-k
returns-then-h-k c = let k = c.narrowed-k in
    join_same c.requires.0 c.args.t c.requires.1 c.args.h c.args.l k.result c.requires.2 k.ensures.0 k.ensures.1 c.if-h-k.true

pub intern-requires : goal.intern-requires
intern-requires c = let k = c.narrowed-k in
    (c.requires.0, join_valid c.requires.0 c.args.t c.requires.1 c.args.h c.args.l k.result c.requires.2 k.ensures.0 k.ensures.1 c.struct_told-1.given.0.1 c.if-h-k.false)

pub returns : goal.returns
returns c = let k = c.narrowed-k in
    join_made c.requires.0 c.args.t c.requires.1 c.args.h c.args.l k.result c.requires.2 k.ensures.0 k.ensures.1 c.struct_told-1.given.0.1 c.if-h-k.false c.intern.ensures
