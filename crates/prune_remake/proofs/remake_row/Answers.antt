-- `prune_remake::remake_row` meets its contract: a leaf can stand anywhere, so it is interned as it is (`leaf_made`); a test's branches are rows
-- before it (`high_in`, `low_in`), which have gone to nodes that are there (`gone_in`), so it is joined over them (`test_made`).
use native.Mathlib.Omega.{arith}
use Rattle.prune_remake.proofs.RowRemade.{leaf_valid, leaf_made, test_proper, high_in, low_in, gone_in, test_made}
use Rattle.prune_remake.proofs.remake_row.Goals as goal

pub intern-requires : goal.intern-requires
intern-requires c = (c.requires.0, leaf_valid c.requires.2 c.get-x.ensures c.is_leaf.ensures c.if-is_leaf.true c.args.count)

pub returns-then-is_leaf : goal.returns-then-is_leaf
returns-then-is_leaf c = leaf_made c.requires.2 c.get-x.ensures c.is_leaf.ensures c.if-is_leaf.true c.intern.ensures

pub gone-h-requires : goal.gone-h-requires
gone-h-requires c = let d = high_in c.requires.2 c.get-x.ensures c.is_leaf.ensures c.if-is_leaf.false c.high.ensures in
    (d.0, omega (arith, d.1, c.requires.1), c.requires.0.chained.space.few, c.requires.0.chained.space.works)

pub gone-l-requires : goal.gone-l-requires
gone-l-requires c = let d = low_in c.requires.2 c.get-x.ensures c.is_leaf.ensures c.if-is_leaf.false c.low.ensures in
    (d.0, omega (arith, d.1, c.requires.1), c.requires.0.chained.space.few, c.requires.0.chained.space.works)

pub join_test-requires : goal.join_test-requires
join_test-requires c = let h = high_in c.requires.2 c.get-x.ensures c.is_leaf.ensures c.if-is_leaf.false c.high.ensures in
    let l = low_in c.requires.2 c.get-x.ensures c.is_leaf.ensures c.if-is_leaf.false c.low.ensures in (
      c.requires.0,
      test_proper c.requires.2 c.get-x.ensures c.is_leaf.ensures c.if-is_leaf.false,
      gone_in c.args.cap c.args.work.now
          c.requires.3 h c.gone-h.ensures,
      gone_in c.args.cap c.args.work.now c.requires.3 l c.gone-l.ensures,
    )

pub returns : goal.returns
returns c = test_made c.requires.2 c.get-x.ensures c.is_leaf.ensures c.if-is_leaf.false c.high.ensures c.low.ensures c.gone-h.ensures c.gone-l.ensures c.join_test.ensures
