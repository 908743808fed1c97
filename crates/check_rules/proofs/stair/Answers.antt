-- `check_rules::stair` meets its contract: a test of coefficient 1 is proper at every place up to 1,000,000 (`proper_at`), so `join_test` may take it.
use Rattle.std.proofs.Common.{refl, arith}
use Rattle.check_rules.proofs.Steps.{held_grew, held_on, proper_at}
use Rattle.check_rules.proofs.stair.Goals as goal

pub join_test-requires : goal.join_test-requires
join_test-requires c =
    let A = c.in_ok-l.ensures in
    (A.table.bare, proper_at c.args.at c.requires.1, omega (arith, c.requires.3, A.more), A.within refl)

pub returns : goal.returns
returns c = let A = c.in_ok-l.ensures in held_on A.more (held_grew A.table c.join_test.ensures)
