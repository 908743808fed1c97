-- `check_rule_steps::rules::condition` meets its contract: a condition of 1 to 8 is proper (`proper_condition`), so `join_test` may take it; other numbers leave the table as it is.
use Rattle.std.proofs.Common.{arith}
use Rattle.check_rule_steps.proofs.Steps.{grew, proper_condition}
use Rattle.check_rule_steps.proofs.rules.condition.Goals as goal

pub join_test-requires : goal.join_test-requires
join_test-requires c =
    let h = c.requires in
    (h.0.bare, proper_condition c.mag-k.result (omega arith) (omega arith) c.condition-t.ensures, h.1, h.2)

pub returns : goal.returns
returns c = grew c.requires.0 c.join_test.ensures
