-- `c_answers::short` meets its contract.
use Rattle.c_answers.proofs.Order.{short_0, short_11, short_12, short_other}
use Rattle.c_answers.proofs.short.Goals as goal
use Rattle.c_answers.proofs.short.Goals.{then-number-eq0-via-then-number-eq0, then-number-eq0-via-else-number-eq0+then-number-eq-PAST_LIMITS, then-number-eq0-via-else-number-eq0+else-number-eq-PAST_LIMITS+then-number-eq-TABLES_FULL}

pub returns-then-number-eq0 : goal.returns-then-number-eq0
returns-then-number-eq0 c = elim c.then-number-eq0.branch [
  | then-number-eq0-via-then-number-eq0 w ↦ short_0 w.if-number-eq0.true
  | then-number-eq0-via-else-number-eq0+then-number-eq-PAST_LIMITS w ↦ short_11 w.if-number-eq0.false w.if-number-eq-PAST_LIMITS.true
  | then-number-eq0-via-else-number-eq0+else-number-eq-PAST_LIMITS+then-number-eq-TABLES_FULL w ↦ short_12 w.if-number-eq0.false w.if-number-eq-PAST_LIMITS.false w.if-number-eq-TABLES_FULL.true
]

pub returns : goal.returns
returns c = short_other c.if-number-eq0.false c.if-number-eq-PAST_LIMITS.false c.if-number-eq-TABLES_FULL.false
