-- `table_rows::row_kind` meets its contract: the tests are those of `row_kind` in its order, one law for each (`none_at_zero` to `as_bad`): an index
-- outside, then the kind by its number, which is bad where its row is not good.
use native.Mathlib.Omega.{arith}
use Rattle.table_rows.proofs.Rowed.{none_at_zero, none_outside, as_leaf, as_condition, as_test, as_none, as_bad}
use Rattle.table_rows.proofs.row_kind.Goals as goal
use Rattle.table_rows.proofs.row_kind.Goals.{then-r-eq0-via-then-r-eq0, then-r-eq0-via-else-r-eq0+then-nodes-r}

pub returns-then-r-eq0 : goal.returns-then-r-eq0
returns-then-r-eq0 c = elim c.then-r-eq0.branch [
  | then-r-eq0-via-then-r-eq0 w ↦ none_at_zero _ _ _ _ w.if-r-eq0.true
  | then-r-eq0-via-else-r-eq0+then-nodes-r w ↦ none_outside _ _ _ _ w.if-r-eq0.false w.if-nodes-r.true
]

pub returns-in-0 : goal.returns-in-0
returns-in-0 c = as_leaf _ _ _ _ c.if-r-eq0.false c.if-nodes-r.false c.kind.ensures c.in-0.is c.good_leaf.ensures c.kind_if.ensures

pub returns-in-1 : goal.returns-in-1
returns-in-1 c = as_condition _ _ _ _ c.if-r-eq0.false c.if-nodes-r.false c.kind.ensures (λ e. omega (arith, c.in-1.is)) c.in-1.is c.good_condition.ensures c.kind_if-in-1.ensures

pub returns-in-2 : goal.returns-in-2
returns-in-2 c = as_test _ _ _ _ c.if-r-eq0.false c.if-nodes-r.false c.kind.ensures (λ e. omega (arith, c.in-2.is)) (λ e. omega (arith, c.in-2.is)) c.in-2.is c.good_test.ensures c.kind_if-in-2.ensures

pub returns-in-3 : goal.returns-in-3
returns-in-3 c = as_none _ _ _ _ c.if-r-eq0.false c.if-nodes-r.false c.kind.ensures (λ e. omega (arith, c.in-3.is)) (λ e. omega (arith, c.in-3.is)) (λ e. omega (arith, c.in-3.is)) c.in-3.is c.good_none.ensures c.kind_if-in-3.ensures

pub returns-in_default : goal.returns-in_default
returns-in_default c = let n = c.in_default.in_default-own in as_bad _ _ _ _ c.if-r-eq0.false c.if-nodes-r.false c.kind.ensures (λ e. omega (arith, n)) (λ e. omega (arith, n)) (λ e. omega (arith, n)) (λ e. omega (arith, n))
