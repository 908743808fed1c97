-- `whole_wide::added_across` meets its contract.
use native.Mathlib.Omega.{arith}
use Rattle.whole_wide.proofs.Signs.{across_above, across_below}
use Rattle.whole_wide.proofs.added_across.Goals as goal

pub returns-then-s-ne0 : goal.returns-then-s-ne0
returns-then-s-ne0 c = let a = c.args in
    let r = c.requires in
    across_above a.x a.y c.sum-s.result r.0 r.1 (omega arith) (omega arith) (omega arith) (omega arith) (omega arith) (omega arith) c.sum-s.ensures c.if-s-ne0.true

pub returns-else-s-ne0 : goal.returns-else-s-ne0
returns-else-s-ne0 c = let a = c.args in
    let r = c.requires in
    across_below a.x a.y c.sum-s.result r.0 r.1 (omega arith) (omega arith) (omega arith) (omega arith) (omega arith) (omega arith) c.sum-s.ensures c.if-s-ne0.false
