-- `plain_leaf::bit` meets its contract.
use mathlib.Core.Path.{◌∙◌}
use Prim.Native.Nat.{◌<◌}
use native.Mathlib.Omega.{arith}
use borrow.Author.Tests.{lt-leb}
use Rattle.plain_pass.proofs.Turns.{bit_past}
use Rattle.plain_leaf.proofs.bit.Goals as goal
use Rattle.plain_leaf.proofs.bit.Goals.{then-k-ge1, else-k-ge1}

pub returns-else-k-le4 : goal.returns-else-k-le4
returns-else-k-le4 c = elim c.if-k-ge1.branch [
  | then-k-ge1 w ↦
      let h : 4 < c.args.k = omega arith in
      w.t-4-is ∙ lt-leb _ _ h ∙ bit_past c.args.mask c.args.k (λ e. omega arith) (λ e. omega arith) (λ e. omega arith) (λ e. omega arith)
  | else-k-ge1 w ↦
      let h = w.if-k-ge1.false in
      w.t-4-is ∙ lt-leb _ _ h ∙ bit_past c.args.mask c.args.k (λ e. omega arith) (λ e. omega arith) (λ e. omega arith) (λ e. omega arith)
]
