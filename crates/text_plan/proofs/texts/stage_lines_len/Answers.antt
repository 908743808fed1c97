use Prim.Native.Nat.{ℕ}
use native.Mathlib.Omega.{arith}
use mathlib.Core.Path.{◌≡◌, ap}
use lib.ListN.{length}
use Rattle.theory.specs.Listing.{stage_line}
use Rattle.text_plan.proofs.Joined.{upon, counted_none, counted_more}
use Rattle.text_plan.proofs.texts.stage_lines_len.Goals as goal

pub loop-h-init : goal.loop-h-init
loop-h-init c = (omega arith, omega (arith, counted_none (stage_line c.args.stages.now) 0), omega arith)

pub stage_line_len-n-requires : goal.stage_line_len-n-requires
stage_line_len-n-requires c = (omega arith, omega (arith, c.requires.0, c.loop-h-test.true))

pub overflow_add-n : goal.overflow_add-n
overflow_add-n c = omega (arith, c.loop-h.invariant.2, c.loop-h-test.true, c.requires.1, c.stage_line_len-n.ensures.1)

pub loop-h-preserved : goal.loop-h-preserved
loop-h-preserved c = let l = c.loop-h in
    let q = c.stage_line_len-n.ensures in (
      omega (arith, c.loop-h-test.true),
      counted_more (stage_line c.args.stages.now) 0 l.h l.n c.stage_line_len-n.result l.invariant.1 q.0,
      omega (arith, q.1, l.invariant.2),
    )

pub returns : goal.returns
returns c = let a = c.args in
    let l = c.loop-h in
    let e : l.h ≡ a.last = omega (arith, c.loop-h-test.false, l.invariant.0) in
    (omega (arith, l.invariant.1, ap (λ (k : ℕ). length (upon (stage_line a.stages.now) k)) e), omega (arith, l.invariant.2, l.invariant.0, c.requires.1))
