use Prim.Native.Nat.{ℕ, ◌+◌}
use native.Mathlib.Omega.{arith}
use mathlib.Core.Path.{◌≡◌, ap, ◌∙◌}
use lib.ListN.{length}
use Rattle.theory.specs.Listing.{node_line}
use Rattle.text_plan.specs.Plan.{upto}
use Rattle.text_plan.proofs.Joined.{upon, counted_none, counted_more, counted_over, counted_within}
use Rattle.text_plan.proofs.texts.node_lines_len.Goals as goal

pub loop-r-init : goal.loop-r-init
loop-r-init c = (omega arith, counted_none (node_line c.args.nodes.now) c.args.before, omega (arith, c.requires.0))

pub overflow_add-result : goal.overflow_add-result
overflow_add-result c = omega (arith, c.requires.2)

pub returns-then-room-n : goal.returns-then-room-n
returns-then-room-n c = let a = c.args in
    let l = c.loop-r in
    counted_over (node_line a.nodes.now) a.before l.r a.last l.n a.room l.invariant.1 l.invariant.0 c.if-room-n.true

pub node_line_len-n-requires : goal.node_line_len-n-requires
node_line_len-n-requires c = record { above = omega arith; within = omega (arith, c.requires.1, c.loop-r-test.true) }

pub overflow_add-n : goal.overflow_add-n
overflow_add-n c = omega (arith, c.if-room-n.false, c.requires.2, c.node_line_len-n.ensures.1)

pub loop-r-preserved : goal.loop-r-preserved
loop-r-preserved c = let l = c.loop-r in
    let q = c.node_line_len-n.ensures in (
      omega (arith, c.loop-r-test.true),
      counted_more (node_line c.args.nodes.now) c.args.before l.r l.n c.node_line_len-n.result l.invariant.1 q.0,
      omega (arith, q.1, c.if-room-n.false),
    )

pub overflow_add-result-then-room-n-2 : goal.overflow_add-result-then-room-n-2
overflow_add-result-then-room-n-2 c = omega (arith, c.requires.2)

pub returns-then-room-n-2 : goal.returns-then-room-n-2
returns-then-room-n-2 c = let a = c.args in
    let l = c.loop-r in
    counted_over (node_line a.nodes.now) a.before l.r a.last l.n a.room l.invariant.1 l.invariant.0 c.if-room-n-2.true

pub returns-else-room-n-2 : goal.returns-else-room-n-2
returns-else-room-n-2 c = let a = c.args in
    let l = c.loop-r in
    let e : l.r ≡ a.last = omega (arith, c.loop-r-test.false, l.invariant.0) in
    counted_within (node_line a.nodes.now) l.n a.room c.if-room-n-2.false
    ∙ ap (upto a.room) (l.invariant.1 ∙ ap (λ (k : ℕ). a.before + length (upon (node_line a.nodes.now) k)) e)
