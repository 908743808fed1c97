use mathlib.Core.Path.{sym, ap, ◌∙◌}
use native.Mathlib.Omega.{arith}
use Rattle.theory.specs.Form.{new_form}
use Rattle.theory.specs.Command.{byte_at}
use Rattle.model_stack.specs.Held.{last_first}
use Rattle.model.proofs.Walk.{whole_is, forward, past}
use Rattle.plain_pass.specs.Pass.{slot_of, pushes}
use Rattle.plain_pass.proofs.Reach.{pass_comes}
use Rattle.plain_pass.proofs.Turns.{code_room, push_least, push_wide, takes_own, seek_stops, seek_found, seek_ends, seek_on, seek_push, seek_leaf}
use Rattle.plain_leaf.proofs.pass_from.Goals as goal

pub loop-items-init : goal.loop-items-init
unfolding last_first
loop-items-init c = (c.requires.1, c.requires.0.seeks)

pub code-op-requires : goal.code-op-requires
code-op-requires c = c.code_end-end.ensures

pub overflow_cast-at : goal.overflow_cast-at
overflow_cast-at c = let r = code_room c.args.model.now c.loop-items.at 16 (omega arith) (sym c.if-op-eq16.true ∙ c.code-op.ensures) in omega (arith, r.0, c.requires.0.short)

pub push-len-requires : goal.push-len-requires
push-len-requires c = c.loop-items.invariant.0

pub overflow_add-at : goal.overflow_add-at
overflow_add-at c = let r = code_room c.args.model.now c.loop-items.at 16 (omega arith) (sym c.if-op-eq16.true ∙ c.code-op.ensures) in omega (arith, r.0, c.requires.0.short)

pub loop-items-smaller-then-op-eq16 : goal.loop-items-smaller-then-op-eq16
loop-items-smaller-then-op-eq16 c = let r = code_room c.args.model.now c.loop-items.at 16 (omega arith) (sym c.if-op-eq16.true ∙ c.code-op.ensures) in omega (arith, r.0)

pub loop-items-preserved-then-op-eq16 : goal.loop-items-preserved-then-op-eq16
loop-items-preserved-then-op-eq16 c = let h = c.push-len.ensures in (h.room, seek_leaf c.loop-items.invariant.1 _ (sym c.if-op-eq16.true ∙ c.code-op.ensures) h.holds)

pub push_by-t-requires : goal.push_by-t-requires
push_by-t-requires c = let r = code_room c.args.model.now c.loop-items.at _ (push_least _ (sym c.is_push.ensures ∙ c.if-is_push.true))
    c.code-op.ensures in (c.loop-items.invariant.0, r.0, c.requires.0.short, c.requires.0.flat, λ e. c.if-op-eq16.false (sym r.1 ∙ e))

pub loop-items-smaller-then-is_push : goal.loop-items-smaller-then-is_push
loop-items-smaller-then-is_push c = let r = code_room c.args.model.now c.loop-items.at _ (push_least _ (sym c.is_push.ensures ∙ c.if-is_push.true)) c.code-op.ensures in
    let w = push_wide (byte_at c.args.model.now c.loop-items.at) in omega (arith, r.0, c.push_by-t.ensures.1, w.0, w.1)

pub loop-items-preserved-then-is_push : goal.loop-items-preserved-then-is_push
loop-items-preserved-then-is_push c = let r = code_room c.args.model.now c.loop-items.at _ (push_least _ (sym c.is_push.ensures ∙ c.if-is_push.true)) c.code-op.ensures in
    let h = c.push_by-t.ensures in (
      h.0.room,
      seek_push c.loop-items.invariant.1 (byte_at c.args.model.now c.loop-items.at) _ _
          (r.1 ∙ c.code-op.ensures) (ap pushes r.1 ∙ (sym c.is_push.ensures ∙ c.if-is_push.true)) h.1 h.0.holds,
    )

pub gives-requires : goal.gives-requires
gives-requires c = c.code-op.ensures

pub top-requires : goal.top-requires
top-requires c = c.loop-items.invariant.0

pub returns-then-gives : goal.returns-then-gives
returns-then-gives c = pass_comes c.args.model.now c.args.x.now (slot_of c.args.g) _
    c.requires.0.accepted c.requires.0.diagram (seek_found c.loop-items.invariant.1 _ _ (c.gives.ensures c.if-gives.true)
    (takes_own (slot_of c.args.g)) c.top.ensures)

pub returns-in_default : goal.returns-in_default
returns-in_default c = pass_comes c.args.model.now c.args.x.now (slot_of c.args.g) 0
    c.requires.0.accepted c.requires.0.diagram (seek_stops c.loop-items.invariant.1 c.command_at.result c.in_default.not-Ok
    c.command_at.ensures)

pub top-requires-then-takes : goal.top-requires-then-takes
top-requires-then-takes c = c.loop-items.invariant.0

pub returns-then-takes : goal.returns-then-takes
returns-then-takes c = pass_comes c.args.model.now c.args.x.now (slot_of c.args.g) _
    c.requires.0.accepted c.requires.0.diagram (seek_found c.loop-items.invariant.1 _ _
    (whole_is c.args.model.now c.loop-items.at c.command_at.ensures c.in-Ok.is)
    (sym (c.takes.ensures c.args.model.now c.loop-items.at) ∙ c.if-takes.true) c.top-then-takes.ensures)

pub returns-then-is_end : goal.returns-then-is_end
returns-then-is_end c = pass_comes c.args.model.now c.args.x.now (slot_of c.args.g) 0
    c.requires.0.accepted c.requires.0.diagram (seek_ends c.loop-items.invariant.1 _
    (whole_is c.args.model.now c.loop-items.at c.command_at.ensures c.in-Ok.is)
    (sym c.is_end.ensures ∙ c.if-is_end.true))

pub after-len-requires : goal.after-len-requires
after-len-requires c = (c.loop-items.invariant.0, (whole_is c.args.model.now c.loop-items.at c.command_at.ensures c.in-Ok.is), c.requires.0.short)

pub overflow_add-at-in-loop-items : goal.overflow_add-at-in-loop-items
overflow_add-at-in-loop-items c = let f = forward c.args.model.now c.loop-items.at _ _ (whole_is c.args.model.now c.loop-items.at c.command_at.ensures
    c.in-Ok.is) (past new_form c.args.model.now c.loop-items.at _ c.size-at.result
    (whole_is c.args.model.now c.loop-items.at c.command_at.ensures c.in-Ok.is) c.size-at.ensures) in omega
    (arith, f.1, f.2, c.requires.0.short)

pub loop-items-smaller : goal.loop-items-smaller
loop-items-smaller c = let f = forward c.args.model.now c.loop-items.at _ _ (whole_is c.args.model.now c.loop-items.at c.command_at.ensures
    c.in-Ok.is) (past new_form c.args.model.now c.loop-items.at _ c.size-at.result
    (whole_is c.args.model.now c.loop-items.at c.command_at.ensures c.in-Ok.is) c.size-at.ensures) in omega
    (arith, f.1, f.2)

pub loop-items-preserved : goal.loop-items-preserved
loop-items-preserved c = let h = c.after-len.ensures in (
  h.room,
  seek_on c.loop-items.invariant.1 _ _ _
      (whole_is c.args.model.now c.loop-items.at c.command_at.ensures c.in-Ok.is)
      (sym (c.takes.ensures c.args.model.now c.loop-items.at) ∙ c.if-takes.false) (sym c.is_end.ensures ∙ c.if-is_end.false)
      (past new_form c.args.model.now c.loop-items.at _ c.size-at.result
      (whole_is c.args.model.now c.loop-items.at c.command_at.ensures c.in-Ok.is) c.size-at.ensures)
      h.holds,
)
