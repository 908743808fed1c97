use Rattle.theory.specs.Form.{new_form}
use Rattle.model_form.specs.Forms.{form_of}
use mathlib.Core.Path.{sym, ◌∙◌}
use native.Mathlib.Omega.{arith}
use Rattle.model_command.proofs.Forward.{whole_bytes}
use Rattle.model.proofs.Walk.{whole_is, forward}
use Rattle.model_names.proofs.NameWalk.{seek_starts, seek_stops, seek_found, seek_ends, seek_on, name_room}
use Rattle.model_names.proofs.named_part.Goals as goal

pub loop-c-init : goal.loop-c-init
loop-c-init c = seek_starts c.args.model.now c.args.action

pub returns-in_default : goal.returns-in_default
returns-in_default c = (seek_stops c.loop-c.invariant c.command_at.result c.in_default.not-Ok c.command_at.ensures, omega arith)

pub overflow_add-from : goal.overflow_add-from
overflow_add-from c = let h = (whole_bytes new_form c.args.model.now c.loop-c.at _
    (whole_is c.args.model.now c.loop-c.at c.command_at.ensures c.in-Ok.is)).0.starts in omega
    (arith, c.behind_action.ensures.1)

pub trimmed_len-requires : goal.trimmed_len-requires
unfolding form_of
trimmed_len-requires c = let r = name_room c.args.action c.args.model.now c.loop-c.at _
    (whole_is c.args.model.now c.loop-c.at c.command_at.ensures c.in-Ok.is)
    (sym (c.names.ensures c.args.model.now c.loop-c.at) ∙ c.if-names.true) in omega (arith, c.behind_action.ensures.0)

pub returns-then-names : goal.returns-then-names
unfolding form_of
returns-then-names c = let r = name_room c.args.action c.args.model.now c.loop-c.at _
    (whole_is c.args.model.now c.loop-c.at c.command_at.ensures c.in-Ok.is)
    (sym (c.names.ensures c.args.model.now c.loop-c.at) ∙ c.if-names.true) in
    let t = c.trimmed_len.ensures in (
      seek_found c.loop-c.invariant _ c.behind_action.result c.trimmed_len.result c.behind_action.ensures.0
          (whole_is c.args.model.now c.loop-c.at c.command_at.ensures c.in-Ok.is)
          (sym (c.names.ensures c.args.model.now c.loop-c.at) ∙ c.if-names.true) t.1,
      omega
          (arith, t.0, r, c.behind_action.ensures.0),
    )

pub returns-then-is_end : goal.returns-then-is_end
returns-then-is_end c = (
  seek_ends c.loop-c.invariant _ (whole_is c.args.model.now c.loop-c.at c.command_at.ensures c.in-Ok.is)
      (sym (c.names.ensures c.args.model.now c.loop-c.at) ∙ c.if-names.false) (sym c.is_end.ensures ∙ c.if-is_end.true),
  omega arith,
)

pub loop-c-smaller : goal.loop-c-smaller
loop-c-smaller c = let f = forward c.args.model.now c.loop-c.at _ c.next_after-at.result (whole_is c.args.model.now c.loop-c.at c.command_at.ensures c.in-Ok.is) c.next_after-at.ensures in
    omega (arith, f.1, f.2)

pub loop-c-preserved : goal.loop-c-preserved
loop-c-preserved c = seek_on c.loop-c.invariant _ c.next_after-at.result (whole_is c.args.model.now c.loop-c.at c.command_at.ensures
    c.in-Ok.is) (sym (c.names.ensures c.args.model.now c.loop-c.at) ∙ c.if-names.false)
    (sym c.is_end.ensures ∙ c.if-is_end.false) c.next_after-at.ensures
