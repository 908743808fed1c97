use mathlib.Core.Path.{refl, sym, ap, ◌∙◌}
use Rattle.std.specs.Prelude.{Err}
use native.Mathlib.Omega.{arith}
use Rattle.model_command.proofs.Forward.{whole_bytes}
use Rattle.model_form.specs.Forms.{form_of}
use Rattle.model.proofs.Walk.{same_begun, whole_is_in, unknown_is, short_is, forward_in, past, turn_unknown, turn_short, turn_broken, turn_end, turn_on}
use Rattle.model.proofs.rest.Goals as goal

pub loop-c-init : goal.loop-c-init
loop-c-init c = same_begun (form_of c.args.form) c.requires.0 c.requires.1

pub broken-k-requires : goal.broken-k-requires
broken-k-requires c = whole_is_in (form_of c.args.form) c.args.model.now c.pass-run.result.at c.command_in.ensures c.in-Ok.is

pub shape_of-flags-then-k-ne0 : goal.shape_of-flags-then-k-ne0
shape_of-flags-then-k-ne0 c = c.loop-c.invariant.stands.flags ∙ sym c.requires.1.stands.flags

pub returns-then-k-ne0 : goal.returns-then-k-ne0
returns-then-k-ne0 c = let w = c.pass-run.ensures.1 _ c.loop-c.invariant in
    c.refusal.ensures ∙ turn_broken w _ c.broken-k.result (whole_is_in (form_of c.args.form) c.args.model.now c.pass-run.result.at
    c.command_in.ensures c.in-Ok.is) (c.broken-k.ensures w.so_far w.stands) c.if-k-ne0.true

pub ended-requires : goal.ended-requires
ended-requires c = (whole_bytes (form_of c.args.form) c.args.model.now c.pass-run.result.at _
    (whole_is_in (form_of c.args.form) c.args.model.now c.pass-run.result.at c.command_in.ensures
    c.in-Ok.is)).0.starts

pub shape_of-flags-then-is_end : goal.shape_of-flags-then-is_end
shape_of-flags-then-is_end c = c.loop-c.invariant.stands.flags ∙ sym c.requires.1.stands.flags

pub returns-then-is_end : goal.returns-then-is_end
returns-then-is_end c = let w = c.pass-run.ensures.1 _ c.loop-c.invariant in
    turn_end w _ c.broken-k.result _ (whole_is_in (form_of c.args.form) c.args.model.now c.pass-run.result.at
    c.command_in.ensures c.in-Ok.is) (c.broken-k.ensures w.so_far w.stands) c.if-k-ne0.false
    (sym c.is_end.ensures ∙ c.if-is_end.true) c.ended.ensures

pub after-t-requires : goal.after-t-requires
after-t-requires c = whole_is_in (form_of c.args.form) c.args.model.now c.pass-run.result.at c.command_in.ensures c.in-Ok.is

pub overflow_add-at : goal.overflow_add-at
overflow_add-at c = let f = forward_in (form_of c.args.form) c.args.model.now c.pass-run.result.at _ _
    (whole_is_in (form_of c.args.form) c.args.model.now c.pass-run.result.at c.command_in.ensures c.in-Ok.is)
    (past (form_of c.args.form) c.args.model.now c.pass-run.result.at _ c.size_in-at.result
    (whole_is_in (form_of c.args.form) c.args.model.now c.pass-run.result.at c.command_in.ensures c.in-Ok.is)
    c.size_in-at.ensures) in
    omega (arith, f.1, f.2, c.well_formed)

pub loop-c-smaller : goal.loop-c-smaller
loop-c-smaller c = let f = forward_in (form_of c.args.form) c.args.model.now c.pass-run.result.at _ _
    (whole_is_in (form_of c.args.form) c.args.model.now c.pass-run.result.at c.command_in.ensures c.in-Ok.is)
    (past (form_of c.args.form) c.args.model.now c.pass-run.result.at _ c.size_in-at.result
    (whole_is_in (form_of c.args.form) c.args.model.now c.pass-run.result.at c.command_in.ensures c.in-Ok.is)
    c.size_in-at.ensures) in
    omega (arith, f.1, f.2, c.pass-run.ensures.0)

pub loop-c-preserved : goal.loop-c-preserved
loop-c-preserved c = let w = c.pass-run.ensures.1 _ c.loop-c.invariant in
    let e = whole_is_in (form_of c.args.form) c.args.model.now c.pass-run.result.at c.command_in.ensures c.in-Ok.is in
    turn_on w refl _ c.broken-k.result _ c.after-t.result _ e (c.broken-k.ensures w.so_far w.stands) c.if-k-ne0.false
    (sym c.is_end.ensures ∙ c.if-is_end.false) (past (form_of c.args.form) c.args.model.now c.pass-run.result.at _ c.size_in-at.result e
    c.size_in-at.ensures) c.note.ensures c.after-t.ensures

pub shape_of-flags-in-Err-Unknown : goal.shape_of-flags-in-Err-Unknown
shape_of-flags-in-Err-Unknown c = c.loop-c.invariant.stands.flags ∙ sym c.requires.1.stands.flags

pub returns-in-Err-Unknown : goal.returns-in-Err-Unknown
returns-in-Err-Unknown c = c.refusal-in-Err-Unknown.ensures ∙ turn_unknown (c.pass-run.ensures.1 _ c.loop-c.invariant) (unknown_is (form_of c.args.form) c.args.model.now c.pass-run.result.at c.command_in.ensures (c.in-Err-Unknown.is ∙ ap Err c.in-Err-Unknown.field-0-is))

pub shape_of-flags-in-Err-Short : goal.shape_of-flags-in-Err-Short
shape_of-flags-in-Err-Short c = c.loop-c.invariant.stands.flags ∙ sym c.requires.1.stands.flags

pub returns-in-Err-Short : goal.returns-in-Err-Short
returns-in-Err-Short c = c.refusal-in-Err-Short.ensures ∙ turn_short (c.pass-run.ensures.1 _ c.loop-c.invariant) (short_is (form_of c.args.form) c.args.model.now c.pass-run.result.at c.command_in.ensures (c.in-Err-Short.is ∙ ap Err c.in-Err-Short.field-0-is))
