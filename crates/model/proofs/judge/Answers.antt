-- `model::judge` meets its contract: a whole first command that breaks no rule is a site, behind which the walk stands as `rest` requires
-- (`walk_first`); a broken, unknown or short one is refused at 0, as the walk from the start says.
use mathlib.Core.Path.{sym, ap, ◌∙◌}
use Rattle.std.specs.Prelude.{Err}
use Rattle.model_form.specs.Forms.{form_of}
use Rattle.model.proofs.Walk.{whole_is_in, unknown_is, short_is, walk_starts, turn_unknown, turn_short, walk_first, first_broken_at}
use Rattle.model.proofs.judge.Goals as goal

pub returns-then-k-ne0 : goal.returns-then-k-ne0
returns-then-k-ne0 c = c.refusal.ensures ∙ first_broken_at (form_of c.args.form) c.args.model.now _ c.first-k.result
    (whole_is_in (form_of c.args.form) c.args.model.now 0 c.command_in.ensures c.in-Ok.is)
    (c.first-k.ensures c.args.model.now 0) c.if-k-ne0.true

pub rest-requires : goal.rest-requires
rest-requires c = let f = c.first-k.ensures c.args.model.now 0 in
    let s = c.first.ensures (form_of c.args.form) c.args.model.now 0 (sym f ∙ c.if-k-ne0.false) in (
      s.0,
      walk_first (form_of c.args.form) c.args.model.now _ c.requires _ c.first-k.result _ _
          (whole_is_in (form_of c.args.form) c.args.model.now 0 c.command_in.ensures c.in-Ok.is) f c.if-k-ne0.false
          c.next_after_in-from.ensures s.1,
    )

pub returns-in-Err-Unknown : goal.returns-in-Err-Unknown
returns-in-Err-Unknown c = c.refusal-in-Err-Unknown.ensures ∙ turn_unknown (walk_starts (form_of c.args.form) c.args.model.now)
    (unknown_is (form_of c.args.form) c.args.model.now 0 c.command_in.ensures (c.in-Err-Unknown.is ∙ ap Err c.in-Err-Unknown.field-0-is))

pub returns-in-Err-Short : goal.returns-in-Err-Short
returns-in-Err-Short c = c.refusal-in-Err-Short.ensures ∙ turn_short (walk_starts (form_of c.args.form) c.args.model.now)
    (short_is (form_of c.args.form) c.args.model.now 0 c.command_in.ensures (c.in-Err-Short.is ∙ ap Err c.in-Err-Short.field-0-is))
