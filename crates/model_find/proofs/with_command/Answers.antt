-- `model_find::with_command` meets its contract.
use Rattle.model_form.specs.Forms.{form_of}
use mathlib.Core.Path.{◌∙◌, ap}
use native.Mathlib.Omega.{arith}
use Rattle.model_find.specs.Tally.{joined}
use Rattle.model_find.proofs.Pass.{room, joins, passes, others}
use Rattle.model_find.proofs.with_command.Goals as goal

pub overflow_add-at : goal.overflow_add-at
overflow_add-at c = let h = room c.args.model.now c.args.at _ c.in-Name.is c.requires in omega (arith, c.behind_action.ensures.1)

pub spells-requires : goal.spells-requires
unfolding form_of
spells-requires c = let h = room c.args.model.now c.args.at _ c.in-Name.is c.requires in omega (arith, c.behind_action.ensures.0)

pub returns-then-spells : goal.returns-then-spells
unfolding form_of
returns-then-spells c = c.joined.ensures ∙ ap (joined c.args.known) c.from.ensures ∙ joins c.args.model.now c.args.at _ c.in-Name.is
    c.args.name.now c.args.known c.spells.result c.behind_action.result c.behind_action.ensures.0
    c.spells.ensures c.if-spells.true

pub returns-else-spells : goal.returns-else-spells
unfolding form_of
returns-else-spells c = passes c.args.model.now c.args.at _ c.in-Name.is c.args.name.now c.args.known c.spells.result
    c.behind_action.result c.behind_action.ensures.0 c.spells.ensures c.if-spells.false

pub returns-in_default : goal.returns-in_default
returns-in_default c = others c.args.model.now c.args.at c.args.name.now c.args.known c.args.c c.in_default.not-Name
