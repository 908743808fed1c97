-- `plain_evaluate::end_at` meets its contract.
use mathlib.Core.Path.{refl, sym, ap, ◌∙◌}
use native.Mathlib.Omega.{arith}
use Rattle.whole.specs.Numerator.{words}
use Rattle.theory.specs.Verdict.{end_slot}
use Rattle.theory.specs.Meaning.{env}
use Rattle.theory.specs.Load.{loaded_entries}
use Rattle.plain_pass.specs.Parts.{row, place}
use Rattle.plain_pass.proofs.Turns.{level_is}
use Rattle.plain_pass.proofs.Ends.{found_worth, absent_worth, part_asks}
use Rattle.plain_evaluate.proofs.end_at.Goals as goal

pub returns-then-begin-eq0 : goal.returns-then-begin-eq0
unfolding words place row
returns-then-begin-eq0 c = λ s z st. ap words (absent_worth c.args.model.now c.args.parts.now end_slot c.args.x c.requires.0 tt c.requires.2
    (omega (arith, c.requires.2.some)) (sym c.begin-begin.ensures ∙ c.if-begin-eq0.true) s z st)

pub leaf_at-requires : goal.leaf_at-requires
leaf_at-requires c = part_asks c.args.model.now c.args.parts.now end_slot c.args.x _ c.requires.0 c.requires.1 tt c.requires.2 c.requires.3
    c.begin-begin.ensures

pub leaf_numerator-requires : goal.leaf_numerator-requires
leaf_numerator-requires c = c.requires.3

pub returns : goal.returns
returns c = λ s z st. c.leaf_numerator.ensures ∙ (ap words
    (level_is c.args.model.now end_slot c.args.x _ c.leaf_at.ensures s z st _ refl ∙ found_worth (env s z) end_slot
    (loaded_entries c.args.model.now)))
