-- `plain_evaluate::reward_at` meets its contract.
use mathlib.Core.Path.{sym, ap, ◌∙◌}
use Rattle.std.specs.Prelude.{Some}
use Rattle.whole.specs.declared.Numerator.{Numerator}
use Rattle.plain_pass.specs.Pass.{slot_of, reward_of}
use Rattle.plain_pass.proofs.Turns.{reward_forbidden, reward_is}
use Rattle.plain_evaluate.proofs.reward_at.Goals as goal

pub returns-then-byte_at-eq19 : goal.returns-then-byte_at-eq19
unfolding reward_of
returns-then-byte_at-eq19 c = λ t z st. reward_forbidden c.args.model.now (slot_of c.args.g) c.args.x _ c.found_at-at.ensures t z st (sym c.byte_at.ensures ∙ c.if-byte_at-eq19.true)

pub leaf_numerator-requires : goal.leaf_numerator-requires
leaf_numerator-requires c = c.requires.4

pub returns : goal.returns
unfolding reward_of
returns c = λ t z st. ap (λ (n : Numerator). Some n) c.leaf_numerator.ensures
    ∙ reward_is c.args.model.now (slot_of c.args.g) c.args.x _ c.found_at-at.ensures t z st (λ e. c.if-byte_at-eq19.false (c.byte_at.ensures ∙ e))
