-- `plain_leaf::numerators::test_at` meets its contract.
use mathlib.Core.Path.{◌∙◌, ap}
use lib.IntN.{ℤ, pos}
use lib.Signed.{le_z}
use Rattle.whole.specs.Numerator.{number}
use Rattle.whole.specs.NumeratorLaws.{number_words}
use Rattle.plain_leaf.proofs.numerators.test_at.Goals as goal

pub returns-in-None : goal.returns-in-None
returns-in-None c = c.not_positive.ensures ∙ ap (λ (z : ℤ). le_z z (pos 0)) (ap number c.wide_at.ensures ∙ number_words _)
