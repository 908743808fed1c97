-- `plain_leaf::test` meets its contract.
use mathlib.Core.Path.{◌∙◌, ap}
use lib.IntN.{ℤ, pos}
use lib.Signed.{le_z}
use Rattle.whole.specs.Numerator.{number}
use Rattle.whole.specs.NumeratorLaws.{number_words}
use Rattle.plain_leaf.proofs.test.Goals as goal

pub returns : goal.returns
returns c = c.not_positive.ensures ∙ ap (λ (z : ℤ). le_z z (pos 0)) (ap number c.numerator.ensures ∙ number_words _)
