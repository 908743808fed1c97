-- `prune_certificate::is_zero` meets its contract.
use mathlib.Core.Path.{sym, ap, ◌∙◌}
use native.Mathlib.Omega.{arith}
use lib.IntN.{pos}
use lib.Signed.{le_z}
use Rattle.whole.specs.Numerator.{number}
use Rattle.whole.proofs.TwoWords.{high_back}
use Rattle.prune_certificate.proofs.Answers.{zero_above, zero_high}
use Rattle.prune_certificate.proofs.is_zero.Goals as goal

pub returns-then-not-not_positive : goal.returns-then-not-not_positive
returns-then-not-not_positive c = zero_above (number c.args.x) (sym c.not_positive.ensures ∙ c.if-not-not_positive.true)

pub returns : goal.returns
unfolding number
returns c = let x = c.args.x in
    ap (le_z (pos 0)) (high_back x.high c.struct_told-1.given.1.0.1) ∙ zero_high x.high x.low (omega arith) (sym c.not_positive.ensures ∙ c.if-not-not_positive.false)
