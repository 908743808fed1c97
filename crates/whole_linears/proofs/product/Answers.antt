-- `whole_linears::product` meets its contract: a product that is given is the product, and none is given where it lies beyond the limits.
use Rattle.std.proofs.Common.{◌≡◌, ◌*ℤ◌, Option, Some, None, ℤ, pos, refl, ap, ◌∙◌, SFits, w64}
use Rattle.std.specs.Option.{unwrap_or}
use Rattle.whole.specs.Linears.{clipped}
use Rattle.whole.specs.Within.{limited}
use Rattle.whole.proofs.Clipped.{times_over, times_is}
use Rattle.whole.proofs.Signed.{R}
use Rattle.whole_linears.proofs.product.Goals as goal

given_or : (a b : ℤ) → SFits w64 a → SFits w64 b → (o : Option ℤ) → o ≡ limited (R a *ℤ R b) → R (unwrap_or o (pos 4611686018427387904)) ≡ clipped (a *ℤ b)
given_or a b f g None e = times_over a b f g e refl
given_or a b f g (Some p) e = times_is a b f g e p refl

pub returns : goal.returns
returns c = ap R c.unwrap_or.ensures ∙ given_or c.args.a c.args.b c.ranges.a c.ranges.b c.mul_within.result c.mul_within.ensures
