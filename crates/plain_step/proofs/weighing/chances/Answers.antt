use mathlib.Core.Path.{refl, ◌∙◌}
use Prim.Native.Nat.{◌<◌}
use Rattle.std.proofs.Common.{◌≢◌, get_or-set_other, get_or-set_same, below_more}
use native.Mathlib.Omega.{arith}
use lib.ListN.{length, length-set}
use Rattle.plain_step.proofs.Weigh.{chances_are}
use Rattle.plain_step.proofs.weighing.chances.Goals as goal

pub loop-k-init : goal.loop-k-init
loop-k-init c = (refl, λ j h. absurd (omega arith))

pub loop-k-preserved : goal.loop-k-preserved
loop-k-preserved c = (
  length-set _ _ _ ∙ c.loop-k.invariant.0,
  below_more _ _
      (λ j h. let ne : j ≢ c.loop-k.k = omega arith in rw get_or-set_other (c.loop-k.invariant.1 j h))
      (let lt : c.loop-k.k < length c.loop-k.c = omega (arith, c.loop-k.invariant.0) in rw get_or-set_same c.chance.ensures),
)

pub returns : goal.returns
returns c = chances_are c.args.model.now c.args.a c.args.x c.requires.0.ready _ c.loop-k.invariant.0 (λ k h. c.loop-k.invariant.1 k (omega arith))
