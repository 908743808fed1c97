use mathlib.Core.Path.{◌≡◌, refl, ◌∙◌}
use Prim.Native.Nat.{◌+◌, ◌-◌}
use native.Mathlib.Omega.{arith}
use Rattle.theory.specs.Name.{trimmed}
use Rattle.model_names.proofs.NameWalk.{trim_stay, trim_down}
use Rattle.model_names.proofs.trimmed_len.Goals as goal

pub loop-k-init : goal.loop-k-init
loop-k-init c = refl

pub returns-then-model-from-ne32 : goal.returns-then-model-from-ne32
returns-then-model-from-ne32 c = let e : c.loop-k.k - 1 + 1 ≡ c.loop-k.k = omega (arith, c.loop-k-test.true) in
    (omega (arith, c.loop-k.auto.k, c.loop-k-test.true), e ∙ trim_stay c.args.model.now c.args.from c.loop-k.k c.loop-k-test.true c.if-model-from-ne32.true ∙ c.loop-k.invariant)

pub loop-k-preserved : goal.loop-k-preserved
loop-k-preserved c = trim_down c.args.model.now c.args.from c.loop-k.k c.loop-k-test.true c.if-model-from-ne32.false ∙ c.loop-k.invariant

pub returns : goal.returns
unfolding trimmed
returns c = let z : c.loop-k.k ≡ 0 = omega arith in
    (omega arith, rw z at c.loop-k.invariant)
