use mathlib.Core.Path.{refl, ◌∙◌}
use native.Mathlib.Omega.{arith}
use mir.Syntax.{w64}
use mir.ValLaws.{to_z-of_z}
use Rattle.whole.proofs.Filled.{none_filled, one_filled}
use Rattle.model_command.proofs.Linears.{linear_read}
use Rattle.model_command.proofs.linear_at.Goals as goal

pub loop-i-init : goal.loop-i-init
loop-i-init c = none_filled refl

pub number-requires : goal.number-requires
number-requires c = let p = c.requires in omega arith

pub loop-i-preserved : goal.loop-i-preserved
loop-i-preserved c = one_filled c.loop-i.invariant c.loop-i-test.true (to_z-of_z w64 _ (record { sfits = c.number.type_inv }) ∙ c.number.ensures)

pub returns : goal.returns
returns c = linear_read _ _ c.loop-i.invariant c.loop-i-test.false
