use mathlib.Core.Path.{refl}
use Prim.Native.Nat.{◌-◌}
use native.Mathlib.Omega.{arith}
use borrow.Author.Rules.{rules}
use Rattle.theory.specs.Widths.{name_bytes}
use Rattle.import_emit.proofs.Part.{Spelling, spell_on, spelt_all}
use Rattle.import_emit.proofs.items.spell.Goals as goal

pub loop-j-init : goal.loop-j-init
loop-j-init c = record { upto = omega arith; long = refl; each = λ k h. absurd (omega arith) }

pub loop-j-preserved : goal.loop-j-preserved
loop-j-preserved c = spell_on c.loop-j.invariant c.loop-j-test.true c.name_byte.ensures

pub returns : goal.returns
returns c = spelt_all c.loop-j.invariant c.loop-j-test.false
