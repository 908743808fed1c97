-- `import_emit::items::spell` meets its contract. The loop's invariant: the first j bytes are the name's.
use mathlib.Core.Path.{refl}
use Prim.Native.Nat.{◌-◌}
use native.Mathlib.Omega.{arith}
use borrow.Author.Rules.{rules}
use Rattle.theory.specs.Widths.{name_bytes}
use Rattle.import_emit.proofs.Part.{Spelling, spell_on, spelt_all}
use Rattle.import_emit.proofs.items.spell.Given as goal

abbrev pub invariant-loop-j : goal.invariant-loop-j
invariant-loop-j l = Spelling l.text l.from l.name l.j
