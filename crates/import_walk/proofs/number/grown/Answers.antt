-- `import_walk::number::grown` meets its contract: the value is at most 65,535, so ten times it and a digit fit; the cases of `grown-of` are a blank, `most`, and the new value.
use mathlib.Core.Path.{sym, ◌∙◌}
use native.Mathlib.Omega.{arith}
use Rattle.import_walk.proofs.Loops.{grown_blank, grown_least}
use Rattle.import_walk.proofs.number.grown.Goals as goal

pub returns-then-is_blank : goal.returns-then-is_blank
returns-then-is_blank c = (grown_blank _ _ _ (sym c.is_blank.ensures ∙ c.if-is_blank.true), c.requires.1)

pub returns : goal.returns
returns c = (
  grown_least _ _ _ _ (sym c.is_blank.ensures ∙ c.if-is_blank.false) c.digit_value.ensures c.from.ensures c.min.ensures,
  omega (arith, c.min.ensures),
)
