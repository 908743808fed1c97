-- `solve_tables::early` meets its contract.
use mathlib.Core.Path.{refl}
use borrow.Author.Tests.{ne_eqb}
use Rattle.theory.specs.Solve.{early_with_peaks}
use Rattle.solve_tables.proofs.early.Goals as goal

pub returns-then-peak_words-ne-PEAK_WORDS : goal.returns-then-peak_words-ne-PEAK_WORDS
unfolding early_with_peaks
returns-then-peak_words-ne-PEAK_WORDS c = rw (ne_eqb _ _ c.if-peak_words-ne-PEAK_WORDS.true) refl

pub returns : goal.returns
unfolding early_with_peaks
returns c = rw c.if-peak_words-ne-PEAK_WORDS.false c.early.ensures
