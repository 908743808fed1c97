-- `text_page_lines::columns::value_column` meets its contract: the columns from `at` on hold the last digits, and what is left is below 10 to the
-- power of the free columns but one, so `at` falls and a column is left for the sign (`Filled`, `column_below`).
use mathlib.Core.Bool.{true}
use lib.IntN.{nat_abs}
use Rattle.whole_division.specs.Words.{two_words, whole_as}
use Rattle.text_page_lines.proofs.ColumnDigits.{Filled}
use Rattle.text_page_lines.proofs.columns.value_column.Given as goal

abbrev pub invariant-loop : goal.invariant-loop
invariant-loop l = Filled (nat_abs (whole_as l.x)) l.out l.at (two_words l.high l.low) true

abbrev pub decreases-loop : goal.decreases-loop
decreases-loop l = l.at
