-- `text_decimal::lines::all_len` meets its contract: n is the length of the numbers so far as text, at most `number_bytes` for each (`Counted`), so the
-- sum fits.
use mathlib.Core.List.{map}
use Rattle.text_decimal.proofs.Rows.{Counted}
use Rattle.text_decimal.proofs.lines.all_len.Given as goal

abbrev pub invariant-loop-x : goal.invariant-loop-x
invariant-loop-x g l = Counted (map g.T.Decimal.whole l.xs) l.x-index l.n
