-- `text_decimal::lines::put_all` meets its contract: the numbers so far stand from `at` on, and the buffer keeps its length (`Written`); room for all
-- of them is room for the next (`written_room`).
use mathlib.Core.List.{map}
use Rattle.text_decimal.proofs.Rows.{Written}
use Rattle.text_decimal.proofs.lines.put_all.Given as goal

abbrev pub invariant-loop-x : goal.invariant-loop-x
invariant-loop-x g l = Written (map g.T.Decimal.whole l.xs) l.initial.out l.at l.x-index l.next l.out
