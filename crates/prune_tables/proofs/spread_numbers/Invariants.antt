-- `prune_tables::spread_numbers` meets its contract: the first h words that were not 0 have their numbers in turn, and the words from h on are as
-- they were (`Spreading`); k is at most h (`few_spread`), so there is a number.
use Rattle.prune_tables.proofs.Loops.{Spreading}
use Rattle.prune_tables.proofs.spread_numbers.Given as goal

abbrev pub invariant-loop-h : goal.invariant-loop-h
invariant-loop-h l = Spreading l.numbers l.initial.stages l.stages l.k l.h
