-- `prune_tables::gather_roots` meets its contract: the first k roots tell where the rows of the first h stage words that are not 0 have
-- gone (`Gathering`); k is at most h (`few_gathered`), so there is room.
use Rattle.prune_tables.proofs.Loops.{Gathering}
use Rattle.prune_tables.proofs.gather_roots.Given as goal

abbrev pub invariant-loop-h : goal.invariant-loop-h
invariant-loop-h l = Gathering l.cap l.work l.stages l.initial.roots l.roots l.k l.h
