-- `prune_tables::tables_anew` meets its contract: after the rows are made anew the stage words are rows that have gone
-- somewhere (`standing`), so their roots can be gathered; the table with those roots is what `finish` requires (`to_finish`),
-- and its numbers, spread over the stages, are the whole (`all_anew`).
use mathlib.Core.Path.{refl, sym}
use native.Mathlib.Omega.{arith}
use lib.Seq.{length-take-le}
use Rattle.prune_tables.proofs.Whole.{standing, to_finish, all_anew}
use Rattle.prune_tables.proofs.tables_anew.Goals as goal

pub gather_roots-k-requires : goal.gather_roots-k-requires
gather_roots-k-requires c = let r = c.remake-count.ensures in
    standing c.requires r.0 r.1 r.2

pub slice_bounds-finish-end : goal.slice_bounds-finish-end
slice_bounds-finish-end c = let g = c.gather_roots-k in
    sym (length-take-le g.result g.new.roots (omega (arith, g.ensures.few, g.auto.roots, c.requires.eight)))

pub finish-requires : goal.finish-requires
finish-requires c = let r = c.remake-count.ensures in
    to_finish c.requires r.0 r.1 r.2 c.gather_roots-k.ensures refl

pub returns : goal.returns
returns c = let r = c.remake-count.ensures in
    all_anew c.requires r.0 r.1 r.2 c.gather_roots-k.ensures c.finish.ensures c.spread_numbers.ensures
