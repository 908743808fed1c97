-- `solve_tables::solve` meets its contract: an early verdict that refuses is the answer with all tables as they were; one that does not gives every
-- bound that `solve_in` requires (`passed`, `fitting`); a late refusal leaves all words cleared (`refused_late`).
use native.Mathlib.Omega.{arith}
use lib.ListN.{length}
use Rattle.theory.specs.Solve.{early_with_peaks}
use Rattle.solve_tables.proofs.Ends.{passed, goes_on, fitting, refused_early, stop_small, refused_late, solved_out}
use Rattle.solve_tables.proofs.solve.Goals as goal

pub returns-then-v-ne0 : goal.returns-then-v-ne0
returns-then-v-ne0 c = let a = c.args in
    refused_early a.model.now a.horizon a.nodes.now a.stages.now a.work.now a.peaks.now c.early-v.result c.early-v.ensures c.if-v-ne0.true

pub solve_in-r-requires : goal.solve_in-r-requires
solve_in-r-requires c = let a = c.args in
    let p = passed a.model.now a.horizon (length a.stages.now) (length a.peaks.now)
    (goes_on (early_with_peaks a.model.now a.horizon (length a.stages.now) (length a.peaks.now)) c.early-v.result c.early-v.ensures
    c.if-v-ne0.false) in
    let f = fitting (length a.nodes.now) (length a.work.now) c.room-cap.ensures in
    (p.1.own, p.1.bytes, p.1.most, p.1.least, f.few, f.words, f.works, p.1.eight, p.0)

pub overflow_cast-result : goal.overflow_cast-result
overflow_cast-result c = let a = c.args in
    omega (
      arith,
      stop_small a.model.now a.horizon a.nodes.now a.stages.now a.work.now a.peaks.now
          (goes_on (early_with_peaks a.model.now a.horizon (length a.stages.now) (length a.peaks.now)) c.early-v.result c.early-v.ensures
          c.if-v-ne0.false) c.room-cap.ensures c.solve_in-r.ensures c.if-r-ne0.true,
    )

pub returns-then-r-ne0 : goal.returns-then-r-ne0
returns-then-r-ne0 c = let a = c.args in
    refused_late a.model.now a.horizon a.nodes.now a.stages.now a.work.now a.peaks.now
    (goes_on (early_with_peaks a.model.now a.horizon (length a.stages.now) (length a.peaks.now)) c.early-v.result c.early-v.ensures
    c.if-v-ne0.false) c.room-cap.ensures c.solve_in-r.ensures c.if-r-ne0.true
    c.clear_all.ensures c.clear_peaks.ensures c.solve_in-r.auto.peaks c.solve_in-r.auto.nodes
    c.solve_in-r.auto.stages c.solve_in-r.auto.work

pub returns : goal.returns
returns c = let a = c.args in
    solved_out a.model.now a.horizon a.nodes.now a.stages.now a.work.now a.peaks.now
    (goes_on (early_with_peaks a.model.now a.horizon (length a.stages.now) (length a.peaks.now)) c.early-v.result c.early-v.ensures
    c.if-v-ne0.false) c.room-cap.ensures c.solve_in-r.ensures c.if-r-ne0.false
