-- `table_unique::find_or_make` meets its contract: the node is there, or the table is full, or it is appended as its bucket's new head, with the old head as its link (`chained_new`).
use Rattle.std.proofs.Common.{length, refl, ap, ◌∙◌, arith, length-set}
use Rattle.table.proofs.Store.{put_length}
use Rattle.table.proofs.Look.{intern_old, intern_new, intern_full}
use Rattle.table_unique.proofs.Chain.{chained_new, chained_as, frame}
use Rattle.table_unique.proofs.find_or_make.Goals as goal

pub returns-then-at-count : goal.returns-then-at-count
returns-then-at-count c = let w = intern_old c.args.cap c.args.nodes.now c.args.count c.args.x _ c.find-at.ensures c.if-at-count.true in
    record { answer = w.0; nodes = w.1; chained = c.requires; beyond = λ j q. refl; nodes_length = refl; work_length = refl }

pub bounds-work-b : goal.bounds-work-b
bounds-work-b c = let q = c.requires.space.works in omega (arith, c.hash-b.ensures.1)

pub returns : goal.returns
returns c = let w = intern_new c.args.cap c.args.nodes.now c.args.count c.args.x _ c.find-at.ensures c.if-at-count.false c.if-count-cap.false in
    let n = chained_new c.requires c.args.x c.well_formed.1.1.1.1.0.1.1.1.0.1.0.1 _ c.find-at.ensures c.if-at-count.false
    c.if-count-cap.false _ c.hash-b.ensures.0 c.hash-b.ensures.1 in
    record {
      answer = w.0;
      nodes = c.put.ensures ∙ w.1;
      chained = chained_as c.put.ensures n;
      beyond = frame c.args.work.now c.args.cap c.args.count _ _ _ c.if-count-cap.false c.hash-b.ensures.1;
      nodes_length = ap length c.put.ensures ∙ put_length _ _ _;
      work_length = simp length-set;
    }

pub returns-then-count-cap : goal.returns-then-count-cap
returns-then-count-cap c = let w = intern_full c.args.cap c.args.nodes.now c.args.count c.args.x _ c.find-at.ensures c.if-at-count.false c.if-count-cap.true in
    record { answer = w.0; nodes = w.1; chained = c.requires; beyond = λ j q. refl; nodes_length = refl; work_length = refl }
