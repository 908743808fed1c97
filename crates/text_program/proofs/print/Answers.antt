-- `text_program::print` meets its contract: one law for each way out: a refusal of `solve` or of the listing is printed as its line
-- (`refused_printed`, `listing_refused_printed`), and else the listing is what stands in the text (`listing_printed`).
use mathlib.Core.Path.{◌∙◌}
use native.Mathlib.Omega.{arith}
use lib.ListN.{length}
use Rattle.text_program.proofs.Prints.{refused_printed, listing_refused_printed, listing_printed}
use Rattle.text_program.proofs.print.Goals as goal

pub returns-then-s-ne0 : goal.returns-then-s-ne0
returns-then-s-ne0 c = let a = c.args in
    let v = c.solve-s in
    let p = c.refusal in (
      p.ensures.0,
      p.ensures.1 ∙ refused_printed a.model.now a.horizon a.nodes.now a.stages.now a.work.now a.peaks.now
          (length a.text.now) {k = v.result.number} {q = v.result.place} {peak = v.result.peak} {l = v.new.nodes} {s = v.new.stages}
          {w = v.new.work} {m = v.new.peaks} v.ensures c.if-s-ne0.true,
    )

pub returns-then-r-ne0 : goal.returns-then-r-ne0
returns-then-r-ne0 c = let a = c.args in
    let v = c.solve-s in
    let o = c.listing-r in
    let p = c.refusal-then-r-ne0 in (
      omega (arith, p.ensures.0, o.auto.text),
      p.ensures.1 ∙ listing_refused_printed a.model.now a.horizon a.nodes.now a.stages.now
          a.work.now a.peaks.now a.text.now {k = v.result.number} {q = v.result.place} {peak = v.result.peak} {l = v.new.nodes}
          {s = v.new.stages} {w = v.new.work} {m = v.new.peaks} v.ensures
          c.if-s-ne0.false {n = o.result.number} {p = o.result.place} {size = o.result.size} {after = o.new.text} o.ensures c.if-r-ne0.true,
    )

pub returns : goal.returns
returns c = let a = c.args in
    let v = c.solve-s in
    let o = c.listing-r in
    listing_printed a.model.now a.horizon a.nodes.now a.stages.now a.work.now a.peaks.now
    a.text.now {k = v.result.number} {q = v.result.place} {peak = v.result.peak} {l = v.new.nodes} {s = v.new.stages}
    {w = v.new.work} {m = v.new.peaks} v.ensures
    c.if-s-ne0.false {n = o.result.number} {p = o.result.place} {size = o.result.size} {after = o.new.text} o.ensures c.if-r-ne0.false
