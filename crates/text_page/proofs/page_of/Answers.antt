-- `text_page::page_of` meets its contract: a refusal and a page that does not fit leave the buffer (`page_refused`, `page_17`); where no stage is
-- refused every line can be shown (`page_shown`), and each has 51 bytes, so the page has room (`page_room`).
use native.Mathlib.Omega.{arith}
use mathlib.Core.Path.{refl, ap, ◌∙◌}
use mathlib.Core.Logic.{inl, inr}
use lib.ListN.{length}
use Rattle.model_progress.specs.GivenFlags.{site_as}
use Rattle.value_walk.specs.State.{asked}
use Rattle.text_listing.specs.declared.Listed.{Listed}
use Rattle.text_listing.specs.Answer.{outcome}
use Rattle.text_page.proofs.Early.{passed}
use Rattle.text_page.proofs.Read.{narrow_state}
use Rattle.text_page.proofs.Outcome.{page_refused, page_17, page_room, page_shown, page_written}
use Rattle.text_page.proofs.page_of.Goals as goal

pub refusal-number-requires : goal.refusal-number-requires
refusal-number-requires c = let w = passed c.args.model.now (length c.args.stages.now) c.args.horizon c.requires.0 in omega (arith, w.most, w.eight)

pub returns-then-number-ne0 : goal.returns-then-number-ne0
returns-then-number-ne0 c = ap (λ (x : Listed). outcome x c.args.text.now) c.refused.ensures ∙ page_refused c.args.model.now (site_as c.args.site)
    c.args.horizon c.args.nodes.now c.args.stages.now (asked c.args.q) c.args.text.now c.args.place c.requires
    c.refusal-number.result c.refusal-number.ensures c.if-number-ne0.true

pub returns-then-text-place : goal.returns-then-text-place
returns-then-text-place c = let g = c.well_formed.1.1.1.1.1.0.1.1 in
    let f = narrow_state c.args.q g.1.0.0 g.1.0.1.1 in
    ap (λ (x : Listed). outcome x c.args.text.now) c.refused-then-text-place.ensures ∙ page_17 c.args.model.now (site_as c.args.site)
    c.args.horizon c.args.nodes.now c.args.stages.now (asked c.args.q) c.args.text.now c.args.place c.requires
    c.refusal-number.result c.refusal-number.ensures c.if-number-ne0.false f (inl c.if-text-place.true)

pub returns-then-text-place-2 : goal.returns-then-text-place-2
returns-then-text-place-2 c = let g = c.well_formed.1.1.1.1.1.0.1.1 in
    let f = narrow_state c.args.q g.1.0.0 g.1.0.1.1 in
    ap (λ (x : Listed). outcome x c.args.text.now) c.refused-then-text-place-2.ensures ∙ page_17 c.args.model.now (site_as c.args.site)
    c.args.horizon c.args.nodes.now c.args.stages.now (asked c.args.q) c.args.text.now c.args.place c.requires
    c.refusal-number.result c.refusal-number.ensures c.if-number-ne0.false f (inr c.if-text-place-2.true)

pub write_lines-requires : goal.write_lines-requires
write_lines-requires c = let g = c.well_formed.1.1.1.1.1.0.1.1 in
    let f = narrow_state c.args.q g.1.0.0 g.1.0.1.1 in (
      page_shown c.args.model.now (site_as c.args.site) c.args.horizon c.args.nodes.now c.args.stages.now
          (asked c.args.q) c.args.text.now c.args.place c.requires c.refusal-number.result c.refusal-number.ensures
          c.if-number-ne0.false f,
      page_room c.args.model.now (site_as c.args.site) c.args.horizon c.args.nodes.now
          c.args.stages.now (asked c.args.q) c.args.text.now c.args.place c.requires c.refusal-number.result
          c.refusal-number.ensures c.if-number-ne0.false f c.if-text-place.false c.if-text-place-2.false,
    )

pub returns : goal.returns
returns c = let g = c.well_formed.1.1.1.1.1.0.1.1 in
    let f = narrow_state c.args.q g.1.0.0 g.1.0.1.1 in
    ap (λ (x : Listed). outcome x c.write_lines.new.text) c.written.ensures
    ∙ page_written c.args.model.now (site_as c.args.site) c.args.horizon c.args.nodes.now c.args.stages.now
    (asked c.args.q) c.args.text.now c.args.place c.requires c.refusal-number.result c.refusal-number.ensures
    c.if-number-ne0.false f c.if-text-place.false c.if-text-place-2.false refl c.write_lines.ensures.left
