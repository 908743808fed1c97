-- `text_listing::list_plan` meets its contract: a refusal and a text that does not fit leave the buffer (`plan_refused`, `plan_17`); a plan that is
-- not refused can be written (`ready`), and a size within the room is the text's own (`fitting`).
use Prim.Native.Nat.{ℕ, ◌-◌, ◌^◌, ◌<◌}
use native.Mathlib.Omega.{arith}
use mathlib.Core.Path.{ap, ◌∙◌}
use lib.ListN.{length}
use Rattle.theory.specs.Listing.{text}
use Rattle.model_progress.specs.GivenFlags.{site_as}
use Rattle.text_listing.specs.declared.Listed.{Listed}
use Rattle.text_listing.specs.Answer.{outcome}
use Rattle.text_listing.proofs.Judged.{ready}
use Rattle.text_listing.proofs.Outcome.{too_long, fitting, plan_refused, plan_17, plan_written}
use Rattle.text_listing.proofs.list_plan.Goals as goal

pub plan_refusal-number-requires : goal.plan_refusal-number-requires
plan_refusal-number-requires c = c.requires.0

pub returns-then-number-ne0 : goal.returns-then-number-ne0
returns-then-number-ne0 c = let a = c.args in
    ap (λ (x : Listed). outcome x a.text.now) c.refused.ensures
    ∙ plan_refused (site_as a.site) a.horizon a.nodes.now a.stages.now a.text.now a.place c.plan_refusal-number.result c.plan_refusal-number.ensures c.if-number-ne0.true

pub returns-then-text-place : goal.returns-then-text-place
returns-then-text-place c = let a = c.args in
    ap (λ (x : Listed). outcome x a.text.now) c.refused-then-text-place.ensures
    ∙ plan_17 (site_as a.site) a.horizon a.nodes.now a.stages.now a.text.now a.place c.plan_refusal-number.ensures c.if-number-ne0.false (omega (arith, c.if-text-place.true))

pub greatest_root-root-requires : goal.greatest_root-root-requires
greatest_root-root-requires c = c.requires.0

pub text_len-size-requires : goal.text_len-size-requires
text_len-size-requires c = let a = c.args in
    let h : length a.text.now - a.place < 2 ^ 63 = omega arith in
    (ready (site_as a.site) a.horizon a.nodes.now a.stages.now c.plan_refusal-number.ensures c.if-number-ne0.false c.greatest_root-root.ensures c.requires.0 c.requires.1, h)

pub returns-then-room-size : goal.returns-then-room-size
returns-then-room-size c = let a = c.args in
    let n : ℕ = length (text (site_as a.site) a.horizon a.nodes.now a.stages.now) in
    ap (λ (x : Listed). outcome x a.text.now) c.refused-then-room-size.ensures
    ∙ plan_17 (site_as a.site) a.horizon a.nodes.now a.stages.now a.text.now a.place c.plan_refusal-number.ensures c.if-number-ne0.false
    (too_long (length a.text.now) a.place n c.if-text-place.false c.text_len-size.ensures c.if-room-size.true)

pub write_text-requires : goal.write_text-requires
write_text-requires c = let a = c.args in
    let n : ℕ = length (text (site_as a.site) a.horizon a.nodes.now a.stages.now) in (
      ready (site_as a.site) a.horizon a.nodes.now a.stages.now c.plan_refusal-number.ensures c.if-number-ne0.false c.greatest_root-root.ensures c.requires.0 c.requires.1,
      (fitting (length a.text.now) a.place n c.if-text-place.false c.text_len-size.ensures c.if-room-size.false).0,
    )

pub returns : goal.returns
returns c = let a = c.args in
    let n : ℕ = length (text (site_as a.site) a.horizon a.nodes.now a.stages.now) in
    let f = fitting (length a.text.now) a.place n c.if-text-place.false c.text_len-size.ensures c.if-room-size.false in
    ap (λ (x : Listed). outcome x c.write_text.new.buffer) c.written.ensures
    ∙ plan_written (site_as a.site) a.horizon a.nodes.now a.stages.now a.text.now a.place c.plan_refusal-number.ensures c.if-number-ne0.false f.0 f.1 c.write_text.ensures.left
