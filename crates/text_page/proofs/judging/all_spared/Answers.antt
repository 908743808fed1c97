use native.Mathlib.Omega.{arith}
use mathlib.Core.Path.{◌≡◌, sym, ap, ◌∙◌}
use Rattle.model_progress.specs.GivenFlags.{site_as}
use Rattle.value_walk.specs.State.{asked}
use Rattle.text_listing.proofs.Every.{every, every_none, every_true, every_false}
use Rattle.text_page.specs.Stages.{spared}
use Rattle.text_page.proofs.Read.{spared_not, spared_yes}
use Rattle.text_page.proofs.judging.all_spared.Goals as goal

pub loop-h-init : goal.loop-h-init
loop-h-init c = (omega arith, every_none (spared (site_as c.args.site) c.args.nodes.now c.args.stages.now (asked c.args.q) c.args.number))

pub returns-then-v-number : goal.returns-then-v-number
returns-then-v-number c = let a = c.args in
    let p = spared (site_as a.site) a.nodes.now a.stages.now (asked a.q) a.number in
    sym (every_false p c.loop-h.h a.last c.loop-h-test.true
    (spared_not (site_as a.site) a.nodes.now a.stages.now (asked a.q) a.number c.loop-h.h c.value_after-v.ensures
    c.if-v-number.true))

pub loop-h-preserved : goal.loop-h-preserved
loop-h-preserved c = let a = c.args in
    let p = spared (site_as a.site) a.nodes.now a.stages.now (asked a.q) a.number in (
      omega (arith, c.loop-h-test.true),
      every_true p c.loop-h.h c.loop-h.invariant.1
          (spared_yes (site_as a.site) a.nodes.now a.stages.now (asked a.q) a.number c.loop-h.h c.value_after-v.ensures
          c.if-v-number.false),
    )

pub returns : goal.returns
returns c = let a = c.args in
    let e : c.loop-h.h ≡ a.last = omega (arith, c.loop-h-test.false, c.loop-h.invariant.0) in
    sym c.loop-h.invariant.1 ∙ ap (every (spared (site_as a.site) a.nodes.now a.stages.now (asked a.q) a.number)) e
