use native.Mathlib.Omega.{arith}
use mathlib.Core.Path.{◌≡◌, sym, ap, ◌∙◌}
use Rattle.text_listing.specs.Refusal.{rooted}
use Rattle.text_listing.proofs.Every.{every, every_none, every_true, every_false}
use Rattle.text_listing.proofs.Judged.{rooted_not, rooted_yes}
use Rattle.text_listing.proofs.judging.all_rooted.Goals as goal

pub loop-h-init : goal.loop-h-init
loop-h-init c = (omega arith, every_none (rooted c.args.stages.now))

pub returns-then-stages-h-eq0 : goal.returns-then-stages-h-eq0
returns-then-stages-h-eq0 c = let a = c.args in
    let l = c.loop-h in
    sym (every_false (rooted a.stages.now) l.h a.last c.loop-h-test.true (rooted_not a.stages.now l.h c.if-stages-h-eq0.true))

pub loop-h-preserved : goal.loop-h-preserved
loop-h-preserved c = let a = c.args in
    let l = c.loop-h in
    (omega (arith, c.loop-h-test.true), every_true (rooted a.stages.now) l.h l.invariant.1 (rooted_yes a.stages.now l.h c.if-stages-h-eq0.false))

pub returns : goal.returns
returns c = let a = c.args in
    let l = c.loop-h in
    let e : l.h ≡ a.last = omega (arith, c.loop-h-test.false, l.invariant.0) in
    sym l.invariant.1 ∙ ap (every (rooted a.stages.now)) e
