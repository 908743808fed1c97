use native.Mathlib.Omega.{arith}
use mathlib.Core.Path.{◌≡◌, sym, ap, ◌∙◌}
use Rattle.theory.specs.Value.{good_row}
use Rattle.text_listing.proofs.Every.{every, every_none, every_true, every_false}
use Rattle.text_listing.proofs.Judged.{outside_last}
use Rattle.text_listing.proofs.judging.all_good.Goals as goal

pub returns-then-nodes-last : goal.returns-then-nodes-last
returns-then-nodes-last c = let a = c.args in
    outside_last a.conditions a.actions a.nodes.now a.last c.if-nodes-last.true

pub loop-r-init : goal.loop-r-init
loop-r-init c = let a = c.args in
    (omega arith, every_none (good_row a.conditions a.actions a.nodes.now))

pub loop-r-preserved : goal.loop-r-preserved
loop-r-preserved c = let a = c.args in
    let l = c.loop-r in
    let p = good_row a.conditions a.actions a.nodes.now in
    (omega (arith, c.loop-r-test.true), every_true p l.r l.invariant.1 (sym c.good.ensures ∙ c.if-not-good.false))

pub returns-then-not-good : goal.returns-then-not-good
returns-then-not-good c = let a = c.args in
    let l = c.loop-r in
    let p = good_row a.conditions a.actions a.nodes.now in
    sym (every_false p l.r a.last c.loop-r-test.true (sym c.good.ensures ∙ c.if-not-good.true))

pub returns : goal.returns
returns c = let a = c.args in
    let l = c.loop-r in
    let e : l.r ≡ a.last = omega (arith, c.loop-r-test.false, l.invariant.0) in
    sym l.invariant.1 ∙ ap (every (good_row a.conditions a.actions a.nodes.now)) e
