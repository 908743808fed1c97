use Prim.Native.Nat.{ℕ}
use native.Mathlib.Omega.{arith}
use borrow.Author.Rules.{rules}
use mathlib.Core.Path.{◌≡◌, ap, ◌∙◌}
use Rattle.theory.specs.Listing.{greatest_root}
use Rattle.text_listing.proofs.Judged.{root_none, root_more}
use Rattle.text_listing.proofs.judging.greatest_root.Goals as goal

pub loop-h-init : goal.loop-h-init
loop-h-init c = (omega arith, root_none c.args.stages.now)

pub loop-h-preserved : goal.loop-h-preserved
loop-h-preserved c = let a = c.args in
    let l = c.loop-h in
    (omega (arith, c.loop-h-test.true), search (rules, root_more a.stages.now l.h l.root l.invariant.1))

pub returns : goal.returns
returns c = let a = c.args in
    let l = c.loop-h in
    let e : l.h ≡ a.last = omega (arith, c.loop-h-test.false, l.invariant.0) in
    l.invariant.1 ∙ ap (λ (k : ℕ). greatest_root k a.stages.now) e
