use mathlib.Core.Path.{◌≡◌, sym, ap, ap₂, ◌∙◌}
use Prim.Native.Nat.{ℕ, suc, ◌+◌}
use native.Mathlib.Omega.{arith}
use borrow.Author.Tests.{eq-eqb, ne_eqb}
use Rattle.theory.specs.Diagram.{zeros}
use Rattle.theory.specs.Command.{signed_from}
use Rattle.model_progress.proofs.Numbers.{zero_from, zero_turn, zero_past}
use Rattle.model_progress.proofs.operands.zeros.Goals as goal

pub loop-i-init : goal.loop-i-init
loop-i-init c = ap₂ (λ (k m : ℕ). zeros (signed_from c.args.model.now k m)) (omega arith) (omega arith)

pub word-requires : goal.word-requires
word-requires c = omega (arith, c.requires, c.loop-i-test.true)

pub returns-then-word-ne0 : goal.returns-then-word-ne0
returns-then-word-ne0 c = let t = zero_turn c.args.model.now c.args.from c.args.n c.loop-i.i c.loop-i-test.true in
    let p = ne_eqb _ _ (λ z. c.if-word-ne0.true (c.word.ensures ∙ z)) in
    sym (rw p at t) ∙ c.loop-i.invariant

pub loop-i-preserved : goal.loop-i-preserved
loop-i-preserved c = let t = zero_turn c.args.model.now c.args.from c.args.n c.loop-i.i c.loop-i-test.true in
    let p = eq-eqb _ _ (sym c.word.ensures ∙ c.if-word-ne0.false) in
    let e : c.loop-i.i + 1 ≡ suc c.loop-i.i = omega arith in
    ap (zero_from c.args.model.now c.args.from c.args.n) e ∙ sym (rw p at t) ∙ c.loop-i.invariant

pub returns : goal.returns
returns c = sym (zero_past c.args.model.now c.args.from c.args.n c.loop-i.i (omega (arith, c.loop-i-test.false))) ∙ c.loop-i.invariant
