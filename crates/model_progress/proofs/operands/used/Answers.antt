use mathlib.Core.Path.{◌≡◌, sym, ap, ◌∙◌}
use Prim.Native.Nat.{◌+◌, ◌-◌}
use lib.Dec.{ltb}
use native.Mathlib.Omega.{arith}
use Rattle.model_form.specs.Forms.{form_of}
use Rattle.model_progress.proofs.Numbers.{zero_from, zero_past, zero_last, zero_more, used_from}
use Rattle.model_progress.proofs.operands.used.Goals as goal

pub loop-last-init : goal.loop-last-init
loop-last-init c = zero_past c.args.model.now c.args.from c.levels-last.result c.levels-last.result (omega arith)

pub returns-then-word-ne0 : goal.returns-then-word-ne0
returns-then-word-ne0 c = let none = zero_last c.args.model.now c.args.from c.levels-last.result c.loop-last.last c.loop-last-test.true c.loop-last.auto.last
    (λ z. c.if-word-ne0.true (c.word.ensures ∙ z)) in
    let e : c.loop-last.last - 1 + 1 ≡ c.loop-last.last = omega (arith, c.loop-last-test.true) in
    λ m. ap (ltb m) e ∙ used_from c.args.model.now (form_of c.args.form) c.args.from c.levels-last.result c.loop-last.last m c.levels-last.ensures.0
    c.loop-last.invariant (λ _. none)

pub loop-last-preserved : goal.loop-last-preserved
loop-last-preserved c = zero_more c.args.model.now c.args.from c.levels-last.result c.loop-last.last c.loop-last-test.true c.loop-last.auto.last
    (sym c.word.ensures ∙ c.if-word-ne0.false) c.loop-last.invariant

pub returns : goal.returns
returns c = let z : c.loop-last.last ≡ 0 = omega (arith, c.loop-last-test.false) in
    λ m. used_from c.args.model.now (form_of c.args.form) c.args.from c.levels-last.result 0 m c.levels-last.ensures.0
    (ap (zero_from c.args.model.now c.args.from c.levels-last.result) (sym z) ∙ c.loop-last.invariant) (λ h. absurd (omega arith))
