use mathlib.Core.Path.{refl, sym, ◌∙◌, subst}
use native.Mathlib.Omega.{arith}
use lib.IntN.{pos}
use lib.ListN.{get_or}
use borrow.Author.Tests.{leb-true}
use Rattle.whole.specs.Within.{Small}
use Rattle.whole.proofs.Products.{one_added, product_fits, sum_fits}
use Rattle.theory.specs.Widths.{levels_most}
use Rattle.model_command.proofs.Signed.{signed_small}
use Rattle.plain_pass.proofs.Sums.{listed_long, listed_at, flat_added, sum_is}
use Rattle.plain_leaf.proofs.numerators.short_at.Goals as goal

pub overflow_mul-sum : goal.overflow_mul-sum
overflow_mul-sum c = rw c.from.ensures (product_fits c.number-a.result (get_or c.args.x.now.n c.loop-i.i (pos 0)) (subst Small (sym c.number-a.ensures) (signed_small _))
    (record { sfits = omega arith }) refl refl (leb-true _ _ (sym c.few.ensures ∙ c.if-not-few.false)))

pub overflow_add-sum : goal.overflow_add-sum
overflow_add-sum c = let f = c.requires.1.few in let h = c.loop-i-test.true in
    rw c.from.ensures (sum_fits c.number-a.result (get_or c.args.x.now.n c.loop-i.i (pos 0)) (subst Small (sym c.number-a.ensures) (signed_small _))
    (record { sfits = omega arith }) refl refl (leb-true _ _ (sym c.few.ensures ∙ c.if-not-few.false)) c.loop-i.invariant (omega arith))

pub loop-i-preserved : goal.loop-i-preserved
loop-i-preserved c = let f = c.requires.1.few in let h = c.loop-i-test.true in
    rw c.from.ensures (one_added c.number-a.result (get_or c.args.x.now.n c.loop-i.i (pos 0)) (subst Small (sym c.number-a.ensures) (signed_small _))
    (record { sfits = omega arith }) refl refl (leb-true _ _ (sym c.few.ensures ∙ c.if-not-few.false)) c.loop-i.invariant (omega arith) (listed_long _ _) (omega arith)
    (c.number-a.ensures ∙ sym (listed_at c.args.model.now c.args.at c.loop-i.i (omega arith))) refl)

pub overflow_mul-result : goal.overflow_mul-result
overflow_mul-result c = rw c.from-2.ensures (product_fits c.number-c.result (get_or c.args.x.now.n levels_most (pos 0)) (subst Small (sym c.number-c.ensures) (signed_small _))
    (record { sfits = omega arith }) refl refl (leb-true _ _ (sym c.few-2.ensures ∙ c.if-not-few-2.false)))

pub overflow_add-result : goal.overflow_add-result
overflow_add-result c = let f = c.requires.1.few in rw c.from-2.ensures (sum_fits c.number-c.result (get_or c.args.x.now.n levels_most (pos 0)) (subst Small (sym c.number-c.ensures) (signed_small _))
    (record { sfits = omega arith }) refl refl (leb-true _ _ (sym c.few-2.ensures ∙ c.if-not-few-2.false))
    (flat_added _ c.args.x.now (listed_long _ _) (omega arith) c.requires.1 (omega arith) (omega arith) c.loop-i.invariant) (omega arith))

pub returns : goal.returns
returns c = let f = c.requires.1.few in rw c.from-2.ensures (sum_is c.args.model.now c.args.at c.args.x.now (omega arith)
    (one_added c.number-c.result (get_or c.args.x.now.n levels_most (pos 0)) (subst Small (sym c.number-c.ensures) (signed_small _))
    (record { sfits = omega arith }) refl refl (leb-true _ _ (sym c.few-2.ensures ∙ c.if-not-few-2.false))
    (flat_added _ c.args.x.now (listed_long _ _) (omega arith) c.requires.1 (omega arith) (omega arith) c.loop-i.invariant) (omega arith) (listed_long _ _) (omega arith)
    (c.number-c.ensures ∙ sym (listed_at c.args.model.now c.args.at levels_most (omega arith))) refl))
