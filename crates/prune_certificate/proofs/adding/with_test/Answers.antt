-- `prune_certificate::adding::with_test` meets its contract: at a test there is a multiplier that is not negative (`Given`) and the node's number is
-- small, so the product may be added (`joined_test`); any other node adds nothing (`joined_none`).
use lib.Dec.{eqb}
use lib.IntN.{ℤ, pos, neg_ℤ}
use lib.ListN.{get_or}
use Rattle.whole.specs.Cases.{if}
use native.Mathlib.Omega.{arith}
use mathlib.Core.Path.{ap, ◌∙◌}
use Rattle.whole.proofs.Signed.{back32, back}
use Rattle.prune_certificate.proofs.Rows.{row_inside}
use Rattle.prune_certificate.proofs.Sums.{so_test, no_test, word_small, joined_test, joined_none}
use Rattle.prune_certificate.proofs.adding.with_test.Goals as goal

pub offset_bounds-ks-j : goal.offset_bounds-ks-j
offset_bounds-ks-j c = let q = c.requires.4.there (so_test c.args.nodes.now c.args.r _ c.tests.ensures c.if-tests-eq1.true) in omega arith

pub bounds-ks-j : goal.bounds-ks-j
bounds-ks-j c = c.requires.4.there (so_test c.args.nodes.now c.args.r _ c.tests.ensures c.if-tests-eq1.true)

pub word-z-requires : goal.word-z-requires
word-z-requires c = (row_inside c.requires.1, omega (arith, c.requires.3))

pub signed-requires : goal.signed-requires
signed-requires c = rw (back32 _ (record { sfits = c.k-1.given })) (c.requires.4.sign (so_test c.args.nodes.now c.args.r _ c.tests.ensures c.if-tests-eq1.true))

pub product-requires : goal.product-requires
product-requires c = rw (back _ (record { sfits = c.word-z.type_inv }), c.word-z.ensures)
    (word_small c.args.nodes.now c.args.r c.args.w c.requires.1 c.requires.2 c.requires.3
    (so_test c.args.nodes.now c.args.r _ c.tests.ensures c.if-tests-eq1.true))

pub returns-then-tests-eq1 : goal.returns-then-tests-eq1
returns-then-tests-eq1 c = joined_test c.args.nodes.now c.args.r c.args.w c.args.turn _ c.args.total c.product.result c.sum.result _ _
    (so_test c.args.nodes.now c.args.r _ c.tests.ensures c.if-tests-eq1.true)
    (back _ (record { sfits = c.word-z.type_inv }) ∙ c.word-z.ensures)
    (back32 _ (record { sfits = c.signed.type_inv }) ∙ (c.signed.ensures ∙ ap (λ (k : ℤ). if (eqb c.args.turn 1) k (neg_ℤ k))
    (back32 (get_or c.args.ks.now c.args.j (pos 0)) (record { sfits = c.k-1.given })))) c.product.ensures c.sum.ensures

pub returns-else-tests-eq1 : goal.returns-else-tests-eq1
returns-else-tests-eq1 c = joined_none c.args.nodes.now c.args.r c.args.w c.args.turn _ _
    (no_test c.args.nodes.now c.args.r _ c.tests.ensures c.if-tests-eq1.false)
