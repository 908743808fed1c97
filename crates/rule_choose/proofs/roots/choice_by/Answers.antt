-- `rule_choose::roots::choice_by` meets its contract: each answer takes the comparisons that its case depends on.
use mathlib.Core.Path.{ap}
use native.Mathlib.Omega.{arith}
use Rattle.std.specs.Ordering.{ordering_index}
use Rattle.rule_tests.proofs.Ordered.{index_of}
use Rattle.rule_choose.proofs.RootCases.{choice_high_ends, choice_after, choice_equal, choice_before, words_back, order_words_as}
use Rattle.rule_choose.proofs.roots.choice_by.Goals as goal

pub returns-then-x : goal.returns-then-x
returns-then-x c = choice_high_ends _ _ _ c.args.f c.args.g c.below_at-x.ensures c.below_at-y.ensures (words_back c.args.k _ c.ranges.k.sfits) c.if-x.true
    c.low_part.ensures

pub returns-in-Greater : goal.returns-in-Greater
returns-in-Greater c = let o = order_words_as c.args.k _ c.ranges.k.sfits _ (index_of _ c.order_to.ensures) in
    choice_after _ _ _ c.args.f c.args.g c.below_at-x.ensures c.below_at-y.ensures (words_back c.args.k _ c.ranges.k.sfits) (ordering_index c.order_to.result)
    c.if-x.false o (ap ordering_index c.in-Greater.is) c.first_root.ensures

pub returns-in-Equal : goal.returns-in-Equal
returns-in-Equal c = let o = order_words_as c.args.k _ c.ranges.k.sfits _ (index_of _ c.order_to.ensures) in
    choice_equal _ _ _ c.args.f c.args.g c.below_at-x.ensures c.below_at-y.ensures (words_back c.args.k _ c.ranges.k.sfits) (ordering_index c.order_to.result)
    c.if-x.false o (λ e. omega (arith, e, ap ordering_index c.in-Equal.is)) (ap ordering_index c.in-Equal.is) c.low_part-in-Equal.ensures

pub returns-in-Less : goal.returns-in-Less
returns-in-Less c = let o = order_words_as c.args.k _ c.ranges.k.sfits _ (index_of _ c.order_to.ensures) in
    choice_before _ _ _ c.args.f c.args.g c.below_at-x.ensures c.below_at-y.ensures (words_back c.args.k _ c.ranges.k.sfits) (ordering_index c.order_to.result)
    c.if-x.false o (λ e. omega (arith, e, ap ordering_index c.in-Less.is)) (λ e. omega (arith, e, ap ordering_index c.in-Less.is)) c.low_part-in-Less.ensures
