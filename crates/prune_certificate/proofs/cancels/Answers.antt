use Rattle.prune_certificate.proofs.Answers.{cancelling_starts, cancelling_goes, cancelling_stops, cancelling_ends, path_length}
use Rattle.prune_certificate.proofs.cancels.Goals as goal

pub loop-w-init : goal.loop-w-init
loop-w-init c = cancelling_starts _

pub added_at-requires : goal.added_at-requires
added_at-requires c = (c.requires, c.loop-w.invariant.least, c.loop-w.invariant.most)

pub returns-then-not-is_zero : goal.returns-then-not-is_zero
returns-then-not-is_zero c = cancelling_stops _ _ c.loop-w.invariant c.loop-w-test.true c.is_zero.result _ c.added_at.ensures c.is_zero.ensures c.if-not-is_zero.true

pub loop-w-preserved : goal.loop-w-preserved
loop-w-preserved c = cancelling_goes _ _ c.loop-w.invariant c.loop-w-test.true c.is_zero.result _ c.added_at.ensures c.is_zero.ensures c.if-not-is_zero.false

pub returns : goal.returns
returns c = cancelling_ends _ _ c.loop-w.invariant c.loop-w-test.false (path_length _ _ _ _ c.requires.node)
