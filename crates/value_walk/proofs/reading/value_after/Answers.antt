-- `value_walk::reading::value_after` meets its contract.
use Rattle.value_walk.proofs.Down.{ended}
use Rattle.value_walk.proofs.Outcome.{not_accepted, no_root, walked}
use Rattle.value_walk.proofs.reading.value_after.Goals as goal

pub returns-then-not-accepted : goal.returns-then-not-accepted
returns-then-not-accepted c = not_accepted _ _ _ _ _ _ c.accepted.ensures c.if-not-accepted.true c.refused.ensures

pub returns-then-root-eq0 : goal.returns-then-root-eq0
returns-then-root-eq0 c = no_root _ _ _ _ _ _ c.accepted.ensures c.if-not-accepted.false c.if-root-eq0.true c.refused-then-root-eq0.ensures

pub value_at-requires : goal.value_at-requires
value_at-requires c = ended _ _ _ _ _ _ c.walk.ensures

pub returns : goal.returns
returns c = walked _ _ _ _ _ _ c.accepted.ensures c.if-not-accepted.false c.if-root-eq0.false c.walk.ensures c.value_at.ensures
