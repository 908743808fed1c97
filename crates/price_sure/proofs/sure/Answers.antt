-- `price_sure::sure` meets its contract: the refusals come in the order of `sure_of`; a state that is accepted stands for its point over its
-- denominator, as `worked` requires (`stands`, `over_den`), and its answer is the whole's (`settled_is`).
use Rattle.plain_worth.proofs.Entry.{passed, stands}
use Rattle.price_sure.proofs.Entry.{refused_early, refused_state, refused_change, over_den, settled_is}
use Rattle.price_sure.proofs.sure.Goals as goal

pub returns-then-early-ne0 : goal.returns-then-early-ne0
returns-then-early-ne0 c = refused_early c.args.bytes.now c.args.steps c.early-early.ensures c.args.e _ c.if-early-ne0.true c.refused.ensures

pub returns-then-not-accepted : goal.returns-then-not-accepted
returns-then-not-accepted c = refused_state c.args.bytes.now c.args.steps c.early-early.ensures c.args.e c.if-early-ne0.false c.args.q
    c.levels-m.ensures c.conditions-n.ensures c.accepted.ensures c.if-not-accepted.true c.refused-then-not-accepted.ensures

pub returns-then-e-lt0 : goal.returns-then-e-lt0
returns-then-e-lt0 c = refused_change c.args.bytes.now c.args.steps c.early-early.ensures c.args.e c.if-early-ne0.false c.args.q
    c.levels-m.ensures c.conditions-n.ensures c.accepted.ensures c.if-not-accepted.false c.ranges.e
    c.if-e-lt0.true c.refused-then-e-lt0.ensures

pub worked-requires : goal.worked-requires
worked-requires c = let h = (passed c.args.bytes.now c.args.steps c.early-early.ensures c.if-early-ne0.false).steps in (
  stands c.args.bytes.now c.args.steps c.early-early.ensures c.if-early-ne0.false c.args.q c.levels-m.ensures
      c.conditions-n.ensures c.accepted.ensures c.if-not-accepted.false c.point.ensures,
  h.0,
  h.1,
  over_den
      c.args.bytes.now c.args.steps c.early-early.ensures c.args.e c.if-early-ne0.false c.args.q c.levels-m.ensures
      c.conditions-n.ensures c.accepted.ensures c.if-not-accepted.false c.point.ensures c.denominator.ensures,
)

pub returns : goal.returns
returns c = settled_is c.args.bytes.now c.args.steps c.early-early.ensures c.args.e c.if-early-ne0.false c.args.q
    c.levels-m.ensures c.conditions-n.ensures c.accepted.ensures c.if-not-accepted.false c.ranges.e c.if-e-lt0.false
    c.point.ensures c.size.ensures c.worked.ensures
