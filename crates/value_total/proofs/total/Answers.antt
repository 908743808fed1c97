-- `value_total::total` meets its contract: the refusals come in the order of `total_of`, one law for each; that the first value was read tells that W
-- is 1 or more and the steps are few, as `both_read` requires (`scale_fits`).
use Rattle.value_walk.specs.State.{asked}
use Rattle.value_total.proofs.Joins.{scale_fits, first_stops, second_stops, scale_stops, both_stops}
use Rattle.value_total.proofs.total.Goals as goal

pub returns-then-v-ne0 : goal.returns-then-v-ne0
returns-then-v-ne0 c = let a = c.args in
    first_stops a.bytes.now a.nodes.now a.stages.now (asked a.q.first) a.bytes2.now a.nodes2.now a.stages2.now (asked a.q.second)
    a.q.steps c.value-v.ensures c.if-v-ne0.true c.refused.ensures

pub returns-then-w-ne0 : goal.returns-then-w-ne0
returns-then-w-ne0 c = let a = c.args in
    second_stops a.bytes.now a.nodes.now a.stages.now (asked a.q.first) a.bytes2.now a.nodes2.now a.stages2.now (asked a.q.second)
    a.q.steps c.value-v.ensures c.if-v-ne0.false c.value-w.ensures c.if-w-ne0.true c.refused-then-w-ne0.ensures

pub returns-then-not-same_scale : goal.returns-then-not-same_scale
returns-then-not-same_scale c = let a = c.args in
    scale_stops a.bytes.now a.nodes.now a.stages.now (asked a.q.first) a.bytes2.now a.nodes2.now a.stages2.now (asked a.q.second)
    a.q.steps c.value-v.ensures c.if-v-ne0.false c.value-w.ensures c.if-w-ne0.false c.site-s.ensures c.site-r.ensures
    c.same_scale.ensures c.if-not-same_scale.true c.refused-then-not-same_scale.ensures

pub both_read-requires : goal.both_read-requires
both_read-requires c = let a = c.args in
    scale_fits a.bytes.now a.nodes.now a.stages.now a.q.steps (asked a.q.first) c.value-v.ensures c.if-v-ne0.false c.site-s.ensures

pub returns : goal.returns
returns c = let a = c.args in
    both_stops a.bytes.now a.nodes.now a.stages.now (asked a.q.first) a.bytes2.now a.nodes2.now a.stages2.now (asked a.q.second)
    a.q.steps c.value-v.ensures c.if-v-ne0.false c.value-w.ensures c.if-w-ne0.false c.site-s.ensures c.site-r.ensures
    c.same_scale.ensures c.if-not-same_scale.false c.both_read.ensures
