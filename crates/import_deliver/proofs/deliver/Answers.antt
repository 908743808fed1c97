-- `import_deliver::deliver` meets its contract.
use mathlib.Core.Path.{◌∙◌}
use native.Mathlib.Omega.{arith}
use Rattle.import_deliver.proofs.Call.{refused_as, call_own, call_17, call_0}
use Rattle.import_deliver.proofs.deliver.Goals as goal

pub returns-then-v-ne0 : goal.returns-then-v-ne0
returns-then-v-ne0 c = let a = c.args in
    refused_as c.refused.result _ _ a.buffer.now c.refused.ensures
    ∙ call_own a.model.now a.buffer.now c.own-v.result c.own-v.ensures c.if-v-ne0.true

pub returns-then-buffer-model : goal.returns-then-buffer-model
returns-then-buffer-model c = let a = c.args in
    refused_as c.refused-then-buffer-model.result _ _ a.buffer.now c.refused-then-buffer-model.ensures
    ∙ call_17 a.model.now a.buffer.now c.own-v.result c.own-v.ensures c.if-v-ne0.false c.if-buffer-model.true

pub put_bytes-n-requires : goal.put_bytes-n-requires
put_bytes-n-requires c = omega (arith, c.if-buffer-model.false)

pub returns : goal.returns
returns c = let a = c.args in
    call_0 a.model.now a.buffer.now c.own-v.result c.own-v.ensures c.if-v-ne0.false c.if-buffer-model.false c.put_bytes-n.ensures
