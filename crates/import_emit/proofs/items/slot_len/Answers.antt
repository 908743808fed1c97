-- `import_emit::items::slot_len` meets its contract.
use mathlib.Core.Path.{sym}
use Rattle.import_write.proofs.Laws.{reward_length, end_worth_length, indexed_length}
use Rattle.import_emit.proofs.items.slot_len.Goals as goal

pub returns-then-kind-eq-REWARD : goal.returns-then-kind-eq-REWARD
returns-then-kind-eq-REWARD c = λ a k. sym (reward_length _ a k c.if-kind-eq-REWARD.true)

pub returns-then-kind-eq-END : goal.returns-then-kind-eq-END
returns-then-kind-eq-END c = λ a k. sym (end_worth_length _ a k c.if-kind-eq-REWARD.false c.if-kind-eq-END.true)

pub returns : goal.returns
returns c = λ a k. sym (indexed_length _ a k c.if-kind-eq-REWARD.false c.if-kind-eq-END.false)
