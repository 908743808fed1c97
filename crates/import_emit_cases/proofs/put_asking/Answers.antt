-- `import_emit_cases::put_asking` meets its contract.
use native.Mathlib.Omega.{arith}
use Rattle.import_write.proofs.Laws.{condition_length}
use Rattle.import_emit_cases.proofs.Putting.{put_one, no_room}
use Rattle.import_emit_cases.proofs.put_asking.Goals as goal

pub returns-then-out-at-lt-CONDITION_BYTES : goal.returns-then-out-at-lt-CONDITION_BYTES
returns-then-out-at-lt-CONDITION_BYTES c = no_room _ _ 2 _ (condition_length _) c.requires (omega (arith, c.if-out-at-lt-CONDITION_BYTES.true, c.requires)) _

pub put_condition-requires : goal.put_condition-requires
put_condition-requires c = omega (arith, condition_length c.args.condition, c.if-out-at-lt-CONDITION_BYTES.false, c.requires)

pub returns : goal.returns
returns c = put_one _ _ 2 _ (condition_length _) _ _ (omega arith) (omega (arith, c.if-out-at-lt-CONDITION_BYTES.false, c.requires)) c.put_condition.ensures
