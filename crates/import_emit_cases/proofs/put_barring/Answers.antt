-- `import_emit_cases::put_barring` meets its contract.
use native.Mathlib.Omega.{arith}
use Rattle.import_write.proofs.Laws.{forbidden_length}
use Rattle.import_emit_cases.proofs.Putting.{put_one, no_room}
use Rattle.import_emit_cases.proofs.put_barring.Goals as goal

pub returns-then-out-at : goal.returns-then-out-at
returns-then-out-at c = no_room _ _ 1 _ forbidden_length c.requires (omega (arith, c.if-out-at.true, c.requires)) _

pub put_forbidden-requires : goal.put_forbidden-requires
put_forbidden-requires c = omega (arith, forbidden_length, c.if-out-at.false, c.requires)

pub returns : goal.returns
returns c = put_one _ _ 1 _ forbidden_length _ _ (omega arith) (omega (arith, c.if-out-at.false, c.requires)) c.put_forbidden.ensures
