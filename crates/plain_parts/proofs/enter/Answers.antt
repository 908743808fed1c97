-- `plain_parts::enter` meets its contract.
use Rattle.plain_pass.proofs.Places.{put_beyond, put_new, put_old}
use Rattle.plain_parts.proofs.enter.Goals as goal
use Rattle.plain_parts.proofs.enter.Goals.{else-p-parts-via-then-p-parts+else-parts-p-eq0, else-p-parts-via-else-p-parts}

pub returns-then-parts-p-eq0 : goal.returns-then-parts-p-eq0
returns-then-parts-p-eq0 c = put_new _ _ _ c.place-p.ensures c.if-parts-p-eq0.true

pub returns-else-p-parts : goal.returns-else-p-parts
returns-else-p-parts c = elim c.else-p-parts.branch [
  | else-p-parts-via-then-p-parts+else-parts-p-eq0 w ↦ put_old _ _ _ c.place-p.ensures w.if-parts-p-eq0.false
  | else-p-parts-via-else-p-parts w ↦ put_beyond _ _ _ c.place-p.ensures w.if-p-parts.false
]
