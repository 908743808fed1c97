-- `import_sums::closing` meets its contract: the inner frame is over, or ")" follows and pops it, or another byte or the text's end makes it over; each continues the outer run.
use Rattle.import_sums.proofs.Laws.{closes_over, closes_end, closes_odd, closes_well}
use Rattle.import_sums.proofs.closing.Goals as goal
use Rattle.import_sums.proofs.closing.Goals.{else-n-text-via-then-n-text+else-text-n-eq41, else-n-text-via-else-n-text}

pub returns-then-inner : goal.returns-then-inner
returns-then-inner c = closes_over _ _ _ c.requires.0 _ c.requires.1.0 c.requires.1.1.0 c.requires.1.1.1 c.if-inner.true

pub returns-then-text-n-eq41 : goal.returns-then-text-n-eq41
returns-then-text-n-eq41 c = closes_well _ _ _ c.requires.0 _ c.requires.1.0 c.requires.1.1.0 c.requires.1.1.1 c.if-inner.false c.if-n-text.true c.if-text-n-eq41.true c.popped.ensures

pub returns : goal.returns
returns c = elim c.else-n-text.branch [
  | else-n-text-via-then-n-text+else-text-n-eq41 w ↦ closes_odd _ _ _ c.requires.0 _ c.requires.1.0 c.requires.1.1.0 c.requires.1.1.1 c.if-inner.false w.if-n-text.true w.if-text-n-eq41.false c.over.ensures
  | else-n-text-via-else-n-text w ↦ closes_end _ _ _ c.requires.0 _ c.requires.1.0 c.requires.1.1.0 c.requires.1.1.1 w.if-n-text.false c.over.ensures
]
