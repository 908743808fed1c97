use mathlib.Core.Path.{refl, sym, ◌∙◌}
use Rattle.text_page_lines.proofs.ColumnDigits.{fill_starts, fill_more, column_plain, column_below}
use Rattle.text_page_lines.proofs.columns.value_column.Goals as goal

pub loop-init : goal.loop-init
loop-init c = fill_starts c.blank-out.ensures c.magnitude-n.ensures c.requires

pub loop-preserved : goal.loop-preserved
loop-preserved c = fill_more c.loop.invariant refl c.divide-q.ensures (sym c.if-not-not_zero.false ∙ c.not_zero.ensures)

pub returns-then-x : goal.returns-then-x
returns-then-x c = column_below c.args.x (fill_more c.loop.invariant refl c.divide-q.ensures c.not_zero.ensures) c.if-not-not_zero.true c.if-x.true

pub returns-else-x : goal.returns-else-x
returns-else-x c = column_plain c.args.x (fill_more c.loop.invariant refl c.divide-q.ensures c.not_zero.ensures) c.if-not-not_zero.true c.if-x.false
