use mathlib.Core.Bool.{true, false}
use native.Mathlib.Omega.{arith}
use Rattle.model_form.specs.Forms.{form_of}
use Rattle.convert_forms.proofs.Pass.{count_starts, count_few, count_on, count_ends, goes}
use Rattle.convert_forms.proofs.writing.model_len.Goals as goal

pub loop-at-init : goal.loop-at-init
loop-at-init c = count_starts (form_of c.args.from) (form_of c.args.to) c.args.model.now

pub overflow_add-n : goal.overflow_add-n
overflow_add-n c = omega (
  arith,
  count_few c.loop-at.invariant c.byte_at.result c.command_len-n.result c.byte_at.ensures
      c.command_len-n.ensures,
  c.loop-at.invariant.pass.inside,
  c.requires,
)

pub loop-at-smaller : goal.loop-at-smaller
loop-at-smaller c = let q = count_on c.loop-at.invariant c.byte_at.result c.command_len-n.result c.byte_at.ensures
    c.command_len-n.ensures (goes (form_of c.args.from) c.args.model.now c.loop-at.at c.command_in.result
    c.goes_on.result true c.command_in.ensures c.goes_on.ensures c.if-goes_on.true)
    c.next_after_in-at.result c.next_after_in-at.ensures in
    omega (arith, q.1, q.0.pass.inside)

pub loop-at-preserved : goal.loop-at-preserved
loop-at-preserved c = (count_on c.loop-at.invariant c.byte_at.result c.command_len-n.result c.byte_at.ensures
    c.command_len-n.ensures (goes (form_of c.args.from) c.args.model.now c.loop-at.at c.command_in.result
    c.goes_on.result true c.command_in.ensures c.goes_on.ensures c.if-goes_on.true)
    c.next_after_in-at.result c.next_after_in-at.ensures).0

pub returns-else-goes_on : goal.returns-else-goes_on
returns-else-goes_on c = count_ends c.loop-at.invariant c.byte_at.result c.command_len-n.result c.byte_at.ensures
    c.command_len-n.ensures (goes (form_of c.args.from) c.args.model.now c.loop-at.at c.command_in.result
    c.goes_on.result false c.command_in.ensures c.goes_on.ensures c.if-goes_on.false)
