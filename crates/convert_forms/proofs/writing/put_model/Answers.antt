use mathlib.Core.Path.{◌∙◌}
use mathlib.Core.Bool.{true, false}
use native.Mathlib.Omega.{arith}
use Rattle.model_form.specs.Forms.{form_of}
use Rattle.convert_forms.proofs.Pass.{write_starts, write_room, write_on, write_ends, goes}
use Rattle.convert_forms.proofs.writing.put_model.Goals as goal

pub loop-at-init : goal.loop-at-init
loop-at-init c = write_starts (form_of c.args.from) (form_of c.args.to) c.args.model.now c.args.out.now

pub put_command-next-requires : goal.put_command-next-requires
put_command-next-requires c = (write_room c.loop-at.invariant c.requires.0, omega (arith, c.loop-at.invariant.pass.inside, c.requires.1))

pub loop-at-smaller : goal.loop-at-smaller
loop-at-smaller c = let q = write_on c.loop-at.invariant c.put_command-next.result c.put_command-next.new.out c.put_command-next.ensures
    c.put_command-next.auto.out (goes (form_of c.args.from) c.args.model.now c.loop-at.at c.command_in.result
    c.goes_on.result true c.command_in.ensures c.goes_on.ensures c.if-goes_on.true)
    c.next_after_in-at.result c.next_after_in-at.ensures in
    omega (arith, q.1, q.0.pass.inside)

pub loop-at-preserved : goal.loop-at-preserved
loop-at-preserved c = (write_on c.loop-at.invariant c.put_command-next.result c.put_command-next.new.out c.put_command-next.ensures
    c.put_command-next.auto.out (goes (form_of c.args.from) c.args.model.now c.loop-at.at c.command_in.result
    c.goes_on.result true c.command_in.ensures c.goes_on.ensures c.if-goes_on.true)
    c.next_after_in-at.result c.next_after_in-at.ensures).0

pub shape_of-out-else-goes_on : goal.shape_of-out-else-goes_on
shape_of-out-else-goes_on c = c.put_command-next.auto.out ∙ c.loop-at.invariant.long

pub returns-else-goes_on : goal.returns-else-goes_on
returns-else-goes_on c = write_ends c.loop-at.invariant c.put_command-next.result c.put_command-next.new.out c.put_command-next.ensures
    c.put_command-next.auto.out (goes (form_of c.args.from) c.args.model.now c.loop-at.at c.command_in.result
    c.goes_on.result false c.command_in.ensures c.goes_on.ensures c.if-goes_on.false)
