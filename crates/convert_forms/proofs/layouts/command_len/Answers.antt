-- `convert_forms::layouts::command_len` meets its contract.
use native.Mathlib.Omega.{arith}
use Rattle.model_form.specs.Forms.{form_of}
use Rattle.convert_forms.proofs.Operands.{few_as, parts_sum}
use Rattle.convert_forms.proofs.layouts.command_len.Goals as goal

pub overflow_add-result : goal.overflow_add-result
overflow_add-result c = let x = few_as _ _ c.layout_in-x.result c.layout_in-x.ensures in
    let y = few_as _ _ c.layout_in-y.result c.layout_in-y.ensures in
    omega (arith, x.before, x.behind, y.differing)

pub overflow_add-result-2 : goal.overflow_add-result-2
overflow_add-result-2 c = let x = few_as _ _ c.layout_in-x.result c.layout_in-x.ensures in
    let y = few_as _ _ c.layout_in-y.result c.layout_in-y.ensures in
    omega (arith, x.before, x.behind, y.differing)

pub overflow_add-result-3 : goal.overflow_add-result-3
overflow_add-result-3 c = let x = few_as _ _ c.layout_in-x.result c.layout_in-x.ensures in
    let y = few_as _ _ c.layout_in-y.result c.layout_in-y.ensures in
    omega (arith, x.before, x.behind, y.differing)

pub returns : goal.returns
returns c = parts_sum (form_of c.args.from) (form_of c.args.to) c.args.op c.byte_in.result c.layout_in-x.result
    c.layout_in-y.result c.layout_in-x.ensures c.byte_in.ensures c.layout_in-y.ensures
