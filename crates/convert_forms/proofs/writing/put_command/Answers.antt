-- `convert_forms::writing::put_command` meets its contract: a layout has few bytes (`few_as`), so the offsets fit, and its parts are as long as the
-- converted command (`parts_long`), so they have room; the byte and the three parts, put in turn, are that command (`command_put`).
use mathlib.Core.Path.{◌≡◌, ◌∙◌}
use Prim.Native.Nat.{◌+◌, ◌≤◌, ◌<◌}
use native.Mathlib.Omega.{arith}
use lib.ListN.{length, set, length-set}
use Rattle.model_form.specs.Forms.{form_of}
use Rattle.convert_forms.specs.Forms.{copied}
use Rattle.convert_forms.specs.OperandLayouts.{layout_as}
use Rattle.convert_forms.proofs.Operands.{Few, few_as, fitted_length}
use Rattle.convert_forms.proofs.CommandParts.{parts_long, command_put}
use Rattle.convert_forms.proofs.writing.put_command.Goals as goal
use Rattle.convert_forms.proofs.writing.put_command.Goals.{After-layout_in-x, After-layout_in-y, After-put_fitted-n, After-put_fitted-k}

few : (p : After-layout_in-x) → Few (layout_as p.layout_in-x.result)
few p = few_as _ _ p.layout_in-x.result p.layout_in-x.ensures

-- an offset behind the part that differs: at most 65 above a model's offset
few_behind : (p : After-layout_in-x) → p.args.at + (1 + p.layout_in-x.result.before + p.layout_in-x.result.differing) < 4294967296 + 65
few_behind p = omega (arith, (few p).before, (few p).differing, p.requires.1)

-- the parts have room
room : (p : After-layout_in-y) → p.args.next + (1 + (p.layout_in-x.result.before + (p.layout_in-y.result.differing + p.layout_in-x.result.behind))) ≤ length p.args.out.now
room p =
    omega (
      arith,
      p.requires.0,
      parts_long (form_of p.args.from) (form_of p.args.to) p.args.model.now p.args.at p.byte_at-op.result
          p.byte_in-code.result p.layout_in-x.result p.layout_in-y.result p.byte_at-op.ensures p.byte_in-code.ensures p.layout_in-x.ensures p.layout_in-y.ensures,
    )

-- the buffer with the byte put
put_long : (p : After-layout_in-y) → length (set p.args.out.now p.args.next p.byte_in-code.result) ≡ length p.args.out.now
put_long p = length-set p.args.out.now p.args.next p.byte_in-code.result

-- where the first part ends, and the second
first_put : (p : After-put_fitted-n) → (p.put_fitted-n.result ≡ p.args.next + 1 + p.layout_in-x.result.before) × (length p.put_fitted-n.new.out ≡ length p.args.out.now)
first_put p =
    let x = p.layout_in-x.result in (
      omega (arith, p.put_fitted-n.ensures.behind, fitted_length x.before (copied p.args.model.now (p.args.at + 1) x.before)),
      p.put_fitted-n.auto.out ∙ length-set p.args.out.now p.args.next p.byte_in-code.result,
    )

second_put : (p : After-put_fitted-k)
    → (p.put_fitted-k.result ≡ p.put_fitted-n.result + p.layout_in-y.result.differing) × (length p.put_fitted-k.new.out ≡ length p.args.out.now)
second_put p =
    let x = p.layout_in-x.result in
    let f = fitted_length p.layout_in-y.result.differing (copied p.args.model.now (p.args.at + (1 + x.before)) x.differing) in
    (omega (arith, p.put_fitted-k.ensures.behind, f), p.put_fitted-k.auto.out ∙ p.put_fitted-n.auto.out ∙ length-set p.args.out.now p.args.next p.byte_in-code.result)

pub put_fitted-n-requires : goal.put_fitted-n-requires
put_fitted-n-requires c = let p = goal.at.put_fitted-n-requires c in
    (omega (arith, room p.After-layout_in-y, put_long p.After-layout_in-y), omega (arith, (few p.After-layout_in-x).before, c.requires.1))

pub put_fitted-k-requires : goal.put_fitted-k-requires
put_fitted-k-requires c = let p = goal.at.put_fitted-k-requires c in
    (omega (arith, room p.After-layout_in-y, (first_put p.After-put_fitted-n).0, (first_put p.After-put_fitted-n).1), omega (arith, few_behind p.After-layout_in-x))

pub put_fitted-requires : goal.put_fitted-requires
put_fitted-requires c = let p = goal.at.put_fitted-requires c in (
  omega (arith, room p.After-layout_in-y, (first_put p.After-put_fitted-n).0, (second_put p.After-put_fitted-k).0, (second_put p.After-put_fitted-k).1),
  omega (arith, few_behind p.After-layout_in-x, (few p.After-layout_in-x).behind),
)

pub shape_of-out : goal.shape_of-out
shape_of-out c = c.put_fitted.auto.out ∙ (second_put (goal.at.shape_of-out c).After-put_fitted-k).1

pub returns : goal.returns
returns c = let p = goal.at.returns c in
    let m = room p.After-layout_in-y in let n = first_put p.After-put_fitted-n in let k = second_put p.After-put_fitted-k in
    command_put (form_of c.args.from) (form_of c.args.to) c.args.model.now c.args.at c.byte_at-op.result c.byte_in-code.result c.layout_in-x.result
    c.layout_in-y.result c.byte_at-op.ensures c.byte_in-code.ensures c.layout_in-x.ensures c.layout_in-y.ensures
    (omega (arith, m)) n.1 (omega (arith, m, n.0)) k.1 (omega (arith, m, n.0, k.0))
    c.put_fitted-n.ensures c.put_fitted-k.ensures c.put_fitted.ensures

pub overflow_add-differing : goal.overflow_add-differing
overflow_add-differing c = omega (arith, few_behind (goal.at.overflow_add-differing c).After-layout_in-x)

pub overflow_add-differing-2 : goal.overflow_add-differing-2
overflow_add-differing-2 c = omega (arith, few_behind (goal.at.overflow_add-differing-2 c).After-layout_in-x)

pub overflow_add-behind : goal.overflow_add-behind
overflow_add-behind c = omega (arith, few_behind (goal.at.overflow_add-behind c).After-layout_in-x)

pub overflow_add-behind-2 : goal.overflow_add-behind-2
overflow_add-behind-2 c = omega (arith, few_behind (goal.at.overflow_add-behind-2 c).After-layout_in-x)

pub overflow_add-behind-3 : goal.overflow_add-behind-3
overflow_add-behind-3 c = omega (arith, few_behind (goal.at.overflow_add-behind-3 c).After-layout_in-x)

pub bounds-out-next : goal.bounds-out-next
bounds-out-next c = omega (arith, room (goal.at.bounds-out-next c).After-layout_in-y)
