use mathlib.Core.Path.{◌≡◌, subst}
use Prim.Native.Nat.{ℕ, ◌+◌}
use native.Mathlib.Omega.{arith}
use Rattle.text_decimal.specs.Put.{PutAt}
use Rattle.convert_forms.specs.Forms.{copied, fitted}
use Rattle.convert_forms.proofs.CutBytes.{fill_starts, fill_on, fill_ends}
use Rattle.convert_forms.proofs.writing.put_fitted.Goals as goal

pub loop-j-init : goal.loop-j-init
loop-j-init c = fill_starts c.args.out.now c.args.at c.args.model.now c.args.from
    c.args.size c.args.wanted c.requires.0

pub operand_byte-requires : goal.operand_byte-requires
operand_byte-requires c = c.requires.1

pub overflow_add-out : goal.overflow_add-out
overflow_add-out c = omega (arith, c.requires.0, c.loop-j-test.true, c.well_formed)

pub bounds-out-at : goal.bounds-out-at
bounds-out-at c = omega (arith, c.requires.0, c.loop-j-test.true, c.loop-j.invariant.long)

pub loop-j-preserved : goal.loop-j-preserved
loop-j-preserved c = fill_on c.args.out.now c.args.at c.args.model.now c.args.from c.args.size c.args.wanted c.requires.0
    c.loop-j.j c.operand_byte.result c.loop-j.out c.loop-j.invariant c.loop-j-test.true
    c.operand_byte.ensures

pub overflow_add-result : goal.overflow_add-result
overflow_add-result c = omega (arith, c.requires.0, c.well_formed)

pub shape_of-out : goal.shape_of-out
shape_of-out c = c.loop-j.invariant.long

pub returns : goal.returns
returns c = let e : c.loop-j.j ≡ c.args.wanted = omega (arith, c.loop-j.invariant.most, c.loop-j-test.false) in
    subst (λ (k : ℕ). PutAt c.args.out.now c.args.at (fitted c.args.wanted (copied c.args.model.now c.args.from c.args.size)) (c.args.at + k) c.loop-j.out) e
    (fill_ends c.args.out.now c.args.at c.args.model.now c.args.from c.args.size c.args.wanted c.requires.0
    c.loop-j.j c.loop-j.out c.loop-j.invariant c.loop-j-test.false)
