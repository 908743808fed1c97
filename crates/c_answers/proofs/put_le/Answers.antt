use Prim.Native.Nat.{ℕ, ◌+◌}
use mathlib.Core.Path.{◌≡◌, sym, ap, ◌∙◌}
use native.Mathlib.Omega.{arith}
use Rattle.c_answers.proofs.Bytes.{begin, begun_length, further, ended}
use Rattle.c_answers.proofs.put_le.Goals as goal

pub loop-i-init : goal.loop-i-init
loop-i-init c = begin c.args.out.now c.args.at c.args.x c.args.k

pub overflow_add-out : goal.overflow_add-out
overflow_add-out c = let f = c.loop-i.invariant.few in omega arith

pub bounds-out-at : goal.bounds-out-at
bounds-out-at c = let e = begun_length c.loop-i.invariant c.requires in omega arith

pub loop-i-preserved : goal.loop-i-preserved
loop-i-preserved c = further c.loop-i.invariant c.requires c.loop-i-test.true

pub overflow_add-result : goal.overflow_add-result
overflow_add-result c = let f = c.loop-i.invariant.few in omega (arith, c.requires)

pub shape_of-out : goal.shape_of-out
shape_of-out c = begun_length c.loop-i.invariant c.requires

pub returns : goal.returns
returns c =
    let n : c.loop-i.i ≡ c.args.k = omega (arith, c.loop-i.invariant.few, c.loop-i-test.false) in
    let p = ended c.loop-i.invariant c.requires c.loop-i-test.false in
    record { behind = ap (λ (i : ℕ). c.args.at + i) (sym n) ∙ p.behind; left = p.left }
