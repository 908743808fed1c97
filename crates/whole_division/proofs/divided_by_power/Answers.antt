use Rattle.std.proofs.Common.{◌≡◌, ◌^◌, ℕ, sym, ap, ◌∙◌, add-one, pow-suc, arith}
use native.Mathlib.Nat.{pow-zero}
use Rattle.whole_division.specs.Floor.{floor_by, floor_one, floor_twice}
use Rattle.whole_division.specs.Words.{whole_as}
use Rattle.whole_division.proofs.divided_by_power.Goals as goal

pub loop-init : goal.loop-init
loop-init c = sym (ap (floor_by (whole_as c.args.x)) (pow-zero c.args.w) ∙ floor_one (whole_as c.args.x))

pub divided-y-requires : goal.divided-y-requires
divided-y-requires c = c.requires

pub loop-preserved : goal.loop-preserved
loop-preserved c = let a = c.args in
    let l = c.loop in
    let z = whole_as a.x in
    c.divided-y.ensures
    ∙ ap (λ v. floor_by v a.w) l.invariant
    ∙ floor_twice z (a.w ^ l.counter) a.w
    ∙ ap (floor_by z) (sym (pow-suc a.w l.counter) ∙ ap (λ (j : ℕ). a.w ^ j) (sym (add-one l.counter)))

pub returns : goal.returns
returns c = let a = c.args in
    let l = c.loop in
    let e : l.counter ≡ a.k = omega arith in
    l.invariant ∙ ap (λ (j : ℕ). floor_by (whole_as a.x) (a.w ^ j)) e
