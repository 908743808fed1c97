use mathlib.Core.Path.{◌≡◌, sym, ap, ◌∙◌}
use Prim.Native.Nat.{ℕ, ◌+◌, ◌-◌, ◌<◌}
use lib.ListN.{length, take, drop}
use native.Mathlib.Omega.{arith}
use borrow.Author.Rules.{rules}
use Rattle.theory.specs.Valid.{all}
use Rattle.theory.specs.Verdict.{printable}
use Rattle.model_progress.proofs.Runs.{part_turn, part_over}
use Rattle.model_progress.proofs.operands.text.Goals as goal

pub loop-at-init : goal.loop-at-init
loop-at-init c = let e : 16 - (c.args.from - c.args.from) ≡ 16 = omega arith in ap (λ (k : ℕ). all printable (take k (drop c.args.from c.args.model.now))) e

pub returns-then-not-printable : goal.returns-then-not-printable
returns-then-not-printable c = let h : c.loop-at.at < length c.args.model.now = search rules in
    let t = part_turn printable c.args.model.now c.loop-at.at (16 - (c.loop-at.at - c.args.from)) h (search rules) in
    let p = sym c.printable.ensures ∙ c.if-not-printable.true in
    sym (rw p at t) ∙ c.loop-at.invariant

pub loop-at-preserved : goal.loop-at-preserved
loop-at-preserved c = let h : c.loop-at.at < length c.args.model.now = search rules in
    let t = part_turn printable c.args.model.now c.loop-at.at (16 - (c.loop-at.at - c.args.from)) h (search rules) in
    let p = sym c.printable.ensures ∙ c.if-not-printable.false in
    let e : 16 - (c.loop-at.at + 1 - c.args.from) ≡ 16 - (c.loop-at.at - c.args.from) - 1 = omega (arith, c.loop-at.auto.at) in
    ap (λ (k : ℕ). all printable (take k (drop (c.loop-at.at + 1) c.args.model.now))) e ∙ sym (rw p at t) ∙ c.loop-at.invariant

pub returns : goal.returns
returns c = let m : length c.args.model.now < 18446744073709551616 = search rules in
    sym (part_over printable c.args.model.now c.loop-at.at (16 - (c.loop-at.at - c.args.from)) (search rules)) ∙ c.loop-at.invariant
