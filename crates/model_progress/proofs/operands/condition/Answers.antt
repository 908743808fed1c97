-- `model_progress::operands::condition` meets its contract.
use mathlib.Core.Path.{sym, ap₂, ◌∙◌}
use Prim.Native.Nat.{ℕ, ◌-◌}
use native.Mathlib.Omega.{arith}
use borrow.Author.Tests.{le-ltb}
use Rattle.theory.specs.Valid.{among}
use Rattle.model_progress.proofs.Numbers.{next_low, next_high}
use Rattle.model_progress.proofs.operands.condition.Goals as goal

pub returns-then-among : goal.returns-then-among
returns-then-among c = let e = sym (ap₂ among c.from-most.ensures c.from-i.ensures) ∙ sym c.among.ensures ∙ c.if-among.true in
    rw e c.if-among.true

pub returns-then-i-gt-CONDITIONS : goal.returns-then-i-gt-CONDITIONS
returns-then-i-gt-CONDITIONS c = let e = sym (ap₂ among c.from-most.ensures c.from-i.ensures) ∙ sym c.among.ensures ∙ c.if-among.false in
    let h = c.if-i-gt-CONDITIONS.true in
    rw e (c.among-then-i-gt-CONDITIONS.ensures ∙ ap₂ (λ (n k : ℕ). among n (k - 4)) c.from-most.ensures c.from-i.ensures
    ∙ sym (next_high c.args.n c.args.k (omega (arith, c.from-i.ensures))))

pub returns-else-i-gt-CONDITIONS : goal.returns-else-i-gt-CONDITIONS
returns-else-i-gt-CONDITIONS c = let e = sym (ap₂ among c.from-most.ensures c.from-i.ensures) ∙ sym c.among.ensures ∙ c.if-among.false in
    let h = c.if-i-gt-CONDITIONS.false in
    le-ltb _ _ h ∙ sym (next_low c.args.n c.args.k (omega (arith, c.from-i.ensures)) ∙ e)
