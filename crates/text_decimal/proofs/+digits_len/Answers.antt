-- The answers.
use native.Mathlib.Omega.{arith}
use mathlib.Core.Path.{sym, ap, ◌∙◌}
use lib.ListN.{length}
use Rattle.text_decimal.proofs.Numbers.{digits_least, digits_few, digits_longer}
use mathlib.Core.Path.{◌≡◌}
use mathlib.Core.List.{[], ◌∷◌}
use Prim.Native.Nat.{ℕ, ◌+◌, ◌%◌}
use Rattle.theory.specs.Listing.{digits}
use Rattle.text_decimal.proofs.+digits_len.Goals.{then-left-eq0-via-then-left-eq0, then-left-eq0-via-else-left-eq0+then-x-lt10}
use Rattle.text_decimal.proofs.+digits_len.Goals as goal

pub returns-then-left-eq0 : goal.returns-then-left-eq0
returns-then-left-eq0 t c =
    let e : digits c.args.left c.args.x ≡ (48 + c.args.x % 10) ∷ [] =
    elim c.then-left-eq0.branch [
      | then-left-eq0-via-then-left-eq0 w ↦ digits_least c.args.left c.args.x w.if-left-eq0.true
      | then-left-eq0-via-else-left-eq0+then-x-lt10 w ↦ digits_few c.args.left c.args.x w.if-x-lt10.true
    ] in
    (ap length (sym e), omega arith)

pub returns : goal.returns
returns t c =
    let e = digits_longer c.args.left c.args.x c.if-left-eq0.false c.if-x-lt10.false in
    (ap (λ (n : ℕ). n + 1) c.digits_len.ensures.0 ∙ sym e, omega (arith, c.digits_len.ensures.1, c.if-left-eq0.false))
