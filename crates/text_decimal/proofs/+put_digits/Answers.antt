-- The answers.
use native.Mathlib.Omega.{arith}
use lib.ListN.{length}
use Rattle.theory.specs.Listing.{digits}
use Rattle.text_decimal.proofs.Puts.{put_first, put_next}
use Rattle.text_decimal.proofs.Numbers.{digits_least, digits_few, digits_more, digits_longer, digits_some}
use mathlib.Core.Path.{◌≡◌}
use mathlib.Core.List.{[], ◌∷◌}
use Prim.Native.Nat.{◌-◌, ◌+◌, ◌%◌, ◌/◌, ◌<◌}
use Rattle.text_decimal.proofs.+put_digits.Goals.{then-left-eq0-via-then-left-eq0, then-left-eq0-via-else-left-eq0+then-x-lt10}
use Rattle.text_decimal.proofs.+put_digits.Goals as goal

pub bounds-out-at : goal.bounds-out-at
bounds-out-at t c = omega (arith, c.requires, digits_some c.args.left c.args.x)

pub overflow_add-result : goal.overflow_add-result
overflow_add-result t c = omega (arith, c.requires, digits_some c.args.left c.args.x)

pub returns-then-left-eq0 : goal.returns-then-left-eq0
returns-then-left-eq0 t c =
    let a = c.args in
    let h : a.at < length a.out.now = omega (arith, c.requires, digits_some a.left a.x) in
    let e : digits a.left a.x ≡ (48 + a.x % 10) ∷ [] =
    elim c.then-left-eq0.branch [
      | then-left-eq0-via-then-left-eq0 w ↦ digits_least a.left a.x w.if-left-eq0.true
      | then-left-eq0-via-else-left-eq0+then-x-lt10 w ↦ digits_few a.left a.x w.if-x-lt10.true
    ] in
    put_first a.out.now (digits a.left a.x) a.at (48 + a.x % 10) h e

pub put_digits-n-requires : goal.put_digits-n-requires
put_digits-n-requires t c =
    let a = c.args in
    let e = digits_longer a.left a.x c.if-left-eq0.false c.if-x-lt10.false in
    (omega arith, omega (arith, c.requires, e))

pub bounds-out-n : goal.bounds-out-n
bounds-out-n t c =
    let a = c.args in
    let q = c.put_digits-n in
    let e = digits_longer a.left a.x c.if-left-eq0.false c.if-x-lt10.false in
    omega (arith, c.requires, q.ensures.behind, q.auto.out)

pub overflow_add-result-2 : goal.overflow_add-result-2
overflow_add-result-2 t c =
    let a = c.args in
    let q = c.put_digits-n in
    let e = digits_longer a.left a.x c.if-left-eq0.false c.if-x-lt10.false in
    omega (arith, c.requires, q.ensures.behind, q.auto.out)

pub returns : goal.returns
returns t c =
    let a = c.args in
    let q = c.put_digits-n in
    let e = digits_longer a.left a.x c.if-left-eq0.false c.if-x-lt10.false in
    let h : q.result < length a.out.now = omega (arith, c.requires, q.ensures.behind) in
    put_next a.out.now (digits (a.left - 1) (a.x / 10)) (digits a.left a.x) q.new.out a.at q.result (48 + a.x % 10) q.ensures h
    (digits_more a.left a.x c.if-left-eq0.false c.if-x-lt10.false)
