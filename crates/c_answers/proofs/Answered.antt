-- An answer that does not fit, and one that was written.
use mathlib.Core.Path.{◌≡◌, sym, ap, ◌∙◌}
use mathlib.Core.Bool.{Bool}
use mathlib.Core.List.{List, ◌++◌}
use Prim.Native.Nat.{ℕ, ◌+◌, ◌≤◌, ◌<◌}
use native.Mathlib.Omega.{arith}
use borrow.Author.Tests.{lt-ltb, le-ltb}
use lib.ListN.{length, drop}
use Rattle.whole.specs.Cases.{if}
use Rattle.text_decimal.specs.Put.{PutAt}
use Rattle.theory.specs.Listing.{written}
use Rattle.c_answers.specs.Answers.{short, answered, answer}

-- from the start of the slice on
pub at_start : {out bytes after : List ℕ} {n size : ℕ} → length bytes ≡ size → PutAt out 0 bytes n after → after ≡ bytes ++ drop size out
unfolding written
at_start {out} {bytes} e p =
    let f : 0 + length bytes ≡ length bytes = omega arith in
    p.left ∙ ap (λ (k : ℕ). bytes ++ drop k out) (f ∙ e)

module _ (size number : ℕ) (bytes out : List ℕ) where
  pub no_room : {r : ℕ} → length out < size → r ≡ short number → answered r out ≡ answer size number bytes out
  unfolding answer
  no_room {r} h e =
      ap (λ (k : ℕ). answered k out) e
      ∙ sym (ap (λ (b : Bool). if b (answered (short number) out) (answered number (bytes ++ drop size out))) (lt-ltb (length out) size h))

  pub room : {after : List ℕ} {n : ℕ} → size ≤ length out → length bytes ≡ size → PutAt out 0 bytes n after → answered number after ≡ answer size number bytes out
  unfolding answer
  room h e p =
      ap (answered number) (at_start e p)
      ∙ sym (ap (λ (b : Bool). if b (answered (short number) out) (answered number (bytes ++ drop size out))) (le-ltb (length out) size h))
