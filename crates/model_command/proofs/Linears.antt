-- A linear's numbers, read one by one.
use mathlib.Core.Path.{◌≡◌, refl, sym, ap, ◌∙◌, subst}
use mathlib.Core.Bool.{Bool, true, false}
use mathlib.Core.List.{List}
use Prim.Native.Nat.{ℕ, zero, suc, ◌+◌, ◌*◌, ◌≤◌, ◌<◌}
use native.Mathlib.Omega.{arith}
use borrow.Author.Tests.{ltb-true, ltb-false}
use lib.Dec.{ltb}
use lib.IntN.{ℤ, pos}
use lib.ListN.{length, get_or, take, get_or-eq_default}
use lib.Seq.{get_or-take, length-take-le, ext_get_or}
use Rattle.whole.specs.Linears.{numbers, Smalls}
use Rattle.whole.specs.Within.{Small}
use Rattle.whole.proofs.Filled.{Filled}
use Rattle.theory.proofs.laws.Words.{padded_full}
use Rattle.theory.specs.Widths.{levels_most}
use Rattle.theory.specs.Command.{word_at, signed, signed_from, linear_in, linear_at}
use Rattle.model_command.specs.CursorReadings.{linear_of}
use Rattle.model_command.proofs.Signed.{signed_size}

-- number k of those from an offset on
abbrev pub number_at : List ℕ → ℕ → ℕ → ℤ
number_at B at k = signed (word_at B (at + k * 4))

pub signed_length : (B : List ℕ) (at n : ℕ) → length (signed_from B at n) ≡ n
unfolding signed_from
signed_length B at zero = refl
signed_length B at (suc n) = ap suc (signed_length B (at + 4) n)

pub signed_at : (B : List ℕ) (at n k : ℕ) → k < n → get_or (signed_from B at n) k (pos 0) ≡ number_at B at k
unfolding signed_from
signed_at B at zero k h = absurd (omega arith)
signed_at B at (suc n) zero h = ap (λ (j : ℕ). signed (word_at B j)) (omega arith)
signed_at B at (suc n) (suc k) h = signed_at B (at + 4) n k (omega arith) ∙ ap (λ (j : ℕ). signed (word_at B j)) (omega arith)

module _ (B : List ℕ) (at : ℕ) {i : ℕ} {out : List ℤ} (F : Filled numbers (number_at B at) i out) (all : numbers ≤ i) where
  small_at : (k : ℕ) → Small (get_or out k (pos 0))
  small_at k = go (ltb k numbers) refl
    where
      go : (b : Bool) → ltb k numbers ≡ b → Small (get_or out k (pos 0))
      go true e = subst Small (sym (F.each k (let h = ltb-true k numbers e in omega arith))) (record { small = omega (arith, signed_size (word_at B (at + k * 4))) })
      go false e = subst Small (sym (get_or-eq_default out (pos 0) (let w = F.long in let h = ltb-false k numbers e in omega arith))) (record { small = omega arith })

  coeffs : take levels_most out ≡ signed_from B at levels_most
  coeffs =
      let w = F.long in
      let e : length (take levels_most out) ≡ levels_most = length-take-le levels_most out (omega arith) in
      ext_get_or (pos 0) (take levels_most out) (signed_from B at levels_most) (e ∙ sym (signed_length B at levels_most))
      (λ k h. get_or-take levels_most out k (pos 0) (omega arith) ∙ (F.each k (omega arith) ∙ sym (signed_at B at levels_most k (omega arith))))

  pub linear_read : Smalls out × (linear_of out ≡ linear_at B at)
  unfolding linear_in
  linear_read = (record { long = F.long; each = small_at }, λ j. record { coeffs = (coeffs ∙ sym (padded_full levels_most _ (signed_length B at levels_most))) j; const = F.each levels_most (omega arith) j })
