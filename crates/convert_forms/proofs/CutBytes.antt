-- Some bytes of the model, cut or followed by zeros to a length: written one by one.
use mathlib.Core.Path.{◌≡◌, refl, sym, ap, ◌∙◌}
use mathlib.Core.List.{List, [], ◌∷◌}
use Prim.Native.Nat.{ℕ, zero, suc, ◌+◌, ◌≤◌, ◌<◌}
use native.Mathlib.Omega.{arith}
use native.Mathlib.Numerals.{add-one}
use lib.Dec.{ltb, ltb→lt, nltb→le}
use lib.ListN.{length, set, get_or, length-set, get_or-eq_default}
use lib.Seq.{paste, paste-zero, paste-suc}
use Rattle.whole.specs.Cases.{if, by_test}
use Rattle.theory.specs.Command.{byte_at}
use Rattle.text_decimal.specs.Put.{PutAt}
use Rattle.text_decimal.proofs.Puts.{pasted}
use Rattle.convert_forms.specs.Forms.{copied, fitted}
use Rattle.convert_forms.proofs.Operands.{copied_length, fitted_length}

fitted_byte : (k : ℕ) (l : List ℕ) (j : ℕ) → j < k → get_or (fitted k l) j 0 ≡ get_or l j 0
unfolding fitted
fitted_byte zero l j h = absurd (omega arith)
fitted_byte (suc k) [] zero h = refl
fitted_byte (suc k) [] (suc j) h = fitted_byte k [] j (omega arith)
fitted_byte (suc k) (b ∷ l) zero h = refl
fitted_byte (suc k) (b ∷ l) (suc j) h = fitted_byte k l j (omega arith)

copied_byte : (B : List ℕ) (i n j : ℕ) → j < n → get_or (copied B i n) j 0 ≡ byte_at B (i + j)
unfolding copied
copied_byte B i zero j h = absurd (omega arith)
copied_byte B i (suc n) zero h = ap (byte_at B) (let e : i ≡ i + 0 = omega arith in e)
copied_byte B i (suc n) (suc j) h = copied_byte B (i + 1) n j (omega arith) ∙ ap (byte_at B) (let e : i + 1 + j ≡ i + suc j = omega arith in e)

part_byte : (B : List ℕ) (i n k j : ℕ) → j < k → get_or (fitted k (copied B i n)) j 0 ≡ if (ltb j n) (byte_at B (i + j)) 0
part_byte B i n k j h = fitted_byte k (copied B i n) j h ∙ by_test (ltb j n) (λ b. get_or (copied B i n) j 0 ≡ if b (byte_at B (i + j)) 0)
    (λ t. copied_byte B i n j (ltb→lt j n t))
    (λ t. get_or-eq_default (copied B i n) 0 (omega (arith, nltb→le j n t, copied_length B i n)))

-- j of the bytes wanted are written
pub record Filled (l : List ℕ) (at : ℕ) (B : List ℕ) (i n k j : ℕ) (after : List ℕ) : Type 0 where
  pub most : j ≤ k
  pub left : after ≡ paste l at (fitted k (copied B i n)) j
  pub long : length after ≡ length l

module _ (l : List ℕ) (at : ℕ) (B : List ℕ) (i n k : ℕ) (room : at + k ≤ length l) where
  abbrev src : List ℕ
  src = fitted k (copied B i n)

  size : length src ≡ k
  size = fitted_length k (copied B i n)

  pub fill_starts : Filled l at B i n k 0 l
  fill_starts = record { most = omega arith; left = paste-zero l at src; long = refl }

  pub fill_on : (j b : ℕ) (after : List ℕ) → Filled l at B i n k j after → j < k → b ≡ if (ltb j n) (byte_at B (i + j)) 0 → Filled l at B i n k (j + 1) (set after (at + j) b)
  fill_on j b after f h e =
      let t : j < length src = omega (arith, size) in
      record {
        most = omega arith;
        left = ap (λ (x : List ℕ). set x (at + j) b) f.left ∙ ap (λ (b : ℕ). set (paste l at src j) (at + j) b) (e ∙ sym (part_byte B i n k j h))
            ∙ paste-suc l at src j 0 (omega arith) t ∙ ap (paste l at src) (sym (add-one j));
        long = length-set after (at + j) b ∙ f.long;
      }

  pub fill_ends : (j : ℕ) (after : List ℕ) → Filled l at B i n k j after → k ≤ j → PutAt l at src (at + j) after
  fill_ends j after f h =
      let z : j ≡ length src = omega (arith, size, f.most) in
      record { behind = ap (λ (n : ℕ). at + n) z; left = f.left ∙ pasted l src at j z }
