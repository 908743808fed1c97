-- Bytes behind bytes, or that they are longer than the room: what does not fit, does not fit with more behind it.
use mathlib.Core.Path.{◌≡◌, refl, sym, ap, ◌∙◌, subst}
use mathlib.Core.Bool.{true, false}
use mathlib.Core.List.{List, [], ◌∷◌, ◌++◌, append_assoc, append-nil}
use Prim.Native.Nat.{ℕ, ◌+◌, ◌≤◌, ◌<◌}
use native.Mathlib.Omega.{arith}
use lib.ListN.{length, take, drop, length-append}
use lib.Seq.{length-take-le}
use Rattle.theory.specs.Listing.{written}
use Rattle.theory.specs.Command.{Command}
use Rattle.text_decimal.specs.Put.{PutAt}
use Rattle.text_decimal.proofs.Puts.{then}
use Rattle.import_model.specs.Encode.{command_bytes, encode}
use Rattle.import_emit_cases.specs.Emitting.{is_full, place, PutBytes}
use Rattle.std.specs.Prelude.{Result, Ok, Err}
use Rattle.import_emit_cases.specs.declared.Full.{Full}

-- ---- encode

pub encode_append : (A B : List Command) → encode (A ++ B) ≡ encode A ++ encode B
unfolding encode
encode_append [] B = refl
encode_append (c ∷ A) B = ap (λ (l : List ℕ). command_bytes c ++ l) (encode_append A B) ∙ sym (append_assoc (command_bytes c) (encode A) (encode B))

pub encode_one : (c : Command) → encode (c ∷ []) ≡ command_bytes c
unfolding encode
encode_one c = append-nil (command_bytes c)

pub encode_more : (A : List Command) (c : Command) → encode A ++ command_bytes c ≡ encode (A ++ (c ∷ []))
encode_more A c = sym (encode_append A (c ∷ []) ∙ ap (λ (l : List ℕ). encode A ++ l) (encode_one c))

-- ---- places

-- the place behind what is written is inside
pub inside : {l l' b : List ℕ} {at n : ℕ} → at ≤ length l → PutAt l at b n l' → n ≤ length l'
unfolding written
inside {l} {l'} {b} {at} {n} h p =
    omega (arith, p.behind, ap length p.left, length-append (take at l) (b ++ drop (at + length b) l), length-append b (drop (at + length b) l), length-take-le at l h)

module _ {l l' b : List ℕ} {at : ℕ} {r : Result ℕ Full} where
  pub fits : is_full r ≡ false → PutAt l at b (place r) l' → PutBytes l at b r l'
  fits f p = record { put = λ _. p; longer = λ e. absurd (let z : ◌≡◌ {A = ℕ} 0 1 = cc in omega arith) }

  pub fits_not : is_full r ≡ true → length l < at + length b → PutBytes l at b r l'
  fits_not f h = record { put = λ e. absurd (let z : ◌≡◌ {A = ℕ} 0 1 = cc in omega arith); longer = λ _. h }

  pub put_as : {c : List ℕ} → b ≡ c → PutBytes l at b r l' → PutBytes l at c r l'
  put_as e p = subst (λ (x : List ℕ). PutBytes l at x r l') e p

  -- more behind what does not fit
  pub full_before : (c : List ℕ) → is_full r ≡ true → PutBytes l at b r l' → PutBytes l at (b ++ c) r l'
  full_before c f p = record { put = λ e. absurd (let z : ◌≡◌ {A = ℕ} 0 1 = cc in omega arith); longer = λ _. let g = p.longer f in omega (arith, g, length-append b c) }

-- bytes behind bytes that fit
pub behind : {l l₁ l₂ b c : List ℕ} {at n : ℕ} {r : Result ℕ Full} → at ≤ length l → length l₁ ≡ length l → PutAt l at b n l₁ → PutBytes l₁ n c r l₂ → PutBytes l at (b ++ c) r l₂
behind {b = b} {c = c} h s p q = record { put = λ f. then h p (q.put f); longer = λ f. let g = q.longer f in omega (arith, g, s, p.behind, length-append b c) }
