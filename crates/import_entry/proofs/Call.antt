-- What the emitter answers, in the terms of the definitions.
use mathlib.Core.Path.{◌≡◌, ap, ◌∙◌}
use mathlib.Core.Bool.{true, false}
use mathlib.Core.List.{List}
use Prim.Native.Nat.{ℕ, ◌+◌, ◌≤◌}
use native.Mathlib.Omega.{arith}
use lib.ListN.{length, take, drop, length-append}
use lib.Seq.{take-append_seam}
use Rattle.theory.specs.Listing.{written}
use Rattle.import_model.specs.Import.{text_most, model_bytes, untouched, import_text}
use Rattle.import_deliver.specs.Delivered.{delivered}
use Rattle.import_deliver.proofs.laws.Passes.{too_long_model, then_the_model}
use Rattle.import_judge.specs.Sound.{SoundText}
use Rattle.std.specs.Prelude.{Result, Ok, Err}
use Rattle.import_emit_cases.specs.declared.Full.{Full}
use Rattle.import_emit_cases.specs.Emitting.{is_full, place, PutBytes}
use Rattle.import_emit.specs.Items.{ModelPut}

written_start : (out bytes : List ℕ) → take (length bytes) (written out 0 bytes) ≡ bytes
unfolding written
written_start out bytes = take-append_seam bytes (drop (0 + length bytes) out)

written_long : (out bytes : List ℕ) → length bytes ≤ length (written out 0 bytes)
unfolding written
written_long out bytes = omega (arith, length-append bytes (drop (0 + length bytes) out))

module _ (w buffer : List ℕ) (s : SoundText w) {out after : List ℕ} {r : Result ℕ Full} (m : length out ≡ text_most) (e : ModelPut w out r after) where
  abbrev B : List ℕ
  B = model_bytes s.text

  put : PutBytes out 0 B r after
  put = e.put (record { text = s.text; bytes = s.bytes; reading = s.reading; within = s.within })

  the_model : delivered B buffer ≡ import_text w buffer
  the_model = then_the_model w buffer s.bytes s.text s.reading s.within

  -- "the model's own refusals follow (10 first)"
  pub emitted_long : is_full r ≡ true → untouched buffer 10 0 ≡ import_text w buffer
  emitted_long h = too_long_model B buffer (omega (arith, m, put.longer h)) ∙ the_model

  pub emitted_fits : is_full r ≡ false → place r ≤ length after
  emitted_fits h = omega (arith, (put.put h).behind, ap (λ (l : List ℕ). length l) (put.put h).left, written_long out B)

  pub emitted_whole : is_full r ≡ false → delivered (take (place r) after) buffer ≡ import_text w buffer
  emitted_whole h =
      let n : place r ≡ length B = omega (arith, (put.put h).behind) in
      ap (λ (k : ℕ). delivered (take k after) buffer) n ∙ ap (λ (l : List ℕ). delivered (take (length B) l) buffer) (put.put h).left ∙ ap (λ (l : List ℕ). delivered l buffer) (written_start out B) ∙ the_model
