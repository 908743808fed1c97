-- A conversion's answer where `out` has no room for it: what the judging with an empty buffer gives is refused alike.
use mathlib.Core.Path.{◌≡◌, refl, sym, ap, ◌∙◌}
use mathlib.Core.Bool.{Bool, true, false, not}
use mathlib.Core.List.{List, [], ◌++◌}
use Prim.Native.Nat.{ℕ, ◌<◌}
use native.Mathlib.Omega.{arith}
use borrow.Author.Tests.{lt-ltb}
use lib.Dec.{eqb, ltb, eqb→eq}
use lib.ListN.{length}
use Rattle.whole.specs.Cases.{if, by_test}
use Rattle.theory.specs.Form.{Form}
use Rattle.theory.specs.Command.{readings_from_in, readings_in}
use Rattle.theory.specs.Verdict.{Verdict, refusal}
use Rattle.theory.specs.Listing.{ListingOut}
use Rattle.convert_forms.specs.Forms.{converted, converted_all, model_as}
use Rattle.convert_model.specs.Conversion.{own_refusal, unfit, conversion_refusal, conversion}
use Rattle.convert_model.specs.Statements.{wrote, refused_conversion}
use Rattle.c_answers.specs.Answers.{short}
use Rattle.c_answers.specs.Texts.{listed, listing_answer}
use Rattle.c_answers.proofs.Listed.{text_short}

-- 17 stands for success too
alike : (v : Verdict) (t a b : Bool)
    → short (if (not t) v (if a (refusal 20 0) (if true (refusal 17 0) (refusal 0 0)))).number ≡ short (if (not t) v (if a (refusal 20 0) (if b (refusal 17 0) (refusal 0 0)))).number
unfolding short
alike v false a b = refl
alike v true true b = refl
alike v true false true = refl
alike v true false false = refl

module _ (F G : Form) (B : List ℕ) where
  -- each command has its byte, and each model a reading
  model_some : 0 < length (model_as F G B)
  unfolding model_as readings_in readings_from_in converted_all converted
  model_some = omega arith

  refused_alike : (room : ℕ) → short (conversion_refusal F G B 0).number ≡ short (conversion_refusal F G B room).number
  unfolding conversion_refusal
  refused_alike room =
      let v = own_refusal F B in
      let size = length (model_as F G B) in
      let t = eqb v.number 0 in
      let a = unfit F G B size in
      ap (λ (b : Bool). short (if (not t) v (if a (refusal 20 0) (if b (refusal 17 0) (refusal 0 0)))).number) (lt-ltb 0 size model_some)
      ∙ alike v t a (ltb room size)

  number_is : (buffer : List ℕ) → (conversion F G B buffer).number ≡ (conversion_refusal F G B (length buffer)).number
  unfolding conversion
  number_is buffer =
      let v = conversion_refusal F G B (length buffer) in
      by_test (eqb v.number 0) (λ b. (if {A = ListingOut} b (wrote buffer (model_as F G B)) (refused_conversion buffer v.number v.place)).number ≡ v.number)
      (λ e. sym (eqb→eq v.number 0 e)) (λ _. refl)

  -- o is what the judging with an empty buffer came to
  pub conversion_short : (buffer : List ℕ) {o : ListingOut} {out : List ℕ} {r : ℕ} → length out < 8 → o ≡ conversion F G B [] → length o.buffer ≡ 0 → r ≡ short o.number
      → listed r out (o.buffer ++ buffer) ≡ listing_answer (conversion F G B buffer) buffer out
  conversion_short buffer {o} h e z s =
      text_short (conversion F G B buffer) o buffer h
      (ap (λ (w : ListingOut). short w.number) e ∙ ap short (number_is []) ∙ refused_alike (length buffer) ∙ ap short (sym (number_is buffer))) z s
