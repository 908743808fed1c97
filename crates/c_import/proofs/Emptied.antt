-- An import's answer where `out` has no room for it: what the judging with an empty buffer gives is refused alike.
use mathlib.Core.Path.{◌≡◌, refl, sym, ap, ◌∙◌}
use mathlib.Core.Bool.{Bool, true, false, not}
use mathlib.Core.List.{List, [], ◌∷◌, ◌++◌}
use Prim.Native.Nat.{ℕ, ◌<◌}
use native.Mathlib.Omega.{arith}
use borrow.Author.Tests.{lt-ltb}
use lib.Dec.{eqb, ltb, eqb→eq}
use lib.ListN.{length, length-append}
use Rattle.whole.specs.Cases.{if, by_test}
use Rattle.theory.specs.Form.{new_form}
use Rattle.theory.specs.Command.{Command, end_model}
use Rattle.theory.specs.Verdict.{Verdict, refusal}
use Rattle.theory.specs.Listing.{ListingOut}
use Rattle.convert_model.specs.Conversion.{own_refusal}
use Rattle.import_grammar.specs.Grammar.{Text, entire}
use Rattle.import_grammar.specs.Reader.{begin}
use Rattle.import_grammar.specs.laws.Viable.{Outcome, fine, stops, scan}
use Rattle.import_numbers.specs.Numbers.{beyond}
use Rattle.import_model.specs.Commands.{text_commands, items_commands}
use Rattle.import_model.specs.Encode.{command_bytes, encode}
use Rattle.import_model.specs.Import.{text_most, model_bytes, untouched, filled_with, import_refusal, imported, import_text}
use Rattle.c_answers.specs.Answers.{short}
use Rattle.c_answers.specs.Texts.{listed, listing_answer}
use Rattle.c_answers.proofs.Listed.{text_short}

-- each model has its end
ended_some : (l : List Command) → 0 < length (encode (l ++ (end_model ∷ [])))
unfolding encode command_bytes
ended_some [] = omega arith
ended_some (c ∷ l) = omega (arith, length-append (command_bytes c) (encode (l ++ (end_model ∷ []))), ended_some l)

model_some : (t : Text) → 0 < length (model_bytes t)
unfolding model_bytes text_commands
model_some (entire I e) = ended_some (items_commands I)

-- 17 stands for success too
alike : (v : Verdict) (a z b : Bool)
    → short (if a (refusal 25 0) (if (not z) v (if true (refusal 17 0) (refusal 0 0)))).number ≡ short (if a (refusal 25 0) (if (not z) v (if b (refusal 17 0) (refusal 0 0)))).number
unfolding short
alike v true z b = refl
alike v false false b = refl
alike v false true true = refl
alike v false true false = refl

refused_alike : (t : Text) (room : ℕ) → short (import_refusal t 0).number ≡ short (import_refusal t room).number
unfolding import_refusal
refused_alike t room =
    let v = own_refusal new_form (model_bytes t) in
    let size = length (model_bytes t) in
    ap (λ (b : Bool). short (if (beyond t) (refusal 25 0) (if (not (eqb v.number 0)) v (if b (refusal 17 0) (refusal 0 0)))).number) (lt-ltb 0 size (model_some t))
    ∙ alike v (beyond t) (eqb v.number 0) (ltb room size)

number_is : (t : Text) (buffer : List ℕ) → (imported buffer (fine t)).number ≡ (import_refusal t (length buffer)).number
unfolding imported
number_is t buffer =
    let v = import_refusal t (length buffer) in
    by_test (eqb v.number 0) (λ b. (if {A = ListingOut} b (filled_with buffer (model_bytes t)) (untouched buffer v.number v.place)).number ≡ v.number) (λ e. sym (eqb→eq v.number 0 e)) (λ _. refl)

outcomes_alike : (buffer : List ℕ) (o : Outcome) → short (imported [] o).number ≡ short (imported buffer o).number
unfolding imported
outcomes_alike buffer (fine t) = ap short (number_is t []) ∙ refused_alike t (length buffer) ∙ ap short (sym (number_is t buffer))
outcomes_alike buffer (stops i) = refl

emptied : (w buffer : List ℕ) → short (import_text w []).number ≡ short (import_text w buffer).number
unfolding import_text
emptied w buffer =
    let o = scan begin w 0 in
    by_test (ltb text_most (length w)) (λ b. short (if b (untouched [] 10 0) (imported [] o)).number ≡ short (if b (untouched buffer 10 0) (imported buffer o)).number) (λ _. refl) (λ _. outcomes_alike buffer o)

-- o is what the judging with an empty buffer came to
pub import_short : (w buffer : List ℕ) {o : ListingOut} {out : List ℕ} {r : ℕ} → length out < 8 → o ≡ import_text w [] → length o.buffer ≡ 0 → r ≡ short o.number
    → listed r out (o.buffer ++ buffer) ≡ listing_answer (import_text w buffer) buffer out
import_short w buffer {o} h e z s = text_short (import_text w buffer) o buffer h (ap (λ (x : ListingOut). short x.number) e ∙ emptied w buffer) z s
