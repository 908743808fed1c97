-- "Add an import of whole models in such text": the outcome of a call, refused ones included.
use Rattle.std.specs.Prelude.{not, List, [], ◌∷◌, ℕ, eqb, ltb, length}
use Rattle.whole.specs.Cases.{if}
use Rattle.theory.specs.Form.{new_form}
use Rattle.theory.specs.Verdict.{Verdict, refusal}
use Rattle.theory.specs.Listing.{written, ListingOut}
use Rattle.convert_model.specs.Conversion.{own_refusal}
use Rattle.import_grammar.specs.Grammar.{Text}
use Rattle.import_grammar.specs.Reader.{begin}
use Rattle.import_grammar.specs.laws.Viable.{Outcome, fine, stops, scan}
use Rattle.import_numbers.specs.Numbers.{beyond}
use Rattle.import_model.specs.Commands.{text_commands}
use Rattle.import_model.specs.Encode.{encode}

-- "text above 262,144 bytes"
abbrev pub text_most : ℕ
text_most = 262144

-- the model that a text becomes
unfoldable pub model_bytes : Text → List ℕ
unfolding text_commands encode
model_bytes t = encode (text_commands t)

-- "every refusal leaves the buffer untouched", and all else that it gives is zero
abbrev pub untouched : List ℕ → ℕ → ℕ → ListingOut
untouched buffer k p = record { number = k; place = p; size = 0; buffer = buffer }

-- "The model goes to the start of a lent buffer, nothing after it is touched, and its length is given."
abbrev pub filled_with : List ℕ → List ℕ → ListingOut
filled_with buffer B = record { number = 0; place = 0; size = length B; buffer = written buffer 0 B }

-- a text of the grammar: "a number beyond signed 32 bits .. with 25 once the whole text is in the grammar; the model's own refusals follow (10 first), by its offsets, then 17"
unfoldable pub import_refusal : Text → ℕ → Verdict
unfolding model_bytes
import_refusal t room =
    let B = model_bytes t in
    let v = own_refusal new_form B in
    if (beyond t) (refusal 25 0)
    (if (not (eqb v.number 0)) v
    (if (ltb room (length B)) (refusal 17 0) (refusal 0 0)))

unfoldable pub imported : List ℕ → Outcome → ListingOut
unfolding import_refusal
imported buffer (fine t) =
    let v = import_refusal t (length buffer) in
    if (eqb v.number 0) (filled_with buffer (model_bytes t)) (untouched buffer v.number v.place)
-- "text outside the grammar with 24 and the offset of the first byte that no text of the grammar can have there (or the length, if it only ends early)"
imported buffer (stops i) = untouched buffer 24 i

-- "It refuses text above 262,144 bytes with 10": before all else
unfoldable pub import_text : List ℕ → List ℕ → ListingOut
unfolding imported
import_text w buffer = if (ltb text_most (length w)) (untouched buffer 10 0) (imported buffer (scan begin w 0))
