-- What an import comes to where its text is not refused: the passes over its model.
use Rattle.std.specs.Prelude.{◌≡◌, Bool, false, not, List, ℕ, ◌≤◌, ◌<◌, eqb, ltb, length}
use Rattle.std.proofs.Math.Path.{sym, ap}
use Rattle.std.proofs.Common.{◌∙◌, lt-ltb, le-ltb}
use Rattle.whole.specs.Cases.{if}
use Rattle.theory.specs.Form.{new_form, bytes_in}
use Rattle.theory.specs.Verdict.{Verdict, refusal, verdict_in}
use Rattle.theory.specs.Listing.{ListingOut}
use Rattle.convert_model.specs.Conversion.{own_refusal}
use Rattle.import_grammar.specs.Grammar.{Text, text_bytes, InGrammar}
use Rattle.import_grammar.specs.Reader.{begin}
use Rattle.import_grammar.proofs.laws.Reads.{one_reading}
use Rattle.import_grammar.specs.laws.Viable.{Outcome, fine, stops, scan, Right}
use Rattle.import_grammar.proofs.laws.Viable.{scan_right}
use Rattle.import_grammar.proofs.laws.Unique.{stops_outside}
use Rattle.import_numbers.specs.Numbers.{beyond}
use Rattle.import_model.specs.Import.{text_most, model_bytes, untouched, filled_with, import_refusal, imported, import_text}
use Rattle.import_deliver.specs.Delivered.{model_refusal, delivered}

-- "the model's own refusals follow (10 first)"
pub too_long_model : (B buffer : List ℕ) → bytes_in new_form < length B → untouched buffer 10 0 ≡ delivered B buffer
unfolding delivered model_refusal own_refusal
too_long_model B buffer h = sym (ap (λ (b : Bool). left_by (from_own (if b (refusal 10 0) (verdict_in new_form B)))) (lt-ltb _ _ h))
  where
    from_own : Verdict → Verdict
    from_own v = if (not (eqb v.number 0)) v (if (ltb (length buffer) (length B)) (refusal 17 0) (refusal 0 0))

    left_by : Verdict → ListingOut
    left_by v = if (eqb v.number 0) (filled_with buffer B) (untouched buffer v.number v.place)

-- a text that is refused neither with 10, 24 nor 25: what is left is the model
module _ (w buffer : List ℕ) (h : length w ≤ text_most) (t : Text) (e : text_bytes t ≡ w) (f : beyond t ≡ false) where
  read_as : (o : Outcome) → Right w o → o ≡ fine t
  unfolding InGrammar
  read_as (fine u) r = ap fine (one_reading u t (r ∙ sym e))
  read_as (stops i) r = absurd (stops_outside w i r (t, e))

  abbrev left_by : Verdict → ListingOut
  left_by v = if (eqb v.number 0) (filled_with buffer (model_bytes t)) (untouched buffer v.number v.place)

  numbered : delivered (model_bytes t) buffer ≡ imported buffer (fine t)
  unfolding delivered imported import_refusal model_refusal
  numbered = ap (λ (b : Bool). left_by (if b (refusal 25 0) (model_refusal (model_bytes t) (length buffer)))) (sym f)

  pub then_the_model : delivered (model_bytes t) buffer ≡ import_text w buffer
  unfolding import_text
  then_the_model = numbered
      ∙ ap (imported buffer) (sym (read_as (scan begin w 0) (scan_right w)))
      ∙ sym (ap (λ (b : Bool). if b (untouched buffer 10 0) (imported buffer (scan begin w 0))) (le-ltb _ _ h))
