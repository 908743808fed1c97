-- The outcome of an import from the model on that its text has become.
use Rattle.std.specs.Prelude.{not, List, ℕ, eqb, ltb, length}
use Rattle.whole.specs.Cases.{if}
use Rattle.theory.specs.Form.{new_form}
use Rattle.theory.specs.Verdict.{Verdict, refusal}
use Rattle.theory.specs.Listing.{ListingOut}
use Rattle.convert_model.specs.Conversion.{own_refusal}
use Rattle.import_model.specs.Import.{untouched, filled_with}
use Rattle.import_deliver.specs.declared.Imported.{Imported}

-- "the model's own refusals follow (10 first), by its offsets, then 17"
unfoldable pub model_refusal : List ℕ → ℕ → Verdict
model_refusal B room =
    let v = own_refusal new_form B in
    if (not (eqb v.number 0)) v
    (if (ltb room (length B)) (refusal 17 0) (refusal 0 0))

-- "The model goes to the start of a lent buffer"; "every refusal leaves the buffer untouched"
unfoldable pub delivered : List ℕ → List ℕ → ListingOut
unfolding model_refusal
delivered B buffer =
    let v = model_refusal B (length buffer) in
    if (eqb v.number 0) (filled_with buffer B) (untouched buffer v.number v.place)

-- the outcome that the code gives, with the buffer as it is left
abbrev pub outcome_as : Imported → List ℕ → ListingOut
outcome_as r buffer = record { number = r.number; place = r.place; size = r.size; buffer = buffer }
