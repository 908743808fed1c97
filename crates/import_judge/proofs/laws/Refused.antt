-- A text that is refused so is refused by an import, and any other one has a reading without a number beyond.
use Rattle.std.specs.Prelude.{◌≡◌, Bool, true, false, not, List, ℕ, ◌≤◌, eqb, ltb, length}
use Rattle.std.proofs.Math.Path.{refl}
use Rattle.std.proofs.Common.{sym, ap, ◌∙◌, subst, arith, nltb→le}
use Rattle.whole.specs.Cases.{if, by_test}
use Rattle.theory.specs.Form.{new_form}
use Rattle.theory.specs.Verdict.{Verdict, refusal}
use Rattle.theory.specs.Listing.{ListingOut}
use Rattle.convert_model.specs.Conversion.{own_refusal}
use Rattle.import_grammar.specs.Grammar.{Text, text_bytes}
use Rattle.import_grammar.specs.Reader.{begin}
use Rattle.import_grammar.specs.laws.Viable.{Outcome, fine, stops, scan, Right}
use Rattle.import_grammar.proofs.laws.Viable.{scan_right}
use Rattle.import_numbers.specs.Numbers.{beyond}
use Rattle.import_model.specs.Import.{text_most, model_bytes, untouched, filled_with, import_refusal, imported, import_text}
use Rattle.import_judge.specs.Refusal.{outcome_refusal, text_refusal}
use Rattle.import_judge.specs.Sound.{SoundText}

-- ---- refused

module _ (buffer : List ℕ) where
  abbrev Refuses : Verdict → ListingOut → Type 0
  Refuses v o = (v.number ≡ 0 → ⊥) → untouched buffer v.number v.place ≡ o

  abbrev left_by : Text → Verdict → ListingOut
  left_by t v = if (eqb v.number 0) (filled_with buffer (model_bytes t)) (untouched buffer v.number v.place)

  abbrev model_judged : Text → Verdict
  model_judged t =
      let v = own_refusal new_form (model_bytes t) in
      if (not (eqb v.number 0)) v (if (ltb (length buffer) (length (model_bytes t))) (refusal 17 0) (refusal 0 0))

  outcome_refused : (o : Outcome) → Refuses (outcome_refusal o) (imported buffer o)
  unfolding outcome_refusal imported import_refusal
  outcome_refused (fine t) = by_test (beyond t) (λ b. Refuses (if b (refusal 25 0) (refusal 0 0)) (left_by t (if b (refusal 25 0) (model_judged t)))) (λ _ _. refl) (λ _ h. absurd (h refl))
  outcome_refused (stops i) = λ _. refl

  text_refused : (w : List ℕ) → Refuses (text_refusal w) (import_text w buffer)
  unfolding text_refusal import_text
  text_refused w =
      let o = scan begin w 0 in
      by_test (ltb text_most (length w)) (λ b. Refuses (if b (refusal 10 0) (outcome_refusal o)) (if b (untouched buffer 10 0) (imported buffer o))) (λ _ _. refl) (λ _. outcome_refused o)

  pub refused_so : (w : List ℕ) (v : Verdict) → v ≡ text_refusal w → (v.number ≡ 0 → ⊥) → untouched buffer v.number v.place ≡ import_text w buffer
  refused_so w v e = subst (λ (x : Verdict). Refuses x (import_text w buffer)) (sym e) (text_refused w)

-- ---- not refused

outcome_sound : (w : List ℕ) → length w ≤ text_most → (o : Outcome) → Right w o → (outcome_refusal o).number ≡ 0 → SoundText w
unfolding outcome_refusal
outcome_sound w h (fine t) r = by_number (beyond t) refl
  where
    by_number : (b : Bool) → beyond t ≡ b → (if b (refusal 25 0) (refusal 0 0)).number ≡ 0 → SoundText w
    by_number true f z = absurd (let y : ◌≡◌ {A = ℕ} 25 0 = z in omega arith)
    by_number false f z = record { text = t; bytes = h; reading = r; within = f }
outcome_sound w h (stops i) r = λ z. absurd (let y : ◌≡◌ {A = ℕ} 24 0 = z in omega arith)

pub sound_so : (w : List ℕ) (v : Verdict) → v ≡ text_refusal w → v.number ≡ 0 → SoundText w
unfolding text_refusal
sound_so w v e z =
    by_test (ltb text_most (length w)) (λ b. (if b (refusal 10 0) (outcome_refusal (scan begin w 0))).number ≡ 0 → SoundText w)
    (λ _ y. absurd (let x : ◌≡◌ {A = ℕ} 10 0 = y in omega arith))
    (λ t. outcome_sound w (nltb→le text_most (length w) t) (scan begin w 0) (scan_right w)) (sym (ap (λ (x : Verdict). x.number) e) ∙ z)
