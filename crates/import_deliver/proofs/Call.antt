-- The last passes: refused by the model's own rules, by a short buffer, or written.
use mathlib.Core.Path.{◌≡◌, sym, ap, ◌∙◌}
use mathlib.Core.Bool.{Bool, true, false, not}
use mathlib.Core.List.{List}
use Prim.Native.Nat.{ℕ, ◌≤◌, ◌<◌}
use native.Mathlib.Omega.{arith}
use borrow.Author.Tests.{eq-eqb, ne_eqb, lt-ltb, le-ltb}
use lib.Dec.{eqb, ltb}
use lib.ListN.{length}
use Rattle.whole.specs.Cases.{if}
use Rattle.theory.specs.Form.{new_form}
use Rattle.theory.specs.Verdict.{Verdict, refusal}
use Rattle.theory.specs.Listing.{ListingOut}
use Rattle.text_decimal.specs.Put.{PutAt}
use Rattle.model.specs.declared.Verdict.{Verdict as CodeVerdict}
use Rattle.model.specs.Answers.{shown}
use Rattle.convert_model.specs.Conversion.{own_refusal}
use Rattle.import_model.specs.Import.{untouched, filled_with}
use Rattle.import_deliver.specs.declared.Imported.{Imported}
use Rattle.import_deliver.specs.Delivered.{model_refusal, delivered, outcome_as}

pub refused_as : (r : Imported) (k p : ℕ) (buffer : List ℕ) → (r.number ≡ k) × (r.place ≡ p) × (r.size ≡ 0) → outcome_as r buffer ≡ untouched buffer k p
refused_as r k p buffer e = λ i. record { number = e.0 i; place = e.1 i; size = e.2 i; buffer = buffer }

module _ (B buffer : List ℕ) (v : CodeVerdict) (e : shown v ≡ own_refusal new_form B) where
  abbrev left_by : Verdict → ListingOut
  left_by o = if (eqb o.number 0) (filled_with buffer B) (untouched buffer o.number o.place)

  abbrev judged : Verdict → Bool → Bool → Verdict
  judged o z b = if (not z) o (if b (refusal 17 0) (refusal 0 0))

  pub call_own : (v.number ≡ 0 → ⊥) → untouched buffer v.number v.place ≡ delivered B buffer
  unfolding delivered model_refusal
  call_own h = sym (ap (λ (o : Verdict). left_by (judged o (eqb o.number 0) (ltb (length buffer) (length B)))) (sym e)
      ∙ ap (λ (b : Bool). left_by (judged (shown v) b (ltb (length buffer) (length B)))) (ne_eqb v.number 0 h)
      ∙ ap (λ (b : Bool). if b (filled_with buffer B) (untouched buffer v.number v.place)) (ne_eqb v.number 0 h))

  module _ (z : v.number ≡ 0) where
    past_own : (b : Bool) → ltb (length buffer) (length B) ≡ b → delivered B buffer ≡ left_by (if b (refusal 17 0) (refusal 0 0))
    unfolding delivered model_refusal
    past_own b g =
        (λ i. left_by (judged (own_refusal new_form B) (eqb (own_refusal new_form B).number 0) (g i)))
        ∙ ap (λ (c : Bool). left_by (judged (own_refusal new_form B) c b)) (eq-eqb (own_refusal new_form B).number 0 (sym (ap (λ (o : Verdict). o.number) e) ∙ z))

    pub call_17 : length buffer < length B → untouched buffer 17 0 ≡ delivered B buffer
    call_17 h = sym (past_own true (lt-ltb (length buffer) (length B) h))

    pub call_0 : length B ≤ length buffer → {n : ℕ} {after : List ℕ} → PutAt buffer 0 B n after
        → ◌≡◌ {A = ListingOut} (record { number = 0; place = 0; size = n; buffer = after }) (delivered B buffer)
    call_0 h {n} {after} p =
        let k : n ≡ length B = omega (arith, p.behind) in
        (λ i. record { number = 0; place = 0; size = k i; buffer = p.left i })
        ∙ sym (past_own false (le-ltb (length buffer) (length B) h))
