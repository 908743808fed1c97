-- Every outcome of an import is one row, and each row is the outcome.
use Rattle.std.specs.Prelude.{◌≡◌, Bool, true, false, not, ℕ, ◌+◌, ◌≤◌, ◌<◌, ltb, ℤ, pos, negsuc, length, drop, ◌≤ℤ◌}
use Rattle.std.proofs.Math.Path.{refl, ap, subst}
use Rattle.std.proofs.Common.{sym, ◌∙◌, ⊎_elim, arith, eqb→eq, ltb→lt, lt→ltb, nltb→le, length-append, length-drop}
use mathlib.Core.List.Memᴰ
use mathlib.Core.List.{List, [], ◌∷◌, Memᴰ}
use Rattle.std.proofs.Math.Dec.{T, T_not, eqb}
use Rattle.std.proofs.Math.Seq.{drop-append_seam}
use Rattle.std.specs.Int.Signed.{le_z}
use Rattle.whole.specs.Cases.{if, by_test, both, and_in, not_not}
use Rattle.theory.specs.Widths.{bytes_most}
use Rattle.theory.specs.Form.{new_form, bytes_in}
use Rattle.theory.specs.Plain.{in_32_bits}
use Rattle.theory.specs.Verdict.{Verdict, refusal, verdict_in}
use Rattle.theory.specs.Listing.{written, ListingOut}
use Rattle.theory.specs.Rows.{VerdictRow}
use Rattle.theory.proofs.laws.Rows.{if_yes, if_no, some_not, verdict_row_in, verdict_is_in, zero_row_in}
use Rattle.convert_model.specs.Conversion.{own_refusal}
use Rattle.convert_model.specs.Statements.{AdmittedIn, OnlyItsOwn}
use Rattle.import_grammar.specs.Grammar.{Text, text_bytes, InGrammar}
use Rattle.import_grammar.specs.Reader.{begin}
use Rattle.import_grammar.proofs.laws.Reads.{one_reading}
use Rattle.import_grammar.specs.laws.Viable.{Outcome, fine, stops, scan, Stopped, Right}
use Rattle.import_grammar.proofs.laws.Viable.{scan_right}
use Rattle.import_grammar.proofs.laws.Unique.{one_place, stops_outside}
use Rattle.import_numbers.specs.Numbers.{numbers, all_within, beyond}
use Rattle.import_model.specs.Import.{text_most, model_bytes, untouched, filled_with, import_refusal, imported, import_text}
use Rattle.import_model.specs.Statements.{ReadAs, NumbersFit, ImportRow, import_0, import_10, import_24, import_25, import_10_model, import_1_8, import_17, ImportRows, NothingElse}

-- ---- tests

at_most : (n k : ℕ) → n ≤ k → T (not (ltb k n))
at_most n k h = by_test (ltb k n) (λ b. T (not b)) (λ t. absurd (omega (arith, ltb→lt k n t))) (λ _. tt)

some_of : (n : ℕ) → T (not (eqb n 0)) → 1 ≤ n
some_of n t = by_test (ltb 0 n) (λ _. 1 ≤ n) (λ u. ltb→lt 0 n u) (λ u. let z : n ≡ 0 = omega (arith, nltb→le 0 n u) in absurd (T_not (eqb n 0) t (rw z tt)))

-- ---- 25

abbrev Within : ℤ → Type 0
Within z = (negsuc 2147483647 ≤ℤ z) × (z ≤ℤ pos 2147483647)

all_in : (l : List ℤ) → T (all_within l) → (z : ℤ) → Memᴰ z l → Within z
unfolding all_within in_32_bits
all_in [] t z m = absurd (Memᴰ.not-nil m)
all_in (y ∷ l) t z m =
    let d = both (in_32_bits y) (all_within l) t in
    let c = both (le_z (negsuc 2147483647) y) (le_z y (pos 2147483647)) d.0 in
    ⊎_elim (λ e. subst Within (sym e) (record { le = c.0 }, record { le = c.1 })) (λ n. all_in l d.1 z n) (Memᴰ.cases_cons m)

in_all : (l : List ℤ) → ((z : ℤ) → Memᴰ z l → Within z) → T (all_within l)
unfolding all_within in_32_bits
in_all [] h = tt
in_all (y ∷ l) h =
    let d = h y (Memᴰ.head refl) in
    and_in (in_32_bits y) (all_within l) (and_in (le_z (negsuc 2147483647) y) (le_z y (pos 2147483647)) d.0.le d.1.le) (in_all l (λ z m. h z (Memᴰ.tail m)))

pub fit_in : (t : Text) → T (not (beyond t)) → NumbersFit t
unfolding beyond
fit_in t h = all_in (numbers t) (not_not (all_within (numbers t)) h)

pub in_fit : (t : Text) → NumbersFit t → T (not (beyond t))
unfolding beyond
in_fit t h = twice (all_within (numbers t)) (in_all (numbers t) h)
  where
    twice : (b : Bool) → T b → T (not (not b))
    twice true t = tt
    twice false t = absurd t

-- ---- the reading

scan_reads : (w : List ℕ) (t : Text) → text_bytes t ≡ w → (o : Outcome) → Right w o → o ≡ fine t
unfolding InGrammar
scan_reads w t e (fine u) r = ap fine (one_reading u t (r ∙ sym e))
scan_reads w t e (stops i) r = absurd (stops_outside w i r (t, e))

scan_stops : (w : List ℕ) (i : ℕ) → Stopped w i → (o : Outcome) → Right w o → o ≡ stops i
unfolding InGrammar
scan_stops w i s (fine u) r = absurd (stops_outside w i s (u, r))
scan_stops w i s (stops j) r = ap stops (one_place w j i r s)

module _ (w buffer : List ℕ) where
  abbrev Row : ListingOut → Type 0
  Row = ImportRow w buffer

  -- the outcome by the verdict on a text
  abbrev left_by : Text → Verdict → ListingOut
  left_by t v = if (eqb v.number 0) (filled_with buffer (model_bytes t)) (untouched buffer v.number v.place)

  abbrev too_short : Text → Bool
  too_short t = ltb (length buffer) (length (model_bytes t))

  abbrev behind_own : Text → Verdict
  behind_own t = if (too_short t) (refusal 17 0) (refusal 0 0)

  from_own : Text → Verdict → Verdict
  from_own t v = if (not (eqb v.number 0)) v (behind_own t)

  -- ---- the outcome is a row

  module _ (t : Text) (r : ReadAs w t) where
    judged : NumbersFit t → AdmittedIn new_form (model_bytes t) → Row (left_by t (behind_own t))
    judged f d = by_test (too_short t) (λ b. Row (left_by t (if b (refusal 17 0) (refusal 0 0)))) (λ s. import_17 r f d (ltb→lt _ _ s)) (λ s. import_0 r f d (nltb→le _ _ s))

    own_row : NumbersFit t → length (model_bytes t) ≤ bytes_most → (v : Verdict) → VerdictRow (model_bytes t) v → Row (left_by t (from_own t v))
    unfolding from_own
    own_row f h v q = by_test (eqb v.number 0) (λ b. eqb v.number 0 ≡ b → Row (left_by t (if (not b) v (behind_own t))))
        (λ z _. judged f (record { bytes = h; own = zero_row_in new_form q (eqb→eq v.number 0 z) }))
        (λ z e. subst (λ (b : Bool). Row (if b (filled_with buffer (model_bytes t)) (untouched buffer v.number v.place))) (sym e) (import_1_8 r f h q (some_of v.number z)))
        refl

    fitting_row : NumbersFit t → Row (left_by t (from_own t (own_refusal new_form (model_bytes t))))
    unfolding own_refusal from_own
    fitting_row f = by_test (ltb (bytes_in new_form) (length (model_bytes t))) (λ b. Row (left_by t (from_own t (if b (refusal 10 0) (verdict_in new_form (model_bytes t))))))
        (λ z. import_10_model r f (ltb→lt _ _ z))
        (λ z. own_row f (nltb→le _ _ z) (verdict_in new_form (model_bytes t)) (verdict_row_in new_form (model_bytes t)))

    read_row : Row (imported buffer (fine t))
    unfolding imported import_refusal from_own
    read_row = by_test (beyond t) (λ b. Row (left_by t (if b (refusal 25 0) (from_own t (own_refusal new_form (model_bytes t))))))
        (λ z. import_25 r (λ f. T_not (beyond t) (in_fit t f) z)) (λ z. fitting_row (fit_in t z))

  scanned_row : length w ≤ text_most → (o : Outcome) → Right w o → Row (imported buffer o)
  unfolding imported
  scanned_row h (fine t) r = read_row t (record { bytes = h; reading = r })
  scanned_row h (stops i) r = import_24 h r

  import_row : Row (import_text w buffer)
  unfolding import_text
  import_row = by_test (ltb text_most (length w)) (λ b. Row (if b (untouched buffer 10 0) (imported buffer (scan begin w 0))))
      (λ z. import_10 (ltb→lt _ _ z)) (λ z. scanned_row (nltb→le _ _ z) (scan begin w 0) (scan_right w))

  -- ---- and each row is the outcome

  short_is : length w ≤ text_most → import_text w buffer ≡ imported buffer (scan begin w 0)
  unfolding import_text
  short_is h = if_no (ltb text_most (length w)) (untouched buffer 10 0) (imported buffer (scan begin w 0)) (at_most _ _ h)

  read_is : {t : Text} → ReadAs w t → import_text w buffer ≡ imported buffer (fine t)
  read_is {t} r = short_is r.bytes ∙ ap (imported buffer) (scan_reads w t r.reading (scan begin w 0) (scan_right w))

  fit_is : {t : Text} → ReadAs w t → NumbersFit t → import_text w buffer ≡ left_by t (from_own t (own_refusal new_form (model_bytes t)))
  unfolding imported import_refusal from_own
  fit_is {t} r f = read_is r ∙ ap (left_by t) (if_no (beyond t) (refusal 25 0) (from_own t (own_refusal new_form (model_bytes t))) (in_fit t f))

  own_is : {t : Text} → ReadAs w t → NumbersFit t → length (model_bytes t) ≤ bytes_most → (v : Verdict) → VerdictRow (model_bytes t) v → import_text w buffer ≡ left_by t (from_own t v)
  unfolding own_refusal
  own_is {t} r f h v q = fit_is r f
      ∙ ap (λ (v : Verdict). left_by t (from_own t v)) (if_no (ltb (bytes_in new_form) (length (model_bytes t))) (refusal 10 0) (verdict_in new_form (model_bytes t)) (at_most _ _ h) ∙ verdict_is_in new_form (model_bytes t) q)

  admitted_is : {t : Text} → ReadAs w t → NumbersFit t → AdmittedIn new_form (model_bytes t) → import_text w buffer ≡ left_by t (behind_own t)
  unfolding from_own
  admitted_is r f d = own_is r f d.bytes (refusal 0 0) d.own

  import_is : {o : ListingOut} → Row o → import_text w buffer ≡ o
  unfolding import_text imported import_refusal own_refusal from_own
  import_is (import_0 {t = t} r f d h) = admitted_is r f d ∙ ap (left_by t) (if_no (too_short t) (refusal 17 0) (refusal 0 0) (at_most _ _ h))
  import_is (import_10 h) = if_yes (ltb text_most (length w)) (untouched buffer 10 0) (imported buffer (scan begin w 0)) (lt→ltb _ _ h)
  import_is (import_24 {i = i} h s) = short_is h ∙ ap (imported buffer) (scan_stops w i s (scan begin w 0) (scan_right w))
  import_is (import_25 {t = t} r f) = read_is r ∙ ap (left_by t) (if_yes (beyond t) (refusal 25 0) (from_own t (own_refusal new_form (model_bytes t))) (by_test (beyond t) T (λ _. tt) (λ z. absurd (f (fit_in t z)))))
  import_is (import_10_model {t = t} r f h) = fit_is r f
      ∙ ap (λ (v : Verdict). left_by t (from_own t v)) (if_yes (ltb (bytes_in new_form) (length (model_bytes t))) (refusal 10 0) (verdict_in new_form (model_bytes t)) (lt→ltb _ _ h))
  import_is (import_1_8 {t = t} {k = k} {p = p} r f h q a) = own_is r f h (refusal k p) q
      ∙ ap (left_by t) (if_yes (not (eqb k 0)) (refusal k p) (behind_own t) (some_not k a)) ∙ if_no (eqb k 0) (filled_with buffer (model_bytes t)) (untouched buffer k p) (some_not k a)
  import_is (import_17 {t = t} r f d h) = admitted_is r f d ∙ ap (left_by t) (if_yes (too_short t) (refusal 17 0) (refusal 0 0) (lt→ltb _ _ h))

pub import_rows : ImportRows
import_rows w buffer o = (import_is w buffer, λ e. subst (ImportRow w buffer) e (import_row w buffer))

-- ---- what is left

filled_only : (buffer B : List ℕ) → length B ≤ length buffer → OnlyItsOwn buffer (filled_with buffer B)
unfolding written
filled_only buffer B h =
    let rest = drop (0 + length B) buffer in
    let n : 0 + length B ≡ length B = omega arith in
    record {
      long = omega (arith, length-append B rest, length-drop (0 + length B) buffer);
      behind = drop-append_seam B rest ∙ ap (λ (k : ℕ). drop k buffer) n;
      refused = λ k. absurd (omega (arith, k));
    }

row_only : {w buffer : List ℕ} {o : ListingOut} → ImportRow w buffer o → OnlyItsOwn buffer o
row_only (import_0 r f d h) = filled_only _ _ h
row_only (import_10 h) = record { long = refl; behind = refl; refused = λ _. refl }
row_only (import_24 h s) = record { long = refl; behind = refl; refused = λ _. refl }
row_only (import_25 r f) = record { long = refl; behind = refl; refused = λ _. refl }
row_only (import_10_model r f h) = record { long = refl; behind = refl; refused = λ _. refl }
row_only (import_1_8 r f h q a) = record { long = refl; behind = refl; refused = λ _. refl }
row_only (import_17 r f d h) = record { long = refl; behind = refl; refused = λ _. refl }

pub nothing_else : NothingElse
nothing_else w buffer = row_only ((import_rows w buffer (import_text w buffer)).1 refl)
