-- Laws of what is printed: a line from the front of a buffer, and what solving and listing answered with.
use mathlib.Core.Path.{◌≡◌, refl, sym, ap, ◌∙◌}
use mathlib.Core.Bool.{Bool, true, false, not}
use mathlib.Core.List.{List, [], ◌∷◌, ◌++◌}
use Prim.Native.Nat.{ℕ, zero, suc, ◌+◌, ◌-◌, ◌*◌, ◌≤◌, ◌/◌, ◌%◌}
use native.Mathlib.Omega.{arith}
use borrow.Author.Tests.{eq-eqb, ne_eqb, eqb-true, ltb-false}
use lib.Dec.{eqb, ltb}
use lib.IntN.{ℤ, pos}
use lib.ListN.{length, get_or, take, drop, replicate, length-append}
use lib.Seq.{take_at}
use Rattle.whole.specs.Cases.{if}
use Rattle.theory.specs.Widths.{node_words, work_words, steps_most, peak_words}
use Rattle.theory.specs.Valid.{all}
use Rattle.theory.specs.Verdict.{Verdict, refusal, from_to}
use Rattle.theory.specs.Load.{site_at}
use Rattle.theory.specs.Solve.{early, SolveOut, solve}
use Rattle.theory.specs.Value.{good_row}
use Rattle.theory.specs.Listing.{digits, spaced, spaced_all, greatest_root, refusal_line, text, written, ListingOut, listing_refusal, listing}
use Rattle.text_decimal.specs.Put.{PutAt}
use Rattle.text_decimal.proofs.Numbers.{spaced_plain}
use Rattle.text_decimal.proofs.Rows.{line_length}
use Rattle.text_plan_lines.specs.Lines.{line_most}
use Rattle.text_input.specs.Printed.{listed, printed, text_bytes, nodes_held, tables_printed}

-- ---- a refusal's line has room

one_more : (k : ℕ) (d l : List ℕ) → length d ≤ k + 1 → length l ≡ 1 → (b : Bool) → length (if b l (d ++ l)) ≤ suc k + 1
one_more k d l h e true = omega arith
one_more k d l h e false = omega (arith, length-append d l)

digits_short : (k x : ℕ) → length (digits k x) ≤ k + 1
unfolding digits
digits_short zero x = omega arith
digits_short (suc k) x = one_more k (digits k (x / 10)) ((48 + x % 10) ∷ []) (digits_short k (x / 10)) refl (ltb x 10)

spaced_short : (x : ℕ) → length (spaced (pos x)) ≤ 21
spaced_short x = omega (arith, ap length (spaced_plain x), digits_short 19 x)

two_short : (x y : ℕ) → length (spaced_all (pos x ∷ pos y ∷ [])) ≤ 42
unfolding spaced_all
two_short x y = omega (arith, length-append (spaced (pos x)) (spaced (pos y) ++ []), length-append (spaced (pos y)) [], spaced_short x, spaced_short y)

pub refusal_short : (number place room : ℕ) → line_most ≤ room → length (refusal_line (refusal number place)) ≤ room
unfolding refusal_line
refusal_short number place room h = omega (arith, line_length (82 ∷ []) (pos number ∷ pos place ∷ []), two_short number place)

-- ---- the first bytes of a buffer

front : (buffer bytes : List ℕ) (n : ℕ) → n ≡ length bytes → take n (written buffer 0 bytes) ≡ bytes
unfolding written
front buffer bytes n e = take_at bytes (drop (0 + length bytes) buffer) n (sym e)

pub put_front : {buffer bytes after : List ℕ} {n : ℕ} → PutAt buffer 0 bytes n after → length bytes ≤ length buffer → (n ≤ length buffer) × (take n after ≡ bytes)
put_front {buffer} {bytes} {after} {n} p h = (omega (arith, p.behind), ap (take n) p.left ∙ front buffer bytes n (omega (arith, p.behind)))

-- ---- the listing's answer

judged_fits : (v : Verdict) (a b c d : Bool) → eqb v.number 0 ≡ a → (if (not a) v (if (not b) (refusal 15 0) (if (not c) (refusal 14 0) (if d (refusal 17 0) (refusal 0 0))))).number ≡ 0 → d ≡ false
judged_fits v false b c d e z = absurd (let f = eq-eqb v.number 0 z in let y : ◌≡◌ {A = ℕ} 0 1 = cc in omega arith)
judged_fits v true false c d e z = absurd (omega arith)
judged_fits v true true false d e z = absurd (omega arith)
judged_fits v true true true true e z = absurd (omega arith)
judged_fits v true true true false e z = refl

-- the outcome by whether the plan is accepted
abbrev by_verdict : Verdict → ListingOut → List ℕ → Bool → ListingOut
by_verdict v ok buffer b = if b ok (record { number = v.number; place = v.place; size = 0; buffer = buffer })

accepted : (v : Verdict) (ok : ListingOut) (buffer : List ℕ) (b : Bool) → eqb v.number 0 ≡ b → (by_verdict v ok buffer b).number ≡ 0 → (v.number ≡ 0) × (by_verdict v ok buffer b ≡ ok)
accepted v ok buffer true e z = (eqb-true v.number 0 e, refl)
accepted v ok buffer false e z = absurd (let f = eq-eqb v.number 0 z in let y : ◌≡◌ {A = ℕ} 0 1 = cc in omega arith)

refused : (v : Verdict) (ok : ListingOut) (buffer : List ℕ) (b : Bool) → ok.number ≡ 0 → ((by_verdict v ok buffer b).number ≡ 0 → ⊥)
    → (b ≡ false) × (refusal (by_verdict v ok buffer b).number (by_verdict v ok buffer b).place ≡ v)
refused v ok buffer true z n = absurd (n z)
refused v ok buffer false z n = (refl, refl)

module _ (B : List ℕ) (H : ℕ) (nodes : List ℤ) (stages buffer : List ℕ) where
  abbrev whole : List ℕ
  whole = text (site_at B) H nodes stages

  abbrev judged : Verdict
  judged = listing_refusal B H nodes stages (length buffer) 0

  abbrev done : ListingOut
  done = record { number = 0; place = 0; size = length whole; buffer = written buffer 0 whole }

  fits : judged.number ≡ 0 → length whole ≤ length buffer
  unfolding listing_refusal
  fits z =
      let v = early B H (length stages) in
      let S = site_at B in
      let f = judged_fits v (eqb v.number 0) (all (λ h. not (eqb (get_or stages (h - 1) 0) 0)) (from_to 1 H))
      (all (good_row S.conditions S.actions nodes) (from_to 1 (greatest_root H stages))) (ltb (length buffer) (0 + length whole)) refl z in
      omega (arith, ltb-false (length buffer) (0 + length whole) f)

  module _ {n p size : ℕ} {after : List ℕ} (e : record { number = n; place = p; size = size; buffer = after } ≡ listing B H nodes stages buffer 0) where
    -- the text stands at the front
    listed_front : n ≡ 0 → (size ≤ length buffer) × (take size after ≡ listed B H nodes stages (length buffer))
    unfolding listing listed
    listed_front z =
        let a = accepted judged done buffer (eqb judged.number 0) refl (ap (λ (o : ListingOut). o.number) (sym e) ∙ z) in
        let o = e ∙ a.1 in
        let s : size ≡ length whole = ap (λ (o : ListingOut). o.size) o in (
          omega (arith, fits a.0),
          ap (take size) (ap (λ (o : ListingOut). o.buffer) o)
              ∙ front buffer whole size s
              ∙ sym (ap (λ (b : Bool). if b whole (refusal_line judged)) (eq-eqb judged.number 0 a.0)),
        )

    listed_refused : (n ≡ 0 → ⊥) → refusal_line (refusal n p) ≡ listed B H nodes stages (length buffer)
    unfolding listing listed
    listed_refused m =
        let r = refused judged done buffer (eqb judged.number 0) refl (λ z. m (ap (λ (o : ListingOut). o.number) e ∙ z)) in
        ap (λ (o : ListingOut). refusal_line (refusal o.number o.place)) e
        ∙ ap refusal_line r.1
        ∙ sym (ap (λ (b : Bool). if b whole (refusal_line judged)) r.0)

-- ---- what is printed

-- a solve's answer and tables
module _ (B : List ℕ) (H : ℕ) (nodes : List ℤ) (stages work peaks : List ℕ) (room : ℕ) {k q peak : ℕ} {l : List ℤ} {s w m : List ℕ}
    (e : record { number = k; place = q; peak = peak; nodes = l; stages = s; work = w; peaks = m } ≡ solve B H nodes stages work peaks) where
  abbrev by_solve : SolveOut → List ℕ
  by_solve o = if (eqb o.number 0) (listed B H o.nodes o.stages room) (refusal_line (refusal o.number o.place))

  pub refused_printed : (k ≡ 0 → ⊥) → refusal_line (refusal k q) ≡ printed B H nodes stages work peaks room
  unfolding printed
  refused_printed n = sym (ap (λ (b : Bool). if b (listed B H l s room) (refusal_line (refusal k q))) (ne_eqb k 0 n)) ∙ ap by_solve e

  pub solved_printed : k ≡ 0 → listed B H l s room ≡ printed B H nodes stages work peaks room
  unfolding printed
  solved_printed z = sym (ap (λ (b : Bool). if b (listed B H l s room) (refusal_line (refusal k q))) (eq-eqb k 0 z)) ∙ ap by_solve e

-- the listing's answer, from the tables that the solve left
module _ (B : List ℕ) (H : ℕ) (nodes : List ℤ) (stages work peaks buffer : List ℕ) {k q peak : ℕ} {l : List ℤ} {s w m : List ℕ}
    (e : record { number = k; place = q; peak = peak; nodes = l; stages = s; work = w; peaks = m } ≡ solve B H nodes stages work peaks) (z : k ≡ 0)
    {n p size : ℕ} {after : List ℕ} (f : record { number = n; place = p; size = size; buffer = after } ≡ listing B H l s buffer 0) where
  pub listing_refused_printed : (n ≡ 0 → ⊥) → refusal_line (refusal n p) ≡ printed B H nodes stages work peaks (length buffer)
  listing_refused_printed m = listed_refused B H l s buffer f m ∙ solved_printed B H nodes stages work peaks (length buffer) e z

  pub listing_printed : n ≡ 0 → (size ≤ length buffer) × (take size after ≡ printed B H nodes stages work peaks (length buffer))
  listing_printed m = let r = listed_front B H l s buffer f m in (r.0, r.1 ∙ solved_printed B H nodes stages work peaks (length buffer) e z)

-- in the program's own tables
pub tables_are : (B : List ℕ) (H : ℕ) {room : ℕ} {t : List ℕ} → room ≡ text_bytes → t ≡ printed B H (replicate (nodes_held * node_words) (pos 0)) (replicate steps_most 0)
    (replicate (nodes_held * work_words) 0) (replicate peak_words 0) room → t ≡ tables_printed B H
unfolding tables_printed
tables_are B H e f = f ∙ ap (printed B H (replicate (nodes_held * node_words) (pos 0)) (replicate steps_most 0) (replicate (nodes_held * work_words) 0) (replicate peak_words 0)) e
