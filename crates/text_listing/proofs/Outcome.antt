-- The outcome of a listing: of a plan of an accepted model, and as document 01 has it.
use mathlib.Core.Path.{◌≡◌, refl, sym, ap, ◌∙◌}
use mathlib.Core.Bool.{Bool, true, false, not}
use mathlib.Core.List.{List}
use Prim.Native.Nat.{ℕ, ◌+◌, ◌-◌, ◌≤◌, ◌<◌}
use native.Mathlib.Omega.{arith}
use borrow.Author.Tests.{eq-eqb, ne_eqb, lt-ltb, le-ltb, leb-true, leb-false, eqb-true}
use lib.Dec.{eqb, ltb, leb}
use lib.IntN.{ℤ}
use lib.ListN.{length}
use Rattle.whole.specs.Cases.{if}
use Rattle.theory.specs.Widths.{steps_most, bytes_most}
use Rattle.theory.specs.Valid.{among}
use Rattle.theory.specs.Verdict.{Verdict, refusal, Site, or, verdict}
use Rattle.theory.specs.Load.{site_at}
use Rattle.theory.specs.Solve.{early}
use Rattle.theory.specs.Listing.{text, written, ListingOut, listing_refusal, listing}
use Rattle.text_plan.specs.Plan.{upto}
use Rattle.text_listing.specs.Refusal.{rooted, rows_good, plan_refusal, refused_listing, plan_listing}
use Rattle.text_listing.proofs.Every.{every, and_right}

-- ---- what a length within the room says

upto_over : (room n : ℕ) → room < upto room n → room < n
unfolding upto
upto_over room n h = go (leb n room) refl h
  where
    go : (b : Bool) → leb n room ≡ b → room < if b n (room + 1) → room < n
    go true e h = h
    go false e h = leb-false n room e

upto_within : (room n : ℕ) → upto room n ≤ room → upto room n ≡ n
unfolding upto
upto_within room n h = go (leb n room) h
  where
    go : (b : Bool) → if b n (room + 1) ≤ room → if b n (room + 1) ≡ n
    go true h = refl
    go false h = absurd (omega arith)

-- n is the text's length, size what was counted of it, and the room is what the buffer has from the place on
module _ (len at n : ℕ) {size : ℕ} (h : at ≤ len) (e : size ≡ upto (len - at) n) where
  pub too_long : len - at < size → len < at + n
  too_long o = omega (arith, upto_over (len - at) n (omega arith))

  pub fitting : size ≤ len - at → (at + n ≤ len) × (size ≡ n)
  fitting o =
      let s : size ≡ n = e ∙ upto_within (len - at) n (omega arith) in
      (omega arith, s)

-- ---- a plan of an accepted model

module _ (S : Site) (H : ℕ) (nodes : List ℤ) (stages buffer : List ℕ) (at : ℕ) where
  abbrev whole : List ℕ
  whole = text S H nodes stages

  abbrev done : ListingOut
  done = record { number = 0; place = 0; size = length whole; buffer = written buffer at whole }

  pub plan_refused : (number : ℕ) → number ≡ plan_refusal S H nodes stages → (number ≡ 0 → ⊥) → refused_listing number 0 buffer ≡ plan_listing S H nodes stages buffer at
  unfolding plan_listing
  plan_refused number e f = rw (← e) (rw (ne_eqb number 0 f))

  pub plan_17 : {number : ℕ} → number ≡ plan_refusal S H nodes stages → number ≡ 0 → length buffer < at + length whole → refused_listing 17 0 buffer ≡ plan_listing S H nodes stages buffer at
  unfolding plan_listing
  plan_17 p z h = let e = sym z ∙ p in rw (← e, lt-ltb (length buffer) (at + length whole) h)

  pub plan_written : {number size : ℕ} {after : List ℕ} → number ≡ plan_refusal S H nodes stages → number ≡ 0 → at + length whole ≤ length buffer → size ≡ length whole → after ≡ written buffer at whole
      → record { number = 0; place = 0; size = size; buffer = after } ≡ plan_listing S H nodes stages buffer at
  unfolding plan_listing
  plan_written n z h p q =
      let e = sym z ∙ n in
      (λ i. record { number = 0; place = 0; size = p i; buffer = q i }) ∙ rw (← e, le-ltb (length buffer) (at + length whole) h)

-- ---- document 01's

passed : (e : Verdict) (t a b c : Bool) (ok : ListingOut) (buffer : List ℕ) → t ≡ false
    → (let number = if (not a) 15 (if (not b) 14 0) in if (not (eqb number 0)) (refused_listing number 0 buffer) (if c (refused_listing 17 0 buffer) ok))
    ≡ (let v = if t e (if (not a) (refusal 15 0) (if (not b) (refusal 14 0) (if c (refusal 17 0) (refusal 0 0)))) in if (eqb v.number 0) ok (refused_listing v.number v.place buffer))
passed e true a b c ok buffer f = absurd (let z : ◌≡◌ {A = ℕ} 0 1 = cc in omega arith)
passed e false false b c ok buffer f = refl
passed e false true false c ok buffer f = refl
passed e false true true true ok buffer f = refl
passed e false true true false ok buffer f = refl

module _ (B : List ℕ) (H : ℕ) (nodes : List ℤ) (stages buffer : List ℕ) (at : ℕ) where
  abbrev first : Verdict
  first = early B H (length stages)

  passing : first.number ≡ 0 → plan_listing (site_at B) H nodes stages buffer at ≡ listing B H nodes stages buffer at
  unfolding plan_listing plan_refusal listing listing_refusal
  passing e =
      let t = text (site_at B) H nodes stages in
      passed first (not (eqb first.number 0)) (every (rooted stages) H) (rows_good (site_at B) H nodes stages) (ltb (length buffer) (at + length t))
      (record { number = 0; place = 0; size = length t; buffer = written buffer at t }) buffer (ap not (eq-eqb first.number 0 e))

  -- v is what the code found, S the site and r the outcome of the plan
  pub listing_passed : {v : Verdict} {S : Site} {r : ListingOut} → v ≡ first → v.number ≡ 0 → S ≡ site_at B → r ≡ plan_listing S H nodes stages buffer at → r ≡ listing B H nodes stages buffer at
  listing_passed e z s r = r ∙ ap (λ (S : Site). plan_listing S H nodes stages buffer at) s ∙ passing (ap (λ (v : Verdict). v.number) (sym e) ∙ z)

  stopping : (first.number ≡ 0 → ⊥) → refused_listing first.number first.place buffer ≡ listing B H nodes stages buffer at
  unfolding listing listing_refusal
  stopping f =
      let z : eqb first.number 0 ≡ false = ne_eqb first.number 0 f in
      rw z (rw z)

  pub listing_stopped : {v : Verdict} {r : ListingOut} → v ≡ first → (v.number ≡ 0 → ⊥) → r ≡ refused_listing v.number v.place buffer → r ≡ listing B H nodes stages buffer at
  listing_stopped e f r =
      r
      ∙ ap (λ (v : Verdict). refused_listing v.number v.place buffer) e
      ∙ stopping (λ z. f (ap (λ (v : Verdict). v.number) e ∙ z))

-- what early has judged
pub early_judged : (B : List ℕ) (H words : ℕ) {v : Verdict} → v ≡ early B H words → v.number ≡ 0 → (H ≤ words) × (H ≤ steps_most)
unfolding early among
early_judged B H words s z =
    let r = go (eqb words steps_most) (ltb bytes_most (length B)) (among steps_most H) (verdict B) (ap (λ (v : Verdict). v.number) (sym s) ∙ z) in
    let w = eqb-true words steps_most r.0 in
    let h = leb-true H steps_most (and_right (leb 1 H) (leb H steps_most) r.1) in
    (omega arith, h)
  where
    go : (a b c : Bool) (v : Verdict) → (if (or (not a) b) (refusal 10 0) (if (not c) (refusal 9 0) v)).number ≡ 0 → (a ≡ true) × (c ≡ true)
    go false b c v e = absurd (omega arith)
    go true true c v e = absurd (omega arith)
    go true false false v e = absurd (omega arith)
    go true false true v e = (refl, refl)
