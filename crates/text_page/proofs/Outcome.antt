-- The outcome of a page: of an accepted model, and as document 02 has it.
use mathlib.Core.Path.{◌≡◌, refl, sym, ap, ap₂, ◌∙◌}
use mathlib.Core.Bool.{Bool, true, false, not, ◌&&◌}
use mathlib.Core.Logic.{◌⊎◌, ⊎_elim}
use mathlib.Core.List.{List}
use Prim.Native.Nat.{ℕ, zero, suc, ◌+◌, ◌-◌, ◌*◌, ◌≤◌, ◌<◌}
use native.Mathlib.Omega.{arith}
use borrow.Author.Tests.{eq-eqb, ne_eqb, eqb-true, eqb-false, lt-ltb, le-ltb}
use lib.Dec.{eqb, ltb}
use lib.IntN.{ℤ}
use lib.ListN.{length}
use Rattle.whole.specs.Cases.{if, by_eq}
use Rattle.theory.specs.Valid.{all}
use Rattle.theory.specs.Verdict.{Verdict, refusal, Site, from_to}
use Rattle.theory.specs.Load.{site_at}
use Rattle.theory.specs.Solve.{early}
use Rattle.theory.specs.Value.{Asked, ValueOut, value_of}
use Rattle.theory.specs.Listing.{written, ListingOut}
use Rattle.text_listing.specs.Refusal.{refused_listing}
use Rattle.text_page_lines.specs.Page.{page_text, meets, page_refusal, page}
use Rattle.text_page_lines.specs.Uncut.{Signed32}
use Rattle.text_page_lines.proofs.Uncut.{page_bytes}
use Rattle.text_page.specs.Stages.{read_after, spared, stages_refusal, Shown}
use Rattle.text_page.proofs.Early.{passed, stage_passed}
use Rattle.text_page.proofs.Read.{read_is, read_free}

-- ---- all stages

all_same : (p r : ℕ → Bool) (a k : ℕ) → ((i : ℕ) → a ≤ i → i < a + k → p i ≡ r i) → all p (from_to a k) ≡ all r (from_to a k)
unfolding all from_to
all_same p r a zero f = refl
all_same p r a (suc k) f = ap₂ ◌&&◌ (f a (omega arith) (omega arith)) (all_same p r (suc a) k (λ i g h. f i (omega arith) (omega arith)))

and_left : (a b : Bool) → a && b ≡ true → a ≡ true
and_left true b e = refl
and_left false b e = e

and_right : (a b : Bool) → a && b ≡ true → b ≡ true
and_right true b e = e
and_right false b e = absurd (let z : ◌≡◌ {A = ℕ} 0 1 = cc in omega arith)

all_each : (p : ℕ → Bool) (a k : ℕ) → all p (from_to a k) ≡ true → (i : ℕ) → a ≤ i → i < a + k → p i ≡ true
unfolding all from_to
all_each p a zero e i g h = absurd (omega arith)
all_each p a (suc k) e i g h = by_eq (eqb i a) (λ b. p i ≡ true)
    (λ t. ap p (eqb-true i a t) ∙ and_left (p a) _ e)
    (λ t. all_each p (suc a) k (and_right (p a) _ e) i (above i a g (eqb-false i a t)) (omega arith))
  where
    above : (i a : ℕ) → a ≤ i → (i ≡ a → ⊥) → suc a ≤ i
    above i a g f = omega arith

-- ---- 13, 15, 14

none_of : (a b c : Bool) → ◌≡◌ {A = ℕ} (if (not a) 13 (if (not b) 15 (if (not c) 14 0))) 0 → (a ≡ true) × (b ≡ true) × (c ≡ true)
none_of true true true e = (refl, refl, refl)
none_of true true false e = absurd (omega arith)
none_of true false c e = absurd (omega arith)
none_of false b c e = absurd (omega arith)

module _ (S : Site) (H : ℕ) (nodes : List ℤ) (stages : List ℕ) (q : Asked) where
  abbrev every : ℕ → Bool
  every k = all (spared S nodes stages q k) (from_to 1 H)

  pub stages_13 : every 13 ≡ false → 13 ≡ stages_refusal S H nodes stages q
  unfolding stages_refusal
  stages_13 e = rw e

  pub stages_15 : every 13 ≡ true → every 15 ≡ false → 15 ≡ stages_refusal S H nodes stages q
  unfolding stages_refusal
  stages_15 e f = rw (e, f)

  pub stages_14 : every 13 ≡ true → every 15 ≡ true → every 14 ≡ false → 14 ≡ stages_refusal S H nodes stages q
  unfolding stages_refusal
  stages_14 e f g = rw (e, f, g)

  pub stages_none : every 13 ≡ true → every 15 ≡ true → every 14 ≡ true → 0 ≡ stages_refusal S H nodes stages q
  unfolding stages_refusal
  stages_none e f g = rw (e, f, g)

  free_all : stages_refusal S H nodes stages q ≡ 0 → (every 13 ≡ true) × (every 15 ≡ true) × (every 14 ≡ true)
  unfolding stages_refusal
  free_all e = none_of (every 13) (every 15) (every 14) e

  free_each : stages_refusal S H nodes stages q ≡ 0 → (h : ℕ) → 1 ≤ h → h ≤ H → (read_after S nodes stages q h).number ≡ 0
  free_each e h g l =
      let t = free_all e in
      read_free S nodes stages q h (all_each (spared S nodes stages q 13) 1 H t.0 h g (omega arith))
      (all_each (spared S nodes stages q 15) 1 H t.1 h g (omega arith)) (all_each (spared S nodes stages q 14) 1 H t.2 h g (omega arith))

-- ---- the outcome by its tests

-- a, b, c: no stage is refused with 13, 15, 14; d: the buffer is too short
chosen : (v : Verdict) (t a b c d : Bool) (done : ListingOut) (buffer : List ℕ) → t ≡ false
    → (let number : ℕ = if (not a) 13 (if (not b) 15 (if (not c) 14 0)) in if (not (eqb number 0)) (refused_listing number 0 buffer) (if d (refused_listing 17 0 buffer) done))
    ≡ (let r = if t v (if (not a) (refusal 13 0) (if (not b) (refusal 15 0) (if (not c) (refusal 14 0) (if d (refusal 17 0) (refusal 0 0))))) in if (eqb r.number 0) done (refused_listing r.number r.place buffer))
chosen v true a b c d done buffer e = absurd (let z : ◌≡◌ {A = ℕ} 0 1 = cc in omega arith)
chosen v false false b c d done buffer e = refl
chosen v false true false c d done buffer e = refl
chosen v false true true false d done buffer e = refl
chosen v false true true true true done buffer e = refl
chosen v false true true true false done buffer e = refl

module _ (B : List ℕ) (S : Site) (H : ℕ) (nodes : List ℤ) (stages : List ℕ) (q : Asked) (buffer : List ℕ) (at : ℕ)
    (p : ((early B H (length stages)).number ≡ 0) × (S ≡ site_at B)) where
  abbrev whole : List ℕ
  whole = page_text B H nodes stages q

  abbrev done : ListingOut
  done = record { number = 0; place = 0; size = length whole; buffer = written buffer at whole }

  same : (k : ℕ) → all (λ h. not (eqb (value_of B nodes stages h q).number k)) (from_to 1 H) ≡ all (spared S nodes stages q k) (from_to 1 H)
  same k = all_same _ (spared S nodes stages q k) 1 H
      (λ h g l. ap (λ (v : ValueOut). not (eqb v.number k)) (sym (read_is B S nodes stages q h p.1 (stage_passed B (length stages) H h p.0 g (omega arith)))))

  -- the outcome by whether no stage is refused with 13, 15, 14
  abbrev tests : Bool → Bool → Bool → ListingOut
  tests a b c =
      let number : ℕ = if (not a) 13 (if (not b) 15 (if (not c) 14 0)) in
      if (not (eqb number 0)) (refused_listing number 0 buffer) (if (ltb (length buffer) (at + length whole)) (refused_listing 17 0 buffer) done)

  by_tests : (let number = stages_refusal S H nodes stages q in if (not (eqb number 0)) (refused_listing number 0 buffer) (if (ltb (length buffer) (at + length whole)) (refused_listing 17 0 buffer) done))
      ≡ page B H nodes stages q buffer at
  unfolding page page_refusal meets stages_refusal
  by_tests =
      let v = early B H (length stages) in
      let none : ℕ → Bool = λ k. all (λ h. not (eqb (value_of B nodes stages h q).number k)) (from_to 1 H) in
      sym (λ i. tests (same 13 i) (same 15 i) (same 14 i))
      ∙ chosen v (not (eqb v.number 0)) (none 13) (none 15) (none 14) (ltb (length buffer) (at + length whole)) done buffer (ap not (eq-eqb v.number 0 p.0))

  module _ (number : ℕ) (e : number ≡ stages_refusal S H nodes stages q) where
    pub page_refused : (number ≡ 0 → ⊥) → refused_listing number 0 buffer ≡ page B H nodes stages q buffer at
    page_refused f = (let z = ne_eqb number 0 f in go number e z) ∙ by_tests
      where
        go : (number : ℕ) → number ≡ stages_refusal S H nodes stages q → eqb number 0 ≡ false → refused_listing number 0 buffer
            ≡ (let number = stages_refusal S H nodes stages q in if (not (eqb number 0)) (refused_listing number 0 buffer) (if (ltb (length buffer) (at + length whole)) (refused_listing 17 0 buffer) done))
        go number e z = rw (← e, z)

    module _ (z : number ≡ 0) (s : Signed32 q) where
      is_free : stages_refusal S H nodes stages q ≡ 0
      is_free = sym e ∙ z

      bytes : length whole ≡ 51 * H
      bytes = page_bytes B nodes stages q s H (passed B (length stages) H p.0).most

      pub page_17 : (length buffer < at) ⊎ (length buffer - at < 51 * H) → refused_listing 17 0 buffer ≡ page B H nodes stages q buffer at
      page_17 h = rw (is_free, lt-ltb (length buffer) (at + length whole) (⊎_elim (λ a. omega (arith, bytes)) (λ a. omega (arith, bytes)) h)) at by_tests

      pub page_room : at ≤ length buffer → 51 * H ≤ length buffer - at → at + length whole ≤ length buffer
      page_room a b = omega (arith, bytes)

      pub page_shown : (h : ℕ) → 1 ≤ h → h ≤ H → Shown B S nodes stages q h
      page_shown h g l =
          let t = stage_passed B (length stages) H h p.0 g l in
          record { passed = t; site = p.1; read = ap (λ (v : ValueOut). v.number) (sym (read_is B S nodes stages q h p.1 t)) ∙ free_each S H nodes stages q is_free h g l }

      pub page_written : at ≤ length buffer → 51 * H ≤ length buffer - at → {size : ℕ} {after : List ℕ} → size ≡ 51 * H → after ≡ written buffer at whole
          → record { number = 0; place = 0; size = size; buffer = after } ≡ page B H nodes stages q buffer at
      page_written a b {size} {after} c d =
          (λ i. record { number = 0; place = 0; size = (c ∙ sym bytes) i; buffer = d i })
          ∙ (rw (is_free, le-ltb (length buffer) (at + length whole) (page_room a b)) at by_tests)

-- refused early
module _ (B : List ℕ) (H : ℕ) (nodes : List ℤ) (stages : List ℕ) (q : Asked) (buffer : List ℕ) (at : ℕ) where
  stopping : ((early B H (length stages)).number ≡ 0 → ⊥) → refused_listing (early B H (length stages)).number (early B H (length stages)).place buffer ≡ page B H nodes stages q buffer at
  unfolding page page_refusal
  stopping f =
      let z : eqb (early B H (length stages)).number 0 ≡ false = ne_eqb (early B H (length stages)).number 0 f in
      rw z (rw z)

  pub page_stopped : {v : Verdict} {r : ListingOut} → v ≡ early B H (length stages) → (v.number ≡ 0 → ⊥) → r ≡ refused_listing v.number v.place buffer → r ≡ page B H nodes stages q buffer at
  page_stopped e f r =
      r
      ∙ ap (λ (v : Verdict). refused_listing v.number v.place buffer) e
      ∙ stopping (λ z. f (ap (λ (v : Verdict). v.number) e ∙ z))
