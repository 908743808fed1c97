-- What is read at a stage: as the value call reads it, refused with 13, 15 or 14 or with none.
use mathlib.Core.Path.{◌≡◌, refl, sym, ap, ◌∙◌}
use mathlib.Core.Bool.{Bool, true, false, not, ◌&&◌}
use mathlib.Core.List.{List, [], ◌∷◌}
use Prim.Native.Nat.{ℕ, zero, suc, ◌+◌, ◌-◌, ◌*◌, ◌^◌, ◌≤◌, ◌<◌}
use native.Mathlib.Omega.{arith}
use borrow.Author.Tests.{eq-eqb, ne_eqb}
use lib.Dec.{T, eqb, ltb}
use lib.IntN.{ℤ, pos, negsuc, nat_abs}
use lib.ListN.{length, get_or, take, drop}
use lib.Signed.{le_z, mag, non_neg}
use mir.Syntax.{w32}
use mir.Val.{Fits, Val}
use denote.Shadow.{shadow}
use denote.Array.{each}
use denote.Signed.{SInt}
use Rattle.whole.specs.Cases.{if, both, by_test, from_true}
use Rattle.whole.specs.Int.{up}
use Rattle.whole.proofs.Signed.{R32, back32}
use Rattle.whole.specs.Numerator.{number, words}
use Rattle.theory.specs.Widths.{levels_most, steps_most}
use Rattle.theory.specs.Diagram.{zeros}
use Rattle.theory.specs.Verdict.{Site, from_to}
use Rattle.theory.specs.Listing.{lines}
use Rattle.theory.specs.Load.{site_at}
use Rattle.theory.specs.Solve.{early}
use Rattle.theory.specs.Name.{name}
use Rattle.theory.specs.Value.{Asked, accepted, node_linear, high_of, numerator_of, walk, ValueOut, refused_value, value_at, value_of, den_above}
use Rattle.value_walk.specs.declared.Asked.{Asked as CodeAsked}
use Rattle.value_walk.specs.State.{asked}
use Rattle.value_walk.specs.Out.{value_after}
use Rattle.whole_division.specs.Floor.{floor_by}
use Rattle.text_page_lines.specs.Page.{page_line, whole_part, line_at, page_text}
use Rattle.text_page_lines.specs.Columns.{FittingLine}
use Rattle.text_page_lines.specs.Uncut.{Signed32}
use Rattle.text_page_lines.proofs.Uncut.{line_fits, line_bytes}
use Rattle.text_page.specs.Stages.{read_after, spared, Shown}
use Rattle.theory.proofs.laws.Rows.{Passed}
use Rattle.text_page.proofs.Early.{passed, weights_some}

-- ---- the state

abs_narrow : (z : ℤ) → mag z < 2 ^ 31 → nat_abs z ≤ 2147483648
abs_narrow (pos n) h = omega arith
abs_narrow (negsuc n) h = omega arith

-- what owning an array of 32-bit numbers tells of them
abbrev Owned : List ℤ → List Val → Type 0
Owned l us = shadow (each ℤ (SInt w32).own_val l us)

each_narrow : (l : List ℤ) (us : List Val) → Owned l us → (i : ℕ) → nat_abs (get_or l i (pos 0)) ≤ 2147483648
each_narrow [] us o i = omega arith
each_narrow (z ∷ l) [] o i = absurd o
each_narrow (z ∷ l) (u ∷ us) o zero = abs_narrow z o.0.1
each_narrow (z ∷ l) (u ∷ us) o (suc i) = each_narrow l us o.1 i

taken_narrow : (k : ℕ) (l : List ℤ) → ((i : ℕ) → nat_abs (get_or l i (pos 0)) ≤ 2147483648) → (i : ℕ) → nat_abs (get_or (take k l) i (pos 0)) ≤ 2147483648
taken_narrow zero l f i = omega arith
taken_narrow (suc k) [] f i = omega arith
taken_narrow (suc k) (z ∷ l) f zero = f 0
taken_narrow (suc k) (z ∷ l) f (suc i) = taken_narrow k l (λ j. f (suc j)) i

-- a state's numbers as the code has them
pub narrow_state : (q : CodeAsked) (us : List Val) → Owned q.n us → Signed32 (asked q)
narrow_state q us o = let f = each_narrow q.n us o in record { nums = taken_narrow levels_most q.n f; den = f levels_most }

-- ---- by the site

module _ (B : List ℕ) (S : Site) (nodes : List ℤ) (stages : List ℕ) (q : Asked) (h : ℕ) (s : S ≡ site_at B) where
  pub read_is : (early B h (length stages)).number ≡ 0 → read_after S nodes stages q h ≡ value_of B nodes stages h q
  unfolding value_of value_after
  read_is e =
      let v = early B h (length stages) in
      ap (λ (S : Site). read_after S nodes stages q h) s
      ∙ ap (λ (b : Bool). if b (read_after (site_at B) nodes stages q h) (refused_value v.number v.place)) (sym (eq-eqb v.number 0 e))

-- ---- the numbers

-- a reading by three tests
abbrev by_tests : Bool → Bool → ValueOut → ValueOut
by_tests a z v = if a (if z (refused_value 15 0) v) (refused_value 13 0)

at_number : (q : Asked) (W : List ℤ) (r : ℕ) → not (eqb (value_at q W r).number 14) ≡ true → (value_at q W r).number ≡ 0
unfolding value_at
at_number q W r = by_test (eqb r 0) (λ b. not (eqb (if b (refused_value 14 0) (record
    { number = 0; place = 0; action = nat_abs (high_of W r); numerator = words (numerator_of q (node_linear W r)) })).number 14) ≡ true → (if b (refused_value 14 0)
    (record { number = 0; place = 0; action = nat_abs (high_of W r); numerator = words (numerator_of q (node_linear W r)) })).number ≡ 0)
    (λ t e. absurd (let z : ◌≡◌ {A = ℕ} 0 1 = cc in omega arith))
    (λ t e. refl)

module _ (S : Site) (nodes : List ℤ) (stages : List ℕ) (q : Asked) (h : ℕ) where
  abbrev there : ValueOut
  there = value_at q nodes (walk S.conditions S.actions q nodes (get_or stages (h - 1) 0) (get_or stages (h - 1) 0))

  after_is : read_after S nodes stages q h ≡ by_tests (accepted S.levels S.conditions q) (eqb (get_or stages (h - 1) 0) 0) there
  unfolding value_after
  after_is = refl

  free : (a z : Bool) (v : ValueOut) → (not (eqb v.number 14) ≡ true → v.number ≡ 0) → not (eqb (by_tests a z v).number 13) ≡ true → not
      (eqb (by_tests a z v).number 15) ≡ true → not (eqb (by_tests a z v).number 14) ≡ true → (by_tests a z v).number ≡ 0
  free true true v k e f g = absurd (let z : ◌≡◌ {A = ℕ} 0 1 = cc in omega arith)
  free true false v k e f g = k g
  free false z v k e f g = absurd (let z : ◌≡◌ {A = ℕ} 0 1 = cc in omega arith)

  -- a reading that none of the numbers refuses
  pub read_free : spared S nodes stages q 13 h ≡ true → spared S nodes stages q 15 h ≡ true → spared S nodes stages q 14 h ≡ true → (read_after S nodes stages q h).number ≡ 0
  unfolding value_after
  read_free = free (accepted S.levels S.conditions q) (eqb (get_or stages (h - 1) 0) 0) there (at_number q nodes _)

  taken_as : (a : Bool) → accepted S.levels S.conditions q ≡ a → (z : Bool) (v : ValueOut) → (by_tests a z v).number ≡ 0 → T (accepted S.levels S.conditions q)
  taken_as false p z v e = absurd (omega arith)
  taken_as true p z v e = from_true p

  -- an accepted state's denominator
  pub den_some : (read_after S nodes stages q h).number ≡ 0 → 0 < up q.den
  unfolding value_after accepted
  den_some e = den_above q.den (both (le_z (pos 1) q.den) (ltb q.mask (2 ^ S.conditions) && zeros (drop S.levels q.nums)) (taken_as (accepted S.levels S.conditions q) refl (eqb (get_or stages (h - 1) 0) 0) there e)).0

-- ---- a number that refuses a stage, or not

module _ (S : Site) (nodes : List ℤ) (stages : List ℕ) (q : Asked) (k h : ℕ) {v : ValueOut} (e : v ≡ value_after S.levels S.conditions S.actions nodes (get_or stages h 0) q) where
  read_next : v ≡ read_after S nodes stages q (h + 1)
  read_next = let s : h ≡ h + 1 - 1 = omega arith in e ∙ ap (λ (i : ℕ). value_after S.levels S.conditions S.actions nodes (get_or stages i 0) q) s

  as_number : spared S nodes stages q k (h + 1) ≡ not (eqb v.number k)
  as_number = ap (λ (v : ValueOut). not (eqb v.number k)) (sym read_next)

  pub spared_not : v.number ≡ k → spared S nodes stages q k (h + 1) ≡ false
  spared_not n = as_number ∙ ap not (eq-eqb v.number k n)

  pub spared_yes : (v.number ≡ k → ⊥) → spared S nodes stages q k (h + 1) ≡ true
  spared_yes n = as_number ∙ ap not (ne_eqb v.number k n)

-- ---- the lines

module _ (B : List ℕ) (H : ℕ) (nodes : List ℤ) (stages : List ℕ) (q : Asked) where
  pub lines_are : lines (line_at B nodes stages q) (from_to 1 H) ≡ page_text B H nodes stages q
  unfolding page_text
  lines_are = refl

  pub lines_room : (at : ℕ) {size : ℕ} → at + length (page_text B H nodes stages q) ≤ size → at + length (lines (line_at B nodes stages q) (from_to 1 H)) ≤ size
  lines_room at h = rw lines_are h

-- ---- a stage whose line can be written

module _ {B : List ℕ} {S : Site} {nodes : List ℤ} {stages : List ℕ} {q : Asked} {h : ℕ} (w : Shown B S nodes stages q h) where
  in_stages : Passed B h (length stages)
  in_stages = passed B (length stages) h w.passed

  pub shown_steps : (1 ≤ h) × (h ≤ length stages) × (h ≤ steps_most)
  shown_steps = let p = in_stages in (p.least, omega (arith, p.most, p.eight), p.most)

  shown_read : read_after S nodes stages q h ≡ value_of B nodes stages h q
  shown_read = read_is B S nodes stages q h w.site w.passed

  pub shown_divisor : (0 < S.weights) × (0 < up q.den) × (h ≤ steps_most)
  shown_divisor =
      let p = in_stages in
      (omega (arith, weights_some B (length stages) h w.passed, ap (λ (S : Site). S.weights) w.site), den_some S nodes stages q h (ap (λ (v : ValueOut). v.number) shown_read ∙ w.read), p.most)

  module _ {v : ValueOut} (e : v ≡ read_after S nodes stages q h) where
    reads : v ≡ value_of B nodes stages h q
    reads = e ∙ shown_read

    pub part_is : {z : ℤ} {d : ℕ} → d ≡ up q.den → z ≡ floor_by (number v.numerator) (d * S.weights ^ (S.conditions * h)) → z ≡ whole_part B q h (value_of B nodes stages h q).numerator
    unfolding whole_part
    part_is e p = p ∙ (λ i. floor_by (number (reads i).numerator) (e i * (w.site i).weights ^ ((w.site i).conditions * h)))

    pub action_as : v.action ≡ (value_of B nodes stages h q).action
    action_as = ap (λ (v : ValueOut). v.action) reads

    pub name_as : {t : List ℕ} → t ≡ name B v.action → t ≡ name B (value_of B nodes stages h q).action
    name_as p = p ∙ ap (λ (v : ValueOut). name B v.action) reads

  module _ (f : Signed32 q) {z : ℤ} {t : List ℕ} (p : z ≡ whole_part B q h (value_of B nodes stages h q).numerator) (n : t ≡ name B (value_of B nodes stages h q).action) where
    pub holds : FittingLine h z t
    holds = let k = shown_steps in rw (p, n) (line_fits B nodes stages q f h (omega arith))

    pub room : {size : ℕ} → length (line_at B nodes stages q h) ≤ size → 51 ≤ size
    room l = let k = shown_steps in omega (arith, line_bytes B nodes stages q f h (omega arith))

    pub line_is : {a : ℕ} → a ≡ (value_of B nodes stages h q).action → page_line h a z t ≡ line_at B nodes stages q h
    unfolding line_at
    line_is k = λ i. page_line h (k i) (p i) (n i)

-- a denominator as it is read from an array
module _ (z : ℤ) (f : mag z < 2 ^ 31) where
  pub divisor_read : {a h : ℕ} → (0 < a) × (0 < up z) × (h ≤ steps_most) → (0 < a) × (0 < up (R32 z)) × (h ≤ steps_most)
  divisor_read p = (p.0, rw (back32 z (record { sfits = f })) p.1, p.2)

  pub den_read : up (R32 z) ≡ up z
  den_read = ap up (back32 z (record { sfits = f }))

-- what a denominator of 1 or more is read as
module _ (z : ℤ) (f : mag z < 2 ^ 31) (s : 0 < up z) where
  as_up : R32 z ≡ pos (up z)
  as_up = back32 z (record { sfits = f }) ∙ go z s
    where
      go : (z : ℤ) → 0 < up z → z ≡ pos (up z)
      go (pos n) s = refl
      go (negsuc n) s = absurd (omega arith)

  pub den_fits : T (non_neg (R32 z)) × Fits w32 (nat_abs (R32 z))
  den_fits = rw as_up (tt, go z f)
    where
      go : (z : ℤ) → mag z < 2 ^ 31 → Fits w32 (up z)
      go (pos n) f = record { fits = omega arith }
      go (negsuc n) f = record { fits = omega arith }

  pub den_is : nat_abs (R32 z) ≡ up z
  den_is = ap nat_abs as_up
