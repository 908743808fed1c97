-- The answer of a call that writes a text, and a listing's. With too short an `out` the call is judged with an empty text: what that gives is refused alike.
use mathlib.Core.Path.{◌≡◌, refl, sym, ap, ◌∙◌}
use mathlib.Core.Bool.{Bool, true, false, not}
use mathlib.Core.List.{List, [], ◌∷◌, ◌++◌}
use Prim.Native.Nat.{ℕ, ◌+◌, ◌-◌, ◌≤◌, ◌<◌}
use native.Mathlib.Omega.{arith}
use borrow.Author.Tests.{lt-ltb, le-ltb}
use lib.Dec.{eqb, ltb, eqb→eq}
use lib.IntN.{ℤ}
use lib.ListN.{length, get_or, drop}
use Rattle.whole.specs.Cases.{if, by_test}
use Rattle.text_decimal.specs.Put.{PutAt}
use Rattle.theory.specs.Valid.{all}
use Rattle.theory.specs.Verdict.{Verdict, refusal, Site, from_to}
use Rattle.theory.specs.Load.{site_at}
use Rattle.theory.specs.Solve.{early}
use Rattle.theory.specs.Value.{good_row}
use Rattle.theory.specs.Listing.{first_line, greatest_root, text, written, ListingOut, listing_refusal, listing}
use Rattle.c_answers.specs.Answers.{pair_bytes, short}
use Rattle.c_answers.specs.Texts.{listed, listing_answer}
use Rattle.c_answers.proofs.Bytes.{pair_length}
use Rattle.c_answers.proofs.Answered.{at_start}

empty : {l : List ℕ} → length l ≡ 0 → l ≡ []
empty {l = []} e = refl
empty {l = x ∷ l} e = absurd (omega arith)

-- ---- a text by any definition, its outcome v

-- o is what the judging with an empty text came to, and is refused alike
pub text_short : (v o : ListingOut) (buffer : List ℕ) {out : List ℕ} {r : ℕ} → length out < 8 → short o.number ≡ short v.number → length o.buffer ≡ 0 → r ≡ short o.number
    → listed r out (o.buffer ++ buffer) ≡ listing_answer v buffer out
unfolding listing_answer
text_short v o buffer {out} h e z s =
    (λ i. listed ((s ∙ e) i) out (empty {l = o.buffer} z i ++ buffer))
    ∙ sym (ap (λ (b : Bool). if b (listed (short v.number) out buffer) (listed v.number (pair_bytes v.place v.size ++ drop 8 out) v.buffer)) (lt-ltb (length out) 8 h))

-- o is what the call came to
pub text_whole : (v : ListingOut) (buffer out : List ℕ) {o : ListingOut} {after : List ℕ} {n : ℕ} → 8 ≤ length out → o ≡ v → PutAt out 0 (pair_bytes o.place o.size) n after
    → listed o.number after o.buffer ≡ listing_answer v buffer out
unfolding listing_answer
text_whole v buffer out {o} {after} h e p =
    (λ i. listed o.number (at_start (pair_length o.place o.size) p i) o.buffer)
    ∙ ap (λ (w : ListingOut). listed w.number (pair_bytes w.place w.size ++ drop 8 out) w.buffer) e
    ∙ sym (ap (λ (b : Bool). if b (listed (short v.number) out buffer) (listed v.number (pair_bytes v.place v.size ++ drop 8 out) v.buffer)) (le-ltb (length out) 8 h))

-- ---- a listing

-- "PLAN" begins each text
text_some : (S : Site) (H : ℕ) (nodes : List ℤ) (stages : List ℕ) → 0 < length (text S H nodes stages)
unfolding text first_line
text_some S H nodes stages = omega arith

-- 17 stands for success too
judged : (v : Verdict) (t a b c : Bool)
    → short (if (not t) v (if (not a) (refusal 15 0) (if (not b) (refusal 14 0) (if c (refusal 17 0) (refusal 0 0))))).number
    ≡ short (if (not t) v (if (not a) (refusal 15 0) (if (not b) (refusal 14 0) (if true (refusal 17 0) (refusal 0 0))))).number
unfolding short
judged v false a b c = refl
judged v true false b c = refl
judged v true true false c = refl
judged v true true true true = refl
judged v true true true false = refl

module _ (B : List ℕ) (H : ℕ) (nodes : List ℤ) (stages : List ℕ) (at : ℕ) where
  refused_alike : (size : ℕ) → short (listing_refusal B H nodes stages size at).number ≡ short (listing_refusal B H nodes stages 0 at).number
  unfolding listing_refusal
  refused_alike size =
      let v = early B H (length stages) in
      let S = site_at B in
      let t = eqb v.number 0 in
      let a = all (λ h. not (eqb (get_or stages (h - 1) 0) 0)) (from_to 1 H) in
      let b = all (good_row S.conditions S.actions nodes) (from_to 1 (greatest_root H stages)) in
      let n = at + length (text S H nodes stages) in
      let e : ltb 0 n ≡ true = lt-ltb 0 n (omega (arith, text_some S H nodes stages)) in
      judged v t a b (ltb size n)
      ∙ sym (ap (λ (c : Bool). short (if (not t) v (if (not a) (refusal 15 0) (if (not b) (refusal 14 0) (if c (refusal 17 0) (refusal 0 0))))).number) e)

  number_is : (buffer : List ℕ) → (listing B H nodes stages buffer at).number ≡ (listing_refusal B H nodes stages (length buffer) at).number
  unfolding listing
  number_is buffer =
      let v = listing_refusal B H nodes stages (length buffer) at in
      let t = text (site_at B) H nodes stages in
      by_test (eqb v.number 0)
      (λ b. (if {A = ListingOut} b (record { number = 0; place = 0; size = length t; buffer = written buffer at t }) (record { number = v.number; place = v.place; size = 0; buffer = buffer })).number ≡ v.number)
      (λ e. sym (eqb→eq v.number 0 e)) (λ _. refl)

  -- the number with a text as it is, and with an empty one
  emptied : (buffer : List ℕ) → short (listing B H nodes stages [] at).number ≡ short (listing B H nodes stages buffer at).number
  emptied buffer =
      ap short (number_is [])
      ∙ sym (refused_alike (length buffer))
      ∙ ap short (sym (number_is buffer))

  -- o is what the judging with an empty text came to
  pub listing_short : (buffer : List ℕ) {o : ListingOut} {out : List ℕ} {r : ℕ} → length out < 8 → o ≡ listing B H nodes stages [] at → length o.buffer ≡ 0 → r ≡ short o.number
      → listed r out (o.buffer ++ buffer) ≡ listing_answer (listing B H nodes stages buffer at) buffer out
  listing_short buffer {o} h e z s = text_short (listing B H nodes stages buffer at) o buffer h (ap (λ (w : ListingOut). short w.number) e ∙ emptied buffer) z s
