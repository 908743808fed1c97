-- "only its own bytes are written": what a page leaves of the buffer, refused or not.
use Rattle.std.specs.Prelude.{◌≡◌, Bool, true, false, not, List, ◌++◌, ℕ, ◌+◌, ◌≤◌, eqb, ltb, ℤ, take, drop}
use Rattle.std.proofs.Math.Path.{refl}
use Rattle.std.proofs.Common.{sym, ap, ◌∙◌, append_assoc, arith, eqb→eq, length-append, length-drop, take_at, drop_at, length-take-le}
use borrow.Author.Tests.{eqb-false, ltb-false}
use Rattle.std.proofs.Math.ListN.{length}
use Rattle.whole.specs.Cases.{if, by_test}
use Rattle.theory.specs.Verdict.{Verdict, refusal}
use Rattle.theory.specs.Solve.{early}
use Rattle.theory.specs.Value.{Asked}
use Rattle.theory.specs.Listing.{written, ListingOut}
use Rattle.text_page_lines.specs.Page.{page_text, meets, page_refusal, page}

-- the buffer as it was, but for some bytes from a place on
pub record Beside (buffer : List ℕ) (at : ℕ) (o : ListingOut) : Type 0 where
  pub long : length o.buffer ≡ length buffer
  pub before : take at o.buffer ≡ take at buffer
  pub behind : drop (at + o.size) o.buffer ≡ drop (at + o.size) buffer

written_beside : (buffer t : List ℕ) (at : ℕ) → at + length t ≤ length buffer → Beside buffer at (record { number = 0; place = 0; size = length t; buffer = written buffer at t })
unfolding written
written_beside buffer t at h =
    let front = take at buffer in
    let rest = drop (at + length t) buffer in
    let n : length front ≡ at = length-take-le at buffer (omega arith) in
    let k : length (front ++ t) ≡ at + length t = omega (arith, length-append front t) in
    record {
      long = omega (arith, length-append front (t ++ rest), length-append t rest, length-drop (at + length t) buffer);
      before = take_at front (t ++ rest) at n;
      behind = ap (drop (at + length t)) (sym (append_assoc front t rest)) ∙ drop_at (front ++ t) rest (at + length t) k;
    }

-- a page that is not refused fits
fits : (v : Verdict) (t a b c d : Bool) → (if (not t) v (if a (refusal 13 0) (if b (refusal 15 0) (if c (refusal 14 0) (if d (refusal 17 0) (refusal 0 0)))))).number ≡ 0 → (t ≡ false → v.number ≡ 0 → ⊥) → d ≡ false
fits v false a b c d e f = absurd (f refl e)
fits v true true b c d e f = absurd (omega arith)
fits v true false true c d e f = absurd (omega arith)
fits v true false false true d e f = absurd (omega arith)
fits v true false false false true e f = absurd (omega arith)
fits v true false false false false e f = refl

module _ (B : List ℕ) (H : ℕ) (nodes : List ℤ) (stages : List ℕ) (q : Asked) (buffer : List ℕ) (at : ℕ) where
  abbrev text : List ℕ
  text = page_text B H nodes stages q

  room : (page_refusal B H nodes stages q (length buffer) at).number ≡ 0 → at + length text ≤ length buffer
  unfolding page_refusal
  room e =
      let v = early B H (length stages) in
      ltb-false (length buffer) (at + length text)
      (fits v (eqb v.number 0) (meets B H nodes stages q 13) (meets B H nodes stages q 15) (meets B H nodes stages q 14) (ltb (length buffer) (at + length text)) e
      (λ t z. eqb-false v.number 0 t z))

  -- nothing before the page and nothing behind it is touched, and nothing at all by a refusal
  pub only_its_own : Beside buffer at (page B H nodes stages q buffer at)
  unfolding page
  only_its_own =
      let v = page_refusal B H nodes stages q (length buffer) at in
      by_test (eqb v.number 0)
      (λ b. Beside buffer at (if b (record { number = 0; place = 0; size = length text; buffer = written buffer at text }) (record { number = v.number; place = v.place; size = 0; buffer = buffer })))
      (λ t. written_beside buffer text at (room (eqb→eq v.number 0 t)))
      (λ _. record { long = refl; before = refl; behind = refl })
