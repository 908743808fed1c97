-- A page's answer. With too short an `out` the page is judged with an empty text: what that gives is refused alike.
use mathlib.Core.Path.{◌≡◌, refl, sym, ap, ◌∙◌}
use mathlib.Core.Bool.{Bool, true, false, not}
use mathlib.Core.List.{List, [], ◌∷◌, ◌++◌}
use Prim.Native.Nat.{ℕ, zero, suc, ◌+◌, ◌≤◌, ◌<◌}
use native.Mathlib.Omega.{arith}
use borrow.Author.Tests.{lt-ltb, eqb-true}
use lib.Dec.{eqb, ltb, eqb→eq}
use lib.IntN.{ℤ, pos}
use lib.ListN.{length, length-append}
use Rattle.whole.specs.Cases.{if, by_test}
use Rattle.theory.specs.Verdict.{Verdict, refusal, from_to}
use Rattle.theory.specs.Solve.{early}
use Rattle.theory.specs.Value.{Asked, value_of}
use Rattle.theory.specs.Name.{name}
use Rattle.theory.specs.Listing.{lines, written, ListingOut}
use Rattle.text_page_lines.specs.Page.{in_decimal, right, left, value_text, page_line, whole_part, line_at, page_text, meets, page_refusal, page}
use Rattle.text_page.proofs.Early.{passed}
use Rattle.c_answers.specs.Answers.{short}
use Rattle.c_answers.specs.Texts.{listed, listing_answer}
use Rattle.c_answers.proofs.Listed.{text_short}

-- 17 stands for success too
alike : (v : Verdict) (t a b c d e : Bool) → (t ≡ true → e ≡ true)
    → short (if (not t) v (if a (refusal 13 0) (if b (refusal 15 0) (if c (refusal 14 0) (if d (refusal 17 0) (refusal 0 0)))))).number
    ≡ short (if (not t) v (if a (refusal 13 0) (if b (refusal 15 0) (if c (refusal 14 0) (if e (refusal 17 0) (refusal 0 0)))))).number
unfolding short
alike v false a b c d e f = refl
alike v true true b c d e f = refl
alike v true false true c d e f = refl
alike v true false false true d e f = refl
alike v true false false false d true f = go d
  where
    go : (d : Bool) → short (if d (refusal 17 0) (refusal 0 0)).number ≡ short (refusal 17 0).number
    go true = refl
    go false = refl
alike v true false false false d false f = absurd (let z : ◌≡◌ {A = ℕ} 0 1 = cc (f refl) in omega arith)

module _ (B : List ℕ) (H : ℕ) (nodes : List ℤ) (stages : List ℕ) (q : Asked) (at : ℕ) where
  line_some : (h : ℕ) → 0 < length (line_at B nodes stages q h)
  unfolding line_at page_line
  line_some h =
      let a = right 2 (in_decimal (pos h)) in
      let v = value_of B nodes stages h q in
      let b = (right 30 (value_text v.action (whole_part B q h v.numerator)) ++ (32 ∷ [])) ++ (left 16 (name B v.action) ++ (10 ∷ [])) in
      omega (arith, length-append (a ++ (32 ∷ [])) b, length-append a (32 ∷ []))

  -- there is a line for stage 1
  text_some : 1 ≤ H → 0 < length (page_text B H nodes stages q)
  unfolding page_text lines from_to
  text_some h = go H h
    where
      go : (H : ℕ) → 1 ≤ H → 0 < length (lines (line_at B nodes stages q) (from_to 1 H))
      go zero h = absurd (omega arith)
      go (suc k) h = omega (arith, length-append (line_at B nodes stages q 1) (lines (line_at B nodes stages q) (from_to 2 k)), line_some 1)

  refused_alike : (size : ℕ) → short (page_refusal B H nodes stages q size at).number ≡ short (page_refusal B H nodes stages q 0 at).number
  unfolding page_refusal
  refused_alike size =
      let v = early B H (length stages) in
      let n = at + length (page_text B H nodes stages q) in
      alike v (eqb v.number 0) (meets B H nodes stages q 13) (meets B H nodes stages q 15) (meets B H nodes stages q 14) (ltb size n) (ltb 0 n)
      (λ t. lt-ltb 0 n (omega (arith, text_some (passed B (length stages) H (eqb-true v.number 0 t)).least)))

  number_is : (buffer : List ℕ) → (page B H nodes stages q buffer at).number ≡ (page_refusal B H nodes stages q (length buffer) at).number
  unfolding page
  number_is buffer =
      let v = page_refusal B H nodes stages q (length buffer) at in
      let t = page_text B H nodes stages q in
      by_test (eqb v.number 0)
      (λ b. (if {A = ListingOut} b (record { number = 0; place = 0; size = length t; buffer = written buffer at t }) (record { number = v.number; place = v.place; size = 0; buffer = buffer })).number ≡ v.number)
      (λ e. sym (eqb→eq v.number 0 e)) (λ _. refl)

  -- the number with a text as it is, and with an empty one
  emptied : (buffer : List ℕ) → short (page B H nodes stages q [] at).number ≡ short (page B H nodes stages q buffer at).number
  emptied buffer = ap short (number_is []) ∙ sym (refused_alike (length buffer)) ∙ ap short (sym (number_is buffer))

  -- o is what the judging with an empty text came to
  pub page_short : (buffer : List ℕ) {o : ListingOut} {out : List ℕ} {r : ℕ} → length out < 8 → o ≡ page B H nodes stages q [] at → length o.buffer ≡ 0 → r ≡ short o.number
      → listed r out (o.buffer ++ buffer) ≡ listing_answer (page B H nodes stages q buffer at) buffer out
  page_short buffer {o} h e z s = text_short (page B H nodes stages q buffer at) o buffer h (ap (λ (w : ListingOut). short w.number) e ∙ emptied buffer) z s
