-- Laws of numbers in a row: one more of them, and that those so far fit where all do.
use mathlib.Core.Path.{◌≡◌, refl, sym, ap, ◌∙◌}
use mathlib.Core.List.{List, [], ◌∷◌, ◌++◌, append_assoc, append-nil}
use Prim.Native.Nat.{ℕ, suc, ◌+◌, ◌*◌, ◌≤◌, ◌<◌}
use native.Mathlib.Numerals.{add-one}
use native.Mathlib.Omega.{arith}
use lib.IntN.{ℤ, pos}
use lib.ListN.{length, take, drop, get_or, length-append, take-append-drop}
use lib.Seq.{take-suc, take_all, drop-cons}
use Rattle.theory.specs.Listing.{spaced, spaced_all, line}
use Rattle.text_decimal.specs.Put.{PutAt, number_bytes}
use Rattle.text_decimal.proofs.Puts.{then, rename}

all_append : (a b : List ℤ) → spaced_all (a ++ b) ≡ spaced_all a ++ spaced_all b
unfolding spaced_all
all_append [] b = refl
all_append (z ∷ a) b = ap (λ (x : List ℕ). spaced z ++ x) (all_append a b) ∙ sym (append_assoc (spaced z) (spaced_all a) (spaced_all b))

all_cons : (z : ℤ) (l : List ℤ) → spaced_all (z ∷ l) ≡ spaced z ++ spaced_all l
unfolding spaced_all
all_cons z l = refl

pub all_none : (l : List ℤ) → spaced_all (take 0 l) ≡ []
unfolding spaced_all
all_none l = refl

pub all_more : (l : List ℤ) (i : ℕ) → i < length l → spaced_all (take (i + 1) l) ≡ spaced_all (take i l) ++ spaced (get_or l i (pos 0))
unfolding spaced_all
all_more l i h =
    ap (λ (k : ℕ). spaced_all (take k l)) (add-one i)
    ∙ ap spaced_all (take-suc l i (pos 0) h)
    ∙ all_append (take i l) (get_or l i (pos 0) ∷ [])
    ∙ ap (λ (x : List ℕ). spaced_all (take i l) ++ x) (append-nil (spaced (get_or l i (pos 0))))

pub all_fits : (l : List ℤ) (i : ℕ) → i < length l → length (spaced_all (take i l)) + length (spaced (get_or l i (pos 0))) ≤ length (spaced_all l)
all_fits l i h =
    let x = spaced_all (take i l) in
    let y = spaced (get_or l i (pos 0)) in
    let r = spaced_all (drop (suc i) l) in
    let e : spaced_all l ≡ x ++ (y ++ r) =
    ap spaced_all (sym (take-append-drop i l))
    ∙ all_append (take i l) (drop i l)
    ∙ ap (λ (d : List ℤ). x ++ spaced_all d) (drop-cons l i (pos 0) h)
    ∙ ap (λ (d : List ℕ). x ++ d) (all_cons (get_or l i (pos 0)) (drop (suc i) l)) in
    omega (arith, ap length e, length-append x (y ++ r), length-append y r)

-- a turn of the loop that writes them
pub record Written (l : List ℤ) (before : List ℕ) (at i next : ℕ) (after : List ℕ) : Type 0 where
  pub within : i ≤ length l
  pub kept : length after ≡ length before
  pub put : PutAt before at (spaced_all (take i l)) next after

pub written_none : (l : List ℤ) (before : List ℕ) (at : ℕ) → PutAt before at [] at before → Written l before at 0 at before
written_none l before at p = record { within = omega arith; kept = refl; put = rename (sym (all_none l)) p }

module _ (l : List ℤ) (before : List ℕ) (at i next : ℕ) (after : List ℕ) (w : Written l before at i next after)
    (h : i < length l) (fits : at + length (spaced_all l) ≤ length before) where
  pub written_room : next + length (spaced (get_or l i (pos 0))) ≤ length after
  written_room = omega (arith, all_fits l i h, w.put.behind, w.kept)

  pub written_more :
      (next' : ℕ) (after' : List ℕ) →
      length after' ≡ length after →
      PutAt after next (spaced (get_or l i (pos 0))) next' after' →
      Written l before at (i + 1) next' after'
  written_more next' after' k p = record {
    within = omega arith;
    kept = k ∙ w.kept;
    put = rename (sym (all_more l i h)) (then (omega arith) w.put p);
  }

pub written_all : {l : List ℤ} {before : List ℕ} {at i next : ℕ} {after : List ℕ} → Written l before at i next after → length l ≤ i → PutAt before at (spaced_all l) next after
written_all {l} {i = i} w h = rename (ap spaced_all (take_all i l h)) w.put

pub line_length : (start : List ℕ) (l : List ℤ) → length (line start l) ≡ length start + (length (spaced_all l) + 1)
line_length start l = omega (arith, length-append start (spaced_all l ++ (10 ∷ [])), length-append (spaced_all l) (10 ∷ []))

pub line_put :
    {start : List ℕ} (l : List ℤ) {b b₁ b₂ b₃ : List ℕ} {at n m r : ℕ} →
    at ≤ length b →
    PutAt b at start n b₁ →
    PutAt b₁ n (spaced_all l) m b₂ →
    PutAt b₂ m (10 ∷ []) r b₃ →
    PutAt b at (line start l) r b₃
line_put {start} l h p q s = rename (append_assoc start (spaced_all l) (10 ∷ [])) (then h (then h p q) s)

-- ---- how long they are

pub record Counted (l : List ℤ) (i n : ℕ) : Type 0 where
  pub within : i ≤ length l
  pub count : n ≡ length (spaced_all (take i l))
  pub short : n ≤ number_bytes * i

pub counted_none : (l : List ℤ) → Counted l 0 0
counted_none l = record { within = omega arith; count = sym (ap length (all_none l)); short = omega arith }

pub counted_more :
    (l : List ℤ) (i n m : ℕ) →
    Counted l i n →
    i < length l →
    m ≡ length (spaced (get_or l i (pos 0))) →
    m ≤ number_bytes →
    Counted l (i + 1) (n + m)
counted_more l i n m w h e s = record {
  within = omega arith;
  count = omega (arith, w.count, ap length (all_more l i h), length-append (spaced_all (take i l)) (spaced (get_or l i (pos 0))));
  short = omega (arith, w.short);
}

pub counted_all : {l : List ℤ} {i n : ℕ} → Counted l i n → length l ≤ i → (n ≡ length (spaced_all l)) × (n ≤ number_bytes * length l)
counted_all {l} {i} {n} w h = (w.count ∙ ap (λ (x : List ℤ). length (spaced_all x)) (take_all i l h), omega (arith, w.within, w.short))
