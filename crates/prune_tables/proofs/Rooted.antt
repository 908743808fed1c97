-- The words that are not 0.
use mathlib.Core.Path.{◌≡◌, refl, sym, ap, ap₂, ◌∙◌}
use mathlib.Core.Bool.{true, false}
use mathlib.Core.List.{List, [], ◌∷◌, ◌++◌, map, append-nil}
use Prim.Native.Nat.{ℕ, zero, suc, ◌+◌, ◌≤◌, ◌<◌}
use native.Mathlib.Numerals.{add-one}
use native.Mathlib.Omega.{arith}
use lib.Dec.{eqb}
use lib.ListN.{length, get_or, take, length-append}
use lib.Seq.{take-suc, length-take-le}
use Rattle.whole.specs.Cases.{if, by_test, by_eq}
use Rattle.prune_tables.specs.Tables.{rooted, before}

module _ {A : Type 0} (f : ℕ → A) where
  pub rooted_append : (a b : List ℕ) → rooted f (a ++ b) ≡ rooted f a ++ rooted f b
  unfolding rooted
  rooted_append [] b = refl
  rooted_append (r ∷ a) b =
      let e = rooted_append a b in
      by_test (eqb r 0) (λ x. if x (rooted f (a ++ b)) (f r ∷ rooted f (a ++ b)) ≡ if x (rooted f a) (f r ∷ rooted f a) ++ rooted f b) (λ _. e) (λ _. ap (λ (t : List A). f r ∷ t) e)

  pub rooted_most : (a : List ℕ) → length (rooted f a) ≤ length a
  unfolding rooted
  rooted_most [] = omega arith
  rooted_most (r ∷ a) = let h = rooted_most a in by_test (eqb r 0) (λ x. length (if x (rooted f a) (f r ∷ rooted f a)) ≤ suc (length a)) (λ _. omega arith) (λ _. omega arith)

  pub rooted_one : (r : ℕ) → eqb r 0 ≡ false → rooted f (r ∷ []) ≡ f r ∷ []
  unfolding rooted
  rooted_one r e = ap (λ x. if x [] (f r ∷ [])) e

  pub rooted_none : (r : ℕ) → eqb r 0 ≡ true → rooted f (r ∷ []) ≡ []
  unfolding rooted
  rooted_none r e = ap (λ x. if x [] (f r ∷ [])) e

  -- one word more
  pub with_root : (s : List ℕ) (h : ℕ) → h < length s → eqb (get_or s h 0) 0 ≡ false → rooted f (take (h + 1) s) ≡ rooted f (take h s) ++ (f (get_or s h 0) ∷ [])
  with_root s h l e =
      ap (λ (k : ℕ). rooted f (take k s)) (add-one h) ∙ (ap (rooted f) (take-suc s h 0 l)
      ∙ (rooted_append (take h s) (get_or s h 0 ∷ []) ∙ ap (λ (t : List A). rooted f (take h s) ++ t) (rooted_one (get_or s h 0) e)))

  pub without_root : (s : List ℕ) (h : ℕ) → h < length s → eqb (get_or s h 0) 0 ≡ true → rooted f (take (h + 1) s) ≡ rooted f (take h s)
  without_root s h l e =
      ap (λ (k : ℕ). rooted f (take k s)) (add-one h) ∙ (ap (rooted f) (take-suc s h 0 l)
      ∙ (rooted_append (take h s) (get_or s h 0 ∷ []) ∙ (ap (λ (t : List A). rooted f (take h s) ++ t) (rooted_none (get_or s h 0) e) ∙ append-nil (rooted f (take h s)))))

  -- the element of the word at index i
  pub rooted_at : (s : List ℕ) (i : ℕ) (d : A) → i < length s → eqb (get_or s i 0) 0 ≡ false → get_or (rooted f s) (before s i) d ≡ f (get_or s i 0)
  unfolding rooted
  rooted_at [] i d l e = absurd (omega arith)
  rooted_at (r ∷ s) zero d l e = ap (λ x. get_or (if x (rooted f s) (f r ∷ rooted f s)) 0 d) e
  rooted_at (r ∷ s) (suc i) d l e =
      let q = rooted_at s i d (omega arith) e in
      let F = rooted f s in
      let I = rooted (λ r. r) (take i s) in
      by_test (eqb r 0) (λ x. get_or (if x F (f r ∷ F)) (length (if x I (r ∷ I))) d ≡ f (get_or s i 0)) (λ _. q) (λ _. q)

  -- it is there
  pub rooted_in : (s : List ℕ) (i : ℕ) → i < length s → eqb (get_or s i 0) 0 ≡ false → before s i < length (rooted f s)
  unfolding rooted
  rooted_in [] i l e = absurd (omega arith)
  rooted_in (r ∷ s) zero l e = rw e (omega arith)
  rooted_in (r ∷ s) (suc i) l e =
      let q = rooted_in s i (omega arith) e in
      let F = rooted f s in
      let I = rooted (λ r. r) (take i s) in
      by_test (eqb r 0) (λ x. length (if x I (r ∷ I)) < length (if x F (f r ∷ F))) (λ _. q) (λ _. omega arith)

-- ---- another function

pub rooted_map : {A B : Type 0} (g : A → B) (f : ℕ → A) (s : List ℕ) → map g (rooted f s) ≡ rooted (λ r. g (f r)) s
unfolding rooted
rooted_map g f [] = refl
rooted_map {A} {B} g f (r ∷ s) =
    let e = rooted_map g f s in
    by_test (eqb r 0) (λ x. map g (if x (rooted f s) (f r ∷ rooted f s)) ≡ if x (rooted (λ r. g (f r)) s) (g (f r) ∷ rooted (λ r. g (f r)) s)) (λ _. e) (λ _. ap (λ (t : List B). g (f r) ∷ t) e)

pub rooted_same : {A : Type 0} (f g : ℕ → A) (s : List ℕ) → ((i : ℕ) → i < length s → eqb (get_or s i 0) 0 ≡ false → f (get_or s i 0) ≡ g (get_or s i 0)) → rooted f s ≡ rooted g s
unfolding rooted
rooted_same f g [] q = refl
rooted_same {A} f g (r ∷ s) q =
    let e = rooted_same f g s (λ i l z. q (suc i) (omega arith) z) in
    by_eq (eqb r 0) (λ x. if x (rooted f s) (f r ∷ rooted f s) ≡ if x (rooted g s) (g r ∷ rooted g s)) (λ _. e) (λ z. ap₂ (λ (y : A) (t : List A). y ∷ t) (q 0 (omega arith) z) e)

-- ---- how many there are

pub before_most : (s : List ℕ) (i : ℕ) → i ≤ length s → before s i ≤ i
before_most s i h = omega (arith, rooted_most (λ r. r) (take i s), length-take-le i s h)

pub before_more : (s : List ℕ) (i : ℕ) → i < length s → eqb (get_or s i 0) 0 ≡ false → before s i + 1 ≡ before s (i + 1)
before_more s i l e = sym (ap length (with_root (λ r. r) s i l e) ∙ length-append (rooted (λ r. r) (take i s)) (get_or s i 0 ∷ []))

pub before_same : (s : List ℕ) (i : ℕ) → i < length s → eqb (get_or s i 0) 0 ≡ true → before s i ≡ before s (i + 1)
before_same s i l e = sym (ap length (without_root (λ r. r) s i l e))

-- ---- a property of all

pub rooted_all : {A : Type 0} (Q : A → Type 0) (f : ℕ → A) (d : A) (s : List ℕ) → ((i : ℕ) → i < length s → eqb (get_or s i 0) 0 ≡ false → Q (f (get_or s i 0))) → (j : ℕ) → j < length (rooted f s) → Q (get_or (rooted f s) j d)
unfolding rooted
rooted_all Q f d [] q j = λ l. absurd (omega arith)
rooted_all {A} Q f d (r ∷ s) q j =
    let h = rooted_all Q f d s (λ i u z. q (suc i) (omega arith) z) in
    by_eq (eqb r 0) (λ x. j < length (if x (rooted f s) (f r ∷ rooted f s)) → Q (get_or (if x (rooted f s) (f r ∷ rooted f s)) j d)) (λ _. h j)
    (λ z. first j (q 0 (omega arith) z) h)
  where
    first : (j : ℕ) → Q (f r) → ((j : ℕ) → j < length (rooted f s) → Q (get_or (rooted f s) j d)) → j < suc (length (rooted f s)) → Q (get_or (f r ∷ rooted f s) j d)
    first zero a h l = a
    first (suc j) a h l = h j (omega arith)
