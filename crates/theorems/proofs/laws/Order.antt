-- The order of tests is strict and total.
use Rattle.std.specs.Prelude.{◌≡◌, refl, ◌⊎◌, not, ◌&&◌, List, [], ◌∷◌, T, ℤ, pos, negsuc, ◌<ℤ◌}
use Rattle.std.proofs.Common.{sym, ap, ◌∙◌, subst, inl, inr, ⊎_elim, arith, eqb→eq, leb→le, lt→ltb}
use Prim.Native.Nat.{ℕ, ◌<◌, compare, Ordering}
use Rattle.std.proofs.Math.Dec.{compare_is_eq, is_le, eqb_refl, nleb→lt}
use Rattle.std.specs.Int.Signed.{lt_z}
use Rattle.whole.specs.Cases.{both, and_in}
use Rattle.theory.specs.Diagram.{Linear, Test, now, later, linear, then, cmp_ℤ, cmp_list, cmp_linear, cmp}
use Rattle.theory.specs.Rules.{parallel}
use Rattle.theorems.specs.Ordered.{is_lt, before}
use Rattle.theory.proofs.laws.Comps.{cmp_ℤ_eq, cmp_ℤ_refl, cmp_list_eq, cmp_list_refl}

abbrev pub lt : Ordering
lt = Ordering.lt

abbrev pub eq : Ordering
eq = Ordering.eq

abbrev pub gt : Ordering
gt = Ordering.gt

-- a case split that keeps the equation
pub by_cases : (o : Ordering) (P : Ordering → Type 0) → (o ≡ lt → P lt) → (o ≡ eq → P eq) → (o ≡ gt → P gt) → P o
by_cases Ordering.lt P a b c = a refl
by_cases Ordering.eq P a b c = b refl
by_cases Ordering.gt P a b c = c refl

pub gt_lt : gt ≡ lt → ⊥
gt_lt e = subst (λ (o : Ordering). T (not (is_lt o))) e tt

eq_lt : eq ≡ lt → ⊥
eq_lt e = subst (λ (o : Ordering). T (not (is_lt o))) e tt

lt_gt : lt ≡ gt → ⊥
lt_gt e = subst (λ (o : Ordering). T (is_lt o)) e tt

eq_gt : eq ≡ gt → ⊥
eq_gt e = subst (λ (o : Ordering). T (compare_is_eq o)) e tt

pub is_eq : {o : Ordering} → o ≡ eq → T (compare_is_eq o)
is_eq e = subst (λ (o : Ordering). T (compare_is_eq o)) (sym e) tt

-- a comparison that is an order
record Lawful {A : Type 0} (c : A → A → Ordering) : Type 0 where
  self : (a : A) → c a a ≡ eq
  same : (a b : A) → c a b ≡ eq → a ≡ b
  flip : (a b : A) → c a b ≡ gt → c b a ≡ lt
  trans : (a b d : A) → c a b ≡ lt → c b d ≡ lt → c a d ≡ lt

-- ---- numbers

eq_of : (o : Ordering) → T (compare_is_eq o) → o ≡ eq
eq_of Ordering.lt t = absurd t
eq_of Ordering.eq t = refl
eq_of Ordering.gt t = absurd t

pub lt_of : (a b : ℕ) → compare a b ≡ lt → a < b
lt_of a b e =
    let h = leb→le a b (subst (λ (o : Ordering). T (is_le o)) (sym e) tt) in
    let n : a ≡ b → ⊥ = λ z. subst (λ (o : Ordering). T (compare_is_eq o)) e (subst (λ (x : ℕ). T (compare_is_eq (compare a x))) z (eqb_refl a)) in
    omega (arith, h, n)

gt_of : (a b : ℕ) → compare a b ≡ gt → b < a
gt_of a b e = nleb→lt a b (subst (λ (o : Ordering). T (not (is_le o))) (sym e) tt)

lt_in : (a b : ℕ) → a < b → compare a b ≡ lt
lt_in a b h = by_cases (compare a b) (λ o. o ≡ lt) (λ _. refl) (λ e. absurd (omega (arith, eqb→eq a b (is_eq e)))) (λ e. absurd (omega (arith, gt_of a b e)))

naturals : Lawful compare
naturals = record {
  self = λ a. eq_of (compare a a) (eqb_refl a);
  same = λ a b e. eqb→eq a b (is_eq e);
  flip = λ a b e. lt_in b a (gt_of a b e);
  trans = λ a b d e f. lt_in a d (omega (arith, lt_of a b e, lt_of b d f));
}

flip_ℤ : (a b : ℤ) → cmp_ℤ a b ≡ gt → cmp_ℤ b a ≡ lt
flip_ℤ (pos a) (pos b) e = naturals.flip a b e
flip_ℤ (pos a) (negsuc b) e = refl
flip_ℤ (negsuc a) (pos b) e = absurd (lt_gt e)
flip_ℤ (negsuc a) (negsuc b) e = naturals.flip b a e

trans_ℤ : (a b d : ℤ) → cmp_ℤ a b ≡ lt → cmp_ℤ b d ≡ lt → cmp_ℤ a d ≡ lt
trans_ℤ (pos a) (pos b) (pos d) e f = naturals.trans a b d e f
trans_ℤ (pos a) (pos b) (negsuc d) e f = absurd (gt_lt f)
trans_ℤ (pos a) (negsuc b) d e f = absurd (gt_lt e)
trans_ℤ (negsuc a) (pos b) (pos d) e f = refl
trans_ℤ (negsuc a) (pos b) (negsuc d) e f = absurd (gt_lt f)
trans_ℤ (negsuc a) (negsuc b) (pos d) e f = refl
trans_ℤ (negsuc a) (negsuc b) (negsuc d) e f = naturals.trans d b a f e

integers : Lawful cmp_ℤ
integers = record { self = cmp_ℤ_refl; same = λ a b e. cmp_ℤ_eq a b (is_eq e); flip = flip_ℤ; trans = trans_ℤ }

-- ---- by the first order, then by the second

lex : (o₁ o₂ o₃ p₁ p₂ p₃ : Ordering) → (o₁ ≡ lt → o₂ ≡ lt → o₃ ≡ lt) → (o₁ ≡ lt → o₂ ≡ eq → o₃ ≡ lt) → (o₁ ≡ eq → o₂ ≡ lt → o₃ ≡ lt) → (o₁ ≡ eq → o₂ ≡ eq → o₃ ≡ eq)
    → (p₁ ≡ lt → p₂ ≡ lt → p₃ ≡ lt) → then o₁ p₁ ≡ lt → then o₂ p₂ ≡ lt → then o₃ p₃ ≡ lt
lex Ordering.lt Ordering.lt o₃ p₁ p₂ p₃ a b c d r e f = ap (λ (o : Ordering). then o p₃) (a refl refl)
lex Ordering.lt Ordering.eq o₃ p₁ p₂ p₃ a b c d r e f = ap (λ (o : Ordering). then o p₃) (b refl refl)
lex Ordering.lt Ordering.gt o₃ p₁ p₂ p₃ a b c d r e f = absurd (gt_lt f)
lex Ordering.eq Ordering.lt o₃ p₁ p₂ p₃ a b c d r e f = ap (λ (o : Ordering). then o p₃) (c refl refl)
lex Ordering.eq Ordering.eq o₃ p₁ p₂ p₃ a b c d r e f = ap (λ (o : Ordering). then o p₃) (d refl refl) ∙ r e f
lex Ordering.eq Ordering.gt o₃ p₁ p₂ p₃ a b c d r e f = absurd (gt_lt f)
lex Ordering.gt o₂ o₃ p₁ p₂ p₃ a b c d r e f = absurd (gt_lt e)

lex_flip : (o o' p p' : Ordering) → (o ≡ gt → o' ≡ lt) → (o ≡ eq → o' ≡ eq) → (p ≡ gt → p' ≡ lt) → then o p ≡ gt → then o' p' ≡ lt
lex_flip Ordering.lt o' p p' a b r e = absurd (lt_gt e)
lex_flip Ordering.eq o' p p' a b r e = ap (λ (o : Ordering). then o p') (b refl) ∙ r e
lex_flip Ordering.gt o' p p' a b r e = ap (λ (o : Ordering). then o p') (a refl)

module _ {A : Type 0} {c : A → A → Ordering} (L : Lawful c) (p₁ p₂ p₃ : Ordering) where
  lex_trans : (a b d : A) → (p₁ ≡ lt → p₂ ≡ lt → p₃ ≡ lt) → then (c a b) p₁ ≡ lt → then (c b d) p₂ ≡ lt → then (c a d) p₃ ≡ lt
  lex_trans a b d r = lex (c a b) (c b d) (c a d) p₁ p₂ p₃ (L.trans a b d)
      (λ e f. subst (λ (x : A). c a x ≡ lt) (L.same b d f) e)
      (λ e f. subst (λ (x : A). c x d ≡ lt) (sym (L.same a b e)) f)
      (λ e f. subst (λ (x : A). c x d ≡ eq) (sym (L.same a b e)) f)
      r

  lex_back : (a b : A) → (p₁ ≡ gt → p₂ ≡ lt) → then (c a b) p₁ ≡ gt → then (c b a) p₂ ≡ lt
  lex_back a b r = lex_flip (c a b) (c b a) p₁ p₂ (L.flip a b) (λ e. subst (λ (x : A). c x a ≡ eq) (L.same a b e) (L.self a)) r

flip_list : (a b : List ℤ) → cmp_list a b ≡ gt → cmp_list b a ≡ lt
unfolding cmp_list
flip_list [] [] e = absurd (eq_gt e)
flip_list [] (b ∷ s) e = absurd (lt_gt e)
flip_list (a ∷ r) [] e = refl
flip_list (a ∷ r) (b ∷ s) e = lex_back integers (cmp_list r s) (cmp_list s r) eq a b (λ h. flip_list r s h) e

trans_list : (a b d : List ℤ) → cmp_list a b ≡ lt → cmp_list b d ≡ lt → cmp_list a d ≡ lt
unfolding cmp_list
trans_list [] [] d e f = absurd (eq_lt e)
trans_list [] (b ∷ s) [] e f = absurd (gt_lt f)
trans_list [] (b ∷ s) (d ∷ t) e f = refl
trans_list (a ∷ r) [] d e f = absurd (gt_lt e)
trans_list (a ∷ r) (b ∷ s) [] e f = absurd (gt_lt f)
trans_list (a ∷ r) (b ∷ s) (d ∷ t) e f = lex_trans integers (cmp_list r s) (cmp_list s t) (cmp_list r t) a b d (λ h i. trans_list r s t h i) e f

lists : Lawful cmp_list
lists = record { self = cmp_list_refl; same = λ a b e. cmp_list_eq a b (is_eq e); flip = flip_list; trans = trans_list }

flip_linear : (p q : Linear) → cmp_linear p q ≡ gt → cmp_linear q p ≡ lt
unfolding cmp_linear
flip_linear p q e = lex_back lists (cmp_ℤ p.const q.const) (cmp_ℤ q.const p.const) eq p.coeffs q.coeffs (flip_ℤ p.const q.const) e

trans_linear : (p q r : Linear) → cmp_linear p q ≡ lt → cmp_linear q r ≡ lt → cmp_linear p r ≡ lt
unfolding cmp_linear
trans_linear p q r e f = lex_trans lists (cmp_ℤ p.const q.const) (cmp_ℤ q.const r.const) (cmp_ℤ p.const r.const) p.coeffs q.coeffs r.coeffs
    (trans_ℤ p.const q.const r.const) e f

-- ---- tests

flip_test : (t u : Test) → cmp t u ≡ gt → cmp u t ≡ lt
unfolding cmp
flip_test (now i) (now j) e = naturals.flip i j e
flip_test (now i) (later j) e = absurd (lt_gt e)
flip_test (now i) (linear q) e = absurd (lt_gt e)
flip_test (later i) (now j) e = refl
flip_test (later i) (later j) e = naturals.flip i j e
flip_test (later i) (linear q) e = absurd (lt_gt e)
flip_test (linear p) (now j) e = refl
flip_test (linear p) (later j) e = refl
flip_test (linear p) (linear q) e = flip_linear p q e

trans_test : (t u v : Test) → cmp t u ≡ lt → cmp u v ≡ lt → cmp t v ≡ lt
unfolding cmp
trans_test (now i) (now j) (now k) e f = naturals.trans i j k e f
trans_test (now i) (now j) (later k) e f = refl
trans_test (now i) (now j) (linear r) e f = refl
trans_test (now i) (later j) (now k) e f = absurd (gt_lt f)
trans_test (now i) (later j) (later k) e f = refl
trans_test (now i) (later j) (linear r) e f = refl
trans_test (now i) (linear q) (now k) e f = absurd (gt_lt f)
trans_test (now i) (linear q) (later k) e f = refl
trans_test (now i) (linear q) (linear r) e f = refl
trans_test (later i) (now j) v e f = absurd (gt_lt e)
trans_test (later i) (later j) (now k) e f = absurd (gt_lt f)
trans_test (later i) (later j) (later k) e f = naturals.trans i j k e f
trans_test (later i) (later j) (linear r) e f = refl
trans_test (later i) (linear q) (now k) e f = absurd (gt_lt f)
trans_test (later i) (linear q) (later k) e f = absurd (gt_lt f)
trans_test (later i) (linear q) (linear r) e f = refl
trans_test (linear p) (now j) v e f = absurd (gt_lt e)
trans_test (linear p) (later j) v e f = absurd (gt_lt e)
trans_test (linear p) (linear q) (now k) e f = absurd (gt_lt f)
trans_test (linear p) (linear q) (later k) e f = absurd (gt_lt f)
trans_test (linear p) (linear q) (linear r) e f = trans_linear p q r e f

-- ---- before

pub lt_is : (o : Ordering) → T (is_lt o) → o ≡ lt
lt_is Ordering.lt t = refl
lt_is Ordering.eq t = absurd t
lt_is Ordering.gt t = absurd t

pub before_lt : (t u : Test) → cmp t u ≡ lt → T (before t u)
unfolding before
before_lt t u e = subst (λ (o : Ordering). T (is_lt o)) (sym e) tt

pub before_gt : (t u : Test) → cmp t u ≡ gt → T (before u t)
before_gt t u e = before_lt u t (flip_test t u e)

pub before_trans : (t u v : Test) → T (before t u) → T (before u v) → T (before t v)
unfolding before
before_trans t u v a b = before_lt t v (trans_test t u v (lt_is (cmp t u) a) (lt_is (cmp u v) b))

-- no test comes before itself
pub not_before : (t u : Test) → T (compare_is_eq (cmp t u)) → T (before t u) → ⊥
unfolding before
not_before t u e b = eq_lt (sym (eq_of (cmp t u) e) ∙ lt_is (cmp t u) b)

-- ---- parallel tests

pub below : (a b : ℤ) → cmp_ℤ a b ≡ lt → a <ℤ b
below (pos a) (pos b) e = record { lt = lt→ltb a b (lt_of a b e) }
below (pos a) (negsuc b) e = absurd (gt_lt e)
below (negsuc a) (pos b) e = record { lt = tt }
below (negsuc a) (negsuc b) e = record { lt = lt→ltb b a (lt_of b a e) }

-- by the coefficients, or by the constant where they are the same
lex_lt : (o p : Ordering) → then o p ≡ lt → (o ≡ lt) ⊎ ((o ≡ eq) × (p ≡ lt))
lex_lt Ordering.lt p e = inl refl
lex_lt Ordering.eq p e = inr (refl, e)
lex_lt Ordering.gt p e = absurd (gt_lt e)

between_linear : (p q r : Linear) → cmp_linear p q ≡ lt → cmp_linear q r ≡ lt → p.coeffs ≡ r.coeffs → T (compare_is_eq (cmp_list p.coeffs q.coeffs) && lt_z p.const q.const)
unfolding cmp_linear
between_linear p q r e f s = ⊎_elim
    (λ a. absurd (eq_lt (sym (lists.self p.coeffs) ∙ subst (λ (l : List ℤ). cmp_list p.coeffs l ≡ lt) (sym s) (lower a (lex_lt _ _ f)))))
    (λ a. and_in (compare_is_eq (cmp_list p.coeffs q.coeffs)) (lt_z p.const q.const) (is_eq a.0) (below p.const q.const a.1).lt)
    (lex_lt _ _ e)
  where
    lower : cmp_list p.coeffs q.coeffs ≡ lt → (cmp_list q.coeffs r.coeffs ≡ lt) ⊎ ((cmp_list q.coeffs r.coeffs ≡ eq) × (cmp_ℤ q.const r.const ≡ lt)) → cmp_list p.coeffs r.coeffs ≡ lt
    lower a d = ⊎_elim (λ b. lists.trans p.coeffs q.coeffs r.coeffs a b) (λ b. subst (λ (l : List ℤ). cmp_list p.coeffs l ≡ lt) (lists.same q.coeffs r.coeffs b.0) a) d

-- what stands between a test and one parallel to it is parallel to it too
pub between : (t u v : Test) → T (before t u) → T (before u v) → T (parallel t v) → T (parallel t u)
unfolding parallel before cmp
between (now i) u v a b q = absurd q
between (later i) u v a b q = absurd q
between (linear p) u (now j) a b q = absurd q
between (linear p) u (later j) a b q = absurd q
between (linear p) (now i) (linear r) a b q = absurd a
between (linear p) (later i) (linear r) a b q = absurd a
between (linear p) (linear s) (linear r) a b q =
    between_linear p s r (lt_is _ a) (lt_is _ b) (cmp_list_eq p.coeffs r.coeffs (both (compare_is_eq (cmp_list p.coeffs r.coeffs)) (lt_z p.const r.const) q).0)
