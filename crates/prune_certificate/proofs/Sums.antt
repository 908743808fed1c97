-- What a node adds to the sum.
use mathlib.Core.Path.{◌≡◌, refl, sym, ap, ap₂, ◌∙◌}
use mathlib.Core.Bool.{Bool, true, false, not, ◌&&◌}
use mathlib.Core.List.{List}
use Prim.Native.Nat.{ℕ, ◌+◌, ◌-◌, ◌*◌, ◌≤◌}
use native.Mathlib.Omega.{arith}
use borrow.Author.Tests.{ne_eqb, eq-eqb}
use lib.Dec.{T, eqb, leb, eqb→eq, leb→le, nleb→lt}
use lib.IntN.{ℤ, pos, neg_ℤ, nat_abs, ◌+ℤ◌, ◌*ℤ◌, *ℤ_comm, +ℤ_idr}
use lib.ListN.{get_or, take, drop}
use lib.Signed.{le_z}
use Rattle.whole.specs.Cases.{if, by_test, is_true}
use Rattle.whole.specs.Linears.{numbers}
use Rattle.whole.specs.declared.Numerator.{Numerator}
use Rattle.whole.specs.Numerator.{number}
use Rattle.whole.specs.NumeratorLaws.{Product, SumOf}
use Rattle.whole.specs.Within.{limit, Small, small}
use Rattle.theory.specs.Widths.{levels_most, node_words}
use Rattle.theory.specs.Value.{node_word, node_linear}
use Rattle.theory.specs.Rows.{KindFits, fits_leaf, fits_condition, fits_test, fits_none}
use Rattle.theory.proofs.laws.Fits.{part_word}
use Rattle.theory.proofs.laws.PlainLimits.{back_62}
use Rattle.prune_certificate.specs.Path.{GoodNode, is_test, tests, number_at, part, Joined, low_here}
use Rattle.prune_certificate.proofs.Rows.{node_kind}

abbrev counted : Bool → ℕ
counted b = if b 1 0

one_true : (b : Bool) → counted b ≡ 1 → T b
one_true true q = tt
one_true false q = absurd (omega arith)

not_one : (b : Bool) → (counted b ≡ 1 → ⊥) → b ≡ false
not_one true q = absurd (q refl)
not_one false q = refl

module _ (W : List ℤ) (r n : ℕ) (e : n ≡ tests W r) where
  pub so_test : n ≡ 1 → T (is_test W r)
  unfolding tests
  so_test q = one_true (is_test W r) (sym e ∙ q)

  pub no_test : (n ≡ 1 → ⊥) → is_test W r ≡ false
  unfolding tests
  no_test q = not_one (is_test W r) (λ z. q (e ∙ z))

the_small : (z : ℤ) → T (small z) → Small z
unfolding small
the_small z t = record { small = leb→le (nat_abs z) limit t }

-- a test's numbers lie within the limits
pub word_small : (W : List ℤ) (r w : ℕ) → GoodNode W r → 1 ≤ w → w ≤ numbers → T (is_test W r) → Small (node_word W r w)
word_small W r w g h l t = go (node_kind g)
  where
    other : (k : ℕ) → (k ≡ 2 → ⊥) → node_word W r 0 ≡ pos k → Small (node_word W r w)
    other k q e = absurd (q (sym (ap nat_abs e) ∙ eqb→eq (nat_abs (node_word W r 0)) 2 t))

    go : KindFits g.good.conditions g.good.actions W r → Small (node_word W r w)
    go (fits_leaf e _ _ _) = other 0 (λ q. omega arith) e
    go (fits_condition e _ _ _) = other 1 (λ q. omega arith) e
    go (fits_test e f _) = the_small (node_word W r w) (back_62 (node_word W r w) (f w (h, l)))
    go (fits_none e _) = other 3 (λ q. omega arith) e

-- the words of a node are its linear's numbers
pub word_is : (W : List ℤ) (r w : ℕ) → 1 ≤ w → w ≤ numbers → number_at w (node_linear W r) ≡ node_word W r w
unfolding number_at node_linear
word_is W r w h l = by_test (leb w levels_most) (λ _. number_at w (node_linear W r) ≡ node_word W r w)
    (λ t. let k = leb→le w levels_most t in
    ap which (ne_eqb w numbers (λ q. omega arith)) ∙ (part_word levels_most (b + 1) W (w - 1) (omega arith) ∙ ap (λ (j : ℕ). get_or W j (pos 0)) (on b w h)))
    (λ t. let k = nleb→lt w levels_most t in let e : w ≡ numbers = omega arith in
    ap which (eq-eqb w numbers e) ∙ ap (λ (j : ℕ). node_word W r j) (sym e))
  where
    b : ℕ
    b = (r - 1) * node_words

    which : Bool → ℤ
    which x = if x (node_word W r (levels_most + 1)) (get_or (take levels_most (drop (b + 1) W)) (w - 1) (pos 0))

    on : (b w : ℕ) → 1 ≤ w → b + 1 + (w - 1) ≡ b + w
    on b w h = omega arith

module _ (W : List ℤ) (r w b : ℕ) (k : ℤ) where
  part_test : T (is_test W r) → node_word W r w *ℤ if (eqb b 1) k (neg_ℤ k) ≡ part W r w b k
  unfolding part
  part_test t = *ℤ_comm (node_word W r w) (if (eqb b 1) k (neg_ℤ k)) ∙ sym (ap (λ x. if x (if (eqb b 1) k (neg_ℤ k) *ℤ node_word W r w) (pos 0)) (is_true (is_test W r) t))

  part_none : is_test W r ≡ false → part W r w b k ≡ pos 0
  unfolding part
  part_none t = ap (λ x. if x (if (eqb b 1) k (neg_ℤ k) *ℤ node_word W r w) (pos 0)) t

  pub joined_test : (x y s : Numerator) (z m : ℤ) → T (is_test W r) → z ≡ node_word W r w → m ≡ if (eqb b 1) k (neg_ℤ k) → Product (z *ℤ m) y → SumOf x y s → Joined x (part W r w b k) s
  joined_test x y s z m t q p c d =
      let u = c.bounded in
      record { is = d.is ∙ ap (λ v. number x +ℤ v) (c.is ∙ (ap₂ (λ (a b : ℤ). a *ℤ b) q p ∙ part_test t)); bounded = omega (arith, d.bounded) }

  pub joined_none : (x : Numerator) → is_test W r ≡ false → Joined x (part W r w b k) x
  joined_none x t = record { is = sym (ap (λ v. number x +ℤ v) (part_none t) ∙ +ℤ_idr (number x)); bounded = omega arith }

module _ (n b : ℕ) (k : ℤ) where
  pub low_no_test : (n ≡ 1 → ⊥) → false ≡ low_here n b k
  unfolding low_here
  low_no_test q = sym (ap (λ x. x && (not (eqb b 1) && le_z (pos 1) k)) (ne_eqb n 1 q))

  pub low_high : n ≡ 1 → b ≡ 1 → false ≡ low_here n b k
  unfolding low_here
  low_high q p = sym (ap₂ (λ x y. x && (not y && le_z (pos 1) k)) (eq-eqb n 1 q) (eq-eqb b 1 p))

  pub low_low : (m : ℤ) → m ≡ k → n ≡ 1 → (b ≡ 1 → ⊥) → le_z (pos 1) m ≡ low_here n b k
  unfolding low_here
  low_low m e q p = ap (le_z (pos 1)) e ∙ sym (ap₂ (λ x y. x && (not y && le_z (pos 1) k)) (eq-eqb n 1 q) (ne_eqb b 1 p))

pub tests_most : (W : List ℤ) (r n : ℕ) → n ≡ tests W r → n ≤ 1
unfolding tests
tests_most W r n e = rw e (go (is_test W r))
  where
    go : (b : Bool) → counted b ≤ 1
    go true = omega arith
    go false = omega arith
