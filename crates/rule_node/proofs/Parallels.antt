-- Parallel tests, by words and by tests; one step of narrowing.
use mathlib.Core.Path.{◌≡◌, refl, sym, ap, ap₂, ◌∙◌, subst}
use mathlib.Core.Bool.{Bool, true, false, ◌&&◌}
use mathlib.Core.List.{List, [], ◌∷◌}
use Prim.Native.Nat.{ℕ, zero, suc, ◌^◌, ◌<◌, Ordering}
use native.Mathlib.Nat.{suc_inj}
use native.Mathlib.Omega.{arith}
use lib.Dec.{T, compare_is_eq, eqb, eqb→eq, eqb_refl}
use lib.IntN.{ℤ, pos, negsuc, nat_abs}
use lib.ListN.{length, get_or, set, take}
use lib.Signed.{non_neg, lt_z, mag}
use Rattle.whole.specs.Cases.{if, same_bool}
use Rattle.whole.specs.Linears.{numbers, eq_list}
use Rattle.whole.specs.LinearsLaws.{eq_ℤ_refl}
use Rattle.table.proofs.Words.{R, back}
use Rattle.table.proofs.Look.{eq_ℤ_true}
use Rattle.table.proofs.Leaf.{leaf_untested}
use Rattle.table.specs.Table.{node_at, eq_ℤ, is_leaf}
use Rattle.table.specs.declared.Node.{Node}
use Rattle.theory.specs.Widths.{levels_most}
use Rattle.theory.specs.Diagram.{Linear, Test, now, later, linear, Tree, leaf, branch, then, cmp_ℤ, cmp_list}
use Rattle.theory.specs.Rules.{parallel, narrowed}
use Rattle.rule_node.specs.Nodes.{linear_held, constant_of, first_of, condition_of, test_held, tree_at, Tested, Good, Proper}
use Rattle.rule_node.specs.Roots.{parallel_of}
use Rattle.rule_node.proofs.Trees.{test_con, test_lin, by_word, later_is, now_is, at_leaf, at_branch}

no : {A : Type 0} → true ≡ false → A
no e = absurd (let z : ◌≡◌ {A = ℕ} 0 1 = cc in omega arith)

-- ---- the same coefficients, by the numbers with the constant made equal

eqb_swap : (a b : ℕ) → eqb a b ≡ eqb b a
eqb_swap a b = same_bool (eqb a b) (eqb b a) (λ t. subst (λ (x : ℕ). T (eqb x a)) (eqb→eq a b t) (eqb_refl a)) (λ t. subst (λ (x : ℕ). T (eqb x b)) (eqb→eq b a t) (eqb_refl b))

equal_order : (a b : ℤ) → eq_ℤ a b ≡ compare_is_eq (cmp_ℤ a b)
unfolding eq_ℤ
equal_order (pos a) (pos b) = refl
equal_order (pos a) (negsuc b) = refl
equal_order (negsuc a) (pos b) = refl
equal_order (negsuc a) (negsuc b) = eqb_swap a b

then_equal : (o p : Ordering) → (compare_is_eq o && compare_is_eq p) ≡ compare_is_eq (then o p)
then_equal Ordering.lt p = refl
then_equal Ordering.eq p = refl
then_equal Ordering.gt p = refl

pub but_last : (m : ℕ) (a b : List ℤ) → length a ≡ suc m → length b ≡ suc m → eq_list (set a m (get_or b m (pos 0))) b ≡ compare_is_eq (cmp_list (take m a) (take m b))
unfolding cmp_list eq_list
but_last m [] b e d = absurd (omega arith)
but_last m (x ∷ a) [] e d = absurd (omega arith)
but_last zero (x ∷ []) (y ∷ []) e d = ap (λ (t : Bool). t && true) (eq_ℤ_refl y)
but_last zero (x ∷ []) (y ∷ z ∷ b) e d = absurd (omega arith)
but_last zero (x ∷ w ∷ a) (y ∷ b) e d = absurd (omega arith)
but_last (suc m) (x ∷ a) (y ∷ b) e d = ap₂ ◌&&◌ (equal_order x y) (but_last m a b (suc_inj e) (suc_inj d)) ∙ then_equal (cmp_ℤ x y) (cmp_list (take m a) (take m b))

-- ---- conditions have no parallel tests

now_none : (i : ℕ) (u : Test) → parallel (now i) u ≡ false
unfolding parallel
now_none i u = refl

later_none : (i : ℕ) (u : Test) → parallel (later i) u ≡ false
unfolding parallel
later_none i u = refl

con_none : (i : ℕ) (u : Test) → parallel (condition_of i) u ≡ false
con_none i u = by_word i (λ p. ap (λ (t : Test). parallel t u) (later_is i p) ∙ later_none _ u) (λ p. ap (λ (t : Test). parallel t u) (now_is i p) ∙ now_none i u)

lin_now : (p : Linear) (j : ℕ) → parallel (linear p) (now j) ≡ false
unfolding parallel
lin_now p j = refl

lin_later : (p : Linear) (j : ℕ) → parallel (linear p) (later j) ≡ false
unfolding parallel
lin_later p j = refl

lin_con : (p : Linear) (j : ℕ) → parallel (linear p) (condition_of j) ≡ false
lin_con p j = by_word j (λ q. ap (parallel (linear p)) (later_is j q) ∙ lin_later p _) (λ q. ap (parallel (linear p)) (now_is j q) ∙ lin_now p j)

-- ---- by words as by tests

module _ (x y : Node) where
  -- where the kinds and the numbers say so
  pub by_words : (a b c : Bool) → eq_ℤ x.kind (pos 2) ≡ a → eq_ℤ y.kind (pos 2) ≡ b → parallel (linear (linear_held x)) (linear (linear_held y)) ≡ c → (a && (b && c)) ≡ parallel_of x y
  unfolding parallel_of
  by_words a b c p q r = λ i. sym p i && (sym q i && sym r i)

  pub first_not : eq_ℤ x.kind (pos 2) ≡ false → false ≡ parallel_of x y
  first_not e = by_words false (eq_ℤ y.kind (pos 2)) (parallel (linear (linear_held x)) (linear (linear_held y))) e refl refl

  pub second_not : eq_ℤ y.kind (pos 2) ≡ false → false ≡ parallel_of x y
  second_not e = none (eq_ℤ x.kind (pos 2)) ∙ by_words (eq_ℤ x.kind (pos 2)) false (parallel (linear (linear_held x)) (linear (linear_held y))) refl e refl
    where
      none : (b : Bool) → false ≡ (b && false)
      none true = refl
      none false = refl

  module _ (k : eq_ℤ x.kind (pos 2) ≡ true) (j : eq_ℤ y.kind (pos 2) ≡ true) (f : mag (constant_of x) < 2 ^ 63) (g : mag (constant_of y) < 2 ^ 63) where
    less : {t : Bool} → lt_z (R (constant_of x)) (R (constant_of y)) ≡ t → lt_z (constant_of x) (constant_of y) ≡ t
    less e = sym (ap₂ lt_z (back (constant_of x) f) (back (constant_of y) g)) ∙ e

    tests_are : (a b : Bool) → compare_is_eq (cmp_list (linear_held x).coeffs (linear_held y).coeffs) ≡ a → lt_z (constant_of x) (constant_of y) ≡ b → (a && b) ≡ parallel (linear (linear_held x)) (linear (linear_held y))
    unfolding parallel linear_held
    tests_are a b p q = λ i. sym p i && sym q i

    none : (b : Bool) → (b && false) ≡ false
    none true = refl
    none false = refl

    one : (b : Bool) → (b && true) ≡ b
    one true = refl
    one false = refl

    abbrev same_coefficients : Bool
    same_coefficients = compare_is_eq (cmp_list (linear_held x).coeffs (linear_held y).coeffs)

    -- the constant is not larger
    pub constant_not : lt_z (R (constant_of x)) (R (constant_of y)) ≡ false → false ≡ parallel_of x y
    constant_not e = by_words true true false k j (sym (sym (none same_coefficients) ∙ tests_are same_coefficients false refl (less e)))

    -- it is, and the numbers with it in its place are the same or not
    pub constant_larger : length x.n ≡ numbers → length y.n ≡ numbers → lt_z (R (constant_of x)) (R (constant_of y)) ≡ true → {r : Bool} → r ≡ eq_list (set x.n levels_most (R (constant_of y))) y.n → r ≡ parallel_of x y
    unfolding linear_held
    constant_larger ex ey e {r} d =
        let s : r ≡ compare_is_eq (cmp_list (linear_held x).coeffs (linear_held y).coeffs) = d ∙ (ap (λ (z : ℤ). eq_list (set x.n levels_most z) y.n) (back (constant_of y) g) ∙ but_last levels_most x.n y.n ex ey) in
        by_words true true r k j (sym (sym (one r) ∙ tests_are r true (sym s) (less e)))

module _ (t x : Node) (v : Tested t) where
  kind_two : (y : Node) → Tested y → eq_ℤ y.kind (pos 1) ≡ false → eq_ℤ y.kind (pos 2) ≡ true
  unfolding eq_ℤ
  kind_two y w e = ap (λ (z : ℤ). eq_ℤ z (pos 2)) (w.kind e)

  not_two : (y : Node) (i : ℕ) → (eq_ℤ (pos i) (pos 2) ≡ false) → eq_ℤ y.kind (pos i) ≡ true → eq_ℤ y.kind (pos 2) ≡ false
  not_two y i n e = ap (λ (z : ℤ). eq_ℤ z (pos 2)) (eq_ℤ_true y.kind (pos i) e) ∙ n

  one_two : eq_ℤ (pos 1) (pos 2) ≡ false
  unfolding eq_ℤ
  one_two = refl

  pub parallel_leaf : is_leaf x.kind ≡ true → parallel_of t x ≡ false
  parallel_leaf q = sym (second_not t x (leaf_untested x.kind q))

  pub parallel_tests : Tested x → parallel_of t x ≡ parallel (test_held t) (test_held x)
  parallel_tests w = go (eq_ℤ t.kind (pos 1)) (eq_ℤ x.kind (pos 1)) refl refl
    where
      go : (a b : Bool) → eq_ℤ t.kind (pos 1) ≡ a → eq_ℤ x.kind (pos 1) ≡ b → parallel_of t x ≡ parallel (test_held t) (test_held x)
      go true b p q = sym (first_not t x (not_two t 1 one_two p)) ∙ sym (ap (λ (u : Test). parallel u (test_held x)) (test_con t p) ∙ con_none (nat_abs (first_of t)) (test_held x))
      go false true p q = sym (second_not t x (not_two x 1 one_two q)) ∙ sym (ap₂ parallel (test_lin t p) (test_con x q) ∙ lin_con (linear_held t) (nat_abs (first_of x)))
      go false false p q = sym (by_words t x true true _ (kind_two t v p) (kind_two x w q) refl) ∙ sym (ap₂ parallel (test_lin t p) (test_lin x q))

-- ---- a step down

leaf_stays : (t : Test) (F : Tree) {f : _} → F ≡ leaf f → F ≡ narrowed t F
unfolding narrowed
leaf_stays t F e = e ∙ sym (ap (narrowed t) e)

branch_goes : (t u : Test) (F h l : Tree) (b : Bool) → F ≡ branch u h l → parallel t u ≡ b → narrowed t F ≡ if b (narrowed t l) F
unfolding narrowed
branch_goes t u F h l b e p = ap (narrowed t) e ∙ (ap (λ (b : Bool). if b (narrowed t l) (branch u h l)) p ∙ ap (λ (G : Tree). if b (narrowed t l) G) (sym e))

module _ {s : List ℤ} {n : ℕ} (G : Good s n) (t : Node) (P : Proper t) (i : ℕ) (h : i < n) {x : Node} (e : x ≡ node_at s i) {b : Bool} (d : b ≡ parallel_of t x) where
  here : parallel_of t (node_at s i) ≡ b
  here = sym (d ∙ ap (parallel_of t) e)

  pub low_nat : T (non_neg x.low)
  low_nat = subst (λ (y : Node). T (non_neg y.low)) (sym e) (G.valid i h).low_nat

  -- it stays
  pub stays : b ≡ false → tree_at s n i ≡ narrowed (test_held t) (tree_at s n i)
  stays q = go (is_leaf (node_at s i).kind) refl
    where
      go : (c : Bool) → is_leaf (node_at s i).kind ≡ c → tree_at s n i ≡ narrowed (test_held t) (tree_at s n i)
      go true k = leaf_stays (test_held t) (tree_at s n i) (at_leaf G i h k)
      go false k = sym (branch_goes (test_held t) _ (tree_at s n i) _ _ false (at_branch G i h k) (sym (parallel_tests t (node_at s i) P.tested ((G.valid i h).tested k)) ∙ (here ∙ q)))

  -- it is replaced by its low side, which lies below it
  pub goes : b ≡ true → (nat_abs x.low < i) × (narrowed (test_held t) (tree_at s n (nat_abs x.low)) ≡ narrowed (test_held t) (tree_at s n i))
  goes q = go (is_leaf (node_at s i).kind) refl
    where
      go : (c : Bool) → is_leaf (node_at s i).kind ≡ c → (nat_abs x.low < i) × (narrowed (test_held t) (tree_at s n (nat_abs x.low)) ≡ narrowed (test_held t) (tree_at s n i))
      go true k = no (sym q ∙ (sym here ∙ parallel_leaf t (node_at s i) P.tested k))
      go false k =
          rw e ((G.valid i h).low_below k, sym (branch_goes (test_held t) _ (tree_at s n i) _ _ true (at_branch G i h k) (sym (parallel_tests t (node_at s i) P.tested ((G.valid i h).tested k)) ∙ (here ∙ q))))

  -- as the code has its index
  pub goes_to : b ≡ true → {j : ℕ} → j ≡ nat_abs x.low → (j < i) × (narrowed (test_held t) (tree_at s n j) ≡ narrowed (test_held t) (tree_at s n i))
  goes_to q {j} m = subst (λ (j : ℕ). (j < i) × (narrowed (test_held t) (tree_at s n j) ≡ narrowed (test_held t) (tree_at s n i))) (sym m) (goes q)
