-- What each rule's result comes to where it is judged: exactness of the rules, with no word of limits or tables.
use Rattle.std.specs.Prelude.{◌≡◌, ℤ, negsuc, ◌+ℤ◌, ◌-ℤ◌, ◌*ℤ◌, ◌≤ℤ◌}
use Rattle.std.proofs.Math.Path.{refl, sym, ap, ap₂, subst}
use Rattle.std.proofs.Common.{◌∙◌, arith, mul-le-mul_right, le_of_mul-le-mul_right}
use Rattle.std.proofs.Math.Bool.{Bool, true, false}
use mathlib.Core.List.{List, [], ◌∷◌}
use Prim.Native.Nat.{Ordering}
use Prim.Native.Nat.{ℕ, zero, suc, ◌<◌}
use Rattle.std.proofs.Math.Dec.{T, compare_is_eq}
use Rattle.std.proofs.Math.IntN.{pos, +ℤ_idl, *ℤ_comm, zero-*ℤ, nat_abs}
use Rattle.std.specs.Int.Signed.{le_z, le_z_yes, lt_z, lt_z_yes, clash_ℤ}
use Rattle.whole.specs.Cases.{if, by_test, by_eq, by_order, both, same_bool, is_true, clash}
use Rattle.whole.specs.Int.{atom, up, down, diff, ring, le_in, minus_one, not_le}
use Rattle.whole.specs.Divisor.{gcd_of, gcd_all, at_least_one, Divides, gcd_left, gcd_right, divides_trans, least_divides, least_positive, quot_exact}
use Rattle.theory.specs.Diagram.{Linear, Test, now, later, linear, Leaf, some, forbidden, lin_of, act_of, permitted, no_coeffs, zero_linear, Tree, leaf}
use Rattle.theory.specs.Diagram.{branch, plain, cmp_ℤ, cmp_list, cmp, same, add_list, scale_list, ◌⊞◌, ◌⊠◌, ◌⊟◌, plus_constant, zeros, quot_list, quotient, divisor}
use Rattle.theory.specs.Diagram.{test_of}
use Rattle.theory.specs.Computation.{Comp, ret, make, result}
use Rattle.theory.specs.Computation as C
use Rattle.theory.specs.Rules.{parallel, narrowed, node, step, choose, over, merge, make_leaf, leaf_sum, leaf_product, leaf_scale, leaf_shift, leaf_complement, leaf_number, decide, leaf_best, sum}
use Rattle.theory.specs.Rules.{zero_leaf, none_leaf, product, scale, shift, complement, number, best}
use Rattle.theory.specs.Total.{Total, num, none, le_total, ◌⊕◌, weigh, max_total}
use Rattle.theory.specs.Meaning.{Env, dot, value, holds, at, leaf_worth, worth_at, level_at}
use Rattle.theory.proofs.laws.Total.{has_not_none, weigh_num}
use Rattle.theory.proofs.laws.Comps.{cmp_ℤ_eq, cmp_list_eq, cmp_eq, same_eq, result_both, result_judge}

-- ---- numbers

zero_step : (c y d : ℤ) → c ≡ pos 0 → d ≡ pos 0 → c *ℤ y +ℤ d ≡ pos 0
zero_step c y d h k = rw (h, k) (simp ring)

pub scale_sign : (c : ℤ) (d : ℕ) → 0 < d → le_z (c *ℤ pos d) (pos 0) ≡ le_z c (pos 0)
scale_sign c d h = same_bool _ _ (λ t. (there (le_z_yes t)).le) (λ t. (back (le_z_yes t)).le)
  where
    there : (c *ℤ pos d) ≤ℤ pos 0 → c ≤ℤ pos 0
    there t = rw (← atom c) (simp diff (omega (arith, le_of_mul-le-mul_right {m = up c} {n = down c} {k = d} (omega (arith, simp diff at (rw (← atom c) at t))) h)))

    back : c ≤ℤ pos 0 → (c *ℤ pos d) ≤ℤ pos 0
    back t = rw (← atom c) (simp diff (omega (arith, mul-le-mul_right d (le_in c (pos 0) t))))

pub less_sub : (a b : ℤ) → le_z (a -ℤ b) (pos 0) ≡ le_z a b
less_sub a b = same_bool _ _ (λ t. (there (le_z_yes t)).le) (λ t. (back (le_z_yes t)).le)
  where
    there : (a -ℤ b) ≤ℤ pos 0 → a ≤ℤ b
    there h = rw (← atom a, ← atom b) (simp diff (omega (arith, simp diff at (rw (← atom a, ← atom b) at h))))

    back : a ≤ℤ b → (a -ℤ b) ≤ℤ pos 0
    back h = rw (← atom a, ← atom b) (simp diff (omega (arith, le_in)))

less_le : (a b : ℤ) → T (lt_z a b) → a ≤ℤ b
less_le a b t = le_z_yes (by_test (le_z a b) T (λ _. tt) (λ n. clash_ℤ (lt_z_yes t) (not_le a b n)))

-- above zero with one constant, and so with a larger one
above_zero : (x c d : ℤ) (n : ℕ) → le_z (x +ℤ c *ℤ pos n) (pos 0) ≡ false → c ≤ℤ d → le_z (x +ℤ d *ℤ pos n) (pos 0) ≡ false
above_zero x c d n h k = by_test (le_z (x +ℤ d *ℤ pos n) (pos 0)) (λ b. b ≡ false)
    (λ t. clash (sym (is_true _ (below (le_z_yes t)).le) ∙ h)) (λ _. refl)
  where
    below : (x +ℤ d *ℤ pos n) ≤ℤ pos 0 → (x +ℤ c *ℤ pos n) ≤ℤ pos 0
    below t = rw (← atom x, ← atom c) (simp diff (omega (arith, mul-le-mul_right n (le_in c d k), simp diff at (rw (← atom x, ← atom d) at t))))

quot_list_exact : (g : ℕ) → 0 < g → (l : List ℤ) → Divides g (gcd_all l) → scale_list (pos g) (quot_list g l) ≡ l
unfolding scale_list quot_list gcd_all
quot_list_exact g h [] d = refl
quot_list_exact g h (z ∷ l) d = ap₂ ◌∷◌
    (sym (quot_exact z g h (divides_trans g _ _ d (gcd_left (nat_abs z) (gcd_all l)))))
    (quot_list_exact g h l (divides_trans g _ _ d (gcd_right (nat_abs z) (gcd_all l))))

-- a test's numbers are those of its linear, divided
pub quotient_exact : (p : Linear) → pos (divisor p) ⊠ quotient (divisor p) p ≡ p
unfolding ◌⊠◌ quotient divisor
quotient_exact p =
    let g = gcd_of (nat_abs p.const) (gcd_all p.coeffs) in
    λ i. record {
      coeffs = quot_list_exact (at_least_one g) (least_positive g) p.coeffs (least_divides g _ (gcd_right (nat_abs p.const) (gcd_all p.coeffs))) i;
      const = sym (quot_exact p.const (at_least_one g) (least_positive g) (least_divides g _ (gcd_left (nat_abs p.const) (gcd_all p.coeffs)))) i;
    }

-- ---- what each rule comes to

-- a case split on what a function is given
pub if_ap : {A B : Type 0} (f : A → B) (b : Bool) (x y : A) → f (if b x y) ≡ if b (f x) (f y)
if_ap f true x y = refl
if_ap f false x y = refl

module _ (e : Env) where
  abbrev pub At : Comp Tree → Leaf
  At m = at e (result m)

  -- a maker of nodes: its result is the one side or the other
  abbrev pub Makes : (Test → Tree → Tree → Comp Tree) → Type 0
  Makes mk = (t : Test) (h l : Tree) → At (mk t h l) ≡ if (holds e t) (at e h) (at e l)

  -- "On the low side of a test, a later test with the same coefficients and a larger constant is never true."
  pub parallel_fails : (t u : Test) → T (parallel t u) → holds e t ≡ false → holds e u ≡ false
  unfolding parallel holds value
  parallel_fails (now i) u q f = absurd q
  parallel_fails (later i) u q f = absurd q
  parallel_fails (linear p) (now j) q f = absurd q
  parallel_fails (linear p) (later j) q f = absurd q
  parallel_fails (linear p) (linear r) q f =
      let d = both (compare_is_eq (cmp_list p.coeffs r.coeffs)) (lt_z p.const r.const) q in
      ap (λ (l : List ℤ). le_z (dot l e.nums +ℤ r.const *ℤ pos e.den) (pos 0)) (sym (cmp_list_eq p.coeffs r.coeffs d.0))
      ∙ above_zero (dot p.coeffs e.nums) p.const r.const e.den f (less_le p.const r.const d.1)

  -- where the test fails, the low branch and what it is replaced by agree
  narrowed_at : (t : Test) (l : Tree) → holds e t ≡ false → at e (narrowed t l) ≡ at e l
  unfolding narrowed at
  narrowed_at t (leaf f) q = refl
  narrowed_at t (branch u h l) q = by_test (parallel t u) (λ b. at e (if b (narrowed t l) (branch u h l)) ≡ if (holds e u) (at e h) (at e l))
      (λ s. narrowed_at t l q ∙ ap (λ (b : Bool). if b (at e h) (at e l)) (sym (parallel_fails t u s q))) (λ _. refl)

  pub node_at : Makes node
  unfolding node at result make
  node_at t h l =
      let k = narrowed t l in
      let m : Bool → Comp Tree = λ b. elim b [ true ↦ ret h | false ↦ make (branch t h k) ] in
      by_eq (holds e t) (λ b. at e (result (m (same h k))) ≡ if b (at e h) (at e l))
      (λ q. by_test (same h k) (λ b. at e (result (m b)) ≡ at e h) (λ _. refl) (λ _. ap (λ (b : Bool). if b (at e h) (at e k)) q))
      (λ q. by_test (same h k) (λ b. at e (result (m b)) ≡ at e l) (λ s. ap (at e) (same_eq h k s) ∙ narrowed_at t l q)
      (λ _. ap (λ (b : Bool). if b (at e h) (at e k)) q ∙ narrowed_at t l q))

  pub both_at : (mk : Test → Tree → Tree → Comp Tree) → Makes mk → (t : Test) (m₁ m₂ : Comp Tree) → At (C.both (mk t) m₁ m₂) ≡ if (holds e t) (At m₁) (At m₂)
  both_at mk m t m₁ m₂ = ap (at e) (result_both (mk t) m₁ m₂) ∙ m t (result m₁) (result m₂)

  abbrev pub Acts : (Tree → Comp Tree) → (Leaf → Leaf) → Type 0
  Acts f φ = (G : Tree) → At (f G) ≡ φ (at e G)

  module _ (mk : Test → Tree → Tree → Comp Tree) (m : Makes mk) (t : Test) (f g : Tree → Comp Tree) (φ ψ : Leaf → Leaf) (fa : Acts f φ) (ga : Acts g ψ) where
    pub step_at : (G : Tree) → At (step mk t f g G) ≡ if (holds e t) (φ (at e G)) (ψ (at e G))
    unfolding step at
    step_at (leaf x) = both_at mk m t _ _ ∙ ap₂ (if (holds e t)) (fa (leaf x)) (ga (leaf x))
    step_at (branch u h l) = by_order (cmp t u)
        (λ o. At (elim o [
          | Ordering.lt ↦ C.both (mk t) (f (branch u h l)) (g (branch u h l))
          | Ordering.eq ↦ C.both (mk t) (f h) (g l)
          | Ordering.gt ↦ C.both (mk u) (step mk t f g h) (step mk t f g l)
        ]) ≡ if (holds e t) (φ (if (holds e u) (at e h) (at e l))) (ψ (if (holds e u) (at e h) (at e l))))
        (both_at mk m t _ _ ∙ ap₂ (if (holds e t)) (fa _) (ga _))
        (λ s. both_at mk m t _ _ ∙ ap₂ (if (holds e t)) (fa _) (ga _)
        ∙ rw (← cmp_eq t u s) (by_test (holds e t) (λ b. if b (φ (at e h)) (ψ (at e l)) ≡ if b (φ (if b (at e h) (at e l))) (ψ (if b (at e h) (at e l)))) (λ _. refl) (λ _. refl)))
        (both_at mk m u _ _ ∙ ap₂ (if (holds e u)) (step_at h) (step_at l) ∙ sym (if_ap (λ x. if (holds e t) (φ x) (ψ x)) (holds e u) (at e h) (at e l)))

  ret_at : (F : Tree) → At (ret F) ≡ at e F
  unfolding result
  ret_at F = refl

  -- t over a whole diagram on the high side
  place_at : (t : Test) (H G : Tree) → At (step node t (λ _. ret H) ret G) ≡ if (holds e t) (at e H) (at e G)
  place_at t H G = step_at node node_at t (λ _. ret H) ret (λ _. at e H) (λ y. y) (λ _. ret_at H) (λ F. ret_at F) G

  pub choose_at : Makes choose
  unfolding choose at
  choose_at t (leaf x) G = place_at t (leaf x) G
  choose_at t (branch u h l) G = by_order (cmp t u)
      (λ o. At (elim o [
        | Ordering.lt ↦ step node t (λ _. ret (branch u h l)) ret G
        | Ordering.eq ↦ step node t (λ _. ret h) ret G
        | Ordering.gt ↦ step node u (choose t h) (choose t l) G
      ]) ≡ if (holds e t) (if (holds e u) (at e h) (at e l)) (at e G))
      (place_at t (branch u h l) G)
      (λ s. place_at t h G ∙ rw (← cmp_eq t u s) (by_test (holds e t) (λ b. if b (at e h) (at e G) ≡ if b (if b (at e h) (at e l)) (at e G)) (λ _. refl) (λ _. refl)))
      (step_at node node_at u (choose t h) (choose t l) (if (holds e t) (at e h)) (if (holds e t) (at e l)) (choose_at t h) (choose_at t l) G
      ∙ sym (if_ap (λ x. if (holds e t) x (at e G)) (holds e u) (at e h) (at e l)))

  pub over_at : (mk : Test → Tree → Tree → Comp Tree) → Makes mk → (op : Leaf → Comp Tree) (φ : Leaf → Leaf) → ((g : Leaf) → At (op g) ≡ φ g) → Acts (over mk op) φ
  unfolding over at
  over_at mk m op φ opa (leaf g) = opa g
  over_at mk m op φ opa (branch u h l) =
      both_at mk m u _ _ ∙ ap₂ (if (holds e u)) (over_at mk m op φ opa h) (over_at mk m op φ opa l) ∙ sym (if_ap φ (holds e u) (at e h) (at e l))

  module _ (mk : Test → Tree → Tree → Comp Tree) (m : Makes mk) (op : Leaf → Leaf → Comp Tree) (φ : Leaf → Leaf → Leaf) (opa : (f g : Leaf) → At (op f g) ≡ φ f g) where
    pub merge_at : (F G : Tree) → At (merge mk op F G) ≡ φ (at e F) (at e G)
    unfolding merge at
    merge_at (leaf f) G = over_at mk m (op f) (φ f) (opa f) G
    merge_at (branch u h l) G =
        step_at mk m u (merge mk op h) (merge mk op l) (φ (at e h)) (φ (at e l)) (merge_at h) (merge_at l) G ∙ sym (if_ap (λ x. φ x (at e G)) (holds e u) (at e h) (at e l))

  leaf_at : (p : Linear) → At (make_leaf p) ≡ plain p
  unfolding make_leaf make result at
  leaf_at p = ap (at e) (result_judge p (make (leaf (plain p))))

  -- ---- values of linears

  add_step : (c d y a b z : ℤ) → z ≡ a +ℤ b → (c +ℤ d) *ℤ y +ℤ z ≡ c *ℤ y +ℤ a +ℤ (d *ℤ y +ℤ b)
  add_step c d y a b z h = rw h (simp ring)

  dot_add : (a b x : List ℤ) → dot (add_list a b) x ≡ dot a x +ℤ dot b x
  unfolding dot add_list
  dot_add [] b x = simp ring
  dot_add (c ∷ a) [] x = simp ring
  dot_add (c ∷ a) (d ∷ b) [] = refl
  dot_add (c ∷ a) (d ∷ b) (y ∷ x) = add_step c d y (dot a x) (dot b x) _ (dot_add a b x)

  scale_step : (k c y a z : ℤ) → z ≡ k *ℤ a → k *ℤ c *ℤ y +ℤ z ≡ k *ℤ (c *ℤ y +ℤ a)
  scale_step k c y a z h = rw h (simp ring)

  dot_scale : (k : ℤ) (a x : List ℤ) → dot (scale_list k a) x ≡ k *ℤ dot a x
  unfolding dot scale_list
  dot_scale k [] x = simp ring
  dot_scale k (c ∷ a) [] = simp ring
  dot_scale k (c ∷ a) (y ∷ x) = scale_step k c y (dot a x) _ (dot_scale k a x)

  pub value_add : (p q : Linear) → value e (p ⊞ q) ≡ value e p +ℤ value e q
  unfolding value ◌⊞◌
  value_add p q = simp (dot_add, ring)

  pub value_scale : (k : ℤ) (p : Linear) → value e (k ⊠ p) ≡ k *ℤ value e p
  unfolding value ◌⊠◌
  value_scale k p = simp (dot_scale, ring)

  pub value_sub : (p q : Linear) → value e (p ⊟ q) ≡ value e p -ℤ value e q
  unfolding ◌⊟◌
  value_sub p q = value_add p (negsuc 0 ⊠ q) ∙ ap (λ z. value e p +ℤ z) (value_scale (negsuc 0) q ∙ minus_one (value e q))

  pub value_plus : (k : ℤ) (p : Linear) → value e (plus_constant k p) ≡ value e p +ℤ k *ℤ pos e.den
  unfolding value plus_constant
  value_plus k p = plus_step (dot p.coeffs e.nums) p.const k (pos e.den)
    where
      plus_step : (d c k y : ℤ) → d +ℤ (c +ℤ k) *ℤ y ≡ d +ℤ c *ℤ y +ℤ k *ℤ y
      plus_step d c k y = simp ring

  dot_zeros : (c x : List ℤ) → T (zeros c) → dot c x ≡ pos 0
  unfolding dot zeros
  dot_zeros [] x t = refl
  dot_zeros (c ∷ cs) [] t = refl
  dot_zeros (c ∷ cs) (y ∷ x) t =
      let d = both (compare_is_eq (cmp_ℤ c (pos 0))) (zeros cs) t in
      zero_step c y (dot cs x) (cmp_ℤ_eq c (pos 0) d.0) (dot_zeros cs x d.1)

  -- "a constant"
  pub value_constant : (p : Linear) → T (zeros p.coeffs) → value e p ≡ p.const *ℤ pos e.den
  unfolding value
  value_constant p t = rw (dot_zeros p.coeffs e.nums t, +ℤ_idl)

  test_holds : (p : Linear) → holds e (test_of p) ≡ le_z (value e p) (pos 0)
  unfolding test_of holds divisor
  test_holds p =
      let q : value e p ≡ value e (quotient (divisor p) p) *ℤ pos (divisor p) =
      ap (value e) (sym (quotient_exact p)) ∙ value_scale (pos (divisor p)) (quotient (divisor p) p) ∙ *ℤ_comm (pos (divisor p)) (value e (quotient (divisor p) p)) in
      sym (ap (λ z. le_z z (pos 0)) q ∙ scale_sign (value e (quotient (divisor p) p)) (divisor p) (least_positive _))

  -- ---- what leaves come to

  abbrev of : Leaf → Total
  of f = leaf_worth e f

  pub zero_at : worth_at e zero_leaf ≡ num (pos 0)
  unfolding worth_at leaf_worth at zero_leaf no_coeffs zeros
  zero_at = ap num (value_constant zero_linear tt ∙ zero-*ℤ (pos e.den))

  -- a leaf that is permitted comes to its linear
  permitted_worth : (f : Leaf) → T (permitted f) → of f ≡ num (value e (lin_of f))
  unfolding leaf_worth lin_of permitted
  permitted_worth (some p a) t = refl
  permitted_worth forbidden t = absurd t

  pub permitted_at : (F : Tree) → T (permitted (at e F)) → worth_at e F ≡ num (level_at e F)
  unfolding worth_at level_at
  permitted_at F t = permitted_worth (at e F) t

  -- what comes to a number is permitted
  number_linear : (f : Leaf) (z : ℤ) → of f ≡ num z → value e (lin_of f) ≡ z
  unfolding leaf_worth lin_of
  number_linear (some p a) z q = cc
  number_linear forbidden z q = absurd (has_not_none (num z) tt (sym q))

  pub number_level : (F : Tree) (z : ℤ) → worth_at e F ≡ num z → level_at e F ≡ z
  unfolding worth_at level_at
  number_level F z q = number_linear (at e F) z q

  pub zero_level : level_at e zero_leaf ≡ pos 0
  zero_level = number_level zero_leaf (pos 0) zero_at

  leaf_sum_at : (f g : Leaf) → of (At (leaf_sum f g)) ≡ of f ⊕ of g
  unfolding leaf_sum leaf_worth ◌⊕◌ make result at
  leaf_sum_at forbidden g = refl
  leaf_sum_at (some p a) forbidden = refl
  leaf_sum_at (some p a) (some q b) = ap of (leaf_at (p ⊞ q)) ∙ ap num (value_add p q)

  -- "or a product not by 0, is it"
  leaf_scale_at : (k : ℕ) (g : Leaf) → of (At (leaf_scale (pos k) g)) ≡ weigh k (of g)
  unfolding leaf_scale leaf_worth weigh make result at worth_at
  leaf_scale_at k (some q b) = ap of (leaf_at (pos k ⊠ q)) ∙ ap num (value_scale (pos k) q) ∙ sym (weigh_num k (value e q))
  leaf_scale_at zero forbidden = zero_at
  leaf_scale_at (suc k) forbidden = by_test (compare_is_eq (cmp_ℤ (pos (suc k)) (pos 0))) (λ b. of (at e (if b zero_leaf none_leaf)) ≡ none)
      (λ t. absurd (let q = ap nat_abs (cmp_ℤ_eq (pos (suc k)) (pos 0) t) in omega arith)) (λ _. refl)

  leaf_scale_level : (c : ℤ) (g : Leaf) → T (permitted g) → of (At (leaf_scale c g)) ≡ num (c *ℤ value e (lin_of g))
  unfolding leaf_scale leaf_worth lin_of permitted
  leaf_scale_level c (some q b) t = ap of (leaf_at (c ⊠ q)) ∙ ap num (value_scale c q)
  leaf_scale_level c forbidden t = absurd t

  leaf_shift_at : (c : ℤ) (g : Leaf) → of (At (leaf_shift c g)) ≡ num (value e (lin_of g) +ℤ c *ℤ pos e.den)
  unfolding leaf_shift leaf_worth
  leaf_shift_at c g = ap of (leaf_at (plus_constant c (lin_of g))) ∙ ap num (value_plus c (lin_of g))

  leaf_number_at : (a : ℕ) (g : Leaf) → of (At (leaf_number a g)) ≡ of g
  unfolding leaf_number leaf_worth make result at
  leaf_number_at a (some p b) = refl
  leaf_number_at a forbidden = refl

  leaf_number_act : (a : ℕ) (g : Leaf) → T (permitted (At (leaf_number a g))) → act_of (At (leaf_number a g)) ≡ a
  unfolding leaf_number act_of permitted make result at
  leaf_number_act a (some p b) t = refl
  leaf_number_act a forbidden t = absurd t

  -- ---- the rules

  pub sum_at : (F G : Tree) → worth_at e (result (sum F G)) ≡ worth_at e F ⊕ worth_at e G
  unfolding sum worth_at
  sum_at F G = ap of (merge_at node node_at leaf_sum (λ f g. At (leaf_sum f g)) (λ f g. refl) F G) ∙ leaf_sum_at (at e F) (at e G)

  -- k is the weight that F comes to
  pub product_at : (k : ℕ) (F G : Tree) → (lin_of (at e F)).const ≡ pos k → worth_at e (result (product F G)) ≡ weigh k (worth_at e G)
  unfolding product leaf_product worth_at
  product_at k F G q = ap of (merge_at node node_at leaf_product (λ f g. At (leaf_scale (lin_of f).const g)) (λ f g. refl) F G)
      ∙ ap (λ c. of (At (leaf_scale c (at e G)))) q ∙ leaf_scale_at k (at e G)

  pub scale_at : (k : ℕ) (G : Tree) → worth_at e (result (scale (pos k) G)) ≡ weigh k (worth_at e G)
  unfolding scale worth_at
  scale_at k G = ap of (over_at node node_at (leaf_scale (pos k)) (λ g. At (leaf_scale (pos k) g)) (λ g. refl) G) ∙ leaf_scale_at k (at e G)

  -- any number times a diagram that is permitted there
  pub scale_level : (c : ℤ) (G : Tree) → T (permitted (at e G)) → worth_at e (result (scale c G)) ≡ num (c *ℤ level_at e G)
  unfolding scale worth_at level_at
  scale_level c G t = ap of (over_at node node_at (leaf_scale c) (λ g. At (leaf_scale c g)) (λ g. refl) G) ∙ leaf_scale_level c (at e G) t

  pub shift_at : (c : ℤ) (G : Tree) → worth_at e (result (shift c G)) ≡ num (level_at e G +ℤ c *ℤ pos e.den)
  unfolding shift worth_at level_at
  shift_at c G = ap of (over_at node node_at (leaf_shift c) (λ g. At (leaf_shift c g)) (λ g. refl) G) ∙ leaf_shift_at c (at e G)

  pub complement_at : (W : ℕ) (G : Tree) → (lin_of (At (complement W G))).const ≡ pos W -ℤ (lin_of (at e G)).const
  unfolding complement leaf_complement lin_of
  complement_at W G = ap (λ (f : Leaf). (lin_of f).const)
      (over_at node node_at (leaf_complement W) (λ g. plain (record { coeffs = (lin_of g).coeffs; const = pos W -ℤ (lin_of g).const })) (λ g. leaf_at _) G)

  pub number_at : (a : ℕ) (G : Tree) → worth_at e (result (number a G)) ≡ worth_at e G
  unfolding number worth_at
  number_at a G = ap of (over_at node node_at (leaf_number a) (λ g. At (leaf_number a g)) (λ g. refl) G) ∙ leaf_number_at a (at e G)

  -- it is numbered where it is not none
  pub number_act : (a : ℕ) (G : Tree) → T (permitted (At (number a G))) → act_of (At (number a G)) ≡ a
  unfolding number
  number_act a G = subst (λ (f : Leaf). T (permitted f) → act_of f ≡ a) (sym (over_at node node_at (leaf_number a) (λ g. At (leaf_number a g)) (λ g. refl) G)) (leaf_number_act a (at e G))

  pub decide_at : (p : Linear) (H L : Tree) → At (decide p H L) ≡ if (le_z (value e p) (pos 0)) (at e H) (at e L)
  unfolding decide result
  decide_at p H L = by_test (zeros p.coeffs)
      (λ b. At (elim b [ true ↦ elim (le_z p.const (pos 0)) [ true ↦ ret H | false ↦ ret L ] | false ↦ choose (test_of p) H L ]) ≡ if (le_z (value e p) (pos 0)) (at e H) (at e L))
      (λ t. rw (value_constant p t, scale_sign p.const e.den e.D>0) (if_ap (λ m. At m) (le_z p.const (pos 0)) (ret H) (ret L)))
      (λ t. choose_at (test_of p) H L ∙ ap (λ b. if b (at e H) (at e L)) (test_holds p))

  -- "it loses to any other leaf"
  leaf_best_at : (f g : Leaf) → At (leaf_best f g) ≡ if (le_total (of g) (of f)) f g
  unfolding leaf_best at le_total leaf_worth result
  leaf_best_at forbidden (some q b) = refl
  leaf_best_at forbidden forbidden = refl
  leaf_best_at (some p a) forbidden = refl
  leaf_best_at (some p a) (some q b) =
      ap (at e) (result_judge (q ⊟ p) (decide (q ⊟ p) (leaf (some p a)) (leaf (some q b))))
      ∙ (decide_at (q ⊟ p) (leaf (some p a)) (leaf (some q b)) ∙ ap (λ b'. if b' (some p a) (some q b)) (ap (λ z. le_z z (pos 0)) (value_sub q p) ∙ less_sub (value e q) (value e p)))

  -- the greater of two, F where they are equal
  pub best_at : (F G : Tree) → At (best F G) ≡ if (le_total (worth_at e G) (worth_at e F)) (at e F) (at e G)
  unfolding best worth_at
  best_at F G = merge_at choose choose_at leaf_best (λ f g. if (le_total (of g) (of f)) f g) leaf_best_at F G

  pub best_worth : (F G : Tree) → worth_at e (result (best F G)) ≡ max_total (worth_at e F) (worth_at e G)
  unfolding worth_at max_total
  best_worth F G = ap of (best_at F G) ∙ if_ap of (le_total (worth_at e G) (worth_at e F)) (at e F) (at e G)
