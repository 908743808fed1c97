-- The rules make diagrams in which the order rises strictly down each path, no node has equal branches and no low branch is parallel to its node; of those, a side takes the branch as it is.
use Rattle.std.specs.Prelude.{◌≡◌, refl, Bool, not, ℕ, ℤ, pos}
use Rattle.std.proofs.Math.Path.{sym}
use Rattle.std.proofs.Common.{ap, ap₂, ◌∙◌, subst, eqb→eq}
use Rattle.std.proofs.Math.Bool.{true, false}
use mathlib.Core.List.{List, [], ◌∷◌}
use Prim.Native.Nat.{Ordering}
use Rattle.std.proofs.Math.Dec.{T, T_not, compare_is_eq}
use Rattle.std.specs.Int.Signed.{le_z}
use Rattle.whole.specs.Cases.{if, by_test, both, from_true}
use Rattle.theory.specs.Diagram.{Linear, Test, now, later, linear, Leaf, some, forbidden, lin_of, Tree, leaf, branch, plain, cmp_ℤ, cmp, same, ◌⊟◌, zeros, test_of}
use Rattle.theory.specs.Computation.{Comp, ret, named, made, make, result}
use Rattle.theory.specs.Computation as C
use Rattle.theory.specs.Rules.{narrowed, node, step, choose, over, merge, make_leaf, leaf_sum, leaf_product, leaf_scale, leaf_shift, leaf_complement}
use Rattle.theory.specs.Rules.{leaf_number, decide, leaf_best, sum, product, scale, shift, complement, number, best, zero_leaf, none_leaf, sum_on, levels_sum}
use Rattle.theory.specs.Rules.{linear_diagram, substitute, is_later, side, expectation, add_reward}
use Rattle.theorems.specs.Ordered.{before, Above, Ordered, AllOrdered, replaced}
use Rattle.theory.proofs.laws.Comps.{cmp_eq, cmp_refl, same_refl, result_both}
use Rattle.theory.proofs.laws.Safe.{Safe, safe_ret, safe_named, safe_made, safe_make, safe_bind, safe_both, safe_weaken, safe_judge, any}
use Rattle.theory.proofs.laws.Nodes.{Tests, parts, branch_good, leaf_good, widen, narrowed_good, node_safe, step_safe, choose_safe, over_safe, merge_safe, side_safe}
use Rattle.theorems.proofs.laws.Order.{eq, by_cases, is_eq, before_lt, before_gt, before_trans, not_before}
use Rattle.theorems.proofs.laws.Narrowed.{narrowed_apart, narrowed_ordered, made_node}

-- what comes before a test comes before those behind it
above_trans : (t u : Test) (F : Tree) → T (before t u) → Above u F → Above t F
above_trans t u F b a = widen (before u) (before t) any any (λ v c. before_trans t u v b c) (λ _ _. tt) F a

above_branch : (t u : Test) (h l : Tree) → T (before t u) → Above u h → Above u l → Above t (branch u h l)
above_branch t u h l b x y = branch_good (before t) any u h l b (above_trans t u h b x) (above_trans t u l b y)

above_leaf : (t : Test) (f : Leaf) → Above t (leaf f)
above_leaf t f = leaf_good (before t) any f tt

-- a leaf alone
abbrev IsLeaf : Tree → Type 0
IsLeaf (leaf f) = Unit {0}
IsLeaf (branch t h l) = ⊥

leaf_ordered : (F : Tree) → IsLeaf F → Ordered F
leaf_ordered (leaf f) i = tt
leaf_ordered (branch t h l) i = absurd i

leaf_above : (t : Test) (F : Tree) → IsLeaf F → Above t F
leaf_above t (leaf f) i = above_leaf t f
leaf_above t (branch u h l) i = absurd i

module _ (s? : ℤ → Bool) where
  -- what is made is ordered
  abbrev pub Makes : Comp Tree → Type 0
  Makes m = Safe s? Ordered m

  safe_and : {A : Type 0} {R Q : A → Type 0} (m : Comp A) → Safe s? R m → Safe s? Q m → Safe s? (λ a. R a × Q a) m
  safe_and (ret a) (safe_ret r) (safe_ret q) = safe_ret (r, q)
  safe_and (named z m) (safe_named r) (safe_named q) = safe_named (λ t. safe_and m (r t) (q t))
  safe_and (made t m) (safe_made r) (safe_made q) = safe_made (safe_and m r q)

  pub node_ordered : (t : Test) (h l : Tree) → Above t h → Above t l → Ordered h → Ordered l → Makes (node t h l)
  unfolding node
  node_ordered t h l a b c d =
      let k = narrowed t l in
      by_test (same h k) (λ s. Makes (if s (ret h) (make (branch t h k))))
      (λ _. safe_ret c)
      (λ n. safe_make (branch t h k)
      (a, (narrowed_good s? (before t) any t l b, ((λ e. T_not (same h k) n (subst (λ (x : Tree). T (same h x)) e (from_true (same_refl h))), narrowed_apart t l), (c, narrowed_ordered t l d)))))

  both_ordered : (t : Test) (m₁ m₂ : Comp Tree) → Safe s? (λ F. Ordered F × Above t F) m₁ → Safe s? (λ F. Ordered F × Above t F) m₂ → Makes (C.both (node t) m₁ m₂)
  both_ordered t m₁ m₂ a b = safe_both (node t) m₁ m₂ a b (λ h l p q. node_ordered t h l p.1 q.1 p.0 q.0)

  -- of diagrams above t, diagrams above t; and of those above an earlier test, such
  record Lifts (t : Test) (f : Tree → Comp Tree) : Type 0 where
    here : (G : Tree) → Ordered G → Above t G → Safe s? (λ F. Ordered F × Above t F) (f G)
    under : (u : Test) → T (before u t) → (G : Tree) → Above u G → Safe s? (λ F. Above u F) (f G)

  module _ (t : Test) (f g : Tree → Comp Tree) (x : Lifts t f) (y : Lifts t g) where
    step_ordered : (G : Tree) → Ordered G → Makes (step node t f g G)
    unfolding step
    step_ordered (leaf z) o = both_ordered t _ _ (x.here (leaf z) o (above_leaf t z)) (y.here (leaf z) o (above_leaf t z))
    step_ordered (branch u h l) o =
        let oh = step_ordered h o.1.1.1.0 in
        let ol = step_ordered l o.1.1.1.1 in
        by_cases (cmp t u)
        (λ c. Makes (elim c [
          | Ordering.lt ↦ C.both (node t) (f (branch u h l)) (g (branch u h l))
          | Ordering.eq ↦ C.both (node t) (f h) (g l)
          | Ordering.gt ↦ C.both (node u) (step node t f g h) (step node t f g l)
        ]))
        (λ e.
        let a = above_branch t u h l (before_lt t u e) o.0 o.1.0 in
        both_ordered t _ _ (x.here (branch u h l) o a) (y.here (branch u h l) o a))
        (λ e.
        let i = sym (cmp_eq t u (is_eq e)) in
        both_ordered t _ _ (x.here h o.1.1.1.0 (subst (λ (v : Test). Above v h) i o.0)) (y.here l o.1.1.1.1 (subst (λ (v : Test). Above v l) i o.1.0)))
        (λ e.
        let b = before_gt t u e in
        let q = step_safe s? (before u) any any node (node_safe s? (before u) any) t b f g (λ G q. x.under u b G q) (λ G q. y.under u b G q) in
        both_ordered u _ _ (safe_and _ oh (q h o.0)) (safe_and _ ol (q l o.1.0)))

  -- a diagram that stays
  stays : (t : Test) (F : Tree) → Ordered F → Above t F → Lifts t (λ _. ret F)
  stays t F o a = record { here = λ G p q. safe_ret (o, a); under = λ u b G q. safe_ret (above_trans u t F b a) }

  itself : (t : Test) → Lifts t ret
  itself t = record { here = λ G p q. safe_ret (p, q); under = λ u b G q. safe_ret q }

  -- "Choose"
  pub choose_ordered : (t : Test) (F G : Tree) → Ordered F → Ordered G → Makes (choose t F G)
  unfolding choose
  choose_ordered t (leaf f) G p q = step_ordered t _ ret (stays t (leaf f) tt (above_leaf t f)) (itself t) G q
  choose_ordered t (branch u h l) G p q =
      let oh : (F : Tree) → Ordered F → Makes (choose t h F) = λ F r. choose_ordered t h F p.1.1.1.0 r in
      let ol : (F : Tree) → Ordered F → Makes (choose t l F) = λ F r. choose_ordered t l F p.1.1.1.1 r in
      by_cases (cmp t u)
      (λ o. Makes (elim o [
        | Ordering.lt ↦ step node t (λ _. ret (branch u h l)) ret G
        | Ordering.eq ↦ step node t (λ _. ret h) ret G
        | Ordering.gt ↦ step node u (choose t h) (choose t l) G
      ]))
      (λ e. step_ordered t _ ret (stays t (branch u h l) p (above_branch t u h l (before_lt t u e) p.0 p.1.0)) (itself t) G q)
      (λ e. step_ordered t _ ret (stays t h p.1.1.1.0 (subst (λ (v : Test). Above v h) (sym (cmp_eq t u (is_eq e))) p.0)) (itself t) G q)
      (λ e.
      let b = before_gt t u e in
      step_ordered u (choose t h) (choose t l) (chosen t u h b p.0 oh) (chosen t u l b p.1.0 ol) G q)
    where
      chosen : (t u : Test) (h : Tree) → T (before u t) → Above u h → ((F : Tree) → Ordered F → Makes (choose t h F)) → Lifts u (choose t h)
      chosen t u h b a ih = record {
        here = λ G r c. safe_and _ (ih G r) (choose_safe s? (before u) any t h G b a c);
        under = λ v d G c. choose_safe s? (before v) any t h G (before_trans v u t d b) (above_trans v u h d a) c;
      }

  -- by choose: only that what is given is ordered
  over_choose : (op : Leaf → Comp Tree) → ((g : Leaf) → Makes (op g)) → (G : Tree) → Makes (over choose op G)
  unfolding over
  over_choose op o (leaf g) = o g
  over_choose op o (branch u h l) = safe_both (choose u) _ _ (over_choose op o h) (over_choose op o l) (λ x y a b. choose_ordered u x y a b)

  module _ (t : Test) (f g : Tree → Comp Tree) (x : (G : Tree) → Makes (f G)) (y : (G : Tree) → Makes (g G)) where
    step_choose : (G : Tree) → Makes (step choose t f g G)
    unfolding step
    step_choose (leaf z) = safe_both (choose t) _ _ (x (leaf z)) (y (leaf z)) (λ h l a b. choose_ordered t h l a b)
    step_choose (branch u h l) =
        let oh = step_choose h in
        let ol = step_choose l in
        by_cases (cmp t u)
        (λ c. Makes (elim c [
          | Ordering.lt ↦ C.both (choose t) (f (branch u h l)) (g (branch u h l))
          | Ordering.eq ↦ C.both (choose t) (f h) (g l)
          | Ordering.gt ↦ C.both (choose u) (step choose t f g h) (step choose t f g l)
        ]))
        (λ _. safe_both (choose t) _ _ (x (branch u h l)) (y (branch u h l)) (λ h l a b. choose_ordered t h l a b))
        (λ _. safe_both (choose t) _ _ (x h) (y l) (λ h l a b. choose_ordered t h l a b))
        (λ _. safe_both (choose u) _ _ oh ol (λ h l a b. choose_ordered u h l a b))

  merge_choose : (op : Leaf → Leaf → Comp Tree) → ((f g : Leaf) → Makes (op f g)) → (F G : Tree) → Makes (merge choose op F G)
  unfolding merge
  merge_choose op o (leaf f) G = over_choose (op f) (o f) G
  merge_choose op o (branch u h l) G = step_choose u (merge choose op h) (merge choose op l) (λ G. merge_choose op o h G) (λ G. merge_choose op o l G) G

  -- by nodes, where leaves are made of leaves
  module _ (op : Leaf → Comp Tree) (o : (g : Leaf) → Safe s? IsLeaf (op g)) where
    over_node : (G : Tree) → Ordered G → Makes (over node op G)
    unfolding over
    over_node (leaf g) p = safe_weaken (op g) leaf_ordered (o g)
    over_node (branch u h l) p =
        let q = over_safe s? (before u) any any node (node_safe s? (before u) any) op (λ g _. safe_weaken (op g) (leaf_above u) (o g)) in
        both_ordered u _ _ (safe_and _ (over_node h p.1.1.1.0) (q h p.0)) (safe_and _ (over_node l p.1.1.1.1) (q l p.1.0))

  module _ (op : Leaf → Leaf → Comp Tree) (o : (f g : Leaf) → Safe s? IsLeaf (op f g)) where
    merged_above : (u : Test) (F G : Tree) → Above u F → Above u G → Safe s? (λ F. Above u F) (merge node op F G)
    merged_above u = merge_safe s? (before u) any any any node (node_safe s? (before u) any) op (λ f g _ _. safe_weaken (op f g) (leaf_above u) (o f g))

    merge_node : (F G : Tree) → Ordered F → Ordered G → Makes (merge node op F G)
    unfolding merge
    merge_node (leaf f) G p q = over_node (op f) (o f) G q
    merge_node (branch u h l) G p q =
        step_ordered u (merge node op h) (merge node op l)
        (merged u h p.0 (λ G r. merge_node h G p.1.1.1.0 r)) (merged u l p.1.0 (λ G r. merge_node l G p.1.1.1.1 r)) G q
      where
        merged : (u : Test) (h : Tree) → Above u h → ((G : Tree) → Ordered G → Makes (merge node op h G)) → Lifts u (merge node op h)
        merged u h a ih = record { here = λ G r c. safe_and _ (ih G r) (merged_above u h G a c); under = λ v d G c. merged_above v h G (above_trans v u h d a) c }

  -- ---- the rules

  made_leaf : (p : Linear) → Safe s? IsLeaf (make_leaf p)
  unfolding make_leaf
  made_leaf p = safe_judge p _ (λ _ _. safe_make (leaf (plain p)) tt)

  made_none : Safe s? IsLeaf (make none_leaf)
  made_none = safe_make none_leaf tt

  summed_leaf : (f g : Leaf) → Safe s? IsLeaf (leaf_sum f g)
  unfolding leaf_sum
  summed_leaf forbidden g = made_none
  summed_leaf (some p a) forbidden = made_none
  summed_leaf (some p a) (some q b) = made_leaf _

  scaled_leaf : (k : ℤ) (g : Leaf) → Safe s? IsLeaf (leaf_scale k g)
  unfolding leaf_scale zero_leaf
  scaled_leaf k (some q b) = made_leaf _
  scaled_leaf k forbidden = by_test (compare_is_eq (cmp_ℤ k (pos 0))) (λ z. Safe s? IsLeaf (make (if z zero_leaf none_leaf))) (λ _. safe_make zero_leaf tt) (λ _. made_none)

  numbered_leaf : (a : ℕ) (g : Leaf) → Safe s? IsLeaf (leaf_number a g)
  unfolding leaf_number
  numbered_leaf a (some p b) = safe_make (leaf (some p a)) tt
  numbered_leaf a forbidden = made_none

  pub sum_ordered : (F G : Tree) → Ordered F → Ordered G → Makes (sum F G)
  unfolding sum
  sum_ordered = merge_node leaf_sum summed_leaf

  pub product_ordered : (F G : Tree) → Ordered F → Ordered G → Makes (product F G)
  unfolding product leaf_product
  product_ordered = merge_node leaf_product (λ f g. scaled_leaf _ g)

  pub scale_ordered : (k : ℤ) (F : Tree) → Ordered F → Makes (scale k F)
  unfolding scale
  scale_ordered k = over_node (leaf_scale k) (scaled_leaf k)

  pub shift_ordered : (k : ℤ) (F : Tree) → Ordered F → Makes (shift k F)
  unfolding shift leaf_shift
  shift_ordered k = over_node (leaf_shift k) (λ g. made_leaf _)

  pub complement_ordered : (W : ℕ) (F : Tree) → Ordered F → Makes (complement W F)
  unfolding complement leaf_complement
  complement_ordered W = over_node (leaf_complement W) (λ g. made_leaf _)

  pub number_ordered : (a : ℕ) (F : Tree) → Ordered F → Makes (number a F)
  unfolding number
  number_ordered a = over_node (leaf_number a) (numbered_leaf a)

  decide_ordered : (p : Linear) (H L : Tree) → Ordered H → Ordered L → Makes (decide p H L)
  unfolding decide
  decide_ordered p H L a b = by_test (zeros p.coeffs) (λ z. Makes (if z (if (le_z p.const (pos 0)) (ret H) (ret L)) (choose (test_of p) H L)))
      (λ _. by_test (le_z p.const (pos 0)) (λ z. Makes (if z (ret H) (ret L))) (λ _. safe_ret a) (λ _. safe_ret b))
      (λ _. choose_ordered (test_of p) H L a b)

  best_leaf : (f g : Leaf) → Makes (leaf_best f g)
  unfolding leaf_best
  best_leaf forbidden g = safe_ret tt
  best_leaf (some p a) forbidden = safe_ret tt
  best_leaf (some p a) (some q b) = safe_judge (q ⊟ p) _ (λ _ _. decide_ordered _ (leaf (some p a)) (leaf (some q b)) tt tt)

  pub best_ordered : (F G : Tree) → Makes (best F G)
  unfolding best
  best_ordered = merge_choose leaf_best best_leaf

  pub zero_ordered : Ordered zero_leaf
  unfolding zero_leaf
  zero_ordered = tt

  sum_on_ordered : (F : Tree) (cs : List ℤ) (Ds : List Tree) → Ordered F → AllOrdered Ds → Makes (sum_on F cs Ds)
  unfolding sum_on
  sum_on_ordered F [] Ds a b = safe_ret a
  sum_on_ordered F (k ∷ cs) [] a b = safe_ret a
  sum_on_ordered F (k ∷ cs) (D ∷ Ds) a b =
      safe_bind (scale k D) _ (scale_ordered k D b.0) (λ G g. safe_bind (sum F G) _ (sum_ordered F G a g) (λ S s. sum_on_ordered S cs Ds s b.1))

  levels_ordered : (cs : List ℤ) (Ds : List Tree) → AllOrdered Ds → Makes (levels_sum cs Ds)
  unfolding levels_sum
  levels_ordered [] Ds b = safe_make zero_leaf zero_ordered
  levels_ordered (k ∷ cs) [] b = safe_make zero_leaf zero_ordered
  levels_ordered (k ∷ cs) (D ∷ Ds) b = safe_bind (scale k D) _ (scale_ordered k D b.0) (λ F f. sum_on_ordered F cs Ds f b.1)

  linear_ordered : (Ds : List Tree) (p : Linear) → AllOrdered Ds → Makes (linear_diagram Ds p)
  unfolding linear_diagram
  linear_ordered Ds p b = safe_bind (levels_sum p.coeffs Ds) (shift p.const) (levels_ordered p.coeffs Ds b) (shift_ordered p.const)

  -- "Substitute"
  pub substitute_ordered : (Ds : List Tree) → AllOrdered Ds → (F : Tree) → Makes (substitute Ds F)
  unfolding substitute
  substitute_ordered Ds b (leaf (some p a)) = linear_ordered Ds p b
  substitute_ordered Ds b (leaf forbidden) = safe_weaken _ leaf_ordered made_none
  substitute_ordered Ds b (branch (now k) h l) = safe_both (choose (later k)) _ _ (substitute_ordered Ds b h) (substitute_ordered Ds b l) (λ x y p q. choose_ordered (later k) x y p q)
  substitute_ordered Ds b (branch (later k) h l) = safe_both (choose (later k)) _ _ (substitute_ordered Ds b h) (substitute_ordered Ds b l) (λ x y p q. choose_ordered (later k) x y p q)
  substitute_ordered Ds b (branch (linear z) h l) =
      let hs = substitute_ordered Ds b h in
      let ls = substitute_ordered Ds b l in
      safe_bind (linear_diagram Ds z) _ (linear_ordered Ds z b)
      (λ P p. safe_bind (substitute Ds h) _ hs
      (λ H x. safe_bind (substitute Ds l) _ ls
      (λ L y. over_choose (λ f. decide (lin_of f) H L) (λ f. decide_ordered (lin_of f) H L x y) P)))

  -- a side
  pub side_ordered : (b : Bool) (k : ℕ) (F : Tree) → Ordered F → Makes (side b k F)
  unfolding side
  side_ordered b k (leaf f) p = safe_ret tt
  side_ordered b k (branch t h l) p =
      let oh = side_ordered b k h p.1.1.1.0 in
      let ol = side_ordered b k l p.1.1.1.1 in
      let q = side_safe s? (before t) any (before t) b k (λ _ a _. a) in
      by_test (is_later k t) (λ c. Makes (elim c [ true ↦ if b (side b k h) (side b k l) | false ↦ C.both (node t) (side b k h) (side b k l) ]))
      (λ _. by_test b (λ c. Makes (if c (side b k h) (side b k l))) (λ _. oh) (λ _. ol))
      (λ _. both_ordered t _ _ (safe_and _ oh (q h p.0)) (safe_and _ ol (q l p.1.0)))

  pub expectation_ordered : (W : ℕ) (w : Tree) (k : ℕ) (F : Tree) → Ordered w → Ordered F → Makes (expectation W w k F)
  unfolding expectation
  expectation_ordered W w k F a b =
      safe_bind (side true k F) _ (side_ordered true k F b)
      (λ Y y. safe_bind (product w Y) _ (product_ordered w Y a y)
      (λ P p. safe_bind (complement W w) _ (complement_ordered W w a)
      (λ u d. safe_bind (side false k F) _ (side_ordered false k F b)
      (λ N n. safe_bind (product u N) _ (product_ordered u N d n)
      (λ Q q. sum_ordered P Q p q)))))

  pub reward_ordered : (power : ℕ) (reward : Tree) (a : ℕ) (F : Tree) → Ordered reward → Ordered F → Makes (add_reward power reward a F)
  unfolding add_reward
  reward_ordered power reward a F r b =
      safe_named (λ _. safe_bind (scale (pos power) reward) _ (scale_ordered (pos power) reward r) (λ R d. safe_bind (sum F R) (number a) (sum_ordered F R b d) (number_ordered a)))

-- ---- a side takes the branch as it is

later_is : (k : ℕ) (t : Test) → T (is_later k t) → t ≡ later k
unfolding is_later
later_is k (now j) a = absurd a
later_is k (later j) a = ap later (eqb→eq j k a)
later_is k (linear p) a = absurd a

-- what comes behind a next_step condition is not on it
not_later : (k : ℕ) (t u : Test) → T (is_later k t) → T (before t u) → T (not (is_later k u))
not_later k t u a b = by_test (is_later k u) (λ x. T (not x))
    (λ c. absurd (not_before t u (is_eq (subst (λ (v : Test). cmp t v ≡ eq) (later_is k t a ∙ sym (later_is k u c)) (cmp_refl t))) b)) (λ _. tt)

no_later : (k : ℕ) (t : Test) (F : Tree) → T (is_later k t) → Above t F → Tests (λ u. not (is_later k u)) F
no_later k t F a b = widen (before t) (λ u. not (is_later k u)) any any (λ u c. not_later k t u a c) (λ _ _. tt) F b

-- a diagram without the condition is its own side
side_none : (b : Bool) (k : ℕ) (F : Tree) → Tests (λ u. not (is_later k u)) F → Ordered F → result (side b k F) ≡ F
unfolding side result
side_none b k (leaf f) q p = refl
side_none b k (branch t h l) q p =
    let d = parts (λ u. not (is_later k u)) any t h l q in
    let eh = side_none b k h d.1.0 p.1.1.1.0 in
    let el = side_none b k l d.1.1 p.1.1.1.1 in
    by_test (is_later k t) (λ c. result (elim c [ true ↦ if b (side b k h) (side b k l) | false ↦ C.both (node t) (side b k h) (side b k l) ]) ≡ branch t h l)
    (λ c. absurd (T_not (is_later k t) d.0 c))
    (λ _. result_both (node t) (side b k h) (side b k l) ∙ ap₂ (λ (x y : Tree). result (node t x y)) eh el ∙ made_node t h l p.1.1.0.0 p.1.1.0.1)

-- "a side has each node of that next-step condition replaced by its high (yes) or low branch": the branch as it is
pub side_literal : (b : Bool) (k : ℕ) (F : Tree) → Ordered F → result (side b k F) ≡ result (replaced b k F)
unfolding side replaced result
side_literal b k (leaf f) p = refl
side_literal b k (branch t h l) p =
    let eh = side_literal b k h p.1.1.1.0 in
    let el = side_literal b k l p.1.1.1.1 in
    by_test (is_later k t)
    (λ c. ◌≡◌ {A = Tree} (result (elim c [ true ↦ if b (side b k h) (side b k l) | false ↦ C.both (node t) (side b k h) (side b k l) ]))
    (result (elim c [ true ↦ ret (if b h l) | false ↦ C.both (node t) (replaced b k h) (replaced b k l) ])))
    (λ c. by_test b (λ x. ◌≡◌ {A = Tree} (result (if x (side b k h) (side b k l))) (if x h l))
    (λ _. side_none b k h (no_later k t h c p.0) p.1.1.1.0) (λ _. side_none b k l (no_later k t l c p.1.0) p.1.1.1.1))
    (λ _. result_both (node t) (side b k h) (side b k l) ∙ ap₂ (λ (x y : Tree). result (node t x y)) eh el ∙ sym (result_both (node t) (replaced b k h) (replaced b k l)))
