-- Two leaves combined on the table.
use mathlib.Core.Path.{◌≡◌, refl, sym, ap, ap₂, ◌∙◌, subst}
use mathlib.Core.Bool.{Bool, true, false}
use mathlib.Core.List.{List}
use Prim.Native.Nat.{ℕ}
use lib.IntN.{ℤ, pos, nat_abs, ◌-ℤ◌}
use lib.ListN.{length}
use lib.Signed.{le_z}
use Rattle.whole.specs.Cases.{if}
use Rattle.whole.specs.Linears.{numbers, quot_list, divisor_list}
use Rattle.whole.specs.LinearsLaws.{quot_smalls}
use Rattle.whole.specs.Within.{small}
use Rattle.whole.proofs.Signed.{R, small_back}
use Rattle.table.specs.declared.Stop.TheVariants.{Over}
use Rattle.table.proofs.Leaf.{leaf_as}
use Rattle.table.specs.Table.{Answer, made, halted, node_at, is_leaf, is_none}
use Rattle.table.specs.declared.Node.{Node}
use Rattle.theory.specs.Widths.{levels_most}
use Rattle.theory.specs.Diagram.{Linear, Test, Leaf, some, forbidden, Tree, leaf, zeros, test_of, ◌⊞◌, ◌⊟◌}
use Rattle.theory.specs.Computation.{Comp, ret, make, judge}
use Rattle.theory.specs.Valid.{small_linear}
use Rattle.theory.specs.Rules.{node, choose, decide, make_leaf, none_leaf, leaf_sum, leaf_scale, leaf_product, leaf_best}
use Rattle.rule_node.specs.Nodes.{linear_held, constant_of, leaf_of, test_held, trees, tree_at, Nums, Plain, Proper}
use Rattle.rule_node.specs.Table.{Bare, Grew}
use Rattle.rule_node.specs.Roots.{linear_node, named_node}
use Rattle.rule_node.proofs.Trees.{leaf_none, leaf_some, leaf_lin, at_leaf}
use Rattle.rule_node.proofs.TreeMade.{grew_there}
use Rattle.rule_node.proofs.Outcomes.{grew_as, grew_like, grew_ret, grew_over, grew_judged}
use Rattle.rule_node.proofs.LeafNumbers.{nums_of, nums_at}
use Rattle.rule_node.proofs.Meanings.{proper_linear, divided_test, named_leaf}
use Rattle.rule_node.proofs.TwoOperands.{choose_leaf, step_leaf, both_ret}
use Rattle.rule_leaves.specs.Leaves.{AtLeaf, AtLinear, stays_none, sum_node, less_node, product_node}
use Rattle.rule_leaves.proofs.Sums.{sum_lin, less_lin, less_long, none_stays, scale_stays, scale_run, decide_constant, decide_test}
use Rattle.rule_apply_leaves.specs.Constants.{better_constant}
use Rattle.rule_apply_leaves.proofs.Constants.{numbers_there, constant_small, constant_less}

-- ---- the leaves that are made have no action

pub plain_sum : {s : Node} (x y : Node) → s ≡ sum_node x y → Plain s
unfolding sum_node
plain_sum x y e = subst Plain (sym e) (record { kind = refl; high = refl; low = refl })

pub plain_product : {s : Node} (k : ℤ) (y : Node) → s ≡ product_node k y → Plain s
unfolding product_node
plain_product k y e = subst Plain (sym e) (record { kind = refl; high = refl; low = refl })

-- ---- sum and product

sum_none : (f : Leaf) → leaf_sum f forbidden ≡ make none_leaf
unfolding leaf_sum
sum_none (some p a) = refl
sum_none forbidden = refl

none_sum : (g : Leaf) → leaf_sum forbidden g ≡ make none_leaf
unfolding leaf_sum
none_sum g = refl

sum_some : (p q : Linear) (a b : ℕ) → leaf_sum (some p a) (some q b) ≡ make_leaf (p ⊞ q)
unfolding leaf_sum
sum_some p q a b = refl

module _ {cap : ℕ} {l : List ℤ} {w : List ℕ} {n : ℕ} (A : Bare cap l w n) (f g : ℕ) (F : AtLeaf l n f) (G : AtLeaf l n g) where
  abbrev x₀ : Node
  x₀ = node_at l f

  abbrev y₀ : Node
  y₀ = node_at l g

  -- the leaf "none" stays where it is
  none_there : (i : ℕ) → AtLeaf l n i → is_none (node_at l i).kind ≡ true → Grew cap l w n (make none_leaf) l w (made i n)
  none_there i E e = grew_as (ap make (at_leaf A.good i E.below E.ends ∙ ap leaf (leaf_none (node_at l i) e))) (grew_there A i E.below)

  pub sum_first : {b : Bool} → b ≡ is_none x₀.kind → b ≡ true → Grew cap l w n (leaf_sum (leaf_of x₀) (leaf_of y₀)) l w (made f n)
  sum_first e t = grew_as (sym (ap (λ (z : Leaf). leaf_sum z (leaf_of y₀)) (leaf_none x₀ (sym e ∙ t)) ∙ none_sum (leaf_of y₀))) (none_there f F (sym e ∙ t))

  pub sum_second : {b : Bool} → b ≡ is_none y₀.kind → b ≡ true → Grew cap l w n (leaf_sum (leaf_of x₀) (leaf_of y₀)) l w (made g n)
  sum_second e t = grew_as (sym (ap (leaf_sum (leaf_of x₀)) (leaf_none y₀ (sym e ∙ t)) ∙ sum_none (leaf_of x₀))) (none_there g G (sym e ∙ t))

  module _ {x y : Node} {l₁ : List ℤ} {w₁ : List ℕ} {r : Answer} (s : Node) (ex : x ≡ x₀) (ey : y ≡ y₀) (Q : Grew cap l w n (make_leaf (linear_held s)) l₁ w₁ r) where
    pub sum_made : {b c : Bool} → b ≡ is_none x₀.kind → b ≡ false → c ≡ is_none y₀.kind → c ≡ false → s ≡ sum_node x y → Grew cap l w n (leaf_sum (leaf_of x₀) (leaf_of y₀)) l₁ w₁ r
    sum_made eb b ec c e = grew_as (ap make_leaf lin ∙ (sym (sum_some _ _ _ _) ∙ ap₂ leaf_sum (sym (leaf_some x₀ (sym eb ∙ b))) (sym (leaf_some y₀ (sym ec ∙ c))))) Q
      where
        lin : linear_held s ≡ linear_held x₀ ⊞ linear_held y₀
        lin = ap linear_held e ∙ (sum_lin x y (nums_at A f F.below ex) (nums_at A g G.below ey) ∙ ap₂ (λ (x y : Node). linear_held x ⊞ linear_held y) ex ey)

  module _ {x : Node} (ex : x ≡ x₀) {k : ℤ} (ek : k ≡ constant_of x) where
    k_is : R k ≡ constant_of x₀
    k_is = ap R ek ∙ (small_back (constant_of x) ((nums_at A f F.below ex).each levels_most) ∙ ap constant_of ex)

    by_constant : leaf_scale (constant_of x₀) (leaf_of y₀) ≡ leaf_product (leaf_of x₀) (leaf_of y₀)
    unfolding leaf_product linear_held
    by_constant = ap (λ (p : Linear). leaf_scale p.const (leaf_of y₀)) (sym (leaf_lin x₀ (A.good.valid f F.below)))

    module _ {b : Bool} (eb : b ≡ stays_none (R k) y₀) where
      stays_is : stays_none (constant_of x₀) y₀ ≡ b
      stays_is = sym (eb ∙ ap (λ (z : ℤ). stays_none z y₀) k_is)

      pub product_stays : b ≡ true → Grew cap l w n (leaf_product (leaf_of x₀) (leaf_of y₀)) l w (made g n)
      product_stays t = grew_as (sym (scale_stays (constant_of x₀) y₀ (stays_is ∙ t)) ∙ by_constant) (none_there g G (none_stays (constant_of x₀) y₀ (stays_is ∙ t)))

      pub product_made : b ≡ false → {y : Node} {l₁ : List ℤ} {w₁ : List ℕ} {r : Answer} (s : Node) → y ≡ y₀ → Grew cap l w n (make_leaf (linear_held s)) l₁ w₁ r
          → s ≡ product_node (R k) y → Grew cap l w n (leaf_product (leaf_of x₀) (leaf_of y₀)) l₁ w₁ r
      product_made t s ey Q e =
          grew_as by_constant
          (grew_like (scale_run cap (constant_of x₀) y₀ (A.good.valid g G.below) (stays_is ∙ t) (trees l n))
          (grew_as (ap (λ (s : Node). make_leaf (linear_held s)) (e ∙ ap₂ product_node k_is ey)) Q))

  -- ---- best with "none"

  none_best : (z : Leaf) → leaf_best forbidden z ≡ ret (leaf z)
  unfolding leaf_best
  none_best z = refl

  pub best_second : {b : Bool} → b ≡ is_none x₀.kind → b ≡ true → Grew cap l w n (leaf_best (leaf_of x₀) (leaf_of y₀)) l w (made g n)
  best_second e t = grew_as (ap ret (at_leaf A.good g G.below G.ends) ∙ sym (ap (λ (z : Leaf). leaf_best z (leaf_of y₀)) (leaf_none x₀ (sym e ∙ t)) ∙ none_best (leaf_of y₀))) (grew_ret A g G.below)

  some_best : (z : Leaf) → leaf_best z forbidden ≡ ret (leaf z)
  unfolding leaf_best
  some_best (some p a) = refl
  some_best forbidden = refl

  pub best_first : {b : Bool} → b ≡ is_none y₀.kind → b ≡ true → Grew cap l w n (leaf_best (leaf_of x₀) (leaf_of y₀)) l w (made f n)
  best_first e t = grew_as (ap ret (at_leaf A.good f F.below F.ends) ∙ sym (ap (leaf_best (leaf_of x₀)) (leaf_none y₀ (sym e ∙ t)) ∙ some_best (leaf_of x₀))) (grew_ret A f F.below)

-- ---- best of two linears

-- a choice between two leaves is one node
choose_leaves : (t : Test) (f g : Leaf) → choose t (leaf f) (leaf g) ≡ node t (leaf f) (leaf g)
choose_leaves t f g = choose_leaf t f (leaf g) ∙ (step_leaf node t _ _ g ∙ both_ret (node t) (leaf f) (leaf g))

module _ {cap : ℕ} {l : List ℤ} {w : List ℕ} {n : ℕ} (A : Bare cap l w n) (f g : ℕ) (F₀ : AtLinear l n f) (G₀ : AtLinear l n g) {x y d : Node} (ex : x ≡ node_at l f) (ey : y ≡ node_at l g) (ed : d ≡ less_node y x) where
  abbrev Best : List ℤ → List ℕ → Answer → Type 0
  Best = Grew cap l w n (leaf_best (leaf_of (node_at l f)) (leaf_of (node_at l g)))

  F : AtLeaf l n f
  F = F₀.leaf

  G : AtLeaf l n g
  G = G₀.leaf

  abbrev linear_leaf : ℕ → Leaf
  linear_leaf i = some (linear_held (node_at l i)) (nat_abs (node_at l i).high)

  tree_f : tree_at l n f ≡ leaf (linear_leaf f)
  tree_f = at_leaf A.good f F.below F.ends ∙ ap leaf (leaf_some (node_at l f) F₀.linear)

  tree_g : tree_at l n g ≡ leaf (linear_leaf g)
  tree_g = at_leaf A.good g G.below G.ends ∙ ap leaf (leaf_some (node_at l g) G₀.linear)

  abbrev decided : Comp Tree
  decided = decide (linear_held d) (tree_at l n f) (tree_at l n g)

  linears_best : judge (linear_held (node_at l g) ⊟ linear_held (node_at l f)) (decide (linear_held (node_at l g) ⊟ linear_held (node_at l f)) (leaf (linear_leaf f)) (leaf (linear_leaf g))) ≡ leaf_best (linear_leaf f) (linear_leaf g)
  unfolding leaf_best
  linears_best = refl

  d_is : d ≡ less_node (node_at l g) (node_at l f)
  d_is = ed ∙ ap₂ less_node ey ex

  rule_is : judge (linear_held d) decided ≡ leaf_best (leaf_of (node_at l f)) (leaf_of (node_at l g))
  rule_is = (λ i. judge (lin_d i) (decide (lin_d i) (tree_f i) (tree_g i))) ∙ (linears_best ∙ ap₂ leaf_best (sym (leaf_some (node_at l f) F₀.linear)) (sym (leaf_some (node_at l g) G₀.linear)))
    where
      lin_d : linear_held d ≡ linear_held (node_at l g) ⊟ linear_held (node_at l f)
      lin_d = ap linear_held d_is ∙ less_lin (node_at l g) (node_at l f) (A.good.valid g G.below).nums (A.good.valid f F.below).nums

  d_long : length d.n ≡ numbers
  d_long = ap (λ (z : Node). length z.n) d_is ∙ less_long (node_at l g) (node_at l f) (A.good.valid g G.below).nums (A.good.valid f F.below).nums

  is_kind : is_leaf d.kind ≡ true
  unfolding less_node
  is_kind = leaf_as (ap (λ (d : Node). d.kind) ed)

  module _ {b : Bool} (eb : b ≡ small_linear (linear_held d)) where
    pub best_over : b ≡ false → Best l w (halted Over n)
    best_over e = grew_as rule_is (grew_over (linear_held d) decided A (sym eb ∙ e))

    module _ (e : b ≡ true) where
      pub less_nums : Nums d
      less_nums = nums_of d d_long (sym eb ∙ e)

      judged : {l₁ : List ℤ} {w₁ : List ℕ} {r : Answer} → Grew cap l w n decided l₁ w₁ r → Best l₁ w₁ r
      judged Q = grew_as rule_is (grew_judged (linear_held d) decided (sym eb ∙ e) Q)

      module _ {z : Node} (ez : z ≡ named_node d) where
        z_is : z ≡ linear_node (quot_list (divisor_list d.n) d.n)
        z_is = ez ∙ named_leaf d is_kind

        pub best_proper : Proper z
        best_proper = subst Proper (sym z_is) (proper_linear _ (quot_smalls _ _ less_nums))

        pub best_test : {c : Bool} → c ≡ zeros (linear_held (less_node (node_at l g) (node_at l f))).coeffs → c ≡ false → {l₁ : List ℤ} {w₁ : List ℕ} {r : Answer}
            → Grew cap l w n (node (test_held z) (tree_at l n f) (tree_at l n g)) l₁ w₁ r → Best l₁ w₁ r
        best_test ec q Q = judged (grew_as (ap (λ (t : Test). node t (tree_at l n f) (tree_at l n g)) (ap test_held z_is ∙ divided_test d d_long)
            ∙ (as_choice ∙ sym (decide_test (linear_held d) (tree_at l n f) (tree_at l n g) tested))) Q)
          where
            tested : zeros (linear_held d).coeffs ≡ false
            tested = ap (λ (z : Node). zeros (linear_held z).coeffs) d_is ∙ (sym ec ∙ q)

            as_choice : node (test_of (linear_held d)) (tree_at l n f) (tree_at l n g) ≡ choose (test_of (linear_held d)) (tree_at l n f) (tree_at l n g)
            as_choice = ap₂ (node (test_of (linear_held d))) tree_f tree_g ∙ (sym (choose_leaves (test_of (linear_held d)) _ _) ∙ sym (ap₂ (choose (test_of (linear_held d))) tree_f tree_g))

-- ---- best of two that differ by a constant

module _ {cap : ℕ} {l : List ℤ} {w : List ℕ} {n : ℕ} (A : Bare cap l w n) (f g : ℕ) (F₀ : AtLinear l n f) (G₀ : AtLinear l n g) where
  abbrev d₀ : Node
  d₀ = less_node (node_at l g) (node_at l f)

  -- the better one is taken as it stands
  taken : (b : Bool) → Grew cap l w n (if b (ret (tree_at l n f)) (ret (tree_at l n g))) l w (made (if b f g) n)
  taken true = grew_ret A f F₀.leaf.below
  taken false = grew_ret A g G₀.leaf.below

  pub best_constant : {c : Bool} → c ≡ zeros (linear_held d₀).coeffs → c ≡ true → {r : Answer} → r ≡ better_constant n f g (constant_of (node_at l g) -ℤ constant_of (node_at l f))
      → Grew cap l w n (leaf_best (leaf_of (node_at l f)) (leaf_of (node_at l g))) l w r
  unfolding better_constant linear_held
  best_constant ec q {r} e = go (small (constant_of d₀)) refl (e ∙ ap (better_constant n f g) (sym (constant_less l f g (numbers_there A f F₀.leaf.below, numbers_there A g G₀.leaf.below))))
    where
      constant : zeros (linear_held d₀).coeffs ≡ true
      constant = sym ec ∙ q

      go : (b : Bool) → small (constant_of d₀) ≡ b → r ≡ if b (made (if (le_z (constant_of d₀) (pos 0)) f g) n) (halted Over n)
          → Grew cap l w n (leaf_best (leaf_of (node_at l f)) (leaf_of (node_at l g))) l w r
      go true s e =
          subst (Grew cap l w n (leaf_best (leaf_of (node_at l f)) (leaf_of (node_at l g))) l w) (sym e)
          (judged A f g F₀ G₀ refl refl refl (sym (constant_small (linear_held d₀) constant ∙ s)) refl
          (grew_as (sym (decide_constant (linear_held d₀) (tree_at l n f) (tree_at l n g) constant)) (taken (le_z (constant_of d₀) (pos 0)))))
      go false s e =
          subst (Grew cap l w n (leaf_best (leaf_of (node_at l f)) (leaf_of (node_at l g))) l w) (sym e)
          (best_over A f g F₀ G₀ refl refl refl (sym (constant_small (linear_held d₀) constant ∙ s)) refl)
