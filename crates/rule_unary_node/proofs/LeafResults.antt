-- What the rules make of a leaf, in words and as trees.
use mathlib.Core.Path.{◌≡◌, refl, sym, ap, ◌∙◌, subst}
use mathlib.Core.Bool.{Bool, true, false}
use mathlib.Core.List.{List}
use Prim.Native.Nat.{ℕ, ◌^◌, ◌≤◌, ◌<◌}
use native.Mathlib.Omega.{arith}
use borrow.Author.Tests.{lt-ltb, le-ltb, ltb-false, eq-eqb, ne_eqb}
use lib.Dec.{eqb, ltb}
use lib.IntN.{ℤ, pos, nat_abs, ◌+ℤ◌, ◌-ℤ◌}
use lib.Signed.{mag}
use Rattle.whole.proofs.Signed.{R, back}
use Rattle.table.proofs.Leaf.{leaf_as, leaf_not, some_as, some_not}
use Rattle.table.specs.Table.{Answer, made, node_at, is_leaf, is_none}
use Rattle.table.specs.declared.Node.{Node}
use Rattle.theory.specs.Diagram.{Linear, Leaf, some, Tree, leaf, plus_constant}
use Rattle.theory.specs.Computation.{Comp, ret, make, run}
use Rattle.theory.specs.Rules.{make_leaf, none_leaf, over, scale, shift, complement, number, leaf_shift, leaf_complement, leaf_number}
use Rattle.rule_node.specs.Nodes.{linear_held, constant_of, leaf_of, tree_of, trees, tree_at, Nums, Valid, Plain}
use Rattle.rule_node.specs.Table.{Bare, Grew}
use Rattle.rule_node.specs.EntryMeaning.{from_halves}
use Rattle.rule_node.proofs.Trees.{leaf_none, leaf_some, leaf_lin, tree_leaf, at_leaf}
use Rattle.rule_node.proofs.TreeMade.{grew_there}
use Rattle.rule_node.proofs.Outcomes.{grew_as, grew_like, grew_ret}
use Rattle.rule_node.proofs.LeafNumbers.{nums_at}
use Rattle.rule_leaves.specs.Leaves.{AtLeaf, stays_none, product_node, shift_node, complement_node, number_node}
use Rattle.rule_leaves.proofs.Sums.{none_stays, scale_stays, scale_run}
use Rattle.rule_leaves.proofs.Figures.{with_lin}
use Rattle.whole.specs.Cases.{if}
use Rattle.rule_unary_node.specs.Acts.{act_of, Acts, acted_node, stays_by}
use Rattle.rule_unary_node.proofs.RulesByNumber.{by_op, side_leaf}

no : {A : Type 0} → true ≡ false → A
no e = absurd (let z : ◌≡◌ {A = ℕ} 0 1 = cc in omega arith)

-- ---- the words of each rule

module _ (p q : ℕ) (x : Node) {op : ℕ} where
  pub acted_scale : op ≡ 3 → acted_node op p q x ≡ product_node (from_halves p q) x
  unfolding acted_node
  acted_scale e = subst (λ (op : ℕ). acted_node op p q x ≡ product_node (from_halves p q) x) (sym e) refl

  pub acted_shift : op ≡ 4 → acted_node op p q x ≡ shift_node (from_halves p q) x
  unfolding acted_node
  acted_shift e = subst (λ (op : ℕ). acted_node op p q x ≡ shift_node (from_halves p q) x) (sym e) refl

  pub acted_complement : op ≡ 5 → acted_node op p q x ≡ complement_node p x
  unfolding acted_node
  acted_complement e = subst (λ (op : ℕ). acted_node op p q x ≡ complement_node p x) (sym e) refl

  pub acted_number : op ≡ 6 → acted_node op p q x ≡ number_node p x
  unfolding acted_node
  acted_number e = subst (λ (op : ℕ). acted_node op p q x ≡ number_node p x) (sym e) refl

  pub acted_side : 7 ≤ op → op ≤ 8 → acted_node op p q x ≡ x
  unfolding acted_node
  acted_side lo hi = by_op (λ (op : ℕ). 7 ≤ op → acted_node op p q x ≡ x) (λ h. absurd (omega arith)) (λ h. absurd (omega arith)) (λ h. absurd (omega arith)) (λ h. absurd (omega arith)) (λ _. refl) (λ _. refl) (omega arith) hi lo

-- as the code computes them, with the number that it puts together
module _ (p q : ℕ) (x : Node) {op : ℕ} (c : ℤ) (f : mag c < 2 ^ 63) (e : c ≡ from_halves p q) {r : Node} where
  pub scaled_as : op ≡ 3 → r ≡ product_node (R c) x → r ≡ acted_node op p q x
  scaled_as d er = er ∙ (ap (λ (z : ℤ). product_node z x) (back c (record { sfits = f }) ∙ e) ∙ sym (acted_scale p q x d))

  pub shifted_as : op ≡ 4 → r ≡ shift_node (R c) x → r ≡ acted_node op p q x
  shifted_as d er = er ∙ (ap (λ (z : ℤ). shift_node z x) (back c (record { sfits = f }) ∙ e) ∙ sym (acted_shift p q x d))

module _ (p q : ℕ) (x : Node) where
  plain_3 : Plain (product_node (from_halves p q) x)
  unfolding product_node
  plain_3 = record { kind = refl; high = refl; low = refl }

  plain_4 : Plain (shift_node (from_halves p q) x)
  unfolding shift_node
  plain_4 = record { kind = refl; high = refl; low = refl }

  plain_5 : Plain (complement_node p x)
  unfolding complement_node
  plain_5 = record { kind = refl; high = refl; low = refl }

  acted_plain : {op : ℕ} → 3 ≤ op → op ≤ 8 → op ≤ 5 → Plain (acted_node op p q x)
  acted_plain = by_op (λ (op : ℕ). op ≤ 5 → Plain (acted_node op p q x))
      (λ _. subst Plain (sym (acted_scale p q x refl)) plain_3)
      (λ _. subst Plain (sym (acted_shift p q x refl)) plain_4)
      (λ _. subst Plain (sym (acted_complement p q x refl)) plain_5)
      (λ h. absurd (omega arith)) (λ h. absurd (omega arith)) (λ h. absurd (omega arith))

  module _ {m : ℕ} (v : Valid x m) (N : ℕ) (X : List Tree) where
    run_3 : stays_none (from_halves p q) x ≡ false → run N (make_leaf (linear_held (product_node (from_halves p q) x))) X ≡ run N (act_of 3 p q (leaf (leaf_of x))) X
    unfolding act_of scale over
    run_3 s = scale_run N (from_halves p q) x v s X

    run_4 : run N (make_leaf (linear_held (shift_node (from_halves p q) x))) X ≡ run N (act_of 4 p q (leaf (leaf_of x))) X
    unfolding shift_node linear_held act_of shift over leaf_shift plus_constant
    run_4 =
        ap (λ (p : Linear). run N (make_leaf p) X) (with_lin x (constant_of x +ℤ from_halves p q) v.nums.long)
        ∙ ap (λ (z : Linear). run N (make_leaf (plus_constant (from_halves p q) z)) X) (sym (leaf_lin x v))

    run_5 : run N (make_leaf (linear_held (complement_node p x))) X ≡ run N (act_of 5 p q (leaf (leaf_of x))) X
    unfolding complement_node linear_held act_of complement over leaf_complement
    run_5 =
        ap (λ (p : Linear). run N (make_leaf p) X) (with_lin x (pos p -ℤ constant_of x) v.nums.long)
        ∙ ap (λ (z : Linear). run N (make_leaf (record { coeffs = z.coeffs; const = pos p -ℤ z.const })) X) (sym (leaf_lin x v))

    acted_run : {op : ℕ} → 3 ≤ op → op ≤ 8 → op ≤ 5 → stays_by op p q x ≡ false → run N (make_leaf (linear_held (acted_node op p q x))) X ≡ run N (act_of op p q (leaf (leaf_of x))) X
    unfolding stays_by
    acted_run = by_op (λ (op : ℕ). op ≤ 5 → stays_by op p q x ≡ false → run N (make_leaf (linear_held (acted_node op p q x))) X ≡ run N (act_of op p q (leaf (leaf_of x))) X)
        (λ _ s. ap (λ (y : Node). run N (make_leaf (linear_held y)) X) (acted_scale p q x refl) ∙ run_3 s)
        (λ _ s. ap (λ (y : Node). run N (make_leaf (linear_held y)) X) (acted_shift p q x refl) ∙ run_4)
        (λ _ s. ap (λ (y : Node). run N (make_leaf (linear_held y)) X) (acted_complement p q x refl) ∙ run_5)
        (λ h s. absurd (omega arith)) (λ h s. absurd (omega arith)) (λ h s. absurd (omega arith))

  number_valid : (n : ℕ) → Nums x → Valid (number_node p x) n
  unfolding number_node
  number_valid n s = record {
    nums = s;
    high_nat = tt;
    low_nat = tt;
    none = λ e. some_not refl e;
    leaf_low = λ _. refl;
    tested = λ e. leaf_not refl e;
    high_below = λ e. leaf_not refl e;
    low_below = λ e. leaf_not refl e;
  }

  number_kind : is_leaf (number_node p x).kind ≡ true
  unfolding number_node
  number_kind = leaf_as refl

  numbered : leaf_of (number_node p x) ≡ some (linear_held x) p
  unfolding number_node linear_held
  numbered = leaf_some (number_node p x) (some_as refl)

  number_some : act_of 6 p q (leaf (some (linear_held x) (nat_abs x.high))) ≡ make (leaf (some (linear_held x) p))
  unfolding act_of number over leaf_number
  number_some = refl

  number_leaf : is_none x.kind ≡ false → make (leaf (leaf_of (number_node p x))) ≡ act_of 6 p q (leaf (leaf_of x))
  number_leaf e = ap (λ (f : Leaf). make (leaf f)) numbered ∙ sym (ap (λ (f : Leaf). act_of 6 p q (leaf f)) (leaf_some x e) ∙ number_some)

  -- where it stays
  stays_6 : is_none x.kind ≡ true → act_of 6 p q (leaf (leaf_of x)) ≡ make none_leaf
  unfolding act_of number over leaf_number
  stays_6 e = ap (λ (f : Leaf). leaf_number p f) (leaf_none x e)

  stays_3 : stays_none (from_halves p q) x ≡ true → act_of 3 p q (leaf (leaf_of x)) ≡ make none_leaf
  unfolding act_of scale over
  stays_3 e = scale_stays (from_halves p q) x e

-- what stays is a side's leaf, or "none" made again
data Stays (op p q : ℕ) (x : Node) : Type 0 where
  side : act_of op p q (leaf (leaf_of x)) ≡ ret (leaf (leaf_of x)) → Stays op p q x
  none : is_none x.kind ≡ true → act_of op p q (leaf (leaf_of x)) ≡ make none_leaf → Stays op p q x

never : {A : Type 0} → false ≡ true → A
never e = absurd (let z : ◌≡◌ {A = ℕ} 0 1 = cc in omega arith)

stays_is : (p q : ℕ) (x : Node) {op : ℕ} → 3 ≤ op → op ≤ 8 → stays_by op p q x ≡ true → Stays op p q x
unfolding stays_by
stays_is p q x = by_op (λ (op : ℕ). stays_by op p q x ≡ true → Stays op p q x)
    (λ e. none (none_stays (from_halves p q) x e) (stays_3 p q x e))
    (λ e. never e)
    (λ e. never e)
    (λ e. none e (stays_6 p q x e))
    (λ e. side (side_leaf p q (leaf_of x) (omega arith) (omega arith)))
    (λ e. side (side_leaf p q (leaf_of x) (omega arith) (omega arith)))

-- ---- the code's tests

module _ (op p q : ℕ) (x : Node) where
  by_tests : (a b c : Bool) → ltb 6 op ≡ a → eqb op 6 ≡ b → eqb op 3 ≡ c → if a true (if b (is_none x.kind) (if c (stays_none (from_halves p q) x) false)) ≡ stays_by op p q x
  unfolding stays_by
  by_tests a b c e₁ e₂ e₃ = λ i. if (sym e₁ i) true (if (sym e₂ i) (is_none x.kind) (if (sym e₃ i) (stays_none (from_halves p q) x) false))

  pub stays_side : 6 < op → true ≡ stays_by op p q x
  stays_side h = by_tests true (eqb op 6) (eqb op 3) (lt-ltb 6 op h) refl refl

  pub stays_number : op ≤ 6 → 6 ≤ op → is_none x.kind ≡ stays_by op p q x
  stays_number a b = by_tests false true (eqb op 3) (le-ltb 6 op a) (eq-eqb op 6 (omega arith)) refl

  pub stays_scale : (c : ℤ) → mag c < 2 ^ 63 → c ≡ from_halves p q → op ≡ 3 → {r : Bool} → r ≡ stays_none (R c) x → r ≡ stays_by op p q x
  stays_scale c f ec e er = er ∙ (ap (λ (z : ℤ). stays_none z x) (back c (record { sfits = f }) ∙ ec) ∙ by_tests false false true (le-ltb 6 op (omega arith)) (ne_eqb op 6 (λ z. absurd (omega arith))) (eq-eqb op 3 e))

  pub stays_not : op < 6 → (op ≡ 3 → ⊥) → false ≡ stays_by op p q x
  stays_not h a = by_tests false false false (le-ltb 6 op (omega arith)) (ne_eqb op 6 (λ z. absurd (omega arith))) (ne_eqb op 3 a)

-- ---- at a leaf of the table

module _ {cap : ℕ} {l : List ℤ} {w : List ℕ} {n : ℕ} (B : Bare cap l w n) {op p q : ℕ} (A : Acts op p q) {f : ℕ} (E : AtLeaf l n f) where
  leaf_there : tree_at l n f ≡ leaf (leaf_of (node_at l f))
  leaf_there = at_leaf B.good f E.below E.ends

  -- it stays
  pub leaf_kept : {b : Bool} → b ≡ stays_by op p q (node_at l f) → b ≡ true → Grew cap l w n (act_of op p q (tree_at l n f)) l w (made f n)
  leaf_kept eb t = go (stays_is p q (node_at l f) A.from A.to (sym eb ∙ t))
    where
      go : Stays op p q (node_at l f) → Grew cap l w n (act_of op p q (tree_at l n f)) l w (made f n)
      go (side e) = grew_as (sym (ap (act_of op p q) leaf_there ∙ (e ∙ ap ret (sym leaf_there)))) (grew_ret B f E.below)
      go (none k e) = grew_as (ap make (leaf_there ∙ ap leaf (leaf_none (node_at l f) k)) ∙ sym (ap (act_of op p q) leaf_there ∙ e)) (grew_there B f E.below)

  -- it does not stay: no side
  acts : {b : Bool} → b ≡ stays_by op p q (node_at l f) → b ≡ false → op ≤ 6
  unfolding stays_by
  acts eb t = go (ltb 6 op) refl
    where
      go : (c : Bool) → ltb 6 op ≡ c → op ≤ 6
      go true e = never (sym t ∙ (eb ∙ ap (λ (c : Bool). if c true (if (eqb op 6) (is_none (node_at l f).kind) (if (eqb op 3) (stays_none (from_halves p q) (node_at l f)) false))) e))
      go false e = ltb-false 6 op e

  -- nor "none", numbered
  some_numbered : {b : Bool} → b ≡ stays_by op p q (node_at l f) → b ≡ false → op ≡ 6 → is_none (node_at l f).kind ≡ false
  unfolding stays_by
  some_numbered eb t e = ap (λ (k : ℕ). stays_by k p q (node_at l f)) (sym e) ∙ (sym eb ∙ t)

  pub leaf_nums : {x : Node} → x ≡ node_at l f → Nums x
  leaf_nums e = nums_at B f E.below e

  module _ {x y : Node} (ex : x ≡ node_at l f) (ey : y ≡ acted_node op p q x) where
    as_act : {m : Comp Tree} → m ≡ act_of op p q (leaf (leaf_of x)) → m ≡ act_of op p q (tree_at l n f)
    as_act e = e ∙ ap (act_of op p q) (ap (λ (z : Node). leaf (leaf_of z)) ex ∙ sym leaf_there)

    pub leaf_plain : op ≤ 5 → Plain y
    leaf_plain h = subst Plain (sym ey) (acted_plain p q x A.from A.to h)

    module _ {b : Bool} (eb : b ≡ stays_by op p q (node_at l f)) (t : b ≡ false) where
      leaf_judged_by : op ≤ 5 → {l₁ : List ℤ} {w₁ : List ℕ} {r : Answer} → Grew cap l w n (make_leaf (linear_held y)) l₁ w₁ r → Grew cap l w n (act_of op p q (tree_at l n f)) l₁ w₁ r
      leaf_judged_by h S =
          grew_as (as_act refl)
          (grew_like (acted_run p q x (subst (λ (z : Node). Valid z f) (sym ex) (B.good.valid f E.below)) cap (trees l n) A.from A.to h (ap (stays_by op p q) ex ∙ (sym eb ∙ t)))
          (grew_as (ap (λ (z : Node). make_leaf (linear_held z)) ey) S))

      six : 5 < op → op ≡ 6
      six h = let a = acts eb t in omega arith

    pub leaf_judged : {b : Bool} → b ≡ stays_by op p q (node_at l f) → b ≡ false → op ≤ 5 → {l₁ : List ℤ} {w₁ : List ℕ} {r : Answer} → Grew cap l w n (make_leaf (linear_held y)) l₁ w₁ r → Grew cap l w n (act_of op p q (tree_at l n f)) l₁ w₁ r
    leaf_judged eb t h S = leaf_judged_by eb t h S

    pub leaf_valid : {b : Bool} → b ≡ stays_by op p q (node_at l f) → b ≡ false → 5 < op → Valid y n
    leaf_valid eb t h = subst (λ (z : Node). Valid z n) (sym (ey ∙ acted_number p q x (six eb t h))) (number_valid p q x n (leaf_nums ex))

    pub leaf_numbered : {b : Bool} → b ≡ stays_by op p q (node_at l f) → b ≡ false → 5 < op → {l₁ : List ℤ} {w₁ : List ℕ} {r : Answer} → Grew cap l w n
        (make (tree_of y (trees l n))) l₁ w₁ r → Grew cap l w n (act_of op p q (tree_at l n f)) l₁ w₁ r
    leaf_numbered eb t h S =
        let e = six eb t h in
        let a : make (tree_of y (trees l n)) ≡ make (tree_of (number_node p x) (trees l n)) = ap (λ (z : Node). make (tree_of z (trees l n))) (ey ∙ acted_number p q x e) in
        let b : make (tree_of (number_node p x) (trees l n)) ≡ act_of 6 p q (leaf (leaf_of x)) = ap make (tree_leaf (number_node p x) (trees l n) (number_kind p q x))
        ∙ number_leaf p q x (ap (λ (z : Node). is_none z.kind) ex ∙ some_numbered eb t e) in
        grew_as (a ∙ (as_act (b ∙ ap (λ (k : ℕ). act_of k p q (leaf (leaf_of x))) (sym e)))) S
