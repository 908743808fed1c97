-- How a choice by a test goes on.
use mathlib.Core.Path.{◌≡◌, refl, sym, ap, ap₂, ◌∙◌, subst}
use mathlib.Core.Bool.{Bool, true, false}
use mathlib.Core.List.{List}
use Prim.Native.Nat.{ℕ, ◌<◌, Ordering}
use native.Mathlib.Omega.{arith}
use lib.Dec.{eqb}
use lib.IntN.{ℤ, nat_abs}
use Rattle.whole.specs.Cases.{if}
use Rattle.table.specs.Table.{node_at, is_leaf}
use Rattle.table.specs.declared.Node.{Node}
use Rattle.theory.specs.Diagram.{Test, Tree, cmp}
use Rattle.theory.specs.Computation.{ret, both}
use Rattle.theory.specs.Rules.{node, step, choose}
use Rattle.rule_node.specs.declared.Sides.{Sides}
use Rattle.rule_node.specs.Nodes.{test_held, tree_at, Tested, Good}
use Rattle.rule_node.specs.Roots.{order_of, ord_num, down_of, right_sides}
use Rattle.rule_choose.specs.Choice.{split_of, pick_low, pick_of, choice_of, end_sides}
use Rattle.rule_node.proofs.Trees.{at_leaf, at_branch}
use Rattle.rule_choose.proofs.RootCases.{split_by, split_as}
use Rattle.rule_tests.proofs.Ordered.{order_is}
use Rattle.rule_node.proofs.TwoOperands.{step_lt, step_eq, step_gt, step_leaf, choose_lt, choose_eq, choose_gt, choose_leaf, both_ret, On, left_on, right_on, both_on}

-- t is first: a node of it over a high and a low side
pub record Here (l : List ℤ) (n : ℕ) (t : Test) (f g : ℕ) (s : Sides) : Type 0 where
  pub fh : s.fh < n
  pub gl : s.gl < n
  pub is : choose t (tree_at l n f) (tree_at l n g) ≡ node t (tree_at l n s.fh) (tree_at l n s.gl)

abbrev pub Chooses : List ℤ → ℕ → Test → ℕ → ℕ → Sides → Type 0
Chooses l n t f g s = (s.ends ≡ true → Here l n t f g s) × (s.ends ≡ false → On l n (choose t) node f g s)

no : {A : Type 0} → true ≡ false → A
no e = absurd (let z : ◌≡◌ {A = ℕ} 0 1 = cc in omega arith)

module _ {l : List ℤ} {n : ℕ} (G : Good l n) (z : Node) (vz : Tested z) (f g : ℕ) (hf : f < n) (hg : g < n) where
  abbrev Y : ℕ → Tree
  Y i = tree_at l n i

  abbrev p : Node
  p = node_at l f

  abbrev q : Node
  q = node_at l g

  abbrev t : Test
  t = test_held z

  cmp_p : is_leaf p.kind ≡ false → order_of z p ≡ cmp t (test_held p)
  cmp_p ep = order_is z p vz ((G.valid f hf).tested ep)

  cmp_q : is_leaf q.kind ≡ false → order_of z q ≡ cmp t (test_held q)
  cmp_q eq = order_is z q vz ((G.valid g hg).tested eq)

  cmp_pq : is_leaf p.kind ≡ false → is_leaf q.kind ≡ false → order_of p q ≡ cmp (test_held p) (test_held q)
  cmp_pq ep eq = order_is p q ((G.valid f hf).tested ep) ((G.valid g hg).tested eq)

  abbrev pick_by : Bool → Bool → Bool → ℕ → Sides
  pick_by b c d i = if b (end_sides i g g) (if c (right_sides f (down_of q) g) (if d (end_sides i g (down_of q).low) (end_sides i g g)))

  -- t does not come after the root of f: its high side is i
  module _ (i : ℕ) (hi : i < n) (e : (H : Tree) → choose t (Y f) H ≡ step node t (λ _. ret (Y i)) ret H) where
    ends_go : {j : ℕ} → j < n → choose t (Y f) (Y g) ≡ node t (Y i) (Y j) → Chooses l n t f g (end_sides i g j)
    ends_go hj e = (λ _. record { fh = hi; gl = hj; is = e }, λ b. no b)

    low_end : is_leaf q.kind ≡ false → choose t (Y f) (Y g) ≡ node t (Y i) (Y (nat_abs q.low)) → Chooses l n t f g (end_sides i g (down_of q).low)
    unfolding down_of
    low_end eq e = ends_go (let b = (G.valid g hg).low_below eq in omega arith) e

    low : (b : Bool) (o : Ordering) → is_leaf q.kind ≡ b → order_of z q ≡ o → Chooses l n t f g (pick_by b (eqb (ord_num o) 2) (eqb (ord_num o) 1) i)
    unfolding ord_num
    low true o eq eo = ends_go hg (e (Y g) ∙ (ap (step node t (λ _. ret (Y i)) ret) (at_leaf G g hg eq) ∙ (step_leaf node t _ _ _ ∙ (both_ret (node t) (Y i) _ ∙ ap (node t (Y i)) (sym (at_leaf G g hg eq))))))
    low false Ordering.lt eq eo = ends_go hg (e (Y g) ∙ (ap (step node t (λ _. ret (Y i)) ret) (at_branch G g hg eq) ∙
        (step_lt node t _ _ _ _ _ (sym (cmp_q eq) ∙ eo) ∙ (both_ret (node t) (Y i) _ ∙ ap (node t (Y i)) (sym (at_branch G g hg eq))))))
    low false Ordering.eq eq eo = low_end eq (e (Y g) ∙ (ap (step node t (λ _. ret (Y i)) ret) (at_branch G g hg eq) ∙ (step_eq node t _ _ _ _ _ (sym (cmp_q eq) ∙ eo) ∙ both_ret (node t) (Y i) _)))
    low false Ordering.gt eq eo = (
      λ b. no (sym b),
      λ _. right_on G f g hf hg (choose t) node eq
          (e (Y g) ∙ (ap (step node t (λ _. ret (Y i)) ret) (at_branch G g hg eq) ∙
          (step_gt node t _ _ _ _ _ (sym (cmp_q eq) ∙ eo) ∙ ap₂ (both (node (test_held q))) (sym (e _)) (sym (e _))))),
    )

    pub low_at : Chooses l n t f g (pick_low i f (down_of q) g (ord_num (order_of z q)))
    unfolding pick_low down_of
    low_at = low (is_leaf q.kind) (order_of z q) refl refl

  -- t comes after the root of f
  after_go : (b : Bool) (o : Ordering) → is_leaf p.kind ≡ false → order_of z p ≡ Ordering.gt → is_leaf q.kind ≡ b → order_of p q ≡ o → Chooses l n t f g (split_by false b (eqb (ord_num o) 0) (eqb (ord_num o) 1) (down_of p) f (down_of q) g)
  unfolding ord_num
  after_go b o ep ez eq eo = go b o eq eo
    where
      c : (H : Tree) → choose t (Y f) H ≡ step node (test_held p) (choose t (Y (nat_abs p.high))) (choose t (Y (nat_abs p.low))) H
      c H = ap (λ (F : Tree). choose t F H) (at_branch G f hf ep) ∙ choose_gt t (test_held p) _ _ H (sym (cmp_p ep) ∙ ez)

      go : (b : Bool) (o : Ordering) → is_leaf q.kind ≡ b → order_of p q ≡ o → Chooses l n t f g (split_by false b (eqb (ord_num o) 0) (eqb (ord_num o) 1) (down_of p) f (down_of q) g)
      go true o eq eo = (
        λ b. no (sym b),
        λ _. left_on G f g hf hg (choose t) node ep
            (c (Y g) ∙ (ap (step node (test_held p) (choose t (Y (nat_abs p.high))) (choose t (Y (nat_abs p.low)))) (at_leaf G g hg eq) ∙
            (step_leaf node _ _ _ _ ∙ ap (λ (H : Tree). both (node (test_held p)) (choose t (Y (nat_abs p.high)) H) (choose t (Y (nat_abs p.low)) H))
            (sym (at_leaf G g hg eq))))),
      )
      go false Ordering.lt eq eo = (
        λ b. no (sym b),
        λ _. left_on G f g hf hg (choose t) node ep
            (c (Y g) ∙ (ap (step node (test_held p) (choose t (Y (nat_abs p.high))) (choose t (Y (nat_abs p.low)))) (at_branch G g hg eq) ∙
            (step_lt node _ _ _ _ _ _ (sym (cmp_pq ep eq) ∙ eo) ∙ ap (λ (H : Tree). both (node (test_held p)) (choose t (Y (nat_abs p.high)) H)
            (choose t (Y (nat_abs p.low)) H)) (sym (at_branch G g hg eq))))),
      )
      go false Ordering.eq eq eo = (
        λ b. no (sym b),
        λ _. both_on G f g hf hg (choose t) node ep eq
            (c (Y g) ∙ (ap (step node (test_held p) (choose t (Y (nat_abs p.high))) (choose t (Y (nat_abs p.low)))) (at_branch G g hg eq) ∙ step_eq node _ _ _ _ _ _
            (sym (cmp_pq ep eq) ∙ eo))),
      )
      go false Ordering.gt eq eo = (
        λ b. no (sym b),
        λ _. right_on G f g hf hg (choose t) node eq
            (c (Y g) ∙ (ap (step node (test_held p) (choose t (Y (nat_abs p.high))) (choose t (Y (nat_abs p.low)))) (at_branch G g hg eq) ∙
            (step_gt node _ _ _ _ _ _ (sym (cmp_pq ep eq) ∙ eo) ∙ ap₂ (both (node (test_held q))) (sym (c _)) (sym (c _))))),
      )

  high_at : is_leaf p.kind ≡ false → ((H : Tree) → choose t (Y f) H ≡ step node t (λ _. ret (Y (nat_abs p.high))) ret H) → Chooses l n t f g (pick_low (down_of p).high f (down_of q) g (ord_num (order_of z q)))
  unfolding down_of
  high_at ep e = low_at (nat_abs p.high) (let b = (G.valid f hf).high_below ep in omega arith) e

  after_all : is_leaf p.kind ≡ false → order_of z p ≡ Ordering.gt → Chooses l n t f g (split_of (down_of p) f (down_of q) g (ord_num (order_of p q)))
  unfolding down_of
  after_all ep eo = subst (Chooses l n t f g) (split_as (down_of p) f (down_of q) g (ord_num (order_of p q)) false (is_leaf q.kind) (eqb (ord_num (order_of p q)) 0)
      (eqb (ord_num (order_of p q)) 1) ep refl refl refl) (after_go (is_leaf q.kind) (order_of p q) ep eo refl refl)

  abbrev pick_all : Bool → Bool → Bool → Sides
  pick_all b c d = if b (pick_low f f (down_of q) g (ord_num (order_of z q))) (if c (split_of (down_of p) f (down_of q) g (ord_num (order_of p q)))
      (if d (pick_low (down_of p).high f (down_of q) g (ord_num (order_of z q))) (pick_low f f (down_of q) g (ord_num (order_of z q)))))

  all : (b : Bool) (o : Ordering) → is_leaf p.kind ≡ b → order_of z p ≡ o → Chooses l n t f g (pick_all b (eqb (ord_num o) 2) (eqb (ord_num o) 1))
  unfolding ord_num
  all true o ep eo = low_at f hf (λ H. ap (λ (F : Tree). choose t F H) (at_leaf G f hf ep) ∙ (choose_leaf t _ H ∙ ap (λ (F : Tree). step node t (λ _. ret F) ret H) (sym (at_leaf G f hf ep))))
  all false Ordering.lt ep eo = low_at f hf (λ H. ap (λ (F : Tree). choose t F H) (at_branch G f hf ep) ∙ (choose_lt t (test_held p) _ _ H (sym (cmp_p ep) ∙ eo) ∙ ap (λ (F : Tree). step node t (λ _. ret F) ret H) (sym (at_branch G f hf ep))))
  all false Ordering.eq ep eo = high_at ep (λ H. ap (λ (F : Tree). choose t F H) (at_branch G f hf ep) ∙ choose_eq t (test_held p) _ _ H (sym (cmp_p ep) ∙ eo))
  all false Ordering.gt ep eo = after_all ep eo

  pub chooses : Chooses l n t f g (choice_of z p f q g)
  unfolding choice_of pick_of down_of
  chooses = all (is_leaf p.kind) (order_of z p) refl refl

-- with the sides that the code has
pub chooses_as : {l : List ℤ} {n : ℕ} (G : Good l n) {t : Test} (z : Node) → Tested z → test_held z ≡ t → (f g : ℕ) → f < n → g < n → {s : Sides} → s ≡ choice_of z (node_at l f) f (node_at l g) g → Chooses l n t f g s
chooses_as {l} {n} G {t} z vz et f g hf hg {s} e = subst (λ (t : Test). Chooses l n t f g s) et (subst (Chooses l n (test_held z) f g) (sym e) (chooses G z vz f g hf hg))
