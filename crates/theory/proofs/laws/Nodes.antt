-- Which tests and leaves stand in what the rules make: said once, with small numbers and with any.
use Rattle.std.specs.Prelude.{Bool, not, ◌&&◌, ℕ, ℤ, pos, negsuc}
use Rattle.std.proofs.Math.Bool.{true, false}
use mathlib.Core.List.{List, [], ◌∷◌}
use Prim.Native.Nat.{Ordering}
use Rattle.std.proofs.Math.Dec.{T, compare_is_eq}
use Rattle.std.specs.Int.Signed.{le_z}
use Rattle.whole.specs.Cases.{if, by_test, by_order, both, and_in}
use Rattle.theory.specs.Diagram.{Linear, Test, now, later, linear, Leaf, some, forbidden, lin_of, zero_linear, Tree, leaf, branch, plain, cmp_ℤ, cmp, same, ◌⊞◌, ◌⊠◌, ◌⊟◌, plus_constant, zeros, test_of}
use Rattle.theory.specs.Computation.{Comp, ret, make}
use Rattle.theory.specs.Computation as C
use Rattle.theory.specs.Rules.{parallel, narrowed, node, step, choose, over, merge, make_leaf, leaf_sum, leaf_product, leaf_scale, leaf_shift}
use Rattle.theory.specs.Rules.{leaf_complement, leaf_number, decide, leaf_best, sum, product, scale, shift, complement, number, best, zero_leaf}
use Rattle.theory.specs.Rules.{none_leaf, sum_on, levels_sum, linear_diagram, substitute, is_later, side, expectation, add_reward}
use Rattle.theory.specs.Valid.{all, all_nodes}
use Rattle.theory.proofs.laws.Safe.{Safe, safe_ret, safe_named, safe_make, safe_bind, safe_both, safe_judge, any}

-- ---- diagrams

-- all the tests and all the leaves of a diagram are such
abbrev pub GoodTree : (Test → Bool) → (Leaf → Bool) → Tree → Type 0
GoodTree t? f? F = T (all_nodes t? f? F)

-- all its tests
abbrev pub Tests : (Test → Bool) → Tree → Type 0
Tests t? F = GoodTree t? any F

pub parts : (t? : Test → Bool) (f? : Leaf → Bool) (t : Test) (h l : Tree) → GoodTree t? f? (branch t h l) → T (t? t) × (GoodTree t? f? h × GoodTree t? f? l)
unfolding all_nodes
parts t? f? t h l q = let d = both (t? t) (all_nodes t? f? h && all_nodes t? f? l) q in (d.0, both (all_nodes t? f? h) (all_nodes t? f? l) d.1)

pub branch_good : (t? : Test → Bool) (f? : Leaf → Bool) (t : Test) (h l : Tree) → T (t? t) → GoodTree t? f? h → GoodTree t? f? l → GoodTree t? f? (branch t h l)
unfolding all_nodes
branch_good t? f? t h l a b c = and_in (t? t) (all_nodes t? f? h && all_nodes t? f? l) a (and_in (all_nodes t? f? h) (all_nodes t? f? l) b c)

pub leaf_good : (t? : Test → Bool) (f? : Leaf → Bool) (f : Leaf) → T (f? f) → GoodTree t? f? (leaf f)
unfolding all_nodes
leaf_good t? f? f a = a

pub leaf_of : (t? : Test → Bool) (f? : Leaf → Bool) (f : Leaf) → GoodTree t? f? (leaf f) → T (f? f)
unfolding all_nodes
leaf_of t? f? f a = a

-- more tests and more leaves
pub widen : (t? u? : Test → Bool) (f? g? : Leaf → Bool) → ((t : Test) → T (t? t) → T (u? t)) → ((f : Leaf) → T (f? f) → T (g? f)) → (F : Tree) → GoodTree t? f? F → GoodTree u? g? F
widen t? u? f? g? w v (leaf f) a = leaf_good u? g? f (v f (leaf_of t? f? f a))
widen t? u? f? g? w v (branch t h l) a =
    let d = parts t? f? t h l a in
    branch_good u? g? t h l (w t d.0) (widen t? u? f? g? w v h d.1.0) (widen t? u? f? g? w v l d.1.1)

pub all_widen : {A : Type 0} (p q : A → Bool) → ((a : A) → T (p a) → T (q a)) → (l : List A) → T (all p l) → T (all q l)
unfolding all
all_widen p q w [] t = tt
all_widen p q w (a ∷ l) t = let d = both (p a) (all p l) t in and_in (q a) (all q l) (w a d.0) (all_widen p q w l d.1)

-- ---- the rules that keep leaves as they are, or treat them in any way

module _ (s? : ℤ → Bool) (t? : Test → Bool) where
  module _ (r? : Leaf → Bool) where
    -- a maker of nodes: what it makes of such diagrams is such a diagram
    abbrev Keeps : (Test → Tree → Tree → Comp Tree) → Type 0
    Keeps mk = (t : Test) (h l : Tree) → T (t? t) → GoodTree t? r? h → GoodTree t? r? l → Safe s? (GoodTree t? r?) (mk t h l)

    -- of diagrams with leaves i?, those with leaves r?
    abbrev Sends : (Leaf → Bool) → (Tree → Comp Tree) → Type 0
    Sends i? f = (G : Tree) → GoodTree t? i? G → Safe s? (GoodTree t? r?) (f G)

    -- what a low branch is replaced by is a part of it
    pub narrowed_good : (t : Test) (l : Tree) → GoodTree t? r? l → GoodTree t? r? (narrowed t l)
    unfolding narrowed
    narrowed_good t (leaf f) a = a
    narrowed_good t (branch u h l) a = by_test (parallel t u) (λ b. GoodTree t? r? (if b (narrowed t l) (branch u h l))) (λ _. narrowed_good t l (parts t? r? u h l a).1.1) (λ _. a)

    pub node_safe : Keeps node
    unfolding node
    node_safe t h l a b c =
        let k = narrowed t l in
        by_test (same h k) (λ s. Safe s? (GoodTree t? r?) (elim s [ true ↦ ret h | false ↦ make (branch t h k) ]))
        (λ _. safe_ret b) (λ _. safe_make (branch t h k) (branch_good t? r? t h k a b (narrowed_good t l c)))

    both_safe : (mk : Test → Tree → Tree → Comp Tree) → Keeps mk → (t : Test) (m₁ m₂ : Comp Tree) → T (t? t) → Safe s? (GoodTree t? r?) m₁ → Safe s? (GoodTree t? r?) m₂
        → Safe s? (GoodTree t? r?) (C.both (mk t) m₁ m₂)
    both_safe mk m t m₁ m₂ a b c = safe_both (mk t) m₁ m₂ b c (λ h l. m t h l a)

    module _ (i? : Leaf → Bool) (mk : Test → Tree → Tree → Comp Tree) (m : Keeps mk) (t : Test) (a : T (t? t)) (f g : Tree → Comp Tree) (fs : Sends i? f) (gs : Sends i? g) where
      pub step_safe : Sends i? (step mk t f g)
      unfolding step
      step_safe (leaf x) b = both_safe mk m t _ _ a (fs (leaf x) b) (gs (leaf x) b)
      step_safe (branch u h l) b =
          let d = parts t? i? u h l b in
          by_order (cmp t u)
          (λ o. Safe s? (GoodTree t? r?) (elim o [
            | Ordering.lt ↦ C.both (mk t) (f (branch u h l)) (g (branch u h l))
            | Ordering.eq ↦ C.both (mk t) (f h) (g l)
            | Ordering.gt ↦ C.both (mk u) (step mk t f g h) (step mk t f g l)
          ]))
          (both_safe mk m t _ _ a (fs _ b) (gs _ b))
          (λ _. both_safe mk m t _ _ a (fs h d.1.0) (gs l d.1.1))
          (both_safe mk m u _ _ d.0 (step_safe h d.1.0) (step_safe l d.1.1))

    pub choose_safe : Keeps choose
    unfolding choose
    choose_safe t (leaf x) G a b c = step_safe r? node node_safe t a (λ _. ret (leaf x)) ret (λ _ _. safe_ret b) (λ _. safe_ret) G c
    choose_safe t (branch u h l) G a b c =
        let d = parts t? r? u h l b in
        by_order (cmp t u)
        (λ o. Safe s? (GoodTree t? r?) (elim o [
          | Ordering.lt ↦ step node t (λ _. ret (branch u h l)) ret G
          | Ordering.eq ↦ step node t (λ _. ret h) ret G
          | Ordering.gt ↦ step node u (choose t h) (choose t l) G
        ]))
        (step_safe r? node node_safe t a (λ _. ret (branch u h l)) ret (λ _ _. safe_ret b) (λ _. safe_ret) G c)
        (λ _. step_safe r? node node_safe t a (λ _. ret h) ret (λ _ _. safe_ret d.1.0) (λ _. safe_ret) G c)
        (step_safe r? node node_safe u d.0 (choose t h) (choose t l) (λ F. choose_safe t h F a d.1.0) (λ F. choose_safe t l F a d.1.1) G c)

    pub over_safe : (i? : Leaf → Bool) (mk : Test → Tree → Tree → Comp Tree) → Keeps mk → (op : Leaf → Comp Tree) → ((g : Leaf) → T (i? g) → Safe s? (GoodTree t? r?) (op g)) → Sends i? (over mk op)
    unfolding over
    over_safe i? mk m op o (leaf g) a = o g (leaf_of t? i? g a)
    over_safe i? mk m op o (branch u h l) a =
        let d = parts t? i? u h l a in
        both_safe mk m u _ _ d.0 (over_safe i? mk m op o h d.1.0) (over_safe i? mk m op o l d.1.1)

    pub merge_safe : (i? j? : Leaf → Bool) (mk : Test → Tree → Tree → Comp Tree) → Keeps mk
        → (op : Leaf → Leaf → Comp Tree) → ((f g : Leaf) → T (i? f) → T (j? g) → Safe s? (GoodTree t? r?) (op f g))
        → (F G : Tree) → GoodTree t? i? F → GoodTree t? j? G → Safe s? (GoodTree t? r?) (merge mk op F G)
    unfolding merge
    merge_safe i? j? mk m op o (leaf f) G a b = over_safe j? mk m (op f) (λ g. o f g (leaf_of t? i? f a)) G b
    merge_safe i? j? mk m op o (branch u h l) G a b =
        let d = parts t? i? u h l a in
        step_safe j? mk m u d.0 (merge mk op h) (merge mk op l) (λ F. merge_safe i? j? mk m op o h F d.1.0) (λ F. merge_safe i? j? mk m op o l F d.1.1) G b

    pub decide_safe : (p : Linear) (H L : Tree) → T (t? (test_of p)) → GoodTree t? r? H → GoodTree t? r? L → Safe s? (GoodTree t? r?) (decide p H L)
    unfolding decide
    decide_safe p H L t a b = by_test (zeros p.coeffs)
        (λ z. Safe s? (GoodTree t? r?) (elim z [ true ↦ elim (le_z p.const (pos 0)) [ true ↦ ret H | false ↦ ret L ] | false ↦ choose (test_of p) H L ]))
        (λ _. by_test (le_z p.const (pos 0)) (λ z. Safe s? (GoodTree t? r?) (elim z [ true ↦ ret H | false ↦ ret L ])) (λ _. safe_ret a) (λ _. safe_ret b))
        (λ _. choose_safe (test_of p) H L t a b)

    -- a side has no test on its condition
    pub side_safe : (q? : Test → Bool) (b : Bool) (k : ℕ) → ((t : Test) → T (q? t) → T (not (is_later k t)) → T (t? t)) → (F : Tree) → GoodTree q? r? F → Safe s? (GoodTree t? r?) (side b k F)
    unfolding side
    side_safe q? b k w (leaf f) a = safe_ret (leaf_good t? r? f (leaf_of q? r? f a))
    side_safe q? b k w (branch t h l) a =
        let d = parts q? r? t h l a in
        let H = side_safe q? b k w h d.1.0 in
        let L = side_safe q? b k w l d.1.1 in
        by_test (is_later k t)
        (λ c. Safe s? (GoodTree t? r?) (elim c [ true ↦ if b (side b k h) (side b k l) | false ↦ C.both (node t) (side b k h) (side b k l) ]))
        (λ _. by_test b (λ c. Safe s? (GoodTree t? r?) (if c (side b k h) (side b k l))) (λ _. H) (λ _. L))
        (λ n. both_safe node node_safe t _ _ (w t d.0 n) H L)

-- ---- the rules that make leaves

-- leaves g? are such that those made of them are, once their numbers are named; Long is what their linears are before
pub record ClosedLeaves (s? : ℤ → Bool) (g? : Leaf → Bool) (Long : Linear → Type 0) : Type 0 where
  pub long : (f : Leaf) → T (g? f) → Long (lin_of f)
  pub add : (p q : Linear) → Long p → Long q → Long (p ⊞ q)
  pub times : (k : ℤ) (p : Linear) → Long p → Long (k ⊠ p)
  pub constant : (p : Linear) (k : ℤ) → Long p → Long (record { coeffs = p.coeffs; const = k })
  pub zero : T (g? (plain zero_linear))
  pub none : T (g? forbidden)
  pub judged : (p : Linear) → Long p → T (all s? p.coeffs) → T (s? p.const) → T (g? (plain p))

-- any leaf, whatever the numbers
pub any_closed : ClosedLeaves any any (λ _. Unit {0})
any_closed = record { long = λ _ _. tt; add = λ _ _ _ _. tt; times = λ _ _ _. tt; constant = λ _ _ _. tt; zero = tt; none = tt; judged = λ _ _ _ _. tt }

module _ {s? : ℤ → Bool} {g? : Leaf → Bool} {Long : Linear → Type 0} (c : ClosedLeaves s? g? Long) (t? : Test → Bool) where
  abbrev Made : Comp Tree → Type 0
  Made m = Safe s? (GoodTree t? g?) m

  pub make_leaf_safe : (p : Linear) → Long p → Made (make_leaf p)
  unfolding make_leaf
  make_leaf_safe p l = safe_judge p _ (λ a b. safe_make (leaf (plain p)) (leaf_good t? g? (plain p) (c.judged p l a b)))

  -- a rule by the first root, and one on each leaf
  merged : (op : Leaf → Leaf → Comp Tree) → ((f g : Leaf) → T (g? f) → T (g? g) → Made (op f g)) → (F G : Tree) → GoodTree t? g? F → GoodTree t? g? G → Made (merge node op F G)
  merged = merge_safe s? t? g? g? g? node (node_safe s? t? g?)

  each : (op : Leaf → Comp Tree) → ((g : Leaf) → T (g? g) → Made (op g)) → (F : Tree) → GoodTree t? g? F → Made (over node op F)
  each = over_safe s? t? g? g? node (node_safe s? t? g?)

  pub zero_good : GoodTree t? g? zero_leaf
  unfolding zero_leaf
  zero_good = leaf_good t? g? _ c.zero

  none_safe : Made (make none_leaf)
  none_safe = safe_make none_leaf (leaf_good t? g? forbidden c.none)

  long : (p : Linear) (a : ℕ) → T (g? (some p a)) → Long p
  unfolding lin_of
  long p a = c.long (some p a)

  leaf_sum_safe : (f g : Leaf) → T (g? f) → T (g? g) → Made (leaf_sum f g)
  unfolding leaf_sum
  leaf_sum_safe forbidden g a b = none_safe
  leaf_sum_safe (some p k) forbidden a b = none_safe
  leaf_sum_safe (some p k) (some q j) a b = make_leaf_safe _ (c.add p q (long p k a) (long q j b))

  leaf_scale_safe : (k : ℤ) (g : Leaf) → T (g? g) → Made (leaf_scale k g)
  unfolding leaf_scale
  leaf_scale_safe k (some q j) b = make_leaf_safe _ (c.times k q (long q j b))
  leaf_scale_safe k forbidden b = by_test (compare_is_eq (cmp_ℤ k (pos 0))) (λ z. Made (make (if z zero_leaf none_leaf))) (λ _. safe_make zero_leaf zero_good) (λ _. none_safe)

  pub sum_safe : (F G : Tree) → GoodTree t? g? F → GoodTree t? g? G → Made (sum F G)
  unfolding sum
  sum_safe = merged leaf_sum leaf_sum_safe

  pub product_safe : (F G : Tree) → GoodTree t? g? F → GoodTree t? g? G → Made (product F G)
  unfolding product leaf_product
  product_safe = merged leaf_product (λ f g _. leaf_scale_safe (lin_of f).const g)

  pub scale_safe : (k : ℤ) (F : Tree) → GoodTree t? g? F → Made (scale k F)
  unfolding scale
  scale_safe k = each (leaf_scale k) (leaf_scale_safe k)

  pub shift_safe : (k : ℤ) (F : Tree) → GoodTree t? g? F → Made (shift k F)
  unfolding shift leaf_shift plus_constant
  shift_safe k = each (leaf_shift k) (λ g b. make_leaf_safe _ (c.constant (lin_of g) _ (c.long g b)))

  pub complement_safe : (W : ℕ) (F : Tree) → GoodTree t? g? F → Made (complement W F)
  unfolding complement leaf_complement
  complement_safe W = each (leaf_complement W) (λ g b. make_leaf_safe _ (c.constant (lin_of g) _ (c.long g b)))

  -- leaves numbered with an action are r?, and so is none
  pub reward_safe : (r? : Leaf → Bool) (power : ℕ) (reward : Tree) (a : ℕ) (F : Tree) → ((p : Linear) (b : ℕ) → T (g? (some p b)) → T (r? (some p a))) → T (r? forbidden)
      → GoodTree t? g? reward → GoodTree t? g? F → Safe s? (GoodTree t? r?) (add_reward power reward a F)
  unfolding add_reward number leaf_number
  reward_safe r? power reward a F i n r b =
      safe_named (λ _. safe_bind (scale (pos power) reward) _ (scale_safe (pos power) reward r)
      (λ R d. safe_bind (sum F R) (number a) (sum_safe F R b d)
      (over_safe s? t? r? g? node (node_safe s? t? r?) (leaf_number a) numbered)))
    where
      numbered : (g : Leaf) → T (g? g) → Safe s? (GoodTree t? r?) (leaf_number a g)
      numbered (some p j) e = safe_make _ (leaf_good t? r? _ (i p j e))
      numbered forbidden e = safe_make none_leaf (leaf_good t? r? forbidden n)

  -- t? is q? without next_step condition k; the chance has none of it either
  pub expectation_safe : (q? : Test → Bool) (W : ℕ) (w : Tree) (k : ℕ) → ((t : Test) → T (q? t) → T (not (is_later k t)) → T (t? t)) → GoodTree t? g? w
      → (F : Tree) → GoodTree q? g? F → Made (expectation W w k F)
  unfolding expectation
  expectation_safe q? W w k v a F b =
      safe_bind (side true k F) _ (side_safe s? t? g? q? true k v F b)
      (λ Y y. safe_bind (product w Y) _ (product_safe w Y a y)
      (λ P p. safe_bind (complement W w) _ (complement_safe W w a)
      (λ u d. safe_bind (side false k F) _ (side_safe s? t? g? q? false k v F b)
      (λ N n. safe_bind (product u N) _ (product_safe u N d n)
      (λ Q q. sum_safe P Q p q)))))

  -- ---- where linears of such leaves are such tests

  module _ (lin : (f : Leaf) → T (g? f) → T (t? (test_of (lin_of f)))) where
    -- the leaves stay as they are
    pub best_safe : (r? : Leaf → Bool) → ((f : Leaf) → T (r? f) → Long (lin_of f)) → (F G : Tree) → GoodTree t? r? F → GoodTree t? r? G → Safe s? (GoodTree t? r?) (best F G)
    unfolding best leaf_best ◌⊟◌ lin_of
    best_safe r? w = merge_safe s? t? r? r? r? choose (choose_safe s? t? r?) leaf_best better
      where
        better : (f g : Leaf) → T (r? f) → T (r? g) → Safe s? (GoodTree t? r?) (leaf_best f g)
        better forbidden g a b = safe_ret (leaf_good t? r? g b)
        better (some p j) forbidden a b = safe_ret (leaf_good t? r? _ a)
        better (some p j) (some q i) a b =
            let d = q ⊟ p in
            safe_judge d _ (λ x y. decide_safe s? t? r? d (leaf (some p j)) (leaf (some q i))
            (lin (plain d) (c.judged d (c.add q (negsuc 0 ⊠ p) (w (some q i) b) (c.times (negsuc 0) p (w (some p j) a))) x y))
            (leaf_good t? r? _ a) (leaf_good t? r? _ b))

    -- ---- substitute, over such next levels

    abbrev Goods : List Tree → Type 0
    Goods Ds = T (all (all_nodes t? g?) Ds)

    sum_on_safe : (F : Tree) (cs : List ℤ) (Ds : List Tree) → GoodTree t? g? F → Goods Ds → Made (sum_on F cs Ds)
    unfolding sum_on all
    sum_on_safe F [] Ds a b = safe_ret a
    sum_on_safe F (k ∷ cs) [] a b = safe_ret a
    sum_on_safe F (k ∷ cs) (D ∷ Ds) a b =
        let d = both (all_nodes t? g? D) (all (all_nodes t? g?) Ds) b in
        safe_bind (scale k D) _ (scale_safe k D d.0) (λ G g. safe_bind (sum F G) _ (sum_safe F G a g) (λ S s. sum_on_safe S cs Ds s d.1))

    levels_safe : (cs : List ℤ) (Ds : List Tree) → Goods Ds → Made (levels_sum cs Ds)
    unfolding levels_sum all
    levels_safe [] Ds b = safe_make zero_leaf zero_good
    levels_safe (k ∷ cs) [] b = safe_make zero_leaf zero_good
    levels_safe (k ∷ cs) (D ∷ Ds) b =
        let d = both (all_nodes t? g? D) (all (all_nodes t? g?) Ds) b in
        safe_bind (scale k D) _ (scale_safe k D d.0) (λ F f. sum_on_safe F cs Ds f d.1)

    pub linear_safe : (Ds : List Tree) (p : Linear) → Goods Ds → Made (linear_diagram Ds p)
    unfolding linear_diagram
    linear_safe Ds p b = safe_bind (levels_sum p.coeffs Ds) (shift p.const) (levels_safe p.coeffs Ds b) (shift_safe p.const)

    chosen : (k : ℕ) (m₁ m₂ : Comp Tree) → T (t? (later k)) → Made m₁ → Made m₂ → Made (C.both (choose (later k)) m₁ m₂)
    chosen k = both_safe s? t? g? choose (choose_safe s? t? g?) (later k)

    -- whatever the leaves and linears of the diagram that is substituted in
    pub substitute_safe : (Ds : List Tree) → Goods Ds → (q? : Test → Bool) (i? : Leaf → Bool) → ((k : ℕ) → T (q? (now k)) → T (t? (later k))) → ((k : ℕ) → T (q? (later k)) → T (t? (later k)))
        → (F : Tree) → GoodTree q? i? F → Made (substitute Ds F)
    unfolding substitute
    substitute_safe Ds b q? i? w v (leaf (some p j)) a = linear_safe Ds p b
    substitute_safe Ds b q? i? w v (leaf forbidden) a = none_safe
    substitute_safe Ds b q? i? w v (branch (now k) h l) a =
        let d = parts q? i? (now k) h l a in
        chosen k _ _ (w k d.0) (substitute_safe Ds b q? i? w v h d.1.0) (substitute_safe Ds b q? i? w v l d.1.1)
    substitute_safe Ds b q? i? w v (branch (later k) h l) a =
        let d = parts q? i? (later k) h l a in
        chosen k _ _ (v k d.0) (substitute_safe Ds b q? i? w v h d.1.0) (substitute_safe Ds b q? i? w v l d.1.1)
    substitute_safe Ds b q? i? w v (branch (linear z) h l) a =
        let d = parts q? i? (linear z) h l a in
        let hs = substitute_safe Ds b q? i? w v h d.1.0 in
        let ls = substitute_safe Ds b q? i? w v l d.1.1 in
        safe_bind (linear_diagram Ds z) _ (linear_safe Ds z b)
        (λ P p. safe_bind (substitute Ds h) _ hs
        (λ H x. safe_bind (substitute Ds l) _ ls
        (λ L y. over_safe s? t? g? g? choose (choose_safe s? t? g?) (λ f. decide (lin_of f) H L) (λ f g. decide_safe s? t? g? (lin_of f) H L (lin f g) x y) P p)))
