-- The trees of a table's nodes.
use mathlib.Core.Path.{◌≡◌, refl, sym, ap, ap₂, ◌∙◌}
use mathlib.Core.Bool.{Bool, true, false}
use mathlib.Core.Logic.{⊎_elim}
use mathlib.Core.List.{List, [], ◌∷◌, ◌++◌}
use Prim.Native.Nat.{ℕ, zero, suc, ◌+◌, ◌-◌, ◌≤◌, ◌<◌}
use native.Mathlib.Numerals.{add-one}
use native.Mathlib.Omega.{arith}
use borrow.Author.Tests.{ltb-true, ltb-false, lt-ltb, le-ltb}
use lib.Dec.{T, ltb}
use lib.IntN.{ℤ, pos, nat_abs}
use lib.Signed.{non_neg, pos-nat_abs}
use lib.ListN.{length, get_or, take, length-append, get_or-append}
use lib.Seq.{get_or_at, take-suc, take_all, ext_get_or}
use Rattle.whole.specs.Cases.{if}
use Rattle.whole.specs.Linears.{numbers}
use Rattle.table.proofs.Look.{split, eq_ℤ_true}
use Rattle.table.proofs.Leaf.{some_kind}
use Rattle.table.specs.Table.{node_at, eq_ℤ, is_leaf, is_none}
use Rattle.table.specs.declared.Node.{Node}
use Rattle.theory.specs.Widths.{levels_most, conditions_most}
use Rattle.theory.specs.Diagram.{Linear, now, later, linear, some, forbidden, lin_of, zero_linear, no_coeffs, Tree, leaf, branch}
use Rattle.rule_node.specs.Nodes.{linear_held, none_node, leaf_of, first_of, condition_of, test_held, tree_of, trees, tree_at, blank, Tested, Valid, Good, Grown}

-- ---- lists of trees

pub trees_length : (l : List ℤ) (n : ℕ) → length (trees l n) ≡ n
unfolding trees
trees_length l zero = refl
trees_length l (suc n) = length-append (trees l n) _ ∙ (ap (λ (k : ℕ). k + 1) (trees_length l n) ∙ add-one n)

-- the tree at an index is that of its node over the trees below
pub trees_at : (l : List ℤ) (n i : ℕ) → i < n → tree_at l n i ≡ tree_of (node_at l i) (trees l i)
unfolding trees
trees_at l zero i h = absurd (omega arith)
trees_at l (suc n) i h = ⊎_elim
    (λ q. get_or-append (trees l n) _ blank i (let e = trees_length l n in omega arith) ∙ trees_at l n i q)
    (λ q. ap (λ (k : ℕ). get_or (trees l (suc n)) k blank) q ∙ (get_or_at (trees l n) (tree_of (node_at l n) (trees l n)) [] blank n (trees_length l n) ∙ ap (λ (k : ℕ). tree_of (node_at l k) (trees l k)) (sym q)))
    (split n i h)

pub trees_le : (l : List ℤ) (n m i : ℕ) → i < n → n ≤ m → tree_at l n i ≡ tree_at l m i
trees_le l n m i h k = trees_at l n i h ∙ sym (trees_at l m i (omega arith))

pub trees_same : (l l' : List ℤ) (n : ℕ) → ((i : ℕ) → i < n → node_at l' i ≡ node_at l i) → trees l' n ≡ trees l n
unfolding trees
trees_same l l' zero h = refl
trees_same l l' (suc n) h =
    let e = trees_same l l' n (λ i q. h i (omega arith)) in
    ap₂ (λ (X : List Tree) (x : Node). X ++ (tree_of x X ∷ [])) e (h n (omega arith))

-- nodes that are kept keep their trees
pub trees_kept : {l l' : List ℤ} {n n' : ℕ} → Grown l n l' n' → (i : ℕ) → i < n → tree_at l' n' i ≡ tree_at l n i
trees_kept {l} {l'} {n} {n'} G i q =
    let h = G.more in
    trees_at l' n' i (omega arith) ∙ (ap₂ tree_of (G.kept i q) (trees_same l l' i (λ j p. G.kept j (omega arith))) ∙ sym (trees_at l n i q))

-- a table has grown from itself, and by parts
pub grown_not : (l : List ℤ) (n : ℕ) → Grown l n l n
grown_not l n = record { more = omega arith; kept = λ i q. refl }

pub grown_on : {l₁ l₂ l₃ : List ℤ} {n₁ n₂ n₃ : ℕ} → Grown l₁ n₁ l₂ n₂ → Grown l₂ n₂ l₃ n₃ → Grown l₁ n₁ l₃ n₃
grown_on G H = let a = G.more in let b = H.more in record { more = omega arith; kept = λ i q. H.kept i (omega arith) ∙ G.kept i q }

abbrev pub branch_of : Node → List Tree → Tree
branch_of x X = branch (test_held x) (get_or X (nat_abs x.high) blank) (get_or X (nat_abs x.low) blank)

pub tree_leaf : (x : Node) (X : List Tree) → is_leaf x.kind ≡ true → tree_of x X ≡ leaf (leaf_of x)
unfolding tree_of
tree_leaf x X e = ap (λ (b : Bool). if b (leaf (leaf_of x)) (branch_of x X)) e

pub tree_branch : (x : Node) (X : List Tree) → is_leaf x.kind ≡ false → tree_of x X ≡ branch_of x X
unfolding tree_of
tree_branch x X e = ap (λ (b : Bool). if b (leaf (leaf_of x)) (branch_of x X)) e

-- ---- the tree of a node decides the node

nat_eq : (x y : ℤ) → T (non_neg x) → T (non_neg y) → nat_abs x ≡ nat_abs y → x ≡ y
nat_eq x y p q e = sym (pos-nat_abs x p) ∙ (ap pos e ∙ pos-nat_abs y q)

no : {A : Type 0} → true ≡ false → A
no e = absurd (let z : ◌≡◌ {A = ℕ} 0 1 = cc in omega arith)

record SameTest (x y : Node) : Type 0 where
  pub kind : x.kind ≡ y.kind
  pub n : x.n ≡ y.n

-- a list is its first numbers and the last
pub split_last : (m : ℕ) (l : List ℤ) → length l ≡ suc m → take m l ++ (get_or l m (pos 0) ∷ []) ≡ l
split_last m l e = sym (take-suc l m (pos 0) (omega arith)) ∙ take_all (suc m) l (omega arith)

-- the parts of a linear decide its numbers
same_numbers : (m : ℕ) (a b : List ℤ) → length a ≡ suc m → length b ≡ suc m → take m a ≡ take m b → get_or a m (pos 0) ≡ get_or b m (pos 0) → a ≡ b
same_numbers m a b ea eb t c = sym (split_last m a ea) ∙ (ap₂ (λ (l : List ℤ) (z : ℤ). l ++ (z ∷ [])) t c ∙ split_last m b eb)

-- numbers that agree in the first, and are 0 behind it
pub same_firsts : (a b : List ℤ) → length a ≡ length b → get_or a 0 (pos 0) ≡ get_or b 0 (pos 0) → ((k : ℕ) → 0 < k → get_or a k (pos 0) ≡ pos 0) → ((k : ℕ) → 0 < k → get_or b k (pos 0) ≡ pos 0) → a ≡ b
same_firsts a b e f u v = ext_get_or (pos 0) a b e go
  where
    go : (k : ℕ) → k < length a → get_or a k (pos 0) ≡ get_or b k (pos 0)
    go zero h = f
    go (suc k) h = u (suc k) (omega arith) ∙ sym (v (suc k) (omega arith))

-- ---- conditions in words

pub later_is : (k : ℕ) → conditions_most < k → condition_of k ≡ later (k - conditions_most)
unfolding condition_of
later_is k h = ap (λ (b : Bool). if b (later (k - conditions_most)) (now k)) (lt-ltb conditions_most k h)

pub now_is : (k : ℕ) → k ≤ conditions_most → condition_of k ≡ now k
unfolding condition_of
now_is k h = ap (λ (b : Bool). if b (later (k - conditions_most)) (now k)) (le-ltb conditions_most k h)

-- a condition's word is above 4, or not
pub by_word : {A : Type 0} (k : ℕ) → (conditions_most < k → A) → (k ≤ conditions_most → A) → A
by_word {A} k f g = go (ltb conditions_most k) refl
  where
    go : (b : Bool) → ltb conditions_most k ≡ b → A
    go true e = f (ltb-true conditions_most k e)
    go false e = g (ltb-false conditions_most k e)

later_same : (i j : ℕ) → conditions_most < i → conditions_most < j → later (i - conditions_most) ≡ later (j - conditions_most) → i ≡ j
later_same i j p q e = let z : i - conditions_most ≡ j - conditions_most = cc in omega arith

now_same : (i j : ℕ) → now i ≡ now j → i ≡ j
now_same i j e = cc

now_later : {A : Type 0} (i j : ℕ) → now i ≡ later j → A
now_later i j e = absurd (let z : ◌≡◌ {A = ℕ} 0 1 = cc in omega arith)

-- equal conditions have one word
condition_same : (i j : ℕ) → condition_of i ≡ condition_of j → i ≡ j
condition_same i j e =
    by_word i
    (λ p. by_word j
    (λ q. later_same i j p q (sym (later_is i p) ∙ (e ∙ later_is j q)))
    (λ q. now_later _ _ (sym (now_is j q) ∙ (sym e ∙ later_is i p))))
    (λ p. by_word j
    (λ q. now_later _ _ (sym (now_is i p) ∙ (e ∙ later_is j q)))
    (λ q. now_same i j (sym (now_is i p) ∙ (e ∙ now_is j q))))

condition_linear : {A : Type 0} (i : ℕ) (p : Linear) → condition_of i ≡ linear p → A
condition_linear i p e = by_word i
    (λ h. let s = sym (later_is i h) ∙ e in absurd (let z : ◌≡◌ {A = ℕ} 0 1 = cc in omega arith))
    (λ h. let s = sym (now_is i h) ∙ e in absurd (let z : ◌≡◌ {A = ℕ} 0 1 = cc in omega arith))

pub test_con : (x : Node) → eq_ℤ x.kind (pos 1) ≡ true → test_held x ≡ condition_of (nat_abs (first_of x))
unfolding test_held
test_con x e = ap (λ (b : Bool). if b (condition_of (nat_abs (first_of x))) (linear (linear_held x))) e

pub test_lin : (x : Node) → eq_ℤ x.kind (pos 1) ≡ false → test_held x ≡ linear (linear_held x)
unfolding test_held
test_lin x e = ap (λ (b : Bool). if b (condition_of (nat_abs (first_of x))) (linear (linear_held x))) e

-- ---- equal tests have equal words

lin : (x y : Node) → length x.n ≡ numbers → length y.n ≡ numbers → linear_held x ≡ linear_held y → x.n ≡ y.n
unfolding linear_held
lin x y n m e = same_numbers levels_most x.n y.n n m (ap (λ (p : Linear). p.coeffs) e) (ap (λ (p : Linear). p.const) e)

same_test : (x y : Node) → Tested x → Tested y → test_held x ≡ test_held y → SameTest x y
same_test x y vx vy e = go (eq_ℤ x.kind (pos 1)) (eq_ℤ y.kind (pos 1)) refl refl
  where
    go : (p q : Bool) → eq_ℤ x.kind (pos 1) ≡ p → eq_ℤ y.kind (pos 1) ≡ q → SameTest x y
    go true true p q =
        record {
          kind = eq_ℤ_true x.kind (pos 1) p ∙ sym (eq_ℤ_true y.kind (pos 1) q);
          n = same_firsts x.n y.n (vx.long ∙ sym vy.long) (nat_eq (first_of x) (first_of y) (vx.number p) (vy.number q) (condition_same _ _ (sym (test_con x p) ∙ (e ∙ test_con y q)))) (vx.rest p) (vy.rest q);
        }
    go true false p q = condition_linear _ _ (sym (test_con x p) ∙ (e ∙ test_lin y q))
    go false true p q = condition_linear _ _ (sym (test_con y q) ∙ (sym e ∙ test_lin x p))
    go false false p q =
        let s : linear (linear_held x) ≡ linear (linear_held y) = sym (test_lin x p) ∙ (e ∙ test_lin y q) in
        record { kind = vx.kind p ∙ sym (vy.kind q); n = lin x y vx.long vy.long (cc) }

same_node : (x y : Node) → SameTest x y → x.high ≡ y.high → x.low ≡ y.low → x ≡ y
same_node x y t h l = λ i. record { kind = t.kind i; n = t.n i; high = h i; low = l i }

-- ---- a leaf: that of a linear, or "none"

pub leaf_none : (x : Node) → is_none x.kind ≡ true → leaf_of x ≡ forbidden
unfolding leaf_of
leaf_none x e = ap (λ (b : Bool). if b forbidden (some (linear_held x) (nat_abs x.high))) e

pub leaf_some : (x : Node) → is_none x.kind ≡ false → leaf_of x ≡ some (linear_held x) (nat_abs x.high)
unfolding leaf_of
leaf_some x e = ap (λ (b : Bool). if b forbidden (some (linear_held x) (nat_abs x.high))) e

none_lin : linear_held none_node ≡ zero_linear
unfolding linear_held no_coeffs
none_lin = refl

-- its linear is that of its words
pub leaf_lin : (x : Node) {n : ℕ} → Valid x n → lin_of (leaf_of x) ≡ linear_held x
unfolding lin_of
leaf_lin x v = go (is_none x.kind) refl
  where
    go : (b : Bool) → is_none x.kind ≡ b → lin_of (leaf_of x) ≡ linear_held x
    go true e = ap lin_of (leaf_none x e) ∙ (sym none_lin ∙ ap linear_held (sym (v.none e)))
    go false e = ap lin_of (leaf_some x e)

some_none : {A : Type 0} {p : Linear} {a : ℕ} → some p a ≡ forbidden → A
some_none e = absurd (let z : ◌≡◌ {A = ℕ} 0 1 = cc in omega arith)

some_lin : {p q : Linear} {a b : ℕ} → some p a ≡ some q b → p ≡ q
some_lin e = cc

some_act : {p q : Linear} {a b : ℕ} → some p a ≡ some q b → a ≡ b
some_act e = cc

same_leaf : (x y : Node) {n : ℕ} → Valid x n → Valid y n → is_leaf x.kind ≡ true → is_leaf y.kind ≡ true → leaf_of x ≡ leaf_of y → x ≡ y
same_leaf x y vx vy p q e = go (is_none x.kind) (is_none y.kind) refl refl
  where
    go : (a b : Bool) → is_none x.kind ≡ a → is_none y.kind ≡ b → x ≡ y
    go true true a b = vx.none a ∙ sym (vy.none b)
    go true false a b = some_none (sym (leaf_some y b) ∙ (sym e ∙ leaf_none x a))
    go false true a b = some_none (sym (leaf_some x a) ∙ (e ∙ leaf_none y b))
    go false false a b =
        let s : some (linear_held x) (nat_abs x.high) ≡ some (linear_held y) (nat_abs y.high) = sym (leaf_some x a) ∙ (e ∙ leaf_some y b) in
        same_node x y (record { kind = some_kind x.kind p a ∙ sym (some_kind y.kind q b); n = lin x y vx.nums.long vy.nums.long (some_lin s) })
        (nat_eq x.high y.high vx.high_nat vy.high_nat (some_act s)) (vx.leaf_low p ∙ sym (vy.leaf_low q))

-- a node that can stand lower can stand here
pub weaken : {x : Node} {i n : ℕ} → i ≤ n → Valid x i → Valid x n
weaken h v = record {
  nums = v.nums;
  high_nat = v.high_nat;
  low_nat = v.low_nat;
  none = v.none;
  leaf_low = v.leaf_low;
  tested = v.tested;
  high_below = λ e. let q = v.high_below e in omega arith;
  low_below = λ e. let q = v.low_below e in omega arith;
}

module _ {l : List ℤ} {n : ℕ} (G : Good l n) where
  -- the tree at a leaf, and at a branch
  pub at_leaf : (f : ℕ) → f < n → is_leaf (node_at l f).kind ≡ true → tree_at l n f ≡ leaf (leaf_of (node_at l f))
  at_leaf f h e = trees_at l n f h ∙ tree_leaf (node_at l f) (trees l f) e

  pub at_branch : (f : ℕ) → f < n → is_leaf (node_at l f).kind ≡ false → tree_at l n f ≡ branch_of (node_at l f) (trees l n)
  at_branch f h e =
      trees_at l n f h ∙ (tree_branch (node_at l f) (trees l f) e
      ∙ ap₂ (branch (test_held (node_at l f))) (trees_le l f n (nat_abs (node_at l f).high) ((G.valid f h).high_below e) (omega arith)) (trees_le l f n (nat_abs (node_at l f).low) ((G.valid f h).low_below e) (omega arith)))

  -- each tree is that of its node over all the trees
  pub tree_at_is : (i : ℕ) → i < n → tree_at l n i ≡ tree_of (node_at l i) (trees l n)
  tree_at_is i h = go (is_leaf (node_at l i).kind) refl
    where
      go : (b : Bool) → is_leaf (node_at l i).kind ≡ b → tree_at l n i ≡ tree_of (node_at l i) (trees l n)
      go true e = at_leaf i h e ∙ sym (tree_leaf (node_at l i) (trees l n) e)
      go false e = at_branch i h e ∙ sym (tree_branch (node_at l i) (trees l n) e)

  -- the tree of a node decides the node
  pub inj : (x y : Node) → Valid x n → Valid y n → tree_of x (trees l n) ≡ tree_of y (trees l n) → x ≡ y
  inj x y vx vy e = go (is_leaf x.kind) (is_leaf y.kind) refl refl
    where
      go : (a b : Bool) → is_leaf x.kind ≡ a → is_leaf y.kind ≡ b → x ≡ y
      go true true p q =
          let s : leaf (leaf_of x) ≡ leaf (leaf_of y) = sym (tree_leaf x (trees l n) p) ∙ (e ∙ tree_leaf y (trees l n) q) in
          same_leaf x y vx vy p q (cc)
      go true false p q =
          let s : leaf (leaf_of x) ≡ branch_of y (trees l n) = sym (tree_leaf x (trees l n) p) ∙ (e ∙ tree_branch y (trees l n) q) in
          absurd (let z : ◌≡◌ {A = ℕ} 0 1 = cc in omega arith)
      go false true p q =
          let s : branch_of x (trees l n) ≡ leaf (leaf_of y) = sym (tree_branch x (trees l n) p) ∙ (e ∙ tree_leaf y (trees l n) q) in
          absurd (let z : ◌≡◌ {A = ℕ} 0 1 = cc in omega arith)
      go false false p q =
          let s : branch_of x (trees l n) ≡ branch_of y (trees l n) = sym (tree_branch x (trees l n) p) ∙ (e ∙ tree_branch y (trees l n) q) in
          same_node x y (same_test x y (vx.tested p) (vy.tested q) (cc))
          (nat_eq x.high y.high vx.high_nat vy.high_nat (G.distinct (nat_abs x.high) (nat_abs y.high) (vx.high_below p) (vy.high_below q) (cc)))
          (nat_eq x.low y.low vx.low_nat vy.low_nat (G.distinct (nat_abs x.low) (nat_abs y.low) (vx.low_below p) (vy.low_below q) (cc)))
