-- The rules by number: what each entry's words mean, that it lasts, and the test that a choice is given.
use mathlib.Core.Path.{◌≡◌, refl, sym, ap, ap₂, ◌∙◌, subst}
use mathlib.Core.Bool.{Bool, true, false}
use mathlib.Core.Logic.{⊎_elim, inl, inr}
use mathlib.Core.List.{List, [], ◌∷◌, map}
use Prim.Native.Nat.{ℕ, zero, suc, ◌+◌, ◌-◌, ◌%◌, ◌≤◌, ◌<◌}
use native.Mathlib.Omega.{arith}
use borrow.Author.Tests.{eq-eqb, ne_eqb}
use lib.IntN.{ℤ, pos}
use lib.ListN.{length, get_or, replicate}
use mir.Syntax.{w64}
use mir.Val.{to_z}
use Rattle.whole.specs.Cases.{if}
use Rattle.whole.specs.Within.{Small}
use Rattle.whole.specs.Linears.{numbers, Smalls, divisor_list}
use Rattle.whole.specs.LinearsLaws.{quot_take, quot_at, quot_smalls}
use Rattle.table.proofs.Words.{back}
use Rattle.table.proofs.Leaf.{condition_as, test_as}
use Rattle.table.specs.Table.{node_at, eq_ℤ, is_leaf}
use Rattle.table.specs.declared.Node.{Node}
use Rattle.theory.specs.Widths.{levels_most, conditions_most}
use Rattle.theory.specs.Diagram.{Test, later, linear, Leaf, lin_of, Tree, leaf, branch, quot_list, quotient, divisor, test_of}
use Rattle.theory.specs.Rules.{choose, over, decide, sum, product, best, scale, shift, complement, number, side, substitute}
use Rattle.rule_node.specs.Nodes.{linear_held, test_held, condition_of, tree_at, Good, Proper, Grown, Root}
use Rattle.rule_node.specs.Table.{Lasting, Bare, Table}
use Rattle.rule_node.specs.EntryMeaning.{from_halves, test_in, test_by, NamesTest, indexes, packed, rule_by, rule_of}
use Rattle.rule_node.specs.Roots.{condition_node, later_node, linear_node, Stood, named_node, test_node, Readable}
use Rattle.rule_node.proofs.Trees.{trees_kept, later_is, leaf_lin, at_leaf, at_branch}

-- ---- the rules, each by its number

module _ (l : List ℤ) (n f g p q : ℕ) where
  abbrev F : Tree
  F = tree_at l n f

  abbrev G : Tree
  G = tree_at l n g

  pub rule_sum : rule_of l n 0 f g p q ≡ sum F G
  unfolding rule_of rule_by
  rule_sum = refl

  pub rule_product : rule_of l n 1 f g p q ≡ product F G
  unfolding rule_of rule_by
  rule_product = refl

  pub rule_best : rule_of l n 2 f g p q ≡ best F G
  unfolding rule_of rule_by
  rule_best = refl

  pub rule_scale : rule_of l n 3 f g p q ≡ scale (from_halves p q) F
  unfolding rule_of rule_by
  rule_scale = refl

  pub rule_shift : rule_of l n 4 f g p q ≡ shift (from_halves p q) F
  unfolding rule_of rule_by
  rule_shift = refl

  pub rule_complement : rule_of l n 5 f g p q ≡ complement p F
  unfolding rule_of rule_by
  rule_complement = refl

  pub rule_number : rule_of l n 6 f g p q ≡ number p F
  unfolding rule_of rule_by
  rule_number = refl

  pub rule_yes : rule_of l n 7 f g p q ≡ side true p F
  unfolding rule_of rule_by
  rule_yes = refl

  pub rule_no : rule_of l n 8 f g p q ≡ side false p F
  unfolding rule_of rule_by
  rule_no = refl

  pub rule_walk : rule_of l n 9 f g p q ≡ over choose (λ x. decide (lin_of x) G (tree_at l n p)) F
  unfolding rule_of rule_by
  rule_walk = refl

  pub rule_substitute : (op : ℕ) → op % 16 ≡ 12 → rule_of l n op f g p q ≡ substitute (packed l n op f g p q) (tree_at l n (f % 65536))
  unfolding rule_of rule_by
  rule_substitute op e = ap (λ (c : ℕ). rule_by c l n op f g p q) e

  rule_10 : rule_of l n 10 f g p q ≡ choose (test_by l n 10 p) F G
  unfolding rule_of rule_by
  rule_10 = refl

  rule_11 : rule_of l n 11 f g p q ≡ choose (test_by l n 11 p) F G
  unfolding rule_of rule_by
  rule_11 = refl

  pub rule_choose : (op : ℕ) → NamesTest n op p → rule_of l n op f g p q ≡ choose (test_by l n op p) F G
  rule_choose op = ⊎_elim
      (λ e. subst (λ (k : ℕ). rule_of l n k f g p q ≡ choose (test_by l n k p) F G) (sym e.0) rule_10)
      (λ e. subst (λ (k : ℕ). rule_of l n k f g p q ≡ choose (test_by l n k p) F G) (sym e.0) rule_11)

-- ---- the test that a choice is given

test_10 : (l : List ℤ) (n p : ℕ) → test_by l n 10 p ≡ later p
unfolding test_by
test_10 l n p = refl

test_11 : (l : List ℤ) (n p : ℕ) → test_by l n 11 p ≡ test_in (tree_at l n p)
unfolding test_by
test_11 l n p = refl

pub names_more : {n n' op p : ℕ} → n ≤ n' → NamesTest n op p → NamesTest n' op p
names_more h = ⊎_elim (λ e. inl e) (λ e. inr (e.0, (let q = e.1 in omega arith)))

pub names_small : {cap : ℕ} {l : List ℤ} {w : List ℕ} {n op p : ℕ} → Bare cap l w n → NamesTest n op p → (op < 65536) × (p < 65536)
names_small A = ⊎_elim
    (λ e. let a = e.0 in let b = e.2 in (omega arith, omega arith))
    (λ e. let a = e.0 in let b = e.1 in let q = A.chained.space.room in let r = A.chained.space.few in (omega arith, omega arith))

-- it stays as the table grows
pub test_kept : {l l' : List ℤ} {n n' : ℕ} {op p : ℕ} → Grown l n l' n' → NamesTest n op p → test_by l' n' op p ≡ test_by l n op p
test_kept {l} {l'} {n} {n'} {op} {p} D = ⊎_elim
    (λ e. subst (λ (k : ℕ). test_by l' n' k p ≡ test_by l n k p) (sym e.0) (test_10 l' n' p ∙ sym (test_10 l n p)))
    (λ e. subst (λ (k : ℕ). test_by l' n' k p ≡ test_by l n k p) (sym e.0) (test_11 l' n' p ∙ (ap test_in (trees_kept D p e.1) ∙ sym (test_11 l n p))))

-- ---- it stands as a node's words

node_10 : (l : List ℤ) (p : ℕ) → test_node l 10 p ≡ later_node p
unfolding test_node
node_10 l p = refl

node_11 : (l : List ℤ) (p : ℕ) → test_node l 11 p ≡ named_node (node_at l p)
unfolding test_node
node_11 l p = refl

pub readable_in : {cap : ℕ} {l : List ℤ} {w : List ℕ} {n op p : ℕ} → Bare cap l w n → NamesTest n op p → Readable l op p
readable_in {op = op} {p} A = ⊎_elim
    (λ e. record { number = λ _. e.2; words = λ z. absurd (z e.0); nums = λ z. absurd (z e.0) })
    (λ e. let a = e.0 in let b = e.1 in let r = A.chained.space.room in let s = A.chained.space.words in
    record { number = λ z. absurd (omega arith); words = λ _. omega arith; nums = λ _. (A.good.valid p e.1).nums })

zero_at : (k : ℕ) → get_or (replicate levels_most (pos 0)) k (pos 0) ≡ pos 0
zero_at k = go levels_most k
  where
    go : (m k : ℕ) → get_or (replicate m (pos 0)) k (pos 0) ≡ pos 0
    go zero k = refl
    go (suc m) zero = refl
    go (suc m) (suc k) = go m k

pub zeros_behind : (z : ℤ) (k : ℕ) → 0 < k → get_or (z ∷ replicate levels_most (pos 0)) k (pos 0) ≡ pos 0
zeros_behind z zero h = absurd (omega arith)
zeros_behind z (suc k) h = zero_at k

small_first : {p : ℕ} → p ≤ conditions_most + conditions_most → (k : ℕ) → Small (get_or (pos p ∷ replicate levels_most (pos 0)) k (pos 0))
small_first h zero = record { small = omega arith }
small_first h (suc k) = subst Small (sym (zero_at k)) (record { small = omega arith })

pub stood_condition : (k : ℕ) → 0 < k → k ≤ conditions_most + conditions_most → Stood (condition_of k) (condition_node k)
unfolding condition_node test_held eq_ℤ
stood_condition k a b = record {
  proper = record {
    branches = condition_as refl;
    nums = record { long = refl; each = small_first b };
    tested = record { kind = λ e. absurd (let z : ◌≡◌ {A = ℕ} 0 1 = cc in omega arith); long = refl; number = λ _. tt; bounds = λ _. (a, b); rest = λ _. zeros_behind (pos k) };
  };
  test = refl;
}

stood_later : (p : ℕ) → 0 < p → p ≤ conditions_most → Stood (later p) (later_node p)
stood_later p a b = subst (λ (t : Test). Stood t (later_node p))
    (later_is (conditions_most + p) (omega arith) ∙ ap later (let e : conditions_most + p - conditions_most ≡ p = omega arith in e))
    (stood_condition (conditions_most + p) (omega arith) (omega arith))

pub proper_linear : (l : List ℤ) → Smalls l → Proper (linear_node l)
unfolding linear_node eq_ℤ
proper_linear l s = record {
  branches = test_as refl;
  nums = s;
  tested = record {
    kind = λ _. refl;
    long = s.long;
    number = λ e. absurd (let z : ◌≡◌ {A = ℕ} 0 1 = cc in omega arith);
    bounds = λ e. absurd
        (let z : ◌≡◌ {A = ℕ} 0 1 = cc in omega arith);
    rest = λ e. absurd (let z : ◌≡◌ {A = ℕ} 0 1 = cc in omega arith);
  };
}

-- a leaf's linear divided is the test that it names
pub divided_test : (x : Node) → length x.n ≡ numbers → test_held (linear_node (quot_list (divisor_list x.n) x.n)) ≡ test_of (linear_held x)
unfolding test_held linear_node eq_ℤ divisor_list linear_held test_of quotient divisor
divided_test x n = λ i. linear (record { coeffs = quot_take levels_most (divisor_list x.n) x.n i; const = quot_at (divisor_list x.n) x.n levels_most (omega arith) i })

in_leaf : (f : Leaf) → test_in (leaf f) ≡ test_of (lin_of f)
unfolding test_in
in_leaf f = refl

in_branch : (t : Test) (h l : Tree) → test_in (branch t h l) ≡ t
unfolding test_in
in_branch t h l = refl

pub named_leaf : (x : Node) → is_leaf x.kind ≡ true → named_node x ≡ linear_node (quot_list (divisor_list x.n) x.n)
unfolding named_node
named_leaf x e = ap (λ (b : Bool). if b (linear_node (quot_list (divisor_list x.n) x.n)) x) e

named_branch : (x : Node) → is_leaf x.kind ≡ false → named_node x ≡ x
unfolding named_node
named_branch x e = ap (λ (b : Bool). if b (linear_node (quot_list (divisor_list x.n) x.n)) x) e

stood_named : {l : List ℤ} {n : ℕ} → Good l n → (p : ℕ) → p < n → Stood (test_in (tree_at l n p)) (named_node (node_at l p))
stood_named {l} {n} D p h = go (is_leaf (node_at l p).kind) refl
  where
    go : (b : Bool) → is_leaf (node_at l p).kind ≡ b → Stood (test_in (tree_at l n p)) (named_node (node_at l p))
    go true e = subst (Stood (test_in (tree_at l n p))) (sym (named_leaf (node_at l p) e)) (record {
      proper = proper_linear _ (quot_smalls _ _ (D.valid p h).nums);
      test = divided_test (node_at l p) (D.valid p h).nums.long ∙ (ap test_of (sym (leaf_lin (node_at l p) (D.valid p h))) ∙ (sym (in_leaf _) ∙ ap test_in (sym (at_leaf D p h e))));
    })
    go false e = subst (Stood (test_in (tree_at l n p))) (sym (named_branch (node_at l p) e)) (record {
      proper = record { branches = e; nums = (D.valid p h).nums; tested = (D.valid p h).tested e };
      test = sym (in_branch _ _ _) ∙ ap test_in (sym (at_branch D p h e));
    })

stood : {l : List ℤ} {n op p : ℕ} → Good l n → NamesTest n op p → Stood (test_by l n op p) (test_node l op p)
stood {l} {n} {op} {p} D = ⊎_elim
    (λ e. subst (λ (k : ℕ). Stood (test_by l n k p) (test_node l k p)) (sym e.0) (subst (Stood (test_by l n 10 p)) (sym (node_10 l p)) (subst (λ (t : Test). Stood t (later_node p)) (sym (test_10 l n p)) (stood_later p e.1 e.2))))
    (λ e. subst (λ (k : ℕ). Stood (test_by l n k p) (test_node l k p)) (sym e.0)
    (subst (Stood (test_by l n 11 p)) (sym (node_11 l p)) (subst (λ (t : Test). Stood t (named_node (node_at l p))) (sym (test_11 l n p)) (stood_named D p e.1))))

-- the test's words can be put over branches, and are its words
pub test_proper : {l : List ℤ} {n op p : ℕ} {z : Node} → Good l n → NamesTest n op p → z ≡ test_node l op p → Proper z
test_proper D N e = subst Proper (sym e) (stood D N).proper

pub test_is : {l : List ℤ} {n op p : ℕ} {z : Node} → Good l n → NamesTest n op p → z ≡ test_node l op p → test_held z ≡ test_by l n op p
test_is D N e = ap test_held e ∙ (stood D N).test

-- ---- what the words mean lasts

module _ (l : List ℤ) (n f : ℕ) (hf : f < n) where
  pub lasts_scale : (g p q : ℕ) → Lasting rule_of l n 3 f g p q
  unfolding rule_of rule_by
  lasts_scale g p q l' n' D = ap (scale (from_halves p q)) (trees_kept D f hf)

  pub lasts_shift : (g p q : ℕ) → Lasting rule_of l n 4 f g p q
  unfolding rule_of rule_by
  lasts_shift g p q l' n' D = ap (shift (from_halves p q)) (trees_kept D f hf)

  pub lasts_complement : (g p q : ℕ) → Lasting rule_of l n 5 f g p q
  unfolding rule_of rule_by
  lasts_complement g p q l' n' D = ap (complement p) (trees_kept D f hf)

  pub lasts_number : (g p q : ℕ) → Lasting rule_of l n 6 f g p q
  unfolding rule_of rule_by
  lasts_number g p q l' n' D = ap (number p) (trees_kept D f hf)

  pub lasts_yes : (g p q : ℕ) → Lasting rule_of l n 7 f g p q
  unfolding rule_of rule_by
  lasts_yes g p q l' n' D = ap (side true p) (trees_kept D f hf)

  pub lasts_no : (g p q : ℕ) → Lasting rule_of l n 8 f g p q
  unfolding rule_of rule_by
  lasts_no g p q l' n' D = ap (side false p) (trees_kept D f hf)

  module _ (g : ℕ) (hg : g < n) where
    pub lasts_sum : (p q : ℕ) → Lasting rule_of l n 0 f g p q
    unfolding rule_of rule_by
    lasts_sum p q l' n' D = ap₂ sum (trees_kept D f hf) (trees_kept D g hg)

    pub lasts_product : (p q : ℕ) → Lasting rule_of l n 1 f g p q
    unfolding rule_of rule_by
    lasts_product p q l' n' D = ap₂ product (trees_kept D f hf) (trees_kept D g hg)

    pub lasts_best : (p q : ℕ) → Lasting rule_of l n 2 f g p q
    unfolding rule_of rule_by
    lasts_best p q l' n' D = ap₂ best (trees_kept D f hf) (trees_kept D g hg)

    pub lasts_walk : (p q : ℕ) → p < n → Lasting rule_of l n 9 f g p q
    unfolding rule_of rule_by
    lasts_walk p q hp l' n' D = λ i. over choose (λ x. decide (lin_of x) (trees_kept D g hg i) (trees_kept D p hp i)) (trees_kept D f hf i)

    pub lasts_choose : (op p q : ℕ) → NamesTest n op p → Lasting rule_of l n op f g p q
    lasts_choose op p q N l' n' D =
        rule_choose l' n' f g p q op (names_more D.more N)
        ∙ ((λ i. choose (test_kept D N i) (trees_kept D f hf i) (trees_kept D g hg i)) ∙ sym (rule_choose l n f g p q op N))

-- diagrams that are there stay
pub all_kept : {l l' : List ℤ} {n n' : ℕ} → Grown l n l' n' → (L : List ℕ) → ((k : ℕ) → get_or L k 0 < n) → map (tree_at l' n') L ≡ map (tree_at l n) L
all_kept D [] h = refl
all_kept D (d ∷ L) h = ap₂ (λ (T : Tree) (Ts : List Tree). T ∷ Ts) (trees_kept D d (h 0)) (all_kept D L (λ k. h (suc k)))

pub lasts_substitute : (l : List ℤ) (n op f g p q : ℕ) → op % 16 ≡ 12 → f % 65536 < n → ((k : ℕ) → get_or (indexes op f g p q) k 0 < n) → Lasting rule_of l n op f g p q
lasts_substitute l n op f g p q e hf h l' n' D =
    rule_substitute l' n' f g p q op e
    ∙ (ap₂ substitute (all_kept D (indexes op f g p q) h) (trees_kept D (f % 65536) hf) ∙ sym (rule_substitute l n f g p q op e))

-- ---- what the code reads is that test

pub condition_node_is : (k : ℕ) → k ≤ conditions_most + conditions_most → ◌≡◌ {A = Node} (record { kind = pos 1; n = to_z w64 k ∷ replicate levels_most (pos 0); high = pos 0; low = pos 0 }) (condition_node k)
unfolding condition_node
condition_node_is k h =
    let e : to_z w64 k ≡ pos k = back (pos k) (omega arith) in
    λ i. record { kind = pos 1; n = e i ∷ replicate levels_most (pos 0); high = pos 0; low = pos 0 }

pub named_leaf_as : {d : List ℤ} (x : Node) → is_leaf x.kind ≡ true → d ≡ quot_list (divisor_list x.n) x.n → ◌≡◌ {A = Node} (record { kind = pos 2; n = d; high = pos 0; low = pos 0 }) (named_node x)
unfolding linear_node
named_leaf_as x k ed = ap linear_node ed ∙ sym (named_leaf x k)

pub named_branch_as : (x : Node) → is_leaf x.kind ≡ false → x ≡ named_node x
named_branch_as x k = sym (named_branch x k)

pub test_later : {r : Node} (l : List ℤ) (op p : ℕ) → op ≡ 10 → r ≡ later_node p → r ≡ test_node l op p
unfolding test_node
test_later l op p e er = er ∙ ap (λ (b : Bool). if b (later_node p) (named_node (node_at l p))) (sym (eq-eqb op 10 e))

pub test_named : {x r : Node} (l : List ℤ) (op p : ℕ) → (op ≡ 10 → ⊥) → x ≡ node_at l p → r ≡ named_node x → r ≡ test_node l op p
unfolding test_node
test_named l op p n ex er = er ∙ (ap named_node ex ∙ ap (λ (b : Bool). if b (later_node p) (named_node (node_at l p))) (sym (ne_eqb op 10 n)))

-- a node's own test is the one that its index names
pub root_test : {cap : ℕ} {l : List ℤ} {w : List ℕ} {n t : ℕ} → Table rule_of cap l w n → Root l n t → test_by l n 11 t ≡ test_held (node_at l t)
root_test {l = l} {n = n} {t = t} A q = sym (test_is A.bare.good (inr (refl, q.below)) (test_named l 11 t (λ e. absurd (omega arith)) refl (named_branch_as (node_at l t) q.branches)))
