-- A good row, as a node: its diagram is that of its words.
use mathlib.Core.Path.{◌≡◌, refl, sym, ap, ap₂, ◌∙◌, subst}
use mathlib.Core.Bool.{Bool, true, false, ◌||◌}
use mathlib.Core.List.{List}
use Prim.Native.Nat.{ℕ, zero, suc, ◌+◌, ◌-◌, ◌*◌, ◌≤◌, ◌<◌}
use native.Mathlib.Omega.{arith}
use borrow.Author.Tests.{ltb-true, ltb-false}
use lib.Dec.{T, eqb, ltb, leb→le}
use lib.IntN.{ℤ, pos, negsuc, nat_abs}
use lib.Signed.{non_neg}
use lib.ListN.{length, get_or, replicate, get_or-replicate, get_or-eq_default}
use lib.Seq.{ext_get_or}
use Rattle.whole.specs.Cases.{if, by_eq, clash}
use Rattle.whole.specs.Within.{Small}
use Rattle.whole.specs.Linears.{numbers, Smalls}
use Rattle.table.specs.Table.{node_at, eq_ℤ, is_leaf, is_none}
use Rattle.table.specs.declared.Node.{Node}
use Rattle.table.proofs.Leaf.{leaf_as, none_as, none_leaf, some_not, branch_not, condition_as, test_as}
use Rattle.table.proofs.Store.{numbers_at}
use Rattle.theory.specs.Widths.{conditions_most, node_words}
use Rattle.theory.specs.Diagram.{now, linear, some, forbidden, leaf, branch}
use Rattle.theory.specs.Verdict.{or}
use Rattle.theory.specs.Value.{node_word, node_linear, high_of, low_of, ends}
use Rattle.theory.specs.Rows.{Range, Among, NodeFits, KindFits, fits_leaf, fits_condition, fits_test, fits_none, BranchesFit}
use Rattle.theory.proofs.laws.Fits.{part_word, node_fits}
use Rattle.table_rows.proofs.Rowed.{linear_is}
use Rattle.rule_node.specs.Nodes.{linear_held, none_node, leaf_of, first_of, test_held, Tested}
use Rattle.rule_node.proofs.Trees.{now_is, test_con, test_lin}
use Rattle.prune_paths.specs.Prune.{leaf_at, test_at, high_at, low_at, tree_from, diagram_at, GoodRows}
use Rattle.prune_paths.proofs.laws.Foreign.{RowsGood, tree_by, tree_enough}
use Rattle.prune_rows.specs.Rows.{RowFits}

-- z is 1 to m
among_is : (m : ℕ) (z : ℤ) → Among m z → T (non_neg z) × (0 < nat_abs z) × (nat_abs z ≤ m)
among_is m (pos k) d = (tt, leb→le 1 k d.0.le, leb→le k m d.1.le)
among_is m (negsuc k) d = absurd d.0.le

zero_nat : {z : ℤ} → z ≡ pos 0 → T (non_neg z)
zero_nat e = subst (λ (z : ℤ). T (non_neg z)) (sym e) tt

zero_small : Small (pos 0)
zero_small = record { small = omega arith }

-- a kind that is a number
kind_as : {z y : ℤ} {k : ℕ} (j : ℕ) → z ≡ y → y ≡ pos k → eq_ℤ z (pos j) ≡ eqb (nat_abs y) j
unfolding eq_ℤ
kind_as j d e = ap (λ (z : ℤ). eq_ℤ z (pos j)) (d ∙ e) ∙ sym (ap (λ (z : ℤ). eqb (nat_abs z) j) e)

or_is : (a b : Bool) → a || b ≡ or a b
or_is true b = refl
or_is false b = refl

-- ---- a row's words are its node's

module _ (W : List ℤ) (r : ℕ) where
  pub kind_is : (node_at W (r - 1)).kind ≡ node_word W r 0
  unfolding node_at
  kind_is = ap (λ (j : ℕ). get_or W j (pos 0)) (let e : (r - 1) * node_words ≡ (r - 1) * node_words + 0 = omega arith in e)

  pub number_is : (k : ℕ) → k < numbers → get_or (node_at W (r - 1)).n k (pos 0) ≡ node_word W r (suc k)
  unfolding node_at
  number_is k h = part_word numbers ((r - 1) * node_words + 1) W k h ∙ ap (λ (j : ℕ). get_or W j (pos 0)) (let e : (r - 1) * node_words + 1 + k ≡ (r - 1) * node_words + suc k = omega arith in e)

  pub high_is : (node_at W (r - 1)).high ≡ high_of W r
  unfolding node_at
  high_is = refl

  pub low_is : (node_at W (r - 1)).low ≡ low_of W r
  unfolding node_at
  low_is = refl

-- a row's diagram, by one step
tree_step : (n A : ℕ) (W : List ℤ) (r : ℕ) → 1 ≤ r → diagram_at W r ≡ tree_by n A W (r - 1) r (ends (nat_abs (node_word W r 0)))
unfolding tree_from
tree_step n A W zero a = absurd (omega arith)
tree_step n A W (suc k) a = ap (λ (j : ℕ). tree_by n A W j (suc k) (ends (nat_abs (node_word W (suc k) 0)))) (let e : k ≡ suc k - 1 = omega arith in e)

module _ {n A : ℕ} {W : List ℤ} {r : ℕ} (few : n ≤ conditions_most) (a : 1 ≤ r) (f : NodeFits n A W r) where
  abbrev x : Node
  x = node_at W (r - 1)

  -- ---- its words

  long : length x.n ≡ numbers
  long = numbers_at W (r - 1) (omega (arith, f.inside))

  -- what holds of each number of the row, and of 0 behind them
  each : (P : ℕ → ℤ → Type 0) → ((k : ℕ) → P k (pos 0)) → ((k : ℕ) → k < numbers → P k (node_word W r (suc k))) → (k : ℕ) → P k (get_or x.n k (pos 0))
  each P z g k = by_eq (ltb k numbers) (λ _. P k (get_or x.n k (pos 0)))
      (λ t. let h = ltb-true k numbers t in subst (P k) (sym (number_is W r k h)) (g k h))
      (λ t. subst (P k) (sym (get_or-eq_default x.n (pos 0) (omega (arith, long, ltb-false k numbers t)))) (z k))

  first_is : first_of x ≡ node_word W r 1
  first_is = number_is W r 0 (omega arith)

  linear_of : linear_held x ≡ node_linear W r
  unfolding linear_held node_at
  linear_of = sym (linear_is W r (record { above = a; within = f.inside }))

  -- ---- its kind

  eq_is : (j : ℕ) → eq_ℤ x.kind (pos j) ≡ eqb (nat_abs (node_word W r 0)) j
  eq_is j = go f.kind
    where
      go : KindFits n A W r → eq_ℤ x.kind (pos j) ≡ eqb (nat_abs (node_word W r 0)) j
      go (fits_leaf e _ _ _) = kind_as j (kind_is W r) e
      go (fits_condition e _ _ _) = kind_as j (kind_is W r) e
      go (fits_test e _ _) = kind_as j (kind_is W r) e
      go (fits_none e _) = kind_as j (kind_is W r) e

  pub ends_is : is_leaf x.kind ≡ ends (nat_abs (node_word W r 0))
  unfolding is_leaf is_none ends
  ends_is = or_is (eq_ℤ x.kind (pos 0)) (eq_ℤ x.kind (pos 3)) ∙ ap₂ or (eq_is 0) (eq_is 3)

  leaf_is : leaf_of x ≡ leaf_at W r
  unfolding leaf_of leaf_at is_none
  leaf_is = λ j. if (eq_is 3 j) forbidden (some (linear_of j) (nat_abs (high_is W r j)))

  condition_small : Among n (node_word W r 1) → ((k : ℕ) → Range 2 9 k → node_word W r k ≡ pos 0) → (k : ℕ) → k < numbers → Small (node_word W r (suc k))
  condition_small m z zero h = record { small = let b = among_is n (node_word W r 1) m in omega (arith, b.2) }
  condition_small m z (suc k) h = subst Small (sym (z (suc (suc k)) (omega arith, omega arith))) zero_small

  smalls : (k : ℕ) → k < numbers → Small (node_word W r (suc k))
  smalls k h = go f.kind
    where
      go : KindFits n A W r → Small (node_word W r (suc k))
      go (fits_leaf _ g _ _) = record { small = omega (arith, g (suc k) (omega arith, omega arith)) }
      go (fits_condition _ m z _) = condition_small m z k h
      go (fits_test _ g _) = record { small = omega (arith, g (suc k) (omega arith, omega arith)) }
      go (fits_none _ z) = subst Small (sym (z (suc k) (omega arith, omega arith))) zero_small

  nums : Smalls x.n
  nums = record { long = long; each = each (λ _ z. Small z) (λ _. zero_small) smalls }

  -- ---- a condition

  abbrev Condition : Type 0
  Condition = Among n (node_word W r 1) × ((k : ℕ) → Range 2 9 k → node_word W r k ≡ pos 0)

  condition : eq_ℤ x.kind (pos 1) ≡ true → Condition
  unfolding eq_ℤ
  condition q = go f.kind
    where
      not : {z : ℤ} → node_word W r 0 ≡ z → eq_ℤ z (pos 1) ≡ false → Condition
      not e d = clash (sym q ∙ (ap (λ (z : ℤ). eq_ℤ z (pos 1)) (kind_is W r ∙ e) ∙ d))

      go : KindFits n A W r → Condition
      go (fits_leaf e _ _ _) = not e refl
      go (fits_condition _ m z _) = (m, z)
      go (fits_test e _ _) = not e refl
      go (fits_none e _) = not e refl

  test_is : test_held x ≡ test_at W r
  unfolding test_at
  test_is = go (eqb (nat_abs (node_word W r 0)) 1) refl
    where
      go : (b : Bool) → eqb (nat_abs (node_word W r 0)) 1 ≡ b → test_held x ≡ if b (now (nat_abs (node_word W r 1))) (linear (node_linear W r))
      go true q =
          let m = among_is n (node_word W r 1) (condition (eq_is 1 ∙ q)).0 in
          test_con x (eq_is 1 ∙ q) ∙ (now_is (nat_abs (first_of x)) (omega (arith, ap nat_abs first_is, m.2)) ∙ ap (λ (z : ℤ). now (nat_abs z)) first_is)
      go false q = test_lin x (eq_is 1 ∙ q) ∙ ap linear linear_of

  tested : (eq_ℤ x.kind (pos 1) ≡ false → x.kind ≡ pos 2) → Tested x
  tested k = record {
    kind = k;
    long = long;
    number = λ q. subst (λ (z : ℤ). T (non_neg z)) (sym first_is) (among_is n (node_word W r 1) (condition q).0).0;
    bounds = λ q. let m = among_is n (node_word W r 1) (condition q).0 in (omega (arith, ap nat_abs first_is, m.1), omega (arith, ap nat_abs first_is, m.2));
    rest = λ q. each (λ k z. 0 < k → z ≡ pos 0) (λ _ _. refl) (λ k h p. (condition q).1 (suc k) (omega arith, omega arith));
  }

  -- ---- the node

  leaf_fits : is_leaf x.kind ≡ true → T (non_neg x.high) → x.low ≡ pos 0 → (is_none x.kind ≡ true → x ≡ none_node) → RowFits x (r - 1)
  leaf_fits e h l o = record {
    valid = record {
      nums = nums;
      high_nat = h;
      low_nat = zero_nat l;
      none = o;
      leaf_low = λ _. l;
      tested = λ q. clash (sym e ∙ q);
      high_below = λ q. clash (sym e ∙ q);
      low_below = λ q. clash (sym e ∙ q);
    };
    some = λ q. clash (sym e ∙ q);
  }

  test_fits : is_leaf x.kind ≡ false → (eq_ℤ x.kind (pos 1) ≡ false → x.kind ≡ pos 2) → BranchesFit n A W r → RowFits x (r - 1)
  unfolding node_at
  test_fits e k b =
      let h = among_is (r - 1) (high_of W r) b.0 in
      let l = among_is (r - 1) (low_of W r) b.1 in
      record {
        valid = record {
          nums = nums;
          high_nat = h.0;
          low_nat = l.0;
          none = λ q. branch_not x.kind e q;
          leaf_low = λ q. clash (sym q ∙ e);
          tested = λ _. tested k;
          high_below = λ _. omega (arith, h.2);
          low_below = λ _. omega (arith, l.2);
        };
        some = λ _. (h.1, l.1);
      }

  none_is : node_word W r 0 ≡ pos 3 → ((k : ℕ) → Range 1 11 k → node_word W r k ≡ pos 0) → x ≡ none_node
  unfolding node_at
  none_is e z =
      let k = kind_is W r ∙ e in
      let m = ext_get_or (pos 0) x.n (replicate numbers (pos 0)) long (λ k h. number_is W r k (omega (arith, long)) ∙
      (z (suc k) (omega (arith, long), omega (arith, long)) ∙ sym (get_or-replicate numbers k (pos 0) (pos 0) (omega (arith, long))))) in
      let h = z 10 (omega arith, omega arith) in
      let l = z 11 (omega arith, omega arith) in
      λ j. record { kind = k j; n = m j; high = h j; low = l j }

  row_fits : RowFits x (r - 1)
  unfolding node_at eq_ℤ
  row_fits = go f.kind
    where
      go : KindFits n A W r → RowFits x (r - 1)
      go (fits_leaf e _ m l) = leaf_fits (leaf_as (kind_is W r ∙ e)) (among_is A (high_of W r) m).0 l (λ q. some_not (kind_is W r ∙ e) q)
      go (fits_condition e _ _ b) = test_fits (condition_as (kind_is W r ∙ e)) (λ q. clash (sym (ap (λ (z : ℤ). eq_ℤ z (pos 1)) (kind_is W r ∙ e)) ∙ q)) b
      go (fits_test e _ b) = test_fits (test_as (kind_is W r ∙ e)) (λ _. kind_is W r ∙ e) b
      go (fits_none e z) = leaf_fits (none_leaf x.kind (none_as (kind_is W r ∙ e))) (zero_nat (z 10 (omega arith, omega arith))) (z 11 (omega arith, omega arith)) (λ _. none_is e z)

  -- ---- its diagram

  leaf_tree : is_leaf x.kind ≡ true → diagram_at W r ≡ leaf (leaf_of x)
  leaf_tree e = tree_step n A W r a ∙ (ap (tree_by n A W (r - 1) r) (sym ends_is ∙ e) ∙ ap leaf (sym leaf_is))

  branch_tree : RowsGood n A W r → is_leaf x.kind ≡ false → diagram_at W r ≡ branch (test_held x) (diagram_at W (nat_abs x.high)) (diagram_at W (nat_abs x.low))
  unfolding node_at
  branch_tree g e =
      let v = row_fits.valid in
      let s = row_fits.some e in
      let t = test_is in
      let h = tree_enough n A W (r - 1) (high_at W r) (high_at W r) s.0 (omega (arith, v.high_below e)) (omega arith) (λ i b l. g i b (omega (arith, v.high_below e))) in
      let l = tree_enough n A W (r - 1) (low_at W r) (low_at W r) s.1 (omega (arith, v.low_below e)) (omega arith) (λ i b l. g i b (omega (arith, v.low_below e))) in
      tree_step n A W r a ∙ (ap (tree_by n A W (r - 1) r) (sym ends_is ∙ e) ∙ (λ j. branch (sym t j) (h j) (l j)))

-- row r, the node at index i
pub record Row (W : List ℤ) (i r : ℕ) : Type 0 where
  pub fits : RowFits (node_at W i) i
  pub ends : is_leaf (node_at W i).kind ≡ true → diagram_at W r ≡ leaf (leaf_of (node_at W i))
  pub goes : is_leaf (node_at W i).kind ≡ false → diagram_at W r ≡ branch (test_held (node_at W i)) (diagram_at W (nat_abs (node_at W i).high)) (diagram_at W (nat_abs (node_at W i).low))

pub row_at : {W : List ℤ} {rows : ℕ} → GoodRows W rows → (r : ℕ) → 1 ≤ r → r ≤ rows → Row W (r - 1) r
row_at {W} G r a b =
    let f = node_fits G.conditions G.actions W r (G.rows r a b) in
    record { fits = row_fits G.few a f; ends = leaf_tree G.few a f; goes = branch_tree G.few a f (λ j c l. G.rows j c (omega arith)) }

pub row_of : {W : List ℤ} {rows : ℕ} → GoodRows W rows → (i : ℕ) → i < rows → Row W i (suc i)
row_of {W} G i h = subst (λ (j : ℕ). Row W j (suc i)) (let e : suc i - 1 ≡ i = omega arith in e) (row_at G (suc i) (omega arith) (omega arith))
