-- A turn on the rows of a table, and what it leaves of a path.
use mathlib.Core.Path.{◌≡◌, refl, sym, ap, ap₂, ◌∙◌, subst}
use mathlib.Core.Logic.{◌⊎◌, inl, inr}
use mathlib.Core.Bool.{Bool, true, false, not, ◌&&◌}
use mathlib.Core.List.{List, ◌∷◌}
use Prim.Native.Nat.{ℕ, zero, suc, ◌-◌, ◌≤◌, ◌<◌}
use native.Mathlib.Omega.{arith}
use borrow.Author.Tests.{ne_eqb, eq-eqb}
use lib.Dec.{T, eqb}
use lib.IntN.{ℤ, pos, nat_abs}
use Rattle.whole.specs.Cases.{if, by_test, by_eq, clash}
use Rattle.theory.specs.Diagram.{now, linear, Tree, leaf, branch}
use Rattle.theory.specs.Valid.{among}
use Rattle.theory.specs.Value.{node_word, node_linear, good_row, ends}
use Rattle.theory.specs.Rows.{KindFits, fits_leaf, fits_condition, fits_test, fits_none}
use Rattle.theory.proofs.laws.Fits.{node_fits}
use Rattle.theory.proofs.laws.Valid.{among_out}
use Rattle.table.specs.Table.{eq_ℤ, is_leaf, is_none}
use Rattle.table_rows.specs.Row.{Inside}
use Rattle.prune_paths.specs.Prune.{leaf_at, test_at, high_at, low_at, tree_from, diagram_at, fits, Side, with_side, along}
use Rattle.prune_paths.proofs.laws.Foreign.{Seen, leaf_seen, branch_seen, seen, tree_enough}
use Rattle.prune_certificate.specs.Path.{GoodNode, is_test, tests, goes}

abbrev kind_at : List ℤ → ℕ → ℕ
kind_at W r = nat_abs (node_word W r 0)

-- where a turn goes, from whether it is at a leaf, high and low
abbrev goes_by : List ℤ → ℕ → Bool → Bool → Bool → ℕ
goes_by W r leaf? high? low? = if leaf? 0 (if high? (high_at W r) (if low? (low_at W r) 0))

-- ---- a good node

module _ {W : List ℤ} {r : ℕ} (g : GoodNode W r) where
  pub node_good : T (good_row g.good.conditions g.good.actions W r)
  node_good = g.good.rows r g.above (omega arith)

  pub node_kind : KindFits g.good.conditions g.good.actions W r
  node_kind = (node_fits g.good.conditions g.good.actions W r node_good).kind

  pub row_inside : Inside W r
  row_inside = record { above = g.above; within = (node_fits g.good.conditions g.good.actions W r node_good).inside }

  -- a node below it
  lower : (s : ℕ) → T (among (r - 1) s) → GoodNode W s
  lower s a =
      let d = among_out (r - 1) s a in
      record {
        above = d.0;
        good = record { conditions = g.good.conditions; actions = g.good.actions; few = g.good.few; rows = λ i x y. g.good.rows i x (omega arith) };
      }

  -- one of the four kinds
  by_kinds : (P : ℤ → Type 0) → P (pos 0) → P (pos 1) → P (pos 2) → P (pos 3) → P (node_word W r 0)
  by_kinds P l c t o = go node_kind
    where
      go : KindFits g.good.conditions g.good.actions W r → P (node_word W r 0)
      go (fits_leaf e _ _ _) = subst P (sym e) l
      go (fits_condition e _ _ _) = subst P (sym e) c
      go (fits_test e _ _) = subst P (sym e) t
      go (fits_none e _) = subst P (sym e) o

  -- a leaf, as the code tells it
  pub leaf_is : is_leaf (node_word W r 0) ≡ ends (kind_at W r)
  unfolding is_leaf is_none eq_ℤ ends
  leaf_is = by_kinds (λ z. is_leaf z ≡ ends (nat_abs z)) refl refl refl refl

  -- what has branches and is no condition is a test
  kind_other : ends (kind_at W r) ≡ false → eqb (kind_at W r) 1 ≡ not (is_test W r)
  unfolding ends
  kind_other = by_kinds (λ z. ends (nat_abs z) ≡ false → eqb (nat_abs z) 1 ≡ not (eqb (nat_abs z) 2)) clash (λ _. refl) (λ _. refl) clash

below : (r s : ℕ) → 1 ≤ r → T (among (r - 1) s) → s < r
below r s a m = let d = among_out (r - 1) s m in omega arith

-- ---- a turn

module _ (W : List ℤ) where
  -- a node's diagram over those of its branches
  abbrev row_by : ℕ → Bool → Tree
  row_by r b = if b (leaf (leaf_at W r)) (branch (test_at W r) (diagram_at W (high_at W r)) (diagram_at W (low_at W r)))

  tree_row : (r : ℕ) → GoodNode W r → diagram_at W r ≡ row_by r (ends (kind_at W r))
  unfolding tree_from
  tree_row zero g = absurd (omega (arith, g.above))
  tree_row (suc k) g = go (seen g.good.conditions g.good.actions W (suc k) g.above (node_good g))
    where
      up_to : (s : ℕ) → T (among (suc k - 1) s) → tree_from k W s ≡ diagram_at W s
      up_to s a =
          let d = among_out (suc k - 1) s a in
          tree_enough g.good.conditions g.good.actions W k s s d.0 (omega arith) (omega arith) (λ i x y. g.good.rows i x (omega arith))

      over : Tree → Tree → Bool → Tree
      over H L b = if b (leaf (leaf_at W (suc k))) (branch (test_at W (suc k)) H L)

      go : Seen g.good.conditions g.good.actions W (suc k)
          → over (tree_from k W (high_at W (suc k))) (tree_from k W (low_at W (suc k))) (ends (kind_at W (suc k))) ≡ over (diagram_at W (high_at W (suc k))) (diagram_at W (low_at W (suc k))) (ends (kind_at W (suc k)))
      go (leaf_seen e _ _) =
          ap (over (tree_from k W (high_at W (suc k))) (tree_from k W (low_at W (suc k)))) e ∙ sym (ap (over (diagram_at W (high_at W (suc k))) (diagram_at W (low_at W (suc k)))) e)
      go (branch_seen e x y z) = ap₂ (λ H L. over H L (ends (kind_at W (suc k)))) (up_to (high_at W (suc k)) y) (up_to (low_at W (suc k)) z)

  -- where a turn goes
  pub record Step (r b s : ℕ) (bs : List ℕ) : Type 0 where
    pub node : GoodNode W s
    pub falls : s < r
    pub fit : fits (b ∷ bs) (diagram_at W r) ≡ fits bs (diagram_at W s)
    pub sides : along (b ∷ bs) (diagram_at W r) ≡ if (is_test W r) (record { high = eqb b 1; lin = node_linear W r } ∷ along bs (diagram_at W s)) (along bs (diagram_at W s))

  sides_by : (b : Bool) (r : ℕ) (l : List Side) → eqb (kind_at W r) 1 ≡ not (is_test W r) → with_side b (test_at W r) l ≡ if (is_test W r) (record { high = b; lin = node_linear W r } ∷ l) l
  unfolding with_side test_at
  sides_by b r l e =
      ap (λ x. with_side b (if x (now (nat_abs (node_word W r 1))) (linear (node_linear W r))) l) e
      ∙ by_test (is_test W r) (λ x. with_side b (if (not x) (now (nat_abs (node_word W r 1))) (linear (node_linear W r))) l ≡ if x (record { high = b; lin = node_linear W r } ∷ l) l) (λ _. refl) (λ _. refl)

  module _ (r b : ℕ) (bs : List ℕ) (g : GoodNode W r) where
    abbrev H : Tree
    H = diagram_at W (high_at W r)

    abbrev L : Tree
    L = diagram_at W (low_at W r)

    abbrev sides_at : Bool → List Side
    sides_at x = if x (with_side true (test_at W r) (along bs H)) (with_side false (test_at W r) (along bs L))

    abbrev so : List Side → Bool → List Side
    so l x = if (is_test W r) (record { high = x; lin = node_linear W r } ∷ l) l

    high_step : ends (kind_at W r) ≡ false → eqb b 1 ≡ true → T (among (r - 1) (high_at W r)) → Step r b (high_at W r) bs
    unfolding fits along
    high_step e q a =
        let F = tree_row r g ∙ ap (row_by r) e in
        record {
          node = lower g (high_at W r) a;
          falls = below r (high_at W r) g.above a;
          fit = ap (fits (b ∷ bs)) F ∙ ap (λ x. if x (fits bs H) (eqb b 0 && fits bs L)) q;
          sides = ap (along (b ∷ bs)) F ∙ (ap sides_at q ∙ (sides_by true r (along bs H) (kind_other g e) ∙ ap (so (along bs H)) (sym q)));
        }

    low_step : ends (kind_at W r) ≡ false → eqb b 1 ≡ false → eqb b 0 ≡ true → T (among (r - 1) (low_at W r)) → Step r b (low_at W r) bs
    unfolding fits along
    low_step e q z a =
        let F = tree_row r g ∙ ap (row_by r) e in
        record {
          node = lower g (low_at W r) a;
          falls = below r (low_at W r) g.above a;
          fit = ap (fits (b ∷ bs)) F ∙ ap₂ (λ x y. if x (fits bs H) (y && fits bs L)) q z;
          sides = ap (along (b ∷ bs)) F ∙ (ap sides_at q ∙ (sides_by false r (along bs L) (kind_other g e) ∙ ap (so (along bs L)) (sym q)));
        }

    none_fits : (ends (kind_at W r) ≡ true) ⊎ ((eqb b 1 ≡ false) × (eqb b 0 ≡ false)) → fits (b ∷ bs) (diagram_at W r) ≡ false
    unfolding fits
    none_fits (inl e) = ap (fits (b ∷ bs)) (tree_row r g ∙ ap (row_by r) e)
    none_fits (inr d) =
        ap (fits (b ∷ bs)) (tree_row r g) ∙ by_test (ends (kind_at W r)) (λ x. fits (b ∷ bs) (row_by r x) ≡ false) (λ _. refl)
        (λ _. ap₂ (λ x y. if x (fits bs H) (y && fits bs L)) d.0 d.1)

    -- a turn fits and goes to a lower node, or it does not fit
    pub a_turn : (s : ℕ) → s ≡ goes W r b → ((s ≡ 0) × (fits (b ∷ bs) (diagram_at W r) ≡ false)) ⊎ Step r b s bs
    unfolding goes
    a_turn s q = go (seen g.good.conditions g.good.actions W r g.above (node_good g))
      where
        Turned : Type 0
        Turned = ((s ≡ 0) × (fits (b ∷ bs) (diagram_at W r) ≡ false)) ⊎ Step r b s bs

        none : s ≡ 0 → (ends (kind_at W r) ≡ true) ⊎ ((eqb b 1 ≡ false) × (eqb b 0 ≡ false)) → Turned
        none z d = inl (z, none_fits d)

        go : Seen g.good.conditions g.good.actions W r → Turned
        go (leaf_seen e _ _) = none (q ∙ ap (λ x. goes_by W r x (eqb b 1) (eqb b 0)) e) (inl e)
        go (branch_seen e x y z) =
            let q0 = q ∙ ap (λ x. goes_by W r x (eqb b 1) (eqb b 0)) e in
            by_eq (eqb b 1) (λ c. s ≡ goes_by W r false c (eqb b 0) → Turned)
            (λ u p. inr (subst (λ (j : ℕ). Step r b j bs) (sym p) (high_step e u y)))
            (λ u. by_eq (eqb b 0) (λ c. s ≡ goes_by W r false false c → Turned)
            (λ v p. inr (subst (λ (j : ℕ). Step r b j bs) (sym p) (low_step e u v z)))
            (λ v p. none p (inr (u, v)))) q0

-- ---- what the code reads

module _ (W : List ℤ) (r : ℕ) where
  module _ (k : ℕ) (e : k ≡ kind_at W r) where
    pub tests_one : k ≡ 2 → 1 ≡ tests W r
    unfolding tests
    tests_one h = sym (ap (λ x. if x 1 0) (ap (λ (j : ℕ). eqb j 2) (sym e) ∙ eq-eqb k 2 h))

    pub tests_none : (k ≡ 2 → ⊥) → 0 ≡ tests W r
    unfolding tests
    tests_none h = sym (ap (λ x. if x 1 0) (ap (λ (j : ℕ). eqb j 2) (sym e) ∙ ne_eqb k 2 h))

  module _ (b : ℕ) (a : Bool) (e : a ≡ ends (kind_at W r)) where
    pub goes_leaf : a ≡ true → 0 ≡ goes W r b
    unfolding goes
    goes_leaf t = sym (ap (λ x. goes_by W r x (eqb b 1) (eqb b 0)) (sym e ∙ t))

    module _ (t : a ≡ false) where
      pub goes_high : (m : ℕ) → b ≡ 1 → m ≡ high_at W r → m ≡ goes W r b
      unfolding goes
      goes_high m q h = h ∙ sym (ap₂ (λ x y. goes_by W r x y (eqb b 0)) (sym e ∙ t) (eq-eqb b 1 q))

      pub goes_low : (m : ℕ) → (b ≡ 1 → ⊥) → b ≡ 0 → m ≡ low_at W r → m ≡ goes W r b
      unfolding goes
      goes_low m q z h = h ∙ sym (λ i. goes_by W r ((sym e ∙ t) i) (ne_eqb b 1 q i) (eq-eqb b 0 z i))

      pub goes_none : (b ≡ 1 → ⊥) → (b ≡ 0 → ⊥) → 0 ≡ goes W r b
      unfolding goes
      goes_none q z = sym (λ i. goes_by W r ((sym e ∙ t) i) (ne_eqb b 1 q i) (ne_eqb b 0 z i))
