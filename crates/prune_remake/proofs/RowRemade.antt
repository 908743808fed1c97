-- A row made anew where there is room for a node: it is made, and at most one node comes of it.
use mathlib.Core.Path.{◌≡◌, refl, sym, ap, ◌∙◌, subst}
use mathlib.Core.Bool.{Bool, true, false}
use mathlib.Core.List.{List, [], ◌∷◌, ◌++◌}
use Prim.Native.Nat.{ℕ, suc, ◌-◌, ◌≤◌, ◌<◌}
use native.Mathlib.Omega.{arith}
use borrow.Author.Tests.{lt-ltb, eqb-true, eqb-false}
use lib.Dec.{eqb}
use lib.IntN.{ℤ, nat_abs}
use lib.ListN.{length, length-append}
use Rattle.whole.specs.Cases.{if, by_test, clash}
use Rattle.table.specs.Table.{Answer, stop_of, at_of, count_of, is_leaf}
use Rattle.table.specs.declared.Node.{Node}
use Rattle.table.specs.declared.Made.{Made}
use Rattle.std.specs.Prelude.{Ok, Err, IsOk}
use Rattle.theory.specs.Diagram.{Test, Tree, leaf, branch, same}
use Rattle.theory.specs.Computation.{Comp, ret, make, result, done, stopped, run, member}
use Rattle.theory.specs.Rules.{narrowed, node}
use Rattle.rule_node.specs.Nodes.{leaf_of, test_held, tree_of, trees, tree_at, Valid, Proper}
use Rattle.rule_node.specs.Table.{Grew}
use Rattle.rule_node.proofs.Trees.{trees_length, tree_leaf}
use Rattle.rule_node.proofs.Outcomes.{out_ok, out_no, grew_as, stops}
use Rattle.prune_rows.specs.Rows.{RowFits}
use Rattle.prune_remake.specs.Remade.{forward, branch_anew, row_anew, Gone}

-- ---- the run

-- it comes to its result, and to one node more at most
pub record One (cap : ℕ) (m : Comp Tree) (X : List Tree) : Type 0 where
  pub left : List Tree
  pub ran : run cap m X ≡ done (result m) left
  pub few : length left ≤ suc (length X)

module _ {cap : ℕ} {X : List Tree} (room : length X < cap) where
  one_ret : (t : Tree) → One cap (ret t) X
  unfolding run result
  one_ret t = record { left = X; ran = refl; few = omega arith }

  one_make : (t : Tree) → One cap (make t) X
  unfolding run make result
  one_make t = go (member t X) refl
    where
      go : (b : Bool) → member t X ≡ b → One cap (make t) X
      go true e = record { left = X; ran = rw e; few = omega arith }
      go false e = record { left = X ++ (t ∷ []); ran = rw (e, lt-ltb (length X) cap room); few = omega (arith, length-append X (t ∷ [])) }

  one_node : (t : Test) (h l : Tree) → One cap (node t h l) X
  unfolding node
  one_node t h l = by_test (same h (narrowed t l)) (λ b. One cap (if b (ret h) (make (branch t h (narrowed t l)))) X) (λ _. one_ret h) (λ _. one_make (branch t h (narrowed t l)))

  pub one_row : (n : ℕ) (l : List ℤ) (w : List ℕ) (k : ℕ) (x : Node) → One cap (row_anew n l w k x) X
  unfolding row_anew
  one_row n l w k x = by_test (is_leaf x.kind) (λ b. One cap (if b (make (leaf (leaf_of x))) (node (test_held x) (branch_anew n l w k x.high) (branch_anew n l w k x.low))) X)
      (λ _. one_make (leaf (leaf_of x))) (λ _. one_node (test_held x) (branch_anew n l w k x.high) (branch_anew n l w k x.low))

-- ---- what was made

pub record Went (l' : List ℤ) (r : Answer) (n : ℕ) (t : Tree) : Type 0 where
  pub fine : stop_of r ≡ 0
  pub is : tree_at l' (count_of r) (at_of r) ≡ t
  pub few : count_of r ≤ suc n

done_is : {a b : Tree} {X Y : List Tree} → done a X ≡ done b Y → a ≡ b
done_is e = cc

done_left : {a b : Tree} {X Y : List Tree} → done a X ≡ done b Y → X ≡ Y
done_left e = cc

pub went : {cap : ℕ} {l l' : List ℤ} {w w' : List ℕ} {n : ℕ} {m : Comp Tree} {r : Answer} → Grew cap l w n m l' w' r → One cap m (trees l n) → Went l' r n (result m)
went {l = l} {l'} {n = n} {m} {r} G O = go (eqb (stop_of r) 0) refl
  where
    go : (b : Bool) → eqb (stop_of r) 0 ≡ b → Went l' r n (result m)
    go true e =
        let z = eqb-true (stop_of r) 0 e in
        let s : done (tree_at l' (count_of r) (at_of r)) (trees l' (count_of r)) ≡ done (result m) O.left = sym (out_ok r (trees l' (count_of r)) z) ∙ (G.ran ∙ O.ran) in
        record { fine = z; is = done_is s; few = omega (arith, ap length (done_left s), trees_length l' (count_of r), trees_length l n, O.few) }
    go false e =
        let s : stopped (stop_of r) ≡ done (result m) O.left = sym (out_no r (trees l' (count_of r)) (eqb-false (stop_of r) 0 e)) ∙ (G.ran ∙ O.ran) in
        absurd (let z : ◌≡◌ {A = ℕ} 0 1 = cc in omega arith)

-- so it is there
pub went_ok : {l' : List ℤ} {n : ℕ} {t : Tree} (r : Answer) → Went l' r n t → IsOk r
went_ok (Ok m) W = refl
went_ok (Err e) W = absurd (stops e W.fine)

pub grew_there : {cap : ℕ} {l l' : List ℤ} {w w' : List ℕ} {n : ℕ} {m : Comp Tree} {r : Answer} {k : Made} → r ≡ Ok k → Grew cap l w n m l' w' r → Grew cap l w n m l' w' (Ok k)
grew_there {cap} {l} {l'} {w} {w'} {n} {m} e G = subst (λ (r : Answer). Grew cap l w n m l' w' r) e G

-- ---- the row, as the code reads it

module _ (cap : ℕ) (l : List ℤ) (w : List ℕ) (n : ℕ) where
  pub leaf_anew : (x : Node) → is_leaf x.kind ≡ true → row_anew cap l w n x ≡ make (leaf (leaf_of x))
  unfolding row_anew
  leaf_anew x e = ap (λ (b : Bool). if b (make (leaf (leaf_of x))) (node (test_held x) (branch_anew cap l w n x.high) (branch_anew cap l w n x.low))) e

  pub test_anew : (x : Node) → is_leaf x.kind ≡ false → row_anew cap l w n x ≡ node (test_held x) (branch_anew cap l w n x.high) (branch_anew cap l w n x.low)
  unfolding row_anew
  test_anew x e = ap (λ (b : Bool). if b (make (leaf (leaf_of x))) (node (test_held x) (branch_anew cap l w n x.high) (branch_anew cap l w n x.low))) e

-- a branch's row has gone to a node that is there
pub gone_in : (cap : ℕ) (w : List ℕ) {n i h j : ℕ} → Gone cap w n i → (0 < h) × (h ≤ i) → j ≡ forward cap w (h - 1) → j < n
gone_in cap w {h = h} g d e = omega (arith, e, g (h - 1) (omega (arith, d.0, d.1)))

module _ {y : Node} {i : ℕ} (F : RowFits y i) {x : Node} (ex : x ≡ y) {b : Bool} (eb : b ≡ is_leaf x.kind) where
  fits : RowFits x i
  fits = subst (λ (y : Node). RowFits y i) (sym ex) F

  module _ (t : b ≡ true) where
    ends : is_leaf x.kind ≡ true
    ends = sym eb ∙ t

    -- a leaf can stand anywhere
    pub leaf_valid : (n : ℕ) → Valid x n
    leaf_valid n = let v = fits.valid in record {
      nums = v.nums;
      high_nat = v.high_nat;
      low_nat = v.low_nat;
      none = v.none;
      leaf_low = v.leaf_low;
      tested = v.tested;
      high_below = λ q. clash (sym ends ∙ q);
      low_below = λ q. clash (sym ends ∙ q);
    }

    pub leaf_made : {cap : ℕ} {w w' : List ℕ} {n : ℕ} {l l' : List ℤ} {r : Answer} → Grew cap l w n (make (tree_of x (trees l n))) l' w' r → Grew cap l w n (row_anew cap l w n y) l' w' r
    leaf_made {cap} {w} {n = n} {l} G = grew_as (ap make (tree_leaf x (trees l n) ends) ∙ (sym (leaf_anew cap l w n x ends) ∙ ap (row_anew cap l w n) ex)) G

  module _ (t : b ≡ false) where
    goes : is_leaf x.kind ≡ false
    goes = sym eb ∙ t

    pub test_proper : Proper x
    test_proper = record { branches = goes; nums = fits.valid.nums; tested = fits.valid.tested goes }

    -- its branches are rows before it
    pub high_in : {h : ℕ} → h ≡ nat_abs x.high → (0 < h) × (h ≤ i)
    high_in e = (omega (arith, (fits.some goes).0), omega (arith, fits.valid.high_below goes))

    pub low_in : {h : ℕ} → h ≡ nat_abs x.low → (0 < h) × (h ≤ i)
    low_in e = (omega (arith, (fits.some goes).1), omega (arith, fits.valid.low_below goes))

    pub test_made : {cap : ℕ} {w w' : List ℕ} {n h k j m : ℕ} {l l' : List ℤ} {r : Answer} → h ≡ nat_abs x.high → k ≡ nat_abs x.low → j ≡ forward cap w (h - 1) → m ≡ forward cap w (k - 1)
        → Grew cap l w n (node (test_held x) (tree_at l n j) (tree_at l n m)) l' w' r → Grew cap l w n (row_anew cap l w n y) l' w' r
    test_made {cap} {w} {n = n} {l = l} eh ek ej em G =
        let a = ej ∙ ap (λ (h : ℕ). forward cap w (h - 1)) eh in
        let d = em ∙ ap (λ (h : ℕ). forward cap w (h - 1)) ek in
        grew_as ((λ s. node (test_held x) (tree_at l n (a s)) (tree_at l n (d s))) ∙ (sym (test_anew cap l w n x goes) ∙ ap (row_anew cap l w n) ex)) G
