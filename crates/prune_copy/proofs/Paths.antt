-- On a path: a row where a turn is taken goes on, and the path fits the row after it.
use mathlib.Core.Path.{◌≡◌, refl, subst}
use mathlib.Core.Bool.{Bool, true, false, ◌&&◌}
use mathlib.Core.List.{List, ◌∷◌}
use Prim.Native.Nat.{ℕ, ◌-◌, ◌≤◌, ◌<◌}
use native.Mathlib.Omega.{arith}
use lib.Dec.{T, eqb}
use lib.IntN.{ℤ}
use Rattle.whole.specs.Cases.{if, by_eq, both}
use Rattle.table.specs.Table.{node_at, is_leaf}
use Rattle.theory.specs.Diagram.{branch}
use Rattle.rule_node.specs.Nodes.{test_held}
use Rattle.prune_paths.specs.Prune.{high_at, low_at, diagram_at, fits, GoodRows}
use Rattle.prune_rows.specs.Rows.{RowFits, branch_at}
use Rattle.prune_rows.proofs.Rows.{Row, row_at}

-- turn b is taken at row r, and bs after it
pub record OnPath (W : List ℤ) (r b : ℕ) (bs : List ℕ) : Type 0 where
  pub row : RowFits (node_at W (r - 1)) (r - 1)
  pub goes : is_leaf (node_at W (r - 1)).kind ≡ false
  pub side : (s : Bool) → (1 ≤ branch_at W r s) × (branch_at W r s < r)
  pub tree : diagram_at W r ≡ branch (test_held (node_at W (r - 1))) (diagram_at W (high_at W r)) (diagram_at W (low_at W r))
  pub fit : T (fits bs (diagram_at W (branch_at W r (eqb b 1))))

pub on_path : {W : List ℤ} {last : ℕ} → GoodRows W last → (r : ℕ) → 1 ≤ r → r ≤ last → (b : ℕ) (bs : List ℕ) → T (fits (b ∷ bs) (diagram_at W r)) → OnPath W r b bs
unfolding fits branch_at node_at
on_path {W} G r a h b bs t = go (is_leaf (node_at W (r - 1)).kind) refl
  where
    R : Row W (r - 1) r
    R = row_at G r a h

    sides : is_leaf (node_at W (r - 1)).kind ≡ false → (s : Bool) → (1 ≤ branch_at W r s) × (branch_at W r s < r)
    sides e true = ((R.fits.some e).0, omega (arith, R.fits.valid.high_below e))
    sides e false = ((R.fits.some e).1, omega (arith, R.fits.valid.low_below e))

    go : (c : Bool) → is_leaf (node_at W (r - 1)).kind ≡ c → OnPath W r b bs
    go true e = absurd (subst (λ F. T (fits (b ∷ bs) F)) (R.ends e) t)
    go false e = record {
      row = R.fits;
      goes = e;
      side = sides e;
      tree = R.goes e;
      fit = by_eq (eqb b 1) (λ c. T (if c (fits bs (diagram_at W (high_at W r))) (eqb b 0 && fits bs (diagram_at W (low_at W r)))) → T (fits bs (diagram_at W (branch_at W r c))))
          (λ _ u. u) (λ _ u. (both (eqb b 0) (fits bs (diagram_at W (low_at W r))) u).1) (subst (λ F. T (fits (b ∷ bs) F)) (R.goes e) t);
    }
