-- One step of the walk, and where it ends.
use Rattle.std.specs.Prelude.{◌≡◌, List, ℕ, ◌≤◌, T, ℤ, nat_abs}
use Rattle.theory.specs.Valid.{small_linear}
use Rattle.theory.specs.Value.{Asked, node_linear, high_of, taken}
use Rattle.table_rows.specs.declared.Kind.{Kind}
use Rattle.table_rows.specs.declared.Kind.TheVariants.{Leaf, Condition, Test, None, Bad}
use Rattle.table_rows.specs.Row.{Inside, row_kind}

abbrev pub step_by : Kind → ℕ → ℕ → ℕ
step_by Leaf r below = r
step_by Condition r below = below
step_by Test r below = below
step_by None r below = r
step_by Bad r below = 0

-- where a walk goes from node r: a leaf stays, a refused node goes to 0
unfoldable pub step_of : ℕ → ℕ → Asked → List ℤ → ℕ → ℕ
step_of n A q W r = step_by (row_kind n A W r) r (taken n q W r)

-- where a walk has ended: at 0, or at a leaf, whose action is one of the model's, or 0 where it is "none"
pub record Ends (A : ℕ) (W : List ℤ) (r : ℕ) : Type 0 where
  pub inside : (r ≡ 0 → ⊥) → Inside W r
  pub small : (r ≡ 0 → ⊥) → T (small_linear (node_linear W r))
  pub action : (r ≡ 0 → ⊥) → nat_abs (high_of W r) ≤ A
