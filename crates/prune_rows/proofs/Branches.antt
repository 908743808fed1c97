-- A row's branches, as they are read.
use mathlib.Core.Path.{◌≡◌, ap, ◌∙◌, sym}
use mathlib.Core.Bool.{Bool, true, false}
use mathlib.Core.List.{List}
use Prim.Native.Nat.{ℕ, ◌-◌}
use lib.IntN.{ℤ, nat_abs}
use Rattle.whole.specs.Cases.{if}
use Rattle.table.specs.Table.{node_at}
use Rattle.table.specs.declared.Node.{Node}
use Rattle.prune_paths.specs.Prune.{high_at, low_at}
use Rattle.prune_rows.specs.Rows.{branch_at}
use Rattle.prune_rows.proofs.Rows.{high_is, low_is}

module _ (W : List ℤ) (r : ℕ) where
  pub high_branch : {b : Bool} → b ≡ true → branch_at W r b ≡ high_at W r
  unfolding branch_at
  high_branch e = ap (λ (b : Bool). if b (high_at W r) (low_at W r)) e

  pub low_branch : {b : Bool} → b ≡ false → branch_at W r b ≡ low_at W r
  unfolding branch_at
  low_branch e = ap (λ (b : Bool). if b (high_at W r) (low_at W r)) e

  module _ {x : Node} (ex : x ≡ node_at W (r - 1)) {b : Bool} {k : ℕ} where
    pub high_read : b ≡ true → k ≡ nat_abs x.high → k ≡ branch_at W r b
    high_read e d = d ∙ (ap (λ (y : Node). nat_abs y.high) ex ∙ (ap nat_abs (high_is W r) ∙ sym (high_branch e)))

    pub low_read : b ≡ false → k ≡ nat_abs x.low → k ≡ branch_at W r b
    low_read e d = d ∙ (ap (λ (y : Node). nat_abs y.low) ex ∙ (ap nat_abs (low_is W r) ∙ sym (low_branch e)))

-- a row that two tables have has its branches in both
pub branch_same : (W' W : List ℤ) (r : ℕ) → node_at W' (r - 1) ≡ node_at W (r - 1) → (b : Bool) → branch_at W' r b ≡ branch_at W r b
unfolding branch_at node_at
branch_same W' W r e true = ap (λ (x : Node). nat_abs x.high) e
branch_same W' W r e false = ap (λ (x : Node). nat_abs x.low) e
