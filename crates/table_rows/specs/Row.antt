-- A node's row: its kind, where the layout is kept.
use Rattle.std.specs.Prelude.{List, ℕ, ◌+◌, ◌-◌, ◌*◌, ◌≤◌, eqb, ℤ, pos, negsuc, nat_abs, length, take, drop}
use Rattle.whole.specs.Cases.{if}
use Rattle.whole.specs.Linears.{numbers}
use Rattle.theory.specs.Widths.{node_words}
use Rattle.theory.specs.Value.{node_word, good_row}
use Rattle.table_rows.specs.declared.Kind.{Kind}
use Rattle.table_rows.specs.declared.Kind.TheVariants.{Leaf, Condition, Test, None, Bad}

-- node r lies inside the table
pub record Inside (W : List ℤ) (r : ℕ) : Type 0 where
  pub above : 1 ≤ r
  pub within : r * node_words ≤ length W

-- the numbers in node r's row
abbrev pub row_numbers : List ℤ → ℕ → List ℤ
row_numbers W r = take numbers (drop ((r - 1) * node_words + 1) W)

-- the kind that a first word says; 4, which is no kind, for one below 0
unfoldable pub kind_number : ℤ → ℕ
kind_number (pos k) = k
kind_number (negsuc k) = 4

-- "kind (0 leaf, 1 condition, 2 test)"; "A leaf "none" has kind 3"
unfoldable pub kind_of : ℕ → Kind
kind_of k = if (eqb k 0) Leaf (if (eqb k 1) Condition (if (eqb k 2) Test None))

-- a good row's kind; nodes are numbered from 1
unfoldable pub row_kind : ℕ → ℕ → List ℤ → ℕ → Kind
row_kind n A W r = if (eqb r 0) Bad (if (good_row n A W r) (kind_of (nat_abs (node_word W r 0))) Bad)
