-- A path on the rows of a table, and the numbers of a certificate's sum.
use Rattle.std.specs.Prelude.{◌≡◌, Bool, not, ◌&&◌, List, ℕ, suc, ◌+◌, ◌-◌, ◌≤◌, ◌<◌, T, eqb, ℤ, pos, neg_ℤ, nat_abs, ◌+ℤ◌, ◌*ℤ◌, length, get_or}
use Rattle.std.specs.Int.Signed.{le_z}
use Rattle.whole.specs.Cases.{if}
use Rattle.whole.specs.Linears.{numbers}
use Rattle.whole.specs.declared.Numerator.{Numerator}
use Rattle.whole.specs.Numerator.{number}
use Rattle.theory.specs.Diagram.{Linear, Tree}
use Rattle.theory.specs.Valid.{all}
use Rattle.theory.specs.Value.{node_word, ends}
use Rattle.prune_paths.specs.Prune.{GoodRows, high_at, low_at, diagram_at, fits, along}

-- node r, and every node that may lie below it, is as the layout has it
pub record GoodNode (W : List ℤ) (r : ℕ) : Type 0 where
  pub above : 1 ≤ r
  pub good : GoodRows W r

-- node r is a linear test
abbrev pub is_test : List ℤ → ℕ → Bool
is_test W r = eqb (nat_abs (node_word W r 0)) 2

-- how many linear tests node r is
unfoldable pub tests : List ℤ → ℕ → ℕ
tests W r = if (is_test W r) 1 0

-- the branch of a turn at node r, 0 where it fits none
unfoldable pub goes : List ℤ → ℕ → ℕ → ℕ
goes W r b = if (ends (nat_abs (node_word W r 0))) 0 (if (eqb b 1) (high_at W r) (if (eqb b 0) (low_at W r) 0))

-- one more than the linear tests of a path, 0 where it does not fit
unfoldable pub shape_of : List ℕ → Tree → ℕ
shape_of turns F = if (fits turns F) (suc (length (along turns F))) 0

-- coefficient w of a linear, numbered from 1, and behind the coefficients the constant
unfoldable pub number_at : ℕ → Linear → ℤ
number_at w p = if (eqb w numbers) p.const (get_or p.coeffs (w - 1) (pos 0))

-- a path that fits, with a multiplier for each linear test, none of them negative
pub record Proposed (W : List ℤ) (r : ℕ) (turns : List ℕ) (ks : List ℤ) : Type 0 where
  pub node : GoodNode W r
  pub fit : T (fits turns (diagram_at W r))
  pub count : length ks ≡ length (along turns (diagram_at W r))
  pub signs : T (all (le_z (pos 0)) ks)

-- what node r adds to number w of the sum, with turn b and the multiplier k
unfoldable pub part : List ℤ → ℕ → ℕ → ℕ → ℤ → ℤ
part W r w b k = if (is_test W r) (if (eqb b 1) k (neg_ℤ k) *ℤ node_word W r w) (pos 0)

-- how far one node moves the sum's high word: a product's own, and a carry
abbrev pub high_most : ℕ
high_most = 536870915

-- r is x and z added, and its high word is not far from that of x
pub record Joined (x : Numerator) (z : ℤ) (r : Numerator) : Type 0 where
  pub is : number r ≡ number x +ℤ z
  pub bounded : nat_abs r.high ≤ nat_abs x.high + high_most

-- where a node is a test, its multiplier is there and not negative
pub record GivenMultiplier (W : List ℤ) (r : ℕ) (ks : List ℤ) (j : ℕ) : Type 0 where
  pub there : T (is_test W r) → j < length ks
  pub sign : T (is_test W r) → T (le_z (pos 0) (get_or ks j (pos 0)))

-- a low side with a multiplier above 0
unfoldable pub low_here : ℕ → ℕ → ℤ → Bool
low_here n b k = eqb n 1 && (not (eqb b 1) && le_z (pos 1) k)
