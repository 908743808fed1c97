-- "Down a path the order rises strictly. Equal nodes are one node. A node whose branches are equal is that branch.", and no low branch is parallel to its node: of a table's words.
use Rattle.std.specs.Prelude.{◌≡◌, ◌⊎◌, List, [], ◌∷◌, ℕ, ◌-◌, ◌*◌, ◌<◌, ℤ, pos, take, drop, ◌<ℤ◌}
use Rattle.theory.specs.Value.{node_word, node_linear, high_of, low_of}
use Rattle.theory.specs.Rows.{Range}

-- the first words that differ rise: "by the coefficients of L1 to L8 and the constant, smaller first"
abbrev pub Smaller : List ℤ → List ℤ → Type 0
Smaller [] m = ⊥
Smaller (a ∷ l) [] = ⊥
Smaller (a ∷ l) (b ∷ m) = (a <ℤ b) ⊎ ((a ≡ b) × Smaller l m)

-- the test of node r: its kind ("conditions .., then linear tests"), eight coefficients, constant
abbrev pub test_part : List ℤ → ℕ → List ℤ
test_part W r = take 10 (drop ((r - 1) * 12) W)

-- node r is no leaf, nor a leaf "none"
abbrev pub Inner : List ℤ → ℕ → Type 0
Inner W r = (node_word W r 0 ≡ pos 0) ⊎ (node_word W r 0 ≡ pos 3) → ⊥

-- node r is a linear test
abbrev pub IsTest : List ℤ → ℕ → Type 0
IsTest W r = node_word W r 0 ≡ pos 2

-- node b has the coefficients of node r and a larger constant
pub record Parallel (W : List ℤ) (r b : ℕ) : Type 0 where
  pub tests : IsTest W r × IsTest W b
  pub coefficients : (node_linear W r).coeffs ≡ (node_linear W b).coeffs
  pub larger : (node_linear W r).const <ℤ (node_linear W b).const

-- nodes 1 to n of the words W
pub record Reduced (W : List ℤ) (n : ℕ) : Type 0 where
  -- "Down a path the order rises strictly."
  pub rises : (r b : ℕ) → Range 1 n r → Inner W r → (high_of W r ≡ pos b) ⊎ (low_of W r ≡ pos b) → Inner W b → Smaller (test_part W r) (test_part W b)
  -- "Equal nodes are one node."
  pub once : (r s : ℕ) → Range 1 n r → Range 1 n s → ((i : ℕ) → i < 12 → node_word W r i ≡ node_word W s i) → r ≡ s
  -- "A node whose branches are equal is that branch."
  pub differ : (r : ℕ) → Range 1 n r → Inner W r → high_of W r ≡ low_of W r → ⊥
  -- "replaces a low branch that begins so by that branch's own low side, as often as it applies"
  pub apart : (r b : ℕ) → Range 1 n r → low_of W r ≡ pos b → Parallel W r b → ⊥
