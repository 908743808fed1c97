-- The trees that a table's nodes stand for, and what a good table is.
use Rattle.std.specs.Prelude.{◌≡◌, true, false, List, [], ◌∷◌, ◌++◌, ℕ, zero, suc, ◌+◌, ◌-◌, ◌*◌, ◌≤◌, ◌<◌, T, ltb, ℤ, pos, nat_abs, length, get_or, take, replicate}
use Rattle.std.specs.Int.Signed.{non_neg}
use Rattle.whole.specs.Cases.{if}
use Rattle.whole.specs.Linears.{numbers, Smalls}
use Rattle.table.specs.Table.{node_words, node_at, eq_ℤ, is_leaf, is_none}
use Rattle.table.specs.declared.Node.{Node}
use Rattle.theory.specs.Widths.{levels_most, conditions_most}
use Rattle.theory.specs.Diagram.{Linear, Test, now, later, linear, Leaf, some, forbidden, Tree, leaf, branch, plain}

-- ---- a node's words

unfoldable pub linear_held : Node → Linear
linear_held x = record { coeffs = take levels_most x.n; const = get_or x.n levels_most (pos 0) }

-- the last number: a linear's constant
abbrev pub constant_of : Node → ℤ
constant_of x = get_or x.n levels_most (pos 0)

-- the leaf "none": "all other words zero"
abbrev pub none_node : Node
none_node = record { kind = pos 3; n = replicate numbers (pos 0); high = pos 0; low = pos 0 }

unfoldable pub leaf_of : Node → Leaf
leaf_of x = if (is_none x.kind) forbidden (some (linear_held x) (nat_abs x.high))

-- "1 to n for a condition now, 5 to 4+n for the next step's"
unfoldable pub condition_of : ℕ → Test
condition_of k = if (ltb conditions_most k) (later (k - conditions_most)) (now k)

-- the first number: a condition's own
abbrev pub first_of : Node → ℤ
first_of x = get_or x.n 0 (pos 0)

unfoldable pub test_held : Node → Test
test_held x = if (eq_ℤ x.kind (pos 1)) (condition_of (nat_abs (first_of x))) (linear (linear_held x))

-- what stands where nothing is
unfoldable pub blank : Tree
blank = leaf (plain (record { coeffs = []; const = pos 0 }))

-- the tree of a node over the trees of those below it
unfoldable pub tree_of : Node → List Tree → Tree
tree_of x X = if (is_leaf x.kind) (leaf (leaf_of x)) (branch (test_held x) (get_or X (nat_abs x.high) blank) (get_or X (nat_abs x.low) blank))

-- the trees of the first n nodes
unfoldable pub trees : List ℤ → ℕ → List Tree
trees l zero = []
trees l (suc n) = trees l n ++ (tree_of (node_at l n) (trees l n) ∷ [])

-- the tree at an index
abbrev pub tree_at : List ℤ → ℕ → ℕ → Tree
tree_at l n i = get_or (trees l n) i blank

-- ---- good nodes

-- its numbers are as many as there are words for, and lie within the limits
abbrev pub Nums : Node → Type 0
Nums x = Smalls x.n

-- a node's test, as it stands in words
pub record Tested (x : Node) : Type 0 where
  pub kind : eq_ℤ x.kind (pos 1) ≡ false → x.kind ≡ pos 2
  pub long : length x.n ≡ numbers
  pub number : eq_ℤ x.kind (pos 1) ≡ true → T (non_neg (first_of x))
  pub bounds : eq_ℤ x.kind (pos 1) ≡ true → (0 < nat_abs (first_of x)) × (nat_abs (first_of x) ≤ conditions_most + conditions_most)
  pub rest : eq_ℤ x.kind (pos 1) ≡ true → (k : ℕ) → 0 < k → get_or x.n k (pos 0) ≡ pos 0

-- a node that can stand at index n: its branches lie below
pub record Valid (x : Node) (n : ℕ) : Type 0 where
  pub nums : Nums x
  pub high_nat : T (non_neg x.high)
  pub low_nat : T (non_neg x.low)
  pub none : is_none x.kind ≡ true → x ≡ none_node
  pub leaf_low : is_leaf x.kind ≡ true → x.low ≡ pos 0
  pub tested : is_leaf x.kind ≡ false → Tested x
  pub high_below : is_leaf x.kind ≡ false → nat_abs x.high < n
  pub low_below : is_leaf x.kind ≡ false → nat_abs x.low < n

-- "Equal nodes are one node."
pub record Good (l : List ℤ) (n : ℕ) : Type 0 where
  pub valid : (i : ℕ) → i < n → Valid (node_at l i) i
  pub distinct : (i j : ℕ) → i < n → j < n → tree_at l n i ≡ tree_at l n j → i ≡ j

-- the table l' of n' nodes has the n nodes of l, and perhaps more
pub record Grown (l : List ℤ) (n : ℕ) (l' : List ℤ) (n' : ℕ) : Type 0 where
  pub more : n ≤ n'
  pub kept : (i : ℕ) → i < n → node_at l' i ≡ node_at l i

-- ---- what the functions ask of nodes

-- an index can be read
pub record At (l : List ℤ) (i : ℕ) : Type 0 where
  pub words : i * node_words + node_words ≤ length l
  pub high : T (non_neg (node_at l i).high)
  pub low : T (non_neg (node_at l i).low)

-- a node whose test can be put over branches
pub record Proper (t : Node) : Type 0 where
  pub branches : is_leaf t.kind ≡ false
  pub nums : Nums t
  pub tested : Tested t

-- a node of the table that is no leaf
pub record Root (l : List ℤ) (n t : ℕ) : Type 0 where
  pub below : t < n
  pub branches : is_leaf (node_at l t).kind ≡ false

-- a leaf of a linear without action, as it stands in words
pub record Plain (s : Node) : Type 0 where
  pub kind : s.kind ≡ pos 0
  pub high : s.high ≡ pos 0
  pub low : s.low ≡ pos 0
