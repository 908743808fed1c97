-- Leaves of the table, and what rules make of leaves, as a leaf's words.
use Rattle.std.specs.Prelude.{◌≡◌, Bool, true, false, List, ℕ, ◌<◌, ℤ, pos, ◌+ℤ◌, ◌-ℤ◌, set}
use Rattle.std.proofs.Math.Dec.{compare_is_eq}
use Rattle.whole.specs.Cases.{if}
use Rattle.whole.specs.Linears.{add_list, sub_list, clip_list}
use Rattle.table.specs.Table.{node_at, is_leaf, is_none}
use Rattle.table.specs.declared.Node.{Node}
use Rattle.theory.specs.Widths.{levels_most}
use Rattle.theory.specs.Diagram.{cmp_ℤ}
use Rattle.rule_node.specs.Nodes.{constant_of}

-- a leaf of the table
pub record AtLeaf (l : List ℤ) (n f : ℕ) : Type 0 where
  pub below : f < n
  pub ends : is_leaf (node_at l f).kind ≡ true

-- one that is not "none"
pub record AtLinear (l : List ℤ) (n f : ℕ) : Type 0 where
  pub leaf : AtLeaf l n f
  pub linear : is_none (node_at l f).kind ≡ false

-- "a product not by 0, is it": k times this leaf is the leaf "none"
unfoldable pub stays_none : ℤ → Node → Bool
stays_none k x = if (compare_is_eq (cmp_ℤ k (pos 0))) false (is_none x.kind)

-- a leaf of these numbers, without action
abbrev pub leaf_node : List ℤ → Node
leaf_node n = record { kind = pos 0; n = n; high = pos 0; low = pos 0 }

-- the sum of two leaves
unfoldable pub sum_node : Node → Node → Node
sum_node x y = leaf_node (add_list x.n y.n)

-- their difference
unfoldable pub less_node : Node → Node → Node
less_node x y = leaf_node (sub_list x.n y.n)

-- a number times a leaf
unfoldable pub product_node : ℤ → Node → Node
product_node k y = leaf_node (clip_list k y.n)

-- a leaf with another constant
abbrev pub with_constant : Node → ℤ → Node
with_constant x z = leaf_node (set x.n levels_most z)

-- a leaf plus a number
unfoldable pub shift_node : ℤ → Node → Node
shift_node c x = with_constant x (constant_of x +ℤ c)

-- a weight less a leaf
unfoldable pub complement_node : ℕ → Node → Node
complement_node W x = with_constant x (pos W -ℤ constant_of x)

-- a leaf numbered with an action
unfoldable pub number_node : ℕ → Node → Node
number_node a x = record { kind = pos 0; n = x.n; high = pos a; low = pos 0 }
