-- The order of tests, parallel tests, the test of a choice, and the sides of two nodes, as functions of their words.
use Rattle.std.specs.Prelude.{Bool, false, ◌&&◌, List, ◌∷◌, ◌≡◌, eqb, ℤ, pos, nat_abs, length, replicate}
use Prim.Native.Nat.{ℕ, ◌+◌, ◌*◌, ◌≤◌, Ordering}
use Rattle.whole.specs.Cases.{if}
use Rattle.whole.specs.Linears.{quot_list, divisor_list}
use Rattle.std.specs.declared.cmp.Ordering.{Ordering as Compared}
use Rattle.std.specs.declared.cmp.Ordering.TheVariants.{Less, Equal, Greater}
unfoldable pub use Rattle.whole.specs.Linears.{ord_num}
use Rattle.table.specs.Table.{node_words, node_at, eq_ℤ, is_leaf}
use Rattle.table.specs.declared.Node.{Node}
use Rattle.theory.specs.Widths.{levels_most, conditions_most}
use Rattle.theory.specs.Diagram.{Test, linear, then, cmp_ℤ, cmp_list}
use Rattle.theory.specs.Rules.{parallel}
use Rattle.rule_node.specs.Nodes.{linear_held, test_held, Nums, Proper}
use Rattle.rule_node.specs.declared.Sides.{Sides}
use Rattle.rule_node.specs.declared.Down.{Down}
use Rattle.rule_node.specs.Codes.{choose_later_code}

-- ---- the order, by kind and then by the numbers, coefficients and constant

unfoldable pub order_of : Node → Node → Ordering
order_of x y = then (cmp_ℤ x.kind y.kind) (cmp_list x.n y.n)

-- an order, as the code has it
abbrev pub ordering : Ordering → Compared
ordering Ordering.lt = Less
ordering Ordering.eq = Equal
ordering Ordering.gt = Greater

-- both are linear tests, and y is parallel to x
unfoldable pub parallel_of : Node → Node → Bool
parallel_of x y = eq_ℤ x.kind (pos 2) && (eq_ℤ y.kind (pos 2) && parallel (linear (linear_held x)) (linear (linear_held y)))

-- ---- the test of a choice, as a node's words

-- condition k: "1 to n for a condition now, 5 to 4+n for the next step's"
unfoldable pub condition_node : ℕ → Node
condition_node k = record { kind = pos 1; n = pos k ∷ replicate levels_most (pos 0); high = pos 0; low = pos 0 }

-- the next step's condition k
abbrev pub later_node : ℕ → Node
later_node k = condition_node (conditions_most + k)

-- the test of a linear's numbers
unfoldable pub linear_node : List ℤ → Node
linear_node l = record { kind = pos 2; n = l; high = pos 0; low = pos 0 }

-- the test that a node names
unfoldable pub named_node : Node → Node
named_node x = if (is_leaf x.kind) (linear_node (quot_list (divisor_list x.n) x.n)) x

unfoldable pub test_node : List ℤ → ℕ → ℕ → Node
test_node l op p = if (eqb op choose_later_code) (later_node p) (named_node (node_at l p))

-- the words of a node are those of a test
pub record Stood (t : Test) (x : Node) : Type 0 where
  pub proper : Proper x
  pub test : test_held x ≡ t

-- it can be read
pub record Readable (l : List ℤ) (op p : ℕ) : Type 0 where
  pub number : op ≡ choose_later_code → p ≤ conditions_most
  pub words : (op ≡ choose_later_code → ⊥) → p * node_words + node_words ≤ length l
  pub nums : (op ≡ choose_later_code → ⊥) → Nums (node_at l p)

-- ---- the sides

unfoldable pub down_of : Node → Down
down_of x = record { ends = is_leaf x.kind; high = nat_abs x.high; low = nat_abs x.low }

abbrev pub left_sides : Down → ℕ → ℕ → Sides
left_sides x f g = record { ends = false; root = f; fh = x.high; gh = g; fl = x.low; gl = g }

abbrev pub right_sides : ℕ → Down → ℕ → Sides
right_sides f y g = record { ends = false; root = g; fh = f; gh = y.high; fl = f; gl = y.low }

abbrev pub both_sides : Down → ℕ → Down → Sides
both_sides x f y = record { ends = false; root = f; fh = x.high; gh = y.high; fl = x.low; gl = y.low }
