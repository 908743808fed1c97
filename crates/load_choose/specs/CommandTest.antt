-- The test that a command of the model gives, in words, and what the five words of a cache entry mean while the model is loaded.
use Rattle.std.specs.Prelude.{List, ℕ, ◌+◌, ◌≤◌, ◌<◌, ℤ, pos}
use Rattle.table.specs.declared.Node.{Node}
use Rattle.theory.specs.Widths.{conditions_most}
use Rattle.theory.specs.Diagram.{Test, test_of}
use Rattle.theory.specs.Rules.{choose}
use Rattle.theory.specs.Command.{Command, site, push_leaf, push_condition, push_test, push_forbidden, give, name_action, end_model, Read, whole, unknown, short, read_at}
use Rattle.theory.specs.Load.{condition_test}
use Rattle.rule_node.specs.Nodes.{tree_at}
use Rattle.rule_node.specs.Table.{EntryRule}

-- a linear as a leaf's words
unfoldable pub leaf_words : List ℤ → Node
leaf_words p = record { kind = pos 0; n = p; high = pos 0; low = pos 0 }

-- the number of a command's condition, 1 where it has none
unfoldable pub condition_in : Command → ℕ
condition_in (site m n a w) = 1
condition_in (push_leaf p) = 1
condition_in (push_condition k) = k
condition_in (push_test p) = 1
condition_in push_forbidden = 1
condition_in (give g) = 1
condition_in (name_action a b) = 1
condition_in end_model = 1

unfoldable pub condition_read : Read → ℕ
condition_read (whole c) = condition_in c
condition_read unknown = 1
condition_read short = 1

-- its test; where it gives none, any
unfoldable pub test_in : Command → Test
test_in (site m n a w) = condition_test 1
test_in (push_leaf p) = condition_test 1
test_in (push_condition k) = condition_test k
test_in (push_test p) = test_of p
test_in push_forbidden = condition_test 1
test_in (give g) = condition_test 1
test_in (name_action a b) = condition_test 1
test_in end_model = condition_test 1

unfoldable pub test_read : Read → Test
test_read (whole c) = test_in c
test_read unknown = condition_test 1
test_read short = condition_test 1

abbrev pub test_at : List ℕ → ℕ → Test
test_at B at = test_read (read_at B at)

-- the offset fits an entry, and a condition there is one of those now and of the next step
pub record Testing (B : List ℕ) (at : ℕ) : Type 0 where
  pub within : at < 4294967296
  pub least : 0 < condition_read (read_at B at)
  pub most : condition_read (read_at B at) ≤ conditions_most + conditions_most

-- an entry is the choice between f and g by the test of the command at the offset p
unfoldable pub load_rule : List ℕ → EntryRule
load_rule B l n op f g p q = choose (test_at B p) (tree_at l n f) (tree_at l n g)
