-- The rules of one diagram and a bare number, by their numbers in the cache: on leaves' words, and how they go on.
use Rattle.std.specs.Prelude.{◌≡◌, Bool, true, false, ℕ, ◌/◌, ◌%◌, ◌≤◌, ◌<◌, ltb, eqb, ℤ}
use Rattle.std.specs.Int.{w64}
use Rattle.std.proofs.Common.{of_z}
use Rattle.whole.specs.Cases.{if}
use Rattle.whole.specs.Within.{Small}
use Rattle.table.specs.Table.{is_none}
use Rattle.table.specs.declared.Node.{Node}
use Rattle.theory.specs.Widths.{conditions_most, weights_most, actions_most}
use Rattle.theory.specs.Diagram.{Tree}
use Rattle.theory.specs.Computation.{Comp}
use Rattle.theory.specs.Rules.{scale, shift, complement, number, side}
use Rattle.rule_node.specs.EntryMeaning.{from_halves}
use Rattle.rule_node.specs.Roots.{down_of, ord_num, order_of, later_node}
use Rattle.rule_node.specs.declared.Down.{Down}
use Rattle.rule_leaves.specs.Leaves.{stays_none, product_node, shift_node, complement_node, number_node}
use Rattle.rule_unary_node.specs.declared.Way.{Way}
use Rattle.rule_unary_node.specs.declared.Way.TheVariants.{End, Pick, Both}
use Rattle.rule_node.specs.Codes.{scale_code, shift_code, complement_code, number_code, yes_side_code, no_side_code}

-- ---- the rules

-- 3 scale · 4 shift · 5 complement · 6 number · 7 the yes side · 8 the no side
unfoldable pub act_of : ℕ → ℕ → ℕ → Tree → Comp Tree
act_of op p q F =
    if (eqb op scale_code) (scale (from_halves p q) F)
    (if (eqb op shift_code) (shift (from_halves p q) F)
    (if (eqb op complement_code) (complement p F)
    (if (eqb op number_code) (number p F)
    (if (eqb op yes_side_code) (side true p F) (side false p F)))))

-- such a rule with numbers in range: two words of 32 bits; a shift within the limits, a weight, an action, a condition
pub record Acts (op p q : ℕ) : Type 0 where
  pub from : scale_code ≤ op
  pub to : op ≤ no_side_code
  pub low : p < 4294967296
  pub high : q < 4294967296
  pub shifts : op ≡ shift_code → Small (from_halves p q)
  pub weighs : op ≡ complement_code → p ≤ weights_most
  pub numbers : op ≡ number_code → p ≤ actions_most
  pub some : yes_side_code ≤ op → 0 < p
  pub picks : yes_side_code ≤ op → p ≤ conditions_most

-- the halves of an i64's bits
unfoldable pub low_of : ℤ → ℕ
low_of c = of_z w64 c % 4294967296

unfoldable pub high_of : ℤ → ℕ
high_of c = of_z w64 c / 4294967296

-- ---- a leaf's words

-- the leaf that a rule makes of a leaf; a side leaves it
unfoldable pub acted_node : ℕ → ℕ → ℕ → Node → Node
acted_node op p q x =
    if (eqb op scale_code) (product_node (from_halves p q) x)
    (if (eqb op shift_code) (shift_node (from_halves p q) x)
    (if (eqb op complement_code) (complement_node p x)
    (if (eqb op number_code) (number_node p x) x)))

-- the leaf stays as it is: a side does not change it, "none" is not numbered, and a number times it but 0 is it
unfoldable pub stays_by : ℕ → ℕ → ℕ → Node → Bool
stays_by op p q x = if (ltb number_code op) true (if (eqb op number_code) (is_none x.kind) (if (eqb op scale_code) (stays_none (from_halves p q) x) false))

-- ---- the way on

-- nothing at a leaf; a side picks a branch where the order o of the node's test and its condition is 1: 7 the high one, 8 the low one
unfoldable pub way_by : Down → ℕ → ℕ → Way
way_by d op o = if d.ends End (if (eqb o 1) (Pick (if (eqb op yes_side_code) d.high d.low)) (Both d.high d.low))

unfoldable pub way_of : ℕ → ℕ → Node → Way
way_of op p x = way_by (down_of x) op (if (ltb op 7) 0 (ord_num (order_of x (later_node p))))
