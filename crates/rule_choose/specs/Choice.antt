-- The sides that a rule of two operands goes on with, as functions of the nodes' words.
use Rattle.std.specs.Prelude.{true, List, ℕ, eqb, ℤ, pos}
use Rattle.whole.specs.Cases.{if}
use Rattle.table.specs.declared.Node.{Node}
use Rattle.rule_node.specs.declared.Sides.{Sides}
use Rattle.rule_node.specs.declared.Down.{Down}
use Rattle.rule_node.specs.Roots.{order_of, ord_num, down_of, left_sides, right_sides, both_sides}

-- nothing is left to go on with, but f and g, or a choice's high side f and low side k
abbrev pub end_sides : ℕ → ℕ → ℕ → Sides
end_sides f g k = record { ends = true; root = f; fh = f; gh = g; fl = f; gl = k }

-- by the first of two roots, their order being o
unfoldable pub split_of : Down → ℕ → Down → ℕ → ℕ → Sides
split_of x f y g o =
    if x.ends (if y.ends (end_sides f g g) (right_sides f y g))
    (if y.ends (left_sides x f g) (if (eqb o 0) (left_sides x f g) (if (eqb o 1) (both_sides x f y) (right_sides f y g))))

unfoldable pub sides_of : Node → ℕ → Node → ℕ → Sides
sides_of x f y g = split_of (down_of x) f (down_of y) g (ord_num (order_of x y))

-- by the first of a test and the low root, the high side being p of f; b is the order of the test and the low root
unfoldable pub pick_low : ℕ → ℕ → Down → ℕ → ℕ → Sides
pick_low p f y g b = if y.ends (end_sides p g g) (if (eqb b 2) (right_sides f y g) (if (eqb b 1) (end_sides p g y.low) (end_sides p g g)))

-- by the first of a test and two roots: a, b the order of the test and each root, o that of the roots
unfoldable pub pick_of : Down → ℕ → Down → ℕ → ℕ → ℕ → ℕ → Sides
pick_of x f y g a b o =
    if x.ends (pick_low f f y g b)
    (if (eqb a 2) (split_of x f y g o) (if (eqb a 1) (pick_low x.high f y g b) (pick_low f f y g b)))

-- a test by its kind and numbers: no choice goes by what lies below it
abbrev pub test_words : ℤ → List ℤ → Node
test_words k n = record { kind = k; n = n; high = pos 0; low = pos 0 }

unfoldable pub choice_of : Node → Node → ℕ → Node → ℕ → Sides
choice_of z x f y g = pick_of (down_of x) f (down_of y) g (ord_num (order_of z x)) (ord_num (order_of z y)) (ord_num (order_of x y))
