-- What the five words of a cache entry mean while a solve runs: each rule by its number. They settle the computation, with no context.
use Rattle.std.specs.Prelude.{◌≡◌, true, false, ◌⊎◌, List, [], ◌∷◌, map, ℕ, ◌+◌, ◌*◌, ◌/◌, ◌%◌, ◌≤◌, ◌<◌, eqb, ℤ, take}
use Rattle.std.specs.Int.{w64}
use Rattle.std.proofs.Common.{to_z}
use Rattle.whole.specs.Cases.{if}
use Rattle.theory.specs.Widths.{conditions_most}
use Rattle.theory.specs.Diagram.{Test, later, lin_of, Tree, leaf, branch, test_of}
use Rattle.theory.specs.Computation.{Comp, ret}
use Rattle.theory.specs.Rules.{choose, over, decide, sum, product, best, scale, shift, complement, number, side, substitute}
use Rattle.rule_node.specs.Nodes.{blank, tree_at}
use Rattle.rule_node.specs.Codes.{sum_code, product_code, best_code, scale_code, shift_code, complement_code, number_code, yes_side_code, no_side_code, walk_code, choose_later_code, choose_named_code, substitute_code}

-- the i64 with the low half p and the high half q
unfoldable pub from_halves : ℕ → ℕ → ℤ
from_halves p q = to_z w64 (q * 4294967296 + p)

-- the test that a diagram names: a branch its own, a leaf its linear's
unfoldable pub test_in : Tree → Test
test_in (leaf f) = test_of (lin_of f)
test_in (branch t h l) = t

-- the test that a choice is given: 10 the next step's condition p, 11 the one that the node at p names
unfoldable pub test_by : List ℤ → ℕ → ℕ → ℕ → Test
test_by l n op p = if (eqb op choose_later_code) (later p) (test_in (tree_at l n p))

-- such a test is there
abbrev pub NamesTest : ℕ → ℕ → ℕ → Type 0
NamesTest n op p = ((op ≡ choose_later_code) × (0 < p) × (p ≤ conditions_most)) ⊎ ((op ≡ choose_named_code) × (p < n))

-- a word's low and high half, of 16 bits each
unfoldable pub halves : List ℕ → List ℕ
halves [] = []
halves (w ∷ r) = w % 65536 ∷ w / 65536 ∷ halves r

-- the indexes d1 to dm that the words of a substitution hold: 12 + 16 m and d1, f and d2, d3 and d4, d5 and d6, d7 and d8
unfoldable pub indexes : ℕ → ℕ → ℕ → ℕ → ℕ → List ℕ
indexes op f g p q = take (op % 65536 / 16) (op / 65536 ∷ f / 65536 ∷ halves (g ∷ p ∷ q ∷ []))

-- their diagrams
abbrev pub packed : List ℤ → ℕ → ℕ → ℕ → ℕ → ℕ → ℕ → List Tree
packed l n op f g p q = map (tree_at l n) (indexes op f g p q)

-- the rule of the number c
unfoldable pub rule_by : ℕ → List ℤ → ℕ → ℕ → ℕ → ℕ → ℕ → ℕ → Comp Tree
rule_by c l n op f g p q =
    if (eqb c sum_code) (sum (tree_at l n f) (tree_at l n g))
    (if (eqb c product_code) (product (tree_at l n f) (tree_at l n g))
    (if (eqb c best_code) (best (tree_at l n f) (tree_at l n g))
    (if (eqb c scale_code) (scale (from_halves p q) (tree_at l n f))
    (if (eqb c shift_code) (shift (from_halves p q) (tree_at l n f))
    (if (eqb c complement_code) (complement p (tree_at l n f))
    (if (eqb c number_code) (number p (tree_at l n f))
    (if (eqb c yes_side_code) (side true p (tree_at l n f))
    (if (eqb c no_side_code) (side false p (tree_at l n f))
    (if (eqb c walk_code) (over choose (λ x. decide (lin_of x) (tree_at l n g) (tree_at l n p)) (tree_at l n f))
    (if (eqb c choose_later_code) (choose (test_by l n choose_later_code p) (tree_at l n f) (tree_at l n g))
    (if (eqb c choose_named_code) (choose (test_by l n choose_named_code p) (tree_at l n f) (tree_at l n g))
    (if (eqb c substitute_code) (substitute (packed l n op f g p q) (tree_at l n (f % 65536)))
    (ret blank)))))))))))))

-- a rule's number is the low four bits of its first word, and all of it but for substitution
unfoldable pub rule_of : List ℤ → ℕ → ℕ → ℕ → ℕ → ℕ → ℕ → Comp Tree
rule_of l n op f g p q = rule_by (op % 16) l n op f g p q
