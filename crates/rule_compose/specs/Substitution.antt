-- The parts of a substitution at a branch.
use Rattle.std.specs.Prelude.{List, ℕ, eqb}
use Rattle.whole.specs.Cases.{if}
use Rattle.theory.specs.Diagram.{Linear, lin_of, Tree, later}
use Rattle.theory.specs.Computation.{Comp, ret}
use Rattle.theory.specs.Rules.{over, choose, decide, linear_diagram}

-- what comes before the branches: a test's linear over the levels; F, unused, for a condition
unfoldable pub head_of : ℕ → List Tree → Linear → Tree → Comp Tree
head_of k Ds p F = if (eqb k 0) (linear_diagram Ds p) (ret F)

-- what is made of the branches
unfoldable pub over_test : ℕ → Tree → Tree → Tree → Comp Tree
over_test k P H L = if (eqb k 0) (over choose (λ x. decide (lin_of x) H L) P) (choose (later k) H L)
