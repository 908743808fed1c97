-- The outcome.
use Rattle.std.specs.Prelude.{List, ℕ, eqb, ℤ}
use Rattle.whole.specs.Cases.{if}
use Rattle.theory.specs.Value.{Asked, accepted, walk, ValueOut, refused_value, value_at}
use Rattle.value_walk.specs.declared.Value.{Value}

-- what document 01 says of a value read
abbrev pub out : Value → ValueOut
out v = record { number = v.number; place = v.place; action = v.action; numerator = v.numerator }

-- the outcome once the model has been judged: a site's m, n and A, the nodes, and the root that the stage word names
unfoldable pub value_after : ℕ → ℕ → ℕ → List ℤ → ℕ → Asked → ValueOut
value_after m n A W root q =
    if (accepted m n q)
    (if (eqb root 0) (refused_value 15 0) (value_at q W (walk n A q W root root)))
    (refused_value 13 0)
