-- What a stack holds, its top first, and what a push leaves.
use Rattle.std.specs.Prelude.{List, [], ◌∷◌, ℕ, zero, suc, ltb, length, get_or}
use Rattle.whole.specs.Cases.{if}
use Rattle.theory.specs.Widths.{stack_most}
use Rattle.model_stack.specs.declared.Stack.{Stack}

-- the first n of a list, the last of them first
unfoldable pub last_first : List ℕ → ℕ → List ℕ
last_first l zero = []
last_first l (suc n) = get_or l n 0 ∷ last_first l n

abbrev pub held : Stack → List ℕ
held s = last_first s.items s.len

-- "it holds at most 32": a full stack stays as it is
unfoldable pub pushed : ℕ → List ℕ → List ℕ
pushed x l = if (ltb (length l) stack_most) (x ∷ l) l
