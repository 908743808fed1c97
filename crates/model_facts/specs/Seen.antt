-- The code keeps the three facts of the diagrams on the stack in three words of bits; document 01's definitions keep a list.
use Rattle.std.specs.Prelude.{List, [], ◌∷◌, ℕ, zero, suc, ◌/◌, ◌%◌, eqb}
use Rattle.theory.specs.Verdict.{Facts}
use Rattle.model_facts.specs.declared.Seen.{Seen}

-- the facts of the n diagrams on the stack, its top first, of three words of bits
unfoldable pub seen_in : ℕ → ℕ → ℕ → ℕ → List Facts
seen_in later weights forbids zero = []
seen_in later weights forbids (suc n) =
    record { next_step = eqb (later % 2) 1; weights = eqb (weights % 2) 1; forbids = eqb (forbids % 2) 1 }
    ∷ seen_in (later / 2) (weights / 2) (forbids / 2) n

abbrev pub seen : Seen → List Facts
seen t = seen_in t.later t.weights t.forbids t.len
