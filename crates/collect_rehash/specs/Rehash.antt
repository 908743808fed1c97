-- Chains made anew, and an empty cache.
use Rattle.std.specs.Prelude.{◌≡◌, List, ℕ, ◌*◌, ◌≤◌, ◌<◌, ℤ, length, get_or}
use Rattle.table_unique.specs.Unique.{work_words}
use Rattle.table_unique.specs.Unique.{Hashed}

pub record Rehashed (cap : ℕ) (l : List ℤ) (w w' : List ℕ) (n : ℕ) : Type 0 where
  pub hashed : Hashed cap l w' n
  pub cache : (j : ℕ) → cap * 2 ≤ j → j < cap * work_words → get_or w' j 0 ≡ 0
  pub beyond : (j : ℕ) → cap * work_words ≤ j → get_or w' j 0 ≡ get_or w j 0
  pub len : length w' ≡ length w
