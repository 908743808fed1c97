-- A list with one value in a part of it.
use Rattle.std.specs.Prelude.{List, ◌++◌, ℕ, ◌-◌, take, drop, replicate}

-- l with z from f up to t
abbrev pub wiped : {A : Type 0} → A → ℕ → ℕ → List A → List A
wiped z f t l = take f l ++ (replicate (t - f) z ++ drop t l)
