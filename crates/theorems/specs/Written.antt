-- "These rules judge each leaf and condition as written, also one that loading would drop.": the three facts that a diagram is judged by, of the diagram as it is written.
use Rattle.std.specs.Prelude.{◌≡◌, ◌↔◌, ◌⊎◌, List, [], ◌∷◌, ℕ, ◌+◌, T, pos, get_or, ◌≤ℤ◌}
use Rattle.theory.specs.Diagram.{Test, now, later, linear, some, forbidden, Tree, leaf, branch}
use Rattle.theory.specs.Computation.{Comp, ret, result}
use Rattle.theory.specs.Command.{byte_at, width, command_at}
use Rattle.theory.specs.Verdict.{Facts}
use Rattle.theory.specs.Load.{Loaded, load_one_with}

-- a next_step condition
abbrev pub IsLater : Test → Type 0
IsLater (now k) = ⊥
IsLater (later k) = Unit {0}
IsLater (linear p) = ⊥

-- "Next-step conditions stand only in next levels.": one stands in a diagram
abbrev pub HasLater : Tree → Type 0
HasLater (leaf f) = ⊥
HasLater (branch t h l) = IsLater t ⊎ (HasLater h ⊎ HasLater l)

-- "The leaves of a chance are constants 0 to W"
abbrev pub AllWeights : ℕ → Tree → Type 0
AllWeights W (leaf (some p a)) = ((i : ℕ) → get_or p.coeffs i (pos 0) ≡ pos 0) × ((pos 0 ≤ℤ p.const) × (p.const ≤ℤ pos W))
AllWeights W (leaf forbidden) = ⊥
AllWeights W (branch t h l) = AllWeights W h × AllWeights W l

-- "a leaf "forbidden", allowed in rewards only": one stands in a diagram
abbrev pub HasForbidden : Tree → Type 0
HasForbidden (leaf (some p a)) = ⊥
HasForbidden (leaf forbidden) = Unit {0}
HasForbidden (branch t h l) = HasForbidden h ⊎ HasForbidden l

-- the facts are the diagram's
pub record Judges (W : ℕ) (f : Facts) (t : Tree) : Type 0 where
  pub next_step : T f.next_step ↔ HasLater t
  pub weights : T f.weights ↔ AllWeights W t
  pub forbids : T f.forbids ↔ HasForbidden t

-- .. one by one
abbrev pub JudgesAll : ℕ → List Facts → List Tree → Type 0
JudgesAll W [] [] = Unit {0}
JudgesAll W [] (t ∷ X) = ⊥
JudgesAll W (f ∷ K) [] = ⊥
JudgesAll W (f ∷ K) (t ∷ X) = Judges W f t × JudgesAll W K X

-- a test over its branches as they stand
abbrev pub as_written : Test → Tree → Tree → Comp Tree
as_written t h l = ret (branch t h l)

-- the stack, and what has been given, as the commands before an offset write it
pub data Writes (B : List ℕ) : ℕ → Loaded → Type 0 where
  writes_none : Writes B 0 (record { stack = []; entries = [] })
  writes_one : {at : ℕ} {u : Loaded} → Writes B at u → Writes B (at + width (byte_at B at)) (result (load_one_with as_written (command_at B at) u))
