-- "A peak for each action": the counts of needed nodes, each with the action whose operation it is of.
use Rattle.std.specs.Prelude.{List, [], ◌∷◌, ℕ, zero, suc, max, length, replicate}
use Rattle.theory.specs.Widths.{actions_most}
use Rattle.theory.specs.Computation.{result, enter_all, Ops, end, operation}
use Rattle.theory.specs.Stage.{all_stages}
use Rattle.theory.specs.Load.{load, model}
use Rattle.theory.specs.Events.{events, needed}

-- word a is at least n
unfoldable pub raise : ℕ → ℕ → List ℕ → List ℕ
raise a n [] = []
raise zero n (p ∷ P) = max p n ∷ P
raise (suc a) n (p ∷ P) = p ∷ raise a n P

-- "each the largest count of needed nodes over that action's operations in all stages"
unfoldable pub peaks_of : {A : Type 0} → List ℕ → Ops A → List ℕ
peaks_of P (end a) = P
peaks_of P (operation h roots c f) = peaks_of (raise h.action (length (needed (enter_all roots []) (events c))) P) (f (result c))

-- "loading, then actions 1 to A, zeros after"
unfoldable pub solved_peaks : List ℕ → ℕ → List ℕ
solved_peaks B H = peaks_of (length (needed [] (events (load B))) ∷ replicate actions_most 0) (all_stages (model B) H)

-- the largest of some words
unfoldable pub largest : List ℕ → ℕ
largest [] = 0
largest (p ∷ P) = max p (largest P)
