-- "Actions that are not permitted", as types: each is proved in proofs/laws/Forbidden.
use Rattle.std.specs.Prelude.{◌≡◌, ◌↔◌, ℕ, ◌≤◌, ◌<◌}
use mathlib.Core.List.{List, [], Memᴰ}
use Rattle.theory.specs.Diagram.{forbidden}
use Rattle.theory.specs.Total.{Total, none, ◌⊏◌, Has}
use Rattle.theory.specs.Process.{Process, Policy, total, optimum, expected, Stopped}
use Rattle.theory.specs.Meaning.{State, action_at, env, at, process}
use Rattle.theory.specs.Verdict.{verdict}
use Rattle.theory.specs.Load.{model, site_at}
use Rattle.theory.specs.Value.{Asked, ValueOut, answered}
use Rattle.theorems.specs.Demands.{Solving, Accepted, start, site, reading}

-- ""None" reads as numerator 0, action 0": no refusal
abbrev pub reads_none : ValueOut
reads_none = answered none 0

-- "A state has the value "none" exactly when no policy gets from it through its steps without a chance above zero of a forbidden action": so it is read; any other value has one of the actions
abbrev pub NoneExactly : Type 0
NoneExactly = (g : Solving) (h : ℕ) → 1 ≤ h → h ≤ g.horizon → (q : Asked) (t : Accepted g q)
    → ((optimum (site g) h (start g q t) ≡ none) ↔ ((π : Policy (site g)) → Stopped (site g) π h (start g q t)))
    × ((reading g h q ≡ reads_none) ↔ ((π : Policy (site g)) → Stopped (site g) π h (start g q t)))
    × ((reading g h q ≡ reads_none → ⊥) → (1 ≤ (reading g h q).action) × ((reading g h q).action ≤ (site_at g.bytes).actions))

-- "Command 13 pushes a leaf "forbidden", allowed in rewards only": of an accepted model, an action is not permitted exactly where its reward comes to that leaf
abbrev pub ForbiddenExactly : Type 0
ForbiddenExactly = (B : List ℕ) → (verdict B).number ≡ 0 → (h a : ℕ) (s : State)
    → ((process (model B)).reward h a s ≡ none) ↔ (at (env s []) (action_at (model B) a).reward ≡ forbidden)

module _ {S A E : Type 0} (P : Process S A E) where
  -- "a policy with a chance above zero of a forbidden action has no total", and no other
  abbrev pub NoTotalExactly : Type 0
  NoTotalExactly = (π : Policy P) (h : ℕ) (s : S) → (expected P π h s ≡ none) ↔ Stopped P π h s

  -- "A next state of weight 0 never makes a value none": it does not count at all
  abbrev pub WeightZero : Type 0
  WeightZero = (f g : S → Total) (h : ℕ) (a : A) (s : S)
      → ((e : E) → Memᴰ e P.settings → 0 < P.weight a s e → f (P.next a s e) ≡ g (P.next a s e)) → total P f h a s ≡ total P g h a s

  -- "an action that has a total betters each that has none"
  abbrev pub TotalBetters : Type 0
  TotalBetters = (h : ℕ) (s : S) (a b : A) → Has (total P (optimum P h) h a s) → total P (optimum P h) h b s ≡ none → total P (optimum P h) h b s ⊏ total P (optimum P h) h a s
