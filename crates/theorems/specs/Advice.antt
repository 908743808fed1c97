-- Demands 2 and 3, K8's none and K11's losses, said of one answer at one state.
use Rattle.std.specs.Prelude.{◌≡◌, ◌↔◌, List, ℕ, ◌≤◌, T, ℤ}
use Rattle.whole.specs.Numerator.{number}
use Rattle.theory.specs.Total.{num, none, ◌⊏◌, Has}
use Rattle.theory.specs.Process.{Policy, optimum, lowest_best, expected, Sound, Stopped}
use Rattle.theory.specs.Meaning.{State, process}
use Rattle.theory.specs.Load.{model, site_at}
use Rattle.theory.specs.Solve.{SolveOut, solve}
use Rattle.theory.specs.Value.{Asked, accepted, state_of, ValueOut, refused_value, answered, value_of}
use Rattle.theorems.specs.Override.{Loses, FallsShort, LosesNothing, LosesAtMost}

-- the lent words, as a solve leaves them
pub record Left (o : SolveOut) (nodes : List ℤ) (stages work peaks : List ℕ) : Type 0 where
  pub nodes_left : nodes ≡ o.nodes
  pub stages_left : stages ≡ o.stages
  pub work_left : work ≡ o.work
  pub peaks_left : peaks ≡ o.peaks

module _ (B : List ℕ) (h : ℕ) (q : Asked) (v : ValueOut) where
  -- "A state is accepted when 13 does not apply"
  abbrev pub Accepted : Type 0
  Accepted = T (accepted (site_at B).levels (site_at B).conditions q)

  -- the state that is asked for
  abbrev pub start : Accepted → State
  start t = state_of (site_at B).levels (site_at B).conditions q t

  -- "the value read is exactly the best expected total", times D × W^(n×h), "and the action the lowest-numbered one that reaches it"; ""None" reads as numerator 0, action 0"
  pub record Exact : Type 0 where
    pub no_refusal : Accepted → (v.number ≡ 0) × (v.place ≡ 0)
    pub value : (t : Accepted) → v.numerator ≡ (answered (optimum (process (model B)) h (start t)) 0).numerator
    pub action : (t : Accepted) → v.action ≡ (answered (optimum (process (model B)) h (start t)) (lowest_best (process (model B)) h (start t))).action

  -- "the value read equals the policy's expected total .. exactly when the policy picks, at every state it reaches .. and a step left, an action that no other betters there; in every other case the policy's total is lower", or none; "claimed for states whose value is not none"
  pub record Optimal : Type 0 where
    pub equal : (t : Accepted) → Has (optimum (process (model B)) h (start t)) → (π : Policy (process (model B)))
        → (num (number v.numerator) ≡ expected (process (model B)) π h (start t)) ↔ Sound (process (model B)) π h (start t)
    pub lower : (t : Accepted) → Has (optimum (process (model B)) h (start t)) → (π : Policy (process (model B)))
        → (Sound (process (model B)) π h (start t) → ⊥) → expected (process (model B)) π h (start t) ⊏ num (number v.numerator)

  -- "A state has the value "none" exactly when no policy gets from it through its steps without a chance above zero of a forbidden action."
  pub record ReadsNone : Type 0 where
    pub exactly : (t : Accepted) → (v ≡ answered none 0) ↔ ((π : Policy (process (model B))) → Stopped (process (model B)) π h (start t))

  -- "the value less the policy's total is exactly the expected sum, over the steps, of what its action falls short of the best there", each term of it, and what follows
  pub record Override : Type 0 where
    pub loses : (t : Accepted) → Loses (model B) h (start t) (number v.numerator)
    pub falls_short : (t : Accepted) → FallsShort (model B) h (start t) (number v.numerator)
    pub loses_nothing : (t : Accepted) → LosesNothing (model B) h (start t) (number v.numerator)
    pub loses_at_most : (t : Accepted) → LosesAtMost (model B) h (start t) (number v.numerator)

-- a call that solves B for the horizon H in lent tables, then reads at q with h steps left, and leaves the tables as nodes', stages', work' and peaks'
pub record Advises (B : List ℕ) (H : ℕ) (nodes : List ℤ) (stages work peaks : List ℕ) (h : ℕ) (q : Asked) (nodes' : List ℤ) (stages' work' peaks' : List ℕ) (v : ValueOut) : Type 0 where
  -- every lent word is as solving leaves it
  pub tables : Left (solve B H nodes stages work peaks) nodes' stages' work' peaks'
  -- a refusal of solving is given on
  pub refused : ((solve B H nodes stages work peaks).number ≡ 0 → ⊥) → v ≡ refused_value (solve B H nodes stages work peaks).number (solve B H nodes stages work peaks).place
  -- "a model is solved when solve's number is 0": the value is read from the tables that solving wrote
  pub read : (solve B H nodes stages work peaks).number ≡ 0 → v ≡ value_of B nodes' stages' h q
  -- demand 2
  pub exact : (solve B H nodes stages work peaks).number ≡ 0 → 1 ≤ h → h ≤ H → Exact B h q v
  -- demand 3
  pub optimal : (solve B H nodes stages work peaks).number ≡ 0 → 1 ≤ h → h ≤ H → Optimal B h q v
  -- K8
  pub reads_none : (solve B H nodes stages work peaks).number ≡ 0 → 1 ≤ h → h ≤ H → ReadsNone B h q v
  -- K11
  pub override : (solve B H nodes stages work peaks).number ≡ 0 → 1 ≤ h → h ≤ H → Override B h q v
