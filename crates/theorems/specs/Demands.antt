-- The three demands and what goes with them, as types: each is proved in proofs/laws/Demands, and nothing is assumed.
use Rattle.std.specs.Prelude.{◌≡◌, ◌↔◌, ◌⊎◌, Bool, ℕ, suc, ◌*◌, ◌^◌, ◌≤◌, ◌<◌, T, ℤ, pos, nat_abs, ◌*ℤ◌, length}
use mathlib.Core.List.{List, [], ◌∷◌, ◌++◌, map, Memᴰ}
use Rattle.std.proofs.Common.{mul-pos}
use Rattle.std.proofs.Math.Nat.{one-le-pow}
use Rattle.whole.specs.Divisor.{Divides}
use Rattle.whole.specs.Numerator.{number}
use Rattle.theory.specs.Diagram.{Linear, linear, Tree, scale_list, ◌⊠◌, zeros, test_of}
use Rattle.theory.specs.Computation.{solved, refused, enter_all, result}
use Rattle.theory.specs.Rules.{side}
use Rattle.theory.specs.Total.{num, ◌⊏◌, Has}
use Rattle.theory.specs.Process.{Process, Policy, Action, optimum, lowest_best, expected, Sound}
use Rattle.theory.specs.Loss.{sum}
use Rattle.theory.specs.Meaning.{Model, State, action_at, env, worth_at, end_at, chance_at, weight, settings, moved, power, process}
use Rattle.theory.specs.Stage.{all_stages}
use Rattle.theory.specs.Verdict.{Progress, Verdict, verdict}
use Rattle.theory.specs.Load.{Loaded, load, model, spelled, site_at}
use Rattle.theory.specs.Solve.{solve_in, table_of, solved_stages, SolveOut, solve}
use Rattle.theory.specs.Value.{Asked, accepted, state_of, ValueOut, answered, value_of}
use Rattle.theory.specs.Plain.{plain_of}
use Rattle.theory.specs.Name.{Part, name_refusal, name_part}
use Rattle.theory.specs.Listing.{greatest_root, ListingOut, listing}
use Rattle.theory.specs.Rows.{Comes, VerdictRow, SolveRow, StateFits, ValueRow, PlainRow, NameRow, NamePartRow, ListingRow}
use Rattle.theory.specs.Events.{Event, events, Refused, Passes, needed, Distinct, RefusedAt, PassesAll, peak_of}
use Rattle.theorems.specs.Fraction.{Fraction, Equal, AtMost, plus, divided, weighed}
use Rattle.theorems.specs.Ordered.{Ordered, AllOrdered, ModelOrdered, replaced}
use Rattle.theorems.specs.Reduced.{Reduced}
use Rattle.theorems.specs.Written.{JudgesAll, Writes}

-- "a model is solved when solve's number is 0": bytes, horizon and tables of which that holds
pub record Solving : Type 0 where
  pub bytes : List ℕ
  pub horizon : ℕ
  pub nodes : List ℤ
  pub stages : List ℕ
  pub work : List ℕ
  pub peaks : List ℕ
  pub is : (solve bytes horizon nodes stages work peaks).number ≡ 0

module _ (g : Solving) where
  -- what solve leaves
  abbrev pub left : SolveOut
  left = solve g.bytes g.horizon g.nodes g.stages g.work g.peaks

  -- "A state is accepted when 13 does not apply"
  abbrev pub Accepted : Asked → Type 0
  Accepted q = T (accepted (site_at g.bytes).levels (site_at g.bytes).conditions q)

  -- the state that is asked for
  abbrev pub start : (q : Asked) → Accepted q → State
  start q t = state_of (site_at g.bytes).levels (site_at g.bytes).conditions q t

  -- the decision process of the model that is solved
  abbrev pub site : Process State ℕ (List Bool)
  site = process (model g.bytes)

  -- "the value read is the one returned with that model, its tables and 1 to horizon steps left"
  abbrev pub reading : ℕ → Asked → ValueOut
  reading h q = value_of g.bytes left.nodes left.stages h q

-- ---- demand 1, total: each call is given a row of "What a refusal gives", and the row decides
-- From right to left: whatever the bytes, the horizon, the tables and what is asked, the outcome is a row. From left to right: it is the only one, so that "No refusal is given outside its row", and the order is theirs.

-- the model's own numbers, 1 to 8
abbrev pub VerdictRows : Type 0
VerdictRows = (B : List ℕ) (v : Verdict) → VerdictRow B v ↔ (verdict B ≡ v)

-- "These rules judge each leaf and condition as written": wherever a command comes, the facts on the stack are those of the diagrams that the commands before it write
abbrev pub AsWritten : Type 0
AsWritten = (B : List ℕ) (at : ℕ) (s : Progress) → Comes B at s → (u : Loaded) × (Writes B at u × JudgesAll s.site.weights s.stack u.stack)

-- solve
abbrev pub SolveRows : Type 0
SolveRows = (B : List ℕ) (H : ℕ) (nodes : List ℤ) (stages work peaks : List ℕ) (o : SolveOut) → SolveRow B H nodes stages work peaks o ↔ (solve B H nodes stages work peaks ≡ o)

-- value
abbrev pub ValueRows : Type 0
ValueRows = (B : List ℕ) (nodes : List ℤ) (stages : List ℕ) (steps : ℕ) (q : Asked) (o : ValueOut) → ValueRow B nodes stages steps q o ↔ (value_of B nodes stages steps q ≡ o)

-- plain working
abbrev pub PlainRows : Type 0
PlainRows = (B : List ℕ) (steps : ℕ) (q : Asked) (o : ValueOut) → PlainRow B steps q o ↔ (plain_of B steps q ≡ o)

-- an action's name: "the refusal's number is had by a call of its own"
abbrev pub NameRows : Type 0
NameRows = (B : List ℕ) (a : ℕ) (v : Verdict) → NameRow B a v ↔ (name_refusal B a ≡ v)

-- the part of the model that a name is
abbrev pub NamePartRows : Type 0
NamePartRows = (B : List ℕ) (a : ℕ) (p : Part) → NamePartRow B a p ↔ (name_part B a ≡ p)

-- listing
abbrev pub ListingRows : Type 0
ListingRows = (B : List ℕ) (H : ℕ) (nodes : List ℤ) (stages buffer : List ℕ) (at : ℕ) (o : ListingOut)
    → ListingRow B H nodes stages buffer at o ↔ (listing B H nodes stages buffer at ≡ o)

-- ---- demands 2 and 3

-- Demand 2, exact: the value read is the best expected total, times D × W^(n×h), and the action the lowest that reaches it; "None" reads as numerator 0, action 0.
abbrev pub Exact : Type 0
Exact = (g : Solving) (h : ℕ) → 1 ≤ h → h ≤ g.horizon → (q : Asked) (t : Accepted g q)
    → reading g h q ≡ answered (optimum (site g) h (start g q t)) (lowest_best (site g) h (start g q t))

-- Demand 3, optimal, "claimed for states whose value is not none": the value read equals a policy's expected total exactly when the policy never picks a bettered action where it can get to with a step left; else the policy's is lower, or none, "which counts as lower".
abbrev pub Optimal : Type 0
Optimal = (g : Solving) (h : ℕ) → 1 ≤ h → h ≤ g.horizon → (q : Asked) (t : Accepted g q) → Has (optimum (site g) h (start g q t)) → (π : Policy (site g))
    → ((num (number (reading g h q).numerator) ≡ expected (site g) π h (start g q t)) ↔ Sound (site g) π h (start g q t))
    × ((Sound (site g) π h (start g q t) → ⊥) → expected (site g) π h (start g q t) ⊏ num (number (reading g h q).numerator))

-- ---- "The value that is meant"

-- "weight total W (1 to 100)"
module _ (M : Model) (W>0 : 1 ≤ M.weights) where
  -- "V_h(s)": the best expected total, over D × W^(n×h), or none
  abbrev pub meant : ℕ → State → Fraction
  meant h s = record { numerator = optimum (process M) h s; den = s.den * power M h; den>0 = mul-pos s.D>0 (one-le-pow (M.conditions * h) M.weights W>0) }

  -- "reward at s plus the sum, over all settings of the next conditions, of the setting's weight × V_(h−1) of the next state, divided by Wⁿ"
  abbrev pub formula : ℕ → State → ℕ → Fraction
  formula h s a = plus
      (record { numerator = worth_at (env s []) (action_at M a).reward; den = s.den; den>0 = s.D>0 })
      (divided
      (weighed (weight M.weights (map (chance_at (env s [])) (action_at M a).chances)) (λ r. meant h (moved s (action_at M a).levels r)) (settings M.conditions))
      (M.weights ^ M.conditions)
      (one-le-pow M.conditions M.weights W>0))

-- "V₀ is that diagram; without the command it is 0"
abbrev pub end_worth : Model → State → Fraction
end_worth M s = record { numerator = num (end_at (env s []) M.end); den = s.den; den>0 = s.D>0 }

-- "V₀ is that diagram"; "V_h(s) is the largest over the actions of" the formula: none is larger, and one is equal
abbrev pub Formula : Type 0
Formula = (M : Model) (w : 1 ≤ M.weights) (s : State) → Equal (meant M w 0 s) (end_worth M s) × ((h : ℕ)
    → ((a : ℕ) → Action (process M) a → AtMost (formula M w h s a) (meant M w (suc h) s))
    × ((a : ℕ) × (Action (process M) a × Equal (formula M w h s a) (meant M w (suc h) s))))

-- "The leaves of a chance are constants 0 to W": of an accepted model, at every state
abbrev pub ChancesWithin : Type 0
ChancesWithin = (B : List ℕ) → (verdict B).number ≡ 0 → (a : ℕ) → Action (process (model B)) a → (C : Tree) → Memᴰ C (action_at (model B) a).chances
    → (s : State) → (worth_at (env s []) C ≡ num (pos (chance_at (env s []) C * s.den))) × (chance_at (env s []) C ≤ (model B).weights)

-- "all weights of a state sum to Wⁿ"
abbrev pub WeightsSum : Type 0
WeightsSum = (B : List ℕ) → (verdict B).number ≡ 0 → (a : ℕ) → Action (process (model B)) a
    → (s : State) → sum ((process (model B)).weight a s) (process (model B)).settings ≡ (model B).weights ^ (model B).conditions

-- what is loaded means what the bytes spell: one decision process
abbrev pub SpelledSame : Type 0
SpelledSame = (B : List ℕ) → process (model B) ≡ process (spelled B)

-- ---- "Diagrams" and "Tables after solving"

-- g divides each number of a linear
abbrev pub DividesAll : ℕ → Linear → Type 0
DividesAll g p = (z : ℤ) → Memᴰ z (p.coeffs ++ (p.const ∷ [])) → Divides g (nat_abs z)

-- "A test is divided by the greatest common divisor of its nine numbers": p is g × the test's linear, g divides p's numbers, and whatever does divides g
abbrev pub TestsDivided : Type 0
TestsDivided = (p : Linear) → (T (zeros p.coeffs) → ⊥)
    → (g : ℕ) × ((q : Linear) × ((test_of p ≡ linear q) × ((pos g ⊠ q ≡ p) × (DividesAll g p × ((k : ℕ) → DividesAll k p → Divides k g)))))

-- "Down a path the order rises strictly .. A node whose branches are equal is that branch", and no low branch is parallel to its node: of each diagram that is loaded, and of each stage
abbrev pub LoadedOrdered : Type 0
LoadedOrdered = (B : List ℕ) → ModelOrdered (model B)

abbrev pub StagesOrdered : Type 0
StagesOrdered = (N : ℕ) (B : List ℕ) (H : ℕ) (S : List Tree) (peak : ℕ) → solve_in N B H ≡ solved S peak → AllOrdered S

-- .. and, with "Equal nodes are one node", of the words that solve leaves
abbrev pub TablesReduced : Type 0
TablesReduced = (g : Solving) → Reduced (left g).nodes (greatest_root g.horizon (left g).stages)

-- "a side has each node of that next-step condition replaced by its high (yes) or low branch": of an ordered diagram, that branch as it stands
abbrev pub SideLiteral : Type 0
SideLiteral = (b : Bool) (k : ℕ) (F : Tree) → Ordered F → result (side b k F) ≡ result (replaced b k F)

-- "The table holds the nodes of stages 1 to H and no others, numbered from 1: stage by stage": the greatest stage root is the number of nodes
abbrev pub TablesHold : Type 0
TablesHold = (N : ℕ) (B : List ℕ) (H : ℕ) (S : List Tree) (peak : ℕ) → solve_in N B H ≡ solved S peak → greatest_root H (solved_stages S) ≡ length (table_of S)

-- ---- 11, 12 and the peak

-- 11 or 12 with its place is given exactly where it is the first met, while loading or in an operation of the stages
abbrev pub FirstMet : Type 0
FirstMet = (N : ℕ) (B : List ℕ) (H r p : ℕ) → (verdict B).number ≡ 0
    → (solve_in N B H ≡ refused r p) ↔ ((Refused N [] (events (load B)) r × (p ≡ 0)) ⊎ (Passes N [] (events (load B)) × RefusedAt N (all_stages (model B) H) r p))

-- it is solved exactly where every operation passes, and the peak is the largest count of needed nodes
abbrev pub SolvedExactly : Type 0
SolvedExactly = (N : ℕ) (B : List ℕ) (H : ℕ) → (verdict B).number ≡ 0
    → ((S : List Tree) (peak : ℕ) → solve_in N B H ≡ solved S peak → peak ≡ peak_of (length (needed [] (events (load B)))) (all_stages (model B) H))
    × (((S : List Tree) × (peak : ℕ) × (solve_in N B H ≡ solved S peak)) ↔ (Passes N [] (events (load B)) × PassesAll N (all_stages (model B) H)))

-- "the distinct nodes .. with those that the operation's rules make"
abbrev pub CountsDistinct : Type 0
CountsDistinct = (roots : List Tree) (l : List Event) → Distinct (needed (enter_all roots []) l)

-- tables that hold the peak solve, with the same result; smaller ones are refused with 12
abbrev pub PeakDecides : Type 0
PeakDecides = (N : ℕ) (B : List ℕ) (H : ℕ) (S : List Tree) (peak : ℕ) → (verdict B).number ≡ 0 → solve_in N B H ≡ solved S peak
    → (peak ≤ N) × ((K : ℕ) → peak ≤ K → solve_in K B H ≡ solved S peak) × ((K : ℕ) → K < peak → (p : ℕ) × (solve_in K B H ≡ refused 12 p))

-- ---- "States and values"

-- "A state is accepted when 13 does not apply": its test is its row's condition
abbrev pub StateAccepted : Type 0
StateAccepted = (m n : ℕ) (q : Asked) → T (accepted m n q) ↔ StateFits m n q

-- "20/2 and 10/1 may give different numerators, never different values": one mask and the same fractions
abbrev pub SameValue : Type 0
SameValue = (g : Solving) (h : ℕ) → 1 ≤ h → h ≤ g.horizon → (q r : Asked) → Accepted g q → Accepted g r
    → q.mask ≡ r.mask → scale_list r.den q.nums ≡ scale_list q.den r.nums
    → (number (reading g h q).numerator *ℤ r.den ≡ number (reading g h r).numerator *ℤ q.den) × ((reading g h q).action ≡ (reading g h r).action)

-- plain working: "It answers with the same words and action as the tables, wherever both answer."
abbrev pub PlainAgrees : Type 0
PlainAgrees = (g : Solving) (h : ℕ) → 1 ≤ h → h ≤ g.horizon → (q : Asked)
    → (reading g h q).number ≡ 0 → (plain_of g.bytes h q).number ≡ 0 → plain_of g.bytes h q ≡ reading g h q
