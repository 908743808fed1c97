-- What is claimed of paths that no state can take, as types: each is proved in proofs/laws/Statements.
use Rattle.std.specs.Prelude.{◌≡◌, List, ℕ, ◌≤◌, T, ℤ, length}
use Rattle.theory.specs.Diagram.{Tree}
use Rattle.theory.specs.Meaning.{Env}
use Rattle.theory.specs.Load.{site_at}
use Rattle.theory.specs.Value.{Asked, value_of}
use Rattle.theory.specs.Listing.{greatest_root}
use Rattle.theory.specs.Rows.{Range, NodeFits}
use Rattle.theorems.specs.Demands.{Solving, left}
use Rattle.theorems.specs.Advice.{Exact, Optimal, ReadsNone, Override}
use Rattle.prune_paths.specs.Prune.{along, proves, takes, prune}

-- "Paths that no state can take": no state takes every turn of an accepted one
abbrev pub NoStateTakes : Type 0
NoStateTakes = (e : Env) (turns : List ℕ) (F : Tree) (ks : List ℤ) → T (proves (along turns F) ks) → T (takes e turns F) → ⊥

-- "Every state then reads the same value and action as before": whoever wrote the tables, in every stage, accepted or refused
abbrev pub SameReading : Type 0
SameReading = (B : List ℕ) (nodes : List ℤ) (stages work : List ℕ) (s : ℕ) (turns : List ℕ) (ks : List ℤ) (h : ℕ) (q : Asked)
    → let o = prune B nodes stages work s turns ks in
    value_of B o.nodes o.stages h q ≡ value_of B nodes stages h q

-- tables after any number of calls, each with any work words, stage, turns and multipliers
pub data After (B : List ℕ) (nodes : List ℤ) (stages : List ℕ) : List ℤ → List ℕ → Type 0 where
  as_given : After B nodes stages nodes stages
  then_pruned : {W : List ℤ} {S : List ℕ} → After B nodes stages W S → (work : List ℕ) (s : ℕ) (turns : List ℕ) (ks : List ℤ)
      → After B nodes stages (prune B W S work s turns ks).nodes (prune B W S work s turns ks).stages

-- so demands 2 and 3, K8's none and K11's losses hold of what is read after any number of calls
abbrev pub DemandsHold : Type 0
DemandsHold = (g : Solving) (W : List ℤ) (S : List ℕ) → After g.bytes (left g).nodes (left g).stages W S → (h : ℕ) (q : Asked) → 1 ≤ h → h ≤ g.horizon
    → let v = value_of g.bytes W S h q in
    Exact g.bytes h q v × (Optimal g.bytes h q v × (ReadsNone g.bytes h q v × Override g.bytes h q v))

-- "12, which counts the nodes up to that root and one for each turn but the last": what is made fits, so that as many words are left as were lent
abbrev pub AllFits : Type 0
AllFits = (B : List ℕ) (nodes : List ℤ) (stages work : List ℕ) (s : ℕ) (turns : List ℕ) (ks : List ℤ)
    → let o = prune B nodes stages work s turns ks in
    (length o.nodes ≡ length nodes) × ((length o.stages ≡ length stages) × (length o.work ≡ length work))

-- the tables that an accepted path leaves pass 14
abbrev pub StillGood : Type 0
StillGood = (B : List ℕ) (nodes : List ℤ) (stages work : List ℕ) (s : ℕ) (turns : List ℕ) (ks : List ℤ)
    → let o = prune B nodes stages work s turns ks in
    o.number ≡ 0 → (r : ℕ) → Range 1 (greatest_root 8 o.stages) r → NodeFits (site_at B).conditions (site_at B).actions o.nodes r
