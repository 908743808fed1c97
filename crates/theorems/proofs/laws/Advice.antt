-- The demands' theorems, at the answer read from the tables that a solve left.
use Rattle.std.specs.Prelude.{◌≡◌, refl, List, ℕ, ◌≤◌, ℤ, pos}
use Rattle.std.proofs.Common.{sym, ap, ◌∙◌, subst}
use Rattle.whole.specs.Numerator.{words}
use Rattle.theory.specs.Total.{Total, num, none}
use Rattle.theory.specs.Process.{optimum, lowest_best}
use Rattle.theory.specs.Meaning.{process}
use Rattle.theory.specs.Load.{model}
use Rattle.theory.specs.Solve.{SolveOut, solve}
use Rattle.theory.specs.Value.{Asked, ValueOut, refused_value, answered, value_of}
use Rattle.theorems.specs.Demands.{Solving}
use Rattle.theorems.proofs.laws.Demands as demands
use Rattle.theorems.proofs.laws.Forbidden as forbidden
use Rattle.theorems.proofs.laws.Override as overrides
use Rattle.theorems.specs.Advice.{Left, start, Exact, Optimal, ReadsNone, Override, Advises}

-- the numerator is that of the total, whatever the action
any_action : (x : Total) (a : ℕ) → (answered x a).numerator ≡ (answered x 0).numerator
unfolding answered
any_action (num z) a = refl
any_action none a = refl

-- no total is refused
no_refusal_answered : (x : Total) (a : ℕ) → ((answered x a).number ≡ 0) × ((answered x a).place ≡ 0)
unfolding answered
no_refusal_answered (num z) a = (refl, refl)
no_refusal_answered none a = (refl, refl)

-- solved
module _ (B : List ℕ) (H : ℕ) (nodes : List ℤ) (stages work peaks : List ℕ) (is : (solve B H nodes stages work peaks).number ≡ 0) (h : ℕ) (low : 1 ≤ h) (high : h ≤ H) (q : Asked) where
  abbrev solving : Solving
  solving = record { bytes = B; horizon = H; nodes = nodes; stages = stages; work = work; peaks = peaks; is = is }

  abbrev read : ValueOut
  read = value_of B (solve B H nodes stages work peaks).nodes (solve B H nodes stages work peaks).stages h q

  read_exact : Exact B h q read
  read_exact = record {
    no_refusal = λ t.
        let n = no_refusal_answered (optimum (process (model B)) h (start B h q read t)) (lowest_best (process (model B)) h (start B h q read t)) in
        (ap (λ (v : ValueOut). v.number) (demands.exact solving h low high q t) ∙ n.0, ap (λ (v : ValueOut). v.place) (demands.exact solving h low high q t) ∙ n.1);
    value = λ t. ap (λ (v : ValueOut). v.numerator) (demands.exact solving h low high q t) ∙ any_action _ _;
    action = λ t. ap (λ (v : ValueOut). v.action) (demands.exact solving h low high q t);
  }

  read_optimal : Optimal B h q read
  read_optimal = record {
    equal = λ t has π. (demands.optimal solving h low high q t has π).0;
    lower = λ t has π. (demands.optimal solving h low high q t has π).1;
  }

  read_none : ReadsNone B h q read
  read_none = record { exactly = λ t. (forbidden.none_read solving h low high q t).1 }

  read_override : Override B h q read
  read_override = record {
    loses = overrides.override_loses solving h low high q;
    falls_short = overrides.override_falls_short solving h low high q;
    loses_nothing = overrides.override_loses_nothing solving h low high q;
    loses_at_most = overrides.override_loses_at_most solving h low high q;
  }

  module _ {l : List ℤ} {s w k : List ℕ} (L : Left (solve B H nodes stages work peaks) l s w k) (v : ValueOut) (e : v ≡ value_of B l s h q) where
    same_read : read ≡ v
    same_read = (ap (λ (x : List ℤ). value_of B x (solve B H nodes stages work peaks).stages h q) (sym L.nodes_left) ∙ ap (λ (x : List ℕ). value_of B l x h q) (sym L.stages_left)) ∙ sym e

    advised_exact : Exact B h q v
    advised_exact = subst (Exact B h q) same_read read_exact

    advised_optimal : Optimal B h q v
    advised_optimal = subst (Optimal B h q) same_read read_optimal

    advised_none : ReadsNone B h q v
    advised_none = subst (ReadsNone B h q) same_read read_none

    advised_override : Override B h q v
    advised_override = subst (Override B h q) same_read read_override

-- what a solve answered with and left
module _ (B : List ℕ) (H : ℕ) (nodes : List ℤ) (stages work peaks : List ℕ) {k p peak : ℕ} {l : List ℤ} {s w m : List ℕ}
    (e : record { number = k; place = p; peak = peak; nodes = l; stages = s; work = w; peaks = m } ≡ solve B H nodes stages work peaks) where
  left : Left (solve B H nodes stages work peaks) l s w m
  left = record { nodes_left = ap (λ (o : SolveOut). o.nodes) e; stages_left = ap (λ (o : SolveOut). o.stages) e; work_left = ap (λ (o : SolveOut). o.work) e; peaks_left = ap (λ (o : SolveOut). o.peaks) e }

  number_left : k ≡ (solve B H nodes stages work peaks).number
  number_left = ap (λ (o : SolveOut). o.number) e

  -- its refusal, given on
  pub refusal_given : (h : ℕ) (q : Asked) → (k ≡ 0 → ⊥) → Advises B H nodes stages work peaks h q l s w m (record { number = k; place = p; action = 0; numerator = record { low = 0; high = pos 0 } })
  unfolding words
  refusal_given h q n = record {
    tables = left;
    refused = λ _ i. refused_value (number_left i) (ap (λ (o : SolveOut). o.place) e i);
    read = λ z. absurd (n (number_left ∙ z));
    exact = λ z. absurd (n (number_left ∙ z));
    optimal = λ z. absurd (n (number_left ∙ z));
    reads_none = λ z. absurd (n (number_left ∙ z));
    override = λ z. absurd (n (number_left ∙ z));
  }

  -- the value read from the tables that it left
  pub value_given : (h : ℕ) (q q' : Asked) (v : ValueOut) → k ≡ 0 → q' ≡ q → v ≡ value_of B l s h q' → Advises B H nodes stages work peaks h q l s w m v
  value_given h q q' v z f r' = let r = r' ∙ ap (value_of B l s h) f in record {
    tables = left;
    refused = λ n. absurd (n (sym number_left ∙ z));
    read = λ _. r;
    exact = λ y a b. advised_exact B H nodes stages work peaks y h a b q left v r;
    optimal = λ y a b. advised_optimal B H nodes stages work peaks y h a b q left v r;
    reads_none = λ y a b. advised_none B H nodes stages work peaks y h a b q left v r;
    override = λ y a b. advised_override B H nodes stages work peaks y h a b q left v r;
  }
