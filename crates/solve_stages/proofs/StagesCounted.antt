-- An action's own run, from peak 0: its word and the one peak.
use mathlib.Core.Path.{◌≡◌, sym, ◌∙◌, subst}
use mathlib.Core.List.{List}
use Prim.Native.Nat.{ℕ, max, ◌≤◌}
use native.Mathlib.Omega.{arith}
use lib.IntN.{ℤ}
use Rattle.theory.specs.Diagram.{Tree}
use Rattle.theory.specs.Computation.{Ops}
use Rattle.theory.specs.Rules.{best}
use Rattle.theory.specs.Load.{model}
use Rattle.theory.specs.Peaks.{raise}
use Rattle.theory.specs.Widths.{nodes_most}
use Rattle.solve_laws.specs.Onward.{answered_ok}
use Rattle.solve_laws.specs.Peaks.{Own, own_then, own_operation, total_own, own_peaks, own_answered}
use Rattle.solve_total.specs.StageTable.{action_numbered, root_at, ActionRan}
use Rattle.solve_stages.specs.Stages.{bettered, joined, Counted}
use Rattle.solve_operation.specs.declared.Run.{Run}

-- the larger peak in its place
pub joined_as : (r own : Run) {k : ℕ} → k ≡ max r.peak own.peak → ◌≡◌ {A = Run} (record { stop = own.stop; count = own.count; peak = k }) (joined r own)
unfolding joined
joined_as r own e = λ i. record { stop = own.stop; count = own.count; peak = e i }

-- an action with the best so far: its operations are its own
pub bettered_own : (B : List ℕ) (h : ℕ) (P : Tree) (a : ℕ) (F : Tree) (K : List Tree) → Own a (bettered B h P a F K)
unfolding bettered
bettered_own B h P a F K = own_then a _ _ (total_own (model B) h _ P a (action_numbered B a)) (λ G. own_operation h a _ (best F G))

module _ {cap : ℕ} {l : List ℤ} {n : ℕ} {R : List ℕ} {held h : ℕ} {ops : List Tree → Ops Tree} {l' : List ℤ} {w' R' : List ℕ} {own : Run} (T : ActionRan cap 0 l n R held h ops l' w' R' own) where
  -- its peak fits a word
  pub own_fits : own.stop ≡ 0 → own.peak ≤ nodes_most
  own_fits ok = let a = T.fits ok (omega arith) in let b = (T.rooted ok).space.few in omega (arith, a, b)

  -- after a run with the peak so far
  pub action_counted : (a : ℕ) (r : Run) {P P' : List ℕ} {s : Run} → ((K : List Tree) → Own a (ops K)) → s ≡ joined r own → (own.stop ≡ 0 → P' ≡ raise a own.peak P)
      → Counted cap r.peak l n R held h ops P l' w' R' P' s
  unfolding joined
  action_counted a r {P} {P'} o e f = subst (Counted cap r.peak l n R held h ops P l' w' R' P') (sym e) (record {
    ran = record {
      outcome = λ K al. own_answered cap r.peak own.stop h (ops K) (root_at l' own.count R' held) own.peak (T.outcome K al);
      rooted = λ ok. T.rooted ok;
      fits = λ ok q. let a = T.fits ok (omega arith) in omega (arith, a, q);
    };
    peaks = λ ok K al. f ok ∙ sym (own_peaks cap a P (ops K) (o K) (T.outcome K al ∙ answered_ok own.stop h (root_at l' own.count R' held) own.peak ok));
  })
