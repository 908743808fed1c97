-- 11 and 12 by what is met first, and the peak by what is counted: each operation begins with nodes that are there.
use Rattle.std.specs.Prelude.{◌≡◌, [], ℕ, leb, length}
use Rattle.std.proofs.Common.{sym, ap, ◌∙◌, subst, inl, inr, ⊎_elim, arith, leb→le}
use Rattle.std.proofs.Math.Dec.{nleb→lt}
use Rattle.whole.specs.Cases.{by_test}
use Rattle.theory.specs.Computation.{final, refused}
use Rattle.theory.specs.Stage.{all_stages}
use Rattle.theory.specs.Load.{load, model}
use Rattle.theory.specs.Solve.{solve_in}
use Rattle.theory.specs.Events.{events, Refused, peak_of}
use Rattle.theory.proofs.laws.Events.{run_refused, exceeds}
use Rattle.theory.proofs.laws.Refusals.{loaded, run_all_refused, solved_passes, passes_solved, peak_above, run_all_peak, solve_loaded, solve_stopped, solve_cases, solve_passes}
use Rattle.theory.proofs.laws.Chain.{all_chained}
use Rattle.theorems.specs.Demands.{FirstMet, SolvedExactly, PeakDecides}

pub first_met : FirstMet
first_met N B H r p v = (
  λ e. ⊎_elim
      (λ d. inr (d.0, (run_all_refused N (length (loaded B)) (loaded B) (all_stages (model B) H) r p (all_chained B H v) d.0.1).0 (sym d.1 ∙ e)))
      (λ d.
      let i = d.1.1 in
      let j : d.0 ≡ r = cc in
      inl (subst (Refused N [] (events (load B))) j d.1.0, (cc)))
      (solve_cases N B H),
  ⊎_elim
      (λ d. solve_stopped N B H r ((run_refused N (load B) [] r (omega arith)).1 d.0) ∙ ap (refused r) (sym d.1))
      (λ d. solve_loaded N B H d.0
      ∙ (run_all_refused N (length (loaded B)) (loaded B) (all_stages (model B) H) r p (all_chained B H v) d.0.1).1 d.1),
)

pub solved_exactly : SolvedExactly
solved_exactly N B H v = (
  λ S peak e.
      let d = solve_passes N B H S peak e in
      (solved_passes N (length (loaded B)) (loaded B) (all_stages (model B) H) S peak (all_chained B H v) d.0.1 d.1).2,
  (
    λ s.
        let d = solve_passes N B H s.0 s.1 s.2 in
        (d.0, (solved_passes N (length (loaded B)) (loaded B) (all_stages (model B) H) s.0 s.1 (all_chained B H v) d.0.1 d.1).0),
    λ d. (
      final (all_stages (model B) H),
      peak_of (length (loaded B)) (all_stages (model B) H),
      solve_loaded N B H d.0 ∙ passes_solved N (length (loaded B)) (all_stages (model B) H) d.1,
    ),
  ),
)

pub peak_decides : PeakDecides
peak_decides N B H S peak v e =
    let L = loaded B in
    let d = solve_passes N B H S peak e in
    let w = d.0.0 in
    let s = solved_passes N (length L) L (all_stages (model B) H) S peak (all_chained B H v) d.0.1 d.1 in
    let a = peak_above (length L) (all_stages (model B) H) in
    let i = s.2 in
    let r = run_all_peak N (length L) L (all_stages (model B) H) S peak (all_chained B H v) (omega arith) d.0.1 d.1 in (
      r.0,
      (λ K k. solve_loaded K B H (w, (omega arith)) ∙ r.1 K k),
      (λ K k. by_test (leb (length L) K) (λ _. (p : ℕ) × (solve_in K B H ≡ refused 12 p))
          (λ t.
          let o = leb→le (length L) K t in
          let q = r.2 K k o in
          (q.0, solve_loaded K B H (w, o) ∙ q.1))
          (λ t. (0, solve_stopped K B H 12 ((run_refused K (load B) [] 12 (omega arith)).1 (exceeds K [] (events (load B)) (omega arith) w (nleb→lt (length L) K t)))))),
    )
