-- A solve: the model loaded, the stages run, and what is left in the lent words.
use Rattle.std.specs.Prelude.{◌≡◌, Bool, List, [], ℕ, ℤ, pos, length, replicate}
use Rattle.std.proofs.Math.Path.{ap}
use Rattle.std.proofs.Common.{◌∙◌, eq-eqb, ne_eqb}
use Rattle.whole.specs.Cases.{if}
use Rattle.theory.specs.Diagram.{Tree}
use Rattle.theory.specs.Computation.{Out, done, stopped, run, solved, refused, run_all}
use Rattle.theory.specs.Meaning.{Model}
use Rattle.theory.specs.Verdict.{Verdict}
use Rattle.theory.specs.Load.{load}
use Rattle.theory.specs.Stage.{all_stages}
use Rattle.theory.specs.Peaks.{solved_peaks}
use Rattle.theory.specs.Solve.{room, solve_in, solved_nodes, solved_stages, solve_left, early_with_peaks, solve}

-- ---- in a table with room for N

module _ (N : ℕ) (B : List ℕ) (H : ℕ) where
  -- the model is loaded: the stages run, the model's nodes the first peak
  pub solve_loaded : (M : Model) (X : List Tree) → run N (load B) [] ≡ done M X → solve_in N B H ≡ run_all N (length X) (all_stages M H)
  unfolding solve_in
  solve_loaded M X e = ap (λ (o : Out Model). elim o [ done M X ↦ run_all N (length X) (all_stages M H) | stopped r ↦ refused r 0 ]) e

  -- or loading is refused, at place 0
  pub solve_unloaded : (r : ℕ) → run N (load B) [] ≡ stopped r → solve_in N B H ≡ refused r 0
  unfolding solve_in
  solve_unloaded r e = ap (λ (o : Out Model). elim o [ done M X ↦ run_all N (length X) (all_stages M H) | stopped r ↦ refused r 0 ]) e

-- ---- the outcome

module _ (B : List ℕ) (H : ℕ) (nodes : List ℤ) (stages work peaks : List ℕ) where
  abbrev v : Verdict
  v = early_with_peaks B H (length stages) (length peaks)

  -- refused early: all untouched
  pub solve_early : (v.number ≡ 0 → ⊥) → solve B H nodes stages work peaks
      ≡ record { number = v.number; place = v.place; peak = 0; nodes = nodes; stages = stages; work = work; peaks = peaks }
  unfolding solve
  solve_early e = ap (λ (b : Bool). if b (solve_left B H nodes stages work peaks (solve_in (room (length nodes) (length work)) B H))
      (record { number = v.number; place = v.place; peak = 0; nodes = nodes; stages = stages; work = work; peaks = peaks })) (ne_eqb v.number 0 e)

  module _ (e : v.number ≡ 0) where
    pub solve_passed : solve B H nodes stages work peaks ≡ solve_left B H nodes stages work peaks (solve_in (room (length nodes) (length work)) B H)
    unfolding solve
    solve_passed = ap (λ (b : Bool). if b (solve_left B H nodes stages work peaks (solve_in (room (length nodes) (length work)) B H))
        (record { number = v.number; place = v.place; peak = 0; nodes = nodes; stages = stages; work = work; peaks = peaks })) (eq-eqb v.number 0 e)

    -- solved: the tables and the peaks
    pub solve_solved : (S : List Tree) (peak : ℕ) → solve_in (room (length nodes) (length work)) B H ≡ solved S peak → solve B H nodes stages work peaks
        ≡ record { number = 0; place = 0; peak = peak; nodes = solved_nodes (length nodes) S; stages = solved_stages S; work = replicate (length work) 0; peaks = solved_peaks B H }
    unfolding solve_left
    solve_solved S peak q = solve_passed ∙ ap (solve_left B H nodes stages work peaks) q

    -- refused while it runs: all zero
    pub solve_refused : (r h : ℕ) → solve_in (room (length nodes) (length work)) B H ≡ refused r h → solve B H nodes stages work peaks
        ≡ record { number = r; place = h; peak = 0; nodes = replicate (length nodes) (pos 0); stages = replicate (length stages) 0; work = replicate (length work) 0; peaks = replicate (length peaks) 0 }
    unfolding solve_left
    solve_refused r h q = solve_passed ∙ ap (solve_left B H nodes stages work peaks) q
