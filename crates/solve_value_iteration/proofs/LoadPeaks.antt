-- The peaks of loading and of stage 0.
use mathlib.Core.Path.{◌≡◌, sym, ap, ap₂, ◌∙◌}
use mathlib.Core.List.{List, [], ◌∷◌}
use Prim.Native.Nat.{ℕ, max}
use native.Mathlib.Omega.{arith}
use lib.ListN.{length, replicate, length-replicate}
use Rattle.theory.specs.Widths.{actions_most, peak_words}
use Rattle.theory.specs.Diagram.{Tree}
use Rattle.theory.specs.Computation.{done, run, make, enter_all}
use Rattle.theory.specs.Rules.{zero_leaf}
use Rattle.theory.specs.Meaning.{Model}
use Rattle.theory.specs.Load.{load, model}
use Rattle.theory.specs.Stage.{model_diagrams, stages_on, all_stages}
use Rattle.theory.specs.Peaks.{raise, peaks_of, solved_peaks}
use Rattle.theory.proofs.laws.Events.{run_done}
use Rattle.solve_laws.specs.Onward.{Works}
use Rattle.solve_laws.specs.Steps.{all_stages_is}

-- stage 0's leaf is of action 1
pub zero_counted : (M : Model) (H : ℕ) → M.end ≡ [] → (P : List ℕ) {N n : ℕ} {Z : Tree} → Works N (model_diagrams M) (make zero_leaf) Z n
    → peaks_of P (all_stages M H) ≡ peaks_of (raise 1 n P) (stages_on M H 1 (Z ∷ []) Z)
unfolding peaks_of
zero_counted M H none P {N} {n} {Z} e =
    let d = run_done N (make zero_leaf) (enter_all (model_diagrams M) []) e.nodes Z e.comes in
    ap (peaks_of P) (all_stages_is M H none)
    ∙ ap₂ (λ (k : ℕ) (t : Tree). peaks_of (raise 1 k P) (stages_on M H 1 (t ∷ []) t)) (ap length (sym d.1) ∙ e.count) (sym d.0)

-- loading's word, the others zero yet
first_word : (n : ℕ) → raise 0 n (replicate peak_words 0) ≡ n ∷ replicate actions_most 0
unfolding raise
first_word n = ap (λ (k : ℕ). k ∷ replicate actions_most 0) (let z : max 0 n ≡ n = omega arith in z)

pub loaded_counted : (B : List ℕ) (H N : ℕ) {n : ℕ} (X : List Tree) → run N (load B) [] ≡ done (model B) X → length X ≡ n → {P : List ℕ} → P ≡ raise 0 n (replicate peak_words 0)
    → peaks_of P (all_stages (model B) H) ≡ solved_peaks B H
unfolding solved_peaks
loaded_counted B H N {n} X e k p =
    let d = run_done N (load B) [] X (model B) e in
    ap (λ (Q : List ℕ). peaks_of Q (all_stages (model B) H)) (p ∙ (first_word n ∙ ap (λ (m : ℕ). m ∷ replicate actions_most 0) (sym k ∙ ap length d.1)))

-- as many words as there are
pub words_length : {P : List ℕ} → P ≡ replicate peak_words 0 → length P ≡ peak_words
words_length e = ap length e ∙ length-replicate {A = ℕ} peak_words 0
