-- The stages up to a horizon: each one's root stands behind the model's, stage 0's and those before it.
use mathlib.Core.Path.{◌≡◌, refl, sym, ap, ap₂, ◌∙◌, subst}
use mathlib.Core.List.{List, [], ◌∷◌, ◌++◌, append_assoc}
use Prim.Native.Nat.{ℕ, suc, ◌+◌, ◌-◌, ◌≤◌, ◌<◌}
use native.Mathlib.Numerals.{add-one}
use native.Mathlib.Omega.{arith}
use lib.IntN.{ℤ}
use lib.ListN.{length, get_or, take, drop, length-append}
use lib.Seq.{length-take-le, take_all, take-add, drop_at, get_or_at}
use Rattle.theory.specs.Widths.{steps_most}
use Rattle.theory.specs.Diagram.{Tree}
use Rattle.theory.specs.Computation.{solved, run_all}
use Rattle.theory.specs.Load.{model}
use Rattle.theory.specs.Stage.{model_diagrams, stage_over, stages_on}
use Rattle.theory.specs.Peaks.{peaks_of}
use Rattle.rule_node.specs.Nodes.{blank, trees}
use Rattle.collect_mark.specs.Mark.{roots_of}
use Rattle.solve_laws.specs.Alike.{Alike, alike_trans, alike_eq, alike_turn}
use Rattle.solve_laws.specs.Onward.{answered, answered_ok, answered_no}
use Rattle.solve_laws.specs.Roots.{roots_length, roots_append}
use Rattle.solve_laws.specs.Steps.{behind, behind_none, stages_done}
use Rattle.solve_laws.specs.Loops.{stage_done, stage_refused}
use Rattle.solve_laws.specs.Peaks.{stages_peaks}
use Rattle.solve_operation.specs.Operation.{held_trees, Standing}
use Rattle.solve_total.specs.StageTable.{model_size, StageReady, Due, root_at, ActionRan}
use Rattle.solve_stages.specs.Stages.{Counted, Staged}
use Rattle.solve_operation.specs.declared.Run.{Run}
use Rattle.solve_total.proofs.Roots.{held_length}
use Rattle.solve_stages.proofs.StagesHeld.{held_more, held_take, ready_next}
use Rattle.solve_stages.proofs.StagesBetter.{alike_front}
use Rattle.solve_stages.proofs.StagesOthers.{stage_first}

-- the model's diagrams are as many as its roots
model_length : {B : List ℕ} {cap : ℕ} {l : List ℤ} {w : List ℕ} {n : ℕ} {R : List ℕ} {held : ℕ} → StageReady B cap l w n R held → length (model_diagrams (model B)) ≡ model_size B
model_length {B} {l = l} {n = n} {R = R} {held = held} D =
    let e = held_length l n R held D.standing.few in
    let f = D.first in
    ap length (sym D.models) ∙ length-take-le (model_size B) (held_trees l n R held) (omega arith)

-- no stage is left: no more peaks
stages_counted_all : (B : List ℕ) (h : ℕ) (finished : List Tree) (P : Tree) (Q : List ℕ) → peaks_of Q (stages_on (model B) 0 h finished P) ≡ Q
unfolding stages_on peaks_of
stages_counted_all B h finished P Q = refl

-- stages 1 to h are there, Z stage 0
pub record Staging (B : List ℕ) (cap H : ℕ) (l₀ : List ℤ) (R₀ : List ℕ) (size : ℕ) (r₀ : Run) (P₀ : List ℕ) (l : List ℤ) (w R : List ℕ) (r : Run) (P : List ℕ) (h : ℕ) : Type 0 where
  pub stages : List Tree
  pub finished : List Tree
  pub before : Tree
  pub ok : r.stop ≡ 0
  pub high : h ≤ H
  pub place : size ≡ model_size B
  pub ready : StageReady B cap l w r.count R (size + h + 1)
  pub roots : held_trees l r.count R (size + h + 1) ≡ model_diagrams (model B) ++ (root_at l₀ r₀.count R₀ (model_size B) ∷ stages)
  pub alike : Alike (model_diagrams (model B) ++ (root_at l₀ r₀.count R₀ (model_size B) ∷ stages)) (finished ++ model_diagrams (model B))
  pub last : get_or (held_trees l r.count R (size + h + 1)) (size + h) blank ≡ before
  pub left : run_all cap r₀.peak (stages_on (model B) H 1 (root_at l₀ r₀.count R₀ (model_size B) ∷ []) (root_at l₀ r₀.count R₀ (model_size B)))
      ≡ behind stages (run_all cap r.peak (stages_on (model B) (H - h) (suc h) finished before))
  pub counts : peaks_of P₀ (stages_on (model B) H 1 (root_at l₀ r₀.count R₀ (model_size B) ∷ []) (root_at l₀ r₀.count R₀ (model_size B))) ≡ peaks_of P (stages_on (model B) (H - h) (suc h) finished before)

-- stage 0 is the root behind the model's
module _ {B : List ℕ} {cap : ℕ} (H : ℕ) {l : List ℤ} {w R : List ℕ} {size : ℕ} (r : Run) (D : StageReady B cap l w r.count R (suc (model_size B))) (e : size ≡ model_size B) where
  few : model_size B < length R
  few = D.standing.few

  models : held_trees l r.count R (model_size B) ≡ model_diagrams (model B)
  models =
      let z : length (held_trees l r.count R (model_size B)) ≡ model_size B = held_length l r.count R (model_size B) (let q = few in omega arith) in
      sym (take_all (model_size B) (held_trees l r.count R (model_size B)) (omega arith))
      ∙ (sym (held_take l r.count R (model_size B) (model_size B) few (omega arith))
      ∙ (ap (λ (k : ℕ). take (model_size B) (held_trees l r.count R k)) (add-one (model_size B)) ∙ D.models))

  held : suc (model_size B) ≡ size + 0 + 1
  held = omega arith

  zeroth : held_trees l r.count R (size + 0 + 1) ≡ model_diagrams (model B) ++ (root_at l r.count R (model_size B) ∷ [])
  zeroth =
      ap (λ (k : ℕ). held_trees l r.count R k) (sym held ∙ sym (add-one (model_size B)))
      ∙ (held_more l r.count R (model_size B) few ∙ ap (λ (X : List Tree). X ++ (root_at l r.count R (model_size B) ∷ [])) models)

  pub staging_starts : (P : List ℕ) → r.stop ≡ 0 → Staging B cap H l R size r P l w R r P 0
  staging_starts P ok =
      let Z = root_at l r.count R (model_size B) in
      record {
        stages = [];
        finished = Z ∷ [];
        before = Z;
        ok = ok;
        high = omega arith;
        place = e;
        ready = subst (StageReady B cap l w r.count R) held D;
        roots = zeroth;
        alike = alike_turn (model_diagrams (model B)) (Z ∷ []);
        last = ap (λ (X : List Tree). get_or X (size + 0) blank) zeroth ∙ get_or_at (model_diagrams (model B)) Z [] blank (size + 0) (model_length D ∙ (let z : model_size B ≡ size + 0 = omega arith in z));
        left = sym (behind_none (run_all cap r.peak (stages_on (model B) H 1 (Z ∷ []) Z)))
            ∙ ap (λ (k : ℕ). behind [] (run_all cap r.peak (stages_on (model B) k 1 (Z ∷ []) Z))) (let z : H ≡ H - 0 = omega arith in z);
        counts = ap (λ (k : ℕ). peaks_of P (stages_on (model B) k 1 (Z ∷ []) Z)) (let z : H ≡ H - 0 = omega arith in z);
      }

module _ {B : List ℕ} {cap H : ℕ} {l₀ : List ℤ} {R₀ : List ℕ} {size : ℕ} {r₀ : Run} {P₀ : List ℕ} {l : List ℤ} {w R : List ℕ} {r : Run} {P : List ℕ} {h : ℕ} (Y : Staging B cap H l₀ R₀ size r₀ P₀ l w R r P h) where
  -- the first action's backup in the next stage
  pub staging_due : {k : ℕ} → k ≤ size + h → h < H → H ≤ steps_most → model_size B + H + 2 ≤ length R → Due B cap l w r.count R (size + h + 1) (record { held = size + h + 1; before = k; stage = h + 1; action = 1 })
  staging_due p q few room = record {
    ready = Y.ready;
    room = let z = Y.place in omega arith;
    earlier = omega arith;
    few_stages = omega arith;
    some_action = omega arith;
    an_action = stage_first Y.ready;
  }

  -- the next stage
  module _ (q : h < H) {l' : List ℤ} {w' R' P' : List ℕ} {r' : Run}
      (C : Counted cap r.peak l r.count R (size + h + 1) (h + 1) (λ K. stage_over (model B) (h + 1) K (get_or (held_trees l r.count R (size + h + 1)) (size + h) blank)) P l' w' R' P' r') where
    abbrev T : ActionRan cap r.peak l r.count R (size + h + 1) (h + 1) (λ K. stage_over (model B) (h + 1) K (get_or (held_trees l r.count R (size + h + 1)) (size + h) blank)) l' w' R' r'
    T = C.ran

    step : run_all cap r.peak (stage_over (model B) (suc h) (Y.finished ++ model_diagrams (model B)) Y.before) ≡ answered r'.stop (h + 1) (root_at l' r'.count R' (size + h + 1)) r'.peak
    step =
        ap₂ (λ (i : ℕ) (P : Tree). run_all cap r.peak (stage_over (model B) i (Y.finished ++ model_diagrams (model B)) P)) (sym (add-one h)) (sym Y.last)
        ∙ T.outcome (Y.finished ++ model_diagrams (model B)) (alike_trans (alike_eq Y.roots) Y.alike)

    more : run_all cap r₀.peak (stages_on (model B) H 1 (root_at l₀ r₀.count R₀ (model_size B) ∷ []) (root_at l₀ r₀.count R₀ (model_size B)))
        ≡ behind Y.stages (run_all cap r.peak (stages_on (model B) (suc (H - (h + 1))) (suc h) Y.finished Y.before))
    more = Y.left ∙ ap (λ (k : ℕ). behind Y.stages (run_all cap r.peak (stages_on (model B) k (suc h) Y.finished Y.before))) (let z : H - h ≡ suc (H - (h + 1)) = omega arith in z)

    pub staging_stops : (r'.stop ≡ 0 → ⊥) → Staged B cap r₀.peak H l₀ r₀.count R₀ P₀ l' w' R' P' (record { stop = r'.stop; place = h + 1; count = r'.count; peak = r'.peak })
    staging_stops off = record {
      outcome = more
          ∙ (stage_refused (model B) cap r.peak (suc h) Y.finished Y.before Y.stages (H - (h + 1)) (step ∙ answered_no r'.stop (h + 1) (root_at l' r'.count R' (size + h + 1)) r'.peak off)
          ∙ sym (answered_no r'.stop (h + 1) (roots_of (trees l' r'.count) (take H (drop (suc (model_size B)) R'))) r'.peak off));
      standing = λ ok. absurd (off ok);
      peaks = λ ok. absurd (off ok);
    }

    module _ (ok : r'.stop ≡ 0) (few : size + h + 1 < length R') where
      grown : held_trees l' r'.count R' (size + (h + 1) + 1) ≡ held_trees l r.count R (size + h + 1) ++ (root_at l' r'.count R' (size + h + 1) ∷ [])
      grown = ap (λ (k : ℕ). held_trees l' r'.count R' k) (let z : size + (h + 1) + 1 ≡ suc (size + h + 1) = omega arith in z) ∙ (T.rooted ok).roots

      -- the words are those of the stage's operations
      raised : P' ≡ peaks_of P (stage_over (model B) (suc h) (Y.finished ++ model_diagrams (model B)) Y.before)
      raised =
          C.peaks ok (Y.finished ++ model_diagrams (model B)) (alike_trans (alike_eq Y.roots) Y.alike)
          ∙ ap₂ (λ (i : ℕ) (Z : Tree). peaks_of P (stage_over (model B) i (Y.finished ++ model_diagrams (model B)) Z)) (add-one h) Y.last

      pub staging_on : Staging B cap H l₀ R₀ size r₀ P₀ l' w' R' r' P' (h + 1)
      staging_on =
          let S = root_at l' r'.count R' (size + h + 1) in
          let Z = root_at l₀ r₀.count R₀ (model_size B) in
          let Q = held_trees l r.count R (size + h + 1) in
          let D = Y.ready in
          let long : length Q ≡ size + h + 1 = held_length l r.count R (size + h + 1) D.standing.few in
          let assoc = append_assoc (model_diagrams (model B)) (Z ∷ Y.stages) (S ∷ []) in
          record {
            stages = Y.stages ++ (S ∷ []);
            finished = S ∷ Y.finished;
            before = S;
            ok = ok;
            high = omega arith;
            place = Y.place;
            ready = subst (StageReady B cap l' w' r'.count R') (let z : size + h + 1 + 1 ≡ size + (h + 1) + 1 = omega arith in z) (ready_next Q S D D.models D.first long (T.rooted ok) few);
            roots = grown ∙ (ap (λ (X : List Tree). X ++ (S ∷ [])) Y.roots ∙ assoc);
            alike = alike_trans (alike_eq (sym assoc)) (alike_front S Y.alike);
            last = ap (λ (X : List Tree). get_or X (size + (h + 1)) blank) grown ∙ get_or_at Q S [] blank (size + (h + 1)) (long ∙ (let z : size + h + 1 ≡ size + (h + 1) = omega arith in z));
            left = more
                ∙ (stage_done (model B) cap r.peak (suc h) Y.finished Y.before Y.stages (H - (h + 1)) (step ∙ answered_ok r'.stop (h + 1) S r'.peak ok)
                ∙ ap (λ (i : ℕ). behind (Y.stages ++ (S ∷ [])) (run_all cap r'.peak (stages_on (model B) (H - (h + 1)) (suc i) (S ∷ Y.finished) S))) (sym (add-one h)));
            counts = Y.counts
                ∙ (ap (λ (k : ℕ). peaks_of P (stages_on (model B) k (suc h) Y.finished Y.before)) (let z : H - h ≡ suc (H - (h + 1)) = omega arith in z)
                ∙ (stages_peaks (model B) (H - (h + 1)) (suc h) Y.finished Y.before cap r.peak P (step ∙ answered_ok r'.stop (h + 1) S r'.peak ok)
                ∙ ap₂ (λ (Q : List ℕ) (i : ℕ). peaks_of Q (stages_on (model B) (H - (h + 1)) (suc i) (S ∷ Y.finished) S)) (sym raised) (sym (add-one h))));
          }

  -- none is left
  module _ (q : h < H → ⊥) where
    all : size + h + 1 ≡ suc (model_size B) + H
    all = let p = Y.place in let z = Y.high in omega arith

    -- the roots behind stage 0's are the stages
    behind_zero : roots_of (trees l r.count) (take H (drop (suc (model_size B)) R)) ≡ Y.stages
    behind_zero =
        let X = trees l r.count in
        let m = suc (model_size B) in
        let M = model_diagrams (model B) in
        let Z = root_at l₀ r₀.count R₀ (model_size B) in
        let p = roots_of X (take m R) in
        let few = Y.ready.standing.few in
        let size = model_length Y.ready in
        let e : roots_of X (take m R) ++ roots_of X (take H (drop m R)) ≡ (M ++ (Z ∷ [])) ++ Y.stages =
        sym (roots_append X (take m R) (take H (drop m R))) ∙ (ap (roots_of X) (sym (take-add m H R)) ∙ (ap (λ (k : ℕ). held_trees l r.count R k) (sym all) ∙ (Y.roots ∙ sym (append_assoc M (Z ∷ []) Y.stages)))) in
        sym (drop_at p (roots_of X (take H (drop m R))) m (roots_length X (take m R) ∙ length-take-le m R (omega (arith, all))))
        ∙ (ap (drop m) e ∙ drop_at (M ++ (Z ∷ [])) Y.stages m (length-append M (Z ∷ []) ∙ (ap (λ (k : ℕ). k + 1) size ∙ add-one (model_size B))))

    pub staging_ends : Staged B cap r₀.peak H l₀ r₀.count R₀ P₀ l w R P (record { stop = 0; place = 0; count = r.count; peak = r.peak })
    staging_ends =
        let L = roots_of (trees l r.count) (take H (drop (suc (model_size B)) R)) in
        record {
          outcome = Y.left
              ∙ (ap (λ (k : ℕ). behind Y.stages (run_all cap r.peak (stages_on (model B) k (suc h) Y.finished Y.before))) (let z : H - h ≡ 0 = omega arith in z)
              ∙ (stages_done (model B) cap r.peak (suc h) Y.finished Y.before Y.stages
              ∙ (ap (λ (X : List Tree). solved X r.peak) (sym behind_zero) ∙ sym (answered_ok 0 0 L r.peak refl))));
          standing = λ ok. subst (Standing cap l w r.count R) all Y.ready.standing;
          peaks = λ ok. sym (Y.counts
              ∙ (ap (λ (k : ℕ). peaks_of P (stages_on (model B) k (suc h) Y.finished Y.before)) (let z : H - h ≡ 0 = omega arith in z)
              ∙ stages_counted_all B (suc h) Y.finished Y.before P));
        }
