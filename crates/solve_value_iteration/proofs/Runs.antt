-- The model loaded, stage 0 found or made, the stages run: what each step leaves, or its refusal.
use mathlib.Core.Path.{◌≡◌, refl, sym, ap, ◌∙◌, subst}
use mathlib.Core.Bool.{Bool, true, false}
use mathlib.Core.List.{List, [], ◌∷◌, ◌++◌}
use Prim.Native.Nat.{ℕ, suc, ◌+◌, max, ◌≤◌, ◌<◌}
use native.Mathlib.Omega.{arith}
use lib.IntN.{ℤ}
use lib.ListN.{length, get_or, take, replicate}
use lib.Seq.{length-take-le, take-suc, take_all, take_at}
use Rattle.theory.specs.Widths.{bytes_most, steps_most, roots_most, nodes_most, peak_words}
use Rattle.theory.specs.Diagram.{Tree}
use Rattle.theory.specs.Computation.{run_all}
use Rattle.theory.specs.Verdict.{verdict}
use Rattle.theory.specs.Load.{site_at, model}
use Rattle.theory.specs.Stage.{model_diagrams, stages_on, all_stages}
use Rattle.theory.specs.Peaks.{raise, peaks_of}
use Rattle.theory.specs.Solve.{solve_in}
use Rattle.rule_node.specs.Nodes.{trees}
use Rattle.rule_node.proofs.Trees.{trees_length}
use Rattle.collect_mark.specs.Mark.{roots_of}
use Rattle.collect_mark.specs.Mark.{Below as Lower}
use Rattle.load_command.specs.CommandStep.{standing, NumbersBelow}
use Rattle.load_model.specs.ModelRoots.{end_of}
use Rattle.load_model.specs.declared.Done.{Done}
use Rattle.solve_laws.specs.Alike.{Alike, alike_eq}
use Rattle.solve_laws.specs.Onward.{answered_no}
use Rattle.solve_laws.specs.Roots.{roots_length, roots_append, below_append, below_one}
use Rattle.solve_laws.specs.Steps.{behind_none, all_stages_ended}
use Rattle.solve_laws.specs.Loops.{zero_done, zero_refused}
use Rattle.solve_laws.specs.Outcome.{solve_loaded, solve_unloaded}
use Rattle.solve_value_iteration.proofs.LoadPeaks.{zero_counted, loaded_counted}
use Rattle.solve_operation.specs.declared.Rule.TheVariants.{Zero}
use Rattle.solve_operation.specs.declared.Run.{Run}
use Rattle.solve_stages.specs.declared.Planned.{Planned}
use Rattle.solve_operation.specs.Operation.{comp_of, FitsRule, held_trees, Standing, Operated}
use Rattle.solve_total.specs.StageTable.{model_size, root_at, StageReady}
use Rattle.solve_stages.specs.Stages.{Staged}
use Rattle.solve_value_iteration.specs.Iteration.{stage_trees, Brought, Grounded, Plans}
use Rattle.solve_value_iteration.proofs.Start.{size_few, loaded_models, loaded_standing}

-- loading is refused
pub unloaded : (B : List ℕ) (H : ℕ) {cap : ℕ} {l : List ℤ} {w R : List ℕ} {P : List ℕ} {r : Done} → Brought B cap l w R r → (r.stop ≡ 0 → ⊥) → Plans B H cap l w R P (record { stop = r.stop; place = 0; count = 0; peak = 0 })
unloaded B H {cap} {l} {w} {R} {P} {r} L off = record {
  outcome = solve_unloaded cap B H r.stop (L.stops off) ∙ sym (answered_no r.stop 0 (stage_trees B H l 0 R) 0 off);
  standing = λ z. absurd (off z);
  peaks = λ z. absurd (off z);
}

-- its count fits a word
pub loaded_fits : {B : List ℕ} {cap : ℕ} {l : List ℤ} {w R : List ℕ} {r : Done} → Brought B cap l w R r → r.count ≤ nodes_most
loaded_fits L = let a = L.space.few in let b = L.space.room in omega (arith, a, b)

-- the model is loaded, its roots the first of roots_most
module _ (B : List ℕ) (v : (verdict B).number ≡ 0) {cap : ℕ} {l : List ℤ} {w R : List ℕ} {r : Done} (L : Brought B cap l w R r) (go : r.stop ≡ 0) (size : length R ≡ roots_most) where
  few : model_size B ≤ length R
  few = let z = size_few B v in omega arith

  held : List Tree
  held = held_trees l r.count R (model_size B)

  held_length : length held ≡ model_size B
  unfolding held
  held_length = roots_length (trees l r.count) (take (model_size B) R) ∙ length-take-le (model_size B) R few

  -- stage 0 behind them
  front : (x : Tree) → take (model_size B) (take (model_size B) held ++ (x ∷ [])) ≡ held
  front x = let e = take_all (model_size B) held (let q = held_length in omega arith) in
      ap (λ (X : List Tree). take (model_size B) (X ++ (x ∷ []))) e ∙ take_at held (x ∷ []) (model_size B) held_length

  -- ---- the end worth stands there
  module _ (given : r.ended ≡ true) (bytes : length B ≤ bytes_most) where
    end_is : (model B).end ≡ root_at l r.count R (model_size B) ∷ []
    end_is = sym (L.end_root go) ∙ ap (λ (b : Bool). standing l r.count (end_of (site_at B) R b)) given

    end_less : get_or R (model_size B) 0 < r.count
    unfolding NumbersBelow
    end_less = (subst (λ (b : Bool). NumbersBelow r.count (end_of (site_at B) R b)) given (L.end_below go)).0

    behind : take (suc (model_size B)) R ≡ take (model_size B) R ++ (get_or R (model_size B) 0 ∷ [])
    behind = take-suc R (model_size B) 0 (let z = size_few B v in omega arith)

    pub end_ready : StageReady B cap l w r.count R (suc (model_size B))
    unfolding held roots_of
    end_ready =
        let s = loaded_standing L go few in
        record {
          accepted = v;
          bytes = bytes;
          standing = record {
            good = s.good;
            space = s.space;
            below = subst (λ (K : List ℕ). Lower K r.count) (sym behind) (below_append s.below (below_one end_less));
            few = (let z = size_few B v in omega arith);
          };
          models = ap (λ (K : List ℕ). take (model_size B) (roots_of (trees l r.count) K)) behind
              ∙ (ap (take (model_size B)) (roots_append (trees l r.count) (take (model_size B) R) (get_or R (model_size B) 0 ∷ []))
              ∙ (take_at held (root_at l r.count R (model_size B) ∷ []) (model_size B) held_length ∙ loaded_models L go few));
          first = omega arith;
        }

    pub end_grounded : {P : List ℕ} → Grounded B cap r.count P l w R P (record { stop = 0; count = r.count; peak = r.count })
    end_grounded {P} = record {
      ready = λ _. end_ready;
      left = λ _ H. ap (run_all cap r.count) (all_stages_ended (model B) H end_is);
      counts = λ _ H. ap (peaks_of P) (all_stages_ended (model B) H end_is);
      stops = λ off. absurd (off refl);
    }

  -- ---- or the leaf 0 was tried
  pub zero_ready : {first : ℕ} → first ≡ model_size B → Standing cap l w r.count R first × (first ≤ first) × (first < length R) × FitsRule first Zero
  unfolding FitsRule
  zero_ready at = let z = size_few B v in (subst (Standing cap l w r.count R) (sym at) (loaded_standing L go few), omega arith, omega arith, omega arith)

  module _ (given : r.ended ≡ false) (bytes : length B ≤ bytes_most) {first : ℕ} (at : first ≡ model_size B) {l' : List ℤ} {w' R' : List ℕ} {z : Run}
      (O : Operated cap r.count l r.count R first first Zero l' w' R' z) (same : length R' ≡ length R) where
    none : (model B).end ≡ []
    none = sym (L.end_root go) ∙ ap (λ (b : Bool). standing l r.count (end_of (site_at B) R b)) given

    there : Operated cap r.count l r.count R (model_size B) (model_size B) Zero l' w' R' z
    there = subst (λ (f : ℕ). Operated cap r.count l r.count R f f Zero l' w' R' z) at O

    alike : Alike (held_trees l r.count R (model_size B)) (model_diagrams (model B))
    alike = alike_eq (loaded_models L go few)

    pub zero_fits : z.stop ≡ 0 → z.count ≤ nodes_most
    zero_fits ok = let a = (there.rooted ok).space.few in let b = (there.rooted ok).space.room in omega (arith, a, b)

    pub zero_grounded : {P P' : List ℕ} → (z.stop ≡ 0 → P' ≡ raise 1 z.count P) → Grounded B cap r.count P l' w' R' P' z
    unfolding comp_of held
    zero_grounded {P} {P'} f = record {
      ready = λ ok. record {
        accepted = v;
        bytes = bytes;
        standing = record { good = (there.rooted ok).good; space = (there.rooted ok).space; below = (there.rooted ok).below; few = (let q = size_few B v in omega arith) };
        models = ap (take (model_size B)) (there.rooted ok).roots ∙ (front (root_at l' z.count R' (model_size B)) ∙ loaded_models L go few);
        first = omega arith;
      };
      left = λ ok H.
          let Z = root_at l' z.count R' (model_size B) in
          zero_done (model B) cap r.count H none (there.works ok (model_diagrams (model B)) alike)
          ∙ (behind_none (run_all cap (max r.count z.count) (stages_on (model B) H 1 (Z ∷ []) Z)) ∙ ap (λ (p : ℕ). run_all cap p (stages_on (model B) H 1 (Z ∷ []) Z)) (sym there.peak));
      counts = λ ok H.
          let Z = root_at l' z.count R' (model_size B) in
          zero_counted (model B) H none P (there.works ok (model_diagrams (model B)) alike) ∙ ap (λ (Q : List ℕ). peaks_of Q (stages_on (model B) H 1 (Z ∷ []) Z)) (sym (f ok));
      stops = λ off H. zero_refused (model B) cap r.count H none (there.stops off (model_diagrams (model B)) alike);
    }

-- ---- the stages over it

module _ (B : List ℕ) (H : ℕ) {cap : ℕ} {l : List ℤ} {w R : List ℕ} {r : Done} (L : Brought B cap l w R r) (go : r.stop ≡ 0) {P : List ℕ} {l' : List ℤ} {w' R' P' : List ℕ} {z : Run}
    (G : Grounded B cap r.count P l' w' R' P' z) where
  solved_by : solve_in cap B H ≡ run_all cap r.count (all_stages (model B) H)
  solved_by = solve_loaded cap B H (model B) (trees l r.count) (L.ran go) ∙ ap (λ (p : ℕ). run_all cap p (all_stages (model B) H)) (trees_length l r.count)

  pub zero_off : (z.stop ≡ 0 → ⊥) → Plans B H cap l' w' R' P' (record { stop = z.stop; place = 1; count = 0; peak = 0 })
  zero_off off = record {
    outcome = solved_by ∙ (G.stops off H ∙ sym (answered_no z.stop 1 (stage_trees B H l' 0 R') 0 off));
    standing = λ e. absurd (off e);
    peaks = λ e. absurd (off e);
  }

  pub stages_run : z.stop ≡ 0 → {Q : List ℕ} → Q ≡ replicate peak_words 0 → P ≡ raise 0 r.count Q → {l'' : List ℤ} {w'' R'' P'' : List ℕ} {s : Planned} → Staged B cap
      z.peak H l' z.count R' P' l'' w'' R'' P'' s → Plans B H cap l'' w'' R'' P'' s
  stages_run ok e f S = record {
    outcome = solved_by ∙ (G.left ok H ∙ S.outcome);
    standing = S.standing;
    peaks = λ z. S.peaks z ∙ (sym (G.counts ok H) ∙ loaded_counted B H cap (trees l r.count) (L.ran go) (trees_length l r.count) (f ∙ ap (raise 0 r.count) e));
  }

-- there is a root for each stage, and two for what a stage has so far
pub stages_fit : (B : List ℕ) (H : ℕ) {n : ℕ} → (verdict B).number ≡ 0 → H ≤ steps_most → n ≡ roots_most → model_size B + H + 2 ≤ n
stages_fit B H v h e = let q = size_few B v in omega arith
