-- What a solve with a given room leaves: the tables of the stages, or a refusal.
use mathlib.Core.Path.{◌≡◌, refl, sym, ap, ap₂, ◌∙◌, subst}
use mathlib.Core.List.{List, []}
use Prim.Native.Nat.{ℕ, zero, suc, ◌+◌, ◌-◌, ◌*◌, ◌≤◌, ◌<◌}
use native.Mathlib.Omega.{arith}
use lib.IntN.{ℤ}
use lib.ListN.{length, get_or, take, drop, replicate, length-drop}
use lib.Seq.{length-take-le, get_or-take, get_or-drop}
use Rattle.theory.specs.Widths.{steps_most, nodes_most, node_words, work_words}
use Rattle.theory.specs.Verdict.{verdict}
use Rattle.theory.specs.Solve.{solve_in, solved_nodes, solved_stages}
use Rattle.rule_node.specs.Nodes.{trees}
use Rattle.collect_mark.specs.Mark.{roots_of}
use Rattle.finish_number.specs.Number.{trees_of}
use Rattle.finish.specs.Finish.{Unfinished, Finished}
use Rattle.solve_laws.specs.Onward.{answered_no}
use Rattle.solve_stages.specs.declared.Planned.{Planned}
use Rattle.solve_total.specs.StageTable.{model_size}
use Rattle.table_unique.specs.Unique.{Space}
use Rattle.solve_value_iteration.specs.Iteration.{stage_trees, Plans}
use Rattle.solve_value_iteration.proofs.Start.{standing_roots}
use Rattle.solve_in_room.specs.Solves.{Solves}
use Rattle.solve_in_room.proofs.Empty.{empty_refused}

-- ---- the stages' roots, one behind the model's

-- as the code lends them
abbrev pub part_of : ℕ → ℕ → List ℕ → List ℕ
part_of first H R = take (first + 1 + H - (first + 1)) (drop (first + 1) R)

part_is : (first H D : ℕ) (R : List ℕ) → first ≡ D → part_of first H R ≡ take H (drop (suc D) R)
part_is first H D R e = ap₂ (λ (k i : ℕ). take k (drop i R)) (let q : first + 1 + H - (first + 1) ≡ H = omega arith in q) (let q : first + 1 ≡ suc D = omega arith in q)

module _ {B : List ℕ} {H first : ℕ} (at : first ≡ model_size B) {cap : ℕ} {l : List ℤ} {w R : List ℕ} {Q : List ℕ} {r : Planned} (P : Plans B H cap l w R Q r) where
  part : part_of first H R ≡ take H (drop (suc (model_size B)) R)
  part = part_is first H (model_size B) R at

  part_length : r.stop ≡ 0 → length (take H (drop (suc (model_size B)) R)) ≡ H
  part_length ok = let f = (P.standing ok).few in let n = length-drop (suc (model_size B)) R in length-take-le H (drop (suc (model_size B)) R) (omega arith)

  part_below : (ok : r.stop ≡ 0) (j : ℕ) → j < H → get_or (take H (drop (suc (model_size B)) R)) j 0 < r.count
  part_below ok j h =
      let D = suc (model_size B) in
      let f = (P.standing ok).few in
      let n = length-take-le (D + H) R f in
      subst (λ (x : ℕ). x < r.count)
      (get_or-take (D + H) R (D + j) 0 (omega arith) ∙ (sym (get_or-drop D R j 0) ∙ sym (get_or-take H (drop D R) j 0 h)))
      ((P.standing ok).below.at (D + j) (omega arith))

  pub to_finish : r.stop ≡ 0 → H ≤ steps_most → {s : List ℕ} → length s ≡ steps_most → Unfinished cap l r.count w (part_of first H R) s
  to_finish ok h {s} n = subst (λ (Q : List ℕ). Unfinished cap l r.count w Q s) (sym part) (record {
    held = record { good = (P.standing ok).good; room = (P.standing ok).space.room; few = (P.standing ok).space.few; words = (P.standing ok).space.words };
    works = (P.standing ok).space.works;
    roots = record { below = λ j q. part_below ok j (let m = part_length ok in omega arith) };
    few = (let m = part_length ok in omega arith);
    stages = n;
  })

  part_trees : trees_of l r.count (part_of first H R) ≡ stage_trees B H l r.count R
  part_trees = standing_roots l r.count (part_of first H R) ∙ ap (roots_of (trees l r.count)) part

  -- the tables are left
  pub finished : {l₀ l' : List ℤ} {w₀ w' s' : List ℕ} {k : ℕ} → Finished l l' w w' s' k (trees_of l r.count (part_of first H R)) → length l ≡ length l₀ → length w ≡ length w₀ → Solves B H cap l₀ l' s' w₀ w' Q r
  finished F nl nw = record {
    stages = stage_trees B H l r.count R;
    outcome = P.outcome;
    nodes = λ _. F.nodes ∙ ap₂ solved_nodes nl part_trees;
    roots = λ _. F.stages ∙ ap solved_stages part_trees;
    work = λ _. F.work ∙ ap (λ (n : ℕ). replicate n 0) nw;
    peaks = P.peaks;
  }

-- it was refused
pub not_finished : {B : List ℕ} {H cap : ℕ} {l : List ℤ} {w R Q : List ℕ} {r : Planned} → Plans B H cap l w R Q r → (r.stop ≡ 0 → ⊥) → (l₀ : List ℤ) (s w₀ : List ℕ) → Solves B H cap l₀ l s w₀ w Q r
not_finished {B} {H} {l = l} {R = R} {r = r} P off l₀ s w₀ = record {
  stages = stage_trees B H l r.count R;
  outcome = P.outcome;
  nodes = λ z. absurd (off z);
  roots = λ z. absurd (off z);
  work = λ z. absurd (off z);
  peaks = λ z. absurd (off z);
}

-- there is no room
pub no_room : (B : List ℕ) (H : ℕ) {cap : ℕ} (l : List ℤ) (s w : List ℕ) {P : List ℕ} → (verdict B).number ≡ 0 → cap ≡ 0 → Solves B H cap l l s w w P (record { stop = 12; place = 0; count = 0; peak = 0 })
no_room B H l s w v e = record {
  stages = [];
  outcome = ap (λ (N : ℕ). solve_in N B H) e ∙ (empty_refused B H v ∙ sym (answered_no 12 0 [] 0 (λ z. omega arith)));
  nodes = λ z. absurd (omega arith);
  roots = λ z. absurd (omega arith);
  work = λ z. absurd (omega arith);
  peaks = λ z. absurd (omega arith);
}

-- there is some
pub some_room : (cap : ℕ) {l : List ℤ} {w : List ℕ} → (cap ≡ 0 → ⊥) → cap ≤ nodes_most → cap * node_words ≤ length l → cap * work_words ≤ length w → Space cap l w 0
some_room zero off f a b = absurd (off refl)
some_room (suc n) off f a b = record { some = omega arith; few = f; room = omega arith; words = a; works = b }

-- all the words cleared
pub cleared : {Q : List ℕ} {m n : ℕ} → Q ≡ replicate m 0 → m ≡ n → Q ≡ replicate n 0
cleared e n = e ∙ ap (λ (k : ℕ). replicate k 0) n
