-- An action's total, then the better of it and the best so far.
use mathlib.Core.Path.{◌≡◌, sym, ap, ap₂, ◌∙◌, subst}
use mathlib.Core.List.{List, [], ◌∷◌, ◌++◌}
use Prim.Native.Nat.{ℕ, suc, ◌+◌, ◌≤◌, ◌<◌, max}
use native.Mathlib.Omega.{arith}
use lib.IntN.{ℤ}
use lib.ListN.{length, get_or, take, length-append, get_or-append}
use lib.Seq.{take_at, take-append-le, get_or_at}
use Rattle.theory.specs.Diagram.{Tree}
use Rattle.theory.specs.Computation.{Comp, end, operation, solved, run_all}
use Rattle.theory.specs.Rules.{best}
use Rattle.theory.specs.Load.{model}
use Rattle.theory.specs.Stage.{moment, action_total}
use Rattle.rule_node.specs.Nodes.{blank}
use Rattle.solve_laws.specs.Alike.{Alike, alike_refl, alike_trans, alike_eq, alike_append, alike_turn}
use Rattle.solve_laws.specs.Onward.{onward, run_all_end, run_all_then, Works, Stops, works_run, stops_run, answered, answered_no, onward_ok, onward_no}
use Rattle.solve_laws.specs.Roots.{Rooted}
use Rattle.solve_operation.specs.Operation.{held_trees, comp_of, FitsRule, Standing, Operated}
use Rattle.solve_total.specs.StageTable.{Due, action_numbered, before_of, total_of, root_at, ActionRan}
use Rattle.solve_stages.specs.Stages.{bettered}
use Rattle.solve_operation.specs.declared.Rule.TheVariants.{Best}
use Rattle.solve_operation.specs.declared.Run.{Run}
use Rattle.solve_total.specs.declared.Backup.{Backup}
use Rattle.solve_total.proofs.Roots.{held_length, operated_fits}
use Rattle.solve_stages.proofs.StagesHeld.{answers, held_more, held_before}

-- the total, then the better of the two
pub bettered_run : (B : List ℕ) (N p h : ℕ) (P : Tree) (a : ℕ) (F : Tree) (K : List Tree) → run_all N p (bettered B h P a F K)
    ≡ onward (run_all N p (action_total (model B) h (F ∷ K) P a (action_numbered B a))) (λ G q. run_all N q (operation (moment h a) (G ∷ F ∷ K) (best F G) end))
unfolding bettered
bettered_run B N p h P a F K = run_all_then N p (action_total (model B) h (F ∷ K) P a (action_numbered B a)) (λ G. operation (moment h a) (G ∷ F ∷ K) (best F G) end)

-- F behind Q, or before what is like Q
pub alike_front : (F : Tree) {Q K : List Tree} → Alike Q K → Alike (Q ++ (F ∷ [])) (F ∷ K)
alike_front F {Q} {K} a = alike_trans (alike_append a (alike_refl (F ∷ []))) (alike_turn K (F ∷ []))

-- the two last of some diagrams
two_last : (Q : List Tree) (F G : Tree) (k : ℕ) → length Q ≡ k → comp_of ((Q ++ (F ∷ [])) ++ (G ∷ [])) (Best k (k + 1)) ≡ best F G
unfolding comp_of
two_last Q F G k e =
    ap₂ best
    (get_or-append (Q ++ (F ∷ [])) (G ∷ []) blank k (omega (arith, length-append Q (F ∷ []))) ∙ get_or_at Q F [] blank k e)
    (get_or_at (Q ++ (F ∷ [])) G [] blank (k + 1) (length-append Q (F ∷ []) ∙ ap (λ (n : ℕ). n + 1) e))

-- the total is to stand behind the best so far
pub behind_due : {B : List ℕ} {cap : ℕ} {l : List ℤ} {w : List ℕ} {n : ℕ} {R : List ℕ} {b : Backup} → Due B cap l w n R (b.held + 1) b
    → Due B cap l w n R (b.held + 1) (record { held = b.held + 1; before = b.before; stage = b.stage; action = b.action })
behind_due D = let z = D.earlier in record { ready = D.ready; room = D.room; earlier = omega (arith, z); few_stages = D.few_stages; some_action = D.some_action; an_action = D.an_action }

module _ {B : List ℕ} {cap p : ℕ} {l : List ℤ} {w : List ℕ} {n : ℕ} {R : List ℕ} {b : Backup} {l' : List ℤ} {w' R' : List ℕ} {t : Run}
    (D : Due B cap l w n R (b.held + 1) b)
    (T : ActionRan cap p l n R (b.held + 1) b.stage (total_of B b (get_or (held_trees l n R (b.held + 1)) b.before blank)) l' w' R' t) where
  totalled : (K : List Tree) → Alike (held_trees l n R b.held) K
      → run_all cap p (total_of B b (before_of l n R b) (root_at l n R b.held ∷ K)) ≡ answered t.stop b.stage (root_at l' t.count R' (b.held + 1)) t.peak
  totalled K al =
      let few : b.held < length R = let z = D.ready.standing.few in omega arith in
      let F = root_at l n R b.held in
      ap (λ (P : Tree). run_all cap p (total_of B b P (F ∷ K))) (sym (held_before l n R b.held b.before few D.earlier))
      ∙ T.outcome (F ∷ K) (alike_trans (alike_eq (held_more l n R b.held few)) (alike_front F al))

  -- the total stopped
  pub better_stopped : (t.stop ≡ 0 → ⊥) → ActionRan cap p l n R b.held b.stage (bettered B b.stage (before_of l n R b) b.action (root_at l n R b.held)) l' w' R' t
  better_stopped off = record {
    outcome = λ K al. bettered_run B cap p b.stage _ b.action (root_at l n R b.held) K ∙ (onward_no t.stop b.stage _ t.peak (totalled K al) _ off ∙ sym (answered_no t.stop b.stage _ t.peak off));
    rooted = λ ok. absurd (off ok);
    fits = λ ok. absurd (off ok);
  }

  -- or stands behind the best so far
  module _ (ok : t.stop ≡ 0) where
    stand : held_trees l' t.count R' (b.held + 2) ≡ (held_trees l n R b.held ++ (root_at l n R b.held ∷ [])) ++ (root_at l' t.count R' (b.held + 1) ∷ [])
    stand =
        let few : b.held < length R = let z = D.ready.standing.few in omega arith in
        let e : b.held + 2 ≡ suc (b.held + 1) = omega arith in
        ap (λ (k : ℕ). held_trees l' t.count R' k) e ∙ ((T.rooted ok).roots ∙ ap (λ (X : List Tree). X ++ (root_at l' t.count R' (b.held + 1) ∷ [])) (held_more l n R b.held few))

    pub better_ready : b.held + 2 ≤ length R' → Standing cap l' w' t.count R' (b.held + 2) × (b.held ≤ b.held + 2) × (b.held < length R') × FitsRule (b.held + 2) (Best b.held (b.held + 1))
    unfolding FitsRule
    better_ready few =
        let e : suc (b.held + 1) ≡ b.held + 2 = omega arith in
        let H = T.rooted ok in
        let s : Standing cap l' w' t.count R' (suc (b.held + 1)) = record { good = H.good; space = H.space; below = H.below; few = omega arith } in
        (subst (Standing cap l' w' t.count R') e s, omega arith, omega arith, (omega arith, omega arith))

    module _ {l'' : List ℤ} {w'' R'' : List ℕ} {r : Run} (S : Operated cap t.peak l' t.count R' (b.held + 2) b.held (Best b.held (b.held + 1)) l'' w'' R'' r) where
      comes : comp_of (held_trees l' t.count R' (b.held + 2)) (Best b.held (b.held + 1)) ≡ best (root_at l n R b.held) (root_at l' t.count R' (b.held + 1))
      comes = ap (λ (X : List Tree). comp_of X (Best b.held (b.held + 1))) stand ∙ two_last (held_trees l n R b.held) _ _ b.held (held_length l n R b.held (let z = D.ready.standing.few in omega arith))

      roots : (K : List Tree) → Alike (held_trees l n R b.held) K → Alike (held_trees l' t.count R' (b.held + 2)) (root_at l' t.count R' (b.held + 1) ∷ root_at l n R b.held ∷ K)
      roots K al = alike_trans (alike_eq stand) (alike_front (root_at l' t.count R' (b.held + 1)) (alike_front (root_at l n R b.held) al))

      bests : (K : List Tree) → Alike (held_trees l n R b.held) K
          → run_all cap t.peak (operation (moment b.stage b.action) (root_at l' t.count R' (b.held + 1) ∷ root_at l n R b.held ∷ K) (best (root_at l n R b.held) (root_at l' t.count R' (b.held + 1))) end)
          ≡ answered r.stop b.stage (root_at l'' r.count R'' b.held) r.peak
      bests K al =
          let Y = root_at l' t.count R' (b.held + 1) ∷ root_at l n R b.held ∷ K in
          let u = root_at l'' r.count R'' b.held in
          answers r.stop b.stage u r.peak
          (λ z. works_run t.peak (moment b.stage b.action) end (subst (λ (c : Comp Tree). Works cap Y c u r.count) comes (S.works z Y (roots K al))) ∙
          (run_all_end cap (max t.peak r.count) u ∙ ap (solved u) (sym S.peak)))
          (λ z. stops_run t.peak (moment b.stage b.action) end (subst (λ (c : Comp Tree). Stops cap Y c r.stop) comes (S.stops z Y (roots K al))))

      kept : take b.held (held_trees l' t.count R' (b.held + 2)) ≡ held_trees l n R b.held
      kept =
          let e = held_length l n R b.held (let z = D.ready.standing.few in omega arith) in
          ap (take b.held) stand
          ∙ (take-append-le b.held (held_trees l n R b.held ++ (root_at l n R b.held ∷ [])) _ (omega (arith, length-append (held_trees l n R b.held) (root_at l n R b.held ∷ [])))
          ∙ take_at (held_trees l n R b.held) (root_at l n R b.held ∷ []) b.held e)

      pub better_done : ActionRan cap p l n R b.held b.stage (bettered B b.stage (before_of l n R b) b.action (root_at l n R b.held)) l'' w'' R'' r
      better_done = record {
        outcome = λ K al. bettered_run B cap p b.stage _ b.action (root_at l n R b.held) K ∙ (onward_ok t.stop b.stage _ t.peak (totalled K al) _ ok ∙ bests K al);
        rooted = λ z. subst (λ (X : List Tree). Rooted cap l'' w'' r.count (take (suc b.held) R'') (X ++ (root_at l'' r.count R'' b.held ∷ []))) kept (S.rooted z);
        fits = λ z q. operated_fits S z (T.fits ok q);
      }
