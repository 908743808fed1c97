-- What a stage's loops have left to run, one step at a time: over conditions, actions and stages.
use Rattle.std.specs.Prelude.{◌≡◌, ℕ, zero, suc, ◌≤◌, ◌<◌, length, get_or, drop}
use Rattle.std.proofs.Math.Path.{refl, ap}
use Rattle.std.proofs.Common.{sym, ◌∙◌, drop_of_length-le, drop-cons}
use mathlib.Core.List.{List, [], ◌∷◌, ◌++◌, append_assoc, append-nil}
use Rattle.theory.specs.Diagram.{Tree}
use Rattle.theory.specs.Computation.{make, Moment, Ops, end, operation, and_then, Solved, solved, refused, run_all}
use Rattle.theory.specs.Rules.{best, zero_leaf, substitute, expectation, add_reward}
use Rattle.theory.specs.Meaning.{Action, Model, power}
use Rattle.theory.specs.Stage.{model_diagrams, moment, sum_out, action_total, best_on, stage_over, stages_on, stages_over_end, all_stages}
use Rattle.solve_laws.specs.Onward.{onward, onward_refused, onward_onward, onward_same, onward_end, run_all_then}

-- ---- conditions

module _ (W : ℕ) (h : Moment) (kept : List Tree) (ws : List Tree) where
  -- the condition at i is next
  pub sum_out_step : (d : Tree) (k i : ℕ) (F : Tree) → i < length ws
      → sum_out W h kept k (drop i ws) F ≡ operation h (F ∷ kept) (expectation W (get_or ws i d) k F) (sum_out W h kept (suc k) (drop (suc i) ws))
  unfolding sum_out
  sum_out_step d k i F q = ap (λ (l : List Tree). sum_out W h kept k l F) (drop-cons ws i d q)

  -- none is left
  pub sum_out_done : (N p k i : ℕ) (F : Tree) → length ws ≤ i → run_all N p (sum_out W h kept k (drop i ws) F) ≡ solved F p
  unfolding sum_out run_all
  sum_out_done N p k i F q = ap (λ (l : List Tree). run_all N p (sum_out W h kept k l F)) (drop_of_length-le ws q)

-- ---- one action

-- what follows its substitution, which came to F
unfoldable pub after_levels : Model → ℕ → List Tree → ℕ → Action → Tree → Ops Tree
after_levels M h kept a x F =
    and_then (sum_out M.weights (moment h a) kept 1 x.chances F)
    (λ G. operation (moment h a) (G ∷ kept) (add_reward (power M h) x.reward a G) end)

module _ (M : Model) (h : ℕ) (kept : List Tree) (a : ℕ) (x : Action) where
  pub action_total_is : (P : Tree) → action_total M h kept P a x ≡ operation (moment h a) kept (substitute x.levels P) (after_levels M h kept a x)
  unfolding action_total after_levels
  action_total_is P = refl

  pub after_levels_run : (N p : ℕ) (F : Tree) → run_all N p (after_levels M h kept a x F)
      ≡ onward (run_all N p (sum_out M.weights (moment h a) kept 1 x.chances F)) (λ G q. run_all N q (operation (moment h a) (G ∷ kept) (add_reward (power M h) x.reward a G) end))
  unfolding after_levels
  after_levels_run N p F = run_all_then N p (sum_out M.weights (moment h a) kept 1 x.chances F) (λ G. operation (moment h a) (G ∷ kept) (add_reward (power M h) x.reward a G) end)

-- ---- actions

module _ (M : Model) (h : ℕ) (kept : List Tree) (P : Tree) where
  -- the action at i of l, number a, is next
  pub best_on_step : (d : Action) (N p a i : ℕ) (l : List Action) (F : Tree) → i < length l → run_all N p (best_on M h kept P a (drop i l) F)
      ≡ onward (run_all N p (action_total M h (F ∷ kept) P a (get_or l i d))) (λ G q. run_all N q (operation (moment h a) (G ∷ F ∷ kept) (best F G) (best_on M h kept P (suc a) (drop (suc i) l))))
  unfolding best_on
  best_on_step d N p a i l F q = ap (λ (z : List Action). run_all N p (best_on M h kept P a z F)) (drop-cons l i d q)
      ∙ run_all_then N p (action_total M h (F ∷ kept) P a (get_or l i d)) (λ G. operation (moment h a) (G ∷ F ∷ kept) (best F G) (best_on M h kept P (suc a) (drop (suc i) l)))

  -- none is left
  pub best_on_done : (N p a i : ℕ) (l : List Action) (F : Tree) → length l ≤ i → run_all N p (best_on M h kept P a (drop i l) F) ≡ solved F p
  unfolding best_on run_all
  best_on_done N p a i l F q = ap (λ (z : List Action). run_all N p (best_on M h kept P a z F)) (drop_of_length-le l q)

  -- a stage: action 1 alone, then the others
  pub stage_over_run : (N p : ℕ) → run_all N p (stage_over M h kept P)
      ≡ onward (run_all N p (action_total M h kept P 1 M.first)) (λ F q. run_all N q (best_on M h kept P 2 (drop 0 M.others) F))
  unfolding stage_over
  stage_over_run N p = run_all_then N p (action_total M h kept P 1 M.first) (best_on M h kept P 2 M.others)

-- ---- stages

-- the stages L, then those to come
unfoldable pub behind : List Tree → Solved (List Tree) → Solved (List Tree)
behind L o = onward o (λ l q. solved (L ++ l) q)

pub behind_none : (o : Solved (List Tree)) → behind [] o ≡ o
unfolding behind
behind_none o = onward_end o

pub behind_refused : (L : List Tree) {o : Solved (List Tree)} {r h : ℕ} → o ≡ refused r h → behind L o ≡ refused r h
unfolding behind
behind_refused L e = onward_refused _ e

-- one more stage to come stands behind L
behind_end : (N p : ℕ) (L : List Tree) (S : Tree) (m : Ops (List Tree)) → behind L (run_all N p (and_then m (λ l. end (S ∷ l)))) ≡ behind (L ++ (S ∷ [])) (run_all N p m)
unfolding behind onward run_all
behind_end N p L S m = ap (λ o. onward o (λ l q. solved (L ++ l) q)) (run_all_then N p m (λ l. end (S ∷ l)))
    ∙ (onward_onward (run_all N p m) (λ l q. solved (S ∷ l) q) (λ l q. solved (L ++ l) q)
    ∙ onward_same (run_all N p m) (λ l q. solved (L ++ (S ∷ l)) q) (λ l q. solved ((L ++ (S ∷ [])) ++ l) q) (λ l q. ap (λ (z : List Tree). solved z q) (sym (append_assoc L (S ∷ []) l))))

module _ (M : Model) (N p h : ℕ) (finished : List Tree) (P : Tree) (L : List Tree) where
  -- stage h is next
  pub stages_step : (k : ℕ) → behind L (run_all N p (stages_on M (suc k) h finished P))
      ≡ onward (run_all N p (stage_over M h (finished ++ model_diagrams M) P)) (λ S q. behind (L ++ (S ∷ [])) (run_all N q (stages_on M k (suc h) (S ∷ finished) S)))
  unfolding stages_on behind
  stages_step k =
      let m = stage_over M h (finished ++ model_diagrams M) P in
      let f : Tree → Ops (List Tree) = λ S. and_then (stages_on M k (suc h) (S ∷ finished) S) (λ l. end (S ∷ l)) in
      ap (λ o. onward o (λ l q. solved (L ++ l) q)) (run_all_then N p m f)
      ∙ (onward_onward (run_all N p m) (λ S q. run_all N q (f S)) (λ l q. solved (L ++ l) q)
      ∙ onward_same (run_all N p m) (λ S q. onward (run_all N q (f S)) (λ l q. solved (L ++ l) q)) (λ S q. behind (L ++ (S ∷ [])) (run_all N q (stages_on M k (suc h) (S ∷ finished) S)))
      (λ S q. behind_end N q L S (stages_on M k (suc h) (S ∷ finished) S)))

  -- none is left
  pub stages_done : behind L (run_all N p (stages_on M zero h finished P)) ≡ solved L p
  unfolding stages_on run_all behind onward
  stages_done = ap (λ (z : List Tree). solved z p) (append-nil L)

-- without an end worth: stage 0, then stages 1 to H
pub all_stages_is : (M : Model) (H : ℕ) → M.end ≡ [] → all_stages M H ≡ operation (moment 1 1) (model_diagrams M) (make zero_leaf) (λ Z. stages_on M H 1 (Z ∷ []) Z)
unfolding all_stages stages_over_end
all_stages_is M H e = ap (stages_over_end M H) e

-- with one: stages 1 to H over it
pub all_stages_ended : (M : Model) (H : ℕ) {E : Tree} → M.end ≡ E ∷ [] → all_stages M H ≡ stages_on M H 1 (E ∷ []) E
unfolding all_stages stages_over_end
all_stages_ended M H e = ap (stages_over_end M H) e
