-- The loops over conditions, actions and stages: what is left to run after each operation that worked, and the refusal where one stopped.
use Rattle.std.specs.Prelude.{◌≡◌, List, [], ◌∷◌, ◌++◌, ℕ, suc, max, ◌<◌, length, get_or, drop}
use Rattle.std.proofs.Common.{sym, ap, ◌∙◌}
use Rattle.theory.specs.Diagram.{Tree}
use Rattle.theory.specs.Computation.{make, Moment, end, solved, refused, run_all}
use Rattle.theory.specs.Rules.{best, zero_leaf, substitute, expectation, add_reward}
use Rattle.theory.specs.Meaning.{Action, Model, power}
use Rattle.theory.specs.Stage.{model_diagrams, moment, sum_out, action_total, best_on, stage_over, stages_on, all_stages}
use Rattle.solve_laws.specs.Onward.{onward_solved, onward_refused, run_all_end, Works, Stops, works_run, stops_run}
use Rattle.solve_laws.specs.Steps.{sum_out_step, after_levels, action_total_is, after_levels_run, best_on_step, stage_over_run, behind, behind_none, stages_step, all_stages_is}

-- ---- conditions

module _ (N p W : ℕ) (h : Moment) (kept ws : List Tree) (d : Tree) (k i : ℕ) (F : Tree) (q : i < length ws) where
  pub condition_done : {G : Tree} {n : ℕ} → Works N (F ∷ kept) (expectation W (get_or ws i d) k F) G n
      → run_all N p (sum_out W h kept k (drop i ws) F) ≡ run_all N (max p n) (sum_out W h kept (suc k) (drop (suc i) ws) G)
  condition_done e = ap (run_all N p) (sum_out_step W h kept ws d k i F q) ∙ works_run p h (sum_out W h kept (suc k) (drop (suc i) ws)) e

  pub condition_refused : {r : ℕ} → Stops N (F ∷ kept) (expectation W (get_or ws i d) k F) r → run_all N p (sum_out W h kept k (drop i ws) F) ≡ refused r h.stage
  condition_refused e = ap (run_all N p) (sum_out_step W h kept ws d k i F q) ∙ stops_run p h (sum_out W h kept (suc k) (drop (suc i) ws)) e

-- ---- one action

module _ (M : Model) (N p h : ℕ) (kept : List Tree) (a : ℕ) (x : Action) where
  pub substituted : (P : Tree) {F : Tree} {n : ℕ} → Works N kept (substitute x.levels P) F n → run_all N p (action_total M h kept P a x) ≡ run_all N (max p n) (after_levels M h kept a x F)
  substituted P e = ap (run_all N p) (action_total_is M h kept a x P) ∙ works_run p (moment h a) (after_levels M h kept a x) e

  pub substitute_refused : (P : Tree) {r : ℕ} → Stops N kept (substitute x.levels P) r → run_all N p (action_total M h kept P a x) ≡ refused r h
  substitute_refused P e = ap (run_all N p) (action_total_is M h kept a x P) ∙ stops_run p (moment h a) (after_levels M h kept a x) e

  -- its conditions came to G, the peak s
  module _ (F : Tree) {G : Tree} {s : ℕ} (g : run_all N p (sum_out M.weights (moment h a) kept 1 (drop 0 x.chances) F) ≡ solved G s) where
    pub rewarded : {t : Tree} {n : ℕ} → Works N (G ∷ kept) (add_reward (power M h) x.reward a G) t n → run_all N p (after_levels M h kept a x F) ≡ solved t (max s n)
    rewarded {t} {n} e = after_levels_run M h kept a x N p F ∙ (onward_solved _ g ∙ (works_run s (moment h a) end e ∙ run_all_end N (max s n) t))

    pub reward_refused : {r : ℕ} → Stops N (G ∷ kept) (add_reward (power M h) x.reward a G) r → run_all N p (after_levels M h kept a x F) ≡ refused r h
    reward_refused e = after_levels_run M h kept a x N p F ∙ (onward_solved _ g ∙ stops_run s (moment h a) end e)

  -- or were refused
  pub conditions_refused : (F : Tree) {r b : ℕ} → run_all N p (sum_out M.weights (moment h a) kept 1 (drop 0 x.chances) F) ≡ refused r b → run_all N p (after_levels M h kept a x F) ≡ refused r b
  conditions_refused F g = after_levels_run M h kept a x N p F ∙ onward_refused _ g

-- ---- actions

module _ (M : Model) (N p h : ℕ) (kept : List Tree) (P : Tree) where
  module _ (d : Action) (a i : ℕ) (l : List Action) (F : Tree) (q : i < length l) where
    -- the action's total is G, the peak s
    module _ {G : Tree} {s : ℕ} (g : run_all N p (action_total M h (F ∷ kept) P a (get_or l i d)) ≡ solved G s) where
      pub action_done : {t : Tree} {n : ℕ} → Works N (G ∷ F ∷ kept) (best F G) t n → run_all N p (best_on M h kept P a (drop i l) F) ≡ run_all N (max s n) (best_on M h kept P (suc a) (drop (suc i) l) t)
      action_done e = best_on_step M h kept P d N p a i l F q ∙ (onward_solved _ g ∙ works_run s (moment h a) (best_on M h kept P (suc a) (drop (suc i) l)) e)

      pub best_refused : {r : ℕ} → Stops N (G ∷ F ∷ kept) (best F G) r → run_all N p (best_on M h kept P a (drop i l) F) ≡ refused r h
      best_refused e = best_on_step M h kept P d N p a i l F q ∙ (onward_solved _ g ∙ stops_run s (moment h a) (best_on M h kept P (suc a) (drop (suc i) l)) e)

    pub action_refused : {r b : ℕ} → run_all N p (action_total M h (F ∷ kept) P a (get_or l i d)) ≡ refused r b → run_all N p (best_on M h kept P a (drop i l) F) ≡ refused r b
    action_refused g = best_on_step M h kept P d N p a i l F q ∙ onward_refused _ g

  -- action 1 alone
  pub first_done : {F : Tree} {s : ℕ} → run_all N p (action_total M h kept P 1 M.first) ≡ solved F s → run_all N p (stage_over M h kept P) ≡ run_all N s (best_on M h kept P 2 (drop 0 M.others) F)
  first_done g = stage_over_run M h kept P N p ∙ onward_solved _ g

  pub first_refused : {r b : ℕ} → run_all N p (action_total M h kept P 1 M.first) ≡ refused r b → run_all N p (stage_over M h kept P) ≡ refused r b
  first_refused g = stage_over_run M h kept P N p ∙ onward_refused _ g

-- ---- stages

module _ (M : Model) (N p h : ℕ) (finished : List Tree) (P : Tree) (L : List Tree) (k : ℕ) where
  pub stage_done : {S : Tree} {s : ℕ} → run_all N p (stage_over M h (finished ++ model_diagrams M) P) ≡ solved S s
      → behind L (run_all N p (stages_on M (suc k) h finished P)) ≡ behind (L ++ (S ∷ [])) (run_all N s (stages_on M k (suc h) (S ∷ finished) S))
  stage_done g = stages_step M N p h finished P L k ∙ onward_solved _ g

  pub stage_refused : {r b : ℕ} → run_all N p (stage_over M h (finished ++ model_diagrams M) P) ≡ refused r b → behind L (run_all N p (stages_on M (suc k) h finished P)) ≡ refused r b
  stage_refused g = stages_step M N p h finished P L k ∙ onward_refused _ g

-- stage 0 where there is no end worth
module _ (M : Model) (N p H : ℕ) (none : M.end ≡ []) where
  pub zero_done : {Z : Tree} {n : ℕ} → Works N (model_diagrams M) (make zero_leaf) Z n → run_all N p (all_stages M H) ≡ behind [] (run_all N (max p n) (stages_on M H 1 (Z ∷ []) Z))
  zero_done {Z} {n} e = ap (run_all N p) (all_stages_is M H none) ∙ (works_run p (moment 1 1) (λ Z. stages_on M H 1 (Z ∷ []) Z) e ∙ sym (behind_none (run_all N (max p n) (stages_on M H 1 (Z ∷ []) Z))))

  pub zero_refused : {r : ℕ} → Stops N (model_diagrams M) (make zero_leaf) r → run_all N p (all_stages M H) ≡ refused r 1
  zero_refused e = ap (run_all N p) (all_stages_is M H none) ∙ stops_run p (moment 1 1) (λ Z. stages_on M H 1 (Z ∷ []) Z) e
