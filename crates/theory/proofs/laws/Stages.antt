-- A stage comes to the optimum, and names the lowest_numbered action that reaches it.
use Rattle.std.specs.Prelude.{◌≡◌, ◌↔◌, false, eqb, pos, get_or, take}
use Rattle.std.proofs.Math.Path.{refl, sym, ap, ap₂, subst, fun_ext}
use Rattle.std.proofs.Common.{◌∙◌, ⊎_elim, arith, add-zero, eqb→eq}
use Rattle.std.proofs.Math.Bool.{Bool, true}
use mathlib.Core.List.Memᴰ
use mathlib.Core.List.{List, [], ◌∷◌, ◌++◌, map, Memᴰ}
use Prim.Native.Nat.{ℕ, zero, suc, ◌+◌, ◌-◌, ◌≤◌, ◌<◌}
use Rattle.std.proofs.Math.Dec.{T}
use Rattle.std.proofs.Math.ListN.{length}
use Rattle.whole.specs.Cases.{if, by_test, both}
use Rattle.theory.specs.Diagram.{Leaf, act_of, permitted, Tree, test_of}
use Rattle.theory.specs.Computation.{make, result, operation, final}
use Rattle.theory.specs.Rules.{sum, scale, number, best, zero_leaf, substitute, add_reward}
use Rattle.theory.specs.Total.{Total, num, le_total, ◌⊏◌, ◌⊕◌, weigh, mean, first_best}
use Rattle.theory.specs.Process.{total, optimum, lowest_best}
use Rattle.theory.specs.Process as P
use Rattle.theory.specs.Meaning.{Action, Model, nth_action, action_at, numbers_from, State, Env, env, at, leaf_worth, worth_at, end_at, settings, chance_at, weight, moved, power, process}
use Rattle.theory.specs.Stage.{model_diagrams, sum_out, action_total, best_on, stage_over, stages_on, stages_over_end, all_stages, moment}
use Rattle.theory.specs.Valid.{all, all_nodes, among, good_test, good_leaf, level_leaf, valid_action, valid}
use Rattle.theory.proofs.laws.Total.{⊕_comm}
use Rattle.theory.proofs.laws.Process.{lowest_best_action, lowest_best_total, lowest_best_lowest}
use Rattle.theory.proofs.laws.Comps.{result_bind, final_and_then}
use Rattle.theory.proofs.laws.Values.{zero_at, permitted_at, sum_at, scale_at, number_at, number_act, best_at, if_ap}
use Rattle.theory.proofs.laws.Safe.{any, sure}
use Rattle.theory.proofs.laws.Nodes.{Tests, widen, all_widen, any_closed, best_safe, reward_safe, substitute_safe}
use Rattle.theory.proofs.laws.Valid.{level_permitted, other_above, open_test, open_all, AcceptedAction, accepted, valid_actions, valid_end}
use Rattle.theory.proofs.laws.Expectation.{at_good, levels_permitted, now_test, substitute_at, good_now, sum_out_at, sum_out_tests, env_given}

-- ---- an action's total

module _ (e : Env) (power : ℕ) (reward : Tree) (a : ℕ) (F : Tree) where
  add_reward_result : result (add_reward power reward a F) ≡ result (number a (result (sum F (result (scale (pos power) reward)))))
  unfolding add_reward result
  add_reward_result = result_bind (scale (pos power) reward) _ ∙ result_bind (sum F _) (number a)

  pub add_reward_at : worth_at e (result (add_reward power reward a F)) ≡ weigh power (worth_at e reward) ⊕ worth_at e F
  add_reward_at = ap (worth_at e) add_reward_result ∙ number_at e a _ ∙ sum_at e F _ ∙ ⊕_comm (worth_at e F) _ ∙ ap (λ z. z ⊕ worth_at e F) (scale_at e power reward)

  pub add_reward_act : T (permitted (at e (result (add_reward power reward a F)))) → act_of (at e (result (add_reward power reward a F))) ≡ a
  add_reward_act = subst (λ (G : Tree). T (permitted (at e G)) → act_of (at e G) ≡ a) (sym add_reward_result) (number_act e a _)

pub action_total_final : (M : Model) (h : ℕ) (kept : List Tree) (P : Tree) (a : ℕ) (x : Action) → final (action_total M h kept P a x)
    ≡ result (add_reward (power M h) x.reward a (final (sum_out M.weights (moment h a) kept 1 x.chances (result (substitute x.levels P)))))
unfolding action_total final
action_total_final M h kept P a x = final_and_then (sum_out M.weights (moment h a) kept 1 x.chances (result (substitute x.levels P))) _

-- the actions of a list are a model's, numbered from a on, and accepted
data Listed (M : Model) : ℕ → List Action → Type 0 where
  none : {a : ℕ} → Listed M a []
  one : {a : ℕ} {x : Action} {l : List Action} → action_at M a ≡ x → AcceptedAction M.conditions M.weights x → Listed M (suc a) l → Listed M a (x ∷ l)

-- F names c at s where it is not none
abbrev pub Names : Tree → State → ℕ → Type 0
Names F s c = T (permitted (at (env s []) F)) → act_of (at (env s []) F) ≡ c

-- F comes to what g is at c, and names c; and has no next_step conditions
record StageHolds (M : Model) (g : State → ℕ → Total) (F : Tree) (c : State → ℕ) : Type 0 where
  tests : Tests (now_test M.conditions) F
  worth : (s : State) → worth_at (env s []) F ≡ g s (c s)
  act : (s : State) → Names F s (c s)

-- what the next stage stands on: F comes to the optimum with h steps left
record StageBelow (M : Model) (h : ℕ) (F : Tree) : Type 0 where
  tests : Tests (now_test M.conditions) F
  worth : (s : State) → worth_at (env s []) F ≡ optimum (process M) h s

-- F is stage h: its tests, what it comes to at any state, and the action that it names there
pub record Stage (M : Model) (h : ℕ) (F : Tree) : Type 0 where
  pub tests : Tests (now_test M.conditions) F
  pub worth : (s : State) → worth_at (env s []) F ≡ optimum (process M) h s
  pub act : (s : State) → Names F s (lowest_best (process M) h s)

module _ (M : Model) (h : ℕ) (P : Tree) (below : StageBelow M h P) where
  abbrev totals : State → ℕ → Total
  totals s a = total (process M) (optimum (process M) h) h a s

  module _ (kept : List Tree) (a : ℕ) (ok : AcceptedAction M.conditions M.weights (action_at M a)) where
    abbrev taken : Action
    taken = action_at M a

    abbrev moves : Tree
    moves = result (substitute taken.levels P)

    abbrev summed : Tree
    summed = final (sum_out M.weights (moment (suc h) a) kept 1 taken.chances moves)

    summed_tests : Tests (now_test M.conditions) summed
    unfolding now_test open_test among test_of
    summed_tests = sum_out_tests M.conditions M.weights (moment (suc h) a) kept 1 taken.chances moves (omega (arith, ok.count)) ok.chances
        (sure (substitute taken.levels P) (substitute_safe any_closed (open_test any M.conditions 1) (λ _ _. tt) taken.levels
        (all_widen (all_nodes (good_test M.conditions true) level_leaf) (all_nodes (open_test any M.conditions 1) any)
        (widen (good_test M.conditions true) (open_test any M.conditions 1) level_leaf any (open_all any M.conditions (λ _ _. tt)) (λ _ _. tt)) taken.levels ok.levels)
        (now_test M.conditions) any (λ k q. q) (λ k q. absurd q) P below.tests))

    summed_at : (s : State) → worth_at (env s []) summed
        ≡ mean (weight M.weights (map (chance_at (env s [])) taken.chances)) (λ r. optimum (process M) h (moved s taken.levels r)) (settings M.conditions)
    unfolding env
    summed_at s = sum_out_at M.conditions M.weights (moment (suc h) a) kept 1 taken.chances moves ok.chances (env s [])
        ∙ ap₂ (λ (f : List Bool → Total) (k : ℕ). mean (weight M.weights (map (chance_at (env s [])) taken.chances)) f (settings k))
        (fun_ext (λ r. ap (λ (e : Env). worth_at e moves) (env_given s r) ∙ substitute_at M.conditions s r taken.levels
        (levels_permitted (env s r) (good_test M.conditions true) taken.levels ok.levels) P below.tests ∙ below.worth (moved s taken.levels r)))
        ok.count

    total_holds : StageHolds M totals (final (action_total M (suc h) kept P a taken)) (λ _. a)
    unfolding total process
    total_holds = rw (action_total_final M (suc h) kept P a taken) (record {
      tests = sure (add_reward (power M (suc h)) taken.reward a summed) (reward_safe any_closed (now_test M.conditions) any (power M (suc h)) taken.reward a summed (λ _ _ _. tt) tt
          (widen (good_test M.conditions false) (now_test M.conditions) good_leaf any (good_now M.conditions) (λ _ _. tt) taken.reward ok.reward) summed_tests);
      worth = λ s. add_reward_at (env s []) (power M (suc h)) taken.reward a summed ∙ ap (λ z. weigh (power M (suc h)) (worth_at (env s []) taken.reward) ⊕ z) (summed_at s);
      act = λ s. add_reward_act (env s []) (power M (suc h)) taken.reward a summed;
    })

  listed_holds : (kept : List Tree) (a : ℕ) (x : Action) → action_at M a ≡ x → AcceptedAction M.conditions M.weights x → StageHolds M totals (final (action_total M (suc h) kept P a x)) (λ _. a)
  listed_holds kept a x q ok = rw (← q) (total_holds kept a (rw q ok))

  -- ---- the best of the actions

  best_holds : (F G : Tree) (c d : State → ℕ) → StageHolds M totals F c → StageHolds M totals G d → StageHolds M totals (result (best F G)) (λ s. if (le_total (totals s (d s)) (totals s (c s))) (c s) (d s))
  unfolding now_test worth_at test_of
  best_holds F G c d p q = record {
    tests = sure (best F G) (best_safe any_closed (now_test M.conditions) (λ _ _. tt) any (λ _ _. tt) F G p.tests q.tests);
    worth = λ s. ap (leaf_worth (env s [])) (picked s) ∙ if_ap (leaf_worth (env s [])) (second s) _ _
        ∙ ap₂ (if (second s)) (p.worth s) (q.worth s) ∙ sym (if_ap (totals s) (second s) (c s) (d s));
    act = λ s. subst (λ (f : Leaf). T (permitted f) → act_of f ≡ if (second s) (c s) (d s)) (sym (picked s))
        (by_test (second s) (λ b. T (permitted (if b (at (env s []) F) (at (env s []) G))) → act_of (if b (at (env s []) F) (at (env s []) G)) ≡ if b (c s) (d s))
        (λ _. p.act s) (λ _. q.act s));
  }
    where
      second : State → Bool
      second s = le_total (totals s (d s)) (totals s (c s))

      picked : (s : State) → at (env s []) (result (best F G)) ≡ if (second s) (at (env s []) F) (at (env s []) G)
      picked s = best_at (env s []) F G ∙ ap₂ (λ y z. if (le_total y z) (at (env s []) F) (at (env s []) G)) (q.worth s) (p.worth s)

  best_on_holds : (kept : List Tree) (a : ℕ) (l : List Action) (F : Tree) (c : State → ℕ) → Listed M a l → StageHolds M totals F c
      → StageHolds M totals (final (best_on M (suc h) kept P a l F)) (λ s. first_best (totals s) (c s) (numbers_from a l))
  unfolding best_on final first_best numbers_from
  best_on_holds kept a [] F c none p = p
  best_on_holds kept a (x ∷ l) F c (one q ok r) p =
      let G = final (action_total M (suc h) (F ∷ kept) P a x) in
      rw (final_and_then (action_total M (suc h) (F ∷ kept) P a x) (λ G. operation (moment (suc h) a) (G ∷ F ∷ kept) (best F G) (best_on M (suc h) kept P (suc a) l)))
      (best_on_holds kept (suc a) l (result (best F G)) (λ s. if (le_total (totals s a) (totals s (c s))) (c s) a) r (best_holds F G c (λ _. a) p (listed_holds (F ∷ kept) a x q ok)))

  stage_holds : (kept : List Tree) → Listed M 1 (M.first ∷ M.others) → StageHolds M totals (final (stage_over M (suc h) kept P)) (lowest_best (process M) (suc h))
  unfolding stage_over lowest_best process
  stage_holds kept (one q ok r) = rw (final_and_then (action_total M (suc h) kept P 1 M.first) (best_on M (suc h) kept P 2 M.others))
      (best_on_holds kept 2 M.others _ (λ _. 1) r (listed_holds kept 1 M.first q ok))

  stage_next : (kept : List Tree) → Listed M 1 (M.first ∷ M.others) → Stage M (suc h) (final (stage_over M (suc h) kept P))
  stage_next kept l = let p = stage_holds kept l in record { tests = p.tests; worth = λ s. p.worth s ∙ sym (lowest_best_total (process M) h s); act = p.act }

-- ---- all stages

module _ (M : Model) where
  abbrev valid_one : Action → Bool
  valid_one = valid_action M.levels M.conditions M.weights

  listed_from : (x : Action) (l : List Action) (a : ℕ) → ((k : ℕ) → action_at M (a + k) ≡ nth_action x l k) → T (all valid_one (x ∷ l)) → Listed M a (x ∷ l)
  unfolding nth_action all
  listed_from x [] a f q = one (ap (action_at M) (sym (add-zero a)) ∙ f 0) (accepted _ _ _ x (both (valid_one x) true q).0) none
  listed_from x (y ∷ l) a f q =
      let d = both (valid_one x) (all valid_one (y ∷ l)) q in
      one (ap (action_at M) (sym (add-zero a)) ∙ f 0) (accepted _ _ _ x d.0) (listed_from y l (suc a) (λ k. ap (action_at M) (omega arith) ∙ f (suc k)) d.1)

  listed : T (valid M) → Listed M 1 (M.first ∷ M.others)
  unfolding action_at
  listed q = listed_from M.first M.others 1 (λ k. ap (nth_action M.first M.others) (omega arith)) (valid_actions M q)

  pub stages_final : (k h : ℕ) (finished : List Tree) (P : Tree) → final (stages_on M (suc k) h finished P)
      ≡ (let S = final (stage_over M h (finished ++ model_diagrams M) P) in S ∷ final (stages_on M k (suc h) (S ∷ finished) S))
  unfolding stages_on final
  stages_final k h finished P =
      let S = final (stage_over M h (finished ++ model_diagrams M) P) in
      final_and_then (stage_over M h (finished ++ model_diagrams M) P) _ ∙ final_and_then (stages_on M k (suc h) (S ∷ finished) S) _

  stages_length : (k h : ℕ) (finished : List Tree) (P : Tree) → length (final (stages_on M k h finished P)) ≡ k
  unfolding stages_on final
  stages_length zero h finished P = refl
  stages_length (suc k) h finished P = ap length (stages_final k h finished P) ∙ ap suc (stages_length k (suc h) _ _)

  stages_take : (k K h : ℕ) (finished : List Tree) (P : Tree) → k ≤ K → final (stages_on M k h finished P) ≡ take k (final (stages_on M K h finished P))
  unfolding stages_on final
  stages_take zero K h finished P q = refl
  stages_take (suc k) zero h finished P q = absurd (omega arith)
  stages_take (suc k) (suc K) h finished P q =
      let S = final (stage_over M h (finished ++ model_diagrams M) P) in
      stages_final k h finished P ∙ ap (λ (l : List Tree). S ∷ l) (stages_take k K (suc h) (S ∷ finished) S (omega arith)) ∙ sym (ap (take (suc k)) (stages_final K h finished P))

  over_end_length : (H : ℕ) (l : List Tree) → length (final (stages_over_end M H l)) ≡ H
  unfolding stages_over_end final make result
  over_end_length H [] = stages_length H 1 _ _
  over_end_length H (E ∷ l) = stages_length H 1 _ _

  -- the stages up to a horizon, as many as its steps
  pub all_stages_length : (H : ℕ) → length (final (all_stages M H)) ≡ H
  unfolding all_stages
  all_stages_length H = over_end_length H M.end

  over_end_take : (H K : ℕ) → H ≤ K → (l : List Tree) → final (stages_over_end M H l) ≡ take H (final (stages_over_end M K l))
  unfolding stages_over_end final make result
  over_end_take H K q [] = stages_take H K 1 _ _ q
  over_end_take H K q (E ∷ l) = stages_take H K 1 _ _ q

  -- a smaller horizon's are the first of them
  pub all_stages_take : (H K : ℕ) → H ≤ K → final (all_stages M H) ≡ take H (final (all_stages M K))
  unfolding all_stages
  all_stages_take H K q = over_end_take H K q M.end

  -- stage h, of those up to horizon H
  unfoldable pub stage_of : ℕ → ℕ → Tree
  stage_of H h = get_or (final (all_stages M H)) (h - 1) zero_leaf

  module _ (ok : T (valid M)) where
    stages_on_at : (k h : ℕ) (finished : List Tree) (P : Tree) → StageBelow M h P → (i : ℕ) → i < k → Stage M (suc (h + i)) (get_or (final (stages_on M k (suc h) finished P)) i zero_leaf)
    stages_on_at zero h finished P p i q = absurd (omega arith)
    stages_on_at (suc k) h finished P p zero q =
        rw (stages_final k (suc h) finished P, add-zero h) (stage_next M h P p (finished ++ model_diagrams M) (listed ok))
    stages_on_at (suc k) h finished P p (suc i) q =
        let S = final (stage_over M (suc h) (finished ++ model_diagrams M) P) in
        let b = stage_next M h P p (finished ++ model_diagrams M) (listed ok) in
        rw (stages_final k (suc h) finished P) (subst (λ (j : ℕ). Stage M (suc j) (get_or (final (stages_on M k (suc (suc h)) (S ∷ finished) S)) i zero_leaf)) (omega arith)
        (stages_on_at k (suc h) (S ∷ finished) S (record { tests = b.tests; worth = b.worth }) i (omega arith)))

    -- stage 0, where V₀ is F's worth
    over : (finished : List Tree) (F : Tree) → StageBelow M 0 F → (H i : ℕ) → i < H → Stage M (suc i) (get_or (final (stages_on M H 1 finished F)) i zero_leaf)
    over finished F b H i q = subst (λ (j : ℕ). Stage M (suc j) (get_or (final (stages_on M H 1 finished F)) i zero_leaf)) (omega arith) (stages_on_at H 0 finished F b i q)

    over_end : (l : List Tree) → M.end ≡ l → T (all (all_nodes (good_test M.conditions false) level_leaf) l)
        → (H i : ℕ) → i < H → Stage M (suc i) (get_or (final (stages_over_end M H l)) i zero_leaf)
    unfolding stages_over_end final make result optimum process end_at all zero_leaf all_nodes
    over_end [] e t = over _ zero_leaf (record { tests = tt; worth = λ s. zero_at (env s []) ∙ ap num (sym (ap (end_at (env s [])) e)) })
    over_end (E ∷ l) e t =
        let n = M.conditions in
        let g = (both (all_nodes (good_test n false) level_leaf E) _ t).0 in
        over _ E (record {
          tests = widen (good_test n false) (now_test n) level_leaf any (good_now n) (λ _ _. tt) E g;
          worth = λ s. permitted_at (env s []) E (level_permitted _ (at_good (env s []) (good_test n false) level_leaf E g)) ∙ ap num (sym (ap (end_at (env s [])) e));
        })

    -- "V_h(s)" and the action of stage h
    pub stages_at : (H h : ℕ) → 1 ≤ h → h ≤ H → Stage M h (stage_of H h)
    unfolding stage_of all_stages
    stages_at H zero p q = absurd (omega arith)
    stages_at H (suc i) p q =
        let l = final (stages_over_end M H M.end) in
        subst (λ (j : ℕ). Stage M (suc j) (get_or l (suc i - 1) zero_leaf)) (omega arith) (over_end M.end refl (valid_end M ok) H (suc i - 1) (omega arith))

-- ---- actions by their numbers

numbers_in : {X : Type 0} (l : List X) (a b : ℕ) → Memᴰ b (numbers_from a l) → (a ≤ b) × (b < a + length l)
unfolding numbers_from
numbers_in [] a b m = absurd (Memᴰ.not-nil m)
numbers_in (x ∷ l) a b m = ⊎_elim (λ q. (omega arith, omega arith)) (λ i. let d = numbers_in l (suc a) b i in (omega arith, omega arith)) (Memᴰ.cases_cons m)

in_numbers : {X : Type 0} (l : List X) (a b : ℕ) → a ≤ b → b < a + length l → Memᴰ b (numbers_from a l)
unfolding numbers_from
in_numbers [] a b p q = absurd (omega arith)
in_numbers (x ∷ l) a b p q = by_test (eqb b a) (λ _. Memᴰ b (a ∷ numbers_from (suc a) l)) (λ t. Memᴰ.head (eqb→eq b a t))
    (λ t. Memᴰ.tail (in_numbers l (suc a) b (other_above a b p t) (omega arith)))

-- numbers rise: what is below c stands before it
stands_before : {X : Type 0} (l : List X) (a c b : ℕ) (k r : List ℕ) → numbers_from a l ≡ k ++ (c ∷ r) → Memᴰ b (numbers_from a l) → b < c → Memᴰ b k
unfolding numbers_from
stands_before [] a c b k r q m h = absurd (Memᴰ.not-nil m)
stands_before (x ∷ l) a c b [] r q m h = let e : a ≡ c = cc in absurd (let d = numbers_in (x ∷ l) a b m in omega arith)
stands_before (x ∷ l) a c b (y ∷ k) r q m h =
    let e : a ≡ y = cc in
    let f : numbers_from (suc a) l ≡ k ++ (c ∷ r) = cc in
    ⊎_elim (λ i. Memᴰ.head (i ∙ e)) (λ i. Memᴰ.tail (stands_before l (suc a) c b k r f i h)) (Memᴰ.cases_cons m)

module _ (M : Model) where
  -- the actions are numbered 1 to A
  pub action_numbers : (b : ℕ) → P.Action (process M) b ↔ ((1 ≤ b) × (b ≤ suc (length M.others)))
  unfolding process numbers_from
  action_numbers b = (
    λ m. let d = numbers_in (M.first ∷ M.others) 1 b m in (d.0, omega arith),
    λ d. in_numbers (M.first ∷ M.others) 1 b d.0 (omega arith),
  )

  below : (c b : ℕ) (k r : List ℕ) → (process M).first ∷ (process M).others ≡ k ++ (c ∷ r) → P.Action (process M) b → b < c → Memᴰ b k
  unfolding process numbers_from
  below c b k r = stands_before (M.first ∷ M.others) 1 c b k r

  -- no action with a lower number reaches it
  pub lowest_numbered : (h : ℕ) (s : State) (b : ℕ) → 1 ≤ b → b < lowest_best (process M) (suc h) s
      → total (process M) (optimum (process M) h) h b s ⊏ total (process M) (optimum (process M) h) h (lowest_best (process M) (suc h) s) s
  lowest_numbered h s b p q =
      let low = lowest_best_lowest (process M) h s in
      let d = (action_numbers (lowest_best (process M) (suc h) s)).0 (lowest_best_action (process M) (suc h) s) in
      low.less b (below (lowest_best (process M) (suc h) s) b low.before low.after low.split ((action_numbers b).1 (p, omega arith)) q)
