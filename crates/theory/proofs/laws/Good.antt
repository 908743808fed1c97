-- Every node of every stage of a solved model is good: its linears are wide, its conditions and actions among the model's.
use Rattle.std.specs.Prelude.{◌≡◌, refl, Bool, false, true, T, length}
use Rattle.std.proofs.Math.Path.{ap}
use mathlib.Core.List.{List, [], ◌∷◌, ◌++◌}
use Prim.Native.Nat.{ℕ, zero, suc, ◌+◌, ◌≤◌}
use Rattle.std.proofs.Common.{arith}
use Rattle.whole.specs.Cases.{both, and_in}
use Rattle.theory.specs.Diagram.{Linear, Test, now, later, Leaf, some, forbidden, lin_of, Tree, divisor, test_of}
use Rattle.theory.specs.Computation.{make, end, solved, run_all, Moment}
use Rattle.theory.specs.Rules.{best, zero_leaf, substitute, expectation}
use Rattle.theory.specs.Meaning.{Action, Model, power}
use Rattle.theory.specs.Stage.{model_diagrams, sum_out, action_total, best_on, stage_over, stages_on, stages_over_end, all_stages, moment}
use Rattle.theory.specs.Valid.{all, all_nodes, among, wide, good_test, good_leaf, level_leaf, stage_leaf, weight_leaf, valid_action, valid}
use Rattle.theory.proofs.laws.Safe.{SafeOps, safe_make, safe_end, safe_operation, safe_then, run_all_safe}
use Rattle.theory.proofs.laws.Nodes.{GoodTree, widen, all_widen, expectation_safe, zero_good, best_safe, substitute_safe, reward_safe}
use Rattle.theory.proofs.laws.Valid.{among_in, wide_long, leaf_wide, level_good, weight_good, stage_wide, wide_leaf, quotient_wide, good_closed, open_test, open_all, open_now, open_next, open_none, accepted, valid_actions, valid_end}

-- ---- stages

chance_left : (n W k : ℕ) (w : Tree) → GoodTree (good_test n false) (weight_leaf W) w → GoodTree (open_test wide n k) good_leaf w
chance_left n W k = widen (good_test n false) (open_test wide n k) (weight_leaf W) good_leaf (open_now wide n (λ _ t. t) k) (weight_good W)

levels_left : (n : ℕ) (Ds : List Tree) → T (all (all_nodes (good_test n true) level_leaf) Ds) → T (all (all_nodes (open_test wide n 1) good_leaf) Ds)
levels_left n = all_widen (all_nodes (good_test n true) level_leaf) (all_nodes (open_test wide n 1) good_leaf)
    (widen (good_test n true) (open_test wide n 1) level_leaf good_leaf (open_all wide n (λ _ t. t)) level_good)

closed : (n k : ℕ) → k ≡ suc n → (t : Test) → T (open_test wide n k t) → T (good_test n false t)
unfolding good_test
closed n = open_none wide n (good_test n false) (λ j a. a) (λ p a. a)

-- after the last condition no next_step one is left
pub sum_out_safe : (n W : ℕ) (h : Moment) (kept : List Tree) (k : ℕ) (ws : List Tree) (F : Tree) → k + length ws ≡ suc n → T (all (all_nodes (good_test n false) (weight_leaf W)) ws)
    → GoodTree (open_test wide n k) good_leaf F → SafeOps (GoodTree (good_test n false) good_leaf) (sum_out W h kept k ws F)
unfolding sum_out all
sum_out_safe n W h kept k [] F e c a =
    safe_end _ F (widen (open_test wide n k) (good_test n false) good_leaf good_leaf (closed n k (omega arith)) (λ f t. t) F a)
sum_out_safe n W h kept k (w ∷ ws) F e c a =
    let d = both (all_nodes (good_test n false) (weight_leaf W) w) (all (all_nodes (good_test n false) (weight_leaf W)) ws) c in
    safe_operation _ h (F ∷ kept) (expectation W w k F) (sum_out W h kept (suc k) ws)
    (expectation_safe good_closed (open_test wide n (suc k)) (open_test wide n k) W w k (open_next wide n k) (chance_left n W (suc k) w d.0) F a)
    (λ G b. sum_out_safe n W h kept (suc k) ws G (omega arith) d.1 b)

good_open : (n k : ℕ) → T (good_test n false (now k)) → T (open_test wide n 1 (later k))
unfolding good_test open_test among
good_open n k t = t

none_later : {A : Type 0} (n k : ℕ) → T (good_test n false (later k)) → A
unfolding good_test
none_later n k t = absurd t

-- a divided test of a good leaf's linear
module _ (n : ℕ) where
  open_linear : (k : ℕ) (f : Leaf) → T (good_leaf f) → T (open_test wide n k (test_of (lin_of f)))
  unfolding open_test test_of
  open_linear k f a = quotient_wide (divisor (lin_of f)) (lin_of f) (leaf_wide f a)

  good_linear : (f : Leaf) → T (good_leaf f) → T (good_test n false (test_of (lin_of f)))
  unfolding good_test test_of
  good_linear f a = quotient_wide (divisor (lin_of f)) (lin_of f) (leaf_wide f a)

numbered : (A a : ℕ) → T (among A a) → (p : Linear) (b : ℕ) → T (good_leaf (some p b)) → T (stage_leaf A (some p a))
unfolding stage_leaf lin_of
numbered A a i p b t = and_in (wide p) (among A a) (leaf_wide (some p b) t) i

none_staged : (A : ℕ) → T (stage_leaf A forbidden)
unfolding stage_leaf
none_staged A = tt

module _ (M : Model) where
  abbrev acts : ℕ
  acts = suc (length M.others)

  abbrev now? : Test → Bool
  now? = good_test M.conditions false

  abbrev stage? : Leaf → Bool
  stage? = stage_leaf acts

  -- a diagram whose nodes are good, and whose leaves are numbered
  abbrev pub StageGood : Tree → Type 0
  StageGood F = GoodTree now? stage? F

  -- such, its leaves numbered or not
  abbrev pub WideGood : Tree → Type 0
  WideGood F = GoodTree now? wide_leaf F

  abbrev pub fits : Action → Bool
  fits = valid_action M.levels M.conditions M.weights

  stage_to_wide : (F : Tree) → StageGood F → WideGood F
  stage_to_wide = widen now? now? stage? wide_leaf (λ _ t. t) (stage_wide acts)

  module _ (h : ℕ) (P : Tree) (good : WideGood P) where
    total_safe : (kept : List Tree) (a : ℕ) (x : Action) → T (among acts a) → T (fits x) → SafeOps StageGood (action_total M h kept P a x)
    unfolding action_total
    total_safe kept a x i v =
        let n = M.conditions in
        let f = accepted M.levels n M.weights x v in
        safe_operation _ (moment h a) kept (substitute x.levels P) _
        (substitute_safe good_closed (open_test wide n 1) (open_linear n 1) x.levels (levels_left n x.levels f.levels) (good_test n false) wide_leaf (good_open n) (λ k t. none_later n k t) P good)
        (λ F a₁. safe_then _ (sum_out M.weights (moment h a) kept 1 x.chances F) _ (sum_out_safe n M.weights (moment h a) kept 1 x.chances F (let c = f.count in omega arith) f.chances a₁)
        (λ G a₂. safe_operation _ (moment h a) (G ∷ kept) _ end
        (reward_safe good_closed (good_test n false) (stage_leaf acts) (power M h) x.reward a G (numbered acts a i) (none_staged acts) f.reward a₂) (safe_end _)))

    best_on_safe : (kept : List Tree) (a : ℕ) (l : List Action) (F : Tree) → 1 ≤ a → a + length l ≡ suc acts → T (all fits l) → StageGood F → SafeOps StageGood (best_on M h kept P a l F)
    unfolding best_on all
    best_on_safe kept a [] F i e v b = safe_end _ F b
    best_on_safe kept a (x ∷ l) F i e v b =
        let d = both (fits x) (all fits l) v in
        safe_then _ (action_total M h (F ∷ kept) P a x) _ (total_safe (F ∷ kept) a x (among_in _ a i (omega arith)) d.0)
        (λ G c. safe_operation _ (moment h a) (G ∷ F ∷ kept) (best F G) (best_on M h kept P (suc a) l)
        (best_safe good_closed now? (good_linear M.conditions) stage? (λ f t. wide_long (lin_of f) (stage_wide acts f t)) F G b c)
        (λ S s. best_on_safe kept (suc a) l S (omega arith) (omega arith) d.1 s))

    pub stage_safe : (kept : List Tree) → T (all fits (M.first ∷ M.others)) → SafeOps StageGood (stage_over M h kept P)
    unfolding stage_over all
    stage_safe kept v =
        let d = both (fits M.first) (all fits M.others) v in
        safe_then _ (action_total M h kept P 1 M.first) _ (total_safe kept 1 M.first (among_in _ 1 (omega arith) (omega arith)) d.0)
        (λ F b. best_on_safe kept 2 M.others F (omega arith) (omega arith) d.1 b)

  -- k stages, and all good
  abbrev pub StagesGood : ℕ → List Tree → Type 0
  StagesGood k S = T (all (all_nodes now? stage?) S) × (length S ≡ k)

  pub stages_safe : T (all fits (M.first ∷ M.others)) → (k h : ℕ) (finished : List Tree) (P : Tree) → WideGood P → SafeOps (StagesGood k) (stages_on M k h finished P)
  unfolding stages_on all
  stages_safe v zero h finished P a = safe_end _ [] (tt, refl)
  stages_safe v (suc k) h finished P a =
      safe_then _ (stage_over M h (finished ++ model_diagrams M) P) _ (stage_safe h P a (finished ++ model_diagrams M) v)
      (λ S s. safe_then _ (stages_on M k (suc h) (S ∷ finished) S) _ (stages_safe v k (suc h) (S ∷ finished) S (stage_to_wide S s))
      (λ l r. safe_end _ (S ∷ l) (and_in (all_nodes now? stage? S) _ s r.0, ap suc r.1)))

  pub all_stages_safe : T (valid M) → (H : ℕ) → SafeOps (StagesGood H) (all_stages M H)
  unfolding all_stages stages_over_end all
  all_stages_safe v H = over_end M.end (valid_end M v)
    where
      as_wide : (F : Tree) → GoodTree now? good_leaf F → WideGood F
      as_wide = widen now? now? good_leaf wide_leaf (λ _ t. t) leaf_wide

      as_good : (F : Tree) → GoodTree now? level_leaf F → GoodTree now? good_leaf F
      as_good = widen now? now? level_leaf good_leaf (λ _ t. t) level_good

      over_end : (l : List Tree) → T (all (all_nodes now? level_leaf) l) → SafeOps (StagesGood H) (stages_over_end M H l)
      over_end [] t = safe_operation _ (moment 1 1) (model_diagrams M) (make zero_leaf) _ (safe_make zero_leaf (as_wide zero_leaf (zero_good good_closed now?)))
          (λ Z z. stages_safe (valid_actions M v) H 1 (Z ∷ []) Z z)
      over_end (E ∷ l) t = stages_safe (valid_actions M v) H 1 _ E (as_wide E (as_good E (both (all_nodes now? level_leaf E) _ t).0))

-- the stages of a solved model: as many as steps, each node good, each leaf with an action of the model
pub stages_good : (M : Model) → T (valid M) → (N p H : ℕ) (S : List Tree) (q : ℕ) → run_all N p (all_stages M H) ≡ solved S q
    → T (all (all_nodes (good_test M.conditions false) (stage_leaf (suc (length M.others)))) S) × (length S ≡ H)
stages_good M v N p H S q e = run_all_safe (StagesGood M H) N p (all_stages M H) S q e (all_stages_safe M v H)
