-- Every diagram of a model that is loaded, and of its stages, is ordered.
use Rattle.std.specs.Prelude.{◌≡◌}
use Rattle.std.proofs.Common.{sym, subst}
use mathlib.Core.List.{List, [], ◌∷◌, ◌++◌, map}
use Prim.Native.Nat.{ℕ, zero, suc, ◌-◌}
use Rattle.whole.specs.Cases.{if, by_test}
use Rattle.whole.specs.Within.{small}
use Rattle.theory.specs.Diagram.{Test, Tree, leaf, plain, test_of}
use Rattle.theory.specs.Computation.{Comp, ret, bind, make, end, solved, Moment}
use Rattle.theory.specs.Rules.{choose, best, zero_leaf, substitute, expectation, add_reward, none_leaf}
use Rattle.theory.specs.Meaning.{Action, Model, power}
use Rattle.theory.specs.Stage.{model_diagrams, sum_out, action_total, best_on, stage_over, stages_on, stages_over_end, all_stages, moment}
use Rattle.theory.specs.Command.{Command, site, push_leaf, push_condition, push_test, push_forbidden, name_action, end_model, Read, whole, unknown, short, Placed, readings, give, Slot}
use Rattle.theory.specs.Verdict.{Site, same_slot, reward_slot, chance_slot, level_slot, end_slot, from_to}
use Rattle.theory.specs.Load.{Entry, Loaded, condition_test, load_choice, load_choice_with, load_entry, load_one, load_one_with, load_on, load_on_with, find_slot, found, action_of, model_of, site_at, model}
use Rattle.theory.specs.Solve.{solve_in}
use Rattle.theorems.specs.Ordered.{Ordered, AllOrdered, ActionOrdered, ActionsOrdered, ModelOrdered}
use Rattle.theory.proofs.laws.Safe.{Safe, safe_ret, safe_make, safe_bind, any, sure, SafeOps, safe_end, safe_operation, safe_then, run_all_safe}
use Rattle.theory.proofs.laws.AcceptedModel.{model_loaded}
use Rattle.theory.specs.Load.{loaded_entries}
use Rattle.theory.proofs.laws.Rows.{solve_runs}
use Rattle.theorems.proofs.laws.Ordered.{zero_ordered, choose_ordered, best_ordered, substitute_ordered, expectation_ordered, reward_ordered}

-- ---- loading

abbrev EntriesOrdered : List Entry → Type 0
EntriesOrdered [] = Unit {0}
EntriesOrdered (e ∷ E) = Ordered e.tree × EntriesOrdered E

abbrev HeldOrdered : Loaded → Type 0
HeldOrdered s = AllOrdered s.stack × EntriesOrdered s.entries

abbrev HoldsOrdered : Comp Loaded → Type 0
HoldsOrdered m = Safe any HeldOrdered m

choice_ordered : (t : Test) (K : List Tree) (E : List Entry) → AllOrdered K → EntriesOrdered E → HoldsOrdered (load_choice t K E)
unfolding load_choice_with
choice_ordered t [] E k e = safe_ret (tt, e)
choice_ordered t (low ∷ []) E k e = safe_ret (tt, e)
choice_ordered t (low ∷ high ∷ K) E k e = safe_bind (choose t high low) _ (choose_ordered any t high low k.1.0 k.0) (λ r o. safe_ret ((o, k.1.1), e))

entry_ordered : (g : Slot) (K : List Tree) (E : List Entry) → AllOrdered K → EntriesOrdered E → HoldsOrdered (load_entry g K E)
unfolding load_entry
entry_ordered g [] E k e = safe_ret (tt, e)
entry_ordered g (t ∷ K) E k e = safe_ret {a = record { stack = K; entries = record { slot = g; tree = t } ∷ E }} (k.1, (k.0, e))

one_ordered : (c : Command) (s : Loaded) → HeldOrdered s → HoldsOrdered (load_one c s)
unfolding load_one_with
one_ordered (site m n a w) s d = safe_ret d
one_ordered (push_leaf p) s d = safe_bind (make (leaf (plain p))) _ (safe_make {R = Ordered} (leaf (plain p)) tt) (λ t o. safe_ret ((o, d.0), d.1))
one_ordered (push_condition k) s d = choice_ordered (condition_test k) s.stack s.entries d.0 d.1
one_ordered (push_test p) s d = choice_ordered (test_of p) s.stack s.entries d.0 d.1
one_ordered push_forbidden s d = safe_bind (make none_leaf) _ (safe_make {R = Ordered} none_leaf tt) (λ t o. safe_ret ((o, d.0), d.1))
one_ordered (give g) s d = entry_ordered g s.stack s.entries d.0 d.1
one_ordered (name_action a b) s d = safe_ret d
one_ordered end_model s d = safe_ret d

on_ordered : (l : List Placed) (s : Loaded) → HeldOrdered s → HoldsOrdered (load_on l s)
unfolding load_on_with
on_ordered [] s d = safe_ret d
on_ordered (x ∷ l) s d = go x.read (λ s d. on_ordered l s d)
  where
    go : (r : Read) → ((s : Loaded) → HeldOrdered s → HoldsOrdered (load_on l s)) → HoldsOrdered (elim r [ whole c ↦ bind (load_one c s) (load_on l) | unknown ↦ ret s | short ↦ ret s ])
    go (whole c) ih = safe_bind (load_one c s) (load_on l) (one_ordered c s d) ih
    go unknown ih = safe_ret d
    go short ih = safe_ret d

found_ordered : (g : Slot) (E : List Entry) → EntriesOrdered E → Ordered (find_slot g E)
unfolding find_slot
found_ordered g [] e = zero_ordered any
found_ordered g (x ∷ E) e = by_test (same_slot g x.slot) (λ b. Ordered (if b x.tree (find_slot g E))) (λ _. e.0) (λ _. found_ordered g E e.1)

end_ordered : (g : Slot) (E : List Entry) → EntriesOrdered E → AllOrdered (found g E)
unfolding found
end_ordered g [] e = tt
end_ordered g (x ∷ E) e = by_test (same_slot g x.slot) (λ b. AllOrdered (if b (x.tree ∷ []) (found g E))) (λ _. (e.0, tt)) (λ _. end_ordered g E e.1)

each_ordered : (f : ℕ → Tree) → ((k : ℕ) → Ordered (f k)) → (l : List ℕ) → AllOrdered (map f l)
each_ordered f o [] = tt
each_ordered f o (k ∷ l) = (o k, each_ordered f o l)

actions_ordered : (f : ℕ → Action) → ((k : ℕ) → ActionOrdered (f k)) → (l : List ℕ) → ActionsOrdered (map f l)
actions_ordered f o [] = tt
actions_ordered f o (k ∷ l) = (o k, actions_ordered f o l)

action_ordered : (S : Site) (E : List Entry) → EntriesOrdered E → (a : ℕ) → ActionOrdered (action_of S E a)
unfolding action_of
action_ordered S E e a = (
  found_ordered (reward_slot a) E e,
  (
    each_ordered (λ k. find_slot (chance_slot a k) E) (λ k. found_ordered (chance_slot a k) E e) (from_to 1 S.conditions),
    each_ordered (λ i. find_slot (level_slot a i) E) (λ i. found_ordered (level_slot a i) E e) (from_to 1 S.levels),
  ),
)

-- whatever the bytes, what is loaded is ordered
pub loaded_ordered : (B : List ℕ) → ModelOrdered (model B)
unfolding model_of
loaded_ordered B =
    let e : EntriesOrdered (loaded_entries B) = (sure (load_on (readings B) (record { stack = []; entries = [] })) (on_ordered (readings B) (record { stack = []; entries = [] }) (tt, tt))).1 in
    subst ModelOrdered (sym (model_loaded B)) (
      action_ordered (site_at B) (loaded_entries B) e 1,
      (
        actions_ordered (action_of (site_at B) (loaded_entries B)) (action_ordered (site_at B) (loaded_entries B) e) (from_to 2 ((site_at B).actions - 1)),
        end_ordered end_slot (loaded_entries B) e,
      ),
    )

-- ---- stages

sum_out_ordered : (W : ℕ) (h : Moment) (kept : List Tree) (k : ℕ) (ws : List Tree) (F : Tree) → AllOrdered ws → Ordered F → SafeOps Ordered (sum_out W h kept k ws F)
unfolding sum_out
sum_out_ordered W h kept k [] F a o = safe_end Ordered F o
sum_out_ordered W h kept k (w ∷ ws) F a o = safe_operation Ordered h (F ∷ kept) (expectation W w k F) (sum_out W h kept (suc k) ws)
    (expectation_ordered small W w k F a.0 o) (λ t r. sum_out_ordered W h kept (suc k) ws t a.1 r)

module _ (M : Model) (h : ℕ) (P : Tree) where
  total_ordered : (kept : List Tree) (a : ℕ) (x : Action) → ActionOrdered x → SafeOps Ordered (action_total M h kept P a x)
  unfolding action_total
  total_ordered kept a x o = safe_operation Ordered (moment h a) kept (substitute x.levels P) _ (substitute_ordered small x.levels o.1.1 P)
      (λ F f. safe_then Ordered (sum_out M.weights (moment h a) kept 1 x.chances F) _ (sum_out_ordered M.weights (moment h a) kept 1 x.chances F o.1.0 f)
      (λ G g. safe_operation Ordered (moment h a) (G ∷ kept) (add_reward (power M h) x.reward a G) end (reward_ordered small (power M h) x.reward a G o.0 g) (safe_end Ordered)))

  best_on_ordered : (kept : List Tree) (a : ℕ) (l : List Action) (F : Tree) → ActionsOrdered l → Ordered F → SafeOps Ordered (best_on M h kept P a l F)
  unfolding best_on
  best_on_ordered kept a [] F o p = safe_end Ordered F p
  best_on_ordered kept a (x ∷ l) F o p = safe_then Ordered (action_total M h (F ∷ kept) P a x) _ (total_ordered (F ∷ kept) a x o.0)
      (λ G g. safe_operation Ordered (moment h a) (G ∷ F ∷ kept) (best F G) (best_on M h kept P (suc a) l) (best_ordered small F G) (λ S s. best_on_ordered kept (suc a) l S o.1 s))

  stage_ordered : (kept : List Tree) → ModelOrdered M → SafeOps Ordered (stage_over M h kept P)
  unfolding stage_over
  stage_ordered kept o = safe_then Ordered (action_total M h kept P 1 M.first) _ (total_ordered kept 1 M.first o.0) (λ F f. best_on_ordered kept 2 M.others F o.1.0 f)

module _ (M : Model) (o : ModelOrdered M) where
  stages_on_ordered : (k h : ℕ) (finished : List Tree) (P : Tree) → SafeOps AllOrdered (stages_on M k h finished P)
  unfolding stages_on
  stages_on_ordered zero h finished P = safe_end AllOrdered [] tt
  stages_on_ordered (suc k) h finished P = safe_then AllOrdered (stage_over M h (finished ++ model_diagrams M) P) _ (stage_ordered M h P (finished ++ model_diagrams M) o)
      (λ S s. safe_then AllOrdered (stages_on M k (suc h) (S ∷ finished) S) _ (stages_on_ordered k (suc h) (S ∷ finished) S) (λ l r. safe_end AllOrdered (S ∷ l) (s, r)))

  over_end_ordered : (H : ℕ) (l : List Tree) → SafeOps AllOrdered (stages_over_end M H l)
  unfolding stages_over_end
  over_end_ordered H [] = safe_operation AllOrdered (moment 1 1) (model_diagrams M) (make zero_leaf) _ (safe_make {R = Ordered} zero_leaf (zero_ordered small)) (λ Z z. stages_on_ordered H 1 (Z ∷ []) Z)
  over_end_ordered H (E ∷ l) = stages_on_ordered H 1 (E ∷ []) E

  all_stages_ordered : (H : ℕ) → SafeOps AllOrdered (all_stages M H)
  unfolding all_stages
  all_stages_ordered H = over_end_ordered H M.end

-- the stages of a solve are ordered
pub solved_ordered : (N : ℕ) (B : List ℕ) (H : ℕ) (S : List Tree) (peak : ℕ) → solve_in N B H ≡ solved S peak → AllOrdered S
solved_ordered N B H S peak e =
    let r = solve_runs N B H S peak e in
    run_all_safe AllOrdered N r.0 (all_stages (model B) H) S peak r.1 (all_stages_ordered (model B) (loaded_ordered B) H)
