-- Each operation begins with nodes that were there when the one before it ended, from loading on; so the solved stages fit where the peak fits.
use Rattle.std.specs.Prelude.{◌≡◌, refl, ℕ, zero, suc, ◌+◌, ◌≤◌, max, T, length}
use Rattle.std.proofs.Common.{sym, subst, inl, inr, arith}
use mathlib.Core.List.Memᴰ
use mathlib.Core.List.{List, [], ◌∷◌, ◌++◌, Memᴰ}
use Rattle.theory.specs.Diagram.{Test, Tree, leaf, plain, test_of}
use Rattle.theory.specs.Computation.{Comp, ret, bind, result, make, Out, done, stopped, run, enter_all, Ops, end, operation, and_then, final, solved, refused, run_all, Moment}
use Rattle.theory.specs.Rules.{choose, zero_leaf, none_leaf, expectation}
use Rattle.theory.specs.Meaning.{Action, Model, power}
use Rattle.theory.specs.Stage.{action_diagrams, all_diagrams, model_diagrams, sum_out, action_total, best_on, stage_over, stages_on, stages_over_end, all_stages, moment}
use Rattle.theory.specs.Command.{Command, site, push_leaf, push_condition, push_test, push_forbidden, name_action, end_model, Read, whole, unknown, short, Placed, readings, give, Slot}
use Rattle.theory.specs.Verdict.{verdict}
use Rattle.theory.specs.Load.{Entry, Loaded, condition_test, load_choice, load_choice_with, load_entry, load_one, load_one_with, load_on, load_on_with, model_of, site_at, load, model, load_in, model_in}
use Rattle.theory.specs.Solve.{solve_in, table_of}
use Rattle.theory.specs.Events.{events, needed, inside, all_inside, ChainedOps}
use Rattle.theory.proofs.laws.Comps.{run_all_final}
use Rattle.theory.proofs.laws.Events.{run_done}
use Rattle.theory.proofs.laws.Counts.{roots_fit}
use Rattle.theory.proofs.laws.Refusals.{loaded, solve_passes, run_all_peak}
use Rattle.theory.proofs.laws.AcceptedModel.{entry_trees, diagrams_loaded, end_loaded}
use Rattle.theory.specs.Load.{loaded_entries}
use Rattle.theory.proofs.laws.Inside.{sub_needed, all_none, all_parts, all_cons, all_more, all_left, all_right, roots_inside, bind_gives, Built, builds}
use Rattle.theory.proofs.laws.Inside.{leaf_built, zero_built, none_built, choose_built, best_built, substitute_built, expectation_built, reward_built}

-- ---- operations

-- the nodes that are there when the last of them ends
unfoldable pub ends : {A : Type 0} → List Tree → Ops A → List Tree
ends X (end a) = X
ends X (operation h roots c f) = ends (needed (enter_all roots []) (events c)) (f (result c))

-- chained over X, and Q of what they come to and the nodes at the end
pub record Leads {A : Type 0} (Q : A → List Tree → Type 0) (X : List Tree) (m : Ops A) : Type 0 where
  pub chain : ChainedOps X m
  pub last : Q (final m) (ends X m)

pub end_leads : {A : Type 0} (Q : A → List Tree → Type 0) (X : List Tree) (a : A) → Q a X → Leads Q X (end a)
unfolding ChainedOps final ends
end_leads Q X a q = record { chain = tt; last = q }

pub and_then_leads : {A B : Type 0} (Q : A → List Tree → Type 0) (R : B → List Tree → Type 0) (X : List Tree) (m : Ops A) (k : A → Ops B)
    → Leads Q X m → ((Y : List Tree) → Q (final m) Y → Leads R Y (k (final m))) → Leads R X (and_then m k)
unfolding ChainedOps final ends and_then
and_then_leads Q R X (end a) k l g = g X l.last
and_then_leads Q R X (operation h roots c f) k l g =
    let r = and_then_leads Q R (needed (enter_all roots []) (events c)) (f (result c)) k (record { chain = l.chain.1; last = l.last }) g in
    record { chain = (l.chain.0, r.chain); last = r.last }

pub operation_leads : {A : Type 0} (Q : A → List Tree → Type 0) (X : List Tree) (h : Moment) (roots : List Tree) (c : Comp Tree) (f : Tree → Ops A) → T (all_inside roots X)
    → ((Y : List Tree) → T (all_inside roots Y) → Built Y c) → ((Y : List Tree) → T (all_inside (result c ∷ roots) Y) → Leads Q Y (f (result c))) → Leads Q X (operation h roots c f)
unfolding ChainedOps final ends
operation_leads Q X h roots c f a b g =
    let E = enter_all roots [] in
    let i = roots_inside roots in
    let r = g (needed E (events c)) (all_cons (result c) roots _ (builds (b E i)) (all_more (sub_needed E (events c)) roots i)) in
    record { chain = (a, r.chain); last = r.last }

-- ---- stages

-- wherever the diagrams of k are, those of l are
abbrev pub AllAmong : List Tree → List Tree → Type 0
AllAmong l k = (Y : List Tree) → T (all_inside k Y) → T (all_inside l Y)

-- the last result is there, with what is kept
abbrev With : List Tree → Tree → List Tree → Type 0
With kept t Y = T (all_inside (t ∷ kept) Y)

sum_out_leads : (W : ℕ) (h : Moment) (kept : List Tree) (k : ℕ) (ws : List Tree) (F : Tree) (X : List Tree) → AllAmong ws kept → T (all_inside (F ∷ kept) X) → Leads (With kept) X (sum_out W h kept k ws F)
unfolding sum_out
sum_out_leads W h kept k [] F X a i = end_leads (With kept) X F i
sum_out_leads W h kept k (w ∷ ws) F X a i = operation_leads (With kept) X h (F ∷ kept) (expectation W w k F) (sum_out W h kept (suc k) ws) i
    (λ Y j. let d = all_parts F kept Y j in expectation_built W w k F Y (all_parts w ws Y (a Y d.1)).0 d.0)
    (λ Y j.
    let d = all_parts _ (F ∷ kept) Y j in
    sum_out_leads W h kept (suc k) ws _ Y (λ Z q. (all_parts w ws Z (a Z q)).1) (all_cons _ kept Y d.0 (all_parts F kept Y d.1).1))

action_total_leads : (M : Model) (h : ℕ) (kept : List Tree) (P : Tree) (a : ℕ) (x : Action) (X : List Tree) → AllAmong (action_diagrams x) kept → T (all_inside kept X)
    → Leads (With kept) X (action_total M h kept P a x)
unfolding action_total
action_total_leads M h kept P a x X m i =
    operation_leads (With kept) X (moment h a) kept _ _ i (λ Y j. substitute_built Y x.levels P (all_right x.chances x.levels Y (own Y j).1))
    (λ Y j. and_then_leads (With kept) (With kept) Y _ _ (sum_out_leads M.weights (moment h a) kept 1 x.chances _ Y (λ Z q. all_left x.chances x.levels Z (own Z q).1) j)
    (λ Z q. operation_leads (With kept) Z (moment h a) _ _ end q
    (λ U r. let d = all_parts _ kept U r in reward_built (power M h) x.reward a _ U (own U d.1).0 d.0)
    (λ U r. let d = all_parts _ _ U r in end_leads (With kept) U _ (all_cons _ kept U d.0 (all_parts _ kept U d.1).1))))
  where
    own : (Y : List Tree) → T (all_inside kept Y) → T (inside x.reward Y) × T (all_inside (x.chances ++ x.levels) Y)
    own Y j = all_parts x.reward (x.chances ++ x.levels) Y (m Y j)

best_on_leads : (M : Model) (h : ℕ) (kept : List Tree) (P : Tree) (a : ℕ) (l : List Action) (F : Tree) (X : List Tree) → AllAmong (all_diagrams l) kept → T (all_inside (F ∷ kept) X)
    → Leads (With kept) X (best_on M h kept P a l F)
unfolding best_on all_diagrams
best_on_leads M h kept P a [] F X m i = end_leads (With kept) X F i
best_on_leads M h kept P a (x ∷ l) F X m i =
    and_then_leads (With (F ∷ kept)) (With kept) X (action_total M h (F ∷ kept) P a x) _
    (action_total_leads M h (F ∷ kept) P a x X (λ Y j. all_left (action_diagrams x) (all_diagrams l) Y (m Y (all_parts F kept Y j).1)) i)
    (λ Y j. operation_leads (With kept) Y (moment h a) _ _ (best_on M h kept P (suc a) l) j
    (λ Z q. let d = all_parts _ (F ∷ kept) Z q in best_built Z F _ (all_parts F kept Z d.1).0 d.0)
    (λ Z q.
    let d = all_parts _ _ Z q in
    let e = all_parts _ (F ∷ kept) Z d.1 in
    best_on_leads M h kept P (suc a) l _ Z (λ U r. all_right (action_diagrams x) (all_diagrams l) U (m U r))
    (all_cons _ kept Z d.0 (all_parts F kept Z e.1).1)))

stage_over_leads : (M : Model) (h : ℕ) (kept : List Tree) (P : Tree) (X : List Tree) → AllAmong (model_diagrams M) kept → T (all_inside kept X)
    → Leads (With kept) X (stage_over M h kept P)
unfolding stage_over model_diagrams all_diagrams
stage_over_leads M h kept P X m i =
    and_then_leads (With kept) (With kept) X (action_total M h kept P 1 M.first) (best_on M h kept P 2 M.others)
    (action_total_leads M h kept P 1 M.first X (λ Y j. all_left (action_diagrams M.first) (all_diagrams M.others) Y (m Y j)) i)
    (λ Y j. best_on_leads M h kept P 2 M.others _ Y (λ Z q. all_right (action_diagrams M.first) (all_diagrams M.others) Z (m Z q)) j)

-- the new stages are there at the end, with those that were finished
abbrev Stages : List Tree → List Tree → List Tree → Type 0
Stages finished l Y = T (all_inside l Y) × T (all_inside finished Y)

stages_on_leads : (M : Model) (k h : ℕ) (finished : List Tree) (P : Tree) (X : List Tree) → T (all_inside (finished ++ model_diagrams M) X)
    → Leads (Stages finished) X (stages_on M k h finished P)
unfolding stages_on
stages_on_leads M zero h finished P X i = end_leads (Stages finished) X [] (all_none X, all_left finished (model_diagrams M) X i)
stages_on_leads M (suc k) h finished P X i =
    and_then_leads (With (finished ++ model_diagrams M)) (Stages finished) X (stage_over M h (finished ++ model_diagrams M) P) _
    (stage_over_leads M h (finished ++ model_diagrams M) P X (λ Y j. all_right finished (model_diagrams M) Y j) i)
    (λ Y j. and_then_leads (Stages (_ ∷ finished)) (Stages finished) Y _ _
    (stages_on_leads M k (suc h) (_ ∷ finished) _ Y j)
    (λ Z q. let d = all_parts _ finished Z q.1 in end_leads (Stages finished) Z _ (all_cons _ _ Z d.0 q.0, d.1)))

and_only : (finished X : List Tree) (m : Ops (List Tree)) → Leads (Stages finished) X m → Leads (λ l Y. T (all_inside l Y)) X m
and_only finished X m l = record { chain = l.chain; last = l.last.0 }

over_end_leads : (M : Model) (H : ℕ) (E X : List Tree) → T (all_inside E X) → T (all_inside (model_diagrams M) X) → Leads (λ l Y. T (all_inside l Y)) X (stages_over_end M H E)
unfolding stages_over_end result make
over_end_leads M H [] X e i =
    operation_leads _ X (moment 1 1) (model_diagrams M) (make zero_leaf) (λ Z. stages_on M H 1 (Z ∷ []) Z) i (λ Y _. zero_built Y)
    (λ Y j. and_only _ _ _ (stages_on_leads M H 1 (zero_leaf ∷ []) zero_leaf Y j))
over_end_leads M H (E ∷ F) X e i =
    and_only _ _ _ (stages_on_leads M H 1 _ E X (all_cons E (model_diagrams M) X (all_parts E F X e).0 i))

-- where the model's diagrams are there, and its end worth, all its stages are chained, and are there at the end
pub all_stages_lead : (M : Model) (H : ℕ) (X : List Tree) → T (all_inside M.end X) → T (all_inside (model_diagrams M) X) → Leads (λ l Y. T (all_inside l Y)) X (all_stages M H)
unfolding all_stages
all_stages_lead M H X e i = over_end_leads M H M.end X e i

-- ---- loading

-- the diagrams of the stack and those that have been given are there
abbrev pub StackStands : Loaded → List Tree → Type 0
StackStands s X = T (all_inside s.stack X) × T (all_inside (entry_trees s.entries) X)

-- and so at the end of a computation over X
abbrev pub ChainLoads : List Tree → Comp Loaded → Type 0
ChainLoads X m = StackStands (result m) (needed X (events m))

ret_loads : (X : List Tree) (s : Loaded) → StackStands s X → ChainLoads X (ret s)
unfolding result events needed
ret_loads X s a = a

-- a diagram that is built goes on the stack
push_loads : (X : List Tree) (m : Comp Tree) (K : List Tree) (E : List Entry) → Built X m → T (all_inside K X) → T (all_inside (entry_trees E) X)
    → ChainLoads X (bind m (λ r. ret (record { stack = r ∷ K; entries = E })))
push_loads X m K E b a e =
    let s = sub_needed X (events m) in
    bind_gives StackStands X m (λ r. ret (record { stack = r ∷ K; entries = E })) (ret_loads _ _ (all_cons _ K _ (builds b) (all_more s K a), all_more s (entry_trees E) e))

choice_loads : (X : List Tree) (t : Test) (K : List Tree) (E : List Entry) → T (all_inside K X) → T (all_inside (entry_trees E) X) → ChainLoads X (load_choice t K E)
unfolding load_choice_with
choice_loads X t [] E a e = ret_loads X _ (all_none X, e)
choice_loads X t (low ∷ []) E a e = ret_loads X _ (all_none X, e)
choice_loads X t (low ∷ high ∷ K) E a e =
    let d = all_parts low (high ∷ K) X a in
    let c = all_parts high K X d.1 in
    push_loads X (choose t high low) K E (choose_built t X high low c.0 d.0) c.1 e

entry_loads : (X : List Tree) (g : Slot) (K : List Tree) (E : List Entry) → T (all_inside K X) → T (all_inside (entry_trees E) X) → ChainLoads X (load_entry g K E)
unfolding load_entry
entry_loads X g [] E a e = ret_loads X _ (all_none X, e)
entry_loads X g (t ∷ K) E a e = let d = all_parts t K X a in ret_loads X _ (d.1, all_cons t (entry_trees E) X d.0 e)

one_loads : (X : List Tree) (c : Command) (s : Loaded) → StackStands s X → ChainLoads X (load_one c s)
unfolding load_one_with
one_loads X (site m n a w) s d = ret_loads X s d
one_loads X (push_leaf p) s d = push_loads X (make (leaf (plain p))) s.stack s.entries (leaf_built X (plain p)) d.0 d.1
one_loads X (push_condition k) s d = choice_loads X (condition_test k) s.stack s.entries d.0 d.1
one_loads X (push_test p) s d = choice_loads X (test_of p) s.stack s.entries d.0 d.1
one_loads X push_forbidden s d = push_loads X (make none_leaf) s.stack s.entries (none_built X) d.0 d.1
one_loads X (give g) s d = entry_loads X g s.stack s.entries d.0 d.1
one_loads X (name_action a b) s d = ret_loads X s d
one_loads X end_model s d = ret_loads X s d

-- what stood over X stands when loading ends
pub load_on_stands : (X : List Tree) (l : List Placed) (s : Loaded) → StackStands s X → ChainLoads X (load_on l s)
unfolding load_on_with
load_on_stands X [] s d = ret_loads X s d
load_on_stands X (x ∷ l) s d = go (λ Y u. load_on_stands Y l u) x.read
  where
    go : ((Y : List Tree) (u : Loaded) → StackStands u Y → ChainLoads Y (load_on l u)) → (r : Read) → ChainLoads X (elim r [ whole c ↦ bind (load_one c s) (load_on l) | unknown ↦ ret s | short ↦ ret s ])
    go ih (whole c) = bind_gives StackStands X (load_one c s) (load_on l) (ih _ _ (one_loads X c s d))
    go ih unknown = ret_loads X s d
    go ih short = ret_loads X s d

-- every diagram that has been given is there when loading ends
pub entries_inside : (B : List ℕ) → T (all_inside (entry_trees (loaded_entries B)) (needed [] (events (load B))))
unfolding load_in events needed
entries_inside B = bind_gives (λ _ Y. T (all_inside (entry_trees (loaded_entries B)) Y)) [] (load_on (readings B) (record { stack = []; entries = [] })) (λ s. ret (model_of (site_at B) s.entries))
    (load_on_stands [] (readings B) (record { stack = []; entries = [] }) (all_none [], all_none [])).1

all_each : (l X : List Tree) → ((t : Tree) → Memᴰ t l → T (inside t X)) → T (all_inside l X)
all_each [] X f = all_none X
all_each (t ∷ l) X f = all_cons t l X (f t (Memᴰ.head refl)) (all_each l X (λ u m. f u (Memᴰ.tail m)))

pub all_at : (t : Tree) (l X : List Tree) → Memᴰ t l → T (all_inside l X) → T (inside t X)
all_at t [] X m a = absurd (Memᴰ.not-nil m)
all_at t (x ∷ l) X m a =
    let d = all_parts x l X a in
    elim (Memᴰ.cases_cons m) [ inl e ↦ subst (λ t. T (inside t X)) (sym e) d.0 | inr r ↦ all_at t l X r d.1 ]

-- the diagrams of an accepted model are there when loading ends
pub model_inside : (B : List ℕ) → (verdict B).number ≡ 0 → T (all_inside (model_diagrams (model B)) (needed [] (events (load B))))
model_inside B v = all_each (model_diagrams (model B)) _ (λ t m. all_at t (entry_trees (loaded_entries B)) _ (diagrams_loaded B v t m) (entries_inside B))

-- and so is its end worth
pub end_inside : (B : List ℕ) → T (all_inside (model B).end (needed [] (events (load B))))
end_inside B = all_each (model B).end _ (λ t m. all_at t (entry_trees (loaded_entries B)) _ (end_loaded B t m) (entries_inside B))

-- each operation begins with nodes that were there when the one before it ended, the first with those of loading
pub all_chained : (B : List ℕ) (H : ℕ) → (verdict B).number ≡ 0 → ChainedOps (needed [] (events (load B))) (all_stages (model B) H)
all_chained B H v = (all_stages_lead (model B) H (needed [] (events (load B))) (end_inside B) (model_inside B v)).chain

-- the peak of a solve is no more than there is room for
pub peak_fits : (N : ℕ) (B : List ℕ) (H : ℕ) (S : List Tree) (peak : ℕ) → (verdict B).number ≡ 0 → solve_in N B H ≡ solved S peak → peak ≤ N
peak_fits N B H S peak v e =
    let d = solve_passes N B H S peak e in
    (run_all_peak N (length (loaded B)) (loaded B) (all_stages (model B) H) S peak (all_chained B H v) (omega arith) d.0.1 d.1).0

-- ---- the table fits where the peak fits

-- the nodes at the end of the last operation are no more than the peak
pub ends_fit : {A : Type 0} (N p : ℕ) (m : Ops A) (a : A) (q : ℕ) (X : List Tree) → run_all N p m ≡ solved a q → length X ≤ p → length (ends X m) ≤ q
unfolding run_all ends
ends_fit N p (end b) a q X e i = let z : p ≡ q = cc in omega arith
ends_fit N p (operation h roots c f) a q X e i = go (run N c (enter_all roots [])) refl e (λ r t. ends_fit N r (f t) a q)
  where
    go : (o : Out Tree) → run N c (enter_all roots []) ≡ o → elim o [ done t Y ↦ run_all N (max p (length Y)) (f t) | stopped r ↦ refused r h.stage ] ≡ solved a q
        → ((r : ℕ) (t : Tree) (Y : List Tree) → run_all N r (f t) ≡ solved a q → length Y ≤ r → length (ends Y (f t)) ≤ q)
        → length (ends (needed (enter_all roots []) (events c)) (f (result c))) ≤ q
    go (done t Y) r e ih = (let d = run_done N c (enter_all roots []) Y t r in rw (← d.1, ← d.0) (ih (max p (length Y)) t Y e (omega arith)))
    go (stopped r) s e ih = absurd (let z : ◌≡◌ {A = ℕ} 0 1 = cc in omega arith)

-- the table after solving has no more nodes than the peak
pub table_fits : (N : ℕ) (B : List ℕ) (H : ℕ) → (verdict B).number ≡ 0 → (S : List Tree) (peak : ℕ) → solve_in N B H ≡ solved S peak
    → length (table_of S) ≤ peak
unfolding solve_in table_of model_in
table_fits N B H v S peak = go (run N (load B) []) refl
  where
    go : (o : Out Model) → run N (load B) [] ≡ o → elim o [ done M X ↦ run_all N (length X) (all_stages M H) | stopped r ↦ refused r 0 ] ≡ solved S peak → length (enter_all S []) ≤ peak
    go (done M X) r e =
        let d = run_done N (load B) [] X M r in
        let j : T (all_inside (model_diagrams M) X) = rw (d.1, d.0) (model_inside B v) in
        let k : T (all_inside M.end X) = rw (d.1, d.0) (end_inside B) in
        let E = ends X (all_stages M H) in
        let s : T (all_inside S E) = subst (λ l. T (all_inside l E)) (sym (run_all_final N (length X) (all_stages M H) S peak e)) (all_stages_lead M H X k j).last in
        omega (arith, roots_fit S E s, ends_fit N (length X) (all_stages M H) S peak X e (omega arith))
    go (stopped r) q e = absurd (let z : ◌≡◌ {A = ℕ} 0 1 = cc in omega arith)
