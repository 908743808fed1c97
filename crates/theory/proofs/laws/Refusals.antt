-- Solving is refused where 11 or 12 is first met, and the peak decides which tables solve.
use Rattle.std.specs.Prelude.{◌≡◌, refl, ◌↔◌, ◌⊎◌, ℕ, zero, suc, ◌+◌, ◌≤◌, ◌<◌, max, leb, length}
use Rattle.std.proofs.Common.{sym, ◌∙◌, subst, inl, inr, ⊎_elim, arith, leb→le}
use Rattle.std.proofs.Math.Path.{ap}
use mathlib.Core.List.{List, [], ◌∷◌, ◌++◌}
use Rattle.std.proofs.Math.Dec.{nleb→lt}
use Rattle.whole.specs.Cases.{by_test}
use Rattle.theory.specs.Diagram.{Tree}
use Rattle.theory.specs.Computation.{Comp, result, Out, done, stopped, run, enter_all, Ops, end, operation, and_then, final, Solved, solved, refused, run_all, Moment}
use Rattle.theory.specs.Meaning.{Action, Model}
use Rattle.theory.specs.Stage.{sum_out, action_total, best_on, stage_over, stages_on, stages_over_end, all_stages, model_diagrams, moment}
use Rattle.theory.specs.Load.{load, model, model_in}
use Rattle.theory.specs.Solve.{solve_in}
use Rattle.theory.specs.Events.{events, needed, Refused, Passes, RefusedAt, here, later, PassesAll, peak_of, ChainedOps}
use Rattle.theory.proofs.laws.Events.{run_passes, run_refused, run_cases, stopped_number, refused_eleven_twelve, exceeds}
use Rattle.theory.proofs.laws.Counts.{roots_fit}

-- the nodes that are there as an operation ends, and as the model is loaded
abbrev left_by : List Tree → Comp Tree → List Tree
left_by roots c = needed (enter_all roots []) (events c)

abbrev pub loaded : List ℕ → List Tree
loaded B = needed [] (events (load B))

-- ---- operations

module _ {A : Type 0} (N p : ℕ) (h : Moment) (roots : List Tree) (c : Comp Tree) (f : Tree → Ops A) where
  run_all_done : (t : Tree) (Y : List Tree) → run N c (enter_all roots []) ≡ done t Y → run_all N p (operation h roots c f) ≡ run_all N (max p (length Y)) (f t)
  unfolding run_all
  run_all_done t Y e = ap (λ (o : Out Tree). elim o [ done t X ↦ run_all N (max p (length X)) (f t) | stopped r ↦ refused r h.stage ]) e

  run_all_stopped : (r : ℕ) → run N c (enter_all roots []) ≡ stopped r → run_all N p (operation h roots c f) ≡ refused r h.stage
  unfolding run_all
  run_all_stopped r e = ap (λ (o : Out Tree). elim o [ done t X ↦ run_all N (max p (length X)) (f t) | stopped r ↦ refused r h.stage ]) e

-- refused with 11 or 12
pub run_all_number : {A : Type 0} (N p : ℕ) (m : Ops A) (r q : ℕ) → run_all N p m ≡ refused r q → (r ≡ 11) ⊎ (r ≡ 12)
unfolding run_all
run_all_number N p (end a) r q e = absurd (let z : ◌≡◌ {A = ℕ} 0 1 = cc in omega arith)
run_all_number {A} N p (operation h roots c f) r q e = go (run N c (enter_all roots [])) refl e (λ k t. run_all_number N k (f t) r q)
  where
    go : (o : Out Tree) → run N c (enter_all roots []) ≡ o → ◌≡◌ {A = Solved A} (elim o [ done t X ↦ run_all N (max p (length X)) (f t) | stopped r ↦ refused r h.stage ]) (refused r q)
        → ((k : ℕ) (t : Tree) → run_all N k (f t) ≡ refused r q → (r ≡ 11) ⊎ (r ≡ 12)) → (r ≡ 11) ⊎ (r ≡ 12)
    go (done t X) i e ih = ih (max p (length X)) t e
    go (stopped k) i e ih = stopped_number N c (enter_all roots []) r (cc)

here_at : {A : Type 0} (N : ℕ) (h : Moment) (roots : List Tree) (c : Comp Tree) (f : Tree → Ops A) (k r q : ℕ) → ◌≡◌ {A = Solved A} (refused k h.stage) (refused r q)
    → Refused N (enter_all roots []) (events c) k → RefusedAt N (operation h roots c f) r q
here_at N h roots c f k r q e d =
    let i : k ≡ r = cc in
    let j : h.stage ≡ q = cc in
    rw (← i, ← j) (here d)

refused_at : {A : Type 0} (N p : ℕ) (X : List Tree) (m : Ops A) (r q : ℕ) → ChainedOps X m → length X ≤ N → run_all N p m ≡ refused r q → RefusedAt N m r q
unfolding run_all ChainedOps
refused_at N p X (end a) r q c l e = absurd (let z : ◌≡◌ {A = ℕ} 0 1 = cc in omega arith)
refused_at N p X (operation h roots c f) r q g l e =
    let k = roots_fit roots X g.0 in
    ⊎_elim
    (λ d. later d.0 (refused_at N (max p (length (left_by roots c))) (left_by roots c) (f (result c)) r q g.1 d.0.1
    (sym (run_all_done N p h roots c f (result c) (left_by roots c) d.1) ∙ e)))
    (λ d. here_at N h roots c f d.0 r q (sym (run_all_stopped N p h roots c f d.0 d.1.1) ∙ e) d.1.0)
    (run_cases N c (enter_all roots []) (omega arith))

at_refused : {A : Type 0} (N p : ℕ) (X : List Tree) (m : Ops A) (r q : ℕ) → ChainedOps X m → length X ≤ N → RefusedAt N m r q → run_all N p m ≡ refused r q
unfolding ChainedOps
at_refused N p X m r q g l (here {h = h} {roots = roots} {c = c} {f = f} d) =
    let k = roots_fit roots X g.0 in
    run_all_stopped N p h roots c f r ((run_refused N c (enter_all roots []) r (omega arith)).1 d)
at_refused N p X m r q g l (later {h = h} {roots = roots} {c = c} {f = f} a d) =
    run_all_done N p h roots c f (result c) (left_by roots c) (run_passes N c (enter_all roots []) a)
    ∙ at_refused N (max p (length (left_by roots c))) (left_by roots c) (f (result c)) r q g.1 a.1 d

-- an operation is refused exactly where 11 or 12 is first met
pub run_all_refused : {A : Type 0} (N p : ℕ) (X : List Tree) (m : Ops A) (r q : ℕ) → ChainedOps X m → length X ≤ N → (run_all N p m ≡ refused r q) ↔ RefusedAt N m r q
run_all_refused N p X m r q g l = (refused_at N p X m r q g l, at_refused N p X m r q g l)

-- solved: every operation passes, with what they come to and the peak
pub solved_passes : {A : Type 0} (N p : ℕ) (X : List Tree) (m : Ops A) (a : A) (peak : ℕ) → ChainedOps X m → length X ≤ N → run_all N p m ≡ solved a peak
    → PassesAll N m × (a ≡ final m) × (peak ≡ peak_of p m)
unfolding run_all ChainedOps PassesAll peak_of final
solved_passes N p X (end b) a peak g l e = (tt, (cc), (cc))
solved_passes N p X (operation h roots c f) a peak g l e =
    let k = roots_fit roots X g.0 in
    ⊎_elim
    (λ d.
    let s = solved_passes N (max p (length (left_by roots c))) (left_by roots c) (f (result c)) a peak g.1 d.0.1
    (sym (run_all_done N p h roots c f (result c) (left_by roots c) d.1) ∙ e) in
    ((d.0, s.0), s.1, s.2))
    (λ d. let i = run_all_stopped N p h roots c f d.0 d.1.1 in absurd (let z : ◌≡◌ {A = ℕ} 0 1 = cc in omega arith))
    (run_cases N c (enter_all roots []) (omega arith))

-- where every operation passes, solved, with the peak
pub passes_solved : {A : Type 0} (N p : ℕ) (m : Ops A) → PassesAll N m → run_all N p m ≡ solved (final m) (peak_of p m)
unfolding run_all PassesAll peak_of final
passes_solved N p (end a) d = refl
passes_solved N p (operation h roots c f) d =
    run_all_done N p h roots c f (result c) (left_by roots c) (run_passes N c (enter_all roots []) d.0)
    ∙ passes_solved N (max p (length (left_by roots c))) (f (result c)) d.1

-- ---- the peak

pub peak_above : {A : Type 0} (p : ℕ) (m : Ops A) → p ≤ peak_of p m
unfolding peak_of
peak_above p (end a) = omega arith
peak_above p (operation h roots c f) = let k = peak_above (max p (length (left_by roots c))) (f (result c)) in omega arith

pub peak_within : {A : Type 0} (N p : ℕ) (m : Ops A) → p ≤ N → PassesAll N m → peak_of p m ≤ N
unfolding peak_of PassesAll
peak_within N p (end a) h d = h
peak_within N p (operation h roots c f) l d =
    let k = d.0.1 in
    peak_within N (max p (length (left_by roots c))) (f (result c)) (omega arith) d.1

-- with room for the peak every operation passes
pub passes_peak : {A : Type 0} (N K p : ℕ) (m : Ops A) → PassesAll N m → peak_of p m ≤ K → PassesAll K m
unfolding peak_of PassesAll
passes_peak N K p (end a) d l = tt
passes_peak N K p (operation h roots c f) d l =
    let k = peak_above (max p (length (left_by roots c))) (f (result c)) in
    ((d.0.0, (omega arith)), passes_peak N K (max p (length (left_by roots c))) (f (result c)) d.1 l)

-- with less the first that exceeds it is refused with 12
pub below_peak : {A : Type 0} (N K p : ℕ) (X : List Tree) (m : Ops A) → ChainedOps X m → length X ≤ K → p ≤ K → PassesAll N m → K < peak_of p m → (q : ℕ) × RefusedAt K m 12 q
unfolding ChainedOps peak_of PassesAll
below_peak N K p X (end a) g l h d s = absurd (omega arith)
below_peak N K p X (operation h roots c f) g l i d s =
    let k = roots_fit roots X g.0 in
    by_test (leb (length (left_by roots c)) K) (λ _. (q : ℕ) × RefusedAt K (operation h roots c f) 12 q)
    (λ t.
    let o = leb→le (length (left_by roots c)) K t in
    let r = below_peak N K (max p (length (left_by roots c))) (left_by roots c) (f (result c)) g.1 o (omega arith) d.1 s in
    (r.0, later (d.0.0, o) r.1))
    (λ t. (h.stage, here (exceeds K (enter_all roots []) (events c) (omega arith) d.0.0 (nleb→lt (length (left_by roots c)) K t))))

-- room for the peak solves, with the same result; less is refused with 12
pub run_all_peak : {A : Type 0} (N p : ℕ) (X : List Tree) (m : Ops A) (a : A) (peak : ℕ) → ChainedOps X m → length X ≤ p → p ≤ N → run_all N p m ≡ solved a peak
    → (peak ≤ N) × ((K : ℕ) → peak ≤ K → run_all K p m ≡ solved a peak) × ((K : ℕ) → K < peak → p ≤ K → (q : ℕ) × (run_all K p m ≡ refused 12 q))
run_all_peak N p X m a peak g l h e =
    let d = solved_passes N p X m a peak g (omega arith) e in
    let i = d.2 in
    let w = peak_within N p m h d.0 in (
      (omega arith),
      (λ K k. passes_solved K p m (passes_peak N K p m d.0 (omega arith)) ∙ (cc (d.1, i))),
      (λ K k j. let r = below_peak N K p X m g (omega arith) j d.0 (omega arith) in (r.0, at_refused K p X m 12 r.0 g (omega arith) r.1)),
    )

-- ---- solving

module _ (N : ℕ) (B : List ℕ) (H : ℕ) where
  pub solve_loaded : Passes N [] (events (load B)) → solve_in N B H ≡ run_all N (length (loaded B)) (all_stages (model B) H)
  unfolding solve_in model_in
  solve_loaded p = ap (λ (o : Out Model). elim o [ done M X ↦ run_all N (length X) (all_stages M H) | stopped r ↦ refused r 0 ]) (run_passes N (load B) [] p)

  pub solve_stopped : (r : ℕ) → run N (load B) [] ≡ stopped r → solve_in N B H ≡ refused r 0
  unfolding solve_in
  solve_stopped r e = ap (λ (o : Out Model). elim o [ done M X ↦ run_all N (length X) (all_stages M H) | stopped r ↦ refused r 0 ]) e

  -- loading passes, or is refused at place 0
  pub solve_cases : (Passes N [] (events (load B)) × (solve_in N B H ≡ run_all N (length (loaded B)) (all_stages (model B) H)))
      ⊎ ((r : ℕ) × (Refused N [] (events (load B)) r × (solve_in N B H ≡ refused r 0)))
  solve_cases = ⊎_elim (λ d. inl (d.0, solve_loaded d.0)) (λ d. inr (d.0, (d.1.0, solve_stopped d.0 d.1.1))) (run_cases N (load B) [] (omega arith))

  -- refused with 11 or 12
  pub refused_number : (r p : ℕ) → solve_in N B H ≡ refused r p → (r ≡ 11) ⊎ (r ≡ 12)
  refused_number r p e = ⊎_elim
      (λ d. run_all_number N (length (loaded B)) (all_stages (model B) H) r p (sym d.1 ∙ e))
      (λ d. refused_eleven_twelve N [] (events (load B)) r (let i = d.1.1 in let j : d.0 ≡ r = cc in subst (Refused N [] (events (load B))) j d.1.0))
      solve_cases

  -- solved: loading passes, and the stages are solved
  pub solve_passes : (S : List Tree) (peak : ℕ) → solve_in N B H ≡ solved S peak
      → Passes N [] (events (load B)) × (run_all N (length (loaded B)) (all_stages (model B) H) ≡ solved S peak)
  solve_passes S peak e = ⊎_elim (λ d. (d.0, sym d.1 ∙ e)) (λ d. let i = d.1.1 in absurd (let z : ◌≡◌ {A = ℕ} 0 1 = cc in omega arith)) solve_cases

-- ---- places

-- every operation's place is at most H, whatever those before it come to
unfoldable pub Places : {A : Type 0} → ℕ → Ops A → Type 0
Places H (end a) = Unit {0}
Places H (operation h roots c f) = (h.stage ≤ H) × ((t : Tree) → Places H (f t))

run_all_place : {A : Type 0} (H N p : ℕ) (m : Ops A) (r q : ℕ) → Places H m → run_all N p m ≡ refused r q → q ≤ H
unfolding run_all Places
run_all_place H N p (end a) r q d e = absurd (let z : ◌≡◌ {A = ℕ} 0 1 = cc in omega arith)
run_all_place {A} H N p (operation h roots c f) r q d e = go (run N c (enter_all roots [])) e (λ k t. run_all_place H N k (f t) r q (d.1 t))
  where
    go : (o : Out Tree) → ◌≡◌ {A = Solved A} (elim o [ done t X ↦ run_all N (max p (length X)) (f t) | stopped r ↦ refused r h.stage ]) (refused r q)
        → ((k : ℕ) (t : Tree) → run_all N k (f t) ≡ refused r q → q ≤ H) → q ≤ H
    go (done t X) e ih = ih (max p (length X)) t e
    go (stopped k) e ih = let i : h.stage ≡ q = cc in subst (λ (q : ℕ). q ≤ H) i d.0

places_then : {A B : Type 0} (H : ℕ) (m : Ops A) (k : A → Ops B) → Places H m → ((a : A) → Places H (k a)) → Places H (and_then m k)
unfolding Places and_then
places_then H (end a) k d g = g a
places_then H (operation h roots c f) k d g = (d.0, λ t. places_then H (f t) k (d.1 t) g)

module _ (H h : ℕ) (low : h ≤ H) where
  sum_out_places : (W a : ℕ) (kept : List Tree) (k : ℕ) (ws : List Tree) (F : Tree) → Places H (sum_out W (moment h a) kept k ws F)
  unfolding sum_out Places
  sum_out_places W a kept k [] F = tt
  sum_out_places W a kept k (w ∷ ws) F = (low, λ t. sum_out_places W a kept (suc k) ws t)

  action_places : (M : Model) (kept : List Tree) (P : Tree) (a : ℕ) (x : Action) → Places H (action_total M h kept P a x)
  unfolding action_total Places
  action_places M kept P a x = (low, λ F. places_then H _ _ (sum_out_places M.weights a kept 1 x.chances F) (λ G. (low, λ t. tt)))

  best_places : (M : Model) (kept : List Tree) (P : Tree) (a : ℕ) (l : List Action) (F : Tree) → Places H (best_on M h kept P a l F)
  unfolding best_on Places
  best_places M kept P a [] F = tt
  best_places M kept P a (x ∷ l) F = places_then H _ _ (action_places M (F ∷ kept) P a x) (λ G. (low, λ t. best_places M kept P (suc a) l t))

  stage_places : (M : Model) (kept : List Tree) (P : Tree) → Places H (stage_over M h kept P)
  unfolding stage_over
  stage_places M kept P = places_then H _ _ (action_places M kept P 1 M.first) (best_places M kept P 2 M.others)

stages_places : (H : ℕ) (M : Model) (k h : ℕ) (finished : List Tree) (P : Tree) → k + h ≤ suc H → Places H (stages_on M k h finished P)
unfolding stages_on Places
stages_places H M zero h finished P l = tt
stages_places H M (suc k) h finished P l = places_then H _ _ (stage_places H h (omega arith) M (finished ++ model_diagrams M) P)
    (λ S. places_then H _ _ (stages_places H M k (suc h) (S ∷ finished) S (omega arith)) (λ a. tt))

pub all_places : (M : Model) (H : ℕ) → 1 ≤ H → Places H (all_stages M H)
unfolding all_stages stages_over_end Places
all_places M H l = over_end M.end
  where
    over_end : (E : List Tree) → Places H (stages_over_end M H E)
    over_end [] = (l, λ Z. stages_places H M H 1 (Z ∷ []) Z (omega arith))
    over_end (E ∷ F) = stages_places H M H 1 _ E (omega arith)

-- the place of a refusal is a stage, or 0 for loading
pub refused_place : (N : ℕ) (B : List ℕ) (H r p : ℕ) → 1 ≤ H → solve_in N B H ≡ refused r p → p ≤ H
refused_place N B H r p l e = ⊎_elim
    (λ d. run_all_place H N (length (loaded B)) (all_stages (model B) H) r p (all_places (model B) H l) (sym d.1 ∙ e))
    (λ d. let i = d.1.1 in let j : p ≡ 0 = cc in omega arith)
    (solve_cases N B H)
