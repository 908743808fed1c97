-- Peaks along a run: an action's operations raise its own word alone, by the largest count of their run from peak 0.
use Rattle.std.specs.Prelude.{◌≡◌, Bool, true, false, List, [], ◌∷◌, ◌++◌, ℕ, zero, suc, max, eqb, length}
use Rattle.std.proofs.Math.Path.{refl}
use Rattle.std.proofs.Common.{sym, ap, ap₂, ◌∙◌, arith}
use Rattle.whole.specs.Cases.{if}
use Rattle.theory.specs.Diagram.{Tree}
use Rattle.theory.specs.Computation.{Comp, result, Out, done, stopped, run, enter_all, Moment, Ops, end, operation, and_then, final, solved, refused, run_all}
use Rattle.theory.specs.Meaning.{Action, Model}
use Rattle.theory.specs.Stage.{model_diagrams, moment, sum_out, action_total, best_on, stage_over, stages_on}
use Rattle.theory.specs.Events.{events, needed, peak_of}
use Rattle.theory.specs.Peaks.{raise, peaks_of}
use Rattle.theory.proofs.laws.Comps.{run_all_final}
use Rattle.theory.proofs.laws.Events.{run_done}
use Rattle.solve_laws.specs.Onward.{onward, answered}

-- ---- whose operations they are

-- every operation is of action a, whatever those before it come to
unfoldable pub Own : {A : Type 0} → ℕ → Ops A → Type 0
Own a (end x) = Unit {0}
Own a (operation h roots c f) = (h.action ≡ a) × ((t : Tree) → Own a (f t))

pub own_then : {X Y : Type 0} (a : ℕ) (m : Ops X) (k : X → Ops Y) → Own a m → ((x : X) → Own a (k x)) → Own a (and_then m k)
unfolding Own and_then
own_then a (end x) k d g = g x
own_then a (operation h roots c f) k d g = (d.0, λ t. own_then a (f t) k (d.1 t) g)

pub own_operation : (h a : ℕ) (roots : List Tree) (c : Comp Tree) → Own a (operation (moment h a) roots c end)
unfolding Own
own_operation h a roots c = (refl, λ t. tt)

sum_out_own : (W h a : ℕ) (kept : List Tree) (k : ℕ) (ws : List Tree) (F : Tree) → Own a (sum_out W (moment h a) kept k ws F)
unfolding sum_out Own
sum_out_own W h a kept k [] F = tt
sum_out_own W h a kept k (w ∷ ws) F = (refl, λ t. sum_out_own W h a kept (suc k) ws t)

pub total_own : (M : Model) (h : ℕ) (kept : List Tree) (P : Tree) (a : ℕ) (x : Action) → Own a (action_total M h kept P a x)
unfolding action_total Own
total_own M h kept P a x = (refl, λ F. own_then a _ _ (sum_out_own M.weights h a kept 1 x.chances F) (λ G. (refl, λ t. tt)))

-- ---- a word raised

raise_zero : (a : ℕ) (P : List ℕ) → raise a 0 P ≡ P
unfolding raise
raise_zero a [] = refl
raise_zero zero (p ∷ P) = ap (λ (n : ℕ). n ∷ P) (let z : max p 0 ≡ p = omega arith in z)
raise_zero (suc a) (p ∷ P) = ap (λ (Q : List ℕ). p ∷ Q) (raise_zero a P)

raise_raise : (a m n : ℕ) (P : List ℕ) → raise a n (raise a m P) ≡ raise a (max m n) P
unfolding raise
raise_raise a m n [] = refl
raise_raise zero m n (p ∷ P) = ap (λ (k : ℕ). k ∷ P) (let z : max (max p m) n ≡ max p (max m n) = omega arith in z)
raise_raise (suc a) m n (p ∷ P) = ap (λ (Q : List ℕ). p ∷ Q) (raise_raise a m n P)

own_raised : {A : Type 0} (a q : ℕ) (P : List ℕ) (m : Ops A) → Own a m → peaks_of (raise a q P) m ≡ raise a (peak_of q m) P
unfolding peaks_of peak_of Own
own_raised a q P (end x) d = refl
own_raised a q P (operation h roots c f) d =
    let n = length (needed (enter_all roots []) (events c)) in
    ap (λ (b : ℕ). peaks_of (raise b n (raise a q P)) (f (result c))) d.0
    ∙ (ap (λ (Q : List ℕ). peaks_of Q (f (result c))) (raise_raise a q n P)
    ∙ own_raised a (max q n) P (f (result c)) (d.1 (result c)))

-- ---- a run's peak

-- it is the largest count
run_peak : {A : Type 0} (N p : ℕ) (m : Ops A) (a : A) (q : ℕ) → run_all N p m ≡ solved a q → q ≡ peak_of p m
unfolding run_all peak_of
run_peak N p (end b) a q e = cc
run_peak N p (operation h roots c f) a q e = go (run N c (enter_all roots [])) refl e (λ r t. run_peak N r (f t) a q)
  where
    go : (o : Out Tree) → run N c (enter_all roots []) ≡ o → elim o [ done t X ↦ run_all N (max p (length X)) (f t) | stopped r ↦ refused r h.stage ] ≡ solved a q
        → ((r : ℕ) (t : Tree) → run_all N r (f t) ≡ solved a q → q ≡ peak_of r (f t)) → q ≡ peak_of (max p (length (needed (enter_all roots []) (events c)))) (f (result c))
    go (done t X) r e ih =
        let d = run_done N c (enter_all roots []) X t r in
        ih (max p (length X)) t e ∙ ap₂ (λ (Y : List Tree) (u : Tree). peak_of (max p (length Y)) (f u)) d.1 d.0
    go (stopped r) s e ih = absurd (let z : ◌≡◌ {A = ℕ} 0 1 = cc in omega arith)

-- "each the largest count of needed nodes over that action's operations": an action's run from peak 0 answers it
pub own_peaks : {A : Type 0} (N a : ℕ) (P : List ℕ) (m : Ops A) {x : A} {q : ℕ} → Own a m → run_all N 0 m ≡ solved x q → peaks_of P m ≡ raise a q P
own_peaks N a P m {x} {q} d e = ap (λ (Q : List ℕ). peaks_of Q m) (sym (raise_zero a P)) ∙ (own_raised a 0 P m d ∙ ap (λ (n : ℕ). raise a n P) (sym (run_peak N 0 m x q e)))

-- a larger peak to begin with shows in the peak alone
run_shift : {A : Type 0} (N p q : ℕ) (m : Ops A) → run_all N (max p q) m ≡ onward (run_all N q m) (λ a s. solved a (max p s))
unfolding run_all onward
run_shift N p q (end a) = refl
run_shift {A} N p q (operation h roots c f) = go (run N c (enter_all roots [])) (λ t s. run_shift N p s (f t))
  where
    go : (o : Out Tree) → ((t : Tree) (s : ℕ) → run_all N (max p s) (f t) ≡ onward (run_all N s (f t)) (λ a s. solved a (max p s)))
        → elim o [ done t X ↦ run_all N (max (max p q) (length X)) (f t) | stopped r ↦ refused r h.stage ]
        ≡ onward {A = A} (elim o [ done t X ↦ run_all N (max q (length X)) (f t) | stopped r ↦ refused r h.stage ]) (λ a s. solved a (max p s))
    go (done t X) rec = ap (λ (n : ℕ). run_all N n (f t)) (assoc (length X)) ∙ rec t (max q (length X))
      where
        assoc : (n : ℕ) → max (max p q) n ≡ max p (max q n)
        assoc n = omega arith
    go (stopped r) rec = refl

answered_shift : {A : Type 0} (p stop h : ℕ) (a : A) (q : ℕ) → onward (answered stop h a q) (λ a s. solved a (max p s)) ≡ answered stop h a (max p q)
unfolding answered onward
answered_shift {A} p stop h a q = go (eqb stop 0)
  where
    go : (b : Bool) → onward (if b (solved a q) (refused stop h)) (λ (x : A) (s : ℕ). solved x (max p s)) ≡ if b (solved a (max p q)) (refused stop h)
    go true = refl
    go false = refl

-- so the one peak is the larger of that before and the run's own
pub own_answered : {A : Type 0} (N p stop h : ℕ) (m : Ops A) (a : A) (q : ℕ) → run_all N 0 m ≡ answered stop h a q → run_all N p m ≡ answered stop h a (max p q)
own_answered N p stop h m a q e =
    ap (λ (n : ℕ). run_all N n m) (let z : p ≡ max p 0 = omega arith in z)
    ∙ (run_shift N p 0 m ∙ (ap (λ o. onward o (λ a s. solved a (max p s))) e ∙ answered_shift p stop h a q))

-- ---- one after another

peaks_then : {A B : Type 0} (P : List ℕ) (m : Ops A) (k : A → Ops B) → peaks_of P (and_then m k) ≡ peaks_of (peaks_of P m) (k (final m))
unfolding peaks_of and_then final
peaks_then P (end a) k = refl
peaks_then P (operation h roots c f) k = peaks_then (raise h.action (length (needed (enter_all roots []) (events c))) P) (f (result c)) k

-- the first came to x
peaks_on : {A B : Type 0} (N p : ℕ) (P : List ℕ) (m : Ops A) (k : A → Ops B) {x : A} {q : ℕ} → run_all N p m ≡ solved x q → peaks_of P (and_then m k) ≡ peaks_of (peaks_of P m) (k x)
peaks_on N p P m k {x} {q} e = peaks_then P m k ∙ ap (λ a. peaks_of (peaks_of P m) (k a)) (sym (run_all_final N p m x q e))

-- an operation with what follows it, and without
module _ {Y : Type 0} (h : Moment) (r : Tree → List Tree) (c : Tree → Comp Tree) (k : Tree → Ops Y) where
  abbrev alone : Ops Tree → Ops Tree
  alone m = and_then m (λ G. operation h (r G) (c G) end)

  peaks_alone : (P : List ℕ) (m : Ops Tree) → peaks_of P (and_then m (λ G. operation h (r G) (c G) k)) ≡ peaks_of (peaks_of P (alone m)) (k (final (alone m)))
  unfolding peaks_of and_then final
  peaks_alone P (end G) = refl
  peaks_alone P (operation b roots d f) = peaks_alone (raise b.action (length (needed (enter_all roots []) (events d))) P) (f (result d))

  pub peaks_alone_on : (N p : ℕ) (P : List ℕ) (m : Ops Tree) {x : Tree} {q : ℕ} → run_all N p (alone m) ≡ solved x q
      → peaks_of P (and_then m (λ G. operation h (r G) (c G) k)) ≡ peaks_of (peaks_of P (alone m)) (k x)
  peaks_alone_on N p P m {x} {q} e = peaks_alone P m ∙ ap (λ a. peaks_of (peaks_of P (alone m)) (k a)) (sym (run_all_final N p (alone m) x q e))

-- ---- a stage, and the stages

-- action 1 came to F
pub stage_peaks : (M : Model) (h : ℕ) (kept : List Tree) (P : Tree) (N p : ℕ) (Q : List ℕ) {F : Tree} {q : ℕ} → run_all N p (action_total M h kept P 1 M.first) ≡ solved F q
    → peaks_of Q (stage_over M h kept P) ≡ peaks_of (peaks_of Q (action_total M h kept P 1 M.first)) (best_on M h kept P 2 M.others F)
unfolding stage_over
stage_peaks M h kept P N p Q e = peaks_on N p Q (action_total M h kept P 1 M.first) (best_on M h kept P 2 M.others) e

-- stage h came to S
pub stages_peaks : (M : Model) (k h : ℕ) (finished : List Tree) (P : Tree) (N p : ℕ) (Q : List ℕ) {S : Tree} {q : ℕ} → run_all N p (stage_over M h (finished ++ model_diagrams M) P) ≡ solved S q
    → peaks_of Q (stages_on M (suc k) h finished P) ≡ peaks_of (peaks_of Q (stage_over M h (finished ++ model_diagrams M) P)) (stages_on M k (suc h) (S ∷ finished) S)
unfolding stages_on peaks_of
stages_peaks M k h finished P N p Q {S} e =
    let m = stage_over M h (finished ++ model_diagrams M) P in
    peaks_on N p Q m (λ S. and_then (stages_on M k (suc h) (S ∷ finished) S) (λ l. end (S ∷ l))) e
    ∙ peaks_then (peaks_of Q m) (stages_on M k (suc h) (S ∷ finished) S) (λ l. end (S ∷ l))
