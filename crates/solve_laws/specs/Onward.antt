-- Operations one after another, run.
use Rattle.std.specs.Prelude.{◌≡◌, refl, Bool, List, [], ℕ, max, eqb, length}
use Rattle.std.proofs.Math.Path.{ap}
use Rattle.std.proofs.Common.{◌∙◌, eq-eqb, ne_eqb}
use Rattle.whole.specs.Cases.{if}
use Rattle.theory.specs.Diagram.{Tree}
use Rattle.theory.specs.Computation.{Comp, Out, done, stopped, run, enter_all, Moment, Ops, end, operation, and_then, Solved, solved, refused, run_all}

-- what follows from a result and its peak; a refusal stays
unfoldable pub onward : {A B : Type 0} → Solved A → (A → ℕ → Solved B) → Solved B
onward (solved a p) k = k a p
onward (refused r h) k = refused r h

pub onward_solved : {A B : Type 0} {o : Solved A} {a : A} {p : ℕ} (k : A → ℕ → Solved B) → o ≡ solved a p → onward o k ≡ k a p
unfolding onward
onward_solved k e = ap (λ o. onward o k) e

pub onward_refused : {A B : Type 0} {o : Solved A} {r h : ℕ} (k : A → ℕ → Solved B) → o ≡ refused r h → onward o k ≡ refused r h
unfolding onward
onward_refused k e = ap (λ o. onward o k) e

pub onward_onward : {A B C : Type 0} (o : Solved A) (j : A → ℕ → Solved B) (k : B → ℕ → Solved C) → onward (onward o j) k ≡ onward o (λ a p. onward (j a p) k)
unfolding onward
onward_onward (solved a p) j k = refl
onward_onward (refused r h) j k = refl

-- equal on all results
pub onward_same : {A B : Type 0} (o : Solved A) (j k : A → ℕ → Solved B) → ((a : A) (p : ℕ) → j a p ≡ k a p) → onward o j ≡ onward o k
unfolding onward
onward_same (solved a p) j k e = e a p
onward_same (refused r h) j k e = refl

pub onward_end : {A : Type 0} (o : Solved A) → onward o solved ≡ o
unfolding onward
onward_end (solved a p) = refl
onward_end (refused r h) = refl

-- ---- the run

pub run_all_end : {A : Type 0} (N p : ℕ) (a : A) → run_all N p (end a) ≡ solved a p
unfolding run_all
run_all_end N p a = refl

-- some operations, then those that follow: the one run after the other, on its peak
pub run_all_then : {A B : Type 0} (N p : ℕ) (m : Ops A) (k : A → Ops B) → run_all N p (and_then m k) ≡ onward (run_all N p m) (λ a q. run_all N q (k a))
unfolding run_all and_then onward
run_all_then N p (end a) k = refl
run_all_then {A} {B} N p (operation h roots c f) k = go (run N c (enter_all roots [])) (λ t q. run_all_then N q (f t) k)
  where
    go : (o : Out Tree) → ((t : Tree) (q : ℕ) → run_all N q (and_then (f t) k) ≡ onward (run_all N q (f t)) (λ a q. run_all N q (k a)))
        → elim o [ done t X ↦ run_all N (max p (length X)) (and_then (f t) k) | stopped r ↦ refused r h.stage ]
        ≡ onward (elim o [ done t X ↦ run_all N (max p (length X)) (f t) | stopped r ↦ refused r h.stage ]) (λ a q. run_all N q (k a))
    go (done t X) rec = rec t (max p (length X))
    go (stopped r) rec = refl

-- an operation's computation c comes to t, k nodes needed with it
pub record Works (N : ℕ) (roots : List Tree) (c : Comp Tree) (t : Tree) (k : ℕ) : Type 0 where
  pub nodes : List Tree
  pub comes : run N c (enter_all roots []) ≡ done t nodes
  pub count : length nodes ≡ k

-- or stops, with the refusal r
pub record Stops (N : ℕ) (roots : List Tree) (c : Comp Tree) (r : ℕ) : Type 0 where
  pub refuses : run N c (enter_all roots []) ≡ stopped r

module _ {A : Type 0} {N : ℕ} {roots : List Tree} {c : Comp Tree} (p : ℕ) (h : Moment) (f : Tree → Ops A) where
  -- what follows from the result is left to run
  pub works_run : {t : Tree} {k : ℕ} → Works N roots c t k → run_all N p (operation h roots c f) ≡ run_all N (max p k) (f t)
  unfolding run_all
  works_run {t} e =
      ap (λ (o : Out Tree). elim o [ done t X ↦ run_all N (max p (length X)) (f t) | stopped r ↦ refused r h.stage ]) e.comes
      ∙ ap (λ (k : ℕ). run_all N (max p k) (f t)) e.count

  -- all is refused, at the operation's place
  pub stops_run : {r : ℕ} → Stops N roots c r → run_all N p (operation h roots c f) ≡ refused r h.stage
  unfolding run_all
  stops_run e = ap (λ (o : Out Tree). elim o [ done t X ↦ run_all N (max p (length X)) (f t) | stopped r ↦ refused r h.stage ]) e.refuses

-- ---- an answer in words: a stop's number, 0 where there is none

unfoldable pub answered : {A : Type 0} → ℕ → ℕ → A → ℕ → Solved A
answered stop h a q = if (eqb stop 0) (solved a q) (refused stop h)

pub answered_ok : {A : Type 0} (stop h : ℕ) (a : A) (q : ℕ) → stop ≡ 0 → answered stop h a q ≡ solved a q
unfolding answered
answered_ok stop h a q e = ap (λ (b : Bool). if b (solved a q) (refused stop h)) (eq-eqb stop 0 e)

pub answered_no : {A : Type 0} (stop h : ℕ) (a : A) (q : ℕ) → (stop ≡ 0 → ⊥) → answered stop h a q ≡ refused stop h
unfolding answered
answered_no stop h a q e = ap (λ (b : Bool). if b (solved a q) (refused stop h)) (ne_eqb stop 0 e)

-- what follows from an answer
module _ {A B : Type 0} {o : Solved A} (stop h : ℕ) (a : A) (q : ℕ) (e : o ≡ answered stop h a q) (k : A → ℕ → Solved B) where
  pub onward_ok : stop ≡ 0 → onward o k ≡ k a q
  onward_ok z = onward_solved k (e ∙ answered_ok stop h a q z)

  pub onward_no : (stop ≡ 0 → ⊥) → onward o k ≡ refused stop h
  onward_no z = onward_refused k (e ∙ answered_no stop h a q z)
