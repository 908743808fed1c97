-- What holds of a result where the numbers named on the way are such, of computations and of operations.
use Rattle.std.specs.Prelude.{◌≡◌, refl, Bool, true, ℕ, max, T, ℤ, length}
use Rattle.std.proofs.Common.{subst, arith}
use mathlib.Core.List.{List, [], ◌∷◌}
use Rattle.whole.specs.Cases.{and_in, from_true}
use Rattle.whole.specs.Within.{small}
use Rattle.theory.specs.Diagram.{Linear, Tree}
use Rattle.theory.specs.Computation.{Comp, ret, named, made, bind, result, make, names, judge, Out, done, stopped, run, enter_all, Ops, end, operation, and_then, solved, refused, run_all, Moment}
use Rattle.theory.specs.Computation as C
use Rattle.theory.specs.Valid.{all}
use Rattle.theory.proofs.laws.Comps.{ret_done, named_done, with_made, made_done}

-- R of the result, where s? of each number that is named
pub data Safe (s? : ℤ → Bool) {A : Type 0} (R : A → Type 0) : Comp A → Type 0 where
  safe_ret : {a : A} → R a → Safe s? R (ret a)
  safe_named : {z : ℤ} {m : Comp A} → (T (s? z) → Safe s? R m) → Safe s? R (named z m)
  safe_made : {t : Tree} {m : Comp A} → Safe s? R m → Safe s? R (made t m)

module _ {s? : ℤ → Bool} where
  pub safe_make : {R : Tree → Type 0} (t : Tree) → R t → Safe s? R (make t)
  unfolding make
  safe_make t r = safe_made (safe_ret r)

  pub safe_bind : {A B : Type 0} {R : A → Type 0} {Q : B → Type 0} (m : Comp A) (k : A → Comp B) → Safe s? R m → ((a : A) → R a → Safe s? Q (k a)) → Safe s? Q (bind m k)
  unfolding bind
  safe_bind (ret a) k (safe_ret r) f = f a r
  safe_bind (named z m) k (safe_named s) f = safe_named (λ t. safe_bind m k (s t) f)
  safe_bind (made t m) k (safe_made s) f = safe_made (safe_bind m k s f)

  pub safe_weaken : {A : Type 0} {R Q : A → Type 0} (m : Comp A) → ((a : A) → R a → Q a) → Safe s? R m → Safe s? Q m
  safe_weaken (ret a) f (safe_ret r) = safe_ret (f a r)
  safe_weaken (named z m) f (safe_named s) = safe_named (λ t. safe_weaken m f (s t))
  safe_weaken (made t m) f (safe_made s) = safe_made (safe_weaken m f s)

  pub safe_both : {R Q : Tree → Type 0} (mk : Tree → Tree → Comp Tree) (m₁ m₂ : Comp Tree)
      → Safe s? R m₁ → Safe s? R m₂ → ((h l : Tree) → R h → R l → Safe s? Q (mk h l)) → Safe s? Q (C.both mk m₁ m₂)
  unfolding C.both
  safe_both mk m₁ m₂ a b f = safe_bind m₁ _ a (λ h rh. safe_bind m₂ _ b (λ l rl. f h l rh rl))

  safe_names : {A : Type 0} {R : A → Type 0} (l : List ℤ) (m : Comp A) → (T (all s? l) → Safe s? R m) → Safe s? R (names l m)
  unfolding names all
  safe_names [] m f = f tt
  safe_names (z ∷ l) m f = safe_named (λ t. safe_names l m (λ u. f (and_in (s? z) (all s? l) t u)))

  -- what is judged is such from there on
  pub safe_judge : {A : Type 0} {R : A → Type 0} (p : Linear) (m : Comp A) → (T (all s? p.coeffs) → T (s? p.const) → Safe s? R m) → Safe s? R (judge p m)
  unfolding judge
  safe_judge p m f = safe_names p.coeffs (named p.const m) (λ a. safe_named (f a))

-- ---- whatever the numbers

abbrev pub any : {A : Type 0} → A → Bool
any a = true

pub sure : {A : Type 0} {R : A → Type 0} (m : Comp A) → Safe any R m → R (result m)
unfolding result
sure (ret a) (safe_ret r) = r
sure (named z m) (safe_named s) = sure m (s tt)
sure (made t m) (safe_made s) = sure m s

-- ---- small numbers: what a run is done with

pub run_safe : {A : Type 0} (R : A → Type 0) (N : ℕ) (m : Comp A) (X Y : List Tree) (a : A) → run N m X ≡ done a Y → Safe small R m → R a
run_safe R N (ret b) X Y a e (safe_ret r) = subst R (ret_done N b X Y a e).0 r
run_safe R N (named z m) X Y a e (safe_named s) = let d = named_done N z m X Y a e in run_safe R N m X Y a d.1 (s (from_true d.0))
run_safe R N (made t m) X Y a e (safe_made s) = run_safe R N m (with_made t X) Y a (made_done N t m X Y a e) s

-- the same of operations
unfoldable pub SafeOps : {A : Type 0} → (A → Type 0) → Ops A → Type 0
SafeOps R (end a) = R a
SafeOps R (operation h roots c f) = Safe small (λ t. SafeOps R (f t)) c

pub safe_end : {A : Type 0} (R : A → Type 0) (a : A) → R a → SafeOps R (end a)
unfolding SafeOps
safe_end R a r = r

pub safe_operation : {A : Type 0} {R : Tree → Type 0} (Q : A → Type 0) (h : Moment) (roots : List Tree) (c : Comp Tree) (f : Tree → Ops A)
    → Safe small R c → ((t : Tree) → R t → SafeOps Q (f t)) → SafeOps Q (operation h roots c f)
unfolding SafeOps
safe_operation Q h roots c f s g = safe_weaken c g s

pub safe_then : {A B : Type 0} {R : A → Type 0} (Q : B → Type 0) (m : Ops A) (k : A → Ops B) → SafeOps R m → ((a : A) → R a → SafeOps Q (k a)) → SafeOps Q (and_then m k)
unfolding SafeOps and_then
safe_then Q (end a) k s f = f a s
safe_then Q (operation h roots c g) k s f = safe_weaken c (λ t r. safe_then Q (g t) k r f) s

pub run_all_safe : {A : Type 0} (R : A → Type 0) (N p : ℕ) (m : Ops A) (a : A) (q : ℕ) → run_all N p m ≡ solved a q → SafeOps R m → R a
unfolding run_all SafeOps
run_all_safe R N p (end b) a q e s = let d : b ≡ a = cc in subst R d s
run_all_safe R N p (operation h roots c f) a q e s = go (run N c (enter_all roots [])) refl e (λ r t. run_all_safe R N r (f t) a q)
  where
    go : (o : Out Tree) → run N c (enter_all roots []) ≡ o → elim o [ done t X ↦ run_all N (max p (length X)) (f t) | stopped r ↦ refused r h.stage ] ≡ solved a q
        → ((r : ℕ) (t : Tree) → run_all N r (f t) ≡ solved a q → SafeOps R (f t) → R a) → R a
    go (done t X) r e ih = ih (max p (length X)) t e (run_safe _ N c (enter_all roots []) X t r s)
    go (stopped r) s e ih = absurd (let z : ◌≡◌ {A = ℕ} 0 1 = cc in omega arith)
