-- What operations on the table did, put together.
use mathlib.Core.Path.{◌≡◌, refl, sym, ap, ◌∙◌, subst}
use mathlib.Core.Bool.{Bool, true, false}
use mathlib.Core.List.{List}
use Prim.Native.Nat.{ℕ, ◌+◌, ◌*◌, ◌≤◌, ◌<◌}
use native.Mathlib.Nat.{le_trans, lt_of_lt_of_le}
use native.Mathlib.Omega.{arith}
use borrow.Author.Tests.{eq-eqb, ne_eqb}
use lib.IntN.{ℤ}
use lib.ListN.{get_or}
use Rattle.whole.specs.Cases.{if}
use Rattle.table.specs.Table.{Answer, stop_number, stop_of, at_of, count_of, made, halted}
use Rattle.table.specs.declared.Stop.{Stop}
use Rattle.table.specs.declared.Stop.TheVariants.{Full, Over}
use Rattle.table.specs.declared.Stopped.{Stopped}
use Rattle.std.specs.Prelude.{Ok, Err, IsErrAnd}
use Rattle.table_unique.specs.Unique.{work_words}
use Rattle.theory.specs.Diagram.{Linear, Tree}
use Rattle.theory.specs.Computation.{Comp, ret, judge, bind, both, Out, done, stopped, run}
use Rattle.theory.proofs.laws.Comps.{after, run_bind, run_judge}
use Rattle.theory.specs.Valid.{small_linear}
use Rattle.rule_node.specs.Nodes.{blank, trees, tree_at, Grown}
use Rattle.rule_node.specs.Table.{EntryRule, ResultStands, Cached, Bare, Table, RuleRan, Grew, out_of}
use Rattle.rule_node.proofs.Trees.{trees_kept, grown_on}

-- ---- an answer, as an outcome

pub out_ok : (r : Answer) (X : List Tree) → stop_of r ≡ 0 → out_of r X ≡ done (get_or X (at_of r) blank) X
unfolding out_of
out_ok r X e = ap (λ (b : Bool). if b (done (get_or X (at_of r) blank) X) (stopped (stop_of r))) (eq-eqb (stop_of r) 0 e)

pub out_no : (r : Answer) (X : List Tree) → (stop_of r ≡ 0 → ⊥) → out_of r X ≡ stopped (stop_of r)
unfolding out_of
out_no r X e = ap (λ (b : Bool). if b (done (get_or X (at_of r) blank) X) (stopped (stop_of r))) (ne_eqb (stop_of r) 0 e)

-- ---- where a `?` ends a rule

-- what has stopped has a number
pub stops : (e : Stopped) → stop_of (Err e) ≡ 0 → ⊥
stops e = go e.why
  where
    go : (w : Stop) → stop_number w ≡ 0 → ⊥
    go Full q = omega arith
    go Over q = omega arith

-- it answers what stopped
pub passed : {e : Stopped} (r : Answer) → IsErrAnd r (λ y. y ≡ e) → Err e ≡ r
passed (Ok m) h = absurd h
passed (Err y) h = ap Err (sym h)

pub ran_passed : {R : EntryRule} {cap : ℕ} {l l₁ : List ℤ} {w w₁ : List ℕ} {n : ℕ} {m : Comp Tree} {e : Stopped} {r : Answer} → RuleRan R cap l w n m l₁ w₁ (Err e) → IsErrAnd r (λ y. y ≡ e) → RuleRan R cap l w n m l₁ w₁ r
ran_passed {R} {cap} {l} {l₁} {w} {w₁} {n} {m} {r = r} S h = subst (λ (z : Answer). RuleRan R cap l w n m l₁ w₁ z) (passed r h) S

pub grew_passed : {cap : ℕ} {l l₁ : List ℤ} {w w₁ : List ℕ} {n : ℕ} {m : Comp Tree} {e : Stopped} {r : Answer} → Grew cap l w n m l₁ w₁ (Err e) → IsErrAnd r (λ y. y ≡ e) → Grew cap l w n m l₁ w₁ r
grew_passed {cap} {l} {l₁} {w} {w₁} {n} {m} {r = r} S h = subst (λ (z : Answer). Grew cap l w n m l₁ w₁ z) (passed r h) S

-- ---- the cache stands as the table grows

pub stands_grown : {R : EntryRule} {cap : ℕ} {l l' : List ℤ} {n n' : ℕ} → Grown l n l' n' → {op f g p q r : ℕ} → ResultStands R cap l n op f g p q r → ResultStands R cap l' n' op f g p q r
stands_grown G S = let a = S.result in let b = G.more in record { result = omega arith; again = λ l'' n'' H. S.again l'' n'' (grown_on G H) }

pub cached_grown : {R : EntryRule} {cap : ℕ} {l l' : List ℤ} {n n' : ℕ} {w w' : List ℕ} → Grown l n l' n' → ((j : ℕ) → cap * 2 ≤ j → get_or w' j 0 ≡ get_or w j 0) → Cached R cap l w n → Cached R cap l' w' n'
cached_grown {cap = cap} G e C j op f g p q r h E = stands_grown G (C j op f g p q r h (record {
  is_op = sym (e (cap * 2 + j * 6) (omega arith)) ∙ E.is_op;
  is_f = sym (e (cap * 2 + j * 6 + 1) (omega arith)) ∙ E.is_f;
  is_g = sym (e (cap * 2 + j * 6 + 2) (omega arith)) ∙ E.is_g;
  is_p = sym (e (cap * 2 + j * 6 + 3) (omega arith)) ∙ E.is_p;
  is_q = sym (e (cap * 2 + j * 6 + 4) (omega arith)) ∙ E.is_q;
  full = sym (e (cap * 2 + j * 6 + 5) (omega arith)) ∙ E.full;
}))

-- an empty cache is right, whatever entries mean
pub fresh : {R : EntryRule} {cap : ℕ} {l : List ℤ} {w : List ℕ} {n : ℕ} → Bare cap l w n → ((j : ℕ) → cap * 2 ≤ j → j < cap * work_words → get_or w j 0 ≡ 0) → Table R cap l w n
fresh {cap = cap} B z = record {
  bare = B;
  cached = λ j op f g p q r h E. absurd (omega (arith, E.full, z (cap * 2 + j * 6 + 5) (omega arith) (omega arith)));
}

-- an operation that leaves the cache's words alone leaves the cache right, whatever entries mean
pub lifted : {R : EntryRule} {cap : ℕ} {l l₁ : List ℤ} {w w₁ : List ℕ} {n : ℕ} {m : Comp Tree} {r : Answer} → Table R cap l w n → Grew cap l w n m l₁ w₁ r → RuleRan R cap l w n m l₁ w₁ r
lifted A S = record {
  ran = S.ran;
  table = record { bare = S.bare; cached = cached_grown (record { more = S.more; kept = S.kept }) S.beyond A.cached };
  within = S.within;
  more = S.more;
  kept = S.kept;
}

pub grown : {R : EntryRule} {cap : ℕ} {l l₁ : List ℤ} {w w₁ : List ℕ} {n : ℕ} {m : Comp Tree} {r : Answer} → RuleRan R cap l w n m l₁ w₁ r → Grown l n l₁ (count_of r)
grown S = record { more = S.more; kept = S.kept }

-- ---- one after another

-- the first part stopped
pub stop : {R : EntryRule} {cap : ℕ} {l l₁ : List ℤ} {w w₁ : List ℕ} {n : ℕ} {m : Comp Tree} (k : Tree → Comp Tree) {r : Answer} → RuleRan R cap l w n m l₁ w₁ r → (stop_of r ≡ 0 → ⊥) → RuleRan R cap l w n (bind m k) l₁ w₁ r
unfolding after
stop {cap = cap} {l} {l₁} {n = n} {m} k {r} S off = record {
  ran = out_no r (trees l₁ (count_of r)) off ∙ sym (run_bind cap m k (trees l n) ∙ ap (λ (o : Out Tree). after o (λ t Y. run cap (k t) Y)) (sym S.ran ∙ out_no r (trees l₁ (count_of r)) off));
  table = S.table;
  within = S.within;
  more = S.more;
  kept = S.kept;
}

-- the second part ran after the first
pub seq : {R : EntryRule} {cap : ℕ} {l l₁ l₂ : List ℤ} {w w₁ w₂ : List ℕ} {n : ℕ} {m : Comp Tree} (k : Tree → Comp Tree) {r s : Answer} → RuleRan R cap l w n m l₁ w₁ r
    → stop_of r ≡ 0 → RuleRan R cap l₁ w₁ (count_of r) (k (tree_at l₁ (count_of r) (at_of r))) l₂ w₂ s → RuleRan R cap l w n (bind m k) l₂ w₂ s
unfolding after
seq {cap = cap} {l} {l₁} {n = n} {m} k {r} {s} Q ok S = record {
  ran = S.ran ∙ sym (run_bind cap m k (trees l n) ∙ ap (λ (o : Out Tree). after o (λ t Y. run cap (k t) Y)) (sym Q.ran ∙ out_ok r (trees l₁ (count_of r)) ok));
  table = S.table;
  within = S.within;
  more = le_trans Q.more S.more;
  kept = λ i h. S.kept i (lt_of_lt_of_le h Q.more) ∙ Q.kept i h;
}

-- a part that stands for an equal computation
pub ran_as : {R : EntryRule} {cap : ℕ} {l l₁ : List ℤ} {w w₁ : List ℕ} {n : ℕ} {m m' : Comp Tree} {r : Answer} → m ≡ m' → RuleRan R cap l w n m l₁ w₁ r → RuleRan R cap l w n m' l₁ w₁ r
ran_as {R} {cap} {l} {l₁} {w} {w₁} {n} {r = r} e S = subst (λ (z : Comp Tree). RuleRan R cap l w n z l₁ w₁ r) e S

-- "high before low": high, then low, then what is made of the two
module _ {R : EntryRule} {cap : ℕ} {l l₁ : List ℤ} {w w₁ : List ℕ} {n : ℕ} (mk : Tree → Tree → Comp Tree) {m₁ : Comp Tree} (m₂ : Comp Tree) {h : Answer} (Q : RuleRan R cap l w n m₁ l₁ w₁ h) where
  pub both_high_stops : (stop_of h ≡ 0 → ⊥) → RuleRan R cap l w n (both mk m₁ m₂) l₁ w₁ h
  unfolding both
  both_high_stops off = stop _ Q off

  module _ (ok : stop_of h ≡ 0) {l₂ : List ℤ} {w₂ : List ℕ} {k : Answer} (S : RuleRan R cap l₁ w₁ (count_of h) m₂ l₂ w₂ k) where
    pub both_low_stops : (stop_of k ≡ 0 → ⊥) → RuleRan R cap l w n (both mk m₁ m₂) l₂ w₂ k
    unfolding both
    both_low_stops off = seq _ Q ok (stop _ S off)

    pub both_high_in : at_of h < count_of k
    both_high_in = lt_of_lt_of_le (Q.within ok) S.more

    pub both_made : stop_of k ≡ 0 → {l₃ : List ℤ} {w₃ : List ℕ} {r : Answer} → RuleRan R cap l₂ w₂ (count_of k) (mk (tree_at l₂ (count_of k) (at_of h)) (tree_at l₂ (count_of k) (at_of k))) l₃ w₃ r → RuleRan R cap l w n (both mk m₁ m₂) l₃ w₃ r
    unfolding both
    both_made ok' P = seq _ Q ok (seq _ S ok' (ran_as (ap (λ (z : Tree). mk z (tree_at l₂ (count_of k) (at_of k))) (trees_kept (grown S) (at_of h) (Q.within ok))) P))

-- or for one that runs alike
pub ran_like : {R : EntryRule} {cap : ℕ} {l l₁ : List ℤ} {w w₁ : List ℕ} {n : ℕ} {m m' : Comp Tree} {r : Answer} → run cap m (trees l n) ≡ run cap m' (trees l n) → RuleRan R cap l w n m l₁ w₁ r → RuleRan R cap l w n m' l₁ w₁ r
ran_like e S = record { ran = S.ran ∙ e; table = S.table; within = S.within; more = S.more; kept = S.kept }

pub grew_as : {cap : ℕ} {l l₁ : List ℤ} {w w₁ : List ℕ} {n : ℕ} {m m' : Comp Tree} {r : Answer} → m ≡ m' → Grew cap l w n m l₁ w₁ r → Grew cap l w n m' l₁ w₁ r
grew_as {cap} {l} {l₁} {w} {w₁} {n} {r = r} e S = subst (λ (z : Comp Tree). Grew cap l w n z l₁ w₁ r) e S

pub grew_like : {cap : ℕ} {l l₁ : List ℤ} {w w₁ : List ℕ} {n : ℕ} {m m' : Comp Tree} {r : Answer} → run cap m (trees l n) ≡ run cap m' (trees l n) → Grew cap l w n m l₁ w₁ r → Grew cap l w n m' l₁ w₁ r
grew_like e S = record { ran = S.ran ∙ e; bare = S.bare; within = S.within; more = S.more; kept = S.kept; rest = S.rest; beyond = S.beyond }

-- ---- parts that make nothing

-- a tree that is there
pub grew_ret : {cap : ℕ} {l : List ℤ} {w : List ℕ} {n : ℕ} → Bare cap l w n → (h : ℕ) → h < n → Grew cap l w n (ret (tree_at l n h)) l w (made h n)
unfolding run out_of
grew_ret B h q = record { ran = refl; bare = B; within = λ t. q; more = omega arith; kept = λ i r. refl; rest = λ i r. refl; beyond = λ j r. refl }

pub ran_ret : {R : EntryRule} {cap : ℕ} {l : List ℤ} {w : List ℕ} {n : ℕ} → Table R cap l w n → (h : ℕ) → h < n → RuleRan R cap l w n (ret (tree_at l n h)) l w (made h n)
ran_ret A h q = lifted A (grew_ret A.bare h q)

run_fine : (cap : ℕ) (l : List ℤ) (n : ℕ) (p : Linear) (m : Comp Tree) → small_linear p ≡ true → run cap m (trees l n) ≡ run cap (judge p m) (trees l n)
run_fine cap l n p m e = sym (run_judge cap p m (trees l n) ∙ ap (λ (b : Bool). if b (run cap m (trees l n)) (stopped 11)) e)

-- a linear's numbers judged first
module _ {cap : ℕ} {l : List ℤ} {w : List ℕ} {n : ℕ} (p : Linear) (m : Comp Tree) where
  -- 11 where one lies beyond the limits
  pub grew_over : Bare cap l w n → small_linear p ≡ false → Grew cap l w n (judge p m) l w (halted Over n)
  unfolding out_of
  grew_over B e = record {
    ran = sym (run_judge cap p m (trees l n) ∙ ap (λ (b : Bool). if b (run cap m (trees l n)) (stopped 11)) e);
    bare = B;
    within = λ t. absurd (omega arith);
    more = omega arith;
    kept = λ i r. refl;
    rest = λ i r. refl;
    beyond = λ j r. refl;
  }

  -- and else what follows
  pub grew_judged : {l₁ : List ℤ} {w₁ : List ℕ} {r : Answer} → small_linear p ≡ true → Grew cap l w n m l₁ w₁ r → Grew cap l w n (judge p m) l₁ w₁ r
  grew_judged e S = grew_like (run_fine cap l n p m e) S

  pub ran_over : {R : EntryRule} → Table R cap l w n → small_linear p ≡ false → RuleRan R cap l w n (judge p m) l w (halted Over n)
  ran_over A e = lifted A (grew_over A.bare e)

  pub ran_judged : {R : EntryRule} {l₁ : List ℤ} {w₁ : List ℕ} {r : Answer} → small_linear p ≡ true → RuleRan R cap l w n m l₁ w₁ r → RuleRan R cap l w n (judge p m) l₁ w₁ r
  ran_judged e S = ran_like (run_fine cap l n p m e) S
