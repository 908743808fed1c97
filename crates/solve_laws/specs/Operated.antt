-- An operation of the theory, done on a table: collect, then run its rule, in whatever part of the room.
use Rattle.std.specs.Prelude.{◌≡◌, refl, List, [], ◌∷◌, ℕ, zero, suc, max, ◌≤◌, ◌<◌, ℤ, length, get_or}
use Rattle.std.proofs.Common.{sym, ap, ap₂, ◌∙◌, subst, lt_of_lt_of_le, arith}
use Rattle.table.specs.Table.{node_at, Answer, stop_of, at_of, count_of}
use Rattle.theory.specs.Diagram.{Tree}
use Rattle.theory.specs.Computation.{Comp, Out, done, stopped, run, enter_all, Moment, Ops, operation, refused, run_all}
use Rattle.rule_node.specs.Nodes.{blank, trees, tree_at, Good, Grown}
use Rattle.rule_node.specs.Table.{out_of}
use Rattle.rule_node.proofs.Trees.{trees_length, trees_kept}
use Rattle.rule_node.proofs.Outcomes.{out_ok, out_no}
use Rattle.table_unique.specs.Unique.{Space}
use Rattle.collect_mark.specs.Mark.{roots_of, Below}
use Rattle.collect.specs.Collect.{Collected}
use Rattle.collect.proofs.Order.{SameOut, done_as, stopped_as, run_same}
use Rattle.collect.proofs.Needed.{kept_nodes}
use Rattle.solve_laws.specs.Alike.{Alike, alike_trans, alike_eq, alike_cons, same_roots}
use Rattle.solve_laws.specs.Onward.{Works, Stops, works_run, stops_run}

-- ---- roots of a table

pub roots_at : (X : List Tree) (ρ : List ℕ) (j : ℕ) → j < length ρ → get_or (roots_of X ρ) j blank ≡ get_or X (get_or ρ j 0) blank
unfolding roots_of
roots_at X [] j h = absurd (omega arith)
roots_at X (r ∷ ρ) zero h = refl
roots_at X (r ∷ ρ) (suc j) h = roots_at X ρ j (omega arith)

-- they stay as the table grows
pub roots_grown : {l l' : List ℤ} {n n' : ℕ} → Grown l n l' n' → (ρ : List ℕ) → Below ρ n → roots_of (trees l' n') ρ ≡ roots_of (trees l n) ρ
unfolding roots_of
roots_grown G [] B = refl
roots_grown {l} {l'} {n} {n'} G (r ∷ ρ) B = ap₂ ◌∷◌ (trees_kept G r (B.at 0 (omega arith))) (roots_grown G ρ (record { at = λ j h. B.at (suc j) (omega arith) }))

pub below_more : {ρ : List ℕ} {n n' : ℕ} → n ≤ n' → Below ρ n → Below ρ n'
below_more h B = record { at = λ j q. lt_of_lt_of_le (B.at j q) h }

pub below_cons : {ρ : List ℕ} {n r : ℕ} → r < n → Below ρ n → Below (r ∷ ρ) n
below_cons {ρ} {n} {r} h B = record { at = at }
  where
    at : (j : ℕ) → j < length (r ∷ ρ) → get_or (r ∷ ρ) j 0 < n
    at zero q = h
    at (suc j) q = B.at j (omega arith)

-- a table that holds at its indexes ρ the diagrams R, in any order
pub record RootsHeld (cap : ℕ) (l : List ℤ) (w : List ℕ) (n : ℕ) (ρ : List ℕ) (R : List Tree) : Type 0 where
  pub good : Good l n
  pub space : Space cap l w n
  pub below : Below ρ n
  pub roots : Alike (roots_of (trees l n) ρ) R

pub held_as : {cap : ℕ} {l : List ℤ} {w : List ℕ} {n : ℕ} {ρ : List ℕ} {R S : List Tree} → Alike R S → RootsHeld cap l w n ρ R → RootsHeld cap l w n ρ S
held_as a H = record { good = H.good; space = H.space; below = H.below; roots = alike_trans H.roots a }

-- ---- a rule's run

-- what a rule that ran on the table of n nodes l came to, at the words l', w' and the answer r: the computation m with room for cap
pub record Came (cap : ℕ) (l : List ℤ) (n : ℕ) (m : Comp Tree) (l' : List ℤ) (w' : List ℕ) (r : Answer) : Type 0 where
  pub ran : out_of r (trees l' (count_of r)) ≡ run cap m (trees l n)
  pub good : Good l' (count_of r)
  pub space : Space cap l' w' (count_of r)
  pub within : stop_of r ≡ 0 → at_of r < count_of r
  pub more : n ≤ count_of r
  pub kept : (i : ℕ) → i < n → node_at l' i ≡ node_at l i

-- the table has grown
pub came_grown : {cap n : ℕ} {l l' : List ℤ} {w' : List ℕ} {m : Comp Tree} {r : Answer} → Came cap l n m l' w' r → Grown l n l' (count_of r)
came_grown S = record { more = S.more; kept = S.kept }

-- so for an equal computation
pub came_as : {cap n : ℕ} {l l' : List ℤ} {w' : List ℕ} {m m' : Comp Tree} {r : Answer} → m ≡ m' → Came cap l n m l' w' r → Came cap l n m' l' w' r
came_as {cap} {n} {l} {l'} {w'} {r = r} e S = subst (λ (z : Comp Tree). Came cap l n z l' w' r) e S

-- ---- a collected table

pub collected_space : {cap n n₁ : ℕ} {l l₁ : List ℤ} {w w₁ ρ ρ₁ : List ℕ} → Space cap l w n → Collected l l₁ w w₁ ρ ρ₁ n n₁ → Space cap l₁ w₁ n₁
collected_space S C = record {
  some = S.some;
  few = S.few;
  room = omega (arith, C.fewer, S.room);
  words = omega (arith, C.nodes_length, S.words);
  works = omega (arith, C.work_length, S.works);
}

module _ {cap n n₁ : ℕ} {l l₁ : List ℤ} {w w₁ : List ℕ} {ρ ρ₁ : List ℕ} {R : List Tree} (H : RootsHeld cap l w n ρ R) (C : Collected l l₁ w w₁ ρ ρ₁ n n₁) where
  pub collected_held : RootsHeld cap l₁ w₁ n₁ ρ₁ R
  collected_held = record { good = C.good; space = collected_space H.space C; below = C.below; roots = alike_trans (alike_eq C.roots) H.roots }

  -- each root's tree is the one that it was
  pub collected_at : (j : ℕ) → j < length ρ → tree_at l₁ n₁ (get_or ρ₁ j 0) ≡ tree_at l n (get_or ρ j 0)
  collected_at j h = sym (roots_at (trees l₁ n₁) ρ₁ j (let z = C.roots_length in omega arith)) ∙ (ap (λ (X : List Tree). get_or X j blank) C.roots ∙ roots_at (trees l n) ρ j h)

  -- its nodes are those that the diagrams need, each once
  pub collected_run : {A : Type 0} (N : ℕ) (c : Comp A) → SameOut (run N c (trees l₁ n₁)) (run N c (enter_all R []))
  collected_run N c =
      let a = kept_nodes H.good H.below C in
      let b = same_roots (roots_of (trees l n) ρ) R H.roots in
      run_same N c (trees l₁ n₁) (enter_all R []) a.left b.right (λ u. a.members u ∙ b.members u)

  -- ---- the operation's rule ran on it

  module _ {c : Comp Tree} {l₂ : List ℤ} {w₂ : List ℕ} {r : Answer} (S : Came cap l₁ n₁ c l₂ w₂ r) where
    -- the operation's computation comes to the tree at the answer, with the table's count of nodes
    pub worked : stop_of r ≡ 0 → Works cap R c (tree_at l₂ (count_of r) (at_of r)) (count_of r)
    worked ok =
        let X = trees l₂ (count_of r) in
        let o : run cap c (trees l₁ n₁) ≡ done (get_or X (at_of r) blank) X = sym S.ran ∙ out_ok r X ok in
        let d = done_as (subst (λ (q : Out Tree). SameOut q (run cap c (enter_all R []))) o (collected_run cap c)) in
        record { nodes = d.0; comes = d.1; count = sym d.2.count ∙ trees_length l₂ (count_of r) }

    -- or stops where the rule stopped
    pub stops : (stop_of r ≡ 0 → ⊥) → Stops cap R c (stop_of r)
    stops off =
        let o : run cap c (trees l₁ n₁) ≡ stopped (stop_of r) = sym S.ran ∙ out_no r (trees l₂ (count_of r)) off in
        record { refuses = stopped_as (subst (λ (q : Out Tree). SameOut q (run cap c (enter_all R []))) o (collected_run cap c)) }

    module _ {A : Type 0} (p : ℕ) (h : Moment) (f : Tree → Ops A) where
      -- done: what is left to run is what follows from its result, with the table's count in the peak
      pub operated : stop_of r ≡ 0 → run_all cap p (operation h R c f) ≡ run_all cap (max p (count_of r)) (f (tree_at l₂ (count_of r) (at_of r)))
      operated ok = works_run p h f (worked ok)

      -- stopped: the whole is refused, at the operation's place
      pub operation_refused : (stop_of r ≡ 0 → ⊥) → run_all cap p (operation h R c f) ≡ refused (stop_of r) h.stage
      operation_refused off = stops_run p h f (stops off)

    -- the table afterwards holds the same diagrams at the same indexes
    pub ran_below : Below ρ₁ (count_of r)
    ran_below = below_more S.more C.below

    pub ran_roots : roots_of (trees l₂ (count_of r)) ρ₁ ≡ roots_of (trees l n) ρ
    ran_roots = roots_grown (came_grown S) ρ₁ C.below ∙ C.roots

    pub ran_at : (j : ℕ) → j < length ρ → tree_at l₂ (count_of r) (get_or ρ₁ j 0) ≡ tree_at l n (get_or ρ j 0)
    ran_at j h = trees_kept (came_grown S) (get_or ρ₁ j 0) (C.below.at j (let z = C.roots_length in omega arith)) ∙ collected_at j h

    pub ran_held : RootsHeld cap l₂ w₂ (count_of r) ρ₁ R
    ran_held = record {
      good = S.good;
      space = S.space;
      below = ran_below;
      roots = alike_trans (alike_eq ran_roots) H.roots;
    }

    -- and the result besides
    pub ran_holds : stop_of r ≡ 0 → RootsHeld cap l₂ w₂ (count_of r) ((at_of r) ∷ ρ₁) (tree_at l₂ (count_of r) (at_of r) ∷ R)
    unfolding roots_of
    ran_holds ok = record {
      good = S.good;
      space = S.space;
      below = below_cons (S.within ok) ran_below;
      roots = alike_cons (tree_at l₂ (count_of r) (at_of r)) ran_held.roots;
    }
