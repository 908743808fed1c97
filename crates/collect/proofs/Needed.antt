-- The kept nodes are exactly the needed ones: those that entering the roots' diagrams counts, so that a run over either is the same.
use mathlib.Core.Path.{◌≡◌, refl, sym, ap, ◌∙◌, subst}
use mathlib.Core.Bool.{Bool, true, false, cond, ◌||◌}
use mathlib.Core.Logic.{⊎_elim}
use mathlib.Core.List.{List, [], ◌∷◌}
use Prim.Native.Nat.{ℕ, zero, suc, ◌<◌}
use native.Mathlib.Omega.{arith}
use lib.Dec.{T}
use lib.IntN.{ℤ, nat_abs}
use lib.ListN.{length, get_or}
use Rattle.whole.specs.Cases.{if, same_bool}
use Rattle.table.specs.Table.{node_at, is_leaf}
use Rattle.theory.specs.Diagram.{Leaf, Tree, leaf, branch, same}
use Rattle.theory.specs.Computation.{Comp, member, run, enter_all}
use Rattle.theory.specs.Rules.{zero_leaf}
use Rattle.theory.specs.Events.{Distinct, inside, all_inside}
use Rattle.theory.proofs.laws.Comps.{member_in}
use Rattle.theory.proofs.laws.Counts.{distinct_roots}
use Rattle.theory.proofs.laws.Inside.{inside_parts, inside_branch, all_none, all_parts, all_cons, roots_inside, roots_sub}
use Rattle.collect.proofs.Order.{SameNodes, same_nodes, SameOut, run_order}
use Rattle.rule_node.specs.Nodes.{leaf_of, test_held, blank, trees, Good}
use Rattle.collect_mark.specs.Mark.{sub, needed, roots_of, Below}
use Rattle.rule_node.proofs.Trees.{trees_length, at_leaf, at_branch}
use Rattle.collect_mark.proofs.Reach.{clash, either, same_true, needed_branch, needed_root}
use Rattle.collect.specs.Collect.{keep_if, Collected}

is_true : (b : Bool) → T b → b ≡ true
is_true true t = refl
is_true false t = absurd t

from_true : {b : Bool} → b ≡ true → T b
from_true e = subst T (sym e) tt

-- ---- members of what is kept

module _ (p : Tree → Bool) (t : Tree) where
  member_cons : (x : Tree) (X : List Tree) → member t X ≡ true → member t (x ∷ X) ≡ true
  unfolding member
  member_cons x X m = go (same x t)
    where
      go : (b : Bool) → if b true (member t X) ≡ true
      go true = refl
      go false = m

  keep_in : (X : List Tree) → member t X ≡ true → p t ≡ true → member t (keep_if p X) ≡ true
  unfolding member keep_if
  keep_in [] m e = m
  keep_in (x ∷ X) m e = go (same x t) refl m (p x) refl (keep_in X)
    where
      go : (b : Bool) → same x t ≡ b → if b true (member t X) ≡ true → (c : Bool) → p x ≡ c → (member t X ≡ true → p t ≡ true → member t (keep_if p X) ≡ true) → member t (cond c (x ∷ keep_if p X) (keep_if p X)) ≡ true
      go true s m true d ih = ap (λ (b : Bool). if b true (member t (keep_if p X))) s
      go true s m false d ih = clash e (ap p (sym (same_true x t s)) ∙ d)
      go false s m true d ih = member_cons x (keep_if p X) (ih m e)
      go false s m false d ih = ih m e

  keep_only : (X : List Tree) → member t (keep_if p X) ≡ true → p t ≡ true
  unfolding member keep_if
  keep_only [] m = clash m refl
  keep_only (x ∷ X) m = go (p x) refl m (keep_only X)
    where
      head : (b : Bool) → same x t ≡ b → if b true (member t (keep_if p X)) ≡ true → p x ≡ true → (member t (keep_if p X) ≡ true → p t ≡ true) → p t ≡ true
      head true s m d ih = ap p (sym (same_true x t s)) ∙ d
      head false s m d ih = ih m

      go : (c : Bool) → p x ≡ c → member t (cond c (x ∷ keep_if p X) (keep_if p X)) ≡ true → (member t (keep_if p X) ≡ true → p t ≡ true) → p t ≡ true
      go true d m ih = head (same x t) refl m d ih
      go false d m ih = ih m

-- ---- what is needed is there where the roots are

sub_in : (u s : Tree) (Y : List Tree) → T (inside s Y) → sub u s ≡ true → member u Y ≡ true
unfolding sub inside
sub_in u (leaf f) Y i e = ap (λ (t : Tree). member t Y) (same_true u (leaf f) e) ∙ is_true _ i
sub_in u (branch x h l) Y i e =
    let d = inside_parts x h l Y i in
    ⊎_elim
    (λ (q : same u (branch x h l) ≡ true). ap (λ (t : Tree). member t Y) (same_true u (branch x h l) q) ∙ is_true _ d.0)
    (λ (q : (sub u h || sub u l) ≡ true). ⊎_elim (λ r. sub_in u h Y d.1.0 r) (λ r. sub_in u l Y d.1.1 r) (either (sub u h) (sub u l) q))
    (either (same u (branch x h l)) (sub u h || sub u l) e)

leaf_inside : (f : Leaf) (t : Tree) (Y : List Tree) → t ≡ leaf f → T (member t Y) → T (inside t Y)
unfolding inside
leaf_inside f t Y q m = subst (λ (u : Tree). T (inside u Y)) (sym q) (subst (λ (u : Tree). T (member u Y)) q m)

needed_in : (S Y : List Tree) (u : Tree) → T (all_inside S Y) → needed S u ≡ true → member u Y ≡ true
unfolding needed
needed_in [] Y u a e = clash e refl
needed_in (s ∷ S) Y u a e =
    let d = all_parts s S Y a in
    ⊎_elim (λ q. sub_in u s Y d.0 q) (λ q. needed_in S Y u d.1 q) (either (sub u s) (needed S u) e)

-- ---- the trees of a good table

any_default : (X : List Tree) (i : ℕ) (d e : Tree) → i < length X → get_or X i d ≡ get_or X i e
any_default [] i d e h = absurd (omega arith)
any_default (x ∷ X) zero d e h = refl
any_default (x ∷ X) (suc i) d e h = any_default X i d e (omega arith)

pub trees_distinct : {l : List ℤ} {n : ℕ} → Good l n → Distinct (trees l n)
trees_distinct {l} {n} G i j p q e =
    let z = trees_length l n in
    G.distinct i j (omega arith) (omega arith) (any_default (trees l n) i blank zero_leaf p ∙ (e ∙ any_default (trees l n) j zero_leaf blank q))

module _ {l : List ℤ} {n : ℕ} {R : List ℕ} (G : Good l n) (B : Below R n) where
  abbrev X : List Tree
  X = trees l n

  abbrev S : List Tree
  S = roots_of (trees l n) R

  abbrev K : List Tree
  K = keep_if (needed (roots_of (trees l n) R)) (trees l n)

  kept_in : (i : ℕ) → i < n → needed S (get_or X i blank) ≡ true → T (member (get_or X i blank) K)
  kept_in i h e = from_true (keep_in (needed S) (get_or X i blank) X (member_in blank (get_or X i blank) X i (let z = trees_length l n in omega arith) refl) e)

  -- with a needed node all below it is kept
  kept_inside : (d i : ℕ) → i < d → i < n → needed S (get_or X i blank) ≡ true → T (inside (get_or X i blank) K)
  kept_inside zero i a h e = absurd (omega arith)
  kept_inside (suc d) i a h e = go (is_leaf (node_at l i).kind) refl (λ k b. kept_inside d k (omega arith) (omega arith))
    where
      go : (b : Bool) → is_leaf (node_at l i).kind ≡ b → ((k : ℕ) → k < i → needed S (get_or X k blank) ≡ true → T (inside (get_or X k blank) K)) → T (inside (get_or X i blank) K)
      go true f rec = leaf_inside (leaf_of (node_at l i)) (get_or X i blank) K (at_leaf G i h f) (kept_in i h e)
      go false f rec =
          let q = at_branch G i h f in
          let v = G.valid i h in
          let b = needed_branch (test_held (node_at l i)) (get_or X (nat_abs (node_at l i).high) blank) (get_or X (nat_abs (node_at l i).low) blank) S (ap (needed S) (sym q) ∙ e) in
          subst (λ (t : Tree). T (inside t K)) (sym q)
          (inside_branch (test_held (node_at l i)) (get_or X (nat_abs (node_at l i).high) blank) (get_or X (nat_abs (node_at l i).low) blank) K
          (subst (λ (t : Tree). T (member t K)) q (kept_in i h e))
          (rec (nat_abs (node_at l i).high) (v.high_below f) b.0) (rec (nat_abs (node_at l i).low) (v.low_below f) b.1))

  roots_kept : (Q : List ℕ) → ((j : ℕ) → j < length Q → T (inside (get_or X (get_or Q j 0) blank) K)) → T (all_inside (roots_of X Q) K)
  unfolding roots_of
  roots_kept [] f = all_none K
  roots_kept (r ∷ Q) f = all_cons (get_or X r blank) (roots_of X Q) K (f 0 (omega arith)) (roots_kept Q (λ j h. f (suc j) (omega arith)))

  -- a node is kept where entering the roots' diagrams enters it
  pub kept_member : (u : Tree) → member u K ≡ member u (enter_all S [])
  kept_member u = same_bool (member u K) (member u (enter_all S []))
      (λ m. from_true (needed_in S (enter_all S []) u (roots_inside S) (keep_only (needed S) u X (is_true _ m))))
      (λ m. (roots_sub S K (roots_kept R (λ j h. kept_inside (suc (get_or R j 0)) (get_or R j 0) (omega arith) (B.at j h) (needed_root X R j h)))).take u m)

  module _ {l' : List ℤ} {w w' R' : List ℕ} {r : ℕ} (C : Collected l l' w w' R R' n r) where
    -- the kept nodes are the needed ones, each once
    pub kept_nodes : SameNodes (trees l' r) (enter_all (roots_of (trees l n) R) [])
    kept_nodes = same_nodes (trees l' r) (enter_all S []) (trees_distinct C.good) (distinct_roots S) (λ u. ap (member u) C.kept ∙ kept_member u)

    -- so many are left
    pub kept_count : r ≡ length (enter_all (roots_of (trees l n) R) [])
    kept_count = sym (trees_length l' r) ∙ kept_nodes.count

    -- and a run over them is the one over the needed nodes
    pub kept_run : {A : Type 0} (N : ℕ) (c : Comp A) → SameOut (run N c (trees l' r)) (run N c (enter_all (roots_of (trees l n) R) []))
    kept_run N c = run_order N c (trees l' r) (enter_all S []) kept_nodes
