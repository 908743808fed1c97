-- The mark pass: what is marked is needed, and with the pass done what is needed is marked.
use mathlib.Core.Path.{◌≡◌, refl, sym, ap, ◌∙◌, subst}
use mathlib.Core.Bool.{Bool, true, false, cond, not, ◌||◌}
use mathlib.Core.Logic.{⊎_elim, ◌⊎◌, inl, inr}
use mathlib.Core.List.{List, [], ◌∷◌}
use Prim.Native.Nat.{ℕ, zero, suc, ◌+◌, ◌≤◌, ◌<◌}
use native.Mathlib.Numerals.{add-one}
use native.Mathlib.Omega.{arith}
use borrow.Author.Tests.{eqb-true, eqb-false}
use lib.Dec.{T, eqb}
use lib.IntN.{ℤ, nat_abs}
use lib.ListN.{length, get_or, set, length-set}
use lib.Seq.{get_or-set_same, get_or-set_other}
use Rattle.table.specs.Table.{node_at, is_leaf}
use Rattle.table.specs.declared.Node.{Node}
use Rattle.theory.specs.Diagram.{Test, Leaf, Tree, leaf, branch, same}
use Rattle.theory.proofs.laws.Comps.{same_eq, same_refl}
use Rattle.rule_node.specs.Nodes.{test_held, blank, trees, Good}
use Rattle.table_clear.specs.Wipe.{wiped}
use Rattle.table_clear.proofs.Parts.{same_length, within, after}
use Rattle.collect_mark.specs.Mark.{sub, needed, roots_of, flag, Below, mark_of, mark_step, mark_down, Marked}
use Rattle.rule_node.proofs.Trees.{at_leaf, at_branch}

pub clash : {X : Type 0} {b : Bool} → b ≡ true → b ≡ false → X
clash p q = absurd (let z : ◌≡◌ {A = ℕ} 0 1 = cc in omega arith)

pub either : (a b : Bool) → (a || b) ≡ true → (a ≡ true) ⊎ (b ≡ true)
either true b e = inl refl
either false b e = inr e

pub left : (a b : Bool) → a ≡ true → (a || b) ≡ true
left a b e = ap (λ (t : Bool). t || b) e

pub right : (a b : Bool) → b ≡ true → (a || b) ≡ true
right true b e = refl
right false b e = e

pub same_true : (t s : Tree) → same t s ≡ true → t ≡ s
same_true t s e = same_eq t s (subst T (sym e) tt)

-- ---- subtrees

pub sub_refl : (t : Tree) → sub t t ≡ true
unfolding sub
sub_refl (leaf f) = same_refl (leaf f)
sub_refl (branch x h l) = left (same (branch x h l) (branch x h l)) _ (same_refl (branch x h l))

module _ (x : Test) (h l : Tree) where
  sub_high : sub h (branch x h l) ≡ true
  unfolding sub
  sub_high = right (same h (branch x h l)) _ (left (sub h h) _ (sub_refl h))

  sub_low : sub l (branch x h l) ≡ true
  unfolding sub
  sub_low = right (same l (branch x h l)) _ (right (sub l h) _ (sub_refl l))

  -- with a branch, its branches stand below
  pub sub_branch : (s : Tree) → sub (branch x h l) s ≡ true → (sub h s ≡ true) × (sub l s ≡ true)
  unfolding sub
  sub_branch (leaf f) e = absurd (let q = same_true (branch x h l) (leaf f) e in let z : ◌≡◌ {A = ℕ} 0 1 = cc in omega arith)
  sub_branch (branch y a b) e = ⊎_elim
      (λ (q : same (branch x h l) (branch y a b) ≡ true). let r = same_true (branch x h l) (branch y a b) q in (subst (λ (t : Tree). sub h t ≡ true) r sub_high, subst (λ (t : Tree). sub l t ≡ true) r sub_low))
      (λ (q : (sub (branch x h l) a || sub (branch x h l) b) ≡ true). ⊎_elim
      (λ (r : sub (branch x h l) a ≡ true). let p = sub_branch a r in (right (same h (branch y a b)) _ (left (sub h a) _ p.0), right (same l (branch y a b)) _ (left (sub l a) _ p.1)))
      (λ (r : sub (branch x h l) b ≡ true). let p = sub_branch b r in (right (same h (branch y a b)) _ (right (sub h a) _ p.0), right (same l (branch y a b)) _ (right (sub l a) _ p.1)))
      (either _ _ q))
      (either _ _ e)

  pub needed_branch : (S : List Tree) → needed S (branch x h l) ≡ true → (needed S h ≡ true) × (needed S l ≡ true)
  unfolding needed
  needed_branch [] e = absurd (let z : ◌≡◌ {A = ℕ} 0 1 = cc in omega arith)
  needed_branch (s ∷ S) e = ⊎_elim
      (λ (q : sub (branch x h l) s ≡ true). let p = sub_branch s q in (left (sub h s) _ p.0, left (sub l s) _ p.1))
      (λ (q : needed S (branch x h l) ≡ true). let p = needed_branch S q in (right (sub h s) _ p.0, right (sub l s) _ p.1))
      (either _ _ e)

pub sub_leaf : (t s : Tree) {f : Leaf} → s ≡ leaf f → sub t s ≡ true → same t s ≡ true
unfolding sub
sub_leaf t s e f = ap (same t) e ∙ (ap (sub t) (sym e) ∙ f)

pub sub_cases : (t s : Tree) {x : Test} {h l : Tree} → s ≡ branch x h l → sub t s ≡ true → (same t s ≡ true) ⊎ ((sub t h ≡ true) ⊎ (sub t l ≡ true))
unfolding sub
sub_cases t s {x} {h} {l} e f = ⊎_elim
    (λ (q : same t (branch x h l) ≡ true). inl (ap (same t) e ∙ q))
    (λ (q : (sub t h || sub t l) ≡ true). inr (either (sub t h) (sub t l) q))
    (either (same t (branch x h l)) (sub t h || sub t l) (ap (sub t) (sym e) ∙ f))

module _ (X : List Tree) where
  -- a root is needed
  pub needed_root : (R : List ℕ) (j : ℕ) → j < length R → needed (roots_of X R) (get_or X (get_or R j 0) blank) ≡ true
  unfolding needed roots_of
  needed_root [] j h = absurd (omega arith)
  needed_root (r ∷ R) zero h = left (sub (get_or X r blank) (get_or X r blank)) _ (sub_refl (get_or X r blank))
  needed_root (r ∷ R) (suc j) h = right (sub (get_or X (get_or R j 0) blank) (get_or X r blank)) _ (needed_root R j (omega arith))

  -- what is needed stands below a root
  pub root_of : (R : List ℕ) (t : Tree) → needed (roots_of X R) t ≡ true → (j : ℕ) × (j < length R) × (sub t (get_or X (get_or R j 0) blank) ≡ true)
  unfolding needed roots_of
  root_of [] t e = absurd (let z : ◌≡◌ {A = ℕ} 0 1 = cc in omega arith)
  root_of (r ∷ R) t e = ⊎_elim
      (λ (q : sub t (get_or X r blank) ≡ true). (0, (omega arith), q))
      (λ (q : needed (roots_of X R) t ≡ true). let p = root_of R t q in (suc p.0, (let u = p.1 in omega arith), p.2))
      (either _ _ e)

-- ---- the pass

mark_one : (w : List ℕ) (i : ℕ) → i < length w → mark_of (set w i 1) i ≡ true
unfolding mark_of
mark_one w i h = ap (λ (v : ℕ). not (eqb v 0)) (get_or-set_same w i 1 0 h)

mark_other : (w : List ℕ) (i k : ℕ) → (k ≡ i → ⊥) → mark_of (set w i 1) k ≡ mark_of w k
unfolding mark_of
mark_other w i k h = ap (λ (v : ℕ). not (eqb v 0)) (get_or-set_other w i k 1 0 h)

mark_grows : (w : List ℕ) (i k : ℕ) → i < length w → mark_of w k ≡ true → mark_of (set w i 1) k ≡ true
mark_grows w i k h e = go (eqb k i) refl
  where
    go : (b : Bool) → eqb k i ≡ b → mark_of (set w i 1) k ≡ true
    go true d = ap (mark_of (set w i 1)) (eqb-true k i d) ∙ mark_one w i h
    go false d = mark_other w i k (eqb-false k i d) ∙ e

unmarked : (w : List ℕ) (k : ℕ) → get_or w k 0 ≡ 0 → mark_of w k ≡ false
unfolding mark_of
unmarked w k e = ap (λ (v : ℕ). not (eqb v 0)) e

-- m roots are marked, and the branches of what is marked from i on
pub record Pass (cap : ℕ) (l : List ℤ) (w w' : List ℕ) (R : List ℕ) (n m i : ℕ) : Type 0 where
  pub big : cap ≤ length w
  pub upto : i ≤ n
  pub roots_upto : m ≤ length R
  pub len : length w' ≡ length w
  pub beyond : (k : ℕ) → n ≤ k → k < cap → get_or w' k 0 ≡ 0
  pub rest : (k : ℕ) → cap ≤ k → get_or w' k 0 ≡ get_or w k 0
  pub bit : (k : ℕ) → k < n → get_or w' k 0 ≡ flag (mark_of w' k)
  pub sound : (k : ℕ) → k < n → mark_of w' k ≡ true → needed (roots_of (trees l n) R) (get_or (trees l n) k blank) ≡ true
  pub roots : (j : ℕ) → j < m → mark_of w' (get_or R j 0) ≡ true
  pub high : (k : ℕ) → i ≤ k → k < n → mark_of w' k ≡ true → is_leaf (node_at l k).kind ≡ false → mark_of w' (nat_abs (node_at l k).high) ≡ true
  pub low : (k : ℕ) → i ≤ k → k < n → mark_of w' k ≡ true → is_leaf (node_at l k).kind ≡ false → mark_of w' (nat_abs (node_at l k).low) ≡ true

module _ {cap : ℕ} {l : List ℤ} {R : List ℕ} {n : ℕ} (room : n ≤ cap) (G : Good l n) (B : Below R n) where
  abbrev X : List Tree
  X = trees l n

  abbrev S : List Tree
  S = roots_of (trees l n) R

  module _ (w : List ℕ) {w' : List ℕ} (big : cap ≤ length w) (e : w' ≡ wiped 0 0 cap w) where
    pub cleared_len : length w' ≡ length w
    cleared_len = same_length 0 w 0 cap e (omega arith) big

    pub cleared_rest : (k : ℕ) → cap ≤ k → get_or w' k 0 ≡ get_or w k 0
    cleared_rest k p = after 0 w 0 cap e (omega arith) big 0 k p

    zeros : (k : ℕ) → k < cap → get_or w' k 0 ≡ 0
    zeros k p = within 0 w 0 cap e (omega arith) big 0 k (omega arith) p

    pub begins : Pass cap l w' w' R n 0 n
    unfolding flag
    begins = record {
      big = let a = cleared_len in omega arith;
      upto = omega arith;
      roots_upto = omega arith;
      len = refl;
      beyond = λ k p q. zeros k q;
      rest = λ k p. refl;
      bit = λ k p. zeros k (omega arith) ∙ sym (ap flag (unmarked w' k (zeros k (omega arith))));
      sound = λ k p d. clash d (unmarked w' k (zeros k (omega arith)));
      roots = λ j p. absurd (omega arith);
      high = λ k p q. absurd (omega arith);
      low = λ k p q. absurd (omega arith);
    }

  module _ {w w' : List ℕ} {m i : ℕ} (P : Pass cap l w w' R n m i) where
    pub fits : (k : ℕ) → k < n → k < length w'
    fits k p = let a = P.len in let b = P.big in omega arith

    -- one mark more, below i
    adds : (h : ℕ) → h < i → needed S (get_or X h blank) ≡ true → Pass cap l w (set w' h 1) R n m i
    unfolding flag
    adds h p d = record {
      big = P.big;
      upto = P.upto;
      roots_upto = P.roots_upto;
      len = length-set w' h 1 ∙ P.len;
      beyond = λ k a b. get_or-set_other w' h k 1 0 (let u = P.upto in omega arith) ∙ P.beyond k a b;
      rest = λ k a. get_or-set_other w' h k 1 0 (let u = P.upto in omega arith) ∙ P.rest k a;
      bit = bit_new;
      sound = sound_new;
      roots = λ j a. mark_grows w' h (get_or R j 0) fit (P.roots j a);
      high = λ k a b c f. mark_grows w' h (nat_abs (node_at l k).high) fit (P.high k a b (sym (mark_other w' h k (omega arith)) ∙ c) f);
      low = λ k a b c f. mark_grows w' h (nat_abs (node_at l k).low) fit (P.low k a b (sym (mark_other w' h k (omega arith)) ∙ c) f);
    }
      where
        fit : h < length w'
        fit = fits h (let u = P.upto in omega arith)

        bit_new : (k : ℕ) → k < n → get_or (set w' h 1) k 0 ≡ flag (mark_of (set w' h 1) k)
        bit_new k a = go (eqb k h) refl
          where
            go : (b : Bool) → eqb k h ≡ b → get_or (set w' h 1) k 0 ≡ flag (mark_of (set w' h 1) k)
            go true e = let q = eqb-true k h e in ap (λ (z : ℕ). get_or (set w' h 1) z 0) q ∙ (get_or-set_same w' h 1 0 fit ∙ sym (ap (λ (z : ℕ). flag (mark_of (set w' h 1) z)) q ∙ ap flag (mark_one w' h fit)))
            go false e = let q = eqb-false k h e in get_or-set_other w' h k 1 0 q ∙ (P.bit k a ∙ sym (ap flag (mark_other w' h k q)))

        sound_new : (k : ℕ) → k < n → mark_of (set w' h 1) k ≡ true → needed S (get_or X k blank) ≡ true
        sound_new k a c = go (eqb k h) refl
          where
            go : (b : Bool) → eqb k h ≡ b → needed S (get_or X k blank) ≡ true
            go true e = ap (λ (z : ℕ). needed S (get_or X z blank)) (eqb-true k h e) ∙ d
            go false e = P.sound k a (sym (mark_other w' h k (eqb-false k h e)) ∙ c)

  -- one root more
  pub root : {w w' : List ℕ} {m : ℕ} → Pass cap l w w' R n m n → m < length R → Pass cap l w (set w' (get_or R m 0) 1) R n (m + 1) n
  root {w} {w'} {m} P h =
      let r = get_or R m 0 in
      let Q = adds P r (B.at m h) (needed_root X R m h) in
      record {
        big = Q.big;
        upto = Q.upto;
        roots_upto = omega arith;
        len = Q.len;
        beyond = Q.beyond;
        rest = Q.rest;
        bit = Q.bit;
        sound = Q.sound;
        roots = λ j a. go j a (eqb j m) refl;
        high = λ k a b. absurd (omega arith);
        low = λ k a b. absurd (omega arith);
      }
    where
      go : (j : ℕ) → j < m + 1 → (b : Bool) → eqb j m ≡ b → mark_of (set w' (get_or R m 0) 1) (get_or R j 0) ≡ true
      go j a true e = ap (λ (z : ℕ). mark_of (set w' (get_or R m 0) 1) (get_or R z 0)) (eqb-true j m e) ∙ mark_one w' (get_or R m 0) (fits P (get_or R m 0) (B.at m h))
      go j a false e = mark_grows w' (get_or R m 0) (get_or R j 0) (fits P (get_or R m 0) (B.at m h)) (P.roots j (let q = eqb-false j m e in omega arith))

  module _ (i : ℕ) {w w' : List ℕ} {m : ℕ} (P : Pass cap l w w' R n m (i + 1)) where
    abbrev x : Node
    x = node_at l i

    here : i < n
    here = let u = P.upto in omega arith

    -- node i has nothing to mark, or its branches are marked in a later state
    less : {w'' : List ℕ} → Pass cap l w w'' R n m (i + 1) → (mark_of w'' i ≡ true → is_leaf x.kind ≡ false → (mark_of w'' (nat_abs x.high) ≡ true) × (mark_of w'' (nat_abs x.low) ≡ true)) → Pass cap l w w'' R n m i
    less {w''} Q f = record {
      big = Q.big;
      upto = omega (arith, here);
      roots_upto = Q.roots_upto;
      len = Q.len;
      beyond = Q.beyond;
      rest = Q.rest;
      bit = Q.bit;
      sound = Q.sound;
      roots = Q.roots;
      high = λ k a b c d. go_high k a b c d (eqb k i) refl;
      low = λ k a b c d. go_low k a b c d (eqb k i) refl;
    }
      where
        go_high : (k : ℕ) → i ≤ k → k < n → mark_of w'' k ≡ true → is_leaf (node_at l k).kind ≡ false → (t : Bool) → eqb k i ≡ t → mark_of w'' (nat_abs (node_at l k).high) ≡ true
        go_high k a b c d true e =
            let q = eqb-true k i e in
            ap (λ (z : ℕ). mark_of w'' (nat_abs (node_at l z).high)) q ∙ (f (ap (mark_of w'') (sym q) ∙ c) (ap (λ (z : ℕ). is_leaf (node_at l z).kind) (sym q) ∙ d)).0
        go_high k a b c d false e = Q.high k (let q = eqb-false k i e in omega arith) b c d

        go_low : (k : ℕ) → i ≤ k → k < n → mark_of w'' k ≡ true → is_leaf (node_at l k).kind ≡ false → (t : Bool) → eqb k i ≡ t → mark_of w'' (nat_abs (node_at l k).low) ≡ true
        go_low k a b c d true e =
            let q = eqb-true k i e in
            ap (λ (z : ℕ). mark_of w'' (nat_abs (node_at l z).low)) q ∙ (f (ap (mark_of w'') (sym q) ∙ c) (ap (λ (z : ℕ). is_leaf (node_at l z).kind) (sym q) ∙ d)).1
        go_low k a b c d false e = Q.low k (let q = eqb-false k i e in omega arith) b c d

    branches : mark_of w' i ≡ true → is_leaf x.kind ≡ false → (needed S (get_or X (nat_abs x.high) blank) ≡ true) × (needed S (get_or X (nat_abs x.low) blank) ≡ true)
    branches a d = needed_branch (test_held x) (get_or X (nat_abs x.high) blank) (get_or X (nat_abs x.low) blank) S (ap (needed S) (sym (at_branch G i here d)) ∙ P.sound i here a)

    both : mark_of w' i ≡ true → is_leaf x.kind ≡ false → Pass cap l w (set (set w' (nat_abs x.high) 1) (nat_abs x.low) 1) R n m i
    both a d =
        let v = G.valid i here in
        let nb = branches a d in
        let hb = v.high_below d in
        let lb = v.low_below d in
        let Q = adds P (nat_abs x.high) (omega arith) nb.0 in
        let U = adds Q (nat_abs x.low) (omega arith) nb.1 in
        less U (λ _ _. (
          mark_grows (set w' (nat_abs x.high) 1) (nat_abs x.low) (nat_abs x.high) (fits Q (nat_abs x.low) (omega (arith, here))) (mark_one w' (nat_abs x.high) (fits P (nat_abs x.high) (omega (arith, here)))),
          mark_one (set w' (nat_abs x.high) 1) (nat_abs x.low) (fits Q (nat_abs x.low) (omega (arith, here))),
        ))

    steps : Pass cap l w (mark_step l w' i) R n m i
    unfolding mark_step
    steps = go (mark_of w' i) refl (is_leaf x.kind) refl
      where
        go : (a : Bool) → mark_of w' i ≡ a → (d : Bool) → is_leaf x.kind ≡ d → Pass cap l w (cond a (cond d w' (set (set w' (nat_abs x.high) 1) (nat_abs x.low) 1)) w') R n m i
        go false e d f = less P (λ t _. clash t e)
        go true e true f = less P (λ _ t. clash f t)
        go true e false f = both e f

  -- ---- the end
  module _ {w w' : List ℕ} {m : ℕ} (P : Pass cap l w w' R n m 0) (all : length R ≤ m) where
    -- all that stands below a marked node is marked
    under : (d k : ℕ) → k < d → k < n → mark_of w' k ≡ true → (j : ℕ) → j < n → sub (get_or X j blank) (get_or X k blank) ≡ true → mark_of w' j ≡ true
    under zero k a b c j q e = absurd (omega arith)
    under (suc d) k a b c j q e = under_step k b c j q e (λ h p r s. under d h (omega arith) (omega arith) r j q s)
      where
        under_step : (k : ℕ) (b : k < n) → mark_of w' k ≡ true → (j : ℕ) → j < n → sub (get_or X j blank) (get_or X k blank) ≡ true →
            ((h : ℕ) → h < k → mark_of w' h ≡ true → sub (get_or X j blank) (get_or X h blank) ≡ true → mark_of w' j ≡ true) → mark_of w' j ≡ true
        under_step k b c j q e rec = go (is_leaf (node_at l k).kind) refl
          where
            itself : same (get_or X j blank) (get_or X k blank) ≡ true → mark_of w' j ≡ true
            itself f = ap (mark_of w') (G.distinct j k q b (same_true (get_or X j blank) (get_or X k blank) f)) ∙ c

            go : (t : Bool) → is_leaf (node_at l k).kind ≡ t → mark_of w' j ≡ true
            go true f = itself (sub_leaf (get_or X j blank) (get_or X k blank) (at_leaf G k b f) e)
            go false f =
                let v = G.valid k b in
                let hb = v.high_below f in
                let lb = v.low_below f in
                ⊎_elim
                (λ (r : same (get_or X j blank) (get_or X k blank) ≡ true). itself r)
                (λ r. ⊎_elim
                (λ s. rec (nat_abs (node_at l k).high) hb (P.high k (omega arith) b c f) s)
                (λ s. rec (nat_abs (node_at l k).low) lb (P.low k (omega arith) b c f) s)
                r)
                (sub_cases (get_or X j blank) (get_or X k blank) (at_branch G k b f) e)

    exact : (k : ℕ) → k < n → mark_of w' k ≡ needed S (get_or X k blank)
    exact k a = go (mark_of w' k) refl (needed S (get_or X k blank)) refl
      where
        go : (b : Bool) → mark_of w' k ≡ b → (d : Bool) → needed S (get_or X k blank) ≡ d → mark_of w' k ≡ needed S (get_or X k blank)
        go true e d f = e ∙ sym (P.sound k a e)
        go false e false f = e ∙ sym f
        go false e true f =
            let p = root_of X R (get_or X k blank) f in
            clash (under (suc (get_or R p.0 0)) (get_or R p.0 0) (omega arith) (B.at p.0 p.1) (P.roots p.0 (let u = p.1 in omega arith)) k a p.2) e

    ends : {w₀ : List ℕ} → length w ≡ length w₀ → ((k : ℕ) → cap ≤ k → get_or w k 0 ≡ get_or w₀ k 0) → Marked cap l w₀ w' R n
    ends e f = record { marks = λ k a. P.bit k a ∙ ap flag (exact k a); beyond = P.beyond; rest = λ k a. P.rest k a ∙ f k a; len = P.len ∙ e }

  -- all the nodes below i
  descended : {w : List ℕ} (w' : List ℕ) {m : ℕ} (i : ℕ) → Pass cap l w w' R n m i → Pass cap l w (mark_down l w' i) R n m 0
  unfolding mark_down
  descended w' zero P = P
  descended {w} w' {m} (suc i) P = descended (mark_step l w' i) i (steps i (subst (λ (k : ℕ). Pass cap l w w' R n m k) (sym (add-one i)) P))

  pub done : {w w' : List ℕ} {m : ℕ} → Pass cap l w w' R n m n → length R ≤ m → {w₀ w'' : List ℕ} → w'' ≡ mark_down l w' n → length w ≡ length w₀ → ((k : ℕ) → cap ≤ k → get_or w k 0 ≡ get_or w₀ k 0) → Marked cap l w₀ w'' R n
  done {w} {w'} {m} P a {w₀} {w''} d e f = subst (λ (t : List ℕ). Marked cap l w₀ t R n) (sym d) (ends (descended w' n P) a e f)
