-- What a collection leaves, from its three parts.
use mathlib.Core.Path.{◌≡◌, refl, sym, ap, ap₂, ◌∙◌, subst}
use mathlib.Core.Bool.{Bool, true, false, cond, not}
use mathlib.Core.List.{List, [], ◌∷◌, ◌++◌}
use Prim.Native.Nat.{ℕ, zero, suc, ◌+◌, ◌*◌, ◌≤◌, ◌<◌}
use native.Mathlib.Omega.{arith}
use lib.Dec.{eqb}
use lib.IntN.{ℤ, nat_abs}
use lib.ListN.{length, get_or, set, take}
use lib.Seq.{take-suc, take-length}
use Rattle.table.specs.Table.{node_at, is_leaf}
use Rattle.theory.specs.Diagram.{Tree}
use Rattle.rule_node.specs.Nodes.{test_held, blank, trees, Good}
use Rattle.table_unique.specs.Unique.{Space}
use Rattle.collect_mark.specs.Mark.{needed, roots_of, flag, mark_of, Below, Marked}
use Rattle.rule_node.proofs.Trees.{trees_length, at_branch}
use Rattle.collect_mark.proofs.Reach.{needed_branch, needed_root}
use Rattle.collect_compact.specs.Slide.{rank, keep_of, MarksClosed, Slid}
use Rattle.collect_compact.proofs.Ranks.{keep_at}
use Rattle.collect.specs.Collect.{keep_if, forwarded, Collected}

-- ---- forwarding the roots

module _ (w : List ℕ) (cap : ℕ) where
  pub forward_none : (R : List ℕ) → R ≡ forwarded w cap 0 R
  unfolding forwarded
  forward_none R = refl

  pub forward_at : (j : ℕ) (R : List ℕ) → get_or (forwarded w cap j R) j 0 ≡ get_or R j 0
  unfolding forwarded
  forward_at zero R = refl
  forward_at (suc j) [] = refl
  forward_at (suc j) (r ∷ R) = forward_at j R

  pub forward_more : (j : ℕ) (R : List ℕ) → j < length R → set (forwarded w cap j R) j (get_or w (cap + get_or R j 0) 0) ≡ forwarded w cap (suc j) R
  unfolding forwarded
  forward_more j [] h = absurd (omega arith)
  forward_more zero (r ∷ R) h = refl
  forward_more (suc j) (r ∷ R) h = ap (λ (t : List ℕ). get_or w (cap + r) 0 ∷ t) (forward_more j R (omega arith))

  pub forward_length : (j : ℕ) (R : List ℕ) → length (forwarded w cap j R) ≡ length R
  unfolding forwarded
  forward_length zero R = refl
  forward_length (suc j) [] = refl
  forward_length (suc j) (r ∷ R) = ap suc (forward_length j R)

  forward_is : (R : List ℕ) (j : ℕ) → j < length R → get_or (forwarded w cap (length R) R) j 0 ≡ get_or w (cap + get_or R j 0) 0
  unfolding forwarded
  forward_is [] j h = absurd (omega arith)
  forward_is (r ∷ R) zero h = refl
  forward_is (r ∷ R) (suc j) h = forward_is R j (omega arith)

  forward_roots : (X Y : List Tree) (R : List ℕ) → ((j : ℕ) → j < length R → get_or Y (get_or w (cap + get_or R j 0) 0) blank ≡ get_or X (get_or R j 0) blank) → roots_of Y (forwarded w cap (length R) R) ≡ roots_of X R
  unfolding forwarded roots_of
  forward_roots X Y [] h = refl
  forward_roots X Y (r ∷ R) h = ap₂ (λ (a : Tree) (b : List Tree). a ∷ b) (h 0 (omega arith)) (forward_roots X Y R (λ j q. h (suc j) (omega arith)))

pub record Forward (w : List ℕ) (cap : ℕ) (R R' : List ℕ) (j : ℕ) : Type 0 where
  pub is : R' ≡ forwarded w cap j R
  pub upto : j ≤ length R
  pub len : length R' ≡ length R

pub begins : (w : List ℕ) (cap : ℕ) (R : List ℕ) → Forward w cap R R 0
begins w cap R = record { is = forward_none w cap R; upto = omega arith; len = refl }

module _ {w : List ℕ} {cap : ℕ} {R R' : List ℕ} {j : ℕ} (F : Forward w cap R R' j) where
  pub here : get_or R' j 0 ≡ get_or R j 0
  here = ap (λ (t : List ℕ). get_or t j 0) F.is ∙ forward_at w cap j R

  pub inside : Below R cap → j < length R' → get_or R' j 0 < cap
  inside B h = let e = here in let q = B.at j (let u = F.len in omega arith) in omega arith

  pub goes : j < length R' → Forward w cap R (set R' j (get_or w (cap + get_or R' j 0) 0)) (j + 1)
  goes h =
      let e : set R' j (get_or w (cap + get_or R' j 0) 0) ≡ forwarded w cap (j + 1) R =
      ap₂ (λ (t : List ℕ) (v : ℕ). set t j (get_or w (cap + v) 0)) F.is here ∙ (forward_more w cap j R (let u = F.len in omega arith) ∙ ap (λ (k : ℕ). forwarded w cap k R) (let q : suc j ≡ j + 1 = omega arith in q)) in
      record { is = e; upto = let u = F.len in omega arith; len = ap length e ∙ forward_length w cap (j + 1) R }

  pub ended : length R' ≤ j → R' ≡ forwarded w cap (length R) R
  ended h = F.is ∙ ap (λ (k : ℕ). forwarded w cap k R) (let u = F.len in let v = F.upto in let q : j ≡ length R = omega arith in q)

-- ---- what is kept, as a part of the list of trees

keep_more : (p : Tree → Bool) (X : List Tree) (x : Tree) → keep_if p (X ++ (x ∷ [])) ≡ cond (p x) (keep_if p X ++ (x ∷ [])) (keep_if p X)
unfolding keep_if
keep_more p [] x = go (p x)
  where
    go : (b : Bool) → cond b (x ∷ []) [] ≡ cond b ([] ++ (x ∷ [])) []
    go true = refl
    go false = refl
keep_more p (y ∷ X) x = ap (λ (t : List Tree). cond (p y) (y ∷ t) t) (keep_more p X x) ∙ go (p y) (p x)
  where
    go : (a b : Bool) → cond a (y ∷ cond b (keep_if p X ++ (x ∷ [])) (keep_if p X)) (cond b (keep_if p X ++ (x ∷ [])) (keep_if p X)) ≡ cond b (cond a (y ∷ keep_if p X) (keep_if p X) ++ (x ∷ [])) (cond a (y ∷ keep_if p X) (keep_if p X))
    go true true = refl
    go true false = refl
    go false true = refl
    go false false = refl

keep_take : (m : ℕ → Bool) (p : Tree → Bool) (X : List Tree) (k : ℕ) → k ≤ length X → ((i : ℕ) → i < k → m i ≡ p (get_or X i blank)) → keep_of m X k ≡ keep_if p (take k X)
unfolding keep_of keep_if
keep_take m p X zero h e = refl
keep_take m p X (suc k) h e =
    ap₂ (λ (b : Bool) (t : List Tree). cond b (t ++ (get_or X k blank ∷ [])) t) (e k (omega arith)) (keep_take m p X k (omega arith) (λ i q. e i (omega arith)))
    ∙ (sym (keep_more p (take k X) (get_or X k blank)) ∙ ap (keep_if p) (sym (take-suc X k blank (omega arith))))

-- ---- the collection

flag_mark : (b : Bool) → not (eqb (flag b) 0) ≡ b
unfolding flag
flag_mark true = refl
flag_mark false = refl

-- after the marks w'
module _ {cap : ℕ} {l : List ℤ} {w w' R : List ℕ} {n : ℕ} (C : Space cap l w n) (G : Good l n) (B : Below R n) (M : Marked cap l w w' R n) where
  abbrev X : List Tree
  X = trees l n

  abbrev S : List Tree
  S = roots_of (trees l n) R

  mark_is : (i : ℕ) → i < n → mark_of w' i ≡ needed S (get_or X i blank)
  unfolding mark_of
  mark_is i h = ap (λ (v : ℕ). not (eqb v 0)) (M.marks i h) ∙ flag_mark (needed S (get_or X i blank))

  branches : (i : ℕ) (h : i < n) → mark_of w' i ≡ true → (d : is_leaf (node_at l i).kind ≡ false) → (needed S (get_or X (nat_abs (node_at l i).high) blank) ≡ true) × (needed S (get_or X (nat_abs (node_at l i).low) blank) ≡ true)
  branches i h a d = needed_branch (test_held (node_at l i)) (get_or X (nat_abs (node_at l i).high) blank) (get_or X (nat_abs (node_at l i).low) blank) S (ap (needed S) (sym (at_branch G i h d)) ∙ (sym (mark_is i h) ∙ a))

  pub closed : MarksClosed l w' n
  closed = record {
    high = λ i h a d. mark_is (nat_abs (node_at l i).high) (let q = (G.valid i h).high_below d in omega arith) ∙ (branches i h a d).0;
    low = λ i h a d. mark_is (nat_abs (node_at l i).low) (let q = (G.valid i h).low_below d in omega arith) ∙ (branches i h a d).1;
  }

  pub space₁ : Space cap l w' n
  space₁ = record { some = C.some; few = C.few; room = C.room; words = C.words; works = let z = C.works in let e = M.len in omega arith }

  -- after the slide to l' and w''
  module _ {l' : List ℤ} {w'' : List ℕ} {r : ℕ} (L : Slid cap l l' w' w'' n r) where
    pub asks : (cap * 2 ≤ length w'') × (cap ≤ 65535) × Below R cap
    asks =
        let z = C.works in
        let e = M.len in
        let f = L.work_length in
        ((omega arith), C.few, record { at = λ j h. let q = B.at j h in let r = C.room in omega arith })

    kept : trees l' r ≡ keep_if (needed S) X
    kept = L.kept ∙ (keep_take (mark_of w') (needed S) X n (let e = trees_length l n in omega arith) (λ i h. mark_is i h) ∙ ap (keep_if (needed S)) (ap (λ (k : ℕ). take k X) (sym (trees_length l n)) ∙ take-length X))

    -- a root's new index
    module _ (j : ℕ) (h : j < length R) where
      abbrev k : ℕ
      k = get_or R j 0

      marked : mark_of w' k ≡ true
      marked = mark_is k (B.at j h) ∙ needed_root X R j h

      new : get_or w'' (cap + k) 0 ≡ rank (mark_of w') k
      new = L.moved k (B.at j h) marked

      same : get_or (trees l' r) (get_or w'' (cap + k) 0) blank ≡ get_or X k blank
      same = ap₂ (λ (Y : List Tree) (z : ℕ). get_or Y z blank) L.kept new ∙ (keep_at (mark_of w') X n k (B.at j h) marked).1

      under : get_or w'' (cap + k) 0 < r
      under = let e = new in let q = (keep_at (mark_of w') X n k (B.at j h) marked).0 in let d = L.count in omega arith

    -- after the roots R'
    module _ {R' : List ℕ} (e : R' ≡ forwarded w'' cap (length R) R) where
      roots : roots_of (trees l' r) R' ≡ roots_of X R
      roots = ap (roots_of (trees l' r)) e ∙ forward_roots w'' cap X (trees l' r) R same

      below : Below R' r
      below = subst (λ (t : List ℕ). Below t r) (sym e) (record { at = λ j h. let q : j < length R = let z = forward_length w'' cap (length R) R in omega arith in let a = forward_is w'' cap R j q in let b = under j q in omega arith })

      pub collected : Collected l l' w w'' R R' n r
      collected = record {
        kept = kept;
        roots = roots;
        below = below;
        good = L.good;
        fewer = L.fewer;
        nodes_length = L.nodes_length;
        work_length = L.work_length ∙ M.len;
        roots_length = ap length e ∙ forward_length w'' cap (length R) R;
      }
