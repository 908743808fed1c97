-- The slide: what a node that moves stands for, one step, and what is left at the end.
use mathlib.Core.Path.{◌≡◌, refl, sym, ap, ap₂, ◌∙◌, subst, subst₃}
use mathlib.Core.Bool.{Bool, true, false, cond, not}
use mathlib.Core.Logic.{⊎_elim}
use mathlib.Core.List.{List, [], ◌∷◌, ◌++◌}
use Prim.Native.Nat.{ℕ, ◌+◌, ◌*◌, ◌≤◌, ◌<◌}
use native.Mathlib.Numerals.{add-one}
use native.Mathlib.Omega.{arith}
use lib.Dec.{eqb}
use lib.IntN.{ℤ, pos, nat_abs}
use lib.ListN.{length, get_or, set, length-set}
use lib.Seq.{get_or-set_same, get_or-set_other}
use Rattle.table.proofs.Look.{split}
use Rattle.table.proofs.Store.{put_length, put_other, put_above, put_same}
use Rattle.table.proofs.Leaf.{branch_not}
use Rattle.table.specs.Table.{node_words, node_at, put_at, is_leaf}
use Rattle.table.specs.declared.Node.{Node}
use Rattle.theory.specs.Diagram.{Tree, branch}
use Rattle.rule_node.specs.Nodes.{linear_held, test_held, tree_of, blank, trees, Nums, Tested, Valid, Good}
use Rattle.table_unique.specs.Unique.{Space}
use Rattle.collect_mark.specs.Mark.{mark_of}
use Rattle.rule_node.proofs.Trees.{tree_at_is, tree_leaf, tree_branch, trees_same, weaken}
use Rattle.table_peek.specs.Renumber.{renumber}
use Rattle.collect_compact.specs.Slide.{rank, keep_of, SlidOne, Stayed, MarksClosed, Slid}
use Rattle.collect_compact.proofs.Ranks.{rank_le, rank_yes, rank_no, rank_all, rank_same, keep_yes, keep_no, keep_at, keep_all, keep_same, unrank}

-- ---- the state of the loop

pub record State (cap : ℕ) (l l' : List ℤ) (w w' : List ℕ) (n i j : ℕ) : Type 0 where
  pub at : j ≡ rank (mark_of w) i
  pub upto : i ≤ n
  pub len : length l' ≡ length l
  pub lenw : length w' ≡ length w
  pub later : (k : ℕ) → i ≤ k → node_at l' k ≡ node_at l k
  pub marks : (k : ℕ) → k < cap → get_or w' k 0 ≡ get_or w k 0
  pub beyond : (k : ℕ) → cap * 2 ≤ k → get_or w' k 0 ≡ get_or w k 0
  pub moved : (k : ℕ) → k < i → mark_of w k ≡ true → get_or w' (cap + k) 0 ≡ rank (mark_of w) k
  pub kept : trees l' j ≡ keep_of (mark_of w) (trees l n) i
  pub valid : (k : ℕ) → k < j → Valid (node_at l' k) k

-- ---- the nodes that stay

-- what the marks say is the same after nodes have stayed
module _ {cap : ℕ} {w w' : List ℕ} {n r : ℕ} (T : Stayed cap w w' n r) where
  same_marks : (k : ℕ) → k < cap → mark_of w' k ≡ mark_of w k
  unfolding mark_of
  same_marks k q = ap (λ (v : ℕ). not (eqb v 0)) (T.marks k q)

  module _ {l : List ℤ} (Z : Space cap l w n) where
    pub space_after : Space cap l w' n
    space_after = record { some = Z.some; few = Z.few; room = Z.room; words = Z.words; works = let a = Z.works in let b = T.len in omega arith }

    pub closed_after : Good l n → MarksClosed l w n → MarksClosed l w' n
    closed_after G C = record {
      high = λ i h e d. up (let q = (G.valid i h).high_below d in let a = Z.room in omega arith) (C.high i h (down i h e) d);
      low = λ i h e d. up (let q = (G.valid i h).low_below d in let a = Z.room in omega arith) (C.low i h (down i h e) d);
    }
      where
        down : (k : ℕ) → k < n → mark_of w' k ≡ true → mark_of w k ≡ true
        down k q e = sym (same_marks k (let a = Z.room in omega arith)) ∙ e

        up : {k : ℕ} → k < cap → mark_of w k ≡ true → mark_of w' k ≡ true
        up {k} q e = same_marks k q ∙ e

    -- what has slid then has slid from the start
    pub slid_before : {l' : List ℤ} {w'' : List ℕ} {j : ℕ} → Slid cap l l' w' w'' n j → Slid cap l l' w w'' n j
    slid_before s = record {
      count = s.count ∙ ranks n (omega arith);
      fewer = s.fewer;
      good = s.good;
      kept = s.kept ∙ keep_same (mark_of w) (mark_of w') (trees l n) n (λ k q. same_marks k (let a = Z.room in omega arith));
      moved = λ k q e. s.moved k q (same_marks k (let a = Z.room in omega arith) ∙ e) ∙ ranks k (omega arith);
      beyond = λ k q. s.beyond k q ∙ T.beyond k q;
      nodes_length = s.nodes_length;
      work_length = s.work_length ∙ T.len;
    }
      where
        ranks : (k : ℕ) → k ≤ n → rank (mark_of w') k ≡ rank (mark_of w) k
        ranks k q = rank_same (mark_of w) (mark_of w') k (λ i h. same_marks i (let a = Z.room in omega arith))

    -- the slide goes on where they end
    pub begins : Good l n → State cap l l w' w' n r r
    begins G = record {
      at = sym (rank_all (mark_of w') r all);
      upto = T.upto;
      len = refl;
      lenw = refl;
      later = λ k h. refl;
      marks = λ k h. refl;
      beyond = λ k h. refl;
      moved = λ k h e. T.own k h ∙ sym (rank_all (mark_of w') k (λ i q. all i (omega arith)));
      kept = sym (keep_all (mark_of w') l n r T.upto all);
      valid = λ k h. G.valid k (let a = T.upto in omega arith);
    }
      where
        all : (k : ℕ) → k < r → mark_of w' k ≡ true
        all k h = same_marks k (let a = Z.room in let b = T.upto in omega arith) ∙ T.marked k h

-- ---- the slide

module _ {cap : ℕ} {l : List ℤ} {w : List ℕ} {n : ℕ} (Z : Space cap l w n) (G : Good l n) (C : MarksClosed l w n) where
  module _ {l' : List ℤ} {w' : List ℕ} {i j : ℕ} (S : State cap l l' w w' n i j) (h : i < n) where
    abbrev mk : ℕ → Bool
    mk = mark_of w

    same_mark : mark_of w' i ≡ mark_of w i
    unfolding mark_of
    same_mark = ap (λ (v : ℕ). not (eqb v 0)) (S.marks i (let r = Z.room in omega arith))

    pub valid_here : Valid (node_at l' i) cap
    valid_here = subst (λ (x : Node). Valid x cap) (sym (S.later i (omega arith))) (weaken (let r = Z.room in omega arith) (G.valid i h))

    pub j_le : j ≤ i
    j_le = let e = S.at in let q = rank_le mk i in omega arith

    skipped : mark_of w i ≡ false → State cap l l' w w' n (i + 1) j
    skipped e = record {
      at = S.at ∙ sym (rank_no mk i e);
      upto = omega arith;
      len = S.len;
      lenw = S.lenw;
      later = λ k q. S.later k (omega arith);
      marks = S.marks;
      beyond = S.beyond;
      moved = λ k q d. ⊎_elim (λ (r : k < i). S.moved k r d) (λ (r : k ≡ i). absurd (let f : mk k ≡ false = ap mk r ∙ e in let z : ◌≡◌ {A = ℕ} 0 1 = cc in omega arith)) (split i k (omega arith));
      kept = S.kept ∙ sym (keep_no mk (trees l n) i e);
      valid = S.valid;
    }

    module _ (e : mark_of w i ≡ true) where
      abbrev x : Node
      x = node_at l i

      abbrev y : Node
      y = renumber w' cap x

      renumber_leaf : is_leaf x.kind ≡ true → y ≡ x
      unfolding renumber
      renumber_leaf d = rw d

      abbrev z : Node
      z = record { kind = x.kind; n = x.n; high = pos (rank mk (nat_abs x.high)); low = pos (rank mk (nat_abs x.low)) }

      renumber_node : is_leaf x.kind ≡ false → y ≡ z
      unfolding renumber
      renumber_node d =
          let p = S.moved (nat_abs x.high) ((G.valid i h).high_below d) (C.high i h e d) in
          let q = S.moved (nat_abs x.low) ((G.valid i h).low_below d) (C.low i h e d) in
          rw d (λ t. record { kind = x.kind; n = x.n; high = pos (p t); low = pos (q t) })

      at_high : is_leaf x.kind ≡ false → (rank mk (nat_abs x.high) < rank mk i) × (get_or (keep_of mk (trees l n) i) (rank mk (nat_abs x.high)) blank ≡ get_or (trees l n) (nat_abs x.high) blank)
      at_high d = keep_at mk (trees l n) i (nat_abs x.high) ((G.valid i h).high_below d) (C.high i h e d)

      at_low : is_leaf x.kind ≡ false → (rank mk (nat_abs x.low) < rank mk i) × (get_or (keep_of mk (trees l n) i) (rank mk (nat_abs x.low)) blank ≡ get_or (trees l n) (nat_abs x.low) blank)
      at_low d = keep_at mk (trees l n) i (nat_abs x.low) ((G.valid i h).low_below d) (C.low i h e d)

      -- the moved node stands for the same tree
      new_tree : tree_of y (keep_of mk (trees l n) i) ≡ get_or (trees l n) i blank
      unfolding test_held linear_held
      new_tree = go (is_leaf x.kind) refl
        where
          go : (b : Bool) → is_leaf x.kind ≡ b → tree_of y (keep_of mk (trees l n) i) ≡ get_or (trees l n) i blank
          go true d = ap (λ (v : Node). tree_of v (keep_of mk (trees l n) i)) (renumber_leaf d) ∙ (tree_leaf x (keep_of mk (trees l n) i) d ∙ sym (tree_at_is G i h ∙ tree_leaf x (trees l n) d))
          go false d =
              ap (λ (v : Node). tree_of v (keep_of mk (trees l n) i)) (renumber_node d) ∙ (tree_z d ∙ sym (tree_at_is G i h ∙ tree_branch x (trees l n) d))
            where
              tree_z : is_leaf x.kind ≡ false → tree_of z (keep_of mk (trees l n) i) ≡ branch (test_held x) (get_or (trees l n) (nat_abs x.high) blank) (get_or (trees l n) (nat_abs x.low) blank)
              tree_z d = tree_branch z (keep_of mk (trees l n) i) d ∙ ap₂ (branch (test_held z)) (at_high d).1 (at_low d).1

      -- a node with other branches has the same numbers and test
      nums_z : Nums x → Nums z
      nums_z v = v

      tested_z : Tested x → Tested z
      tested_z v = record { kind = v.kind; long = v.long; number = v.number; bounds = v.bounds; rest = v.rest }

      new_valid : Valid y j
      new_valid = go (is_leaf x.kind) refl
        where
          v : Valid x i
          v = G.valid i h

          never : {A : Type 0} {b : Bool} → b ≡ true → b ≡ false → A
          never p q = absurd (let t : ◌≡◌ {A = ℕ} 0 1 = cc in omega arith)

          go : (b : Bool) → is_leaf x.kind ≡ b → Valid y j
          go true d = subst (λ (u : Node). Valid u j) (sym (renumber_leaf d)) (record {
            nums = v.nums;
            high_nat = v.high_nat;
            low_nat = v.low_nat;
            none = v.none;
            leaf_low = v.leaf_low;
            tested = v.tested;
            high_below = λ f. never d f;
            low_below = λ f. never d f;
          })
          go false d =
              let a = S.at in
              let p = (at_high d).0 in
              let q = (at_low d).0 in
              subst (λ (u : Node). Valid u j) (sym (renumber_node d)) (record {
                nums = nums_z v.nums;
                high_nat = tt;
                low_nat = tt;
                none = λ f. branch_not x.kind d f;
                leaf_low = λ f. never f d;
                tested = λ f. tested_z (v.tested d);
                high_below = λ f. omega arith;
                low_below = λ f. omega arith;
              })

      abbrev l'' : List ℤ
      l'' = put_at l' j y

      abbrev w'' : List ℕ
      w'' = set w' (cap + i) j

      room : j * node_words + node_words ≤ length l'
      room = let a = j_le in let b = Z.words in let c = S.len in let d = Z.room in omega arith

      new_kept : trees l'' (j + 1) ≡ keep_of mk (trees l n) (i + 1)
      unfolding trees
      new_kept =
          ap (trees l'') (add-one j)
          ∙ (ap₂ (λ (X : List Tree) (v : Node). X ++ (tree_of v X ∷ [])) (trees_same l' l'' j (put_other l' j y) ∙ S.kept) (put_same l' j y room new_valid.nums.long)
          ∙ (ap (λ (t : Tree). keep_of mk (trees l n) i ++ (t ∷ [])) new_tree ∙ sym (keep_yes mk (trees l n) i e)))

      stepped : State cap l l'' w w'' n (i + 1) (j + 1)
      stepped = record {
        at = ap (λ (k : ℕ). k + 1) S.at ∙ sym (rank_yes mk i e);
        upto = omega arith;
        len = put_length l' j y ∙ S.len;
        lenw = length-set w' (cap + i) j ∙ S.lenw;
        later = λ k q. put_above l' j y new_valid.nums.long k (let a = j_le in omega arith) ∙ S.later k (omega arith);
        marks = λ k q. get_or-set_other w' (cap + i) k j 0 (omega arith) ∙ S.marks k q;
        beyond = λ k q. get_or-set_other w' (cap + i) k j 0 (let b = Z.room in omega arith) ∙ S.beyond k q;
        moved = λ k q d. ⊎_elim
            (λ (r : k < i). get_or-set_other w' (cap + i) (cap + k) j 0 (omega arith) ∙ S.moved k r d)
            (λ (r : k ≡ i). ap (λ (t : ℕ). get_or w'' (cap + t) 0) r ∙ (get_or-set_same w' (cap + i) j 0 (let a = S.lenw in let b = Z.room in omega arith) ∙ (S.at ∙ ap (rank mk) (sym r))))
            (split i k (omega arith));
        kept = new_kept;
        valid = λ k q. ⊎_elim
            (λ (r : k < j). subst (λ (v : Node). Valid v k) (sym (put_other l' j y k r)) (S.valid k r))
            (λ (r : k ≡ j). subst (λ (t : ℕ). Valid (node_at l'' t) t) (sym r) (subst (λ (v : Node). Valid v j) (sym (put_same l' j y room new_valid.nums.long)) new_valid))
            (split j k (omega arith));
      }

    pub steps : {l''' : List ℤ} {w''' : List ℕ} {r : ℕ} → SlidOne l' w' cap i j l''' w''' r → State cap l l''' w w''' n (i + 1) r
    steps o = subst₃ (λ (r : ℕ) (p : List ℤ) (q : List ℕ). State cap l p w q n (i + 1) r) (sym o.next) (sym o.nodes) (sym o.work) (go (mark_of w' i) refl)
      where
        go : (b : Bool) → mark_of w' i ≡ b → State cap l (cond b (put_at l' j (renumber w' cap (node_at l' i))) l') w (cond b (set w' (cap + i) j) w') n (i + 1) (cond b (j + 1) j)
        go true e = subst (λ (v : Node). State cap l (put_at l' j (renumber w' cap v)) w (set w' (cap + i) j) n (i + 1) (j + 1)) (sym (S.later i (omega arith))) (stepped (sym same_mark ∙ e))
        go false e = skipped (sym same_mark ∙ e)

  pub ends : {l' : List ℤ} {w' : List ℕ} {i j : ℕ} → State cap l l' w w' n i j → n ≤ i → Slid cap l l' w w' n j
  ends {l'} {w'} {i} {j} S q = record {
    count = j_is;
    fewer = let a = rank_le (mark_of w) n in let d = j_is in omega arith;
    good = good;
    kept = kept;
    moved = λ k r d. S.moved k (omega arith) d;
    beyond = S.beyond;
    nodes_length = S.len;
    work_length = S.lenw;
  }
    where
      i_is : i ≡ n
      i_is = let u = S.upto in omega arith

      kept : trees l' j ≡ keep_of (mark_of w) (trees l n) n
      kept = S.kept ∙ ap (keep_of (mark_of w) (trees l n)) i_is

      j_is : j ≡ rank (mark_of w) n
      j_is = S.at ∙ ap (rank (mark_of w)) i_is

      good : Good l' j
      good = record { valid = S.valid; distinct = λ a b p r e. apart a b p r e }
        where
          tree_kept : (a : ℕ) (p : a < j) → (k : ℕ) × (k < n) × (rank (mark_of w) k ≡ a) × (get_or (trees l' j) a blank ≡ get_or (trees l n) k blank)
          tree_kept a p =
              let u = unrank (mark_of w) n a (let d = j_is in omega arith) in
              (u.0, u.1, u.3, ap (λ (X : List Tree). get_or X a blank) kept ∙ (ap (λ (t : ℕ). get_or (keep_of (mark_of w) (trees l n) n) t blank) (sym u.3) ∙ (keep_at (mark_of w) (trees l n) n u.0 u.1 u.2).1))

          apart : (a b : ℕ) → a < j → b < j → get_or (trees l' j) a blank ≡ get_or (trees l' j) b blank → a ≡ b
          apart a b p r e =
              let s = tree_kept a p in
              let t = tree_kept b r in
              sym s.2 ∙ (ap (rank (mark_of w)) (G.distinct s.0 t.0 s.1 t.1 (sym s.3 ∙ (e ∙ t.3))) ∙ t.2)
