-- A look-up or append of a node, as the making of its tree.
use mathlib.Core.Path.{◌≡◌, refl, sym, ap, ap₂, ◌∙◌, subst}
use mathlib.Core.Bool.{Bool, true, false, cond}
use mathlib.Core.Logic.{⊎_elim}
use mathlib.Core.List.{List, [], ◌∷◌, ◌++◌}
use Prim.Native.Nat.{ℕ, ◌+◌, ◌*◌, ◌≤◌, ◌<◌}
use native.Mathlib.Numerals.{add-one}
use native.Mathlib.Omega.{arith}
use borrow.Author.Tests.{lt-ltb, le-ltb, ltb-true, ltb-false}
use lib.Dec.{ltb}
use lib.IntN.{ℤ}
use lib.ListN.{length, get_or, get_or-append}
use lib.Seq.{get_or_at}
use Rattle.whole.specs.Cases.{if}
use Rattle.table.proofs.Look.{split, eqN_true, eqN_refl, first_hit, first_out}
use Rattle.table.proofs.Store.{put_other, put_above, put_same}
use Rattle.table.specs.Table.{Answer, count_of, made, halted, node_at, put_at, eq_node, first_node, intern_answer, intern_words}
use Rattle.table.specs.declared.Node.{Node}
use Rattle.table.specs.declared.Stop.TheVariants.{Full}
use Rattle.table_unique.specs.Unique.{Chained, NodeEntered}
use Rattle.theory.specs.Diagram.{Tree}
use Rattle.theory.specs.Computation.{make, done, stopped, run, member}
use Rattle.theory.proofs.laws.Comps.{member_in, member_out}
use Rattle.rule_node.specs.Nodes.{tree_of, trees, tree_at, blank, Valid, Good}
use Rattle.rule_node.specs.Table.{Bare, Grew, out_of}
use Rattle.rule_node.proofs.Trees.{trees_length, trees_same, tree_at_is, inj, weaken}
use Rattle.rule_node.proofs.Outcomes.{grew_like, grew_ret}

-- a tree that is there is not made again
pub grew_there : {cap : ℕ} {l : List ℤ} {w : List ℕ} {n : ℕ} → Bare cap l w n → (h : ℕ) → h < n → Grew cap l w n (make (tree_at l n h)) l w (made h n)
unfolding run make
grew_there {cap} {l} {n = n} A h q = grew_like (sym (ap (λ (b : Bool). if b (done (tree_at l n h) (trees l n))
    (if (ltb (length (trees l n)) cap) (done (tree_at l n h) (trees l n ++ (tree_at l n h ∷ []))) (stopped 12)))
    (member_in blank (tree_at l n h) (trees l n) h (let e = trees_length l n in omega arith) refl))) (grew_ret A h q)

module _ {cap : ℕ} {l : List ℤ} {w : List ℕ} {n : ℕ} (A : Bare cap l w n) (x : Node) (vx : Valid x n) where
  abbrev pub tree : Tree
  tree = tree_of x (trees l n)

  abbrev Frame : List ℕ → Type 0
  Frame w' = (j : ℕ) → cap * 2 ≤ j → get_or w' j 0 ≡ get_or w j 0

  found : (i : ℕ) → i < n → node_at l i ≡ x → tree_at l n i ≡ tree
  found i h e = tree_at_is A.good i h ∙ ap (λ (z : Node). tree_of z (trees l n)) e

  ran_old : {w' : List ℕ} → Chained cap l w' n → Frame w' → (i : ℕ) → i < n → node_at l i ≡ x → Grew cap l w n (make tree) l w' (made i n)
  unfolding run out_of make
  ran_old C F i h e = record {
    ran = ap (λ (z : Tree). done z (trees l n)) (found i h e) ∙ sym (ap (λ (b : Bool). if b (done tree (trees l n))
        (if (ltb (length (trees l n)) cap) (done tree (trees l n ++ (tree ∷ []))) (stopped 12)))
        (member_in blank tree (trees l n) i (let q = trees_length l n in omega arith) (found i h e)));
    bare = record { good = A.good; chained = C };
    within = λ t. h;
    more = omega arith;
    kept = λ j q. refl;
    rest = λ j q. refl;
    beyond = F;
  }

  module _ (absent : (i : ℕ) → i < n → node_at l i ≡ x → ⊥) where
    apart : (i : ℕ) → i < n → tree_at l n i ≡ tree → ⊥
    apart i h e = absent i h (inj A.good (node_at l i) x (weaken (omega arith) (A.good.valid i h)) vx (sym (tree_at_is A.good i h) ∙ e))

    not_there : member tree (trees l n) ≡ false
    not_there = member_out blank tree (trees l n) (λ i h. apart i (let q = trees_length l n in omega arith))

    ran_full : {w' : List ℕ} → Chained cap l w' n → Frame w' → cap ≤ n → Grew cap l w n (make tree) l w' (halted Full n)
    unfolding run out_of make
    ran_full C F h = record {
      ran = sym (rw (not_there, le-ltb (length (trees l n)) cap (let q = trees_length l n in omega arith)));
      bare = record { good = A.good; chained = C };
      within = λ t. absurd (omega arith);
      more = omega arith;
      kept = λ j q. refl;
      rest = λ j q. refl;
      beyond = F;
    }

    module _ (h : n < cap) where
      abbrev l' : List ℤ
      l' = put_at l n x

      trees_n : trees l' n ≡ trees l n
      trees_n = trees_same l l' n (put_other l n x)

      at_n : node_at l' n ≡ x
      at_n = put_same l n x (let w = A.chained.space.words in omega arith) vx.nums.long

      trees_new : trees l' (n + 1) ≡ trees l n ++ (tree ∷ [])
      unfolding trees
      trees_new = rw (add-one n) (ap₂ (λ (X : List Tree) (x : Node). X ++ (tree_of x X ∷ [])) trees_n at_n)

      old_at : (i : ℕ) → i < n → tree_at l' (n + 1) i ≡ tree_at l n i
      old_at i q = ap (λ (X : List Tree). get_or X i blank) trees_new ∙ get_or-append (trees l n) _ blank i (let w = trees_length l n in omega arith)

      new_at : tree_at l' (n + 1) n ≡ tree
      new_at = ap (λ (X : List Tree). get_or X n blank) trees_new ∙ get_or_at (trees l n) tree [] blank n (trees_length l n)

      good_new : Good l' (n + 1)
      good_new = record {
        valid = λ i q. ⊎_elim
            (λ r. subst (λ (z : Node). Valid z i) (sym (put_other l n x i r)) (A.good.valid i r))
            (λ r. subst (λ (k : ℕ). Valid (node_at l' k) k) (sym r) (subst (λ (z : Node). Valid z n) (sym at_n) vx))
            (split n i (omega arith));
        distinct = λ i j p q e. ⊎_elim
            (λ r. ⊎_elim
            (λ s. A.good.distinct i j r s (sym (old_at i r) ∙ (e ∙ old_at j s)))
            (λ s. absurd (apart i r (sym (old_at i r) ∙ (e ∙ (ap (λ (k : ℕ). tree_at l' (n + 1) k) s ∙ new_at)))))
            (split n j (omega arith)))
            (λ r. ⊎_elim
            (λ s. absurd (apart j s (sym (old_at j s) ∙ (sym e ∙ (ap (λ (k : ℕ). tree_at l' (n + 1) k) r ∙ new_at)))))
            (λ s. omega arith)
            (split n j (omega arith)))
            (split n i (omega arith));
      }

      ran_new : {w' : List ℕ} → Chained cap l' w' (n + 1) → Frame w' → Grew cap l w n (make tree) l' w' (made n (n + 1))
      unfolding run out_of make
      ran_new C F = record {
        ran = ap₂ done new_at trees_new ∙ sym (rw (not_there, lt-ltb (length (trees l n)) cap (let q = trees_length l n in omega arith)));
        bare = record { good = good_new; chained = C };
        within = λ t. omega arith;
        more = omega arith;
        kept = put_other l n x;
        rest = λ i q. put_above l n x vx.nums.long i (omega arith);
        beyond = F;
      }

  out : ltb (first_node l x n) n ≡ false → (i : ℕ) → i < n → node_at l i ≡ x → ⊥
  unfolding first_node
  out e i h s =
      let a = first_out (λ i. eq_node (node_at l i) x) n (ltb-false (first_node l x n) n e) i h in
      let b = ap (λ (z : Node). eq_node z x) s ∙ eqN_refl x in
      let z : ◌≡◌ {A = ℕ} 0 1 = cc in omega arith

  interned : (w' : List ℕ) → Chained cap (intern_words cap l n x) w' (count_of (intern_answer cap l n x)) → Frame w' → Grew cap l w n (make tree) (intern_words cap l n x) w' (intern_answer cap l n x)
  unfolding intern_answer intern_words first_node
  interned w' C F = go (ltb (first_node l x n) n) refl (ltb n cap) refl C
    where
      go : (b : Bool) → ltb (first_node l x n) n ≡ b → (d : Bool) → ltb n cap ≡ d → Chained cap (cond b l (cond d (put_at l n x) l)) w'
          (count_of (cond {A = Answer} b (made (first_node l x n) n)
          (cond {A = Answer} d (made n (n + 1)) (halted Full n)))) → Grew cap l w n (make tree)
          (cond b l (cond d (put_at l n x) l)) w' (cond {A = Answer} b (made (first_node l x n) n)
          (cond {A = Answer} d (made n (n + 1)) (halted Full n)))
      go true e d ed C =
          let q = ltb-true (first_node l x n) n e in
          ran_old C F (first_node l x n) q (eqN_true (node_at l (first_node l x n)) x (first_hit (λ i. eq_node (node_at l i) x) n q))
      go false e true ed C = ran_new (λ i h s. out e i h s) (ltb-true n cap ed) C F
      go false e false ed C = ran_full (λ i h s. out e i h s) C F (ltb-false n cap ed)

  -- with the answer and the words that the code has
  pub interned_as : {r : Answer} {l' : List ℤ} {w' : List ℕ} → NodeEntered cap l w n x l' w' r → Grew cap l w n (make tree) l' w' r
  interned_as {r} {l'} {w'} E =
      subst (λ (m : List ℤ). Grew cap l w n (make tree) m w' r) (sym E.nodes)
      (subst (λ (r : Answer). Grew cap l w n (make tree) (intern_words cap l n x) w' r) (sym E.answer)
      (interned w' (subst (λ (m : List ℤ). Chained cap m w' (count_of (intern_answer cap l n x))) E.nodes (subst (λ (r : Answer). Chained cap l' w' (count_of r)) E.answer E.chained)) E.beyond))
