-- What the work words say as nodes get their numbers.
use mathlib.Core.Path.{◌≡◌, refl, sym, ap, ap₂, ◌∙◌, subst}
use mathlib.Core.Bool.{Bool, true, false}
use mathlib.Core.Logic.{⊎_elim}
use mathlib.Core.List.{List, [], ◌∷◌, ◌++◌}
use Prim.Native.Nat.{ℕ, zero, suc, ◌+◌, ◌≤◌, ◌<◌}
use native.Mathlib.Numerals.{add-one}
use native.Mathlib.Omega.{arith}
use borrow.Author.Tests.{eqb-true, eqb-false}
use lib.Dec.{eqb}
use lib.IntN.{ℤ, nat_abs}
use lib.ListN.{length, get_or, set, length-set, length-append}
use lib.Seq.{get_or-set_same, get_or-set_other}
use Rattle.table.proofs.Look.{split}
use Rattle.table.specs.Table.{node_at, is_leaf}
use Rattle.theory.specs.Diagram.{Tree, branch}
use Rattle.theory.specs.Computation.{member, enter}
use Rattle.theory.specs.Events.{Distinct}
use Rattle.theory.specs.Solve.{number_of}
use Rattle.theory.proofs.laws.Comps.{same_not, member_in, member_cases}
use Rattle.theory.proofs.laws.Counts.{distinct_fit}
use Rattle.theory.proofs.laws.Table.{number_last, distinct_add}
use Rattle.rule_node.specs.Nodes.{test_held, blank, trees, tree_at}
use Rattle.finish_number.specs.Number.{TableHeld, list_of, Numbered, assigned, TreeNumbered}
use Rattle.rule_node.proofs.Trees.{trees_length, at_leaf, at_branch}
use Rattle.finish_number.proofs.Numbers.{number_none, number_out, number_in, number_other, enter_there, enter_leaf, enter_branch, still_out}

-- ---- the list in the work words

pub list_length : (X : List Tree) (w : List ℕ) (c : ℕ) → length (list_of X w c) ≡ c
unfolding list_of
list_length X w zero = refl
list_length X w (suc c) = length-append (list_of X w c) _ ∙ (ap (λ (k : ℕ). k + 1) (list_length X w c) ∙ add-one c)

list_same : (X : List Tree) (w w' : List ℕ) (c : ℕ) → ((k : ℕ) → k < c → get_or w' k 0 ≡ get_or w k 0) → list_of X w' c ≡ list_of X w c
unfolding list_of
list_same X w w' zero h = refl
list_same X w w' (suc c) h = ap₂ (λ (t : List Tree) (z : ℕ). t ++ (get_or X z blank ∷ [])) (list_same X w w' c (λ k q. h k (omega arith))) (h c (omega arith))

-- what is listed is of the table
list_in : (X : List Tree) (w : List ℕ) (c : ℕ) → ((k : ℕ) → k < c → get_or w k 0 < length X) → (u : Tree) → member u (list_of X w c) ≡ true → member u X ≡ true
unfolding list_of member
list_in X w zero h u m = absurd (let z : ◌≡◌ {A = ℕ} 0 1 = cc in omega arith)
list_in X w (suc c) h u m = ⊎_elim
    (λ p. list_in X w c (λ k q. h k (omega arith)) u p)
    (λ p. member_in blank u X (get_or w c 0) (h c (omega arith)) p)
    (member_cases u (get_or X (get_or w c 0) blank) (list_of X w c) m)

-- so that there are no more than its nodes
list_fits : (l : List ℤ) (n : ℕ) (w : List ℕ) (c : ℕ) → ((k : ℕ) → k < c → get_or w k 0 < n) → Distinct (list_of (trees l n) w c) → c ≤ n
list_fits l n w c h D =
    let e = trees_length l n in
    let q = distinct_fit (list_of (trees l n) w c) (trees l n) D (list_in (trees l n) w c (λ k p. let z = h k p in omega arith)) in
    let s = list_length (trees l n) w c in
    omega arith

pub numbered_fits : {cap : ℕ} {l : List ℤ} {n : ℕ} {w : List ℕ} {c : ℕ} → Numbered cap l n w c → c ≤ n
numbered_fits {cap} {l} {n} {w} {c} N = list_fits l n w c N.within N.distinct

-- ---- one more number

module _ {cap : ℕ} {l : List ℤ} {n : ℕ} (G : TableHeld cap l n) where
  abbrev X : List Tree
  X = trees l n

  module _ {w : List ℕ} {c : ℕ} (N : Numbered cap l n w c) (i : ℕ) (h : i < n) where
    absent : get_or w (cap + i) 0 ≡ 0 → member (tree_at l n i) (list_of X w c) ≡ false
    absent z = number_out (tree_at l n i) (list_of X w c) (sym (N.numbers i h) ∙ z)

  module _ {w : List ℕ} {c : ℕ} (N : Numbered cap l n w c) (i : ℕ) (h : i < n) (z : get_or w (cap + i) 0 ≡ 0) where
    -- a number is left for i: the list with i's tree is distinct too
    pub c_lt : c < n
    c_lt =
        let e = trees_length l n in
        let s = list_length X w c in
        let a = length-append (list_of X w c) (tree_at l n i ∷ []) in
        let q = distinct_fit (list_of X w c ++ (tree_at l n i ∷ [])) X (distinct_add (tree_at l n i) (list_of X w c) (absent N i h z) N.distinct)
        (λ u m. ⊎_elim (λ p. list_in X w c (λ k r. let y = N.within k r in omega arith) u p) (λ p. member_in blank u X i (omega arith) p) (member_cases u (tree_at l n i) (list_of X w c) m)) in
        omega arith

    abbrev w' : List ℕ
    w' = set (set w c i) (cap + i) (c + 1)

    room : n ≤ cap
    room = G.room

    low_same : (k : ℕ) → k < c → get_or w' k 0 ≡ get_or w k 0
    low_same k q = get_or-set_other (set w c i) (cap + i) k (c + 1) 0 (let a = c_lt in let b = room in omega arith) ∙ get_or-set_other w c k i 0 (omega arith)

    high_same : (j : ℕ) → (j ≡ i → ⊥) → get_or w' (cap + j) 0 ≡ get_or w (cap + j) 0
    high_same j d = get_or-set_other (set w c i) (cap + i) (cap + j) (c + 1) 0 (λ e. d (omega arith)) ∙ get_or-set_other w c (cap + j) i 0 (let a = c_lt in let b = room in omega arith)

    at_c : get_or w' c 0 ≡ i
    at_c = get_or-set_other (set w c i) (cap + i) c (c + 1) 0 (let a = c_lt in let b = room in omega arith) ∙ get_or-set_same w c i 0 (let a = c_lt in let b = room in let d = N.works in omega arith)

    at_i : get_or w' (cap + i) 0 ≡ c + 1
    at_i = get_or-set_same (set w c i) (cap + i) (c + 1) 0 (simp length-set (let b = room in let d = N.works in omega arith))

    listed_new : list_of X w' (c + 1) ≡ list_of X w c ++ (tree_at l n i ∷ [])
    unfolding list_of
    listed_new = ap (list_of X w') (add-one c) ∙ ap₂ (λ (t : List Tree) (k : ℕ). t ++ (get_or X k blank ∷ [])) (list_same X w w' c low_same) at_c

    numbers_new : (j : ℕ) → j < n → get_or w' (cap + j) 0 ≡ number_of (tree_at l n j) (list_of X w' (c + 1))
    numbers_new j q = go (eqb j i) refl ∙ sym (ap (number_of (tree_at l n j)) listed_new)
      where
        go : (b : Bool) → eqb j i ≡ b → get_or w' (cap + j) 0 ≡ number_of (tree_at l n j) (list_of X w c ++ (tree_at l n i ∷ []))
        go true e =
            let d = eqb-true j i e in
            ap (λ (k : ℕ). get_or w' (cap + k) 0) d ∙ (at_i ∙ (add-one c ∙ (ap suc (sym (list_length X w c)) ∙ (sym (number_last (tree_at l n i) (list_of X w c) (absent N i h z))
            ∙ ap (λ (k : ℕ). number_of (tree_at l n k) (list_of X w c ++ (tree_at l n i ∷ []))) (sym d)))))
        go false e =
            let d = eqb-false j i e in
            high_same j d ∙ (N.numbers j q ∙ sym (number_other (tree_at l n j) (tree_at l n i) (list_of X w c) (same_not (tree_at l n i) (tree_at l n j) (λ f. d (sym (G.good.distinct i j h q f))))))

    not_i : (k : ℕ) → k < c → get_or w k 0 ≡ i → ⊥
    not_i k q e = let a = N.inverse k q in let b : get_or w (cap + get_or w k 0) 0 ≡ 0 = ap (λ (j : ℕ). get_or w (cap + j) 0) e ∙ z in omega arith

    assigns : Numbered cap l n w' (c + 1)
    assigns = record {
      works = simp length-set N.works;
      distinct = subst Distinct (sym listed_new) (distinct_add (tree_at l n i) (list_of X w c) (absent N i h z) N.distinct);
      within = λ k q. ⊎_elim
          (λ (r : k < c). let a = low_same k r in let b = N.within k r in omega arith)
          (λ (r : k ≡ c). let a = at_c in let b : get_or w' k 0 ≡ get_or w' c 0 = ap (λ (j : ℕ). get_or w' j 0) r in omega arith)
          (split c k (omega arith));
      inverse = λ k q. ⊎_elim
          (λ (r : k < c). ap (λ (j : ℕ). get_or w' (cap + j) 0) (low_same k r) ∙ (high_same (get_or w k 0) (not_i k r) ∙ N.inverse k r))
          (λ (r : k ≡ c). ap (λ (j : ℕ). get_or w' (cap + get_or w' j 0) 0) r ∙ (ap (λ (j : ℕ). get_or w' (cap + j) 0) at_c ∙ (at_i ∙ (add-one c ∙ ap suc (sym r)))))
          (split c k (omega arith));
      numbers = numbers_new;
    }

  -- ---- the three ways of a node

  module _ {w : List ℕ} {c : ℕ} (N : Numbered cap l n w c) (i : ℕ) (h : i < n) where
    pub was_there : (get_or w (cap + i) 0 ≡ 0 → ⊥) → TreeNumbered cap l n w w c c (tree_at l n i)
    was_there z = record { state = N; listed = sym (enter_there (tree_at l n i) (list_of X w c) (number_in (tree_at l n i) (list_of X w c) (λ e. z (N.numbers i h ∙ e)))) }

    pub leaf_new : (z : get_or w (cap + i) 0 ≡ 0) → is_leaf (node_at l i).kind ≡ true → {r : ℕ} {w'' : List ℕ} → r ≡ c + 1 → w'' ≡ assigned w cap c i → TreeNumbered cap l n w w'' c r (tree_at l n i)
    unfolding assigned
    leaf_new z d {r} {w''} er ew =
        subst (λ (k : ℕ). TreeNumbered cap l n w w'' c k (tree_at l n i)) (sym er) (subst (λ (v : List ℕ). TreeNumbered cap l n w v c (c + 1) (tree_at l n i)) (sym ew)
        (record { state = assigns N i h z; listed = listed_new N i h z ∙ sym (enter_leaf (tree_at l n i) (list_of X w c) (absent N i h z) (at_leaf G.good i h d)) }))

    module _ (z : get_or w (cap + i) 0 ≡ 0) (d : is_leaf (node_at l i).kind ≡ false) {p q : ℕ} (ep : p ≡ nat_abs (node_at l i).high)
        (eq : q ≡ nat_abs (node_at l i).low) {w₁ w₂ : List ℕ} {c₁ c₂ : ℕ} (E₁ : TreeNumbered cap l n w w₁ c c₁ (tree_at l n p))
        (E₂ : TreeNumbered cap l n w₁ w₂ c₁ c₂ (tree_at l n q)) where
      tree_is : tree_at l n i ≡ branch (test_held (node_at l i)) (tree_at l n p) (tree_at l n q)
      tree_is = at_branch G.good i h d ∙ sym (ap₂ (λ (a b : ℕ). branch (test_held (node_at l i)) (tree_at l n a) (tree_at l n b)) ep eq)

      after : list_of X w₂ c₂ ≡ enter (tree_at l n q) (enter (tree_at l n p) (list_of X w c))
      after = E₂.listed ∙ ap (enter (tree_at l n q)) E₁.listed

      still : get_or w₂ (cap + i) 0 ≡ 0
      still = E₂.state.numbers i h ∙ (ap (number_of (tree_at l n i)) after ∙ number_none (tree_at l n i) _ (still_out (tree_at l n i) (list_of X w c) (absent N i h z) tree_is))

      pub branch_lt : c₂ < n
      branch_lt = c_lt E₂.state i h still

      pub branch_new : {r : ℕ} {w'' : List ℕ} → r ≡ c₂ + 1 → w'' ≡ assigned w₂ cap c₂ i → TreeNumbered cap l n w w'' c r (tree_at l n i)
      unfolding assigned
      branch_new {r} {w''} er ew =
          subst (λ (k : ℕ). TreeNumbered cap l n w w'' c k (tree_at l n i)) (sym er) (subst (λ (v : List ℕ). TreeNumbered cap l n w v c (c₂ + 1) (tree_at l n i)) (sym ew)
          (record { state = assigns E₂.state i h still; listed = listed_new E₂.state i h still ∙ (ap (λ (t : List Tree). t ++ (tree_at l n i ∷ [])) after ∙ sym (enter_branch (tree_at l n i) (list_of X w c) (absent N i h z) tree_is)) }))
