-- From the parts to the tables after solving.
use mathlib.Core.Path.{◌≡◌, refl, sym, ap, ap₂, ◌∙◌}
use mathlib.Core.Bool.{Bool, true, false, cond}
use mathlib.Core.Logic.{⊎_elim}
use mathlib.Core.List.{List, [], ◌∷◌, ◌++◌, map}
use Prim.Native.Nat.{ℕ, zero, suc, ◌+◌, ◌-◌, ◌*◌, ◌≤◌, ◌<◌}
use native.Mathlib.Omega.{arith}
use lib.IntN.{ℤ, pos, nat_abs}
use lib.ListN.{length, get_or, take, replicate, length-map, get_or-append}
use lib.Seq.{get_or_at}
use Rattle.table.proofs.Look.{split}
use Rattle.table.specs.Table.{node_at, is_leaf}
use Rattle.theory.specs.Widths.{node_words, steps_most}
use Rattle.theory.specs.Diagram.{Tree}
use Rattle.theory.specs.Solve.{number_of, row, rows, table_of, solved_nodes, solved_stages}
use Rattle.theory.proofs.laws.Table.{number_below, number_entry}
use Rattle.theory.proofs.laws.Words.{rows_length}
use Rattle.rule_node.specs.Nodes.{blank, trees, tree_at}
use Rattle.finish_number.specs.Number.{TableHeld, Roots, trees_of, list_of, Numbered, RootsListed}
use Rattle.rule_node.proofs.Trees.{at_leaf, at_branch}
use Rattle.finish_number.proofs.Numbers.{number_in}
use Rattle.finish_number.proofs.Enter.{list_length, numbered_fits}
use Rattle.table_peek.specs.Renumber.{renumber}
use Rattle.finish_arrange.specs.Arrange.{Inverse, Arranged, Rewritten}
use Rattle.finish.specs.Finish.{Finished, numbers_of, LaidOut}
use Rattle.finish.proofs.Rows.{words_of, over, row_leaf, row_branch, rows_take}

-- ---- numbers and places are inverse

list_at : (X : List Tree) (w : List ℕ) (c m : ℕ) → m < c → get_or (list_of X w c) m blank ≡ get_or X (get_or w m 0) blank
unfolding list_of
list_at X w zero m h = absurd (omega arith)
list_at X w (suc c) m h = ⊎_elim
    (λ (q : m < c). get_or-append (list_of X w c) _ blank m (let e = list_length X w c in omega arith) ∙ list_at X w c m q)
    (λ (q : m ≡ c). get_or_at (list_of X w c) (get_or X (get_or w c 0) blank) [] blank m (list_length X w c ∙ sym q) ∙ ap (λ (k : ℕ). get_or X (get_or w k 0) blank) (sym q))
    (split c m h)

number_found : (t : Tree) (X : List Tree) (w : List ℕ) (c m : ℕ) → number_of t (list_of X w c) ≡ suc m → (m < c) × (get_or X (get_or w m 0) blank ≡ t)
number_found t X w c m e =
    let q = number_below t (list_of X w c) in
    let s = list_length X w c in
    let h : m < c = omega arith in
    let i : number_of t (list_of X w c) - 1 ≡ m = omega arith in
    (h, sym (list_at X w c m h) ∙ (ap (λ (k : ℕ). get_or (list_of X w c) k blank) (sym i) ∙ number_entry blank t (list_of X w c) (number_in t (list_of X w c) (λ z. omega arith))))

module _ {cap : ℕ} {l : List ℤ} {n : ℕ} (G : TableHeld cap l n) {w : List ℕ} {c : ℕ} (N : Numbered cap l n w c) where
  abbrev X : List Tree
  X = trees l n

  abbrev Y : List Tree
  Y = list_of (trees l n) w c

  pub inverse : Inverse cap n w 0 c
  inverse = record {
    upto = numbered_fits N;
    fits = G.room;
    works = N.works;
    within = λ m a b. ((omega arith), N.within m b);
    number = λ m a b. N.inverse m b;
    order = λ i a b m e. let z = number_found (tree_at l n i) X w c m (sym (N.numbers i b) ∙ e) in ((omega arith), z.0, G.good.distinct (get_or w m 0) i (N.within m z.0) b z.1);
  }

  pub wide : {R : List ℕ} → Roots R n → Roots R cap
  wide B = record { below = λ j h. let q = B.below j h in let r = G.room in omega arith }

  -- a node with its branches' numbers is its tree's row
  renumbered_row : (i : ℕ) → i < n → words_of (renumber w cap (node_at l i)) ≡ row Y (tree_at l n i)
  unfolding renumber
  renumbered_row i h = go (is_leaf (node_at l i).kind) refl
    where
      go : (b : Bool) → is_leaf (node_at l i).kind ≡ b → words_of (cond b (node_at l i) (over (node_at l i) (pos (get_or w (cap + nat_abs (node_at l i).high) 0)) (pos (get_or w (cap + nat_abs (node_at l i).low) 0)))) ≡ row Y (tree_at l n i)
      go true d = row_leaf Y (node_at l i) i (G.good.valid i h) d ∙ ap (row Y) (sym (at_leaf G.good i h d))
      go false d =
          let p = N.numbers (nat_abs (node_at l i).high) (let q = (G.good.valid i h).high_below d in omega arith) in
          let r = N.numbers (nat_abs (node_at l i).low) (let q = (G.good.valid i h).low_below d in omega arith) in
          ap₂ (λ (a b : ℕ). words_of (over (node_at l i) (pos a) (pos b))) p r
          ∙ (row_branch Y (node_at l i) (tree_at l n (nat_abs (node_at l i).high)) (tree_at l n (nat_abs (node_at l i).low)) ((G.good.valid i h).tested d)
          ∙ ap (row Y) (sym (at_branch G.good i h d)))

  module _ {l₁ l₂ : List ℤ} (W : Rewritten l l₁ w cap n) (A : Arranged l₁ l₂ w c) where
    len : length l₂ ≡ length l
    len = A.len ∙ W.len

    inside : c * node_words ≤ length l₂
    inside = let a = len in let b = numbered_fits N in let d = G.room in let e = G.words in omega arith

    placed : (m : ℕ) → m < c → words_of (node_at l₂ m) ≡ row Y (get_or X (get_or w m 0) blank)
    placed m h = ap words_of (A.at m h ∙ W.at (get_or w m 0) (N.within m h)) ∙ renumbered_row (get_or w m 0) (N.within m h)

    table : {l₃ : List ℤ} → l₃ ≡ take (c * node_words) l₂ ++ replicate (length l₂ - c * node_words) (pos 0) → l₃ ≡ rows Y Y ++ replicate (length l - length (rows Y Y)) (pos 0)
    table e = e ∙ ap₂ (λ (s : List ℤ) (k : ℕ). s ++ replicate k (pos 0)) (rows_take l₂ Y X w c inside placed)
        (let a = len in let b = list_length X w c in let d = rows_length Y Y in let q : length l₂ - c * node_words ≡ length l - length (rows Y Y) = omega arith in q)

-- ---- the stages' numbers

numbers_are : (w : List ℕ) (cap : ℕ) (l : List ℤ) (n : ℕ) (Y : List Tree) (R : List ℕ) →
    ((j : ℕ) → j < length R → get_or w (cap + get_or R j 0) 0 ≡ number_of (tree_at l n (get_or R j 0)) Y) → numbers_of w cap R ≡ map (λ t. number_of t Y) (trees_of l n R)
unfolding numbers_of
numbers_are w cap l n Y [] h = refl
numbers_are w cap l n Y (r ∷ R) h = ap₂ (λ (a : ℕ) (b : List ℕ). a ∷ b) (h 0 (omega arith)) (numbers_are w cap l n Y R (λ j q. h (suc j) (omega arith)))

module _ {cap : ℕ} {l : List ℤ} {n : ℕ} (G : TableHeld cap l n) {w : List ℕ} {c : ℕ} {R : List ℕ} (s : List ℕ) (B : Roots R n) (eight : length s ≡ steps_most) (L : RootsListed cap l n w c R) where
  stages : {s' : List ℕ} → s' ≡ numbers_of w cap R ++ replicate (length s - length R) 0 → s' ≡ solved_stages (trees_of l n R)
  unfolding solved_stages table_of
  stages e =
      e ∙ ap₂ (λ (t : List ℕ) (k : ℕ). t ++ replicate k 0)
      (numbers_are w cap l n (list_of (trees l n) w c) R (λ j h. L.state.numbers (get_or R j 0) (B.below j h)) ∙ ap (λ (Z : List Tree). map (λ t. number_of t Z) (trees_of l n R)) L.listed)
      (let a = length-map R (λ r. tree_at l n r) in let q : length s - length R ≡ steps_most - length (trees_of l n R) = omega arith in q)

  pub finished : {l₁ l₃ : List ℤ} {w₀ w₃ s' : List ℕ} → Rewritten l l₁ w cap n → LaidOut l₁ l₃ w w₃ c → s' ≡ numbers_of w cap R ++ replicate (length s - length R) 0 → length w ≡ length w₀ → Finished l l₃ w₀ w₃ s' c (trees_of l n R)
  unfolding table_of solved_nodes
  finished W D es ew = record {
    count = sym (list_length (trees l n) w c) ∙ ap length L.listed;
    nodes = table G L.state W D.arranged D.nodes ∙ ap (λ (Z : List Tree). rows Z Z ++ replicate (length l - length (rows Z Z)) (pos 0)) L.listed;
    stages = stages es;
    work = D.work ∙ ap (λ (k : ℕ). replicate k 0) ew;
  }
