-- The words of a solved table: each node's row is found under its number, and what stands in it is what the node is.
use Rattle.std.specs.Prelude.{◌≡◌, Bool, true, false, ◌&&◌, ℕ, zero, suc, ◌+◌, ◌-◌, ◌*◌, ◌≤◌, ◌<◌, eqb, leb, pos, negsuc, length, get_or, drop}
use Rattle.std.proofs.Math.Path.{refl}
use Rattle.std.proofs.Common.{sym, ap, ap₂, ◌∙◌, subst, arith, le→leb, length-append, length-drop, get_or-drop, drop-drop, get_or-append-add}
use mathlib.Core.List.{List, [], ◌∷◌, ◌++◌, append_assoc}
use Rattle.std.proofs.Math.Dec.{T}
use Rattle.std.proofs.Math.IntN.{ℤ}
use Rattle.std.proofs.Math.ListN.{take, get_or-append}
use Rattle.std.proofs.lemmas.List.{drop-append-le, take-append-le}
use Rattle.std.proofs.Math.Seq.{drop-append-add, take-length}
use Rattle.whole.specs.Cases.{if, both, and_in}
use Rattle.theory.specs.Widths.{levels_most, node_words}
use Rattle.theory.specs.Diagram.{Linear, Test, now, later, linear, Leaf, some, forbidden, lin_of, act_of, no_coeffs, Tree, leaf, branch, zeros, padded}
use Rattle.theory.specs.Computation.{member}
use Rattle.theory.specs.Rules.{zero_leaf, none_leaf}
use Rattle.theory.specs.Valid.{all_nodes, among, small_linear, wide, good_test, stage_leaf}
use Rattle.theory.specs.Solve.{number_of, test_words, leaf_kind, row, rows}
use Rattle.theory.specs.Value.{node_word, node_linear, high_of, low_of, among_ℤ, good_branches, good_leaf_row, good_condition_row, good_test_row, good_none_row, good_row}
use Rattle.theory.proofs.laws.Nodes.{parts}
use Rattle.theory.proofs.laws.Valid.{among_in, wide_long, wide_small, zero_wide}
use Rattle.theory.proofs.laws.Table.{number_below, number_above, number_entry, TreeTable}

-- all the nodes of a stage are such, with n conditions and A actions
abbrev pub StageGood : ℕ → ℕ → Tree → Type 0
StageGood n A F = T (all_nodes (good_test n false) (stage_leaf A) F)

-- ---- rows

pub length_padded : (k : ℕ) (l : List ℤ) → length (padded k l) ≡ k
unfolding padded
length_padded zero l = refl
length_padded (suc k) [] = ap suc (length_padded k [])
length_padded (suc k) (z ∷ l) = ap suc (length_padded k l)

pub padded_full : (k : ℕ) (l : List ℤ) → length l ≡ k → padded k l ≡ l
unfolding padded
padded_full zero [] e = refl
padded_full zero (z ∷ l) e = absurd (omega arith)
padded_full (suc k) [] e = absurd (omega arith)
padded_full (suc k) (z ∷ l) e = ap (λ (r : List ℤ). z ∷ r) (padded_full k l (omega arith))

-- a linear as it stands in a node
abbrev as_words : Linear → Linear
as_words p = record { coeffs = padded levels_most p.coeffs; const = p.const }

wide_as : (p : Linear) → T (wide p) → as_words p ≡ p
wide_as p t = λ i. record { coeffs = padded_full levels_most p.coeffs (wide_long p t) i; const = p.const }

pub test_length : (t : Test) → length (test_words t) ≡ levels_most + 2
unfolding test_words padded
test_length (now k) = refl
test_length (later k) = refl
test_length (linear p) = simp (length-append, length_padded)

-- "A node is twelve 64-bit words"
pub row_length : (X : List Tree) (t : Tree) → length (row X t) ≡ node_words
unfolding row
row_length X (leaf f) = simp (length-append, length_padded)
row_length X (branch t h l) = simp (length-append, test_length)

pub rows_length : (X L : List Tree) → length (rows X L) ≡ length L * node_words
unfolding rows
rows_length X [] = refl
rows_length X (t ∷ L) = length-append (row X t) (rows X L) ∙ omega (arith, row_length X t, rows_length X L)

-- these words are node r's
pub record HasWords (W : List ℤ) (r : ℕ) (w : List ℤ) : Type 0 where
  pub rest : List ℤ
  pub is : drop ((r - 1) * node_words) W ≡ w ++ rest

rows_at : (d : Tree) (X L : List Tree) (tail : List ℤ) (i : ℕ) → i < length L → (R : List ℤ) × (drop (i * node_words) (rows X L ++ tail) ≡ row X (get_or L i d) ++ R)
unfolding rows
rows_at d X [] tail i h = absurd (omega arith)
rows_at d X (t ∷ L) tail zero h = (rows X L ++ tail, append_assoc (row X t) (rows X L) tail)
rows_at d X (t ∷ L) tail (suc i) h =
    let n : suc i * node_words ≡ length (row X t) + i * node_words = omega (arith, row_length X t) in
    let p = rows_at d X L tail i (omega arith) in
    (p.0, ap₂ drop n (append_assoc (row X t) (rows X L) tail) ∙ (drop-append-add (row X t) (rows X L ++ tail) (i * node_words) ∙ p.1))

-- ---- what stands in a row

module _ (W : List ℤ) (r : ℕ) (w : List ℤ) (a : HasWords W r w) where
  pub has_word : (i : ℕ) → i < length w → node_word W r i ≡ get_or w i (pos 0)
  has_word i h = sym (get_or-drop ((r - 1) * node_words) W i (pos 0)) ∙ (ap (λ (l : List ℤ). get_or l i (pos 0)) a.is ∙ get_or-append w a.rest (pos 0) i h)

  has_part : (i k : ℕ) → i ≤ length w → k ≤ length (drop i w) → take k (drop ((r - 1) * node_words + i) W) ≡ take k (drop i w)
  has_part i k h n =
      ap (take k) (sym (drop-drop i ((r - 1) * node_words) W) ∙ (ap (drop i) a.is ∙ drop-append-le i w a.rest h))
      ∙ take-append-le k (drop i w) a.rest n

-- kind, linear, high and low of node r
pub record Shows (W : List ℤ) (r : ℕ) (k : ℤ) (p : Linear) (h l : ℤ) : Type 0 where
  pub kind : node_word W r 0 ≡ k
  pub numbers : node_linear W r ≡ p
  pub high : high_of W r ≡ h
  pub low : low_of W r ≡ l

-- a row: kind, coefficients, constant, high, low
abbrev row_words : ℤ → List ℤ → ℤ → ℤ → ℤ → List ℤ
row_words k cs c h l = k ∷ ((cs ++ (c ∷ [])) ++ (h ∷ l ∷ []))

module _ (k c h l : ℤ) (cs : List ℤ) where
  row_behind : row_words k cs c h l ≡ (k ∷ cs) ++ (c ∷ h ∷ l ∷ [])
  row_behind = ap (λ (r : List ℤ). k ∷ r) (append_assoc cs (c ∷ []) (h ∷ l ∷ []))

  -- the constant, high and low stand behind the coefficients
  behind_coeffs : (j : ℕ) → get_or (row_words k cs c h l) (suc (length cs) + j) (pos 0) ≡ get_or (c ∷ h ∷ l ∷ []) j (pos 0)
  behind_coeffs j = ap (λ (r : List ℤ). get_or r (suc (length cs) + j) (pos 0)) row_behind ∙ get_or-append-add (k ∷ cs) (c ∷ h ∷ l ∷ []) j (pos 0)

  row_size : length (row_words k cs c h l) ≡ length cs + 4
  row_size = ap length row_behind ∙ length-append (k ∷ cs) (c ∷ h ∷ l ∷ []) ∙ omega arith

  row_coeffs : take (length cs) (drop 1 (row_words k cs c h l)) ≡ cs
  row_coeffs = ap (take (length cs)) (append_assoc cs (c ∷ []) (h ∷ l ∷ [])) ∙ take-append-le (length cs) cs (c ∷ h ∷ l ∷ []) (omega arith) ∙ take-length cs

shows : (W : List ℤ) (r : ℕ) (k c h l : ℤ) (cs : List ℤ) → length cs ≡ levels_most → HasWords W r (row_words k cs c h l) → Shows W r k (record { coeffs = cs; const = c }) h l
unfolding node_linear
shows W r k c h l cs e a =
    let w : List ℤ = row_words k cs c h l in
    let size = row_size k c h l cs in
    let word : (j : ℕ) → j < 3 → node_word W r (levels_most + 1 + j) ≡ get_or (c ∷ h ∷ l ∷ []) j (pos 0) =
    λ j b. has_word W r w a (levels_most + 1 + j) (omega (arith, size)) ∙ (ap (λ (n : ℕ). get_or w (suc n + j) (pos 0)) (sym e) ∙ behind_coeffs k c h l cs j) in
    let part : take levels_most (drop ((r - 1) * node_words + 1) W) ≡ cs =
    has_part W r w a 1 levels_most (omega (arith, size)) (omega (arith, size, length-drop 1 w)) ∙ (ap (λ (n : ℕ). take n (drop 1 w)) (sym e) ∙ row_coeffs k c h l cs) in
    record {
      kind = has_word W r w a 0 (omega (arith, size));
      numbers = λ i. record { coeffs = part i; const = word 0 (omega arith) i };
      high = word 1 (omega arith);
      low = word 2 (omega arith);
    }

among_amongZ : (n k : ℕ) → T (among n k) → T (among_ℤ n (pos k))
unfolding among_ℤ among
among_amongZ n k t = t

among_ℤ_in : (n k : ℕ) → 1 ≤ k → k ≤ n → T (among_ℤ n (pos k))
among_ℤ_in n k h l = among_amongZ n k (among_in n k h l)

-- what good_row asks of a node by its kind
abbrev pub by_kind : ℕ → ℕ → List ℤ → ℕ → ℤ → Bool
by_kind n A W r z = elim z [
  | pos k ↦ if (eqb k 0) (good_leaf_row A W r) (if (eqb k 1) (good_condition_row n W r) (if (eqb k 2) (good_test_row W r) (if (eqb k 3) (good_none_row W r) false)))
  | negsuc k ↦ false
]

-- the rows of a table, and words behind them
module _ (X : List Tree) (tail : List ℤ) where
  abbrev pub laid : List ℤ
  laid = rows X X ++ tail

  -- node number_of t X has the words of t
  pub node_has : (t : Tree) → member t X ≡ true → HasWords laid (number_of t X) (row X t)
  node_has t m =
      let p = rows_at zero_leaf X X tail (number_of t X - 1) (omega (arith, number_above t X m, number_below t X)) in
      record { rest = p.0; is = p.1 ∙ ap (λ (u : Tree). row X u ++ p.0) (number_entry zero_leaf t X m) }

  pub node_words_are : (t : Tree) → member t X ≡ true → (i : ℕ) → i < node_words → node_word laid (number_of t X) i ≡ get_or (row X t) i (pos 0)
  node_words_are t m i h = has_word laid (number_of t X) (row X t) (node_has t m) i (omega (arith, row_length X t))

  -- the table's rows lie within the words
  pub node_inside : (t : Tree) → number_of t X * node_words ≤ length laid
  node_inside t = rw (length-append (rows X X) tail, rows_length X X) (omega (arith, number_below t X))

  pub leaf_shows : (f : Leaf) → member (leaf f) X ≡ true → T (wide (lin_of f)) → Shows laid (number_of (leaf f) X) (leaf_kind f) (lin_of f) (pos (act_of f)) (pos 0)
  unfolding row
  leaf_shows f m g = rw (wide_as (lin_of f) g) at
      (shows laid (number_of (leaf f) X) (leaf_kind f) (lin_of f).const (pos (act_of f)) (pos 0) (padded levels_most (lin_of f).coeffs) (length_padded levels_most (lin_of f).coeffs) (node_has (leaf f) m))

  abbrev number_in : Tree → ℤ
  number_in t = pos (number_of t X)

  pub condition_shows : (k : ℕ) (h l : Tree) → member (branch (now k) h l) X ≡ true
      → Shows laid (number_of (branch (now k) h l) X) (pos 1) (record { coeffs = padded levels_most (pos k ∷ []); const = pos 0 }) (number_in h) (number_in l)
  unfolding row test_words padded
  condition_shows k h l m =
      shows laid (number_of (branch (now k) h l) X) (pos 1) (pos 0) (number_in h) (number_in l) (padded levels_most (pos k ∷ [])) refl (node_has (branch (now k) h l) m)

  pub test_shows : (p : Linear) (h l : Tree) → member (branch (linear p) h l) X ≡ true → T (wide p) → Shows laid (number_of (branch (linear p) h l) X) (pos 2) p (number_in h) (number_in l)
  unfolding row test_words
  test_shows p h l m g = rw (wide_as p g) at
      (shows laid (number_of (branch (linear p) h l) X) (pos 2) p.const (number_in h) (number_in l) (padded levels_most p.coeffs) (length_padded levels_most p.coeffs)
      (node_has (branch (linear p) h l) m))

  -- ---- 14 does not apply to them

  module _ (x : TreeTable X) (n A : ℕ) where
    branches_good : (t : Test) (h l : Tree) (k : ℤ) (p : Linear) → member (branch t h l) X ≡ true → Shows laid (number_of (branch t h l) X) k p (number_in h) (number_in l)
        → T (good_branches laid (number_of (branch t h l) X))
    unfolding good_branches
    branches_good t h l k p m s =
        let b = x.closed t h l m in
        let r = number_of (branch t h l) X in
        and_in (among_ℤ (r - 1) (high_of laid r)) (among_ℤ (r - 1) (low_of laid r))
        (subst (λ (z : ℤ). T (among_ℤ (r - 1) z)) (sym s.high) (among_ℤ_in (r - 1) (number_of h X) (number_above h X b.high_in) (omega arith)))
        (subst (λ (z : ℤ). T (among_ℤ (r - 1) z)) (sym s.low) (among_ℤ_in (r - 1) (number_of l X) (number_above l X b.low_in) (omega arith)))

    kind_good : (t : Tree) (k : ℤ) → node_word laid (number_of t X) 0 ≡ k → T (by_kind n A laid (number_of t X) k) → T (good_row n A laid (number_of t X))
    unfolding good_row
    kind_good t k e g =
        and_in (leb (number_of t X * node_words) (length laid)) (by_kind n A laid (number_of t X) (node_word laid (number_of t X) 0))
        (le→leb _ _ (node_inside t)) (subst (λ (z : ℤ). T (by_kind n A laid (number_of t X) z)) (sym e) g)

    small_shows : (r : ℕ) (k h l : ℤ) (p : Linear) → Shows laid r k p h l → T (wide p) → T (small_linear (node_linear laid r))
    small_shows r k h l p s g = rw s.numbers (wide_small p g)

    leaf_good : (f : Leaf) → member (leaf f) X ≡ true → T (stage_leaf A f) → T (good_row n A laid (number_of (leaf f) X))
    unfolding stage_leaf good_leaf_row good_none_row zeros leaf_kind lin_of act_of row padded no_coeffs
    leaf_good forbidden m g = kind_good none_leaf (pos 3) (leaf_shows forbidden m zero_wide).kind
        (subst (λ (z : List ℤ). T (zeros z)) (sym (has_part laid (number_of none_leaf X) (row X none_leaf) (node_has none_leaf m) 1 (node_words - 1) (omega arith) (omega arith))) tt)
    leaf_good (some p a) m g =
        let f = some p a in
        let d = both (wide p) (among A a) g in
        let s = leaf_shows f m d.0 in
        let r = number_of (leaf f) X in
        kind_good (leaf f) (pos 0) s.kind (and_in (small_linear (node_linear laid r)) (among_ℤ A (high_of laid r) && zeros (low_of laid r ∷ []))
        (small_shows r _ _ _ p s d.0)
        (and_in (among_ℤ A (high_of laid r)) (zeros (low_of laid r ∷ []))
        (subst (λ (z : ℤ). T (among_ℤ A z)) (sym s.high) (among_amongZ A a d.1))
        (subst (λ (z : ℤ). T (zeros (z ∷ []))) (sym s.low) tt)))

    condition_good : (k : ℕ) (h l : Tree) → member (branch (now k) h l) X ≡ true → T (among n k) → T (good_row n A laid (number_of (branch (now k) h l) X))
    unfolding good_condition_row zeros row test_words padded
    condition_good k h l m g =
        let s = condition_shows k h l m in
        let t = branch (now k) h l in
        let r = number_of t X in
        let zs : List ℤ = take levels_most (drop ((r - 1) * node_words + 2) laid) in
        kind_good t (pos 1) s.kind (and_in (among_ℤ n (node_word laid r 1)) (zeros zs && good_branches laid r)
        (subst (λ (z : ℤ). T (among_ℤ n z)) (sym (node_words_are t m 1 (omega arith))) (among_amongZ n k g))
        (and_in (zeros zs) (good_branches laid r)
        (subst (λ (z : List ℤ). T (zeros z)) (sym (has_part laid r (row X t) (node_has t m) 2 levels_most (omega arith) (omega arith))) tt)
        (branches_good (now k) h l _ _ m s)))

    test_good : (p : Linear) (h l : Tree) → member (branch (linear p) h l) X ≡ true → T (wide p) → T (good_row n A laid (number_of (branch (linear p) h l) X))
    unfolding good_test_row
    test_good p h l m g =
        let s = test_shows p h l m g in
        let r = number_of (branch (linear p) h l) X in
        kind_good (branch (linear p) h l) (pos 2) s.kind (and_in (small_linear (node_linear laid r)) (good_branches laid r)
        (small_shows r _ _ _ p s g) (branches_good (linear p) h l _ _ m s))

    pub node_good : (t : Tree) → member t X ≡ true → StageGood n A t → T (good_row n A laid (number_of t X))
    unfolding all_nodes good_test
    node_good (leaf f) m g = leaf_good f m g
    node_good (branch (now k) h l) m g = condition_good k h l m (parts (good_test n false) (stage_leaf A) (now k) h l g).0
    node_good (branch (later k) h l) m g = absurd (parts (good_test n false) (stage_leaf A) (later k) h l g).0
    node_good (branch (linear p) h l) m g = test_good p h l m (parts (good_test n false) (stage_leaf A) (linear p) h l g).0
