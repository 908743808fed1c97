-- A table's words: the words of a node with its branches renumbered are the theory's row of its tree.
use mathlib.Core.Path.{◌≡◌, refl, sym, ap, ap₂, ◌∙◌}
use mathlib.Core.Bool.{Bool, true, false}
use mathlib.Core.List.{List, [], ◌∷◌, ◌++◌, append_assoc, append-nil}
use Prim.Native.Nat.{ℕ, zero, suc, ◌+◌, ◌-◌, ◌*◌, ◌≤◌, ◌<◌}
use native.Mathlib.Nat.{suc_inj}
use native.Mathlib.Omega.{arith}
use borrow.Author.Tests.{ltb-true}
use lib.Dec.{ltb}
use lib.IntN.{ℤ, pos, nat_abs}
use lib.Signed.{pos-nat_abs}
use lib.ListN.{length, get_or, take, drop, replicate}
use lib.Seq.{take-add, drop-cons, drop-drop, length-take-le}
use Rattle.whole.specs.Cases.{if}
use Rattle.whole.specs.Linears.{numbers}
use Rattle.table.proofs.Look.{eq_ℤ_true}
use Rattle.table.proofs.Leaf.{some_kind}
use Rattle.table.specs.Table.{high_word, low_word, node_at, eq_ℤ, is_leaf, is_none}
use Rattle.table.specs.declared.Node.{Node}
use Rattle.theory.specs.Widths.{levels_most, conditions_most, node_words}
use Rattle.theory.specs.Diagram.{now, later, linear, Leaf, some, forbidden, lin_of, act_of, no_coeffs, Tree, leaf, branch, padded}
use Rattle.theory.specs.Solve.{number_of, linear_words, test_words, leaf_kind, row, rows}
use Rattle.rule_node.specs.Nodes.{linear_held, none_node, leaf_of, first_of, condition_of, test_held, blank, Tested, Valid}
use Rattle.rule_node.proofs.Trees.{split_last, same_firsts, leaf_none, leaf_some}
use Rattle.rule_node.proofs.Meanings.{zeros_behind}
use Rattle.finish_number.specs.Number.{list_of}

-- ---- a node's words and its row

unfoldable pub words_of : Node → List ℤ
words_of x = x.kind ∷ (x.n ++ (x.high ∷ x.low ∷ []))

-- the same node over other branches
abbrev pub over : Node → ℤ → ℤ → Node
over x h l = record { kind = x.kind; n = x.n; high = h; low = l }

padded_all : (m : ℕ) (l : List ℤ) → length l ≡ m → padded m l ≡ l
unfolding padded
padded_all zero [] e = refl
padded_all zero (z ∷ l) e = absurd (omega arith)
padded_all (suc m) [] e = absurd (omega arith)
padded_all (suc m) (z ∷ l) e = ap (λ (r : List ℤ). z ∷ r) (padded_all m l (suc_inj e))

-- a linear's words are its numbers
linear_word : (x : Node) → length x.n ≡ numbers → linear_words (linear_held x) ≡ x.n
unfolding linear_held
linear_word x e =
    ap (λ (t : List ℤ). t ++ (get_or x.n levels_most (pos 0) ∷ [])) (padded_all levels_most (take levels_most x.n) (length-take-le levels_most x.n (omega arith)))
    ∙ split_last levels_most x.n e

some_row : (Y : List Tree) (x : Node) (n : ℕ) → Valid x n → x.kind ≡ pos 0 → x.low ≡ pos 0 → words_of x ≡ row Y (leaf (some (linear_held x) (nat_abs x.high)))
unfolding words_of row leaf_kind lin_of act_of
some_row Y x n v k l =
    let a = sym (linear_word x v.nums.long) in
    let h = sym (pos-nat_abs x.high v.high_nat) in
    λ t. k t ∷ (a t ++ (h t ∷ l t ∷ []))

none_row : (Y : List Tree) → words_of none_node ≡ row Y (leaf forbidden)
unfolding words_of row leaf_kind lin_of act_of padded no_coeffs
none_row Y = refl

pub row_leaf : (Y : List Tree) (x : Node) (n : ℕ) → Valid x n → is_leaf x.kind ≡ true → words_of x ≡ row Y (leaf (leaf_of x))
row_leaf Y x n v e = go (is_none x.kind) refl
  where
    go : (b : Bool) → is_none x.kind ≡ b → words_of x ≡ row Y (leaf (leaf_of x))
    go true d = ap words_of (v.none d) ∙ (none_row Y ∙ ap (λ (f : Leaf). row Y (leaf f)) (sym (leaf_none x d)))
    go false d = some_row Y x n v (some_kind x.kind e d) (v.leaf_low e) ∙ ap (λ (f : Leaf). row Y (leaf f)) (sym (leaf_some x d))

-- a condition's number is the word that it came from
condition_word : (k : ℕ) → 0 < k → test_words (condition_of k) ≡ pos 1 ∷ pos k ∷ replicate levels_most (pos 0)
unfolding condition_of test_words padded
condition_word k q = go (ltb conditions_most k) refl
  where
    go : (b : Bool) → ltb conditions_most k ≡ b → test_words (if b (later (k - conditions_most)) (now k)) ≡ pos 1 ∷ pos k ∷ replicate levels_most (pos 0)
    go true e = ap (λ (m : ℕ). pos 1 ∷ pos m ∷ replicate levels_most (pos 0)) (let h = ltb-true conditions_most k e in let r : conditions_most + (k - conditions_most) ≡ k = omega arith in r)
    go false e = refl

test_word : (x : Node) → Tested x → test_words (test_held x) ≡ x.kind ∷ x.n
unfolding test_held test_words
test_word x v = go (eq_ℤ x.kind (pos 1)) refl
  where
    go : (b : Bool) → eq_ℤ x.kind (pos 1) ≡ b → test_words (if b (condition_of (nat_abs (first_of x))) (linear (linear_held x))) ≡ x.kind ∷ x.n
    go true e =
        let k = sym (eq_ℤ_true x.kind (pos 1) e) in
        let a : pos (nat_abs (first_of x)) ∷ replicate levels_most (pos 0) ≡ x.n = same_firsts (pos (nat_abs (first_of x)) ∷ replicate levels_most (pos 0)) x.n
        (sym v.long) (pos-nat_abs (first_of x) (v.number e)) (zeros_behind (pos (nat_abs (first_of x)))) (v.rest e) in
        condition_word (nat_abs (first_of x)) (v.bounds e).0 ∙ (λ t. k t ∷ a t)
    go false e = let k = sym (v.kind e) in λ t. k t ∷ linear_word x v.long t

pub row_branch : (Y : List Tree) (x : Node) (h l : Tree) → Tested x → words_of (over x (pos (number_of h Y)) (pos (number_of l Y))) ≡ row Y (branch (test_held x) h l)
unfolding words_of row
row_branch Y x h l v = sym (ap (λ (t : List ℤ). t ++ (pos (number_of h Y) ∷ pos (number_of l Y) ∷ [])) (test_word x v))

-- ---- a node's words, one after another

next : (l : List ℤ) (a b n : ℕ) → a < length l → b ≡ suc a → take (suc n) (drop a l) ≡ get_or l a (pos 0) ∷ take n (drop b l)
next l a b n h e = ap (take (suc n)) (drop-cons l a (pos 0) h) ∙ ap (λ (k : ℕ). get_or l a (pos 0) ∷ take n (drop k l)) (sym e)

all_words : (l : List ℤ) (a : ℕ) → a + node_words ≤ length l → take node_words (drop a l) ≡ get_or l a (pos 0) ∷ (take numbers (drop (a + 1) l) ++ (get_or l (a + high_word) (pos 0) ∷ get_or l (a + low_word) (pos 0) ∷ []))
all_words l a h =
    next l a (a + 1) (numbers + 2) (omega arith) (omega arith)
    ∙ ap (λ (t : List ℤ). get_or l a (pos 0) ∷ t)
    (take-add numbers 2 (drop (a + 1) l)
    ∙ ap (λ (t : List ℤ). take numbers (drop (a + 1) l) ++ t)
    (ap (take 2) (drop-drop numbers (a + 1) l ∙ ap (λ (k : ℕ). drop k l) (let e : a + 1 + numbers ≡ a + high_word = omega arith in e))
    ∙ (next l (a + high_word) (a + low_word) 1 (omega arith) (omega arith)
    ∙ ap (λ (t : List ℤ). get_or l (a + high_word) (pos 0) ∷ t) (next l (a + low_word) (a + node_words) 0 (omega arith) (omega arith)))))

take_words : (l : List ℤ) (k : ℕ) → k * node_words + node_words ≤ length l → take (k * node_words + node_words) l ≡ take (k * node_words) l ++ words_of (node_at l k)
unfolding words_of node_at
take_words l k h = take-add (k * node_words) node_words l ∙ ap (λ (t : List ℤ). take (k * node_words) l ++ t) (all_words l (k * node_words) h)

-- ---- rows one after another

rows_more : (Y L : List Tree) (t : Tree) → rows Y (L ++ (t ∷ [])) ≡ rows Y L ++ row Y t
unfolding rows
rows_more Y [] t = append-nil (row Y t)
rows_more Y (x ∷ L) t = ap (λ (r : List ℤ). row Y x ++ r) (rows_more Y L t) ∙ sym (append_assoc (row Y x) (rows Y L) (row Y t))

pub rows_take : (l : List ℤ) (Y X : List Tree) (w : List ℕ) (k : ℕ) → k * node_words ≤ length l → ((m : ℕ) → m < k → words_of (node_at l m) ≡ row Y (get_or X (get_or w m 0) blank)) → take (k * node_words) l ≡ rows Y (list_of X w k)
unfolding rows list_of
rows_take l Y X w zero h e = refl
rows_take l Y X w (suc k) h e =
    ap (λ (z : ℕ). take z l) (let q : suc k * node_words ≡ k * node_words + node_words = omega arith in q)
    ∙ (take_words l k (omega arith)
    ∙ (ap₂ (λ (s t : List ℤ). s ++ t) (rows_take l Y X w k (omega arith) (λ m q. e m (omega arith))) (e k (omega arith))
    ∙ sym (rows_more Y (list_of X w k) (get_or X (get_or w k 0) blank))))
