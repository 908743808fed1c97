-- A table of nodes in a list of words.
use Rattle.std.specs.Prelude.{◌≡◌, Bool, true, false, cond, ◌&&◌, ◌||◌, List, [], ◌∷◌, ℕ, zero, suc, ◌+◌, ◌*◌, ltb, ℤ, pos, get_or, set, take, drop}
use Rattle.whole.specs.Linears.{numbers, eq_list}
unfoldable pub use Rattle.whole.specs.Linears.{eq_ℤ}
use Rattle.table.specs.declared.Node.{Node}
use Rattle.std.specs.Prelude.{Result, Ok, Err}
use Rattle.table.specs.declared.Made.{Made}
use Rattle.table.specs.declared.Stop.{Stop}
use Rattle.table.specs.declared.Stop.TheVariants.{Full, Over}
use Rattle.table.specs.declared.Stopped.{Stopped}

-- a node's words: its kind, its numbers, and high and low behind them
abbrev pub node_words : ℕ
node_words = numbers + 3

-- "What the tables hold, N, is the least of .. and 65,535"
abbrev pub nodes_most : ℕ
nodes_most = 65535

abbrev pub high_word : ℕ
high_word = numbers + 1

abbrev pub low_word : ℕ
low_word = numbers + 2

-- the node at index i
unfoldable pub node_at : List ℤ → ℕ → Node
node_at l i = record {
  kind = get_or l (i * node_words) (pos 0);
  n = take numbers (drop (i * node_words + 1) l);
  high = get_or l (i * node_words + high_word) (pos 0);
  low = get_or l (i * node_words + low_word) (pos 0);
}

-- "A leaf "none" has kind 3"
unfoldable pub is_none : ℤ → Bool
is_none k = eq_ℤ k (pos 3)

-- "kind (0 leaf ..)", or the leaf "none": a node of this kind ends a diagram
unfoldable pub is_leaf : ℤ → Bool
is_leaf k = eq_ℤ k (pos 0) || is_none k

-- the words with s stored from index `at` on
unfoldable pub store_list : List ℤ → ℕ → List ℤ → List ℤ
store_list l at [] = l
store_list l at (z ∷ s) = store_list (set l at z) (suc at) s

-- the words with a node stored at index i
unfoldable pub put_at : List ℤ → ℕ → Node → List ℤ
put_at l i x = set (set (store_list (set l (i * node_words) x.kind) (i * node_words + 1) x.n) (i * node_words + high_word) x.high) (i * node_words + low_word) x.low

-- the answer says whether two nodes are equal
pub data SameNode (x y : Node) : Bool → Type 0 where
  same : x ≡ y → SameNode x y true
  other : (x ≡ y → ⊥) → SameNode x y false

unfoldable pub eq_node : Node → Node → Bool
eq_node x y = eq_ℤ x.kind y.kind && (eq_ℤ x.high y.high && (eq_ℤ x.low y.low && eq_list x.n y.n))

-- the first index below n at which p holds, or n
unfoldable pub first_at : (ℕ → Bool) → ℕ → ℕ
first_at p zero = zero
first_at p (suc n) = cond (ltb (first_at p n) n) (first_at p n) (cond (p n) n (suc n))

unfoldable pub first_node : List ℤ → Node → ℕ → ℕ
first_node l x n = first_at (λ i. eq_node (node_at l i) x) n

-- ---- what a look-up, an append or a rule answers

-- 12 where the table is full, 11 where a rule names a number outside its limits
abbrev pub stop_number : Stop → ℕ
stop_number Full = 12
stop_number Over = 11

abbrev pub Answer : Type 0
Answer = Result Made Stopped

-- the node at index i, in a table that then has n nodes
abbrev pub made : ℕ → ℕ → Answer
made i n = Ok (record { at = i; count = n })

-- it stopped, in a table that then has n nodes
abbrev pub halted : Stop → ℕ → Answer
halted w n = Err (record { why = w; count = n })

-- what stopped it, or 0
abbrev pub stop_of : Answer → ℕ
stop_of (Ok m) = 0
stop_of (Err s) = stop_number s.why

-- the index, or 0
abbrev pub at_of : Answer → ℕ
at_of (Ok m) = m.at
at_of (Err s) = 0

-- how many nodes the table then has
abbrev pub count_of : Answer → ℕ
count_of (Ok m) = m.count
count_of (Err s) = s.count

-- what a look-up or append answers, and the words after it, in a table of n nodes with room for cap
unfoldable pub intern_answer : ℕ → List ℤ → ℕ → Node → Answer
intern_answer cap l n x =
    cond (ltb (first_node l x n) n)
    (made (first_node l x n) n)
    (cond (ltb n cap) (made n (n + 1)) (halted Full n))

unfoldable pub intern_words : ℕ → List ℤ → ℕ → Node → List ℤ
intern_words cap l n x = cond (ltb (first_node l x n) n) l (cond (ltb n cap) (put_at l n x) l)
