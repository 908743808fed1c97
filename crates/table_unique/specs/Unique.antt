-- Hash chains over a table's nodes. No outcome depends on them: they say where to look.
use Rattle.std.specs.Prelude.{◌≡◌, ℕ, zero, suc, ◌+◌, ◌*◌, ◌/◌, ◌%◌, ◌^◌, ◌<◌, ◌≤◌, cond, List, [], ◌∷◌, length, ℤ, ◌==◌, slice_index}
use Rattle.std.specs.Int.{w64}
use Rattle.std.proofs.Common.{of_z}
use Rattle.table.specs.Table.{Answer, count_of, node_words, node_at, intern_answer, intern_words, nodes_most}
use Rattle.table.specs.declared.Node.{Node}

-- each of a node's words has a share in its hash, by a factor of its own, below this; none waits for another
abbrev pub factors_end : ℕ
factors_end = 2147483648

unfoldable pub added_of : ℕ → ℤ → ℕ → ℕ
added_of h z k = (h + of_z w64 z * k) % 2 ^ 64

unfoldable pub next_of : ℕ → ℕ
next_of k = k * 69069 % factors_end

-- the shares of the numbers, the first by the factor k, over the sum h
unfoldable pub hash_list : ℕ → ℕ → List ℤ → ℕ
hash_list h k [] = h
hash_list h k (z ∷ l) = hash_list (added_of h z k) (next_of k) l

-- both halves of the sum as a fraction of the room
unfoldable pub bucket_of : ℕ → ℕ → ℕ
bucket_of s cap = (s % 4294967296 + s / 4294967296) % 4294967296 * cap / 4294967296

unfoldable pub hash_of : ℕ → Node → ℕ
hash_of cap x = bucket_of (added_of (added_of (hash_list (added_of 0 x.kind 1640531527) 1367130551 x.n) x.high 2024237689) x.low 1812433253) cap

-- a node's work words: two for the chains, and six for the cache
abbrev pub work_words : ℕ
work_words = 8

-- one more than the last index below n whose bucket is b, or 0
unfoldable pub last_of : (ℕ → ℕ) → ℕ → ℕ → ℕ
last_of h b zero = zero
last_of h b (suc n) = cond (h n == b) (suc n) (last_of h b n)

-- the heads and links are those of the table's first n nodes
pub record Hashed (cap : ℕ) (l : List ℤ) (w : List ℕ) (n : ℕ) : Type 0 where
  pub heads : (b : ℕ) → b < cap → slice_index w b ≡ last_of (λ i. hash_of cap (node_at l i)) b n
  pub links : (i : ℕ) → i < n → slice_index w (cap + i) ≡ last_of (λ i. hash_of cap (node_at l i)) (hash_of cap (node_at l i)) i

-- no two nodes are equal
abbrev pub Apart : List ℤ → ℕ → Type 0
Apart l n = (i j : ℕ) → i < n → j < n → node_at l i ≡ node_at l j → i ≡ j

-- room for cap nodes in the node words and the work words, n of them taken
pub record Space (cap : ℕ) (l : List ℤ) (w : List ℕ) (n : ℕ) : Type 0 where
  pub some : 0 < cap
  pub few : cap ≤ nodes_most
  pub room : n ≤ cap
  pub words : cap * node_words ≤ length l
  pub works : cap * work_words ≤ length w

-- a table of n nodes with room for cap, and its chains
pub record Chained (cap : ℕ) (l : List ℤ) (w : List ℕ) (n : ℕ) : Type 0 where
  pub space : Space cap l w n
  pub hashed : Hashed cap l w n
  pub apart : Apart l n

-- a look-up or append of x answered r and left the nodes l' and the work words w'
pub record NodeEntered (cap : ℕ) (l : List ℤ) (w : List ℕ) (n : ℕ) (x : Node) (l' : List ℤ) (w' : List ℕ) (r : Answer) : Type 0 where
  pub answer : r ≡ intern_answer cap l n x
  pub nodes : l' ≡ intern_words cap l n x
  pub chained : Chained cap l' w' (count_of r)
  pub beyond : (j : ℕ) → cap * 2 ≤ j → slice_index w' j ≡ slice_index w j
  pub nodes_length : length l' ≡ length l
  pub work_length : length w' ≡ length w
