-- A table of diagrams with its work words: the unique table's chains and the computed cache; what an operation on it did.
use Rattle.std.specs.Prelude.{◌≡◌, List, ℕ, ◌+◌, ◌*◌, ◌≤◌, ◌<◌, eqb, ℤ, get_or}
use Rattle.whole.specs.Cases.{if}
use Rattle.table_cache.specs.Cache.{CacheEntry}
use Rattle.table.specs.Table.{Answer, stop_of, at_of, count_of, node_at}
use Rattle.table_unique.specs.Unique.{Chained}
use Rattle.theory.specs.Diagram.{Tree}
use Rattle.theory.specs.Computation.{Comp, Out, done, stopped, run}
use Rattle.rule_node.specs.Nodes.{blank, trees, tree_at, Good, Grown}

-- ---- the computed cache

-- the meaning of an entry's five words in the table of n nodes l
abbrev pub EntryRule : Type 0
EntryRule = List ℤ → ℕ → ℕ → ℕ → ℕ → ℕ → ℕ → Comp Tree

-- a result that stands: the rule run again gives it, makes nothing and stops nowhere, in this table and in each that grows from it
pub record ResultStands (rule : EntryRule) (cap : ℕ) (l : List ℤ) (n op f g p q r : ℕ) : Type 0 where
  pub result : r < n
  pub again : (l' : List ℤ) (n' : ℕ) → Grown l n l' n' → run cap (rule l' n' op f g p q) (trees l' n') ≡ done (tree_at l' n' r) (trees l' n')

-- what the words mean reads only nodes that are there: it stays as the table grows
abbrev pub Lasting : EntryRule → List ℤ → ℕ → ℕ → ℕ → ℕ → ℕ → ℕ → Type 0
Lasting rule l n op f g p q = (l' : List ℤ) (n' : ℕ) → Grown l n l' n' → rule l' n' op f g p q ≡ rule l n op f g p q

abbrev pub Cached : EntryRule → ℕ → List ℤ → List ℕ → ℕ → Type 0
Cached rule cap l w n = (j op f g p q r : ℕ) → j < cap → CacheEntry w (cap * 2 + j * 6) op f g p q r → ResultStands rule cap l n op f g p q r

-- ---- a table of n nodes with room for cap

-- without regard to the cache
pub record Bare (cap : ℕ) (l : List ℤ) (w : List ℕ) (n : ℕ) : Type 0 where
  pub good : Good l n
  pub chained : Chained cap l w n

pub record Table (rule : EntryRule) (cap : ℕ) (l : List ℤ) (w : List ℕ) (n : ℕ) : Type 0 where
  pub bare : Bare cap l w n
  pub cached : Cached rule cap l w n

-- ---- what an operation on the table of n nodes did, at the words l', w' and the answer r: the computation m

unfoldable pub out_of : Answer → List Tree → Out Tree
out_of r X = if (eqb (stop_of r) 0) (done (get_or X (at_of r) blank) X) (stopped (stop_of r))

pub record RuleRan (rule : EntryRule) (cap : ℕ) (l : List ℤ) (w : List ℕ) (n : ℕ) (m : Comp Tree) (l' : List ℤ) (w' : List ℕ) (r : Answer) : Type 0 where
  pub ran : out_of r (trees l' (count_of r)) ≡ run cap m (trees l n)
  pub table : Table rule cap l' w' (count_of r)
  pub within : stop_of r ≡ 0 → at_of r < count_of r
  pub more : n ≤ count_of r
  pub kept : (i : ℕ) → i < n → node_at l' i ≡ node_at l i

-- the same of an operation that leaves the cache's words alone, whatever they mean, and all nodes behind those of the table
pub record Grew (cap : ℕ) (l : List ℤ) (w : List ℕ) (n : ℕ) (m : Comp Tree) (l' : List ℤ) (w' : List ℕ) (r : Answer) : Type 0 where
  pub ran : out_of r (trees l' (count_of r)) ≡ run cap m (trees l n)
  pub bare : Bare cap l' w' (count_of r)
  pub within : stop_of r ≡ 0 → at_of r < count_of r
  pub more : n ≤ count_of r
  pub kept : (i : ℕ) → i < n → node_at l' i ≡ node_at l i
  pub rest : (i : ℕ) → count_of r ≤ i → node_at l' i ≡ node_at l i
  pub beyond : (j : ℕ) → cap * 2 ≤ j → get_or w' j 0 ≡ get_or w j 0
