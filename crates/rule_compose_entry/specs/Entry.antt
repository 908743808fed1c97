-- The words of a substitution's entry in the computed cache, and the number of a node's condition.
use Rattle.std.specs.Prelude.{List, ℕ, ◌+◌, ◌-◌, ◌*◌, ltb, pos, nat_abs, length, get_or}
use Rattle.table_cache.specs.Cache.{slot_of, CacheEntry, store_of}
use Rattle.rule_node.specs.Nodes.{first_of}
use Rattle.rule_compose_entry.specs.declared.Words.{Words}
use Rattle.whole.specs.Cases.{if}
use Rattle.table.specs.Table.{eq_ℤ}
use Rattle.table.specs.declared.Node.{Node}
use Rattle.theory.specs.Widths.{conditions_most}

-- two indexes as one word of the cache
unfoldable pub pair : ℕ → ℕ → ℕ
pair a b = b * 65536 + a

-- the words of the entry for the diagram at f with the levels L, as `indexes` reads them
unfoldable pub entry_words : ℕ → List ℕ → Words
entry_words f L = record {
  op = pair (12 + length L * 16) (get_or L 0 0);
  f = pair f (get_or L 1 0);
  g = pair (get_or L 2 0) (get_or L 3 0);
  p = pair (get_or L 4 0) (get_or L 5 0);
  q = pair (get_or L 6 0) (get_or L 7 0);
}

abbrev pub slot : ℕ → Words → ℕ
slot cap k = slot_of cap k.op k.f k.g k.p k.q

-- the cache holds the index r for the words k
abbrev pub HeldEntry : ℕ → List ℕ → Words → ℕ → Type 0
HeldEntry cap w k r = CacheEntry w (slot cap k) k.op k.f k.g k.p k.q r

-- the work words with it
abbrev pub with_result : ℕ → List ℕ → Words → ℕ → List ℕ
with_result cap w k r = store_of w (slot cap k) k.op k.f k.g k.p k.q r

-- the number of a node's condition, now or next; 0 for a linear test
unfoldable pub condition_in : Node → ℕ
condition_in x = if (eq_ℤ x.kind (pos 1)) (if (ltb conditions_most (nat_abs (first_of x))) (nat_abs (first_of x) - conditions_most) (nat_abs (first_of x))) 0
