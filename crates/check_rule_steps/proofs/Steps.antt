-- A step leaves the table right; the table begins empty.
use mathlib.Core.Path.{◌≡◌, sym, subst}
use mathlib.Core.List.{List}
use Prim.Native.Nat.{ℕ, ◌*◌, ◌≤◌, ◌<◌}
use native.Mathlib.Omega.{arith}
use lib.IntN.{ℤ}
use lib.ListN.{length, get_or}
use Rattle.table.specs.declared.Node.{Node}
use Rattle.theory.specs.Computation.{Comp}
use Rattle.theory.specs.Diagram.{Tree}
use Rattle.table_unique.specs.Unique.{work_words, last_of}
use Rattle.rule_node.specs.Nodes.{Proper}
use Rattle.rule_node.specs.Roots.{condition_node}
use Rattle.table.specs.Table.{Answer, count_of, node_words}
use Rattle.rule_node.specs.Table.{Table, Grew}
use Rattle.rule_node.specs.EntryMeaning.{rule_of}
use Rattle.rule_unary_node.specs.Acts.{Acts}
use Rattle.rule_node.proofs.Outcomes.{lifted, fresh}
use Rattle.rule_node.proofs.Meanings.{stood_condition}

pub grew : {cap n : ℕ} {l l₁ : List ℤ} {w w₁ : List ℕ} {m : Comp Tree} {r : Answer} → Table rule_of cap l w n → Grew cap l w n m l₁ w₁ r → Table rule_of cap l₁ w₁ (count_of r)
grew A Q = (lifted A Q).table

-- no nodes yet
pub empty : (cap : ℕ) (l : List ℤ) (w : List ℕ) → 0 < cap → cap ≤ 65535 → cap * node_words ≤ length l → cap * work_words ≤ length w → ((k : ℕ) → k < length w → get_or w k 0 ≡ 0) → Table rule_of cap l w 0
unfolding last_of
empty cap l w some few hl hw z = fresh
    (record {
      good = record { valid = λ i h. absurd (omega arith); distinct = λ i j h. absurd (omega arith) };
      chained = record {
        space = record {
          some = some;
          few = few;
          room = omega arith;
          words = hl;
          works = hw;
        };
        hashed = record { heads = λ b h. z b (omega arith); links = λ i h. absurd (omega arith) };
        apart = λ i j h. absurd (omega arith);
      };
    })
    (λ j h k. z j (omega arith))

-- the test of a condition
pub proper_condition : {x : Node} (k : ℕ) → 0 < k → k ≤ 8 → x ≡ condition_node k → Proper x
proper_condition k a b e = subst Proper (sym e) (stood_condition k a b).proper

-- ---- the numbers of a rule of one diagram

pub scales : {op a b : ℕ} → 3 ≤ op → op < 4 → Acts 3 a b → Acts op a b
scales {op = op} {a = a} {b = b} h k A = subst (λ o. Acts o a b) (let e : 3 ≡ op = omega arith in e) A

pub shifts : {op a b : ℕ} → 4 ≤ op → op < 5 → Acts 4 a b → Acts op a b
shifts {op = op} {a = a} {b = b} h k A = subst (λ o. Acts o a b) (let e : 4 ≡ op = omega arith in e) A
