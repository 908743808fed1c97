-- What the code's comparisons say of nodes' words.
use mathlib.Core.Path.{◌≡◌, sym}
use mathlib.Core.Bool.{Bool}
use mathlib.Core.List.{List}
use Prim.Native.Nat.{ℕ, ◌+◌, ◌*◌, ◌<◌, ◌^◌}
use lib.Dec.{T}
use lib.IntN.{ℤ, pos, nat_abs}
use lib.ListN.{get_or}
use lib.Signed.{non_neg, mag}
use Rattle.table.specs.Table.{node_words, high_word, low_word, node_at, is_leaf}
use Rattle.table.proofs.Words.{R}
use Rattle.table.proofs.Tests.{abs_of, nat_back}
use Rattle.table.proofs.Leaf.{leaf_told}
use Rattle.rule_node.specs.declared.Down.{Down}
use Rattle.rule_node.specs.Nodes.{At}
use Rattle.rule_node.specs.Roots.{down_of}
pub use Rattle.whole.proofs.Comparing.{num_lt, num_eq, num_gt}

-- ---- the words of the node at i, as they are read

module _ (l : List ℤ) (i : ℕ) where
  -- its kind and its branches
  abbrev k : ℤ
  k = get_or l (i * node_words) (pos 0)

  abbrev h : ℤ
  h = get_or l (i * node_words + high_word) (pos 0)

  abbrev w : ℤ
  w = get_or l (i * node_words + low_word) (pos 0)

  pub high_read : mag h < 2 ^ 63 → At l i → T (non_neg (R h))
  unfolding node_at
  high_read f a = nat_back h f a.high

  pub low_read : mag w < 2 ^ 63 → At l i → T (non_neg (R w))
  unfolding node_at
  low_read f a = nat_back w f a.low

  pub leaf_read : {b : Bool} → mag k < 2 ^ 63 → b ≡ is_leaf (R k) → is_leaf (node_at l i).kind ≡ b
  unfolding node_at
  leaf_read f e = leaf_told k f e

  pub down_read : {b : Bool} {p q : ℕ} → mag k < 2 ^ 63 → mag h < 2 ^ 63 → mag w < 2 ^ 63 → b ≡ is_leaf (R k) → p ≡ nat_abs (R h) → q ≡ nat_abs (R w)
      → ◌≡◌ {A = Down} (record { ends = b; high = p; low = q }) (down_of (node_at l i))
  unfolding node_at down_of
  down_read fk fh fw ek eh ew = λ z. record { ends = sym (leaf_read fk ek) z; high = abs_of h fh eh z; low = abs_of w fw ew z }
