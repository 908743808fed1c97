-- A node over two branches.
use mathlib.Core.Path.{◌≡◌, sym, ap, ◌∙◌, subst}
use mathlib.Core.Bool.{Bool, true, false}
use mathlib.Core.List.{List}
use Prim.Native.Nat.{ℕ, ◌+◌, ◌*◌, ◌^◌, ◌≤◌, ◌<◌}
use native.Mathlib.Omega.{arith}
use lib.IntN.{ℤ, pos}
use lib.ListN.{length}
use lib.Signed.{mag}
use mir.Syntax.{w64}
use mir.Val.{to_z}
use Rattle.whole.specs.Cases.{if}
use Rattle.table.proofs.Words.{R, back}
use Rattle.table.proofs.Leaf.{branch_not}
use Rattle.table.specs.Table.{Answer, made, node_words, node_at, is_leaf}
use Rattle.table.specs.declared.Node.{Node}
use Rattle.theory.specs.Diagram.{Tree, branch, same}
use Rattle.theory.specs.Computation.{ret, make}
use Rattle.theory.specs.Rules.{narrowed, node}
use Rattle.theory.proofs.laws.Comps.{same_refl, same_not}
use Rattle.rule_node.specs.Nodes.{linear_held, test_held, tree_of, trees, tree_at, Valid, Proper, Root, Grown}
use Rattle.rule_node.specs.Table.{Bare, Grew}
use Rattle.rule_node.proofs.Trees.{tree_branch}
use Rattle.rule_node.proofs.Outcomes.{grew_as, grew_ret}

no : {A : Type 0} → true ≡ false → A
no e = absurd (let z : ◌≡◌ {A = ℕ} 0 1 = cc in omega arith)

-- k is what the low branch l is replaced by
module _ (t : Node) (h l k : Tree) (low : k ≡ narrowed (test_held t) l) where
  node_is : node (test_held t) h l ≡ if (same h k) (ret h) (make (branch (test_held t) h k))
  unfolding node
  node_is = ap (λ (k : Tree). if (same h k) (ret h) (make (branch (test_held t) h k))) (sym low)

  node_yes : same h k ≡ true → node (test_held t) h l ≡ ret h
  node_yes e = node_is ∙ ap (λ (b : Bool). if b (ret h) (make (branch (test_held t) h k))) e

  node_no : same h k ≡ false → node (test_held t) h l ≡ make (branch (test_held t) h k)
  node_no e = node_is ∙ ap (λ (b : Bool). if b (ret h) (make (branch (test_held t) h k))) e

-- a node of t over two branches
pub over_node : Node → ℤ → ℤ → Node
over_node t h l = record { kind = t.kind; n = t.n; high = h; low = l }

literal : (t : Node) → mag t.kind < 2 ^ 63 → (h l : ℕ) → h < 65536 → l < 65536 → ◌≡◌ {A = Node} (record { kind = R t.kind; n = t.n; high = to_z w64 h; low = to_z w64 l }) (over_node t (pos h) (pos l))
unfolding over_node
literal t f h l qh ql = λ i. record { kind = back t.kind f i; n = t.n; high = back (pos h) (omega arith) i; low = back (pos l) (omega arith) i }

module _ {cap : ℕ} {s : List ℤ} {w : List ℕ} {n : ℕ} (A : Bare cap s w n) (t : Node) (P : Proper t) (h l k : ℕ) (hh : h < n) (hk : k < n) (low : tree_at s n k ≡ narrowed (test_held t) (tree_at s n l)) where
  -- the branches are one
  pub join_same : h ≡ k → Grew cap s w n (node (test_held t) (tree_at s n h) (tree_at s n l)) s w (made h n)
  join_same e = grew_as (sym (node_yes t (tree_at s n h) (tree_at s n l) (tree_at s n k) low (ap (λ (j : ℕ). same (tree_at s n h) (tree_at s n j)) (sym e) ∙ same_refl (tree_at s n h)))) (grew_ret A h hh)

  valid_over : Valid (over_node t (pos h) (pos k)) n
  unfolding over_node
  valid_over = record {
    nums = P.nums;
    high_nat = tt;
    low_nat = tt;
    none = λ e. branch_not t.kind P.branches e;
    leaf_low = λ e. no
        (sym e ∙ P.branches);
    tested = λ e. record {
      kind = P.tested.kind;
      long = P.tested.long;
      number = P.tested.number;
      bounds = P.tested.bounds;
      rest =
          P.tested.rest;
    };
    high_below = λ e. hh;
    low_below = λ e. hk;
  }

  module _ (f : mag t.kind < 2 ^ 63) (e : h ≡ k → ⊥) where
    abbrev x' : Node
    x' = record { kind = R t.kind; n = t.n; high = to_z w64 h; low = to_z w64 k }

    is : x' ≡ over_node t (pos h) (pos k)
    is = literal t f h k (let q = A.chained.space.room in let r = A.chained.space.few in omega arith) (let q = A.chained.space.room in let r = A.chained.space.few in omega arith)

    pub join_valid : Valid x' n
    join_valid = subst (λ (z : Node). Valid z n) (sym is) valid_over

    tree_is : tree_of (over_node t (pos h) (pos k)) (trees s n) ≡ branch (test_held t) (tree_at s n h) (tree_at s n k)
    unfolding over_node test_held linear_held
    tree_is = tree_branch (over_node t (pos h) (pos k)) (trees s n) P.branches

    -- they are two
    pub join_made : {s' : List ℤ} {w' : List ℕ} {r : Answer} → Grew cap s w n (make (tree_of x' (trees s n))) s' w' r → Grew cap s w n (node (test_held t) (tree_at s n h) (tree_at s n l)) s' w' r
    join_made R =
        grew_as (ap (λ (z : Node). make (tree_of z (trees s n))) is ∙ (ap make tree_is ∙ sym (node_no t (tree_at s n h) (tree_at s n l) (tree_at s n k) low (same_not (tree_at s n h) (tree_at s n k) (λ q. e (A.good.distinct h k hh hk q)))))) R

-- a test that is read back from the table can be put over branches
pub proper_as : {cap : ℕ} {l : List ℤ} {w : List ℕ} {n t : ℕ} {x : Node} → Bare cap l w n → Root l n t → x ≡ node_at l t → Proper x
proper_as {l = l} {t = t} A q e = subst Proper (sym e) (record { branches = q.branches; nums = (A.good.valid t q.below).nums; tested = (A.good.valid t q.below).tested q.branches })

pub words_of : {cap : ℕ} {l : List ℤ} {w : List ℕ} {n : ℕ} → Bare cap l w n → n * node_words ≤ length l
words_of A = let q = A.chained.space.room in let r = A.chained.space.words in omega arith

pub word_at : {cap : ℕ} {l : List ℤ} {w : List ℕ} {n : ℕ} (t : ℕ) → Bare cap l w n → t < n → t * node_words + node_words ≤ length l
word_at t A h = let q = A.chained.space.room in let r = A.chained.space.words in omega arith

-- a root stays one as the table grows
pub root_kept : {l l' : List ℤ} {n n' t : ℕ} → Grown l n l' n' → Root l n t → Root l' n' t
root_kept {t = t} G r = let p = G.more in let q = r.below in record { below = omega arith; branches = ap (λ (x : Node). is_leaf x.kind) (G.kept t r.below) ∙ r.branches }
