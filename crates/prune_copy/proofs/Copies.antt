-- A copy's diagram is its row's with the rest of the path cut off, if that is so of what stands in for the next row.
use mathlib.Core.Path.{◌≡◌, refl, sym, ap, ap₂, ◌∙◌, subst}
use mathlib.Core.Bool.{Bool, true, false, not}
use mathlib.Core.List.{List, [], ◌∷◌}
use Prim.Native.Nat.{ℕ, ◌-◌, ◌≤◌, ◌<◌}
use native.Mathlib.Omega.{arith}
use lib.Dec.{T, eqb, le→leb}
use lib.IntN.{ℤ, pos, negsuc, nat_abs}
use lib.Signed.{non_neg}
use Rattle.whole.specs.Cases.{if}
use Rattle.table.specs.Table.{node_at, is_leaf}
use Rattle.table.specs.declared.Node.{Node}
use Rattle.theory.specs.Diagram.{Test, Tree, branch}
use Rattle.theory.specs.Rows.{Among}
use Rattle.rule_node.specs.Nodes.{linear_held, test_held}
use Rattle.prune_paths.specs.Prune.{high_at, low_at, diagram_at, cut, GoodRows}
use Rattle.prune_rows.specs.Rows.{RowFits, branch_at}
use Rattle.prune_rows.proofs.Rows.{row_at}
use Rattle.prune_copy.specs.Copy.{turned}
use Rattle.prune_copy.proofs.Paths.{OnPath}

-- ---- a node turned

pub turned_kind : (x : Node) (s : Bool) (b : ℕ) → (turned x s b).kind ≡ x.kind
unfolding turned
turned_kind x true b = refl
turned_kind x false b = refl

pub turned_n : (x : Node) (s : Bool) (b : ℕ) → (turned x s b).n ≡ x.n
unfolding turned
turned_n x true b = refl
turned_n x false b = refl

among_of : (m : ℕ) (z : ℤ) → T (non_neg z) → 0 < nat_abs z → nat_abs z ≤ m → Among m z
among_of m (pos k) t a b = (record { le = le→leb 1 k a }, record { le = le→leb k m b })
among_of m (negsuc k) t a b = absurd t

-- its branches lie below row c
pub turned_branches : (x : Node) (i : ℕ) (s : Bool) (b c : ℕ) → RowFits x i → is_leaf x.kind ≡ false → i < c → 1 ≤ b → b < c → Among (c - 1) (turned x s b).high × Among (c - 1) (turned x s b).low
unfolding turned
turned_branches x i true b c f e h a l =
    (among_of (c - 1) (pos b) tt a (omega arith), among_of (c - 1) x.low f.valid.low_nat (f.some e).1 (omega (arith, f.valid.low_below e)))
turned_branches x i false b c f e h a l =
    (among_of (c - 1) x.high f.valid.high_nat (f.some e).0 (omega (arith, f.valid.high_below e)), among_of (c - 1) (pos b) tt a (omega arith))

-- ---- a copy's diagram

cut_on : (t : Test) (h l : Tree) (b : ℕ) {bs : List ℕ} {b₂ : ℕ} {bs₂ : List ℕ} → bs ≡ b₂ ∷ bs₂ → cut (b ∷ bs) (branch t h l) ≡ if (eqb b 1) (branch t (cut bs h) l) (branch t h (cut bs l))
unfolding cut
cut_on t h l b q = subst (λ (bs : List ℕ). cut (b ∷ bs) (branch t h l) ≡ if (eqb b 1) (branch t (cut bs h) l) (branch t h (cut bs l))) (sym q) refl

cut_last : (t : Test) (h l : Tree) (b : ℕ) {bs : List ℕ} → bs ≡ [] → cut (b ∷ bs) (branch t h l) ≡ if (eqb b 1) l h
unfolding cut
cut_last t h l b q = subst (λ (bs : List ℕ). cut (b ∷ bs) (branch t h l) ≡ if (eqb b 1) l h) (sym q) refl

module _ {W W' : List ℤ} {last end : ℕ} (G' : GoodRows W' end) (kept : (i : ℕ) → 1 ≤ i → i ≤ last → diagram_at W' i ≡ diagram_at W i) {r b : ℕ} {bs : List ℕ} (P : OnPath W r b bs) (rl : r ≤ last) where
  abbrev x : Node
  x = node_at W (r - 1)

  abbrev H : Tree
  H = diagram_at W (high_at W r)

  abbrev L : Tree
  L = diagram_at W (low_at W r)

  side_kept : (s : Bool) → diagram_at W' (branch_at W r s) ≡ diagram_at W (branch_at W r s)
  side_kept s = kept (branch_at W r s) (P.side s).0 (omega (arith, (P.side s).1))

  -- row c of W' is row r over another branch
  side_tree : (c d : ℕ) → 1 ≤ c → c ≤ end → (s : Bool) → node_at W' (c - 1) ≡ turned x s d → diagram_at W' d ≡ cut bs (diagram_at W (branch_at W r s)) → diagram_at W' c ≡ if s (branch (test_held x) (cut bs H) L) (branch (test_held x) H (cut bs L))
  unfolding turned test_held linear_held branch_at node_at
  side_tree c d a h s e u = go s e u
    where
      first : (s : Bool) → node_at W' (c - 1) ≡ turned x s d → diagram_at W' c ≡ branch (test_held (turned x s d)) (diagram_at W' (nat_abs (turned x s d).high)) (diagram_at W' (nat_abs (turned x s d).low))
      first s e =
          (row_at G' c a h).goes (ap (λ (y : Node). is_leaf y.kind) e ∙ (ap is_leaf (turned_kind x s d) ∙ P.goes))
          ∙ ap (λ (y : Node). branch (test_held y) (diagram_at W' (nat_abs y.high)) (diagram_at W' (nat_abs y.low))) e

      go : (s : Bool) → node_at W' (c - 1) ≡ turned x s d → diagram_at W' d ≡ cut bs (diagram_at W (branch_at W r s)) → diagram_at W' c ≡ if s (branch (test_held x) (cut bs H) L) (branch (test_held x) H (cut bs L))
      go true e u = first true e ∙ ap₂ (branch (test_held x)) u (side_kept false)
      go false e u = first false e ∙ ap₂ (branch (test_held x)) (side_kept true) u

  pub copy_tree : {b₂ : ℕ} {bs₂ : List ℕ} → bs ≡ b₂ ∷ bs₂ → (c d : ℕ) → 1 ≤ c → c ≤ end → node_at W' (c - 1) ≡ turned x (eqb b 1) d → diagram_at W' d ≡ cut bs (diagram_at W (branch_at W r (eqb b 1))) → diagram_at W' c ≡ cut (b ∷ bs) (diagram_at W r)
  copy_tree q c d a h e u = side_tree c d a h (eqb b 1) e u ∙ (sym (cut_on (test_held x) H L b q) ∙ sym (ap (cut (b ∷ bs)) P.tree))

  other_is : (s : Bool) → diagram_at W (branch_at W r (not s)) ≡ if s L H
  unfolding branch_at
  other_is true = refl
  other_is false = refl

  pub last_tree : bs ≡ [] → diagram_at W' (branch_at W r (not (eqb b 1))) ≡ cut (b ∷ bs) (diagram_at W r)
  last_tree q = side_kept (not (eqb b 1)) ∙ (other_is (eqb b 1) ∙ (sym (cut_last (test_held x) H L b q) ∙ sym (ap (cut (b ∷ bs)) P.tree)))
