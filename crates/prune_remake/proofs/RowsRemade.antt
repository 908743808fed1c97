-- Row after row: the table under construction and where each row has gone.
use mathlib.Core.Path.{◌≡◌, refl, sym, ap, ◌∙◌, subst}
use mathlib.Core.Bool.{Bool, true, false}
use mathlib.Core.Logic.{⊎_elim}
use mathlib.Core.List.{List}
use Prim.Native.Nat.{ℕ, suc, ◌+◌, ◌-◌, ◌*◌, ◌≤◌, ◌<◌}
use native.Mathlib.Omega.{arith}
use lib.IntN.{ℤ, nat_abs}
use lib.ListN.{length, set, length-set}
use lib.Seq.{get_or-set_same, get_or-set_other}
use Rattle.table.specs.Table.{Answer, at_of, count_of, node_words, node_at, is_leaf}
use Rattle.table.specs.declared.Node.{Node}
use Rattle.table.proofs.Look.{split}
use Rattle.table_unique.specs.Unique.{work_words, last_of}
use Rattle.theory.specs.Diagram.{Leaf, leaf}
use Rattle.theory.specs.Computation.{make, result}
use Rattle.theory.specs.Rules.{node}
use Rattle.rule_node.specs.Nodes.{leaf_of, test_held, tree_at}
use Rattle.rule_node.specs.Table.{Bare, Grew}
use Rattle.rule_node.proofs.Trees.{trees_length, trees_kept}
use Rattle.table_clear.specs.Wipe.{wiped}
use Rattle.table_clear.proofs.Parts.{same_length, within}
use Rattle.prune_paths.specs.Prune.{diagram_at, GoodRows}
use Rattle.prune_paths.proofs.laws.Fits.{anew, anew_branch, anew_leaf}
use Rattle.prune_rows.specs.Rows.{RowFits}
use Rattle.prune_remake.specs.Remade.{forward, branch_anew, row_anew, Remade}
use Rattle.prune_rows.proofs.Rows.{Row, row_of}
use Rattle.prune_remake.proofs.RowRemade.{one_row, Went, went, leaf_anew, test_anew}

-- the first i of the rows are made anew, and as many words are there as were lent
pub record Upto (cap rows : ℕ) (W l : List ℤ) (w₀ w : List ℕ) (n i : ℕ) : Type 0 where
  pub remade : Remade cap W l w n i
  pub upto : i ≤ rows
  pub nodes_len : length l ≡ length W
  pub work_len : length w ≡ length w₀

-- ---- before the first: no node, and no chain

pub begins : {cap rows : ℕ} {W : List ℤ} (w : List ℕ) {w₁ : List ℕ} → 0 < cap → cap ≤ 65535 → cap * node_words ≤ length W → cap * work_words ≤ length w → w₁ ≡ wiped 0 0 cap w → Upto cap rows W W w₁ w₁ 0 0
unfolding last_of
begins {cap} {rows} {W} w {w₁} some few words works e = record {
  remade = record {
    bare = record {
      good = record { valid = λ i h. absurd (omega arith); distinct = λ i j h. absurd (omega arith) };
      chained = record {
        space = record {
          some = some;
          few = few;
          room = omega arith;
          words = words;
          works = omega (arith, same_length 0 w 0 cap e (omega arith) (omega arith));
        };
        hashed = record { heads = λ b h. within 0 w 0 cap e (omega arith) (omega arith) 0 b (omega arith) h; links = λ i h. absurd (omega arith) };
        apart = λ i j h. absurd (omega arith);
      };
    };
    fewer = omega arith;
    there = λ i h. absurd (omega arith);
    is = λ i h. absurd (omega arith);
    rest = λ i h. refl;
  };
  upto = omega arith;
  nodes_len = refl;
  work_len = refl;
}

-- ---- a word behind the chains

bare_set : {cap : ℕ} {l : List ℤ} {w : List ℕ} {n : ℕ} → Bare cap l w n → (j v : ℕ) → cap * 2 ≤ j → Bare cap l (set w j v) n
bare_set {cap} {w = w} A j v h =
    let c = A.chained in
    record {
      good = A.good;
      chained = record {
        space = record {
          some = c.space.some;
          few = c.space.few;
          room = c.space.room;
          words = c.space.words;
          works = simp length-set c.space.works;
        };
        hashed = record {
          heads = λ b p. get_or-set_other w j b v 0 (omega arith) ∙ c.hashed.heads b p;
          links = λ i p. get_or-set_other w j (cap + i) v 0 (omega (arith, c.space.room)) ∙ c.hashed.links i p;
        };
        apart = c.apart;
      };
    }

-- ---- one row more

made_leaf : (f : Leaf) → result (make (leaf f)) ≡ anew (leaf f)
unfolding make result
made_leaf f = sym (anew_leaf f)

module _ {cap rows : ℕ} {W l : List ℤ} {w : List ℕ} {n i : ℕ} (G : GoodRows W rows) (R : Remade cap W l w n i) (h : i < rows) (rc : rows ≤ cap) where
  row : Row W i (suc i)
  row = row_of G i h

  here : node_at l i ≡ node_at W i
  here = R.rest i (omega arith)

  pub fits_here : RowFits (node_at l i) i
  fits_here = subst (λ (x : Node). RowFits x i) (sym here) row.fits

  -- a branch has become its diagram made anew
  branch_is : (z : ℤ) → 0 < nat_abs z → nat_abs z < suc i → branch_anew cap l w n z ≡ anew (diagram_at W (nat_abs z))
  branch_is z a b = R.is (nat_abs z - 1) (omega arith) ∙ ap (λ (j : ℕ). anew (diagram_at W j)) (let e : suc (nat_abs z - 1) ≡ nat_abs z = omega arith in e)

  -- the row comes to its diagram made anew
  row_is : result (row_anew cap l w n (node_at W i)) ≡ anew (diagram_at W (suc i))
  row_is = go (is_leaf (node_at W i).kind) refl
    where
      go : (b : Bool) → is_leaf (node_at W i).kind ≡ b → result (row_anew cap l w n (node_at W i)) ≡ anew (diagram_at W (suc i))
      go true e = ap result (leaf_anew cap l w n (node_at W i) e) ∙ (made_leaf (leaf_of (node_at W i)) ∙ sym (ap anew (row.ends e)))
      go false e =
          let v = row.fits.valid in
          let s = row.fits.some e in
          let p = branch_is (node_at W i).high s.0 (v.high_below e) in
          let q = branch_is (node_at W i).low s.1 (v.low_below e) in
          ap result (test_anew cap l w n (node_at W i) e) ∙ ((λ j. result (node (test_held (node_at W i)) (p j) (q j))) ∙ (sym (anew_branch _ _ _) ∙ sym (ap anew (row.goes e))))

  module _ {l' : List ℤ} {w' : List ℕ} {r : Answer} (S : Grew cap l w n (row_anew cap l w n (node_at l i)) l' w' r) where
    pub made : Went l' r n (anew (diagram_at W (suc i)))
    made = subst (Went l' r n) (ap (λ (x : Node). result (row_anew cap l w n x)) here ∙ row_is) (went S (one_row (omega (arith, trees_length l n, R.fewer)) cap l w n (node_at l i)))

    pub at_in : at_of r < count_of r
    at_in = S.within made.fine

    abbrev w'' : List ℕ
    w'' = set w' (cap * 2 + i) (at_of r)

    forward_old : (j : ℕ) → j < i → forward cap w'' j ≡ forward cap w j
    forward_old j p = get_or-set_other w' (cap * 2 + i) (cap * 2 + j) (at_of r) 0 (omega arith) ∙ S.beyond (cap * 2 + j) (omega arith)

    forward_new : forward cap w'' i ≡ at_of r
    forward_new = get_or-set_same w' (cap * 2 + i) (at_of r) 0 (omega (arith, S.bare.chained.space.works, S.bare.chained.space.some))

    -- what holds of the rows before, and of this one
    each : (P : ℕ → ℕ → Type 0) → ((j : ℕ) → j < i → P j (forward cap w j)) → P i (at_of r) → (j : ℕ) → j < i + 1 → P j (forward cap w'' j)
    each P f g j p = ⊎_elim
        (λ q. subst (P j) (sym (forward_old j q)) (f j q))
        (λ q. subst (λ (k : ℕ). P k (forward cap w'' k)) (sym q) (subst (P i) (sym forward_new) g))
        (split i j (omega arith))

    steps : Remade cap W l' w'' (count_of r) (i + 1)
    steps = record {
      bare = bare_set S.bare (cap * 2 + i) (at_of r) (omega arith);
      fewer = omega (arith, made.few, R.fewer);
      there = each (λ _ k. k < (count_of r)) (λ j p. omega (arith, R.there j p, S.more)) at_in;
      is = each (λ j k. tree_at l' (count_of r) k ≡ anew (diagram_at W (suc j))) (λ j p. trees_kept (record { more = S.more; kept = S.kept }) (forward cap w j) (R.there j p) ∙ R.is j p) made.is;
      rest = λ j p. S.rest j (omega (arith, made.few, R.fewer)) ∙ R.rest j (omega arith);
    }

    pub step : {w₀ : List ℕ} → Upto cap rows W l w₀ w n i → length l' ≡ length l → length w' ≡ length w → Upto cap rows W l' w₀ w'' (count_of r) (i + 1)
    step U a b = record { remade = steps; upto = omega arith; nodes_len = a ∙ U.nodes_len; work_len = length-set w' (cap * 2 + i) (at_of r) ∙ (b ∙ U.work_len) }

pub all_remade : {cap rows : ℕ} {W l : List ℤ} {w₀ w : List ℕ} {n i : ℕ} → Upto cap rows W l w₀ w n i → rows ≤ i → Remade cap W l w n rows
all_remade {cap} {rows} {W} {l} {w = w} {n} {i} U h = subst (Remade cap W l w n) (let e : i ≡ rows = omega (arith, U.upto) in e) U.remade
