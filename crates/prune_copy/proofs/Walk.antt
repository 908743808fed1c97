-- Row after row down the path.
use mathlib.Core.Path.{◌≡◌, refl, sym, ap, ap₂, ◌∙◌, subst}
use mathlib.Core.Bool.{not}
use mathlib.Core.List.{List, ◌∷◌}
use Prim.Native.Nat.{ℕ, suc, ◌+◌, ◌-◌, ◌*◌, ◌≤◌, ◌<◌}
use native.Mathlib.Numerals.{add-one}
use native.Mathlib.Omega.{arith}
use borrow.Author.Tests.{ltb-true, ltb-false, leb-true, leb-false, eqb-true, eqb-false}
use lib.Dec.{T, eqb, ltb, leb}
use lib.IntN.{ℤ}
use lib.ListN.{length, get_or, drop, drop_of_length-le}
use lib.Seq.{drop-cons}
use Rattle.whole.specs.Cases.{if, by_eq}
use Rattle.whole.specs.Linears.{numbers}
use Rattle.table.specs.Table.{node_at}
use Rattle.table.specs.declared.Node.{Node}
use Rattle.table.proofs.Store.{put_length, put_else, put_same}
use Rattle.theory.specs.Widths.{node_words}
use Rattle.theory.specs.Value.{good_row}
use Rattle.theory.specs.Rows.{Range, Among}
use Rattle.table_rows.specs.Row.{Inside}
use Rattle.prune_paths.specs.Prune.{diagram_at, fits, cut, GoodRows}
use Rattle.prune_rows.proofs.Rows.{high_is, low_is}
use Rattle.prune_rows.proofs.Branches.{branch_same}
use Rattle.prune_rows.proofs.Again.{row_same, row_copied, trees_kept}
use Rattle.prune_copy.specs.Copy.{is_high, next_at, stand_in, turned, below, CopyReady, CopyStepped, rows_after, Copied}
use Rattle.prune_copy.proofs.StandIn.{stands_copy, stands_other}
use Rattle.prune_copy.proofs.Paths.{OnPath, on_path}
use Rattle.prune_copy.proofs.Copies.{turned_kind, turned_n, turned_branches, copy_tree, last_tree}

-- ---- the rows copied so far

module _ (W : List ℤ) (root : ℕ) (turns : List ℕ) (last : ℕ) where
  -- a table with the rows of W, and with those of l behind row c
  pub record Extends (l : List ℤ) (c : ℕ) (W' : List ℤ) : Type 0 where
    pub low : (i : ℕ) → i < last → node_at W' i ≡ node_at W i
    pub high : (i : ℕ) → c ≤ i → node_at W' i ≡ node_at l i
    pub good : GoodRows W' (rows_after last turns)

  -- turn k is taken at row r, whose copy is to be row c; those above it are copied
  pub record Upto (n A : ℕ) (l : List ℤ) (r c k : ℕ) : Type 0 where
    pub some : k < length turns
    pub at : c + k ≡ rows_after last turns
    pub row : Range 1 last r
    pub fit : T (fits (drop k turns) (diagram_at W r))
    pub low : (i : ℕ) → i < last → node_at l i ≡ node_at W i
    pub copies : (i : ℕ) → c < i → i ≤ rows_after last turns → T (good_row n A l i)
    pub len : length l ≡ length W
    -- once what stands in for row r is its diagram with the rest cut off, so it is at the root
    pub leads : (W' : List ℤ) → Extends l c W' → diagram_at W' (stand_in W turns k r c) ≡ cut (drop k turns) (diagram_at W r)
        → diagram_at W' (stand_in W turns 0 root (rows_after last turns)) ≡ cut turns (diagram_at W root)

  pub begins : (n A : ℕ) → 1 ≤ root → root ≤ last → 1 ≤ length turns → T (fits turns (diagram_at W root)) → Upto n A W root (rows_after last turns) 0
  begins n A a h s f = record {
    some = s;
    at = omega arith;
    row = (a, h);
    fit = f;
    low = λ i _. refl;
    copies = λ i p q. absurd (omega arith);
    len = refl;
    leads = λ W' E e. e;
  }

-- ---- at a row

fewer : {W : List ℤ} {a b : ℕ} → a ≤ b → GoodRows W b → GoodRows W a
fewer h G = record { conditions = G.conditions; actions = G.actions; few = G.few; rows = λ i p q. G.rows i p (omega arith) }

stand_same : (W' W : List ℤ) (turns : List ℕ) (k r c : ℕ) → node_at W' (r - 1) ≡ node_at W (r - 1) → stand_in W' turns k r c ≡ stand_in W turns k r c
unfolding stand_in
stand_same W' W turns k r c e = ap (λ (j : ℕ). if (ltb (k + 1) (length turns)) c j) (branch_same W' W r e (not (is_high turns k)))

-- where the new root stands
answer_in : {W : List ℤ} {root : ℕ} (turns : List ℕ) {last : ℕ} → GoodRows W last → 1 ≤ root → root ≤ last → 1 ≤ length turns → T (fits turns (diagram_at W root))
    → (1 ≤ stand_in W turns 0 root (rows_after last turns)) × (stand_in W turns 0 root (rows_after last turns) ≤ rows_after last turns)
answer_in {W} {root} turns {last} G p q s f =
    let end = rows_after last turns in
    let P = on_path G root p q (get_or turns 0 0) (drop 1 turns) (subst (λ (bs : List ℕ). T (fits bs (diagram_at W root))) (drop-cons turns 0 0 s) f) in
    let o = P.side (not (is_high turns 0)) in
    by_eq (ltb (0 + 1) (length turns)) (λ _. (1 ≤ stand_in W turns 0 root end) × (stand_in W turns 0 root end ≤ end))
    (λ t. let e = stands_copy W turns 0 root end (ltb-true _ _ t) in (omega (arith, e), omega (arith, e)))
    (λ t. let e = stands_other W turns 0 root end (ltb-false _ _ t) in (omega (arith, e, o.0), omega (arith, e, o.1)))

module _ {W : List ℤ} {root : ℕ} {turns : List ℕ} {last : ℕ} (G : GoodRows W last) (big : rows_after last turns * node_words ≤ length W) {l : List ℤ} {r c k : ℕ} (U : Upto W root turns last G.conditions G.actions l r c k) where
  abbrev b : ℕ
  b = get_or turns k 0

  cons : drop k turns ≡ b ∷ drop (suc k) turns
  cons = drop-cons turns k 0 U.some

  here : OnPath W r b (drop (suc k) turns)
  here = on_path G r U.row.0 U.row.1 b (drop (suc k) turns) (subst (λ (bs : List ℕ). T (fits bs (diagram_at W r))) cons U.fit)

  row_kept : (j : ℕ) → 1 ≤ j → j ≤ last → node_at l (j - 1) ≡ node_at W (j - 1)
  row_kept j a h = U.low (j - 1) (omega arith)

  inside : (j : ℕ) → 1 ≤ j → j ≤ rows_after last turns → Inside l j
  inside j a h = record { above = a; within = omega (arith, big, U.len) }

  -- ---- it is not the last
  module _ (more : k + 1 < length turns) where
    abbrev next : ℕ
    next = next_at W turns k r

    below_r : (1 ≤ next) × (next < r)
    below_r = here.side (eqb b 1)

    behind : last < c
    behind = omega (arith, U.at)

    rest : drop (suc k) turns ≡ get_or turns (suc k) 0 ∷ drop (suc (suc k)) turns
    rest = drop-cons turns (suc k) 0 (omega arith)

    there : OnPath W next (get_or turns (suc k) 0) (drop (suc (suc k)) turns)
    there = on_path G next below_r.0 (omega (arith, below_r.1, U.row.1)) _ _ (subst (λ (bs : List ℕ). T (fits bs (diagram_at W next))) rest here.fit)

    abbrev d : ℕ
    d = stand_in W turns (k + 1) next (c - 1)

    d_in : (1 ≤ d) × (d < c)
    d_in = by_eq (ltb (k + 1 + 1) (length turns)) (λ _. (1 ≤ d) × (d < c))
        (λ t. let e = stands_copy W turns (k + 1) next (c - 1) (ltb-true _ _ t) in (omega (arith, e, behind, U.row.0, U.row.1), omega (arith, e, behind)))
        (λ t. let e = stands_other W turns (k + 1) next (c - 1) (ltb-false _ _ t) in
        let o = there.side (not (is_high turns (k + 1))) in
        (omega (arith, e, o.0), omega (arith, e, o.1, below_r.1, behind, U.row.1)))

    next_same : next_at l turns k r ≡ next
    next_same = branch_same l W r (row_kept r U.row.0 U.row.1) (is_high turns k)

    d_same : below l turns k r c ≡ d
    d_same = ap (λ (j : ℕ). stand_in l turns (k + 1) j (c - 1)) next_same ∙ stand_same l W turns (k + 1) next (c - 1) (row_kept next below_r.0 (omega (arith, below_r.1, U.row.1)))

    pub ready : CopyReady l turns k r c
    ready = record {
      more = more;
      row = inside r U.row.0 (omega (arith, U.row.1));
      next = subst (Inside l) (sym next_same) (inside next below_r.0 (omega (arith, below_r.1, U.row.1)));
      copy = inside c (omega (arith, behind)) (omega (arith, U.at));
      lower = omega (arith, d_same, d_in.1);
    }

    -- row c is written
    module _ {l' : List ℤ} {r' : ℕ} (S : CopyStepped l turns k r c l' r') where
      abbrev y : Node
      y = turned (node_at l (r - 1)) (is_high turns k) (below l turns k r c)

      abbrev copy : Node
      copy = turned (node_at W (r - 1)) (eqb b 1) d

      y_is : y ≡ copy
      y_is = ap₂ (λ (z : Node) (j : ℕ). turned z (is_high turns k) j) (row_kept r U.row.0 U.row.1) d_same

      y_long : length y.n ≡ numbers
      y_long = ap (λ (z : Node). length z.n) y_is ∙ (ap length (turned_n (node_at W (r - 1)) (eqb b 1) d) ∙ here.row.valid.nums.long)

      len' : length l' ≡ length W
      len' = ap length S.nodes ∙ (put_length l (c - 1) y ∙ U.len)

      inside' : (j : ℕ) → j ≤ rows_after last turns → j * node_words ≤ length l'
      inside' j h = omega (arith, big, len')

      put_at : node_at l' (c - 1) ≡ copy
      put_at = ap (λ (m : List ℤ). node_at m (c - 1)) S.nodes ∙ (put_same l (c - 1) y (omega (arith, big, U.len, U.at, behind)) y_long ∙ y_is)

      put_off : (i : ℕ) → (i ≡ c - 1 → ⊥) → node_at l' i ≡ node_at l i
      put_off i h = ap (λ (m : List ℤ). node_at m i) S.nodes ∙ put_else l (c - 1) y y_long i h

      low' : (i : ℕ) → i < last → node_at l' i ≡ node_at W i
      low' i h = put_off i (λ e. omega (arith, behind)) ∙ U.low i h

      copy_good : T (good_row G.conditions G.actions l' c)
      copy_good =
          let t = turned_branches (node_at W (r - 1)) (r - 1) (eqb b 1) d c here.row here.goes (omega (arith, behind, U.row.1)) d_in.0 d_in.1 in
          row_copied G.conditions G.actions l' W c r G.few U.row.0
          (ap (λ (z : Node). z.kind) put_at ∙ turned_kind (node_at W (r - 1)) (eqb b 1) d) (ap (λ (z : Node). z.n) put_at ∙ turned_n (node_at W (r - 1)) (eqb b 1) d) here.goes
          (subst (Among (c - 1)) (sym (ap (λ (z : Node). z.high) put_at) ∙ high_is l' c) t.0, subst (Among (c - 1)) (sym (ap (λ (z : Node). z.low) put_at) ∙ low_is l' c) t.1)
          (inside' c (omega (arith, U.at))) (G.rows r U.row.0 U.row.1)

      copies' : (i : ℕ) → c - 1 < i → i ≤ rows_after last turns → T (good_row G.conditions G.actions l' i)
      copies' i p q = by_eq (eqb i c) (λ _. T (good_row G.conditions G.actions l' i))
          (λ t. subst (λ (j : ℕ). T (good_row G.conditions G.actions l' j)) (sym (eqb-true i c t)) copy_good)
          (λ t. let f = eqb-false i c t in
          row_same G.conditions G.actions l' l i (put_off (i - 1) (λ e. f (omega (arith, behind)))) (inside' i q) (U.copies i (omega (arith, f)) q))

      leads' : (W' : List ℤ) → Extends W root turns last l' (c - 1) W' → diagram_at W' d ≡ cut (drop (k + 1) turns) (diagram_at W next)
          → diagram_at W' (stand_in W turns 0 root (rows_after last turns)) ≡ cut turns (diagram_at W root)
      leads' W' E e =
          let o : Extends W root turns last l c W' = record { low = E.low; high = λ i h. E.high i (omega arith) ∙ put_off i (λ e. omega (arith, behind)); good = E.good } in
          let kept = trees_kept E.low (fewer (omega arith) E.good) G in
          U.leads W' o
          (ap (diagram_at W') (stands_copy W turns k r c more)
          ∙ (copy_tree E.good kept here U.row.1 rest c d (omega (arith, behind)) (omega (arith, U.at)) (E.high (c - 1) (omega arith) ∙ put_at) (e ∙ ap (λ (j : ℕ). cut (drop j turns) (diagram_at W next)) (add-one k))
          ∙ ap (λ (bs : List ℕ). cut bs (diagram_at W r)) (sym cons)))

      pub steps : Upto W root turns last G.conditions G.actions l' r' (c - 1) (k + 1)
      steps = subst (λ (j : ℕ). Upto W root turns last G.conditions G.actions l' j (c - 1) (k + 1)) (sym (S.goes ∙ next_same)) (record {
        some = more;
        at = omega (arith, U.at, behind);
        row = (below_r.0, omega (arith, below_r.1, U.row.1));
        fit = subst (λ (j : ℕ). T (fits (drop j turns) (diagram_at W next))) (sym (add-one k)) here.fit;
        low = low';
        copies = copies';
        len = len';
        leads = leads';
      })

  -- ---- it is the last
  module _ (done : length turns ≤ k + 1) where
    good_all : GoodRows l (rows_after last turns)
    good_all = record {
      conditions = G.conditions;
      actions = G.actions;
      few = G.few;
      rows = λ i p q. by_eq (leb i last) (λ _. T (good_row G.conditions G.actions l i))
          (λ t. let h = leb-true i last t in row_same G.conditions G.actions l W i (row_kept i p h) (inside i p q).within (G.rows i p h))
          (λ t. U.copies i (omega (arith, U.at, U.some, leb-false i last t)) q);
    }

    kept : (i : ℕ) → 1 ≤ i → i ≤ last → diagram_at l i ≡ diagram_at W i
    kept = trees_kept U.low (fewer (omega arith) good_all) G

    is : diagram_at l (stand_in W turns 0 root (rows_after last turns)) ≡ cut turns (diagram_at W root)
    is = U.leads l (record { low = U.low; high = λ i h. refl; good = good_all })
        (ap (diagram_at l) (stands_other W turns k r c done)
        ∙ (last_tree good_all kept here U.row.1 (drop_of_length-le turns {i = suc k} (omega arith)) ∙ ap (λ (bs : List ℕ). cut bs (diagram_at W r)) (sym cons)))

    pub ends : {a : ℕ} → a ≡ stand_in W turns 0 root (rows_after last turns) → 1 ≤ root → root ≤ last → T (fits turns (diagram_at W root)) → Copied W l root turns last a
    ends e p q f =
        let i = answer_in turns G p q (omega (arith, U.some)) f in
        record { rows = good_all; kept = kept; is = ap (diagram_at l) e ∙ is; above = omega (arith, e, i.0); within = omega (arith, e, i.1) }
