-- A row again: in another table, or over other branches.
use mathlib.Core.Path.{◌≡◌, refl, sym, ap, ap₂, ◌∙◌, subst}
use mathlib.Core.Bool.{Bool, true, false}
use mathlib.Core.List.{List}
use Prim.Native.Nat.{ℕ, zero, suc, ◌-◌, ◌*◌, ◌≤◌, ◌<◌}
use native.Mathlib.Omega.{arith}
use borrow.Author.Tests.{leb-true, leb-false, eqb-true, eqb-false}
use lib.Dec.{T, eqb, leb}
use lib.IntN.{ℤ, pos, nat_abs}
use lib.ListN.{length, get_or}
use Rattle.whole.specs.Cases.{by_eq, is_true, clash}
use Rattle.table.specs.Table.{node_at, is_leaf}
use Rattle.table.specs.declared.Node.{Node}
use Rattle.theory.specs.Widths.{node_words, conditions_most}
use Rattle.theory.specs.Diagram.{leaf, branch}
use Rattle.theory.specs.Value.{node_word, high_of, low_of, good_row, ends}
use Rattle.theory.specs.Staying.{In62}
use Rattle.theory.specs.Rows.{Range, Among, KindFits, fits_leaf, fits_condition, fits_test, fits_none, BranchesFit}
use Rattle.theory.proofs.laws.Fits.{node_fits, fits_good}
use Rattle.rule_node.specs.Nodes.{leaf_of, test_held}
use Rattle.prune_paths.specs.Prune.{diagram_at, GoodRows}
use Rattle.prune_rows.proofs.Rows.{kind_is, number_is, high_is, low_is, ends_is, row_of}

module _ (n A : ℕ) (W' W : List ℤ) where
  module _ (q p : ℕ) (kinds : (node_at W' (q - 1)).kind ≡ (node_at W (p - 1)).kind) (numbers : (node_at W' (q - 1)).n ≡ (node_at W (p - 1)).n) where
    -- the words before the branches
    word_same : (k : ℕ) → k ≤ 9 → node_word W' q k ≡ node_word W p k
    word_same zero h = sym (kind_is W' q) ∙ (kinds ∙ kind_is W p)
    word_same (suc k) h = sym (number_is W' q k (omega arith)) ∙ (ap (λ (l : List ℤ). get_or l k (pos 0)) numbers ∙ number_is W p k (omega arith))

    -- what a leaf has for branches stays
    abbrev LeafKept : Type 0
    LeafKept = T (ends (nat_abs (node_word W p 0))) → (high_of W' q ≡ high_of W p) × (low_of W' q ≡ low_of W p)

    kind_again : LeafKept → (BranchesFit n A W p → BranchesFit n A W' q) → KindFits n A W p → KindFits n A W' q
    unfolding ends
    kind_again l b (fits_leaf e g m z) =
        let d = l (subst (λ (z : ℤ). T (ends (nat_abs z))) (sym e) tt) in
        fits_leaf (word_same 0 (omega arith) ∙ e) (λ i h. subst In62 (sym (word_same i h.1)) (g i h)) (subst (Among A) (sym d.0) m) (d.1 ∙ z)
    kind_again l b (fits_condition e m z f) = fits_condition (word_same 0 (omega arith) ∙ e) (subst (Among n) (sym (word_same 1 (omega arith))) m) (λ i h. word_same i h.1 ∙ z i h) (b f)
    kind_again l b (fits_test e g f) = fits_test (word_same 0 (omega arith) ∙ e) (λ i h. subst In62 (sym (word_same i h.1)) (g i h)) (b f)
    kind_again l b (fits_none e z) = let d = l (subst (λ (z : ℤ). T (ends (nat_abs z))) (sym e) tt) in fits_none (word_same 0 (omega arith) ∙ e) (λ i h. zeros d z i h)
      where
        zeros : (high_of W' q ≡ high_of W p) × (low_of W' q ≡ low_of W p) → ((i : ℕ) → Range 1 11 i → node_word W p i ≡ pos 0) → (i : ℕ) → Range 1 11 i → node_word W' q i ≡ pos 0
        zeros d z i h = by_eq (leb i 9) (λ _. node_word W' q i ≡ pos 0) (λ t. word_same i (leb-true i 9 t) ∙ z i h) (λ t. let o = leb-false i 9 t in by_eq (eqb i 10) (λ _. node_word W' q i ≡ pos 0)
            (λ t. let e = eqb-true i 10 t in subst (λ (k : ℕ). node_word W' q k ≡ pos 0) (sym e) (d.0 ∙ z 10 (omega arith, omega arith)))
            (λ t. let e : i ≡ 11 = omega (arith, h.1, eqb-false i 10 t) in subst (λ (k : ℕ). node_word W' q k ≡ pos 0) (sym e) (d.1 ∙ z 11 (omega arith, omega arith))))

  -- a row that another table has as well is good there
  pub row_same : (r : ℕ) → node_at W' (r - 1) ≡ node_at W (r - 1) → r * node_words ≤ length W' → T (good_row n A W r) → T (good_row n A W' r)
  row_same r e h t =
      let hi = sym (high_is W' r) ∙ (ap (λ (x : Node). x.high) e ∙ high_is W r) in
      let lo = sym (low_is W' r) ∙ (ap (λ (x : Node). x.low) e ∙ low_is W r) in
      fits_good n A W' r (record {
        inside = h;
        kind = kind_again r r (ap (λ (x : Node). x.kind) e) (ap (λ (x : Node). x.n) e) (λ _. (hi, lo)) (λ b. (subst (Among (r - 1)) (sym hi) b.0, subst (Among (r - 1)) (sym lo) b.1)) (node_fits n A W r t).kind;
      })

  -- a row that goes on, copied over other branches
  pub row_copied : (q p : ℕ) → n ≤ conditions_most → 1 ≤ p → (node_at W' (q - 1)).kind ≡ (node_at W (p - 1)).kind → (node_at W' (q - 1)).n ≡ (node_at W (p - 1)).n → is_leaf (node_at W (p - 1)).kind ≡ false
      → BranchesFit n A W' q → q * node_words ≤ length W' → T (good_row n A W p) → T (good_row n A W' q)
  row_copied q p few a ek en g b h t =
      let f = node_fits n A W p t in
      fits_good n A W' q (record {
        inside = h;
        kind = kind_again q p ek en (λ l. clash (sym (is_true (ends (nat_abs (node_word W p 0))) l) ∙ (sym (ends_is few a f) ∙ g))) (λ _. b) f.kind;
      })

-- ---- the diagrams of rows that two tables have

module _ {W' W : List ℤ} {last : ℕ} (same : (i : ℕ) → i < last → node_at W' i ≡ node_at W i) (G' : GoodRows W' last) (G : GoodRows W last) where
  kept_by : (f r : ℕ) → r ≤ f → 1 ≤ r → r ≤ last → diagram_at W' r ≡ diagram_at W r
  kept_by zero r h a b = absurd (omega arith)
  kept_by (suc f) zero h a b = absurd (omega arith)
  kept_by (suc f) (suc i) h a b = go (is_leaf (node_at W i).kind) refl (kept_by f)
    where
      e : node_at W' i ≡ node_at W i
      e = same i (omega arith)

      go : (c : Bool) → is_leaf (node_at W i).kind ≡ c → ((r : ℕ) → r ≤ f → 1 ≤ r → r ≤ last → diagram_at W' r ≡ diagram_at W r) → diagram_at W' (suc i) ≡ diagram_at W (suc i)
      go true t ih =
          let u = row_of G' i (omega arith) in
          let v = row_of G i (omega arith) in
          u.ends (ap (λ (x : Node). is_leaf x.kind) e ∙ t) ∙ (ap (λ (x : Node). leaf (leaf_of x)) e ∙ sym (v.ends t))
      go false t ih =
          let u = row_of G' i (omega arith) in
          let v = row_of G i (omega arith) in
          let s = v.fits.some t in
          let hi = ih (nat_abs (node_at W i).high) (omega (arith, v.fits.valid.high_below t)) s.0 (omega (arith, v.fits.valid.high_below t)) in
          let lo = ih (nat_abs (node_at W i).low) (omega (arith, v.fits.valid.low_below t)) s.1 (omega (arith, v.fits.valid.low_below t)) in
          u.goes (ap (λ (x : Node). is_leaf x.kind) e ∙ t)
          ∙ (ap (λ (x : Node). branch (test_held x) (diagram_at W' (nat_abs x.high)) (diagram_at W' (nat_abs x.low))) e ∙ (ap₂ (branch (test_held (node_at W i))) hi lo ∙ sym (v.goes t)))

  pub trees_kept : (r : ℕ) → 1 ≤ r → r ≤ last → diagram_at W' r ≡ diagram_at W r
  trees_kept r a b = kept_by r r (omega arith) a b
