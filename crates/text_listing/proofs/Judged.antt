-- Laws of the judging of stages and rows.
use mathlib.Core.Path.{◌≡◌, refl, sym, ap, ◌∙◌}
use mathlib.Core.Bool.{Bool, true, false, not}
use mathlib.Core.List.{List}
use Prim.Native.Nat.{ℕ, zero, suc, ◌+◌, ◌-◌, ◌*◌, ◌/◌, ◌≤◌, ◌<◌, max}
use native.Mathlib.Numerals.{add-one}
use native.Mathlib.Omega.{arith}
use borrow.Author.Tests.{eq-eqb, ne_eqb, lt-leb, leb-true, ltb-true, ltb-false, not-true, not-false}
use Rattle.std.specs.Prelude.{nat_lt, ◌==◌, cond}
use Rattle.std.specs.Ordering.{nat_cmp, ord_max, is_lt}
use Rattle.std.proofs.Common.{Less, Equal, Greater}
use lib.Dec.{eqb, leb}
use lib.IntN.{ℤ, nat_abs}
use lib.ListN.{length, get_or}
use Rattle.whole.specs.Cases.{if}
use Rattle.theory.specs.Widths.{node_words, steps_most}
use Rattle.theory.specs.Value.{node_word, good_row}
use Rattle.theory.specs.Verdict.{Site}
use Rattle.theory.specs.Listing.{greatest_root}
use Rattle.table_rows.specs.declared.Kind.{Kind}
use Rattle.table_rows.specs.declared.Kind.TheVariants.{Leaf, Condition, Test, None, Bad}
use Rattle.table_rows.specs.Row.{kind_of, row_kind}
use Rattle.text_plan.specs.Plan.{PlanReady}
use Rattle.text_listing.specs.Refusal.{rooted, rows_good, plan_refusal}
use Rattle.text_listing.proofs.Every.{every, every_false, every_last, and_left}

pub root_none : (stages : List ℕ) → 0 ≡ greatest_root 0 stages
unfolding greatest_root
root_none stages = refl

-- the larger of two, as `max` says it
larger : (a b : ℕ) → ord_max nat_cmp a b ≡ max a b
larger a b = go (nat_lt b a) (b == a) refl
  where
    go : (t u : Bool) → nat_lt b a ≡ t → cond (is_lt (cond t Less (cond u Equal Greater))) a b ≡ max a b
    go true u e = let h : b < a = ltb-true b a e in omega arith
    go false true e = let h : a ≤ b = ltb-false b a e in omega arith
    go false false e = let h : a ≤ b = ltb-false b a e in omega arith

pub root_more : (stages : List ℕ) (h root : ℕ) → root ≡ greatest_root h stages → ord_max nat_cmp root (get_or stages h 0) ≡ greatest_root (h + 1) stages
unfolding greatest_root
root_more stages h root e = larger root (get_or stages h 0) ∙ ap (λ (k : ℕ). max k (get_or stages h 0)) e ∙ ap (λ (k : ℕ). greatest_root k stages) (sym (add-one h))

module _ (stages : List ℕ) (h : ℕ) where
  same : h + 1 - 1 ≡ h
  same = omega arith

  pub rooted_not : get_or stages h 0 ≡ 0 → rooted stages (h + 1) ≡ false
  rooted_not e = ap not (eq-eqb (get_or stages (h + 1 - 1) 0) 0 (ap (λ (k : ℕ). get_or stages k 0) same ∙ e))

  pub rooted_yes : (get_or stages h 0 ≡ 0 → ⊥) → rooted stages (h + 1) ≡ true
  rooted_yes f = ap not (ne_eqb (get_or stages (h + 1 - 1) 0) 0 (λ e. f (sym (ap (λ (k : ℕ). get_or stages k 0) same) ∙ e)))

module _ (n A : ℕ) (W : List ℤ) where
  outside : (r : ℕ) → length W / node_words < r → good_row n A W r ≡ false
  unfolding good_row
  outside r h = rw (lt-leb (r * node_words) (length W) (omega arith))

  -- a last node outside the table
  pub outside_last : (last : ℕ) → length W / node_words < last → false ≡ every (good_row n A W) last
  outside_last last h =
      let e : last - 1 + 1 ≡ last = omega arith in
      sym (every_false (good_row n A W) (last - 1) last (omega arith) (ap (good_row n A W) e ∙ outside last h))

  inside : (r : ℕ) → good_row n A W r ≡ true → r * node_words ≤ length W
  unfolding good_row
  inside r t = leb-true (r * node_words) (length W) (and_left (leb (r * node_words) (length W)) _ t)

  pub inside_last : (last : ℕ) → every (good_row n A W) last ≡ true → last * node_words ≤ length W
  inside_last zero t = omega arith
  inside_last (suc r) t = inside (suc r) (every_last (good_row n A W) (suc r) (omega arith) t)

abbrev is_bad : Kind → Bool
is_bad Leaf = false
is_bad Condition = false
is_bad Test = false
is_bad None = false
is_bad Bad = true

-- a row is good where it has a kind
module _ (n A : ℕ) (W : List ℤ) (r : ℕ) (h : 1 ≤ r) where
  kind_bad : is_bad (row_kind n A W r) ≡ not (good_row n A W r)
  unfolding row_kind kind_of
  kind_bad =
      let z : eqb r 0 ≡ false = ne_eqb r 0 (λ (e : r ≡ 0). omega arith) in
      rw z (go (good_row n A W r) (eqb (nat_abs (node_word W r 0)) 0) (eqb (nat_abs (node_word W r 0)) 1) (eqb (nat_abs (node_word W r 0)) 2))
    where
      go : (g a b d : Bool) → is_bad (if g (if a Leaf (if b Condition (if d Test None))) Bad) ≡ not g
      go false a b d = refl
      go true true b d = refl
      go true false true d = refl
      go true false false true = refl
      go true false false false = refl

  pub row_bad : {k : Kind} → k ≡ row_kind n A W r → k ≡ Bad → false ≡ good_row n A W r
  row_bad e b = sym (not-true (good_row n A W r) (sym kind_bad ∙ ap is_bad (sym e ∙ b)))

  pub row_good : (k : Kind) → k ≡ row_kind n A W r → (k ≡ Bad → ⊥) → true ≡ good_row n A W r
  row_good Leaf e t = sym (not-false (good_row n A W r) (sym kind_bad ∙ ap is_bad (sym e)))
  row_good Condition e t = sym (not-false (good_row n A W r) (sym kind_bad ∙ ap is_bad (sym e)))
  row_good Test e t = sym (not-false (good_row n A W r) (sym kind_bad ∙ ap is_bad (sym e)))
  row_good None e t = sym (not-false (good_row n A W r) (sym kind_bad ∙ ap is_bad (sym e)))
  row_good Bad e t = absurd (t refl)

-- ---- 15, then 14

module _ (S : Site) (H : ℕ) (nodes : List ℤ) (stages : List ℕ) where
  pub plan_15 : every (rooted stages) H ≡ false → 15 ≡ plan_refusal S H nodes stages
  unfolding plan_refusal
  plan_15 e = rw e

  pub plan_14 : every (rooted stages) H ≡ true → rows_good S H nodes stages ≡ false → 14 ≡ plan_refusal S H nodes stages
  unfolding plan_refusal
  plan_14 e g = rw (e, g)

  pub plan_none : every (rooted stages) H ≡ true → rows_good S H nodes stages ≡ true → 0 ≡ plan_refusal S H nodes stages
  unfolding plan_refusal
  plan_none e g = rw (e, g)

  good_rows : 0 ≡ plan_refusal S H nodes stages → rows_good S H nodes stages ≡ true
  unfolding plan_refusal
  good_rows e = go (every (rooted stages) H) (rows_good S H nodes stages) e
    where
      go : (a b : Bool) → ◌≡◌ {A = ℕ} 0 (if (not a) 15 (if (not b) 14 0)) → b ≡ true
      go false b e = absurd (omega arith)
      go true false e = absurd (omega arith)
      go true true e = refl

  -- a plan that is not refused can be written
  pub ready : {number root : ℕ} → number ≡ plan_refusal S H nodes stages → number ≡ 0 → root ≡ greatest_root H stages → H ≤ length stages → H ≤ steps_most → PlanReady H nodes stages root
  ready p z e h k = record {
    greatest = e;
    inside = omega (arith, inside_last S.conditions S.actions nodes (greatest_root H stages) (good_rows (sym z ∙ p)));
    steps = h;
    few = k;
  }
