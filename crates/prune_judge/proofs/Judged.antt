-- The refusals one after another.
use mathlib.Core.Path.{◌≡◌, refl, sym, ap, ap₂, ◌∙◌, subst}
use mathlib.Core.Bool.{Bool, true, false, not}
use mathlib.Core.List.{List}
use Prim.Native.Nat.{ℕ, zero, suc, ◌+◌, ◌-◌, ◌≤◌}
use native.Mathlib.Omega.{arith}
use borrow.Author.Tests.{ne_eqb, eq-eqb, lt-ltb, le-ltb}
use lib.Dec.{eqb, ltb, leb→le, ltb→lt, nltb→le}
use lib.IntN.{ℤ}
use lib.ListN.{length, get_or}
use Rattle.whole.specs.Cases.{if, by_test, from_true}
use Rattle.theory.specs.Widths.{steps_most, conditions_most}
use Rattle.theory.specs.Valid.{all}
use Rattle.theory.specs.Verdict.{Verdict, refusal, Site, from_to}
use Rattle.theory.specs.Load.{site_at}
use Rattle.theory.specs.Solve.{early}
use Rattle.theory.specs.Value.{good_row}
use Rattle.theory.specs.Listing.{greatest_root}
use Rattle.theory.proofs.laws.AcceptedModel.{accepted}
use Rattle.theory.proofs.laws.ValueWalk.{greatest_least}
use Rattle.theory.proofs.laws.Rows.{Passed, by_early, early_some}
use Rattle.prune_paths.specs.Prune.{diagram_at, path_number, path_needs, prune_refusal}
use Rattle.prune_paths.proofs.laws.Foreign.{rows_good}
use Rattle.prune_certificate.specs.Path.{GoodNode}
use Rattle.prune_judge.specs.PathRefusals.{plan_verdict}

module _ (S : Site) (nodes : List ℤ) (stages : List ℕ) (N s root : ℕ) (turns : List ℕ) (ks : List ℤ) where
  abbrev by_tests : Bool → Bool → ℕ → Bool → Verdict
  by_tests a b k c = if a (refusal 15 0) (if (not b) (refusal 14 0) (if (not (eqb k 0)) (refusal k 0) (if c (refusal 12 s) (refusal 0 0))))

  abbrev verdict : Verdict
  verdict = plan_verdict S nodes stages N s root turns ks

  abbrev rows? : Bool
  rows? = all (good_row S.conditions S.actions nodes) (from_to 1 (greatest_root steps_most stages))

  abbrev over? : Bool
  over? = ltb N (path_needs (greatest_root steps_most stages) turns)

  pub says_15 : root ≡ 0 → refusal 15 0 ≡ verdict
  unfolding plan_verdict
  says_15 e = sym (ap (λ x. by_tests x rows? (path_number turns (diagram_at nodes root) ks) over?) (eq-eqb root 0 e))

  module _ (z : root ≡ 0 → ⊥) (last : ℕ) (l : last ≡ greatest_root steps_most stages) (b : Bool) (g : b ≡ all (good_row S.conditions S.actions nodes) (from_to 1 last)) where
    rows_are : rows? ≡ b
    rows_are = ap (λ (j : ℕ). all (good_row S.conditions S.actions nodes) (from_to 1 j)) (sym l) ∙ sym g

    pub says_14 : b ≡ false → refusal 14 0 ≡ verdict
    unfolding plan_verdict
    says_14 e = sym (ap₂ (λ x y. by_tests x y (path_number turns (diagram_at nodes root) ks) over?) (ne_eqb root 0 z) (rows_are ∙ e))

    pub root_good : b ≡ true → S.conditions ≤ conditions_most → root ≤ greatest_root steps_most stages → GoodNode nodes root
    root_good e f h = record {
      above = above root z;
      good = record {
        conditions = S.conditions;
        actions = S.actions;
        few = f;
        rows = λ i x y. rows_good S.conditions S.actions nodes (greatest_root steps_most stages) (from_true (rows_are ∙ e)) i x (omega arith);
      };
    }
      where
        above : (r : ℕ) → (r ≡ 0 → ⊥) → 1 ≤ r
        above zero q = absurd (q refl)
        above (suc r) q = omega arith

    module _ (t : b ≡ true) (k : ℕ) (p : k ≡ path_number turns (diagram_at nodes root) ks) where
      pub says_path : (k ≡ 0 → ⊥) → refusal k 0 ≡ verdict
      unfolding plan_verdict
      says_path q =
          ap (λ x. if (not x) (refusal k 0) (if over? (refusal 12 s) (refusal 0 0))) (sym (ne_eqb k 0 q))
          ∙ sym (λ i. by_tests (ne_eqb root 0 z i) ((rows_are ∙ t) i) (sym p i) over?)

      module _ (q : k ≡ 0) (c : Bool) (o : c ≡ ltb N (last + (length turns - 1))) where
        over_is : over? ≡ c
        unfolding path_needs
        over_is = ap (λ (j : ℕ). ltb N (j + (length turns - 1))) (sym l) ∙ sym o

        pub says_12 : c ≡ true → refusal 12 s ≡ verdict
        unfolding plan_verdict
        says_12 e = sym (λ i. by_tests (ne_eqb root 0 z i) ((rows_are ∙ t) i) ((sym p ∙ q) i) ((over_is ∙ e) i))

        pub says_0 : c ≡ false → refusal 0 0 ≡ verdict
        unfolding plan_verdict
        says_0 e = sym (λ i. by_tests (ne_eqb root 0 z i) ((rows_are ∙ t) i) ((sym p ∙ q) i) ((over_is ∙ e) i))

-- ---- after the refusals of every call

module _ (B : List ℕ) (nodes : List ℤ) (stages : List ℕ) (N s : ℕ) (turns : List ℕ) (ks : List ℤ) (v : Verdict) (e : v ≡ early B s (length stages)) where
  abbrev rest : Site → Verdict
  rest S = plan_verdict S nodes stages N s (get_or stages (s - 1) 0) turns ks

  abbrev after : Verdict → Verdict
  after w = if (not (eqb w.number 0)) w (rest (site_at B))

  pub early_stops : (v.number ≡ 0 → ⊥) → v ≡ prune_refusal B nodes stages N s turns ks
  unfolding prune_refusal plan_verdict
  early_stops n = sym (ap after (sym e) ∙ ap (λ x. if (not x) v (rest (site_at B))) (ne_eqb v.number 0 n))

  module _ (n : v.number ≡ 0) where
    pub early_passes : (S : Site) → S ≡ site_at B → (r : Verdict) → r ≡ rest S → r ≡ prune_refusal B nodes stages N s turns ks
    unfolding prune_refusal plan_verdict
    early_passes S q r f = f ∙ (ap rest q ∙ sym (ap after (sym e) ∙ ap (λ x. if (not x) v (rest (site_at B))) (eq-eqb v.number 0 n)))

    passed : Passed B s (length stages)
    passed = by_early B s (length stages) (λ w _. w.number ≡ 0 → Passed B s (length stages)) (λ p _. p) (λ k p r z. absurd (omega (arith, early_some r))) (ap (λ (w : Verdict). w.number) (sym e) ∙ n)

    pub stage_there : (1 ≤ s) × (s ≤ length stages)
    stage_there = (passed.least, omega (arith, passed.most, passed.eight))

    pub plan_there : (S : Site) → S ≡ site_at B → (S.conditions ≤ conditions_most) × (steps_most ≤ length stages) × (get_or stages (s - 1) 0 ≤ greatest_root steps_most stages)
    plan_there S q = (
      subst (λ (S : Site). S.conditions ≤ conditions_most) (sym q) (leb→le (site_at B).conditions conditions_most (accepted B passed.own).0.conditions_in),
      omega (arith, passed.eight),
      greatest_least steps_most stages (s - 1) (omega (arith, passed.least, passed.most)),
    )

-- ---- without a sum that could wrap

pub less_moved : (most g k : ℕ) → g ≤ most → ltb (most - g) k ≡ ltb most (g + k)
less_moved most g k h = by_test (ltb (most - g) k) (λ b. b ≡ ltb most (g + k))
    (λ t. sym (lt-ltb most (g + k) (omega (arith, ltb→lt (most - g) k t))))
    (λ t. sym (le-ltb most (g + k) (omega (arith, nltb→le (most - g) k t))))
