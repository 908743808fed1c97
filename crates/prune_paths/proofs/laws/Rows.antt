-- Every outcome is one row, and each row is the outcome.
use Rattle.std.specs.Prelude.{◌≡◌, refl, Bool, not, List, ℕ, ◌-◌, T, eqb, ltb, ℤ, length}
use Rattle.std.proofs.Common.{sym, ◌∙◌, arith, ne_eqb, T_not, eqb→eq, ltb→lt, lt→ltb, nltb→le}
use Rattle.std.proofs.Math.Path.{ap, subst}
use Rattle.std.proofs.Math.Bool.{true, false}
use Rattle.whole.specs.Cases.{if, by_test, is_true}
use Rattle.theory.specs.Valid.{all}
use Rattle.theory.specs.Verdict.{Verdict, refusal, from_to}
use Rattle.theory.specs.Load.{site_at}
use Rattle.theory.specs.Solve.{room, early}
use Rattle.theory.specs.Value.{good_row}
use Rattle.theory.specs.Rows.{Admitted, EarlyRow}
use Rattle.theory.proofs.laws.Fits.{node_fits, fits_good, misfits}
use Rattle.theory.proofs.laws.AcceptedModel.{positive}
use Rattle.theory.proofs.laws.Rows.{Passed, admitted, by_early, early_some, early_is, admitted_is, room_holds, room_is, if_yes, if_no, some_not, zero_is, not_all, all_from, from_each}
use Rattle.prune_paths.specs.Prune.{along, shaped, proves, path_number, path_needs, PruneOut, prune_refusal, pruned, prune}
use Rattle.prune_paths.specs.PruneRows.{root_word, last_row, diagram, Rooted, Tabled, Shaped, Proved, untouched, PruneRow, prune_0, prune_1_10, prune_15, prune_14, prune_22, prune_21, prune_12, PruneRows}
use Rattle.prune_paths.proofs.laws.Reads.{refusal_by}

no : (b : Bool) → (T b → ⊥) → b ≡ false
no true f = absurd (f tt)
no false f = refl

module _ (B : List ℕ) (nodes : List ℤ) (stages work : List ℕ) (s : ℕ) (turns : List ℕ) (ks : List ℤ) where
  abbrev Row : PruneOut → Type 0
  Row = PruneRow B nodes stages work s turns ks

  abbrev root : ℕ
  root = root_word B nodes stages work s turns ks

  abbrev last : ℕ
  last = last_row B nodes stages work s turns ks

  abbrev N : ℕ
  N = room (length nodes) (length work)

  -- every node is good; the path has its shape; it is proved; it needs more than there is
  abbrev good? : Bool
  good? = all (good_row (site_at B).conditions (site_at B).actions nodes) (from_to 1 last)

  abbrev shape? : Bool
  shape? = shaped turns (diagram B nodes stages work s turns ks) ks

  abbrev proof? : Bool
  proof? = proves (along turns (diagram B nodes stages work s turns ks)) ks

  abbrev more? : Bool
  more? = ltb N (path_needs last turns)

  -- the outcome by the verdict
  abbrev left_by : Verdict → PruneOut
  left_by v = if (eqb v.number 0) (pruned nodes stages work s turns) (untouched B nodes stages work s turns ks v.number v.place)

  rooted : Passed B s (length stages) → T (not (eqb root 0)) → Rooted B nodes stages work s turns ks
  rooted p z = record { early = admitted p; some = positive root z }

  tabled : Rooted B nodes stages work s turns ks → T good? → Tabled B nodes stages work s turns ks
  tabled r g = record { rooted = r; rows = λ i d. node_fits _ _ nodes i (all_from (good_row (site_at B).conditions (site_at B).actions nodes) 1 last g i d.0 (omega (arith, d.1))) }

  -- each test in turn
  pub prune_row : Row (prune B nodes stages work s turns ks)
  unfolding prune prune_refusal path_number
  prune_row =
      by_early B s (length stages) (λ v b. Row (left_by (if (not b) v (refusal_by s (eqb root 0) good? shape? proof? more?))))
      (λ p. by_test (eqb root 0) (λ b. Row (left_by (refusal_by s b good? shape? proof? more?)))
      (λ z. prune_15 (admitted p) (eqb→eq root 0 z))
      (λ z. by_test good? (λ b. Row (left_by (refusal_by s false b shape? proof? more?)))
      (λ g. by_test shape? (λ b. Row (left_by (refusal_by s false true b proof? more?)))
      (λ h. by_test proof? (λ b. Row (left_by (refusal_by s false true true b more?)))
      (λ f. let d : Proved B nodes stages work s turns ks = record { shaped = record { tabled = tabled (rooted p z) g; shape = h }; proof = f } in
      by_test more? (λ b. Row (left_by (refusal_by s false true true true b)))
      (λ m. prune_12 d (room_holds (length nodes) (length work)) (ltb→lt N (path_needs last turns) m))
      (λ m. prune_0 d (room_holds (length nodes) (length work)) (nltb→le N (path_needs last turns) m)))
      (λ f. prune_21 (record { tabled = tabled (rooted p z) g; shape = h }) (T_not proof? f)))
      (λ h. prune_22 (tabled (rooted p z) g) (T_not shape? h)))
      (λ g. let d = not_all _ 1 last g in prune_14 (rooted p z) (d.1.0, omega (arith, d.1.1.0)) (misfits _ _ nodes _ d.1.1.1))))
      (λ k p r. subst (λ (b : Bool). Row (if b (pruned nodes stages work s turns) (untouched B nodes stages work s turns ks k p))) (sym (ne_eqb k 0 (λ z. omega (arith, early_some r)))) (prune_1_10 r))

  -- ---- a row decides

  abbrev refuses : Verdict
  refuses = prune_refusal B nodes stages N s turns ks

  passed_is : Admitted B s (length stages) → refuses ≡ refusal_by s (eqb root 0) good? shape? proof? more?
  unfolding prune_refusal path_number
  passed_is d = ap (λ (v : Verdict). if (not (eqb v.number 0)) v (refusal_by s (eqb root 0) good? shape? proof? more?)) (admitted_is d)

  rooted_is : Rooted B nodes stages work s turns ks → refuses ≡ refusal_by s false good? shape? proof? more?
  rooted_is d = passed_is d.early ∙ ap (λ b. refusal_by s b good? shape? proof? more?) (ne_eqb root 0 (λ z. omega (arith, d.some)))

  tabled_is : Tabled B nodes stages work s turns ks → refuses ≡ refusal_by s false true shape? proof? more?
  tabled_is d =
      let g = from_each (good_row (site_at B).conditions (site_at B).actions nodes) 1 last (λ r a b. fits_good _ _ nodes r (d.rows r (a, omega arith))) in
      rooted_is d.rooted ∙ ap (λ b. refusal_by s false b shape? proof? more?) (is_true good? g)

  shaped_is : Shaped B nodes stages work s turns ks → refuses ≡ refusal_by s false true true proof? more?
  shaped_is d = tabled_is d.tabled ∙ ap (λ b. refusal_by s false true b proof? more?) (is_true shape? d.shape)

  proved_is : Proved B nodes stages work s turns ks → refuses ≡ refusal_by s false true true true more?
  proved_is d = shaped_is d.shaped ∙ ap (λ b. refusal_by s false true true b more?) (is_true proof? d.proof)

  left_as : {v : Verdict} → refuses ≡ v → prune B nodes stages work s turns ks ≡ left_by v
  unfolding prune
  left_as e = ap left_by e

  early_refuses : {k p : ℕ} → EarlyRow B s (length stages) k p → refuses ≡ refusal k p
  unfolding prune_refusal path_number
  early_refuses {k} {p} r =
      ap (λ (v : Verdict). if (not (eqb v.number 0)) v (refusal_by s (eqb root 0) good? shape? proof? more?)) (early_is r) ∙ if_yes (not (eqb k 0)) (refusal k p) _ (some_not k (early_some r))

  pub prune_is : {o : PruneOut} → Row o → prune B nodes stages work s turns ks ≡ o
  prune_is (prune_0 d r h) = left_as (proved_is d ∙ ap (λ b. refusal_by s false true true true b) (no more? (λ t. omega (arith, ltb→lt N (path_needs last turns) t, room_is r))))
  prune_is (prune_1_10 {k = k} {p = p} r) = left_as (early_refuses r) ∙ if_no (eqb k 0) _ _ (some_not k (early_some r))
  prune_is (prune_15 d z) = left_as (passed_is d ∙ ap (λ b. refusal_by s b good? shape? proof? more?) (is_true (eqb root 0) (zero_is root z)))
  prune_is (prune_14 {r = r} d i z) = left_as (rooted_is d ∙ ap (λ b. refusal_by s false b shape? proof? more?)
      (no good? (λ t. z (node_fits _ _ nodes r (all_from (good_row (site_at B).conditions (site_at B).actions nodes) 1 last t r i.0 (omega (arith, i.1)))))))
  prune_is (prune_22 d z) = left_as (tabled_is d ∙ ap (λ b. refusal_by s false true b proof? more?) (no shape? z))
  prune_is (prune_21 d z) = left_as (shaped_is d ∙ ap (λ b. refusal_by s false true true b more?) (no proof? z))
  prune_is (prune_12 d r h) = left_as (proved_is d ∙ ap (λ b. refusal_by s false true true true b) (is_true more? (lt→ltb N (path_needs last turns) (omega (arith, room_is r)))))

pub prune_rows : PruneRows
prune_rows B nodes stages work s turns ks o = (λ r. prune_is B nodes stages work s turns ks r, λ e. subst (PruneRow B nodes stages work s turns ks) e (prune_row B nodes stages work s turns ks))
