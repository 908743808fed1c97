-- Every outcome is one row, and a row decides.
use Rattle.std.specs.Prelude.{◌≡◌, ℕ, eqb}
use Rattle.std.proofs.Math.Path.{ap}
use Rattle.std.proofs.Common.{◌∙◌}
use mathlib.Core.List.{List}
use Rattle.whole.specs.Cases.{if}
use Rattle.theory.specs.Verdict.{Verdict, from_to}
use Rattle.theory.specs.Load.{site_at}
use Rattle.theory.specs.Rows.{Admitted}
use Rattle.theory.proofs.laws.Rows.{by_early, admitted, admitted_is, early_is, early_some, if_no, some_not}
use Rattle.model_find.specs.Find.{FindOut, refused_find, trim, bearers, found_among, find}
use Rattle.model_find.specs.Statements.{Sent, Carries, FindRow, find_0, find_1_10, find_18, find_19}
use Rattle.model_find.proofs.laws.Spaces.{sent_is, trim_sent}
use Rattle.model_find.proofs.laws.Bearers.{TellsBearers, tells_none, tells_one, tells_several, tells, told_is, bearers_listed}

module _ (B y : List ℕ) where
  -- those that carry it, from 1 on
  abbrev pub those : List ℕ → List ℕ
  those x = bearers B x (from_to 1 (site_at B).actions)

  -- what is told of them is a row
  told_row : Admitted B 1 8 → {o : FindOut} → TellsBearers (Carries B (trim y)) o → FindRow B y o
  told_row d (tells_none f) = find_18 d (trim_sent y) f
  told_row d (tells_one p f) = find_0 d (trim_sent y) p f
  told_row d (tells_several p q n) = find_19 d (trim_sent y) p q n

  pub find_row : FindRow B y (find B y)
  unfolding find
  find_row = by_early B 1 8 (λ v b. FindRow B y (if b (found_among (those (trim y))) (refused_find v.number v.place)))
      (λ p. told_row (admitted p) (tells (those (trim y)) (bearers_listed B (trim y)))) (λ k p r. find_1_10 r)

  from_early : Verdict → FindOut
  from_early v = if (eqb v.number 0) (found_among (those (trim y))) (refused_find v.number v.place)

  -- an accepted model: those that carry the name sent decide
  pub find_told : {x : List ℕ} {o : FindOut} → Admitted B 1 8 → Sent y x → TellsBearers (Carries B x) o → find B y ≡ o
  unfolding find from_early
  find_told {x} d s t = ap from_early (admitted_is d) ∙ ap (λ (x : List ℕ). found_among (those x)) (sent_is s) ∙ told_is (those x) (bearers_listed B x) t

  -- finding is each of its rows
  pub find_is : {o : FindOut} → FindRow B y o → find B y ≡ o
  unfolding find from_early
  find_is (find_0 d s p f) = find_told d s (tells_one p f)
  find_is (find_1_10 {k = k} r) = ap from_early (early_is r) ∙ if_no (eqb k 0) _ _ (some_not k (early_some r))
  find_is (find_18 d s f) = find_told d s (tells_none f)
  find_is (find_19 d s p q n) = find_told d s (tells_several p q n)
