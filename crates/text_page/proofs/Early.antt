-- What the early refusals leave, of a horizon and of each stage up to it.
use mathlib.Core.Path.{◌≡◌, ap}
use mathlib.Core.List.{List}
use Prim.Native.Nat.{ℕ, ◌≤◌}
use native.Mathlib.Omega.{arith}
use lib.Dec.{T, leb, leb→le}
use Rattle.whole.specs.Cases.{both}
use Rattle.theory.specs.Valid.{among}
use Rattle.theory.specs.Verdict.{Verdict}
use Rattle.theory.specs.Load.{site_at}
use Rattle.theory.specs.Solve.{early}
use Rattle.theory.proofs.laws.AcceptedModel.{accepted_site}
use Rattle.theory.proofs.laws.Rows.{Passed, by_early, admitted, admitted_is, early_some}

module _ (B : List ℕ) (words : ℕ) where
  pub passed : (h : ℕ) → (early B h words).number ≡ 0 → Passed B h words
  passed h = by_early B h words (λ v b. v.number ≡ 0 → Passed B h words) (λ p _. p) (λ k p r e. absurd (omega (arith, early_some r)))

  some_among : (n w : ℕ) → T (among n w) → 1 ≤ w
  unfolding among
  some_among n w t = leb→le 1 w (both (leb 1 w) (leb w n) t).0

  pub weights_some : (h : ℕ) → (early B h words).number ≡ 0 → 1 ≤ (site_at B).weights
  weights_some h e = some_among 100 (site_at B).weights (accepted_site B (passed h e).own).0.weights_in

  -- a stage up to the horizon
  pub stage_passed : (H h : ℕ) → (early B H words).number ≡ 0 → 1 ≤ h → h ≤ H → (early B h words).number ≡ 0
  stage_passed H h e a b =
      let p = passed H e in
      let d : Passed B h words = record { eight = p.eight; least = a; most = omega (arith, p.most); bytes = p.bytes; own = p.own } in
      ap (λ (v : Verdict). v.number) (admitted_is (admitted d))
