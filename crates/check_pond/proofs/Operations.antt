-- Laws of single operations: what a rule asks of its places, and what an operation leaves standing.
use mathlib.Core.Path.{◌≡◌, sym, subst}
use mathlib.Core.Bool.{true}
use mathlib.Core.List.{List}
use Prim.Native.Nat.{ℕ, ◌+◌, ◌≤◌, ◌<◌}
use native.Mathlib.Numerals.{add-one}
use native.Mathlib.Omega.{arith}
use borrow.Author.Tests.{ltb-true}
use lib.Dec.{ltb}
use lib.IntN.{ℤ}
use lib.ListN.{length}
use Rattle.theory.specs.Widths.{levels_most, actions_most}
use Rattle.theory.specs.Widths.{roots_most}
use Rattle.theory.specs.Verdict.{verdict}
use Rattle.load_model.specs.ModelRoots.{Loads}
use Rattle.load_model.specs.declared.Done.{Done}
use Rattle.solve_operation.specs.Operation.{FitsRule, Standing, Operated}
use Rattle.solve_total.specs.StageTable.{model_size}
use Rattle.solve_operation.specs.declared.Rule.{Rule}
use Rattle.solve_operation.specs.declared.Rule.TheVariants.{Zero, Levels, Reward, Best}
use Rattle.solve_operation.specs.declared.Run.{Run}
use Rattle.solve_value_iteration.proofs.Start.{size_few, loaded_standing}
use Rattle.solve_value_iteration.proofs.Parts.{brought}

-- ---- the places of a rule are held

module _ (held : ℕ) (rule : Rule) where
  pub zero_fits : rule ≡ Zero → FitsRule held rule
  unfolding FitsRule
  zero_fits e = subst (FitsRule held) (sym e) (let z : 0 ≤ held = omega arith in z)

  pub levels_fit : (at m f : ℕ) → rule ≡ Levels at m f → m ≡ 1 → at < held → ltb f held ≡ true → FitsRule held rule
  unfolding FitsRule
  levels_fit at m f e o h t =
      let p : at + m ≤ held = omega arith in
      let q : 0 < m = omega arith in
      let r : m ≤ levels_most = omega arith in
      subst (FitsRule held) (sym e) (p, q, r, ltb-true f held t)

  pub reward_fits : (v f weights exponent action : ℕ) → rule ≡ Reward v f weights exponent action → action ≤ actions_most → v < held → ltb f held ≡ true → FitsRule held rule
  unfolding FitsRule
  reward_fits v f weights exponent action e a h t = subst (FitsRule held) (sym e) (h, ltb-true f held t, a)

  pub best_fits : (f g : ℕ) → rule ≡ Best f g → f < held → ltb g held ≡ true → FitsRule held rule
  unfolding FitsRule
  best_fits f g e h t = subst (FitsRule held) (sym e) (h, ltb-true g held t)

-- ---- from step to step

-- the model's roots are held
pub loaded : {B : List ℕ} {cap : ℕ} {l : List ℤ} {w R : List ℕ} {r : Done} {held : ℕ} → (verdict B).number ≡ 0 → Loads B cap l w R r → length R ≡ roots_most → held ≡ model_size B → r.stop ≡ 0 → Standing cap l w r.count R held
loaded {B} {cap} {l} {w} {R} {r} v L n e ok = subst (Standing cap l w r.count R) (sym e) (loaded_standing (brought L) ok (let f = size_few B v in omega arith))

-- the result is the last root that is held
pub stepped : {cap p : ℕ} {l : List ℤ} {n : ℕ} {R : List ℕ} {held to : ℕ} {rule : Rule} {l' : List ℤ} {w' R' : List ℕ} {r : Run}
    → Operated cap p l n R held to rule l' w' R' r → length R' ≡ length R → to < length R → r.stop ≡ 0 → Standing cap l' w' r.count R' (to + 1)
stepped {cap} {to = to} {l' = l'} {w'} {R'} {r} O k h ok =
    let H = O.rooted ok in
    subst (Standing cap l' w' r.count R') (sym (add-one to)) (record { good = H.good; space = H.space; below = H.below; few = omega arith })
