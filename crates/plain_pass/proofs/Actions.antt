-- The diagrams of a model's actions are those found at their slots, and a chance is a weight out of W.
use mathlib.Core.Path.{◌≡◌, ap, ◌∙◌}
use mathlib.Core.Bool.{false, ◌&&◌}
use mathlib.Core.List.{List, map}
use Prim.Native.Nat.{ℕ, zero, suc, ◌+◌, ◌-◌, ◌≤◌}
use native.Mathlib.Omega.{arith}
use lib.Dec.{T, leb→le}
use lib.IntN.{ℤ, pos, negsuc}
use lib.Signed.{le_z}
use Rattle.whole.specs.Cases.{both}
use Rattle.whole.specs.Int.{up}
use Rattle.theory.specs.Diagram.{Tree, Leaf, lin_of, zeros}
use Rattle.theory.specs.Meaning.{Action, Model, Env, nth_action, action_at, at, chance_at}
use Rattle.theory.specs.Valid.{good_test, level_leaf, weight_leaf}
use Rattle.theory.specs.Verdict.{chance_slot, from_to, verdict}
use Rattle.theory.specs.Load.{action_of, find_slot, model, model_of, site_at}
use Rattle.theory.proofs.laws.Expectation.{at_good}
use Rattle.theory.proofs.laws.AcceptedModel.{fits, leaf_as, accepted, model_loaded}
use Rattle.theory.specs.Load.{loaded_entries}

nth_from : (φ : ℕ → Action) (b k j : ℕ) → j ≤ k → nth_action (φ b) (map φ (from_to (suc b) k)) j ≡ φ (b + j)
unfolding nth_action from_to
nth_from φ b k zero h = ap φ (omega arith)
nth_from φ b zero (suc j) h = absurd (omega arith)
nth_from φ b (suc k) (suc j) h = nth_from φ (suc b) k j (omega arith) ∙ ap φ (omega arith)

-- action a of the model that bytes spell
pub action_is : (B : List ℕ) (a : ℕ) → 1 ≤ a → a ≤ (site_at B).actions → action_at (model B) a ≡ action_of (site_at B) (loaded_entries B) a
unfolding action_at model_of
action_is B a u v =
    let S = site_at B in
    let E = loaded_entries B in
    ap (λ (M : Model). action_at M a) (model_loaded B) ∙ nth_from (action_of S E) 1 (S.actions - 1) (a - 1) (omega arith) ∙ ap (action_of S E) (omega arith)

up_within : (z : ℤ) (W : ℕ) → T (le_z z (pos W)) → up z ≤ W
up_within (pos n) W t = leb→le n W t
up_within (negsuc n) W t = omega arith

-- a chance of an accepted model
pub chance_within : (B : List ℕ) → (verdict B).number ≡ 0 → (a k : ℕ) → 1 ≤ a → a ≤ (site_at B).actions → 1 ≤ k → k ≤ (site_at B).conditions → (e : Env)
    → chance_at e (find_slot (chance_slot a k) (loaded_entries B)) ≤ (site_at B).weights
unfolding fits leaf_as weight_leaf chance_at
chance_within B v a k u l h n e =
    let S = site_at B in
    let F : Tree = find_slot (chance_slot a k) (loaded_entries B) in
    let f : Leaf = at e F in
    let d = (both (level_leaf f) _ (at_good e (good_test S.conditions false) (weight_leaf S.weights) F ((accepted B v).1.chances a k u l h n).good)).1 in
    let c = (both (zeros (lin_of f).coeffs) (le_z (pos 0) (lin_of f).const && le_z (lin_of f).const (pos S.weights)) d).1 in
    up_within (lin_of f).const S.weights (both (le_z (pos 0) (lin_of f).const) (le_z (lin_of f).const (pos S.weights)) c).1
