-- A chance of an accepted model is a weight 0 to W at every state; so all weights of a state sum to Wⁿ.
use Rattle.std.specs.Prelude.{◌≡◌, refl, ◌&&◌, false, ℕ, ◌*◌, ◌^◌, ◌≤◌, T, ℤ, negsuc, ◌*ℤ◌}
use Rattle.std.proofs.Common.{sym, ◌∙◌, ⊎_elim, leb→le}
use Rattle.std.proofs.Math.Path.{ap, subst}
use mathlib.Core.List.Memᴰ
use mathlib.Core.List.{List, [], ◌∷◌, map, Memᴰ}
use Rattle.std.proofs.Math.IntN.{pos}
use Rattle.std.proofs.Math.ListN.{length, length-map}
use Rattle.std.specs.Int.Signed.{le_z}
use Rattle.whole.specs.Cases.{both}
use Rattle.whole.specs.Int.{up}
use Rattle.theory.specs.Diagram.{Leaf, lin_of, permitted, Tree, zeros}
use Rattle.theory.specs.Total.{num}
use Rattle.theory.specs.Process.{Action}
use Rattle.theory.specs.Loss.{sum}
use Rattle.theory.specs.Meaning.{Model, State, action_at, numbers_from, Env, env, at, worth_at, level_at, chance_at, weight, settings, process}
use Rattle.theory.specs.Valid.{all_nodes, good_test, level_leaf, weight_leaf, valid_action, valid}
use Rattle.theory.specs.Load.{model}
use Rattle.theory.proofs.laws.Rules.{all_each}
use Rattle.theory.proofs.laws.Valid.{level_permitted, weight_level, AcceptedAction, accepted, valid_actions}
use Rattle.theory.proofs.laws.AcceptedModel.{accepted_valid}
use Rattle.theory.proofs.laws.Values.{value_constant, permitted_at}
use Rattle.theory.proofs.laws.Expectation.{at_good}
use Rattle.theory.proofs.laws.Plain.{actions_in_order, first_action}
use Rattle.theorems.specs.Demands.{ChancesWithin, WeightsSum}
use Rattle.theorems.proofs.laws.Weights.{weights_sum}

-- ---- a leaf of a chance

-- what a weight from 0 to W is
record WeighsLeaf (W : ℕ) (f : Leaf) : Type 0 where
  allowed : T (permitted f)
  constant : T (zeros (lin_of f).coeffs)
  least : (lin_of f).const ≡ pos (up (lin_of f).const)
  most : up (lin_of f).const ≤ W

from_zero : (z : ℤ) → T (le_z (pos 0) z) → z ≡ pos (up z)
from_zero (pos n) t = refl
from_zero (negsuc n) t = absurd t

to_most : (W : ℕ) (z : ℤ) → T (le_z (pos 0) z) → T (le_z z (pos W)) → up z ≤ W
to_most W (pos n) t u = leb→le n W u
to_most W (negsuc n) t u = absurd t

weighs : (W : ℕ) (f : Leaf) → T (weight_leaf W f) → WeighsLeaf W f
unfolding weight_leaf
weighs W f t =
    let c = (lin_of f).const in
    let d = both (zeros (lin_of f).coeffs) (le_z (pos 0) c && le_z c (pos W)) (both (level_leaf f) _ t).1 in
    let e = both (le_z (pos 0) c) (le_z c (pos W)) d.1 in
    record { allowed = level_permitted f (weight_level W f t); constant = d.0; least = from_zero c e.0; most = to_most W c e.0 e.1 }

-- ---- the actions of a model

map_member : {A C : Type 0} (f : A → C) (l : List A) (a : A) → Memᴰ a l → Memᴰ (f a) (map f l)
map_member f [] a m = absurd (Memᴰ.not-nil m)
map_member f (x ∷ l) a m = ⊎_elim (λ i. Memᴰ.head (ap f i)) (λ i. Memᴰ.tail (map_member f l a i)) (Memᴰ.cases_cons m)

member_map : {A C : Type 0} (f : A → C) (P : C → Type 0) (l : List A) → ((a : A) → Memᴰ a l → P (f a)) → (c : C) → Memᴰ c (map f l) → P c
member_map f P [] g c m = absurd (Memᴰ.not-nil m)
member_map f P (x ∷ l) g c m = ⊎_elim (λ i. subst P (sym i) (g x (Memᴰ.head refl))) (λ i. member_map f P l (λ a n. g a (Memᴰ.tail n)) c i) (Memᴰ.cases_cons m)

module _ (M : Model) (v : T (valid M)) where
  -- each is accepted
  action_accepted : (a : ℕ) → Action (process M) a → AcceptedAction M.conditions M.weights (action_at M a)
  unfolding process
  action_accepted a m = accepted M.levels M.conditions M.weights (action_at M a)
      (all_each (valid_action M.levels M.conditions M.weights) (M.first ∷ M.others) (valid_actions M v) (action_at M a)
      (⊎_elim (λ i. Memᴰ.head (ap (action_at M) i ∙ first_action M))
      (λ i. Memᴰ.tail (subst (Memᴰ (action_at M a)) (actions_in_order M) (map_member (action_at M) (numbers_from 2 M.others) a i)))
      (Memᴰ.cases_cons m)))

  module _ (a : ℕ) (i : Action (process M) a) where
    chance_weighs : (C : Tree) → Memᴰ C (action_at M a).chances → (e : Env) → WeighsLeaf M.weights (at e C)
    chance_weighs C m e = weighs M.weights (at e C) (at_good e (good_test M.conditions false) (weight_leaf M.weights) C
        (all_each (all_nodes (good_test M.conditions false) (weight_leaf M.weights)) (action_at M a).chances (action_accepted a i).chances C m))

    chance_within : (C : Tree) → Memᴰ C (action_at M a).chances → (s : State)
        → (worth_at (env s []) C ≡ num (pos (chance_at (env s []) C * s.den))) × (chance_at (env s []) C ≤ M.weights)
    unfolding level_at chance_at env
    chance_within C m s =
        let w = chance_weighs C m (env s []) in
        (permitted_at (env s []) C w.allowed ∙ ap num (value_constant (env s []) (lin_of (at (env s []) C)) w.constant ∙ ap (λ (z : ℤ). z *ℤ pos s.den) w.least), w.most)

    pub state_weights : (s : State) → sum ((process M).weight a s) (process M).settings ≡ M.weights ^ M.conditions
    unfolding process
    state_weights s =
        let ws = map (chance_at (env s [])) (action_at M a).chances in
        let n : length ws ≡ M.conditions = length-map (action_at M a).chances (chance_at (env s [])) ∙ (action_accepted a i).count in
        subst (λ (n : ℕ). sum (weight M.weights ws) (settings n) ≡ M.weights ^ n) n
        (weights_sum M.weights ws (member_map (chance_at (env s [])) (λ w. w ≤ M.weights) (action_at M a).chances (λ C m. (chance_within C m s).1)))

pub chances_within : ChancesWithin
chances_within B v a i C m s = chance_within (model B) (accepted_valid B v) a i C m s

pub state_weights_sum : WeightsSum
state_weights_sum B v a i s = state_weights (model B) (accepted_valid B v) a i s
