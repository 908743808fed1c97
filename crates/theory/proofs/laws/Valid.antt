-- Laws of valid models: numbers in range, linears that are wide, leaves, tests that are left as conditions are summed out.
use Rattle.std.specs.Prelude.{◌≡◌, refl, Bool, true, false, not, ◌&&◌, List, [], ◌∷◌, ℕ, zero, suc, ◌-◌, ◌/◌, ◌≤◌, ◌<◌, T, eqb, leb, ℤ, pos, negsuc, neg_ℤ, nat_abs, length}
use Rattle.std.proofs.Common.{ap, ◌∙◌, subst, arith, T_not, eqb→eq, le→leb}
use Rattle.std.proofs.Math.Nat as N
use Rattle.std.proofs.Math.Dec.{eqb_refl, leb→le, nleb→lt}
use Rattle.std.specs.Int.Signed.{quot_z}
use Rattle.whole.specs.Cases.{by_test, both, and_in}
use Rattle.whole.specs.Within.{limit, small}
use Rattle.theory.specs.Widths.{levels_most, conditions_most, actions_most, weights_most}
use Rattle.theory.specs.Diagram.{Linear, Test, now, later, linear, Leaf, some, forbidden, lin_of, act_of, permitted, no_coeffs, zero_linear, plain, add_list, scale_list, ◌⊞◌, ◌⊠◌, quot_list, quotient}
use Rattle.theory.specs.Rules.{is_later}
use Rattle.theory.specs.Meaning.{Action, Model}
use Rattle.theory.specs.Valid.{all, all_nodes, among, small_linear, wide, good_test, good_leaf, level_leaf, stage_leaf, weight_leaf, valid_action, valid}
use Rattle.theory.proofs.laws.Nodes.{ClosedLeaves, GoodTree}

-- ---- 1 to n

pub among_in : (n k : ℕ) → 1 ≤ k → k ≤ n → T (among n k)
unfolding among
among_in n k a b = and_in (leb 1 k) (leb k n) (le→leb 1 k a) (le→leb k n b)

pub among_out : (n k : ℕ) → T (among n k) → (1 ≤ k) × (k ≤ n)
unfolding among
among_out n k t = let d = both (leb 1 k) (leb k n) t in (leb→le 1 k d.0, leb→le k n d.1)

pub other_above : (k j : ℕ) → k ≤ j → T (not (eqb j k)) → suc k ≤ j
other_above k j h n = by_test (leb (suc k) j) (λ _. suc k ≤ j) (λ t. leb→le (suc k) j t)
    (λ t. absurd (T_not (eqb j k) n (subst (λ (x : ℕ). T (eqb j x)) (same (nleb→lt (suc k) j t)) (eqb_refl j))))
  where
    same : j < suc k → j ≡ k
    same g = omega arith

-- ---- numbers and linears

natAbs_neg : (n : ℕ) → nat_abs (neg_ℤ (pos n)) ≡ n
natAbs_neg zero = refl
natAbs_neg (suc n) = refl

quot_le : (z : ℤ) (g : ℕ) → nat_abs (quot_z z (pos g)) ≤ nat_abs z
quot_le (pos a) g = N.div-le_self a g
quot_le (negsuc a) g = rw (natAbs_neg (suc a / g)) (N.div-le_self (suc a) g)

quot_small : (z : ℤ) (g : ℕ) → T (small z) → T (small (quot_z z (pos g)))
unfolding small
quot_small z g t = le→leb (nat_abs (quot_z z (pos g))) limit (N.le_trans (quot_le z g) (leb→le (nat_abs z) limit t))

quot_list_small : (g : ℕ) (l : List ℤ) → T (all small l) → T (all small (quot_list g l))
unfolding all quot_list
quot_list_small g [] t = tt
quot_list_small g (z ∷ l) t =
    let d = both (small z) (all small l) t in
    and_in (small (quot_z z (pos g))) (all small (quot_list g l)) (quot_small z g d.0) (quot_list_small g l d.1)

quot_list_length : (g : ℕ) (l : List ℤ) → length (quot_list g l) ≡ length l
unfolding quot_list
quot_list_length g [] = refl
quot_list_length g (z ∷ l) = ap suc (quot_list_length g l)

scale_list_length : (k : ℤ) (l : List ℤ) → length (scale_list k l) ≡ length l
unfolding scale_list
scale_list_length k [] = refl
scale_list_length k (z ∷ l) = ap suc (scale_list_length k l)

add_list_length : (n : ℕ) (l r : List ℤ) → length l ≡ n → length r ≡ n → length (add_list l r) ≡ n
unfolding add_list
add_list_length n [] r a b = b
add_list_length n (z ∷ l) [] a b = a
add_list_length zero (z ∷ l) (y ∷ r) a b = absurd (omega arith)
add_list_length (suc n) (z ∷ l) (y ∷ r) a b = ap suc (add_list_length n l r (omega arith) (omega arith))

-- as many coefficients as there are words for
abbrev pub Long : Linear → Type 0
Long p = length p.coeffs ≡ levels_most

pub wide_long : (p : Linear) → T (wide p) → Long p
unfolding wide small_linear
wide_long p t = eqb→eq (length p.coeffs) levels_most (both (eqb (length p.coeffs) levels_most) (all small p.coeffs && small p.const) t).0

pub wide_small : (p : Linear) → T (wide p) → T (small_linear p)
unfolding wide small_linear
wide_small p t = (both (eqb (length p.coeffs) levels_most) (all small p.coeffs && small p.const) t).1

pub wide_in : (p : Linear) → Long p → T (small_linear p) → T (wide p)
unfolding wide small_linear
wide_in p e t = and_in (eqb (length p.coeffs) levels_most) (all small p.coeffs && small p.const) (rw e (eqb_refl levels_most)) t

-- a test that is divided stays wide
pub quotient_wide : (g : ℕ) (p : Linear) → T (wide p) → T (wide (quotient g p))
unfolding quotient wide small_linear
quotient_wide g p t =
    let e = both (all small p.coeffs) (small p.const) (wide_small p t) in
    wide_in (quotient g p) (quot_list_length g p.coeffs ∙ wide_long p t)
    (and_in (all small (quot_list g p.coeffs)) (small (quot_z p.const (pos g))) (quot_list_small g p.coeffs e.0) (quot_small p.const g e.1))

add_long : (p q : Linear) → Long p → Long q → Long (p ⊞ q)
unfolding ◌⊞◌
add_long p q a b = add_list_length levels_most p.coeffs q.coeffs a b

scale_long : (k : ℤ) (p : Linear) → Long p → Long (k ⊠ p)
unfolding ◌⊠◌
scale_long k p a = scale_list_length k p.coeffs ∙ a

-- ---- leaves

pub leaf_wide : (f : Leaf) → T (good_leaf f) → T (wide (lin_of f))
unfolding good_leaf
leaf_wide f t = (both (wide (lin_of f)) (eqb (act_of f) 0) t).0

pub level_good : (f : Leaf) → T (level_leaf f) → T (good_leaf f)
unfolding level_leaf
level_good f t = (both (permitted f) (good_leaf f) t).1

pub level_permitted : (f : Leaf) → T (level_leaf f) → T (permitted f)
unfolding level_leaf
level_permitted f t = (both (permitted f) (good_leaf f) t).0

pub weight_level : (W : ℕ) (f : Leaf) → T (weight_leaf W f) → T (level_leaf f)
unfolding weight_leaf
weight_level W f t = (both (level_leaf f) _ t).0

pub weight_good : (W : ℕ) (f : Leaf) → T (weight_leaf W f) → T (good_leaf f)
weight_good W f t = level_good f (weight_level W f t)

-- any action
abbrev pub wide_leaf : Leaf → Bool
wide_leaf f = wide (lin_of f)

pub zero_wide : T (wide zero_linear)
unfolding wide no_coeffs all small small_linear
zero_wide = tt

pub stage_wide : (A : ℕ) (f : Leaf) → T (stage_leaf A f) → T (wide (lin_of f))
unfolding stage_leaf lin_of
stage_wide A (some p a) t = (both (wide p) (among A a) t).0
stage_wide A forbidden t = zero_wide

-- a forbidden leaf is one of a reward
pub none_good : T (good_leaf forbidden)
unfolding good_leaf lin_of act_of
none_good = and_in (wide zero_linear) true zero_wide tt

pub plain_good : (p : Linear) → T (wide p) → T (good_leaf (plain p))
unfolding good_leaf lin_of act_of
plain_good p t = and_in (wide p) true t tt

-- what the rules make of good leaves, judged, is good
pub good_closed : ClosedLeaves small good_leaf Long
unfolding small_linear
good_closed = record {
  long = λ f a. wide_long (lin_of f) (leaf_wide f a);
  add = add_long;
  times = scale_long;
  constant = λ p k a. a;
  zero = plain_good _ zero_wide;
  none = none_good;
  judged = λ p l a b. plain_good p (wide_in p l (and_in (all small p.coeffs) (small p.const) a b));
}

-- ---- conditions summed out in order

-- conditions now among n, next_step ones from k to n, and linears l?
unfoldable pub open_test : (Linear → Bool) → ℕ → ℕ → Test → Bool
open_test l? n k (now j) = among n j
open_test l? n k (later j) = leb k j && leb j n
open_test l? n k (linear p) = l? p

module _ (l? : Linear → Bool) (n : ℕ) where
  -- all at first
  pub open_all : ((p : Linear) → T (wide p) → T (l? p)) → (t : Test) → T (good_test n true t) → T (open_test l? n 1 t)
  unfolding open_test good_test among
  open_all w (now j) a = a
  open_all w (later j) a = a
  open_all w (linear p) a = w p a

  pub open_now : ((p : Linear) → T (wide p) → T (l? p)) → (k : ℕ) (t : Test) → T (good_test n false t) → T (open_test l? n k t)
  unfolding open_test good_test
  open_now w k (now j) a = a
  open_now w k (later j) a = absurd a
  open_now w k (linear p) a = w p a

  -- one fewer
  pub open_next : (k : ℕ) (t : Test) → T (open_test l? n k t) → T (not (is_later k t)) → T (open_test l? n (suc k) t)
  unfolding open_test is_later
  open_next k (now j) a b = a
  open_next k (later j) a b = let d = both (leb k j) (leb j n) a in and_in (leb (suc k) j) (leb j n) (le→leb (suc k) j (other_above k j (leb→le k j d.0) b)) d.1
  open_next k (linear p) a b = a

  -- none in the end
  pub open_none : (q? : Test → Bool) → ((j : ℕ) → T (among n j) → T (q? (now j))) → ((p : Linear) → T (l? p) → T (q? (linear p))) → (k : ℕ) → k ≡ suc n
      → (t : Test) → T (open_test l? n k t) → T (q? t)
  unfolding open_test
  open_none q? f g k e (now j) a = f j a
  open_none q? f g k e (later j) a = let d = both (leb k j) (leb j n) a in absurd (omega (arith, leb→le k j d.0, leb→le j n d.1))
  open_none q? f g k e (linear p) a = g p a

-- ---- actions

-- what is used of an action of a valid model
pub record AcceptedAction (n W : ℕ) (x : Action) : Type 0 where
  pub reward : GoodTree (good_test n false) good_leaf x.reward
  pub count : length x.chances ≡ n
  pub chances : T (all (all_nodes (good_test n false) (weight_leaf W)) x.chances)
  pub levels : T (all (all_nodes (good_test n true) level_leaf) x.levels)

pub accepted : (m n W : ℕ) (x : Action) → T (valid_action m n W x) → AcceptedAction n W x
unfolding valid_action
accepted m n W x t =
    let a = both (all_nodes (good_test n false) good_leaf x.reward) _ t in
    let b = both (eqb (length x.chances) n) _ a.1 in
    let c = both (all (all_nodes (good_test n false) (weight_leaf W)) x.chances) _ b.1 in
    let d = both (eqb (length x.levels) m) (all (all_nodes (good_test n true) level_leaf) x.levels) c.1 in
    record { reward = a.0; count = eqb→eq (length x.chances) n b.0; chances = c.0; levels = d.1 }

-- each action is valid
pub valid_actions : (M : Model) → T (valid M) → T (all (valid_action M.levels M.conditions M.weights) (M.first ∷ M.others))
unfolding valid
valid_actions M t =
    let a = both (among levels_most M.levels) _ t in
    let b = both (leb M.conditions conditions_most) _ a.1 in
    let c = both (among weights_most M.weights) _ b.1 in
    (both (all (valid_action M.levels M.conditions M.weights) (M.first ∷ M.others)) _ (both (leb (length M.others) (actions_most - 1)) _ c.1).1).0

-- and so is an end worth
pub valid_end : (M : Model) → T (valid M) → T (all (all_nodes (good_test M.conditions false) level_leaf) M.end)
unfolding valid
valid_end M t =
    let a = both (among levels_most M.levels) _ t in
    let b = both (leb M.conditions conditions_most) _ a.1 in
    let c = both (among weights_most M.weights) _ b.1 in
    (both (all (valid_action M.levels M.conditions M.weights) (M.first ∷ M.others)) _ (both (leb (length M.others) (actions_most - 1)) _ c.1).1).1
