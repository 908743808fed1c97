-- "States and values": reading a value and an action from tables, as one function of its inputs.
use Rattle.std.specs.Prelude.{Bool, true, false, ◌&&◌, List, [], ◌∷◌, ℕ, zero, suc, ◌+◌, ◌-◌, ◌*◌, ◌/◌, ◌%◌, ◌^◌, ◌<◌, T, eqb, ltb, leb, ℤ, pos, negsuc, nat_abs, ◌+ℤ◌, ◌*ℤ◌, length, get_or, take, drop}
use Rattle.std.proofs.Common.{arith}
use Rattle.std.specs.Int.Signed.{le_z}
use Rattle.whole.specs.Cases.{if, both}
use Rattle.whole.specs.Int.{up}
use Rattle.whole.specs.Numerator.{words}
use Rattle.whole.specs.declared.Numerator.{Numerator}
use Rattle.theory.specs.Widths.{node_words, levels_most}
use Rattle.theory.specs.Diagram.{Linear, zeros}
use Rattle.theory.specs.Total.{Total, num, none}
use Rattle.theory.specs.Meaning.{State, nth, dot}
use Rattle.theory.specs.Valid.{small_linear}
use Rattle.theory.specs.Verdict.{or}
use Rattle.theory.specs.Load.{site_at}
use Rattle.theory.specs.Solve.{early}

-- "A state is a mask (bit i−1 for condition i), eight signed 32-bit numerators and a signed 32-bit denominator D."
pub record Asked : Type 0 where
  pub mask : ℕ
  pub nums : List ℤ
  pub den : ℤ

-- "13: D < 1, mask bit n or above, nonzero numerator beyond m"
unfoldable pub accepted : ℕ → ℕ → Asked → Bool
accepted m n q = le_z (pos 1) q.den && (ltb q.mask (2 ^ n) && zeros (drop m q.nums))

-- the conditions that a mask spells, the first first
unfoldable pub bits : ℕ → ℕ → List Bool
bits zero mask = []
bits (suc n) mask = eqb (mask % 2) 1 ∷ bits n (mask / 2)

-- D is 1 or more
pub den_above : (z : ℤ) → T (le_z (pos 1) z) → 0 < up z
den_above (pos zero) t = absurd t
den_above (pos (suc n)) t = omega arith
den_above (negsuc n) t = absurd t

-- the state that an accepted one spells
unfoldable pub state_of : (m n : ℕ) (q : Asked) → T (accepted m n q) → State
unfolding accepted
state_of m n q t = record {
  conditions = bits n q.mask;
  nums = take m q.nums;
  den = up q.den;
  D>0 = den_above q.den (both (le_z (pos 1) q.den) (ltb q.mask (2 ^ n) && zeros (drop m q.nums)) t).0;
}

-- ---- a node's words

-- word i of node r, nodes numbered from 1
abbrev pub node_word : List ℤ → ℕ → ℕ → ℤ
node_word W r i = get_or W ((r - 1) * node_words + i) (pos 0)

-- "eight coefficients, constant" of node r
unfoldable pub node_linear : List ℤ → ℕ → Linear
node_linear W r = record { coeffs = take levels_most (drop ((r - 1) * node_words + 1) W); const = node_word W r (levels_most + 1) }

-- "high", or a leaf's action
abbrev pub high_of : List ℤ → ℕ → ℤ
high_of W r = node_word W r (levels_most + 2)

-- "low"
abbrev pub low_of : List ℤ → ℕ → ℤ
low_of W r = node_word W r (levels_most + 3)

-- z is 1 to n
unfoldable pub among_ℤ : ℕ → ℤ → Bool
among_ℤ n z = le_z (pos 1) z && le_z z (pos n)

-- "or a branch is not from 1 to below its node"
unfoldable pub good_branches : List ℤ → ℕ → Bool
good_branches W r = among_ℤ (r - 1) (high_of W r) && among_ℤ (r - 1) (low_of W r)

-- "a nonzero word where the layout has zero", an action not 1 to A
unfoldable pub good_leaf_row : ℕ → List ℤ → ℕ → Bool
good_leaf_row A W r = small_linear (node_linear W r) && (among_ℤ A (high_of W r) && zeros (low_of W r ∷ []))

-- a condition not 1 to n
unfoldable pub good_condition_row : ℕ → List ℤ → ℕ → Bool
good_condition_row n W r =
    among_ℤ n (node_word W r 1) && (zeros (take levels_most (drop ((r - 1) * node_words + 2) W)) && good_branches W r)

-- "has a number outside ±(2⁶² − 1)"
unfoldable pub good_test_row : List ℤ → ℕ → Bool
good_test_row W r = small_linear (node_linear W r) && good_branches W r

-- a leaf "none": "all other words zero"
unfoldable pub good_none_row : List ℤ → ℕ → Bool
good_none_row W r = zeros (take (node_words - 1) (drop ((r - 1) * node_words + 1) W))

-- 14 does not apply to node r: inside the table, "a kind not 0 to 2", nor 3, "no cause for 14 now"
unfoldable pub good_row : ℕ → ℕ → List ℤ → ℕ → Bool
good_row n A W r = leb (r * node_words) (length W) && elim (node_word W r 0) [
  | pos k ↦ if (eqb k 0) (good_leaf_row A W r) (if (eqb k 1) (good_condition_row n W r) (if (eqb k 2) (good_test_row W r) (if (eqb k 3) (good_none_row W r) false)))
  | negsuc k ↦ false
]

-- ---- the walk

-- a linear times D at a state as it is asked
unfoldable pub numerator_of : Asked → Linear → ℤ
numerator_of q p = dot p.coeffs q.nums +ℤ p.const *ℤ q.den

-- the branch that a state takes at a node that is no leaf
unfoldable pub taken : ℕ → Asked → List ℤ → ℕ → ℕ
taken n q W r =
    let high? = if (eqb (nat_abs (node_word W r 0)) 1)
    (nth (bits n q.mask) (nat_abs (node_word W r 1)))
    (le_z (numerator_of q (node_linear W r)) (pos 0)) in
    nat_abs (if high? (high_of W r) (low_of W r))

-- a node of kind k is a leaf: 0, or 3, a leaf "none"
unfoldable pub ends : ℕ → Bool
ends k = or (eqb k 0) (eqb k 3)

-- the leaf that the walk ends at, 0 where a node on it is refused; branches lie below their nodes, so r steps are enough
unfoldable pub walk : ℕ → ℕ → Asked → List ℤ → ℕ → ℕ → ℕ
walk n A q W zero r = 0
walk n A q W (suc k) r = elim (good_row n A W r) [
  | true ↦ if (ends (nat_abs (node_word W r 0))) r (walk n A q W k (taken n q W r))
  | false ↦ 0
]

-- ---- the outcome

-- number and place, the action, and "The numerator .. held in two 64-bit words"
pub record ValueOut : Type 0 where
  pub number : ℕ
  pub place : ℕ
  pub action : ℕ
  pub numerator : Numerator

-- "All else that a refused call returns is zero."
abbrev pub refused_value : ℕ → ℕ → ValueOut
refused_value k p = record { number = k; place = p; action = 0; numerator = words (pos 0) }

-- a total and the action that has it: ""None" reads as numerator 0, action 0"
unfoldable pub answered : Total → ℕ → ValueOut
answered (num z) a = record { number = 0; place = 0; action = a; numerator = words z }
answered none a = record { number = 0; place = 0; action = 0; numerator = words (pos 0) }

-- what is read at the leaf that the walk ends at; the words of a leaf "none" are zero
unfoldable pub value_at : Asked → List ℤ → ℕ → ValueOut
value_at q W r = if (eqb r 0) (refused_value 14 0) (record {
  number = 0;
  place = 0;
  action = nat_abs (high_of W r);
  numerator = words (numerator_of q (node_linear W r));
})

-- "Order: 10, 9, the model by offset .., then 16, 13, 15, 14"
unfoldable pub value_of : List ℕ → List ℤ → List ℕ → ℕ → Asked → ValueOut
value_of B nodes stages steps q =
    let v = early B steps (length stages) in
    let S = site_at B in
    let root = get_or stages (steps - 1) 0 in
    if (eqb v.number 0)
    (if (accepted S.levels S.conditions q)
    (if (eqb root 0) (refused_value 15 0) (value_at q nodes (walk S.conditions S.actions q nodes root root)))
    (refused_value 13 0))
    (refused_value v.number v.place)
