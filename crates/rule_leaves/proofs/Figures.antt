-- One leaf's numbers as the code computes them.
use mathlib.Core.Path.{◌≡◌, ap, ap₂, ◌∙◌}
use Prim.Native.Nat.{ℕ, ◌^◌, ◌≤◌, ◌<◌}
use native.Mathlib.Omega.{arith}
use lib.IntN.{ℤ, pos, nat_abs, ◌+ℤ◌, ◌-ℤ◌}
use lib.ListN.{length, take}
use lib.Seq.{take-set-le, get_or-set_same}
use lib.Signed.{mag}
use mir.Syntax.{w64}
use mir.Val.{SFits, to_z}
use Rattle.whole.specs.Linears.{numbers}
use Rattle.whole.specs.Within.{Small}
use Rattle.whole.proofs.Signed.{R, back, small_fits}
use Rattle.whole.proofs.Laws.{sum_fits, difference_fits}
use Rattle.whole.proofs.Loops.{add_is}
use Rattle.table.specs.declared.Node.{Node}
use Rattle.theory.specs.Diagram.{Linear}
use Rattle.theory.specs.Widths.{levels_most, weights_most, actions_most}
use Rattle.rule_node.specs.Nodes.{linear_held, constant_of, Nums}
use Rattle.rule_leaves.specs.Leaves.{with_constant, shift_node, complement_node, number_node}

fits : (z : ℤ) → mag z < 2 ^ 63 → SFits w64 z
fits z f = record { sfits = f }

-- ---- these rules keep a leaf's coefficients

module _ (x : Node) where
  abbrev k : ℤ
  k = constant_of x

  pub shift_node_is : (c : ℤ) → SFits w64 c → Nums x × Small c → with_constant x (R (R k +ℤ R c)) ≡ shift_node c x
  unfolding shift_node
  shift_node_is c fc s = ap (with_constant x) (add_is k c (s.0.each levels_most) s.1)

  module _ (W : ℕ) (s : Nums x × (W ≤ weights_most)) where
    word : to_z w64 W ≡ pos W
    word = back (pos W) (record { sfits = let q = s.1 in omega arith })

    fk : SFits w64 k
    fk = small_fits k (s.0.each levels_most)

    complement_is : R (to_z w64 W -ℤ R k) ≡ pos W -ℤ k
    complement_is =
        let q = s.1 in
        back (to_z w64 W -ℤ R k) (difference_fits (pos W) k (record { sfits = omega arith }) fk (record { small = omega arith }, s.0.each levels_most))
        ∙ ap₂ ◌-ℤ◌ word (back k fk)

    pub complement_node_is : with_constant x (R (to_z w64 W -ℤ R k)) ≡ complement_node W x
    unfolding complement_node
    complement_node_is = ap (with_constant x) complement_is

  pub number_node_is : (a : ℕ) → a ≤ actions_most → ◌≡◌ {A = Node} (record { kind = pos 0; n = x.n; high = to_z w64 a; low = pos 0 }) (number_node a x)
  unfolding number_node
  number_node_is a h = λ i. record { kind = pos 0; n = x.n; high = back (pos a) (record { sfits = omega arith }) i; low = pos 0 }

-- the sum and the difference fit
pub shift_fits : (k c : ℤ) → mag k < 2 ^ 63 → SFits w64 c → Small k → Small c → SFits w64 (R k +ℤ R c)
shift_fits k c fk fc sk sc = sum_fits k c (fits k fk) fc (sk, sc)

pub complement_fits : (k : ℤ) (W : ℕ) → mag k < 2 ^ 63 → Small k → W ≤ weights_most → SFits w64 (to_z w64 W -ℤ R k)
complement_fits k W fk sk h = difference_fits (pos W) k (record { sfits = omega arith }) (fits k fk) (record { small = omega arith }, sk)

-- a number passed on
pub small_as : (c : ℤ) {z : ℤ} → mag c < 2 ^ 63 → c ≡ z → Small z → Small (R c)
small_as c f e s = record { small = let q = ap nat_abs (back c (fits c f) ∙ e) in let r = s.small in omega arith }

-- the linear of a leaf with another constant
pub with_lin : (x : Node) (z : ℤ) → length x.n ≡ numbers → ◌≡◌ {A = Linear} (linear_held (with_constant x z)) (record { coeffs = take levels_most x.n; const = z })
unfolding linear_held
with_lin x z n = λ i. record { coeffs = take-set-le levels_most x.n levels_most z (omega arith) i; const = get_or-set_same x.n levels_most z (pos 0) (omega arith) i }
