-- The rules by name, as they ask for the rule by number.
use mathlib.Core.Path.{◌≡◌, sym, ap, ap₂, ◌∙◌, subst}
use mathlib.Core.List.{List}
use Prim.Native.Nat.{ℕ, ◌≤◌, ◌<◌}
use native.Mathlib.Omega.{arith}
use lib.IntN.{ℤ}
use mir.Syntax.{w64}
use mir.Val.{SFits}
use Rattle.table.specs.Table.{Answer}
use Rattle.whole.specs.Within.{Small}
use Rattle.whole.proofs.Signed.{R, back}
use Rattle.theory.specs.Widths.{weights_most, actions_most}
use Rattle.theory.specs.Rules.{scale, shift, complement, number}
use Rattle.rule_node.specs.Nodes.{tree_at}
use Rattle.rule_node.specs.Table.{RuleRan}
use Rattle.rule_node.specs.EntryMeaning.{from_halves, rule_of}
use Rattle.rule_node.proofs.Outcomes.{ran_as}
use Rattle.rule_node.proofs.Meanings.{rule_scale, rule_shift, rule_complement, rule_number}
use Rattle.rule_unary_node.specs.Acts.{Acts, low_of, high_of}
use Rattle.rule_unary.specs.Picks.{Picks}
use Rattle.rule_unary_node.proofs.WordHalves.{halves, low_lt, high_lt}

-- ---- numbers in range

pub side_acts : {op p : ℕ} → Picks op p → Acts op p 0
side_acts P =
    let a = P.from in
    let b = P.most in
    record { from = omega arith; to = P.to; low = omega arith; high = omega arith; shifts = λ e. absurd (omega arith); weighs = λ e. absurd (omega arith); numbers = λ e. absurd (omega arith); some = λ _. P.some; picks = λ _. P.most }

pub complement_acts : {W : ℕ} → W ≤ weights_most → Acts 5 W 0
complement_acts h =
    record {
      from = omega arith;
      to = omega arith;
      low = omega arith;
      high = omega arith;
      shifts = λ e. absurd (omega arith);
      weighs = λ _. h;
      numbers = λ e. absurd
          (omega arith);
      some = λ e. absurd (omega arith);
      picks = λ e. absurd (omega arith);
    }

pub number_acts : {a : ℕ} → a ≤ actions_most → Acts 6 a 0
number_acts h =
    record {
      from = omega arith;
      to = omega arith;
      low = omega arith;
      high = omega arith;
      shifts = λ e. absurd (omega arith);
      weighs = λ e. absurd
          (omega arith);
      numbers = λ _. h;
      some = λ e. absurd (omega arith);
      picks = λ e. absurd (omega arith);
    }

-- the halves of c, as the code has them
module _ (c : ℤ) (fc : SFits w64 c) {a b : ℕ} (ea : a ≡ low_of (R c)) (eb : b ≡ high_of (R c)) where
  is_low : a ≡ low_of c
  is_low = ea ∙ ap low_of (back c fc)

  is_high : b ≡ high_of c
  is_high = eb ∙ ap high_of (back c fc)

  number_is : from_halves a b ≡ c
  number_is = ap₂ from_halves is_low is_high ∙ halves c fc

  a_lt : a < 4294967296
  a_lt = let x = is_low in let y = low_lt c in omega arith

  b_lt : b < 4294967296
  b_lt = let x = is_high in let y = high_lt c fc in omega arith

  pub scale_acts : Acts 3 a b
  scale_acts =
      record {
        from = omega arith;
        to = omega arith;
        low = a_lt;
        high = b_lt;
        shifts = λ e. absurd (omega arith);
        weighs = λ e. absurd
            (omega arith);
        numbers = λ e. absurd (omega arith);
        some = λ e. absurd (omega arith);
        picks = λ e. absurd (omega arith);
      }

  pub shift_acts : Small c → Acts 4 a b
  shift_acts s =
      record {
        from = omega arith;
        to = omega arith;
        low = a_lt;
        high = b_lt;
        shifts = λ _. subst Small (sym number_is) s;
        weighs = λ e. absurd
            (omega arith);
        numbers = λ e. absurd (omega arith);
        some = λ e. absurd (omega arith);
        picks = λ e. absurd (omega arith);
      }

  module _ {cap : ℕ} {l l₁ : List ℤ} {w w₁ : List ℕ} {n : ℕ} (f : ℕ) {r : Answer} where
    pub scale_ran : RuleRan rule_of cap l w n (rule_of l n 3 f 0 a b) l₁ w₁ r → RuleRan rule_of cap l w n (scale c (tree_at l n f)) l₁ w₁ r
    scale_ran S = ran_as (rule_scale l n f 0 a b ∙ ap (λ (z : ℤ). scale z (tree_at l n f)) number_is) S

    pub shift_ran : RuleRan rule_of cap l w n (rule_of l n 4 f 0 a b) l₁ w₁ r → RuleRan rule_of cap l w n (shift c (tree_at l n f)) l₁ w₁ r
    shift_ran S = ran_as (rule_shift l n f 0 a b ∙ ap (λ (z : ℤ). shift z (tree_at l n f)) number_is) S

-- ---- what was run

module _ {cap : ℕ} {l l₁ : List ℤ} {w w₁ : List ℕ} {n : ℕ} (f p : ℕ) {r : Answer} where
  pub complement_ran : RuleRan rule_of cap l w n (rule_of l n 5 f 0 p 0) l₁ w₁ r → RuleRan rule_of cap l w n (complement p (tree_at l n f)) l₁ w₁ r
  complement_ran S = ran_as (rule_complement l n f 0 p 0) S

  pub number_ran : RuleRan rule_of cap l w n (rule_of l n 6 f 0 p 0) l₁ w₁ r → RuleRan rule_of cap l w n (number p (tree_at l n f)) l₁ w₁ r
  number_ran S = ran_as (rule_number l n f 0 p 0) S
