-- The pass over a model's commands to the leaf that a slot's diagram comes to, and what that leaf is.
use Rattle.std.specs.Prelude.{◌≡◌, Bool, false, not, List, [], ◌∷◌, ℕ, ◌+◌, ◌-◌, ◌≤◌, ◌<◌, T, eqb, leb, ltb, ℤ, pos, ◌+ℤ◌, ◌*ℤ◌, length, get_or, take, drop, Option, Some, None}
use Rattle.std.specs.Int.Signed.{le_z}
use Rattle.whole.specs.Cases.{if}
use Rattle.whole.specs.Numerator.{words}
use Rattle.whole.specs.declared.Numerator.{Numerator}
use Rattle.theory.specs.Widths.{levels_most, conditions_most}
use Rattle.theory.specs.Diagram.{Linear, zero_linear, Leaf, forbidden, plain, lin_of}
use Rattle.theory.specs.Total.{Total, num, none}
use Rattle.theory.specs.Meaning.{State, env, nth, dot, at}
use Rattle.theory.specs.Command.{Command, site, push_leaf, push_condition, push_test, push_forbidden, give, name_action, end_model, Read, whole, unknown, short, Placed, byte_at, read_at, Slot}
use Rattle.theory.specs.Verdict.{same_slot, beyond}
use Rattle.theory.specs.Load.{find_slot, site_at}
use Rattle.theory.specs.Value.{bits}
use Rattle.theory.specs.Load.{loaded_entries}
use Rattle.model_command.specs.declared.Command.{Command as CodeCommand}
use Rattle.model_command.specs.declared.Command.TheVariants.{Leaf as LeafBy, Condition, Test, Forbidden}
use Rattle.model_command.specs.CursorReadings.{with_linear}
use Rattle.model_stack.specs.Held.{pushed}
use Rattle.plain_pass.specs.declared.Point.{Point}
use Rattle.plain_pass.specs.declared.Slot.{Slot as CodeSlot}

abbrev pub slot_of : CodeSlot → Slot
slot_of g = record { command = g.command; action = g.action; index = g.index }

-- ---- the pass

abbrev pub nums_of : Point → List ℤ
nums_of x = take levels_most x.n

-- the denominator stands behind them
abbrev pub den_of : Point → ℤ
den_of x = get_or x.n levels_most (pos 0)

-- beyond a point's levels its numerators are 0
pub record FlatPoint (x : Point) : Type 0 where
  pub few : x.levels ≤ levels_most
  pub rest : (k : ℕ) → x.levels ≤ k → k < levels_most → get_or x.n k (pos 0) ≡ pos 0

-- a linear at a point, times d
unfoldable pub numerator : Point → Linear → ℤ
numerator x p = dot p.coeffs (nums_of x) +ℤ p.const *ℤ den_of x

-- "1 to n for a condition now, 5 to 4+n for the next step's"
unfoldable pub condition_holds : Point → ℕ → Bool
condition_holds x k = if (leb k conditions_most) (nth (bits 4 x.mask) k) (nth (bits 4 x.setting) (k - conditions_most))

-- "takes low, then high, off the stack" and pushes the one that is taken
unfoldable pub chosen : Bool → List ℕ → List ℕ
chosen high [] = []
chosen high (low ∷ []) = low ∷ []
chosen high (low ∷ above ∷ l) = if high above low ∷ l

-- the stack behind the command at an offset
unfoldable pub stepped : Point → ℕ → Command → List ℕ → List ℕ
stepped x i (site m n a w) l = l
stepped x i (push_leaf p) l = pushed i l
stepped x i (push_condition k) l = chosen (condition_holds x k) l
stepped x i (push_test p) l = chosen (le_z (numerator x p) (pos 0)) l
stepped x i push_forbidden l = pushed i l
stepped x i (give g) l = drop 1 l
stepped x i (name_action a b) l = l
stepped x i end_model l = l

-- a command gives a slot
unfoldable pub takes : Slot → Command → Bool
takes g (site m n a w) = false
takes g (push_leaf p) = false
takes g (push_condition k) = false
takes g (push_test p) = false
takes g push_forbidden = false
takes g (give h) = same_slot g h
takes g (name_action a b) = false
takes g end_model = false

-- ---- commands told by their bytes

-- below this offset, bytes for a linear stand behind each byte
abbrev pub codes_end : List ℕ → ℕ
codes_end B = length B - (with_linear - 1)

-- the byte at an offset, where bytes for a linear stand behind it; else 0
unfoldable pub code_at : List ℕ → ℕ → ℕ
code_at B i = if (ltb (length B) (i + with_linear)) 0 (byte_at B i)

-- "10 leaf", "11 condition", "12 test", "13 .. a leaf "forbidden""
unfoldable pub pushes : ℕ → Bool
pushes op = if (ltb op 0x10) false (leb op 0x13)

unfoldable pub push_of : List ℕ → ℕ → ℕ → CodeCommand
push_of B i op = if (eqb op 0x10) LeafBy (if (eqb op 0x11) (Condition (byte_at B (i + 1))) (if (eqb op 0x13) Forbidden Test))

unfoldable pub push_width : ℕ → ℕ
push_width op = if (eqb op 0x11) 2 (if (eqb op 0x13) 1 with_linear)

-- "20 reward: action", "21 chance: action, condition", "22 next level: action, level"
unfoldable pub index_at : List ℕ → ℕ → ℕ → ℕ
index_at B i op = if (eqb op 0x20) 0 (byte_at B (i + 3))

-- ---- the whole pass

-- the offset on the top of the stack where a slot is given
unfoldable pub pass : Point → Slot → List Placed → List ℕ → ℕ
pass x g [] l = 0
pass x g (y ∷ ys) l = elim y.read [
  | whole c ↦ if (takes g c) (get_or l 0 0) (pass x g ys (stepped x y.at c l))
  | unknown ↦ 0
  | short ↦ 0
]

-- ---- what it comes to

-- a slot that is given a diagram
abbrev pub no_name : Slot → Bool
no_name g = not (eqb g.command 0x30)

-- a state of m levels and n conditions, and a setting of the next ones, as a point has them; with no setting the point's is 0
pub record StateStands (m n : ℕ) (x : Point) (s : State) (r : List Bool) : Type 0 where
  pub now_is : (k : ℕ) → 1 ≤ k → k ≤ n → nth s.conditions k ≡ nth (bits 4 x.mask) k
  pub later_is : (k : ℕ) → 1 ≤ k → k ≤ n → nth r k ≡ nth (bits 4 x.setting) k
  pub nums_are : s.nums ≡ take m (nums_of x)
  pub den_is : pos s.den ≡ den_of x

-- the leaf that a command pushes, the leaf 0 of any other command
unfoldable pub leaf_of : Read → Leaf
leaf_of (whole (site m n a w)) = plain zero_linear
leaf_of (whole (push_leaf p)) = plain p
leaf_of (whole (push_condition k)) = plain zero_linear
leaf_of (whole (push_test p)) = plain zero_linear
leaf_of (whole push_forbidden) = forbidden
leaf_of (whole (give g)) = plain zero_linear
leaf_of (whole (name_action a b)) = plain zero_linear
leaf_of (whole end_model) = plain zero_linear
leaf_of unknown = plain zero_linear
leaf_of short = plain zero_linear

-- a reward as two words, none where it is forbidden
unfoldable pub reward_of : Total → Option Numerator
reward_of (num z) = Some (words z)
reward_of none = None

-- the leaf at an offset is f, whose coefficients beyond level m are zero
pub record LeafAt (B : List ℕ) (m i : ℕ) (f : Leaf) : Type 0 where
  pub reads : leaf_of (read_at B i) ≡ f
  pub within : T (not (beyond m (lin_of f)))

-- the leaf at an offset is what a slot's diagram comes to at each state that the point stands for; 0 where none is given
pub record LeafComes (B : List ℕ) (g : Slot) (x : Point) (i : ℕ) : Type 0 where
  pub comes : (s : State) (r : List Bool) → StateStands (site_at B).levels (site_at B).conditions x s r
      → LeafAt B (site_at B).levels i (at (env s r) (find_slot g (loaded_entries B)))
