-- The stack of a pass, and where each slot's diagram begins.
use Rattle.std.specs.Prelude.{◌≡◌, List, [], ℕ, ◌+◌, ◌-◌, ◌*◌, ◌≤◌, ◌<◌, T, eqb, ltb, length, get_or, set, replicate}
use Rattle.whole.specs.Cases.{if}
use Rattle.theory.specs.Widths.{levels_most, conditions_most, actions_most, stack_most}
use Rattle.theory.specs.Command.{Command, site, push_leaf, push_condition, push_test, push_forbidden, give, name_action, end_model, Slot, readings_from, readings}
use Rattle.theory.specs.Verdict.{verdict}
use Rattle.model_stack.specs.Held.{last_first}
use Rattle.plain_pass.specs.declared.Point.{Point}
use Rattle.plain_pass.specs.Pass.{pass, no_name, FlatPoint}

-- ---- the stack

-- words for a stack of which n are used
pub record StackRoom (l : List ℕ) (n : ℕ) : Type 0 where
  pub long : length l ≡ stack_most
  pub few : n ≤ stack_most

-- words that hold a stack
pub record HoldsStack (l : List ℕ) (n : ℕ) (s : List ℕ) : Type 0 where
  pub room : StackRoom l n
  pub holds : last_first l n ≡ s

-- ---- the rest of a pass

-- with fuel enough, the pass from an offset on with that stack comes to what the whole pass comes to
pub record Seek (B : List ℕ) (x : Point) (g : Slot) (i : ℕ) (l : List ℕ) : Type 0 where
  pub fuel : ℕ
  pub enough : length B - i < fuel
  pub comes : pass x g (readings_from B fuel i) l ≡ pass x g (readings B) []

-- what a pass to a slot's command asks for: an accepted model, an offset to begin at, and a point
pub record Asks (B : List ℕ) (g : Slot) (begin : ℕ) (x : Point) : Type 0 where
  pub accepted : (verdict B).number ≡ 0
  pub short : length B < 4294967296
  pub diagram : T (no_name g)
  pub seeks : Seek B x g begin []
  pub flat : FlatPoint x

-- ---- a place for each slot

-- the end worth's place among an action's slots, behind a reward, the chances and the next levels
abbrev pub end_row : ℕ
end_row = 1 + conditions_most + levels_most

abbrev pub slots_each : ℕ
slots_each = 1 + end_row

-- action 0 has its words too, for the end worth
abbrev pub slots_most : ℕ
slots_most = (1 + actions_most) * slots_each

-- the place among an action's slots, slots_each where there is no such slot
unfoldable pub row : ℕ → ℕ → ℕ
row c i =
    if (eqb i 0) (if (eqb c 0x20) 0 (if (eqb c 0x23) end_row slots_each))
    (if (eqb c 0x21) (if (ltb conditions_most i) slots_each i)
    (if (eqb c 0x22) (if (ltb levels_most i) slots_each (conditions_most + i)) slots_each))

unfoldable pub place : Slot → ℕ
place g = if (ltb (row g.command g.index) slots_each) (g.action * slots_each + row g.command g.index) slots_most

-- ---- what the pass over all commands notes

-- the first that is given stays
unfoldable pub put : Slot → ℕ → List ℕ → List ℕ
put g b t = if (eqb (get_or t (place g) 0) 0) (set t (place g) b) t

unfoldable pub noted : Command → ℕ → List ℕ → List ℕ
noted (site m n a w) b t = t
noted (push_leaf p) b t = t
noted (push_condition k) b t = t
noted (push_test p) b t = t
noted push_forbidden b t = t
noted (give g) b t = put g b t
noted (name_action a b') b t = t
noted end_model b t = t

-- how many diagrams the stack holds behind a command
unfoldable pub depth_after : Command → ℕ → ℕ
depth_after (site m k a w) n = n
depth_after (push_leaf p) n = if (ltb n stack_most) (n + 1) n
depth_after (push_condition k) n = if (ltb n 2) n (n - 1)
depth_after (push_test p) n = if (ltb n 2) n (n - 1)
depth_after push_forbidden n = if (ltb n stack_most) (n + 1) n
depth_after (give g) n = n - 1
depth_after (name_action a b) n = n
depth_after end_model n = n

-- words without a note: those of action 0 at least, and of no more actions than a model can have
pub record NoNotes (t : List ℕ) : Type 0 where
  pub some : slots_each ≤ length t
  pub most : length t ≤ slots_most
  pub is : t ≡ replicate (length t) 0

-- at each slot's place stands an offset from which the pass, with nothing on the stack, comes to what the whole pass comes to; 0 where it is not given
pub record Parts (B t : List ℕ) : Type 0 where
  pub begins : (g : Slot) (x : Point) → Seek B x g (get_or t (place g) 0) []
  pub some : slots_each ≤ length t
  pub absent : (g : Slot) (x : Point) → place g < length t → get_or t (place g) 0 ≡ 0 → 0 ≡ pass x g (readings B) []
