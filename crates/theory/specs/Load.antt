-- "loading the model": the diagrams that the commands of an accepted model spell, made as they come.
use Rattle.std.specs.Prelude.{List, [], ◌∷◌, map, ℕ, ◌+◌, ◌-◌, leb}
use Rattle.whole.specs.Cases.{if}
use Rattle.theory.specs.Widths.{conditions_most}
use Rattle.theory.specs.Form.{Form, new_form, action_bytes}
use Rattle.theory.specs.Diagram.{Test, now, later, Tree, leaf, branch, plain, test_of}
use Rattle.theory.specs.Computation.{Comp, ret, bind, make, result}
use Rattle.theory.specs.Rules.{choose, zero_leaf, none_leaf}
use Rattle.theory.specs.Meaning.{Action, Model}
use Rattle.theory.specs.Command.{Command, site, push_leaf, push_condition, push_test, push_forbidden, give, name_action, end_model, whole, unknown, short, Placed, byte_at, action_at, readings, readings_in, Slot}
use Rattle.theory.specs.Verdict.{Site, site_of, same_slot, reward_slot, chance_slot, level_slot, end_slot, from_to}

-- a diagram and what it was given as
pub record Entry : Type 0 where
  pub slot : Slot
  pub tree : Tree

-- the stack, its top first, and what has been given
pub record Loaded : Type 0 where
  pub stack : List Tree
  pub entries : List Entry

-- "1 to n for a condition now, 5 to 4+n for the next step's"
unfoldable pub condition_test : ℕ → Test
condition_test k = if (leb k conditions_most) (now k) (later (k - conditions_most))

-- a diagram goes on the stack
abbrev pub push : Tree → Loaded → Loaded
push t s = record { stack = t ∷ s.stack; entries = s.entries }

-- "takes one diagram off the stack"
unfoldable pub load_entry : Slot → List Tree → List Entry → Comp Loaded
load_entry g [] E = ret (record { stack = []; entries = E })
load_entry g (t ∷ K) E = ret (record { stack = K; entries = record { slot = g; tree = t } ∷ E })

-- `by` is how a test, high and low are made one diagram
module _ (by : Test → Tree → Tree → Comp Tree) where
  -- "takes low, then high, off the stack and pushes the choice"
  unfoldable pub load_choice_with : Test → List Tree → List Entry → Comp Loaded
  load_choice_with t [] E = ret (record { stack = []; entries = E })
  load_choice_with t (low ∷ []) E = ret (record { stack = []; entries = E })
  load_choice_with t (low ∷ high ∷ K) E = bind (by t high low) (λ r. ret (record { stack = r ∷ K; entries = E }))

  -- one command; what it makes is made by the rules
  unfoldable pub load_one_with : Command → Loaded → Comp Loaded
  load_one_with (site m n a w) s = ret s
  load_one_with (push_leaf p) s = bind (make (leaf (plain p))) (λ t. ret (push t s))
  load_one_with (push_condition k) s = load_choice_with (condition_test k) s.stack s.entries
  load_one_with (push_test p) s = load_choice_with (test_of p) s.stack s.entries
  load_one_with push_forbidden s = bind (make none_leaf) (λ t. ret (push t s))
  load_one_with (give g) s = load_entry g s.stack s.entries
  load_one_with (name_action a b) s = ret s
  load_one_with end_model s = ret s

  -- the commands that are left
  unfoldable pub load_on_with : List Placed → Loaded → Comp Loaded
  load_on_with [] s = ret s
  load_on_with (x ∷ l) s = elim x.read [
    | whole c ↦ bind (load_one_with c s) (load_on_with l)
    | unknown ↦ ret s
    | short ↦ ret s
  ]

-- by the rule "Choose"
abbrev pub load_choice : Test → List Tree → List Entry → Comp Loaded
load_choice = load_choice_with choose

abbrev pub load_one : Command → Loaded → Comp Loaded
load_one = load_one_with choose

abbrev pub load_on : List Placed → Loaded → Comp Loaded
load_on = load_on_with choose

-- ---- the model

-- the diagram that was given for a slot
unfoldable pub find_slot : Slot → List Entry → Tree
find_slot g [] = zero_leaf
find_slot g (e ∷ E) = if (same_slot g e.slot) e.tree (find_slot g E)

-- the same where it need not have been: none or one
unfoldable pub found : Slot → List Entry → List Tree
found g [] = []
found g (e ∷ E) = if (same_slot g e.slot) (e.tree ∷ []) (found g E)

-- the diagrams of action a
unfoldable pub action_of : Site → List Entry → ℕ → Action
action_of S E a = record {
  reward = find_slot (reward_slot a) E;
  chances = map (λ k. find_slot (chance_slot a k) E) (from_to 1 S.conditions);
  levels = map (λ i. find_slot (level_slot a i) E) (from_to 1 S.levels);
}

-- the model of what was given
unfoldable pub model_of : Site → List Entry → Model
model_of S E = record {
  levels = S.levels;
  conditions = S.conditions;
  weights = S.weights;
  first = action_of S E 1;
  others = map (action_of S E) (from_to 2 (S.actions - 1));
  end = found end_slot E;
}

-- the operands of the first command
unfoldable pub site_in : Form → List ℕ → Site
site_in F B = site_of (byte_at B 1) (byte_at B 2) (action_at F B 3) (byte_at B (3 + action_bytes F))

-- all commands from the first on, and the model of what they gave
unfoldable pub load_in : Form → (Test → Tree → Tree → Comp Tree) → List ℕ → Comp Model
load_in F by B = bind (load_on_with by (readings_in F B) (record { stack = []; entries = [] })) (λ s. ret (model_of (site_in F B) s.entries))

-- the model that is loaded
unfoldable pub model_in : Form → List ℕ → Model
model_in F B = result (load_in F choose B)

-- ---- the form that the planner reads

abbrev pub site_at : List ℕ → Site
site_at = site_in new_form

abbrev pub load_with : (Test → Tree → Tree → Comp Tree) → List ℕ → Comp Model
load_with = load_in new_form

-- "and so is loading the model": one operation, of all commands
abbrev pub load : List ℕ → Comp Model
load = load_with choose

abbrev pub model : List ℕ → Model
model = model_in new_form

-- the model as its bytes spell it: each test over its branches as they stand
unfoldable pub spelled : List ℕ → Model
spelled B = result (load_with (λ t h l. ret (branch t h l)) B)

-- what is loaded of some bytes
abbrev pub loaded_entries : List ℕ → List Entry
loaded_entries B = (result (load_on (readings B) (record { stack = []; entries = [] }))).entries
