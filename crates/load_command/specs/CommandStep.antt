-- What one command of the model does: the stack's numbers stand for diagrams of the table.
use Rattle.std.specs.Prelude.{◌≡◌, List, [], ◌∷◌, map, ℕ, suc, ◌+◌, ◌-◌, ◌≤◌, ◌<◌, T, true, ℤ, length, drop, get_or}
use Rattle.table.specs.Table.{Answer, stop_of, at_of, count_of}
use Rattle.theory.specs.Widths.{stack_most, conditions_most}
use Rattle.theory.specs.Diagram.{Tree}
use Rattle.theory.specs.Computation.{Comp, done, stopped, run}
use Rattle.theory.specs.Rules.{choose}
use Rattle.theory.specs.Command.{Command, site, push_leaf, push_condition, push_test, push_forbidden, give, name_action, end_model, whole, read_at, Slot}
use Rattle.theory.specs.Load.{Entry, Loaded as Loading, load_one}
use Rattle.model_stack.specs.Held.{held, pushed}
use Rattle.rule_node.specs.Nodes.{trees, tree_at, Grown}
use Rattle.rule_node.specs.Table.{EntryRule, Table, RuleRan, Grew}
use Rattle.load_choose.specs.CommandTest.{load_rule, test_at}
use Rattle.load_command.specs.declared.Loaded.{Loaded}

-- ---- on the stack

-- the diagrams that numbers stand for
abbrev pub standing : List ℤ → ℕ → List ℕ → List Tree
standing l n K = map (tree_at l n) K

-- they are numbers of the table
unfoldable pub NumbersBelow : ℕ → List ℕ → Type 0
NumbersBelow n [] = T true
NumbersBelow n (i ∷ K) = (i < n) × NumbersBelow n K

-- what was made goes on the stack K
pub record PutMade (K : List ℕ) (m : Answer) (r : Loaded) : Type 0 where
  pub stop : r.stop ≡ stop_of m
  pub count : r.count ≡ count_of m
  pub stack : stop_of m ≡ 0 → held r.stack ≡ pushed (at_of m) K

pub record GrownOn (cap : ℕ) (l : List ℤ) (w : List ℕ) (n : ℕ) (m : Comp Tree) (K : List ℕ) (l' : List ℤ) (w' : List ℕ) (r : Loaded) : Type 0 where
  pub made : Answer
  pub grew : Grew cap l w n m l' w' made
  pub put : PutMade K made r

pub record ChosenOn (R : EntryRule) (cap : ℕ) (l : List ℤ) (w : List ℕ) (n : ℕ) (m : Comp Tree) (K : List ℕ) (l' : List ℤ) (w' : List ℕ) (r : Loaded) : Type 0 where
  pub made : Answer
  pub ran : RuleRan R cap l w n m l' w' made
  pub put : PutMade K made r

-- the diagram that stands at place k of the stack
abbrev pub stacked : List ℤ → Loaded → ℕ → Tree
stacked l s k = tree_at l s.count (get_or (drop k (held s.stack)) 0 0)

-- "takes low, then high, off the stack and pushes the choice", by the test of the command at an offset
abbrev pub ChoiceMade : List ℕ → ℕ → List ℤ → List ℕ → ℕ → Loaded → List ℤ → List ℕ → Loaded → Type 0
ChoiceMade B cap l w at s l' w' r = ChosenOn (load_rule B) cap l w s.count (choose (test_at B at) (stacked l s 1) (stacked l s 0)) (drop 1 (drop 1 (held s.stack))) l' w' r

pub record Popped (s r : Loaded) : Type 0 where
  pub stop : r.stop ≡ s.stop
  pub count : r.count ≡ s.count
  pub stack : held r.stack ≡ drop 1 (held s.stack)

-- ---- a command

-- the stack has what it asks for
unfoldable pub Able : Command → ℕ → Type 0
Able (site m n a w) h = T true
Able (push_leaf p) h = h < stack_most
Able (push_condition k) h = (2 ≤ h) × (h ≤ stack_most) × (0 < k) × (k ≤ conditions_most + conditions_most)
Able (push_test p) h = (2 ≤ h) × (h ≤ stack_most)
Able push_forbidden h = h < stack_most
Able (give g) h = T true
Able (name_action a b) h = T true
Able end_model h = T true

-- the height of the stack behind it
unfoldable pub height : Command → ℕ → ℕ
height (site m n a w) h = h
height (push_leaf p) h = suc h
height (push_condition k) h = h - 1
height (push_test p) h = h - 1
height push_forbidden h = suc h
height (give g) h = h - 1
height (name_action a b) h = h
height end_model h = h

-- what is given, of the stack's top
unfoldable pub given_to : Slot → List Tree → List Entry → List Entry
given_to g [] E = E
given_to g (t ∷ X) E = record { slot = g; tree = t } ∷ E

unfoldable pub entered : Command → List Tree → List Entry → List Entry
entered (site m n a w) X E = E
entered (push_leaf p) X E = E
entered (push_condition k) X E = E
entered (push_test p) X E = E
entered push_forbidden X E = E
entered (give g) X E = given_to g X E
entered (name_action a b) X E = E
entered end_model X E = E

-- it can be loaded
pub record StepReady (B : List ℕ) (cap : ℕ) (l : List ℤ) (w : List ℕ) (at : ℕ) (c : Command) (s : Loaded) : Type 0 where
  pub none : s.stop ≡ 0
  pub table : Table (load_rule B) cap l w s.count
  pub below : NumbersBelow s.count (held s.stack)
  pub short : at < 4294967296
  pub here : whole c ≡ read_at B at
  pub able : Able c (length (held s.stack))

abbrev pub loading : List Tree → List Entry → Loading
loading X E = record { stack = X; entries = E }

-- what it did to the table of n nodes and the stack K
pub record Stepped (B : List ℕ) (cap : ℕ) (l : List ℤ) (w : List ℕ) (c : Command) (n : ℕ) (K : List ℕ) (l' : List ℤ) (w' : List ℕ) (r : Loaded) : Type 0 where
  pub table : Table (load_rule B) cap l' w' r.count
  pub grown : Grown l n l' r.count
  pub below : r.stop ≡ 0 → NumbersBelow r.count (held r.stack)
  pub high : r.stop ≡ 0 → length (held r.stack) ≡ height c (length K)
  pub went : r.stop ≡ 0 → (E : List Entry) → run cap (load_one c (loading (standing l n K) E)) (trees l n) ≡ done (loading (standing l' r.count (held r.stack)) (entered c (standing l n K) E)) (trees l' r.count)
  pub stops : (r.stop ≡ 0 → ⊥) → (E : List Entry) → run cap (load_one c (loading (standing l n K) E)) (trees l n) ≡ stopped r.stop
