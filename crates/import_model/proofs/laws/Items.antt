-- The commands of a text load one diagram for each item, which comes to what the item means.
use Rattle.std.specs.Prelude.{◌≡◌, refl, not, List, [], ◌∷◌, ◌++◌, ℕ, ◌<◌, ltb}
use Rattle.std.proofs.Common.{sym, ap, ◌∙◌, append_assoc}
use Rattle.whole.specs.Cases.{if}
use Rattle.theory.specs.Diagram.{Leaf, Tree}
use Rattle.theory.specs.Computation.{result}
use Rattle.theory.specs.Command.{Command, give, Slot, end_model}
use Rattle.theory.specs.Verdict.{end_slot, reward_slot, chance_slot, level_slot}
use Rattle.theory.specs.Load.{Entry, Loaded, load_entry, load_one, load_one_with}
use Rattle.theory.specs.Meaning.{Env, value, at}
use Rattle.theory.proofs.laws.Values.{if_ap}
use Rattle.import_grammar.specs.Grammar.{Or, Result, Items, head, closed, named, Opening, reward, chance, next, end, Before, start, case, Text, entire}
use Rattle.import_numbers.specs.Numbers.{digits_value}
use Rattle.import_model.specs.Commands.{condition_of, level_of, at_most, action_most, or_commands, result_command, items_commands, opening_commands, before_commands, text_commands}
use Rattle.import_model.specs.Meaning.{or_holds, counting, leaf_of, Item, opening_slot, before_slot, items_of, items_opening, items_before, text_items, item_leaf}
use Rattle.import_model.proofs.laws.Follows.{load_all, loaded, Gives, or_gives, result_gives}

-- a slot as it is written into the model
abbrev pub capped : Slot → Slot
capped g = record { command = g.command; action = at_most action_most g.action; index = g.index }

-- each item has its entry, in the same order
pub data Entered : List Entry → List Item → Type 0 where
  no_entry : Entered [] []
  one_entry : {E : List Entry} {l : List Item} (t : Tree) (x : Item) → ((e : Env) → at e t ≡ item_leaf e x) → Entered E l
      → Entered (record { slot = capped x.slot; tree = t } ∷ E) (x ∷ l)

-- some commands, first of all, load some items
pub record LoadsItems (C : List Command) (l : List Item) : Type 0 where
  pub entries : List Entry
  pub loads : (R : List Command) → load_all (C ++ R) (loaded [] []) ≡ load_all R (loaded [] entries)
  pub entered : Entered entries l

-- the same with one more behind them, whose cases are not all known
record LoadsMore (C : List Command) (g : Slot) (v : Env → Leaf) (l : List Item) : Type 0 where
  entries : List Entry
  tree : Tree
  loads : (R : List Command) → load_all (C ++ R) (loaded [] []) ≡ load_all R (loaded [] (record { slot = capped g; tree = tree } ∷ entries))
  means : (e : Env) → at e tree ≡ v e
  entered : Entered entries l

-- one command more that leaves all as it is
idle : (C : List Command) (c : Command) (l : List Item) → ((s : Loaded) → result (load_one c s) ≡ s) → LoadsItems C l → LoadsItems (C ++ (c ∷ [])) l
unfolding load_all
idle C c l f g = record {
  entries = g.entries;
  loads = λ R. ap (λ (D : List Command). load_all D (loaded [] [])) (append_assoc C (c ∷ []) R) ∙ g.loads (c ∷ R) ∙ ap (load_all R) (f (loaded [] g.entries));
  entered = g.entered;
}

-- an item's commands behind those before it
item_loads : (D C : List Command) (g : Slot) (v : Env → Leaf) (l : List Item) → LoadsItems D l → Gives C v → LoadsMore (D ++ (C ++ (give (capped g) ∷ []))) g v l
unfolding load_all load_one_with load_entry result
item_loads D C g v l d c = record {
  entries = d.entries;
  tree = c.diagram;
  loads = λ R.
      ap (λ (A : List Command). load_all A (loaded [] [])) (append_assoc D (C ++ (give (capped g) ∷ [])) R ∙ ap (λ (A : List Command). D ++ A) (append_assoc C (give (capped g) ∷ []) R))
      ∙ d.loads (C ++ (give (capped g) ∷ R)) ∙ c.makes (give (capped g) ∷ R) [] d.entries;
  means = c.means;
  entered = d.entered;
}

-- a case: its result, or what follows
case_gives : {n : ℕ} (o : Or n) (x : Result) (C : List Command) (r : Env → Result) → Gives C (λ e. leaf_of (r e))
    → Gives (or_commands o (result_command x ∷ []) C) (λ e. leaf_of (if (or_holds e o) x (r e)))
case_gives o x C r g =
    let d = or_gives o (result_command x ∷ []) C (λ e. leaf_of x) (λ e. leaf_of (r e)) (result_gives x) g in
    record { diagram = d.diagram; makes = d.makes; means = λ e. d.means e ∙ sym (if_ap leaf_of (or_holds e o) x (r e)) }

mutual
  unfolding items_commands items_of before_slot opening_slot counting item_leaf load_all load_one_with result

  pub items_load : (I : Items) → LoadsItems (items_commands I) (items_of I)
  items_load (head p m n A W) = record { entries = []; loads = λ R. refl; entered = no_entry }
  items_load (closed B p q r) =
      let x : Item = record { slot = before_slot B; cases = B; otherwise = r } in
      let d = before_loads B (result_command r ∷ []) (λ e. r) (result_gives r) in
      record { entries = record { slot = capped (before_slot B); tree = d.tree } ∷ d.entries; loads = d.loads; entered = one_entry d.tree x d.means d.entered }
  items_load (named I p q ds r cs) = idle (items_commands I) _ (items_of I) (λ s. refl) (items_load I)

  opening_loads : (O : Opening) (C : List Command) (v : Env → Leaf) → Gives C v → LoadsMore (opening_commands O C) (opening_slot O) v (items_opening O)
  opening_loads (reward I p q ds r) C v g = item_loads (items_commands I) C (reward_slot (digits_value ds)) v (items_of I) (items_load I) g
  opening_loads (chance I p q ds r i t) C v g = item_loads (items_commands I) C (chance_slot (digits_value ds) (condition_of i)) v (items_of I) (items_load I) g
  opening_loads (next I p q ds r i t) C v g = item_loads (items_commands I) C (level_slot (digits_value ds) (level_of i)) v (items_of I) (items_load I) g
  opening_loads (end I p t) C v g = item_loads (items_commands I) C end_slot v (items_of I) (items_load I) g

  before_loads : (B : Before) (C : List Command) (r : Env → Result) → Gives C (λ e. leaf_of (r e))
      → LoadsMore (before_commands B C) (before_slot B) (λ e. leaf_of (counting e B (r e))) (items_before B)
  before_loads (start O) C r g = opening_loads O C (λ e. leaf_of (r e)) g
  before_loads (case B o p x q) C r g =
      before_loads B (or_commands o (result_command x ∷ []) C) (λ e. if (or_holds e o) x (r e))
      (case_gives o x C r g)

-- all commands of a text
pub text_loads : (t : Text) → LoadsItems (text_commands t) (text_items t)
unfolding text_commands text_items load_one_with result
text_loads (entire I e) = idle (items_commands I) end_model (items_of I) (λ s. refl) (items_load I)
