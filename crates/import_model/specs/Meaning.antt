-- "the model's values follow that reading": what a reading means at a state, and the process that it describes, in the text's own words.
use Rattle.std.specs.Prelude.{Bool, true, false, not, List, [], ◌∷◌, map, ℕ, suc, ◌-◌, ◌*◌, ◌^◌, ℤ, pos}
use Rattle.std.specs.Int.Signed.{le_z, lt_z}
use Rattle.whole.specs.Cases.{if}
use Rattle.whole.specs.Int.{up}
use Rattle.theory.specs.Diagram.{Linear, Leaf, forbidden, lin_of, zero_linear, plain}
use Rattle.theory.specs.Command.{Slot}
use Rattle.theory.specs.Verdict.{Site, site_of, same_slot, reward_slot, chance_slot, level_slot, end_slot, from_to}
use Rattle.theory.specs.Total.{weigh}
use Rattle.theory.specs.Process.{Process}
use Rattle.theory.specs.Meaning.{State, Env, env, value, leaf_worth, settings, weight}
use Rattle.import_grammar.specs.Grammar.{Op, lt, le, gt, ge, Nots, unsaid, bang, Atom, now, later, compare, group, Not, negated, And, alone, both, Or}
use Rattle.import_grammar.specs.Grammar.{single, either, Result, worth, forbids, Items, head, closed, named, Opening, reward, chance, next}
use Rattle.import_grammar.specs.Grammar.{end, Before, start, case, Text, entire, deepest}
use Rattle.import_numbers.specs.Numbers.{digits_value, linear_of}
use Rattle.import_model.specs.Commands.{condition_of, level_of, setting_of}

-- ---- conditions

-- "The four comparisons (<, <=, >, >=) keep their exact meaning at equality.": both sides times the levels' denominator
unfoldable pub compared : Env → Op → Linear → Linear → Bool
compared e lt a b = lt_z (value e a) (value e b)
compared e le a b = le_z (value e a) (value e b)
compared e gt a b = lt_z (value e b) (value e a)
compared e ge a b = le_z (value e b) (value e a)

-- "`!` for not"
unfoldable pub turned : Nots → Bool → Bool
turned unsaid b = b
turned (bang n p) b = turned n (not b)

-- "C for a condition now and N for the next step's", "then not, and, or"
unfoldable mutual
  unfolding compared turned condition_of

  pub atom_holds : {n : ℕ} → Env → Atom n → Bool
  atom_holds e (now p i) = e.is_now (condition_of i)
  atom_holds e (later p i) = e.is_later (condition_of i)
  atom_holds e (compare s p op t) = compared e op (linear_of _ s) (linear_of _ t)
  atom_holds e (group p o q) = or_holds e o

  pub not_holds : {n : ℕ} → Env → Not n → Bool
  not_holds e (negated n x) = turned n (atom_holds e x)

  pub and_holds : {n : ℕ} → Env → And n → Bool
  and_holds e (alone x) = not_holds e x
  and_holds e (both a p x) = if (and_holds e a) (not_holds e x) false

  pub or_holds : {n : ℕ} → Env → Or n → Bool
  or_holds e (single a) = and_holds e a
  or_holds e (either o p a) = if (or_holds e o) true (and_holds e a)

-- ---- items

-- "the first case that holds counts": the result that counts, r being the else's
unfoldable pub counting : Env → Before → Result → Result
unfolding or_holds
counting e (start O) r = r
counting e (case B o p x q) r = counting e B (if (or_holds e o) x r)

-- a result: a sum's linear, or "forbidden"
unfoldable pub leaf_of : Result → Leaf
leaf_of (worth s) = plain (linear_of deepest s)
leaf_of (forbids p) = forbidden

-- an item: what is given, its cases and its else
pub record Item : Type 0 where
  pub slot : Slot
  pub cases : Before
  pub otherwise : Result

-- "one reward, chance, next level or end worth per item", with the action that is written
unfoldable pub opening_slot : Opening → Slot
unfolding condition_of level_of
opening_slot (reward I p q ds r) = reward_slot (digits_value ds)
opening_slot (chance I p q ds r i t) = chance_slot (digits_value ds) (condition_of i)
opening_slot (next I p q ds r i t) = level_slot (digits_value ds) (level_of i)
opening_slot (end I p t) = end_slot

unfoldable pub before_slot : Before → Slot
unfolding opening_slot
before_slot (start O) = opening_slot O
before_slot (case B o p r q) = before_slot B

-- the items of a text that have cases, the last first
unfoldable mutual
  unfolding before_slot

  pub items_of : Items → List Item
  items_of (head p m n A W) = []
  items_of (closed B p q r) = record { slot = before_slot B; cases = B; otherwise = r } ∷ items_before B
  items_of (named I p q ds r cs) = items_of I

  pub items_opening : Opening → List Item
  items_opening (reward I p q ds r) = items_of I
  items_opening (chance I p q ds r i t) = items_of I
  items_opening (next I p q ds r i t) = items_of I
  items_opening (end I p t) = items_of I

  pub items_before : Before → List Item
  items_before (start O) = items_opening O
  items_before (case B o p r q) = items_before B

unfoldable pub text_items : Text → List Item
unfolding items_of
text_items (entire I e) = items_of I

-- what an item comes to at a state
unfoldable pub item_leaf : Env → Item → Leaf
unfolding counting leaf_of
item_leaf e x = leaf_of (counting e x.cases x.otherwise)

-- the same of the item that gives a slot; a text that is accepted has one for each reward, chance and next level
unfoldable pub leaf_at : Env → Slot → List Item → Leaf
unfolding item_leaf
leaf_at e g [] = plain zero_linear
leaf_at e g (x ∷ l) = if (same_slot g x.slot) (item_leaf e x) (leaf_at e g l)

-- what the text has as end worth, times D: "without the command it is 0"
unfoldable pub end_worth : Env → List Item → ℤ
unfolding item_leaf
end_worth e [] = pos 0
end_worth e (x ∷ l) = if (same_slot end_slot x.slot) (value e (lin_of (item_leaf e x))) (end_worth e l)

-- ---- the text's process

-- the site that is written
unfoldable mutual
  pub items_site : Items → Site
  items_site (head p m n A W) = site_of (digits_value (setting_of m)) (digits_value (setting_of n)) (digits_value (setting_of A)) (digits_value (setting_of W))
  items_site (closed B p q r) = before_site B
  items_site (named I p q ds r cs) = items_site I

  pub opening_site : Opening → Site
  opening_site (reward I p q ds r) = items_site I
  opening_site (chance I p q ds r i t) = items_site I
  opening_site (next I p q ds r i t) = items_site I
  opening_site (end I p t) = items_site I

  pub before_site : Before → Site
  before_site (start O) = opening_site O
  before_site (case B o p r q) = before_site B

unfoldable pub text_site : Text → Site
unfolding items_site
text_site (entire I e) = items_site I

-- m levels, n conditions, A actions, weights out of W; each reward, chance, next level and the end worth as the text's cases say
unfoldable pub process_of : Site → List Item → Process State ℕ (List Bool)
unfolding leaf_at end_worth
process_of S l = record {
  first = 1;
  others = from_to 2 (S.actions - 1);
  settings = settings S.conditions;
  reward = λ h a s. weigh (S.weights ^ (S.conditions * suc h)) (leaf_worth (env s []) (leaf_at (env s []) (reward_slot a) l));
  weight = λ a s r. weight S.weights (map (λ k. up (lin_of (leaf_at (env s []) (chance_slot a k) l)).const) (from_to 1 S.conditions)) r;
  next = λ a s r. record {
    conditions = r;
    nums = map (λ i. value (env s r) (lin_of (leaf_at (env s r) (level_slot a i) l))) (from_to 1 S.levels);
    den = s.den;
    D>0 = s.D>0;
  };
  end = λ s. end_worth (env s []) l;
}

unfoldable pub text_process : Text → Process State ℕ (List Bool)
unfolding text_site text_items process_of
text_process t = process_of (text_site t) (text_items t)
