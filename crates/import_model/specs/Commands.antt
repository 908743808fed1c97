-- "Each text has one reading by a grammar in docs/, which also says the commands it becomes": the commands of a reading, in the order in which they are written.
use Rattle.std.specs.Prelude.{List, [], ◌∷◌, ◌++◌, ℕ, zero, suc, ◌+◌, ltb}
use Rattle.whole.specs.Cases.{if}
use Rattle.theory.specs.Widths.{conditions_most, name_bytes}
use Rattle.theory.specs.Diagram.{Linear}
use Rattle.theory.specs.Command.{Command, site, push_leaf, push_condition, push_test, push_forbidden, give, name_action, end_model}
use Rattle.theory.specs.Verdict.{reward_slot, chance_slot, level_slot, end_slot}
use Rattle.import_grammar.specs.Grammar.{Digits, Index, i1, i2, i3, i4, i5, i6, i7, i8, Four, f1, f2, f3, f4, Op, lt, le, gt, ge, Nots, unsaid, bang}
use Rattle.import_grammar.specs.Grammar.{Atom, now, later, compare, group, Not, negated, And, alone, both, Or, single, either, Result, worth, forbids, Setting}
use Rattle.import_grammar.specs.Grammar.{setting, Chars, empty, char, quote, Items, head, closed, named, Opening, reward, chance, next, end, Before}
use Rattle.import_grammar.specs.Grammar.{start, case, Text, entire, deepest}
use Rattle.import_numbers.specs.Numbers.{digits_value, linear_of, difference}

-- ---- operands

-- the number of a condition, and of a level
unfoldable pub condition_of : Four → ℕ
condition_of f1 = 1
condition_of f2 = 2
condition_of f3 = 3
condition_of f4 = 4

unfoldable pub level_of : Index → ℕ
level_of i1 = 1
level_of i2 = 2
level_of i3 = 3
level_of i4 = 4
level_of i5 = 5
level_of i6 = 6
level_of i7 = 7
level_of i8 = 8

-- "C for a condition now and N for the next step's"; the operand of 11 is "1 to n for a condition now, 5 to 4+n for the next step's"
unfoldable pub later_of : Four → ℕ
unfolding condition_of
later_of i = conditions_most + condition_of i

-- a number in an operand whose greatest is `most`: a greater one is written as it, and no model may have that
unfoldable pub at_most : ℕ → ℕ → ℕ
at_most most n = if (ltb most n) most n

abbrev pub byte_most : ℕ
byte_most = 255

abbrev pub action_most : ℕ
action_most = 65535

abbrev pub byte_of : Digits → ℕ
byte_of ds = at_most byte_most (digits_value ds)

abbrev pub action_of : Digits → ℕ
action_of ds = at_most action_most (digits_value ds)

-- the number of a setting of the site
abbrev pub setting_of : Setting → Digits
setting_of (setting p q r ds) = ds

-- ---- conditions: their commands from those of their two outcomes, T where they hold and F where they do not

-- 12 takes high where its linear is at most 0: "a <= b" is a − b ≤ 0, "a < b" is not b − a ≤ 0; "(right less left for < and >=, else left less right)"
unfoldable pub compare_commands : Op → Linear → Linear → List Command → List Command → List Command
compare_commands le a b T F = T ++ (F ++ (push_test (difference le a b) ∷ []))
compare_commands gt a b T F = F ++ (T ++ (push_test (difference gt a b) ∷ []))
compare_commands ge a b T F = T ++ (F ++ (push_test (difference ge a b) ∷ []))
compare_commands lt a b T F = F ++ (T ++ (push_test (difference lt a b) ∷ []))

-- "`!` for not": the outcomes change places
unfoldable pub nots_commands : Nots → (List Command → List Command → List Command) → List Command → List Command → List Command
nots_commands unsaid c T F = c T F
nots_commands (bang n p) c T F = nots_commands n (λ t f. c f t) T F

-- "those before the comparisons, then not, and, or"
unfoldable mutual
  unfolding compare_commands nots_commands condition_of later_of

  pub atom_commands : {n : ℕ} → Atom n → List Command → List Command → List Command
  atom_commands (now p i) T F = T ++ (F ++ (push_condition (condition_of i) ∷ []))
  atom_commands (later p i) T F = T ++ (F ++ (push_condition (later_of i) ∷ []))
  atom_commands (compare s p op t) T F = compare_commands op (linear_of _ s) (linear_of _ t) T F
  atom_commands (group p o q) T F = or_commands o T F

  pub not_commands : {n : ℕ} → Not n → List Command → List Command → List Command
  not_commands (negated n x) T F = nots_commands n (λ t f. atom_commands x t f) T F

  pub and_commands : {n : ℕ} → And n → List Command → List Command → List Command
  and_commands (alone x) T F = not_commands x T F
  and_commands (both a p x) T F = and_commands a (not_commands x T F) F

  pub or_commands : {n : ℕ} → Or n → List Command → List Command → List Command
  or_commands (single a) T F = and_commands a T F
  or_commands (either o p a) T F = or_commands o T (and_commands a T F)

-- ---- items

-- a result is one leaf: 10 with its numbers, or 13
unfoldable pub result_command : Result → Command
result_command (worth s) = push_leaf (linear_of deepest s)
result_command (forbids p) = push_forbidden

-- the characters of a name: a doubled quotation mark is one
unfoldable pub letters : {n : ℕ} → Chars n → List ℕ
letters empty = []
letters (char cs c) = letters cs ++ (c.byte ∷ [])
letters (quote cs) = letters cs ++ (34 ∷ [])

-- k bytes: a name, then spaces
unfoldable pub filled : ℕ → List ℕ → List ℕ
filled zero l = []
filled (suc k) [] = 0x20 ∷ filled k []
filled (suc k) (b ∷ l) = b ∷ filled k l

-- "one reward, chance, next level or end worth per item", "each closed by an else": C are the commands of what follows
unfoldable mutual
  unfolding or_commands result_command letters filled condition_of level_of at_most

  pub items_commands : Items → List Command
  items_commands (head p m n A W) = site (byte_of (setting_of m)) (byte_of (setting_of n)) (action_of (setting_of A)) (byte_of (setting_of W)) ∷ []
  items_commands (closed B p q r) = before_commands B (result_command r ∷ [])
  items_commands (named I p q ds r cs) = items_commands I ++ (name_action (action_of ds) (filled name_bytes (letters cs)) ∷ [])

  pub opening_commands : Opening → List Command → List Command
  opening_commands (reward I p q ds r) C = items_commands I ++ (C ++ (give (reward_slot (action_of ds)) ∷ []))
  opening_commands (chance I p q ds r i t) C = items_commands I ++ (C ++ (give (chance_slot (action_of ds) (condition_of i)) ∷ []))
  opening_commands (next I p q ds r i t) C = items_commands I ++ (C ++ (give (level_slot (action_of ds) (level_of i)) ∷ []))
  opening_commands (end I p t) C = items_commands I ++ (C ++ (give end_slot ∷ []))

  -- "the first case that holds counts": a case's outcomes are its result and what follows
  pub before_commands : Before → List Command → List Command
  before_commands (start O) C = opening_commands O C
  before_commands (case B o p r q) C = before_commands B (or_commands o (result_command r ∷ []) C)

-- "an import of whole models": the site, the items in the order written, the end
unfoldable pub text_commands : Text → List Command
unfolding items_commands
text_commands (entire I e) = items_commands I ++ (end_model ∷ [])
