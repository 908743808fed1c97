-- A walk over the bytes of a text that is known to be in the grammar: each function takes what stands at an offset and says what is read there, or what stands where it stops.
use Rattle.std.specs.Prelude.{Bool, true, false, not, List, [], ◌∷◌, ◌≡◌, ℕ, ◌+◌, ◌*◌, ◌-◌, ◌≤◌, eqb, length, drop, get_or}
use Rattle.whole.specs.Cases.{if}
use Rattle.theory.specs.Command.{Slot}
use Rattle.import_grammar.specs.Reader.{is_digit, is_blank}
use Rattle.import_model.specs.Commands.{at_most, action_most}

-- an offset of the text w at which l stands
pub record Stands (w : List ℕ) (i : ℕ) (l : List ℕ) : Type 0 where
  pub within : i ≤ length w
  pub rest : drop i w ≡ l

-- behind the first byte c
unfoldable pub past : ℕ → List ℕ → List ℕ
past c [] = []
past c (k ∷ w) = if (eqb k c) w (past c w)

-- ---- the next item

-- "reward", "chance", "next" and "name", "end" and "else"
unfoldable pub is_letter : ℕ → Bool
is_letter k = if (eqb k 114) true (if (eqb k 99) true (if (eqb k 110) true (eqb k 101)))

-- whether an item or an else begins here: not inside "forbidden"
unfoldable pub begins : Bool → ℕ → Bool
unfolding is_letter
begins true k = false
begins false k = is_letter k

-- whether the byte behind k is inside "forbidden", which has one n, its last letter
unfoldable pub inside_after : Bool → ℕ → Bool
inside_after true k = if (eqb k 110) false true
inside_after false k = eqb k 102

-- the first letter of the next item or else
unfoldable pub next_letter : Bool → List ℕ → List ℕ
unfolding begins inside_after
next_letter b [] = []
next_letter b (k ∷ w) = if (begins b k) (k ∷ w) (next_letter (inside_after b k) w)

-- from where an item's cases begin: the first letter behind its else is the next item's
unfoldable pub item_rest : List ℕ → List ℕ
unfolding past next_letter
item_rest l = next_letter false (past 58 (next_letter false l))

-- ---- numbers

-- white space or a digit: a number has white space before and behind it, and no number follows another
unfoldable pub goes_on : ℕ → Bool
goes_on k = if (is_blank k) true (is_digit k)

-- a number so far, in an operand whose greatest is `most`
unfoldable pub grown : ℕ → ℕ → ℕ → ℕ
grown most v k = if (is_blank k) v (at_most most (v * 10 + (k - 48)))

unfoldable pub number_value : ℕ → ℕ → List ℕ → ℕ
unfolding goes_on grown
number_value most v [] = v
number_value most v (k ∷ w) = if (goes_on k) (number_value most (grown most v k) w) v

-- the token behind a number
unfoldable pub number_rest : List ℕ → List ℕ
unfolding goes_on
number_rest [] = []
number_rest (k ∷ w) = if (goes_on k) (number_rest w) (k ∷ w)

-- ---- the site

-- a setting is the number behind the next "="
unfoldable pub setting_value : ℕ → List ℕ → ℕ
unfolding past number_value
setting_value most l = number_value most 0 (past 61 l)

unfoldable pub setting_rest : List ℕ → List ℕ
unfolding past number_rest
setting_rest l = number_rest (past 61 l)

-- ---- an item's opening

-- the command that an item becomes, by its first letters
unfoldable pub kind_in : List ℕ → ℕ
kind_in l =
    if (eqb (get_or l 0 0) 114) 0x20 (if (eqb (get_or l 0 0) 99) 0x21 (if (eqb (get_or l 0 0) 101) 0x23 (if (eqb (get_or l 1 0) 97) 0x30 0x22)))

-- the letters of its word
unfoldable pub word_of : ℕ → ℕ
word_of kind = if (eqb kind 0x20) 6 (if (eqb kind 0x21) 6 (if (eqb kind 0x23) 3 4))

-- behind its action; an end worth has none, and 0 is read
unfoldable pub action_rest : ℕ → List ℕ → List ℕ
unfolding word_of number_rest
action_rest kind l = number_rest (drop (word_of kind) l)

unfoldable pub action_in : ℕ → List ℕ → ℕ
unfolding word_of number_value
action_in kind l = number_value action_most 0 (drop (word_of kind) l)

-- the digit behind N or L, at what stands behind the action
unfoldable pub index_in : ℕ → List ℕ → ℕ
index_in kind l = if (eqb kind 0x21) (get_or l 1 0 - 48) (if (eqb kind 0x22) (get_or l 1 0 - 48) 0)

-- behind the "=" of an item with cases; at the string of a name
unfoldable pub opening_rest : ℕ → List ℕ → List ℕ
unfolding past action_rest
opening_rest kind l = if (eqb kind 0x30) (action_rest kind l) (past 61 (action_rest kind l))

unfoldable pub slot_in : List ℕ → Slot
unfolding kind_in action_in action_rest index_in
slot_in l = record { command = kind_in l; action = action_in (kind_in l) l; index = index_in (kind_in l) (action_rest (kind_in l) l) }

-- ---- a name

-- in a string, from behind its opening quotation mark, by whether a quotation mark that is no character stands right before: a second one is a character, any other byte is behind the string
unfoldable pub spells : Bool → ℕ → Bool
spells q k = if (eqb k 34) q (not q)

unfoldable pub spelled : Bool → List ℕ → List ℕ
unfolding spells
spelled q [] = []
spelled q (k ∷ w) = if (spells q k) (k ∷ spelled false w) (if q [] (spelled true w))

unfoldable pub behind_string : Bool → ℕ → Bool
behind_string q k = if (eqb k 34) false q

unfoldable pub quoted_after : Bool → ℕ → Bool
quoted_after q k = if (eqb k 34) (not q) false

unfoldable pub string_rest : Bool → List ℕ → List ℕ
unfolding behind_string quoted_after
string_rest q [] = []
string_rest q (k ∷ w) = if (behind_string q k) (k ∷ w) (string_rest (quoted_after q k) w)

-- from its opening quotation mark: byte j of the sixteen, and the next item
unfoldable pub name_byte : ℕ → List ℕ → ℕ
unfolding spelled
name_byte j l = get_or (spelled false (drop 1 l)) j 0x20

unfoldable pub name_rest : List ℕ → List ℕ
unfolding string_rest next_letter
name_rest l = next_letter false (string_rest false (drop 1 l))
