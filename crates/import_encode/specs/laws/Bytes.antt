-- What a text becomes is a list of bytes: each number of it is below 256.
use Rattle.std.specs.Prelude.{List, [], ◌∷◌, ◌++◌, Bool, true, false, ℕ, zero, suc, ◌/◌, ◌%◌, ◌<◌, T, eqb, leb, ltb, ℤ}
use Rattle.std.proofs.Common.{arith, leb→le, nltb→le}
use Rattle.whole.specs.Cases.{if, by_test}
use Rattle.theory.specs.Diagram.{Linear}
use Rattle.theory.specs.Command.{Command, site, push_leaf, push_condition, push_test, push_forbidden, give, name_action, end_model}
use Rattle.import_grammar.specs.Grammar.{Digits, Index, i1, i2, i3, i4, i5, i6, i7, i8, Four, f1, f2, f3, f4, Op, lt, le, gt, ge, Nots, unsaid, bang, Atom}
use Rattle.import_grammar.specs.Grammar.{now, later, compare, group, Not, negated, And, alone, both as both_of, Or, single, either, Result, worth, forbids}
use Rattle.import_grammar.specs.Grammar.{is_plain, Chars, empty, char, quote, Items, head, closed, named, Opening, reward, chance, next, end, Before}
use Rattle.import_grammar.specs.Grammar.{start, case, Text, entire}
use Rattle.import_numbers.specs.Numbers.{digits_value, linear_of}
use Rattle.import_model.specs.Commands.{condition_of, level_of, later_of, at_most, byte_most, byte_of, setting_of, compare_commands, nots_commands}
use Rattle.import_model.specs.Commands.{atom_commands, not_commands, and_commands, or_commands, result_command, letters, filled, items_commands}
use Rattle.import_model.specs.Commands.{opening_commands, before_commands, text_commands}
use Rattle.import_model.specs.Encode.{low_first, words_bytes, linear_bytes, slot_bytes, command_bytes, encode}
use Rattle.import_model.specs.Import.{model_bytes}

-- each is below 256
pub data AllBytes : List ℕ → Type 0 where
  no_byte : AllBytes []
  one_byte : {l : List ℕ} (b : ℕ) → b < 256 → AllBytes l → AllBytes (b ∷ l)

bytes_append : {l r : List ℕ} → AllBytes l → AllBytes r → AllBytes (l ++ r)
bytes_append no_byte s = s
bytes_append (one_byte b h q) s = one_byte b h (bytes_append q s)

-- ---- commands

low_bytes : (k n : ℕ) → AllBytes (low_first k n)
unfolding low_first
low_bytes zero n = no_byte
low_bytes (suc k) n = one_byte (n % 256) (omega arith) (low_bytes k (n / 256))

word_bytes : (l : List ℤ) → AllBytes (words_bytes l)
unfolding words_bytes
word_bytes [] = no_byte
word_bytes (z ∷ l) = bytes_append (low_bytes 4 _) (word_bytes l)

number_bytes : (p : Linear) → AllBytes (linear_bytes p)
unfolding linear_bytes
number_bytes p = bytes_append (word_bytes p.coeffs) (low_bytes 4 _)

-- operands of one byte are below 256
abbrev OneByte : Command → Type 0
OneByte (site m n a w) = (m < 256) × ((n < 256) × (w < 256))
OneByte (push_leaf p) = Unit {0}
OneByte (push_condition k) = k < 256
OneByte (push_test p) = Unit {0}
OneByte push_forbidden = Unit {0}
OneByte (give g) = (g.command < 256) × (g.index < 256)
OneByte (name_action a b) = AllBytes b
OneByte end_model = Unit {0}

if_bytes : (b : Bool) (l r : List ℕ) → AllBytes l → AllBytes r → AllBytes (if b l r)
if_bytes true l r p q = p
if_bytes false l r p q = q

command_is : (c : Command) → OneByte c → AllBytes (command_bytes c)
unfolding command_bytes slot_bytes
command_is (site m n a w) h = one_byte 2 (omega arith) (one_byte m h.0 (one_byte n h.1.0 (bytes_append (low_bytes 2 a) (one_byte w h.1.1 no_byte))))
command_is (push_leaf p) h = one_byte 0x10 (omega arith) (number_bytes p)
command_is (push_condition k) h = one_byte 0x11 (omega arith) (one_byte k h no_byte)
command_is (push_test p) h = one_byte 0x12 (omega arith) (number_bytes p)
command_is push_forbidden h = one_byte 0x13 (omega arith) no_byte
command_is (give g) h =
    if_bytes (eqb g.command 0x20) _ _ (one_byte 0x20 (omega arith) (low_bytes 2 g.action))
    (if_bytes (eqb g.command 0x23) _ _ (one_byte 0x23 (omega arith) no_byte) (one_byte g.command h.0 (bytes_append (low_bytes 2 g.action) (one_byte g.index h.1 no_byte))))
command_is (name_action a t) h = one_byte 0x30 (omega arith) (bytes_append (low_bytes 2 a) h)
command_is end_model h = one_byte 0xff (omega arith) no_byte

data AllOne : List Command → Type 0 where
  no_command : AllOne []
  one_command : {C : List Command} (c : Command) → OneByte c → AllOne C → AllOne (c ∷ C)

all_bytes : {C : List Command} → AllOne C → AllBytes (encode C)
unfolding encode
all_bytes no_command = no_byte
all_bytes (one_command c h q) = bytes_append (command_is c h) (all_bytes q)

-- ---- the commands of a text

append : {A B : List Command} → AllOne A → AllOne B → AllOne (A ++ B)
append no_command g = g
append (one_command c f r) g = one_command c f (append r g)

one : (c : Command) → OneByte c → AllOne (c ∷ [])
one c f = one_command c f no_command

three : {A B : List Command} (c : Command) → AllOne A → AllOne B → OneByte c → AllOne (A ++ (B ++ (c ∷ [])))
three c a b f = append a (append b (one c f))

condition_small : (i : Four) → condition_of i < 256
unfolding condition_of
condition_small f1 = omega arith
condition_small f2 = omega arith
condition_small f3 = omega arith
condition_small f4 = omega arith

later_small : (i : Four) → later_of i < 256
unfolding condition_of later_of
later_small f1 = omega arith
later_small f2 = omega arith
later_small f3 = omega arith
later_small f4 = omega arith

level_small : (i : Index) → level_of i < 256
unfolding level_of
level_small i1 = omega arith
level_small i2 = omega arith
level_small i3 = omega arith
level_small i4 = omega arith
level_small i5 = omega arith
level_small i6 = omega arith
level_small i7 = omega arith
level_small i8 = omega arith

compare_one : (op : Op) (a b : Linear) {T F : List Command} → AllOne T → AllOne F → AllOne (compare_commands op a b T F)
unfolding compare_commands
compare_one lt a b t f = three _ f t tt
compare_one le a b t f = three _ t f tt
compare_one gt a b t f = three _ f t tt
compare_one ge a b t f = three _ t f tt

nots_one : (n : Nots) (c : List Command → List Command → List Command) → ((T F : List Command) → AllOne T → AllOne F → AllOne (c T F)) → (T F : List Command) → AllOne T → AllOne F → AllOne (nots_commands n c T F)
unfolding nots_commands
nots_one unsaid c h T F t f = h T F t f
nots_one (bang n p) c h T F t f = nots_one n (λ u v. c v u) (λ A B a b. h B A b a) T F t f

mutual
  unfolding or_commands

  atom_one : {n : ℕ} (x : Atom n) (Y N : List Command) → AllOne Y → AllOne N → AllOne (atom_commands x Y N)
  atom_one (now p i) Y N y z = three _ y z (condition_small i)
  atom_one (later p i) Y N y z = three _ y z (later_small i)
  atom_one (compare s p op t) Y N y z = compare_one op (linear_of _ s) (linear_of _ t) y z
  atom_one (group p o q) Y N y z = or_one o Y N y z

  not_one : {n : ℕ} (x : Not n) (Y N : List Command) → AllOne Y → AllOne N → AllOne (not_commands x Y N)
  not_one (negated n x) Y N y z = nots_one n (λ t f. atom_commands x t f) (λ A B a b. atom_one x A B a b) Y N y z

  and_one : {n : ℕ} (a : And n) (Y N : List Command) → AllOne Y → AllOne N → AllOne (and_commands a Y N)
  and_one (alone x) Y N y z = not_one x Y N y z
  and_one (both_of a p x) Y N y z = and_one a (not_commands x Y N) N (not_one x Y N y z) z

  or_one : {n : ℕ} (o : Or n) (Y N : List Command) → AllOne Y → AllOne N → AllOne (or_commands o Y N)
  or_one (single a) Y N y z = and_one a Y N y z
  or_one (either o p a) Y N y z = or_one o Y (and_commands a Y N) y (and_one a Y N y z)

result_one : (r : Result) → AllOne (result_command r ∷ [])
unfolding result_command
result_one (worth s) = one _ tt
result_one (forbids p) = one _ tt

byte_small : (ds : Digits) → byte_of ds < 256
unfolding at_most
byte_small ds = by_test (ltb byte_most (digits_value ds)) (λ b. if b byte_most (digits_value ds) < 256) (λ _. omega arith) (λ t. omega (arith, nltb→le byte_most (digits_value ds) t))

plain_small : (k : ℕ) → T (is_plain k) → k < 256
plain_small k = by_test (eqb k 34) (λ b. T (if b false (if (leb 32 k) (leb k 126) false)) → k < 256) (λ _ t. absurd t)
    (λ _. by_test (leb 32 k) (λ b. T (if b (leb k 126) false) → k < 256) (λ _ t. omega (arith, leb→le k 126 t)) (λ _ t. absurd t))

letter_bytes : {n : ℕ} (cs : Chars n) → AllBytes (letters cs)
unfolding letters
letter_bytes empty = no_byte
letter_bytes (char cs c) = bytes_append (letter_bytes cs) (one_byte c.byte (plain_small c.byte c.plain) no_byte)
letter_bytes (quote cs) = bytes_append (letter_bytes cs) (one_byte 34 (omega arith) no_byte)

filled_bytes : (k : ℕ) {l : List ℕ} → AllBytes l → AllBytes (filled k l)
unfolding filled
filled_bytes zero q = no_byte
filled_bytes (suc k) no_byte = one_byte 0x20 (omega arith) (filled_bytes k no_byte)
filled_bytes (suc k) (one_byte b h q) = one_byte b h (filled_bytes k q)

mutual
  unfolding items_commands

  items_one : (I : Items) → AllOne (items_commands I)
  items_one (head p m n A W) = one _ (byte_small (setting_of m), (byte_small (setting_of n), byte_small (setting_of W)))
  items_one (closed B p q r) = before_one B (result_command r ∷ []) (result_one r)
  items_one (named I p q ds r cs) = append (items_one I) (one _ (filled_bytes 16 (letter_bytes cs)))

  opening_one : (O : Opening) (C : List Command) → AllOne C → AllOne (opening_commands O C)
  opening_one (reward I p q ds r) C c = three _ (items_one I) c (omega arith, omega arith)
  opening_one (chance I p q ds r i t) C c = three _ (items_one I) c (omega arith, condition_small i)
  opening_one (next I p q ds r i t) C c = three _ (items_one I) c (omega arith, level_small i)
  opening_one (end I p t) C c = three _ (items_one I) c (omega arith, omega arith)

  before_one : (B : Before) (C : List Command) → AllOne C → AllOne (before_commands B C)
  before_one (start O) C c = opening_one O C c
  before_one (case B o p r q) C c = before_one B (or_commands o (result_command r ∷ []) C) (or_one o (result_command r ∷ []) C (result_one r) c)

-- the model that a text becomes is a list of bytes
pub model_is_bytes : (t : Text) → AllBytes (model_bytes t)
unfolding model_bytes text_commands
model_is_bytes (entire I e) = all_bytes (append (items_one I) (one end_model tt))
