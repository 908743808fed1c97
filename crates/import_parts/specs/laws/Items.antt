-- The walk reads an item's opening, and finds its end.
use Rattle.std.specs.Prelude.{◌≡◌, refl, false, List, ◌∷◌, ℕ, ◌-◌, get_or}
use Rattle.std.proofs.Common.{ap, ap₂, ◌∙◌}
use Rattle.theory.specs.Command.{Slot}
use Rattle.theory.specs.Verdict.{name_slot}
use Rattle.import_grammar.specs.Grammar.{Spaces, none, Digits, Index, i1, i2, i3, i4, i5, i6, i7, i8, Four, f1, f2, f3, f4, Op, lt}
use Rattle.import_grammar.specs.Grammar.{le, gt, ge, Sum, Nots, unsaid, bang, Atom, now, later, compare, group, Not, negated, And, alone, both, Or, single}
use Rattle.import_grammar.specs.Grammar.{either, Result, worth, forbids, Chars, Opening, reward, chance, next, end, Before, start, case}
use Rattle.import_grammar.specs.Grammar.{index_byte, four_byte, op_bytes, spaces_bytes, digits_bytes, sum_bytes, nots_bytes, atom_bytes, not_bytes, and_bytes}
use Rattle.import_grammar.specs.Grammar.{or_bytes, result_bytes}
use Rattle.import_model.specs.Commands.{action_most, action_of, condition_of, level_of}
use Rattle.import_found.proofs.laws.Passing.{SumByte, s9, s10, s13, s32, s42, s43, s45, s48, s49, s50, s51, s52, s53, s54, s55, s56, s57, s76, over_spaces, over_sum}
use Rattle.import_found.specs.Cases.{cases_bytes}
use Rattle.import_parts.specs.Parts.{opened_bytes, else_bytes, string_bytes, named_bytes, slot_of}
use Rattle.import_parts.specs.Walk.{past, is_letter, begins, inside_after, next_letter, item_rest, goes_on, number_value, number_rest, kind_in, word_of, action_rest, action_in, index_in, opening_rest, slot_in}
use Rattle.import_parts.specs.laws.Meets.{past_equals, colon_spaces, rest_spaces, number_read, number_left, NumberEnds, ends_spaced}

-- ---- behind an action

equals_ends : (f : List ℕ) → NumberEnds (61 ∷ f)
unfolding NumberEnds number_value goes_on
equals_ends f m v = refl

NEnds : (f : List ℕ) → NumberEnds (78 ∷ f)
unfolding NumberEnds number_value goes_on
NEnds f m v = refl

LEnds : (f : List ℕ) → NumberEnds (76 ∷ f)
unfolding NumberEnds number_value goes_on
LEnds f m v = refl

quotes_end : (f : List ℕ) → NumberEnds (34 ∷ f)
unfolding NumberEnds number_value goes_on
quotes_end f m v = refl

equals_left : (f : List ℕ) → number_rest (61 ∷ f) ≡ 61 ∷ f
unfolding number_rest goes_on
equals_left f = refl

NLeft : (f : List ℕ) → number_rest (78 ∷ f) ≡ 78 ∷ f
unfolding number_rest goes_on
NLeft f = refl

LLeft : (f : List ℕ) → number_rest (76 ∷ f) ≡ 76 ∷ f
unfolding number_rest goes_on
LLeft f = refl

quotes_left : (f : List ℕ) → number_rest (34 ∷ f) ≡ 34 ∷ f
unfolding number_rest goes_on
quotes_left f = refl

-- the digits between white space, before g
action_bytes : Spaces → Digits → Spaces → List ℕ → List ℕ
action_bytes q ds r g = spaces_bytes q (digits_bytes ds (spaces_bytes r g))

action_read : (q : Spaces) (ds : Digits) (r : Spaces) (g : List ℕ) → NumberEnds g → number_value action_most 0 (action_bytes q ds r g) ≡ action_of ds
unfolding action_bytes
action_read q ds r g h = number_read action_most q ds (spaces_bytes r g) (ends_spaced r g h)

action_left : (q : Spaces) (ds : Digits) (r : Spaces) (g : List ℕ) → number_rest g ≡ g → number_rest (action_bytes q ds r g) ≡ g
unfolding action_bytes
action_left q ds r g h = number_left q ds (spaces_bytes r g) ∙ rest_spaces r g ∙ h

later_digit : (i : Four) (f : List ℕ) → get_or (78 ∷ four_byte i ∷ f) 1 0 - 48 ≡ condition_of i
unfolding condition_of
later_digit f1 f = refl
later_digit f2 f = refl
later_digit f3 f = refl
later_digit f4 f = refl

level_digit : (i : Index) (f : List ℕ) → get_or (76 ∷ index_byte i ∷ f) 1 0 - 48 ≡ level_of i
unfolding level_of
level_digit i1 f = refl
level_digit i2 f = refl
level_digit i3 f = refl
level_digit i4 f = refl
level_digit i5 f = refl
level_digit i6 f = refl
level_digit i7 f = refl
level_digit i8 f = refl

past_later : (i : Four) (t : Spaces) (f : List ℕ) → past 61 (78 ∷ four_byte i ∷ spaces_bytes t (61 ∷ f)) ≡ f
unfolding past
past_later f1 t f = past_equals t f
past_later f2 t f = past_equals t f
past_later f3 t f = past_equals t f
past_later f4 t f = past_equals t f

past_level : (i : Index) (t : Spaces) (f : List ℕ) → past 61 (76 ∷ index_byte i ∷ spaces_bytes t (61 ∷ f)) ≡ f
unfolding past
past_level i1 t f = past_equals t f
past_level i2 t f = past_equals t f
past_level i3 t f = past_equals t f
past_level i4 t f = past_equals t f
past_level i5 t f = past_equals t f
past_level i6 t f = past_equals t f
past_level i7 t f = past_equals t f
past_level i8 t f = past_equals t f

-- ---- openings

abbrev slot : ℕ → ℕ → ℕ → Slot
slot c a i = record { command = c; action = a; index = i }

-- the operands of an item with cases
pub slot_read : (O : Opening) (f : List ℕ) → slot_in (opened_bytes O f) ≡ slot_of O
unfolding slot_in kind_in word_of action_rest action_in index_in opened_bytes slot_of action_bytes NumberEnds
slot_read (reward I p q ds r) f = ap (λ (a : ℕ). slot 0x20 a 0) (action_read q ds r (61 ∷ f) (equals_ends f))
slot_read (chance I p q ds r i t) f =
    ap₂ (slot 0x21) (action_read q ds r (78 ∷ four_byte i ∷ spaces_bytes t (61 ∷ f)) (NEnds (four_byte i ∷ spaces_bytes t (61 ∷ f))))
    (ap (λ (l : List ℕ). get_or l 1 0 - 48) (action_left q ds r (78 ∷ four_byte i ∷ spaces_bytes t (61 ∷ f)) (NLeft (four_byte i ∷ spaces_bytes t (61 ∷ f)))) ∙ later_digit i (spaces_bytes t (61 ∷ f)))
slot_read (next I p q ds r i t) f =
    ap₂ (slot 0x22) (action_read q ds r (76 ∷ index_byte i ∷ spaces_bytes t (61 ∷ f)) (LEnds (index_byte i ∷ spaces_bytes t (61 ∷ f))))
    (ap (λ (l : List ℕ). get_or l 1 0 - 48) (action_left q ds r (76 ∷ index_byte i ∷ spaces_bytes t (61 ∷ f)) (LLeft (index_byte i ∷ spaces_bytes t (61 ∷ f)))) ∙ level_digit i (spaces_bytes t (61 ∷ f)))
slot_read (end I p t) f = ap (λ (a : ℕ). slot 0x23 a 0) (ends_spaced t (61 ∷ f) (equals_ends f) action_most 0)

-- where its cases begin
pub opening_left : (O : Opening) (f : List ℕ) → opening_rest (kind_in (opened_bytes O f)) (opened_bytes O f) ≡ f
unfolding kind_in word_of action_rest opening_rest opened_bytes action_bytes spaces_bytes
opening_left (reward I p q ds r) f = ap (past 61) (action_left q ds r (61 ∷ f) (equals_left f)) ∙ past_equals none f
opening_left (chance I p q ds r i t) f =
    ap (past 61) (action_left q ds r (78 ∷ four_byte i ∷ spaces_bytes t (61 ∷ f)) (NLeft (four_byte i ∷ spaces_bytes t (61 ∷ f)))) ∙ past_later i t f
opening_left (next I p q ds r i t) f =
    ap (past 61) (action_left q ds r (76 ∷ index_byte i ∷ spaces_bytes t (61 ∷ f)) (LLeft (index_byte i ∷ spaces_bytes t (61 ∷ f)))) ∙ past_level i t f
opening_left (end I p t) f = ap (past 61) (rest_spaces t (61 ∷ f) ∙ equals_left f) ∙ past_equals none f

-- a name has an action alone
pub name_read : {n : ℕ} (q : Spaces) (ds : Digits) (r : Spaces) (cs : Chars n) (f : List ℕ) → slot_in (named_bytes q ds r cs f) ≡ name_slot (action_of ds)
unfolding slot_in kind_in word_of action_rest action_in index_in named_bytes string_bytes action_bytes
name_read q ds r cs f = ap (λ (a : ℕ). slot 0x30 a 0) (action_read q ds r (string_bytes cs f) (quotes_end _))

-- where its string begins
pub name_left : {n : ℕ} (q : Spaces) (ds : Digits) (r : Spaces) (cs : Chars n) (f : List ℕ)
    → opening_rest (kind_in (named_bytes q ds r cs f)) (named_bytes q ds r cs f) ≡ string_bytes cs f
unfolding kind_in word_of action_rest opening_rest named_bytes string_bytes action_bytes
name_left q ds r cs f = action_left q ds r (string_bytes cs f) (quotes_left _)

-- ---- the end of an item

on : List ℕ → List ℕ
on f = next_letter false f

on_over : (k : ℕ) → SumByte k → (d : ℕ) (f : List ℕ) → on (k ∷ f) ≡ on f
unfolding on next_letter begins is_letter inside_after
on_over _ s9 d f = refl
on_over _ s10 d f = refl
on_over _ s13 d f = refl
on_over _ s32 d f = refl
on_over _ s42 d f = refl
on_over _ s43 d f = refl
on_over _ s45 d f = refl
on_over _ s48 d f = refl
on_over _ s49 d f = refl
on_over _ s50 d f = refl
on_over _ s51 d f = refl
on_over _ s52 d f = refl
on_over _ s53 d f = refl
on_over _ s54 d f = refl
on_over _ s55 d f = refl
on_over _ s56 d f = refl
on_over _ s57 d f = refl
on_over _ s76 d f = refl

-- the bytes of a condition beside those of a sum
data CondByte : ℕ → Type 0 where
  c33 : CondByte 33
  c38 : CondByte 38
  c40 : CondByte 40
  c41 : CondByte 41
  c58 : CondByte 58
  c59 : CondByte 59
  c60 : CondByte 60
  c61 : CondByte 61
  c62 : CondByte 62
  c67 : CondByte 67
  c78 : CondByte 78
  c124 : CondByte 124

on_cond : {k : ℕ} → CondByte k → (f : List ℕ) → on (k ∷ f) ≡ on f
unfolding on next_letter begins is_letter inside_after
on_cond c33 f = refl
on_cond c38 f = refl
on_cond c40 f = refl
on_cond c41 f = refl
on_cond c58 f = refl
on_cond c59 f = refl
on_cond c60 f = refl
on_cond c61 f = refl
on_cond c62 f = refl
on_cond c67 f = refl
on_cond c78 f = refl
on_cond c124 f = refl

on_spaces : (q : Spaces) (f : List ℕ) → on (spaces_bytes q f) ≡ on f
on_spaces q f = over_spaces (λ d f. on f) on_over (λ d f. on_cond c40 f) (λ d f. on_cond c41 f) q 0 f

on_sum : {n : ℕ} (s : Sum n) (f : List ℕ) → on (sum_bytes s f) ≡ on f
on_sum s f = over_sum (λ d f. on f) on_over (λ d f. on_cond c40 f) (λ d f. on_cond c41 f) s 0 f

on_token : (q : Spaces) {k : ℕ} → CondByte k → (f : List ℕ) → on (spaces_bytes q (k ∷ f)) ≡ on f
on_token q {k} c f = on_spaces q (k ∷ f) ∙ on_cond c f

on_four : (i : Four) (f : List ℕ) → on (four_byte i ∷ f) ≡ on f
on_four f1 f = on_over 49 s49 0 f
on_four f2 f = on_over 50 s50 0 f
on_four f3 f = on_over 51 s51 0 f
on_four f4 f = on_over 52 s52 0 f

on_nots : (x : Nots) (f : List ℕ) → on (nots_bytes x f) ≡ on f
unfolding nots_bytes
on_nots unsaid f = refl
on_nots (bang x p) f = on_nots x (spaces_bytes p (33 ∷ f)) ∙ on_token p c33 f

on_op : (op : Op) (f : List ℕ) → on (op_bytes op f) ≡ on f
on_op lt f = on_cond c60 f
on_op le f = on_cond c60 (61 ∷ f) ∙ on_cond c61 f
on_op gt f = on_cond c62 f
on_op ge f = on_cond c62 (61 ∷ f) ∙ on_cond c61 f

mutual
  unfolding atom_bytes

  on_atom : {n : ℕ} (x : Atom n) (f : List ℕ) → on (atom_bytes x f) ≡ on f
  on_atom (now q i) f = on_token q c67 (four_byte i ∷ f) ∙ on_four i f
  on_atom (later q i) f = on_token q c78 (four_byte i ∷ f) ∙ on_four i f
  on_atom (compare s p op t) f = on_sum s (spaces_bytes p (op_bytes op (sum_bytes t f))) ∙ on_spaces p (op_bytes op (sum_bytes t f)) ∙ on_op op (sum_bytes t f) ∙ on_sum t f
  on_atom (group q o r) f = on_token q c40 (or_bytes o (spaces_bytes r (41 ∷ f))) ∙ on_or o (spaces_bytes r (41 ∷ f)) ∙ on_token r c41 f

  on_not : {n : ℕ} (x : Not n) (f : List ℕ) → on (not_bytes x f) ≡ on f
  on_not (negated y x) f = on_nots y (atom_bytes x f) ∙ on_atom x f

  on_and : {n : ℕ} (x : And n) (f : List ℕ) → on (and_bytes x f) ≡ on f
  on_and (alone x) f = on_not x f
  on_and (both x p y) f = on_and x (spaces_bytes p (38 ∷ not_bytes y f)) ∙ on_token p c38 (not_bytes y f) ∙ on_not y f

  on_or : {n : ℕ} (x : Or n) (f : List ℕ) → on (or_bytes x f) ≡ on f
  on_or (single x) f = on_and x f
  on_or (either x p y) f = on_or x (spaces_bytes p (124 ∷ and_bytes y f)) ∙ on_token p c124 (and_bytes y f) ∙ on_and y f

-- "forbidden" has letters that begin items
on_forbidden : (f : List ℕ) → on (102 ∷ 111 ∷ 114 ∷ 98 ∷ 105 ∷ 100 ∷ 100 ∷ 101 ∷ 110 ∷ f) ≡ on f
unfolding on next_letter begins is_letter inside_after
on_forbidden f = refl

on_result : (r : Result) (f : List ℕ) → on (result_bytes r f) ≡ on f
unfolding result_bytes
on_result (worth s) f = on_sum s f
on_result (forbids p) f = on_spaces p (102 ∷ 111 ∷ 114 ∷ 98 ∷ 105 ∷ 100 ∷ 100 ∷ 101 ∷ 110 ∷ f) ∙ on_forbidden f

on_cases : (B : Before) (f : List ℕ) → on (cases_bytes B f) ≡ on f
unfolding cases_bytes
on_cases (start O) f = refl
on_cases (case B o p r q) f =
    on_cases B (or_bytes o (spaces_bytes p (58 ∷ result_bytes r (spaces_bytes q (59 ∷ f))))) ∙ on_or o (spaces_bytes p (58 ∷ result_bytes r (spaces_bytes q (59 ∷ f))))
    ∙ on_token p c58 (result_bytes r (spaces_bytes q (59 ∷ f))) ∙ on_result r (spaces_bytes q (59 ∷ f)) ∙ on_token q c59 f

on_else : (f : List ℕ) → on (101 ∷ 108 ∷ 115 ∷ 101 ∷ f) ≡ 101 ∷ 108 ∷ 115 ∷ 101 ∷ f
unfolding on next_letter begins is_letter inside_after
on_else f = refl

past_else : (q : Spaces) (f : List ℕ) → past 58 (101 ∷ 108 ∷ 115 ∷ 101 ∷ spaces_bytes q (58 ∷ f)) ≡ f
unfolding past
past_else q f = colon_spaces q (58 ∷ f)

-- an item ends where the first letter behind its else stands
pub item_left : (B : Before) (p q : Spaces) (r : Result) (f : List ℕ) → item_rest (cases_bytes B (else_bytes p q r f)) ≡ next_letter false f
unfolding item_rest else_bytes on
item_left B p q r f =
    ap (λ (l : List ℕ). on (past 58 l)) (on_cases B (else_bytes p q r f) ∙ on_spaces p (101 ∷ 108 ∷ 115 ∷ 101 ∷ spaces_bytes q (58 ∷ result_bytes r f)) ∙ on_else (spaces_bytes q (58 ∷ result_bytes r f)))
    ∙ ap on (past_else q (result_bytes r f)) ∙ on_result r f

pub next_spaces : (q : Spaces) (f : List ℕ) → next_letter false (spaces_bytes q f) ≡ next_letter false f
unfolding on
next_spaces q f = on_spaces q f
