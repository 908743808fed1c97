-- What the scanner keeps of the reader's state: numbers, and none of the pieces.
use Rattle.std.specs.Prelude.{Bool, true, false, ℕ}
use Rattle.import_grammar.specs.Grammar.{Spaces, none, more, ConstFactor, number, kbracket, ConstTerm, kfactor, ktimes, vfactor, vscaled, vby, unsaid, bang, Chars, deepest}
use Rattle.import_grammar.specs.Reader.{ConstPre, kopens, knegs, kmore, SumPre, kpre, vmore, ConstTermPre, first, times_k, TermPre, free, times_v, Term, kt, vt}
use Rattle.import_grammar.specs.Reader.{no_or, some_or, no_and, some_and, Level, lv, CondCtx, base, inside, ResultCtx, of_case, of_else, Head, q0, q1, q2, q3}
use Rattle.import_grammar.specs.Reader.{Kind, a_reward, a_chance, a_next, a_name, SumCtx, left, right, value, paren, ConstCtx, behind, within}
use Rattle.import_grammar.specs.Reader.{ReaderState as Standing, cond, factor, after, cfactor, cafter, less, greater, held, els, outset, hletter, hequals, hnumber, hdone, inum, idone, iequals, res, forbade, quoted}
use Rattle.import_grammar.specs.Reader.{Middle, letter_c, letter_l, reward1, reward2, reward3, reward4, reward5, chance1, chance2, chance3, chance4, chance5}
use Rattle.import_grammar.specs.Reader.{end1, end2, n1, next2, next3, name2, name3, site1, site2, site3, forb1, forb2, forb3, forb4, forb5, forb6, forb7}
use Rattle.import_grammar.specs.Reader.{forb8, letter_n, chance_n, next_l, inside_name, el1, el2, el3, Machine, at, mid, dead}
use Rattle.import_state.specs.Bytes.{no_level}
use Rattle.import_state.specs.declared.Side.{Side}
use Rattle.import_state.specs.declared.Side.TheVariants.{Left, Right, Case, Last}
use Rattle.import_state.specs.declared.Setting.{Setting}
use Rattle.import_state.specs.declared.Setting.TheVariants.{Levels, Conditions, Actions, Weights}
use Rattle.import_state.specs.declared.Kind.{Kind as Item}
use Rattle.import_state.specs.declared.Kind.TheVariants as items
use Rattle.import_state.specs.declared.Sum.{Sum}
use Rattle.import_state.specs.declared.Place.{Place}
use Rattle.import_state.specs.declared.Place.TheVariants.{Outset, Site, Equals, Value, Set, Action, Given, Opener, Quoted, Atom, Factor, After, Compared, Held, Otherwise, Result, Forbade}
use Rattle.import_state.specs.declared.Token.{Token}
use Rattle.import_state.specs.declared.Token.TheVariants as tokens
use Rattle.import_state.specs.declared.State.{State}
use Rattle.import_state.specs.declared.State.TheVariants.{Dead, At, In}

-- how many more brackets may be opened, or characters may come
abbrev pub cond_room : {n : ℕ} → CondCtx n → ℕ
cond_room {n = n} ctx = n

abbrev pub room_of : {n : ℕ} → SumCtx n → ℕ
room_of {n = n} sc = n

abbrev pub const_room : {n : ℕ} → ConstCtx n → ℕ
const_room {n = n} cc = n

abbrev pub chars_room : {n : ℕ} → Chars n → ℕ
chars_room {n = n} cs = n

-- the room of the innermost level that has something before its atom: brackets up to there are conditions'
abbrev pub hards : {n : ℕ} → CondCtx n → Level n → ℕ
hards (base B) l = deepest
hards (inside ctx l' q) (lv no_or no_and unsaid) = hards ctx l'
hards (inside ctx l' q) (lv no_or no_and (bang x r)) = cond_room (inside ctx l' q)
hards (inside ctx l' q) (lv no_or (some_and a r) x) = cond_room (inside ctx l' q)
hards (inside ctx l' q) (lv (some_or o r) a x) = cond_room (inside ctx l' q)

abbrev pub may_else : {n : ℕ} → CondCtx n → Level n → Bool
may_else (base B) (lv no_or no_and unsaid) = true
may_else (base B) (lv no_or no_and (bang x r)) = false
may_else (base B) (lv no_or (some_and a r) x) = false
may_else (base B) (lv (some_or o r) a x) = false
may_else (inside ctx l' q) l = false

abbrev pub result_side : ResultCtx → Side
result_side (of_case B o q) = Case
result_side (of_else B q r) = Last

abbrev pub side_of : {n : ℕ} → SumCtx n → Side
side_of (left ctx l) = Left
side_of (right ctx l s q op) = Right
side_of (value rc) = result_side rc
side_of (paren sc pre cp q) = side_of sc

abbrev pub hard_of : {n : ℕ} → SumCtx n → ℕ
hard_of (left ctx l) = hards ctx l
hard_of (right ctx l s q op) = 0
hard_of (value rc) = 0
hard_of (paren sc pre cp q) = hard_of sc

abbrev pub top_of : {n : ℕ} → SumCtx n → ℕ
top_of (left ctx l) = cond_room ctx
top_of (right ctx l s q op) = cond_room ctx
top_of (value rc) = deepest
top_of (paren sc pre cp q) = top_of sc

-- the room of the innermost sum around that has a level
abbrev pub level_of : {n : ℕ} → SumCtx n → ℕ
level_of (left ctx l) = no_level
level_of (right ctx l s q op) = no_level
level_of (value rc) = no_level
level_of (paren sc (kpre c) cp q) = level_of sc
level_of (paren sc (vmore s p g) cp q) = room_of sc

abbrev pub level_before : {n : ℕ} → SumCtx n → SumPre n → ℕ
level_before sc (kpre c) = level_of sc
level_before sc (vmore s p g) = room_of sc

abbrev pub sum_at : {n : ℕ} → SumCtx n → ℕ → Bool → Sum
sum_at sc l v = record { side = side_of sc; room = room_of sc; hard = hard_of sc; top = top_of sc; level = l; vary = v }

abbrev pub factor_sum : {n : ℕ} → SumCtx n → SumPre n → TermPre n → Sum
factor_sum sc pre (free tp) = sum_at sc (level_before sc pre) false
factor_sum sc pre (times_v v p) = sum_at sc (room_of sc) true

abbrev pub after_sum : {n : ℕ} → SumCtx n → SumPre n → Term n → Sum
after_sum sc pre (kt t) = sum_at sc (level_before sc pre) false
after_sum sc pre (vt t) = sum_at sc (room_of sc) true

-- inside a bracket that may have no level
abbrev pub const_side : {n : ℕ} → ConstCtx n → Side
const_side (behind sc pre v r q) = side_of sc
const_side (within cc pre tp q) = const_side cc

abbrev pub const_hard : {n : ℕ} → ConstCtx n → ℕ
const_hard (behind sc pre v r q) = hard_of sc
const_hard (within cc pre tp q) = const_hard cc

abbrev pub const_top : {n : ℕ} → ConstCtx n → ℕ
const_top (behind sc pre v r q) = top_of sc
const_top (within cc pre tp q) = const_top cc

abbrev pub const_level : {n : ℕ} → ConstCtx n → ℕ
const_level (behind sc pre v r q) = room_of sc
const_level (within cc pre tp q) = const_level cc

abbrev pub const_sum : {n : ℕ} → ConstCtx n → Sum
const_sum cc = record { side = const_side cc; room = const_room cc; hard = const_hard cc; top = const_top cc; level = const_level cc; vary = true }

-- a minus may lead
abbrev pub const_opens : {n : ℕ} → ConstPre n → Bool
const_opens kopens = true
const_opens (knegs p) = false
const_opens (kmore s p g) = false

abbrev pub const_starts : {n : ℕ} → ConstTermPre n → ConstPre n → Bool
const_starts first pre = const_opens pre
const_starts (times_k t p) pre = false

abbrev pub sum_opens : {n : ℕ} → SumPre n → Bool
sum_opens (kpre c) = const_opens c
sum_opens (vmore s p g) = false

abbrev pub starts : {n : ℕ} → TermPre n → SumPre n → Bool
starts (free first) pre = sum_opens pre
starts (free (times_k t p)) pre = false
starts (times_v v p) pre = false

-- a number that the next digit might make longer
abbrev pub is_number : {n : ℕ} → ConstFactor n → Bool
is_number (number q ds) = true
is_number (kbracket q s r) = false

abbrev pub const_ends : {n : ℕ} → ConstTerm n → Bool
const_ends (kfactor x) = is_number x
const_ends (ktimes t q x) = is_number x

abbrev pub ends_number : {n : ℕ} → Term n → Bool
ends_number (kt t) = const_ends t
ends_number (vt (vfactor x)) = false
ends_number (vt (vscaled t q x)) = false
ends_number (vt (vby t q x)) = is_number x

abbrev pub none_yet : Spaces → Bool
none_yet none = true
none_yet (more p b) = false

abbrev pub both_true : Bool → Bool → Bool
both_true true b = b
both_true false b = false

abbrev pub setting_of : Head → Setting
setting_of (q0 a) = Levels
setting_of (q1 a b) = Conditions
setting_of (q2 a b c) = Actions
setting_of (q3 a b c d) = Weights

abbrev pub item_of : Kind → Item
item_of a_reward = items.Reward
item_of a_chance = items.Chance
item_of a_next = items.Next
item_of a_name = items.Name

abbrev pub place_of : Standing → Spaces → Place
place_of (cond ctx l) p = Atom (cond_room ctx) (hards ctx l) (may_else ctx l)
place_of (factor sc pre tp) p = Factor (factor_sum sc pre tp) (starts tp pre)
place_of (after sc pre t) p = After (after_sum sc pre t) (both_true (ends_number t) (none_yet p))
place_of (cfactor cc pre tp) p = Factor (const_sum cc) (const_starts tp pre)
place_of (cafter cc pre t) p = After (const_sum cc) (both_true (const_ends t) (none_yet p))
place_of (less ctx l s q) p = Compared (cond_room ctx) (none_yet p)
place_of (greater ctx l s q) p = Compared (cond_room ctx) (none_yet p)
place_of (held ctx l x) p = Held (cond_room ctx)
place_of (els B q) p = Otherwise
place_of outset p = Outset
place_of (hletter h) p = Site (setting_of h)
place_of (hequals h q) p = Equals (setting_of h)
place_of (hnumber h q r) p = Value (setting_of h)
place_of (hdone h a b c ds) p = Set (setting_of h) (none_yet p)
place_of (inum K I q) p = Action (item_of K)
place_of (idone K I q r ds) p = Given (item_of K) (none_yet p)
place_of (iequals o) p = Opener
place_of (res rc) p = Result (result_side rc)
place_of (forbade rc q) p = Forbade (result_side rc)
place_of (quoted I a b ds r cs) p = Quoted (chars_room cs) (none_yet p)

abbrev pub token_of : Middle → Token
token_of (letter_c ctx l q) = tokens.Condition (cond_room ctx)
token_of (letter_n ctx l q) = tokens.Condition (cond_room ctx)
token_of (letter_l sc pre cp q) = tokens.Level (sum_at sc (level_before sc pre) false)
token_of (reward1 I p) = tokens.Word 8
token_of (reward2 I p) = tokens.Word 7
token_of (reward3 I p) = tokens.Word 6
token_of (reward4 I p) = tokens.Word 5
token_of (reward5 I p) = tokens.Word 4
token_of (chance1 I p) = tokens.Word 13
token_of (chance2 I p) = tokens.Word 12
token_of (chance3 I p) = tokens.Word 11
token_of (chance4 I p) = tokens.Word 10
token_of (chance5 I p) = tokens.Word 9
token_of (end1 I p) = tokens.Word 15
token_of (end2 I p) = tokens.Word 14
token_of (n1 I p) = tokens.NextOrName
token_of (next2 I p) = tokens.Word 17
token_of (next3 I p) = tokens.Word 16
token_of (name2 I p) = tokens.Word 19
token_of (name3 I p) = tokens.Word 18
token_of (site1 p) = tokens.Word 3
token_of (site2 p) = tokens.Word 2
token_of (site3 p) = tokens.Word 1
token_of (forb1 rc p) = tokens.Forbidden (result_side rc) 8
token_of (forb2 rc p) = tokens.Forbidden (result_side rc) 7
token_of (forb3 rc p) = tokens.Forbidden (result_side rc) 6
token_of (forb4 rc p) = tokens.Forbidden (result_side rc) 5
token_of (forb5 rc p) = tokens.Forbidden (result_side rc) 4
token_of (forb6 rc p) = tokens.Forbidden (result_side rc) 3
token_of (forb7 rc p) = tokens.Forbidden (result_side rc) 2
token_of (forb8 rc p) = tokens.Forbidden (result_side rc) 1
token_of (chance_n I p q ds r) = tokens.Chance
token_of (next_l I p q ds r) = tokens.Next
token_of (inside_name I p q ds r cs) = tokens.Name (chars_room cs)
token_of (el1 B q) = tokens.Word 22
token_of (el2 B q) = tokens.Word 21
token_of (el3 B q) = tokens.Word 20

abbrev pub shown : Machine → State
shown (at s p) = At (place_of s p)
shown (mid t) = In (token_of t)
shown dead = Dead
