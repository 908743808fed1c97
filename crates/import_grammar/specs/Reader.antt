-- The reader: a machine over bytes. Its state holds the pieces that have been read, so that its bytes are the text so far.
-- A bracket where an atom may stand is opened as `inside`; whether it holds a condition or a sum is decided later: `close_left`
-- makes it a sum's bracket, `less` and everything that only conditions have leave it a condition's.
use Rattle.std.specs.Prelude.{Bool, true, false, List, [], ◌∷◌, ℕ, zero, suc, T, eqb, ◌≡◌, refl}
use Rattle.std.proofs.Common.{sym, subst}
use Rattle.import_grammar.specs.Grammar.{Blank, blank, tab, newline, return, Spaces, none, more, Digit, d0, d1, d2, d3, d4, d5, d6, d7, d8, d9, Digits}
use Rattle.import_grammar.specs.Grammar.{one, also, Index, i1, i2, i3, i4, i5, i6, i7, i8, Four, f1, f2, f3, f4, Op, lt, le, gt, ge, Sign, adds, takes}
use Rattle.import_grammar.specs.Grammar.{ConstFactor, number, kbracket, ConstTerm, kfactor, ktimes, ConstSum, kterm, kneg, kplus, VaryFactor, level}
use Rattle.import_grammar.specs.Grammar.{vbracket, VaryTerm, vfactor, vscaled, vby, VarySum, vterm, vneg, plus_kv, plus_vk, plus_vv, Sum, constant, varying}
use Rattle.import_grammar.specs.Grammar.{Nots, unsaid, bang, Atom, now, later, compare, group, Not, negated, And, alone, both, Or, single, either}
use Rattle.import_grammar.specs.Grammar.{Before, start, case, Items, head, closed, named, Opening, reward, chance, next, end, Result, worth, forbids}
use Rattle.import_grammar.specs.Grammar.{Setting, setting, Chars, empty, char, quote, is_plain, Text, entire, deepest, if}

-- ---- what stands before the piece that is being read

pub data ConstPre : ℕ → Type 0 where
  kopens : {n : ℕ} → ConstPre n
  knegs : {n : ℕ} → Spaces → ConstPre n
  kmore : {n : ℕ} → ConstSum n → Spaces → Sign → ConstPre n

pub data SumPre : ℕ → Type 0 where
  kpre : {n : ℕ} → ConstPre n → SumPre n
  vmore : {n : ℕ} → VarySum n → Spaces → Sign → SumPre n

pub data ConstTermPre : ℕ → Type 0 where
  first : {n : ℕ} → ConstTermPre n
  times_k : {n : ℕ} → ConstTerm n → Spaces → ConstTermPre n

pub data TermPre : ℕ → Type 0 where
  free : {n : ℕ} → ConstTermPre n → TermPre n
  times_v : {n : ℕ} → VaryTerm n → Spaces → TermPre n

-- a term, with or without a level
pub data Term : ℕ → Type 0 where
  kt : {n : ℕ} → ConstTerm n → Term n
  vt : {n : ℕ} → VaryTerm n → Term n

pub data Ors : ℕ → Type 0 where
  no_or : {n : ℕ} → Ors n
  some_or : {n : ℕ} → Or n → Spaces → Ors n

pub data Ands : ℕ → Type 0 where
  no_and : {n : ℕ} → Ands n
  some_and : {n : ℕ} → And n → Spaces → Ands n

pub data Level : ℕ → Type 0 where
  lv : {n : ℕ} → Ors n → Ands n → Nots → Level n

pub data CondCtx : ℕ → Type 0 where
  base : Before → CondCtx deepest
  inside : {n : ℕ} → CondCtx (suc n) → Level (suc n) → Spaces → CondCtx n

-- before a result: of a case, of an else
pub data ResultCtx : Type 0 where
  of_case : Before → Or deepest → Spaces → ResultCtx
  of_else : Before → Spaces → Spaces → ResultCtx

-- the site so far: its settings come in order
pub data Head : Type 0 where
  q0 : Spaces → Head
  q1 : Spaces → Setting → Head
  q2 : Spaces → Setting → Setting → Head
  q3 : Spaces → Setting → Setting → Setting → Head

-- items that begin with a word and a number
pub data Kind : Type 0 where
  a_reward : Kind
  a_chance : Kind
  a_next : Kind
  a_name : Kind

-- an item up to what stands before its "="
pub data Opener : Type 0 where
  chance_to : Items → Spaces → Spaces → Digits → Spaces → Four → Opener
  next_to : Items → Spaces → Spaces → Digits → Spaces → Index → Opener
  end_to : Items → Spaces → Opener

pub data SumCtx : ℕ → Type 0 where
  left : {n : ℕ} → CondCtx n → Level n → SumCtx n
  right : {n : ℕ} → CondCtx n → Level n → Sum n → Spaces → Op → SumCtx n
  value : ResultCtx → SumCtx deepest
  paren : {n : ℕ} → SumCtx (suc n) → SumPre (suc n) → ConstTermPre (suc n) → Spaces → SumCtx n

-- inside a bracket that may have no level: behind a term with a level, or inside another such bracket
pub data ConstCtx : ℕ → Type 0 where
  behind : {n : ℕ} → SumCtx (suc n) → SumPre (suc n) → VaryTerm (suc n) → Spaces → Spaces → ConstCtx n
  within : {n : ℕ} → ConstCtx (suc n) → ConstPre (suc n) → ConstTermPre (suc n) → Spaces → ConstCtx n

pub data ReaderState : Type 0 where
  cond : {n : ℕ} → CondCtx n → Level n → ReaderState
  factor : {n : ℕ} → SumCtx n → SumPre n → TermPre n → ReaderState
  after : {n : ℕ} → SumCtx n → SumPre n → Term n → ReaderState
  cfactor : {n : ℕ} → ConstCtx n → ConstPre n → ConstTermPre n → ReaderState
  cafter : {n : ℕ} → ConstCtx n → ConstPre n → ConstTerm n → ReaderState
  less : {n : ℕ} → CondCtx n → Level n → Sum n → Spaces → ReaderState
  greater : {n : ℕ} → CondCtx n → Level n → Sum n → Spaces → ReaderState
  held : {n : ℕ} → CondCtx n → Level n → Atom n → ReaderState
  els : Before → Spaces → ReaderState
  outset : ReaderState
  hletter : Head → ReaderState
  hequals : Head → Spaces → ReaderState
  hnumber : Head → Spaces → Spaces → ReaderState
  hdone : Head → Spaces → Spaces → Spaces → Digits → ReaderState
  inum : Kind → Items → Spaces → ReaderState
  idone : Kind → Items → Spaces → Spaces → Digits → ReaderState
  iequals : Opener → ReaderState
  res : ResultCtx → ReaderState
  forbade : ResultCtx → Spaces → ReaderState
  quoted : {n : ℕ} → Items → Spaces → Spaces → Digits → Spaces → Chars n → ReaderState

-- inside a token
pub data Middle : Type 0 where
  letter_c : {n : ℕ} → CondCtx n → Level n → Spaces → Middle
  letter_l : {n : ℕ} → SumCtx n → SumPre n → ConstTermPre n → Spaces → Middle
  reward1 : Items → Spaces → Middle
  reward2 : Items → Spaces → Middle
  reward3 : Items → Spaces → Middle
  reward4 : Items → Spaces → Middle
  reward5 : Items → Spaces → Middle
  chance1 : Items → Spaces → Middle
  chance2 : Items → Spaces → Middle
  chance3 : Items → Spaces → Middle
  chance4 : Items → Spaces → Middle
  chance5 : Items → Spaces → Middle
  end1 : Items → Spaces → Middle
  end2 : Items → Spaces → Middle
  n1 : Items → Spaces → Middle
  next2 : Items → Spaces → Middle
  next3 : Items → Spaces → Middle
  name2 : Items → Spaces → Middle
  name3 : Items → Spaces → Middle
  site1 : Spaces → Middle
  site2 : Spaces → Middle
  site3 : Spaces → Middle
  forb1 : ResultCtx → Spaces → Middle
  forb2 : ResultCtx → Spaces → Middle
  forb3 : ResultCtx → Spaces → Middle
  forb4 : ResultCtx → Spaces → Middle
  forb5 : ResultCtx → Spaces → Middle
  forb6 : ResultCtx → Spaces → Middle
  forb7 : ResultCtx → Spaces → Middle
  forb8 : ResultCtx → Spaces → Middle
  letter_n : {n : ℕ} → CondCtx n → Level n → Spaces → Middle
  chance_n : Items → Spaces → Spaces → Digits → Spaces → Middle
  next_l : Items → Spaces → Spaces → Digits → Spaces → Middle
  inside_name : {n : ℕ} → Items → Spaces → Spaces → Digits → Spaces → Chars n → Middle
  el1 : Before → Spaces → Middle
  el2 : Before → Spaces → Middle
  el3 : Before → Spaces → Middle

-- a state, and the white space since the last token; inside a token; or no text begins so
pub data Machine : Type 0 where
  at : ReaderState → Spaces → Machine
  mid : Middle → Machine
  dead : Machine

abbrev pub bare : {n : ℕ} → Level n
bare = lv no_or no_and unsaid

-- ---- pieces put together

abbrev pub opens : {n : ℕ} → SumPre n
opens = kpre kopens

abbrev pub ksum_of : {n : ℕ} → ConstPre n → ConstTerm n → ConstSum n
ksum_of kopens t = kterm t
ksum_of (knegs p) t = kneg p t
ksum_of (kmore s p g) t = kplus s p g t

abbrev pub vsum_of : {n : ℕ} → ConstPre n → VaryTerm n → VarySum n
vsum_of kopens t = vterm t
vsum_of (knegs p) t = vneg p t
vsum_of (kmore s p g) t = plus_kv s p g t

abbrev pub sum_of : {n : ℕ} → SumPre n → Term n → Sum n
sum_of (kpre c) (kt t) = constant (ksum_of c t)
sum_of (kpre c) (vt t) = varying (vsum_of c t)
sum_of (vmore s p g) (kt t) = varying (plus_vk s p g t)
sum_of (vmore s p g) (vt t) = varying (plus_vv s p g t)

abbrev pub more_of : {n : ℕ} → Sum n → Spaces → Sign → SumPre n
more_of (constant s) p g = kpre (kmore s p g)
more_of (varying s) p g = vmore s p g

abbrev pub ktimes_of : {n : ℕ} → ConstTermPre n → ConstFactor n → ConstTerm n
ktimes_of first x = kfactor x
ktimes_of (times_k t p) x = ktimes t p x

abbrev pub vtimes_of : {n : ℕ} → ConstTermPre n → VaryFactor n → VaryTerm n
vtimes_of first x = vfactor x
vtimes_of (times_k t p) x = vscaled t p x

abbrev pub times_const : {n : ℕ} → TermPre n → ConstFactor n → Term n
times_const (free tp) x = kt (ktimes_of tp x)
times_const (times_v v p) x = vt (vby v p x)

abbrev pub times_of : {n : ℕ} → Term n → Spaces → TermPre n
times_of (kt t) p = free (times_k t p)
times_of (vt t) p = times_v t p

-- a bracket becomes a factor, with a level or without
abbrev pub bracketed : {n : ℕ} → ConstTermPre (suc n) → Spaces → Sum n → Spaces → Term (suc n)
bracketed tp q (constant s) p = kt (ktimes_of tp (kbracket q s p))
bracketed tp q (varying s) p = vt (vtimes_of tp (vbracket q s p))

abbrev pub and_of : {n : ℕ} → Ands n → Not n → And n
and_of no_and x = alone x
and_of (some_and a p) x = both a p x

abbrev pub or_of : {n : ℕ} → Ors n → And n → Or n
or_of no_or a = single a
or_of (some_or o p) a = either o p a

abbrev pub whole : {n : ℕ} → Level n → Atom n → Or n
whole (lv o a n) x = or_of o (and_of a (negated n x))

abbrev pub anded : {n : ℕ} → Level n → Atom n → Spaces → Level n
anded (lv o a n) x p = lv o (some_and (and_of a (negated n x)) p) unsaid

abbrev pub ored : {n : ℕ} → Level n → Atom n → Spaces → Level n
ored (lv o a n) x p = lv (some_or (or_of o (and_of a (negated n x))) p) no_and unsaid

abbrev pub banged : {n : ℕ} → Level n → Spaces → Level n
banged (lv o a n) p = lv o a (bang n p)

-- ---- bytes

abbrev pub is_blank : ℕ → Bool
is_blank k = if (eqb k 32) true (if (eqb k 9) true (if (eqb k 10) true (eqb k 13)))

abbrev pub blank_of : ℕ → Blank
blank_of k = if (eqb k 32) blank (if (eqb k 9) tab (if (eqb k 10) newline return))

abbrev pub is_digit : ℕ → Bool
is_digit k =
    if (eqb k 48) true (if (eqb k 49) true (if (eqb k 50) true (if (eqb k 51) true (if (eqb k 52) true
    (if (eqb k 53) true (if (eqb k 54) true (if (eqb k 55) true (if (eqb k 56) true (eqb k 57)))))))))

abbrev pub digit_of : ℕ → Digit
digit_of k =
    if (eqb k 48) d0 (if (eqb k 49) d1 (if (eqb k 50) d2 (if (eqb k 51) d3 (if (eqb k 52) d4
    (if (eqb k 53) d5 (if (eqb k 54) d6 (if (eqb k 55) d7 (if (eqb k 56) d8 d9))))))))

-- ---- steps

-- a digit goes on with a number that ends right before it
pub data Longer (n : ℕ) : Type 0 where
  so : ConstFactor n → Longer n
  never : Longer n

abbrev pub longer : {n : ℕ} → ConstFactor n → Spaces → Digit → Longer n
longer (number q ds) none d = so (number q (also ds d))
longer (number q ds) (more p b) d = never
longer (kbracket q s r) none d = never
longer (kbracket q s r) (more p b) d = never

abbrev pub go_on : {n : ℕ} → (ConstFactor n → Machine) → Longer n → Machine
go_on mk (so x) = mk x
go_on mk never = dead

unfoldable pub extended : {n : ℕ} → SumCtx n → SumPre n → Term n → Spaces → Digit → Machine
extended sc pre (kt (kfactor x)) p d = go_on (λ y. at (after sc pre (kt (kfactor y))) none) (longer x p d)
extended sc pre (kt (ktimes t q x)) p d = go_on (λ y. at (after sc pre (kt (ktimes t q y))) none) (longer x p d)
extended sc pre (vt (vfactor x)) p d = dead
extended sc pre (vt (vscaled t q x)) p d = dead
extended sc pre (vt (vby t q x)) p d = go_on (λ y. at (after sc pre (vt (vby t q y))) none) (longer x p d)

unfoldable pub cextended : {n : ℕ} → ConstCtx n → ConstPre n → ConstTerm n → Spaces → Digit → Machine
cextended cc pre (kfactor x) p d = go_on (λ y. at (cafter cc pre (kfactor y)) none) (longer x p d)
cextended cc pre (ktimes t q x) p d = go_on (λ y. at (cafter cc pre (ktimes t q y)) none) (longer x p d)

-- a bracket that was opened where an atom may stand is a sum's
unfoldable pub close_left : {n : ℕ} → CondCtx n → Level n → Sum n → Spaces → Machine
close_left (base B) l s p = dead
close_left (inside ctx l' q) (lv no_or no_and unsaid) s p = at (after (left ctx l') opens (bracketed first q s p)) none
close_left (inside ctx l' q) (lv no_or no_and (bang n r)) s p = dead
close_left (inside ctx l' q) (lv no_or (some_and a r) n) s p = dead
close_left (inside ctx l' q) (lv (some_or o r) a n) s p = dead

unfoldable pub close_cond : {n : ℕ} → CondCtx n → Level n → Atom n → Spaces → Machine
close_cond (base B) l x p = dead
close_cond (inside ctx l' q) l x p = at (held ctx l' (group q (whole l x) p)) none

unfoldable pub colon : {n : ℕ} → CondCtx n → Level n → Atom n → Spaces → Machine
colon (base B) l x p = at (res (of_case B (whole l x) p)) none
colon (inside ctx l' q) l x p = dead

unfoldable pub else_here : {n : ℕ} → CondCtx n → Level n → Spaces → Machine
else_here (base B) (lv no_or no_and unsaid) p = mid (el1 B p)
else_here (base B) (lv no_or no_and (bang n r)) p = dead
else_here (base B) (lv no_or (some_and a r) n) p = dead
else_here (base B) (lv (some_or o r) a n) p = dead
else_here (inside ctx l' q) l p = dead

-- a bracket, where one more may be opened
unfoldable pub begin_cond : {n : ℕ} → CondCtx n → Level n → Spaces → Machine
begin_cond {n = zero} ctx l p = dead
begin_cond {n = suc m} ctx l p = at (cond (inside ctx l p) bare) none

unfoldable pub begin_sum : {n : ℕ} → SumCtx n → SumPre n → ConstTermPre n → Spaces → Machine
begin_sum {n = zero} sc pre cp p = dead
begin_sum {n = suc m} sc pre cp p = at (factor (paren sc pre cp p) opens (free first)) none

unfoldable pub open_behind : {n : ℕ} → SumCtx n → SumPre n → VaryTerm n → Spaces → Spaces → Machine
open_behind {n = zero} sc pre v q p = dead
open_behind {n = suc m} sc pre v q p = at (cfactor (behind sc pre v q p) kopens first) none

unfoldable pub open_const : {n : ℕ} → ConstCtx n → ConstPre n → ConstTermPre n → Spaces → Machine
open_const {n = zero} cc pre tp p = dead
open_const {n = suc m} cc pre tp p = at (cfactor (within cc pre tp p) kopens first) none

-- after an atom
unfoldable pub joined : {n : ℕ} → CondCtx n → Level n → Atom n → Spaces → ℕ → Machine
joined ctx l x p k =
    if (eqb k 38) (at (cond ctx (anded l x p)) none)
    (if (eqb k 124) (at (cond ctx (ored l x p)) none)
    (if (eqb k 41) (close_cond ctx l x p)
    (if (eqb k 58) (colon ctx l x p) dead)))

-- the first letter of an item
unfoldable pub item_here : Items → Spaces → ℕ → Machine
item_here I p k =
    if (eqb k 114) (mid (reward1 I p)) (if (eqb k 99) (mid (chance1 I p)) (if (eqb k 110) (mid (n1 I p)) (if (eqb k 101) (mid (end1 I p)) dead)))

-- after a result
unfoldable pub resulted : ResultCtx → Result → Spaces → ℕ → Machine
resulted (of_case B o q) r p k = if (eqb k 59) (at (cond (base (case B o q r p)) bare) none) dead
resulted (of_else B q s) r p k = item_here (closed B q s r) p k

-- the site's settings
abbrev pub head_letter : Head → ℕ
head_letter (q0 p) = 109
head_letter (q1 p a) = 110
head_letter (q2 p a b) = 65
head_letter (q3 p a b c) = 87

unfoldable pub letter_here : Head → Spaces → ℕ → Machine
letter_here h p k = if (eqb k (head_letter h)) (at (hequals h p) none) dead

unfoldable pub settled : Head → Setting → Spaces → ℕ → Machine
settled (q0 p) s t k = letter_here (q1 p s) t k
settled (q1 p a) s t k = letter_here (q2 p a s) t k
settled (q2 p a b) s t k = letter_here (q3 p a b s) t k
settled (q3 p a b c) s t k = item_here (head p a b c s) t k

unfoldable pub hextended : Head → Spaces → Spaces → Spaces → Digits → Spaces → Digit → Machine
hextended h a b c ds none d = at (hdone h a b c (also ds d)) none
hextended h a b c ds (more p e) d = dead

unfoldable pub iextended : Kind → Items → Spaces → Spaces → Digits → Spaces → Digit → Machine
iextended K I p q ds none d = at (idone K I p q (also ds d)) none
iextended K I p q ds (more r e) d = dead

abbrev pub opening_of : Opener → Spaces → Opening
opening_of (chance_to I p q ds r i) t = chance I p q ds r i t
opening_of (next_to I p q ds r i) t = next I p q ds r i t
opening_of (end_to I p) t = end I p t

-- behind an item's number
unfoldable pub by_kind : Kind → Items → Spaces → Spaces → Digits → Spaces → ℕ → Machine
by_kind a_reward I p q ds r k = if (eqb k 61) (at (cond (base (start (reward I p q ds r))) bare) none) dead
by_kind a_chance I p q ds r k = if (eqb k 78) (mid (chance_n I p q ds r)) dead
by_kind a_next I p q ds r k = if (eqb k 76) (mid (next_l I p q ds r)) dead
by_kind a_name I p q ds r k = if (eqb k 34) (mid (inside_name I p q ds r empty)) dead

-- a second quotation mark right behind the first is a character
unfoldable pub quote_here : {n : ℕ} → Items → Spaces → Spaces → Digits → Spaces → Chars n → Spaces → Machine
quote_here {n = zero} I p q ds r cs t = dead
quote_here {n = suc m} I p q ds r cs none = mid (inside_name I p q ds r (quote cs))
quote_here {n = suc m} I p q ds r cs (more t e) = dead

unfoldable pub with_plain : {n : ℕ} → Items → Spaces → Spaces → Digits → Spaces → Chars (suc n) → (k : ℕ) (b : Bool) → is_plain k ≡ b → Machine
with_plain I p q ds r cs k true e = mid (inside_name I p q ds r (char cs (record { byte = k; plain = subst T (sym e) tt })))
with_plain I p q ds r cs k false e = dead

unfoldable pub char_here : {n : ℕ} → Items → Spaces → Spaces → Digits → Spaces → Chars n → ℕ → Machine
char_here {n = zero} I p q ds r cs k = dead
char_here {n = suc m} I p q ds r cs k = with_plain I p q ds r cs k (is_plain k) refl

-- after a sum
unfoldable pub ending : {n : ℕ} → SumCtx n → Sum n → Spaces → ℕ → Machine
ending (left ctx l) s p k = if (eqb k 60) (at (less ctx l s p) none) (if (eqb k 62) (at (greater ctx l s p) none) (if (eqb k 41) (close_left ctx l s p) dead))
ending (right ctx l s' q op) s p k = joined ctx l (compare s' q op s) p k
ending (value rc) s p k = resulted rc (worth s) p k
ending (paren sc pre tp q) s p k = if (eqb k 41) (at (after sc pre (bracketed tp q s p)) none) dead

-- a closed bracket without a level
unfoldable pub close_const : {n : ℕ} → ConstCtx n → ConstSum n → Spaces → Machine
close_const (behind sc pre v r q) s p = at (after sc pre (vt (vby v r (kbracket q s p)))) none
close_const (within cc pre tp q) s p = at (cafter cc pre (ktimes_of tp (kbracket q s p))) none

-- a leading minus, at the start of a sum
unfoldable pub minus_here : {n : ℕ} → SumCtx n → SumPre n → ConstTermPre n → Spaces → Machine
minus_here sc (kpre kopens) first p = at (factor sc (kpre (knegs p)) (free first)) none
minus_here sc (kpre kopens) (times_k t q) p = dead
minus_here sc (kpre (knegs r)) tp p = dead
minus_here sc (kpre (kmore s r g)) tp p = dead
minus_here sc (vmore s r g) tp p = dead

unfoldable pub cminus_here : {n : ℕ} → ConstCtx n → ConstPre n → ConstTermPre n → Spaces → Machine
cminus_here cc kopens first p = at (cfactor cc (knegs p) first) none
cminus_here cc kopens (times_k t q) p = dead
cminus_here cc (knegs r) tp p = dead
cminus_here cc (kmore s r g) tp p = dead

-- a factor; behind a term with a level only one without
unfoldable pub core_here : {n : ℕ} → SumCtx n → SumPre n → TermPre n → Spaces → ℕ → Machine
core_here sc pre (free tp) p k =
    if (eqb k 76) (mid (letter_l sc pre tp p))
    (if (eqb k 40) (begin_sum sc pre tp p) (if (eqb k 45) (minus_here sc pre tp p) dead))
core_here sc pre (times_v v q) p k = if (eqb k 40) (open_behind sc pre v q p) dead

unfoldable pub factor_here : {n : ℕ} → SumCtx n → SumPre n → TermPre n → Spaces → ℕ → Machine
factor_here sc pre tp p k = if (is_digit k) (at (after sc pre (times_const tp (number p (one (digit_of k))))) none) (core_here sc pre tp p k)

unfoldable pub equals_here : {n : ℕ} → CondCtx n → Level n → Sum n → Spaces → Spaces → Machine
equals_here ctx l s q none = at (factor (right ctx l s q le) opens (free first)) none
equals_here ctx l s q (more p b) = dead

unfoldable pub equals_above : {n : ℕ} → CondCtx n → Level n → Sum n → Spaces → Spaces → Machine
equals_above ctx l s q none = at (factor (right ctx l s q ge) opens (free first)) none
equals_above ctx l s q (more p b) = dead

-- a byte that is not white space
unfoldable pub step_on : ReaderState → Spaces → ℕ → Machine
step_on (cond ctx l) p k =
    if (is_digit k) (at (after (left ctx l) opens (kt (kfactor (number p (one (digit_of k)))))) none)
    (if (eqb k 76) (mid (letter_l (left ctx l) opens first p))
    (if (eqb k 67) (mid (letter_c ctx l p))
    (if (eqb k 78) (mid (letter_n ctx l p))
    (if (eqb k 40) (begin_cond ctx l p)
    (if (eqb k 45) (at (factor (left ctx l) (kpre (knegs p)) (free first)) none)
    (if (eqb k 33) (at (cond ctx (banged l p)) none)
    (if (eqb k 101) (else_here ctx l p) dead)))))))
step_on (factor sc pre tp) p k = factor_here sc pre tp p k
step_on (after sc pre t) p k =
    if (is_digit k) (extended sc pre t p (digit_of k))
    (if (eqb k 42) (at (factor sc pre (times_of t p)) none)
    (if (eqb k 43) (at (factor sc (more_of (sum_of pre t) p adds) (free first)) none)
    (if (eqb k 45) (at (factor sc (more_of (sum_of pre t) p takes) (free first)) none)
    (ending sc (sum_of pre t) p k))))
step_on (cfactor cc pre tp) p k =
    if (is_digit k) (at (cafter cc pre (ktimes_of tp (number p (one (digit_of k))))) none)
    (if (eqb k 40) (open_const cc pre tp p) (if (eqb k 45) (cminus_here cc pre tp p) dead))
step_on (cafter cc pre t) p k =
    if (is_digit k) (cextended cc pre t p (digit_of k))
    (if (eqb k 42) (at (cfactor cc pre (times_k t p)) none)
    (if (eqb k 43) (at (cfactor cc (kmore (ksum_of pre t) p adds) first) none)
    (if (eqb k 45) (at (cfactor cc (kmore (ksum_of pre t) p takes) first) none)
    (if (eqb k 41) (close_const cc (ksum_of pre t) p) dead))))
step_on (less ctx l s q) p k = if (eqb k 61) (equals_here ctx l s q p) (factor_here (right ctx l s q lt) opens (free first) p k)
step_on (greater ctx l s q) p k = if (eqb k 61) (equals_above ctx l s q p) (factor_here (right ctx l s q gt) opens (free first) p k)
step_on (held ctx l x) p k = joined ctx l x p k
step_on (els B q) p k = if (eqb k 58) (at (res (of_else B q p)) none) dead
step_on outset p k = if (eqb k 115) (mid (site1 p)) dead
step_on (hletter h) p k = letter_here h p k
step_on (hequals h q) p k = if (eqb k 61) (at (hnumber h q p) none) dead
step_on (hnumber h q r) p k = if (is_digit k) (at (hdone h q r p (one (digit_of k))) none) dead
step_on (hdone h a b c ds) p k = if (is_digit k) (hextended h a b c ds p (digit_of k)) (settled h (setting a b c ds) p k)
step_on (inum K I q) p k = if (is_digit k) (at (idone K I q p (one (digit_of k))) none) dead
step_on (idone K I q r ds) p k = if (is_digit k) (iextended K I q r ds p (digit_of k)) (by_kind K I q r ds p k)
step_on (iequals o) p k = if (eqb k 61) (at (cond (base (start (opening_of o p))) bare) none) dead
step_on (res rc) p k = if (eqb k 102) (mid (forb1 rc p)) (factor_here (value rc) opens (free first) p k)
step_on (forbade rc q) p k = resulted rc (forbids q) p k
step_on (quoted I p q ds r cs) t k = if (eqb k 34) (quote_here I p q ds r cs t) (item_here (named I p q ds r cs) t k)

unfoldable pub step_mid : Middle → ℕ → Machine
step_mid (letter_c ctx l q) k = if (eqb k 49) (at (held ctx l (now q f1)) none) (if (eqb k 50) (at (held ctx l (now q f2)) none) (if (eqb k 51) (at (held ctx l (now q f3)) none) (if (eqb k 52) (at (held ctx l (now q f4)) none) dead)))
step_mid (letter_n ctx l q) k = if (eqb k 49) (at (held ctx l (later q f1)) none)
    (if (eqb k 50) (at (held ctx l (later q f2)) none) (if (eqb k 51) (at (held ctx l (later q f3)) none) (if (eqb k 52) (at (held ctx l (later q f4)) none) dead)))
step_mid (letter_l sc pre cp q) k = if (eqb k 49) (at (after sc pre (vt (vtimes_of cp (level q i1)))) none)
    (if (eqb k 50) (at (after sc pre (vt (vtimes_of cp (level q i2)))) none) (if (eqb k 51) (at (after sc pre (vt (vtimes_of cp (level q i3)))) none)
    (if (eqb k 52) (at (after sc pre (vt (vtimes_of cp (level q i4)))) none) (if (eqb k 53) (at (after sc pre (vt (vtimes_of cp (level q i5)))) none)
    (if (eqb k 54) (at (after sc pre (vt (vtimes_of cp (level q i6)))) none) (if (eqb k 55) (at (after sc pre (vt (vtimes_of cp (level q i7)))) none)
    (if (eqb k 56) (at (after sc pre (vt (vtimes_of cp (level q i8)))) none) dead)))))))
step_mid (chance_n I p q ds r) k = if (eqb k 49) (at (iequals (chance_to I p q ds r f1)) none)
    (if (eqb k 50) (at (iequals (chance_to I p q ds r f2)) none) (if (eqb k 51) (at (iequals (chance_to I p q ds r f3)) none)
    (if (eqb k 52) (at (iequals (chance_to I p q ds r f4)) none) dead)))
step_mid (next_l I p q ds r) k = if (eqb k 49) (at (iequals (next_to I p q ds r i1)) none)
    (if (eqb k 50) (at (iequals (next_to I p q ds r i2)) none) (if (eqb k 51) (at (iequals (next_to I p q ds r i3)) none)
    (if (eqb k 52) (at (iequals (next_to I p q ds r i4)) none) (if (eqb k 53) (at (iequals (next_to I p q ds r i5)) none)
    (if (eqb k 54) (at (iequals (next_to I p q ds r i6)) none) (if (eqb k 55) (at (iequals (next_to I p q ds r i7)) none)
    (if (eqb k 56) (at (iequals (next_to I p q ds r i8)) none) dead)))))))
step_mid (inside_name I p q ds r cs) k = if (eqb k 34) (at (quoted I p q ds r cs) none) (char_here I p q ds r cs k)
step_mid (reward1 I p) k = if (eqb k 101) (mid (reward2 I p)) dead
step_mid (reward2 I p) k = if (eqb k 119) (mid (reward3 I p)) dead
step_mid (reward3 I p) k = if (eqb k 97) (mid (reward4 I p)) dead
step_mid (reward4 I p) k = if (eqb k 114) (mid (reward5 I p)) dead
step_mid (reward5 I p) k = if (eqb k 100) (at (inum a_reward I p) none) dead
step_mid (chance1 I p) k = if (eqb k 104) (mid (chance2 I p)) dead
step_mid (chance2 I p) k = if (eqb k 97) (mid (chance3 I p)) dead
step_mid (chance3 I p) k = if (eqb k 110) (mid (chance4 I p)) dead
step_mid (chance4 I p) k = if (eqb k 99) (mid (chance5 I p)) dead
step_mid (chance5 I p) k = if (eqb k 101) (at (inum a_chance I p) none) dead
step_mid (end1 I p) k = if (eqb k 110) (mid (end2 I p)) dead
step_mid (end2 I p) k = if (eqb k 100) (at (iequals (end_to I p)) none) dead
step_mid (n1 I p) k = if (eqb k 101) (mid (next2 I p)) (if (eqb k 97) (mid (name2 I p)) dead)
step_mid (next2 I p) k = if (eqb k 120) (mid (next3 I p)) dead
step_mid (next3 I p) k = if (eqb k 116) (at (inum a_next I p) none) dead
step_mid (name2 I p) k = if (eqb k 109) (mid (name3 I p)) dead
step_mid (name3 I p) k = if (eqb k 101) (at (inum a_name I p) none) dead
step_mid (site1 p) k = if (eqb k 105) (mid (site2 p)) dead
step_mid (site2 p) k = if (eqb k 116) (mid (site3 p)) dead
step_mid (site3 p) k = if (eqb k 101) (at (hletter (q0 p)) none) dead
step_mid (forb1 rc p) k = if (eqb k 111) (mid (forb2 rc p)) dead
step_mid (forb2 rc p) k = if (eqb k 114) (mid (forb3 rc p)) dead
step_mid (forb3 rc p) k = if (eqb k 98) (mid (forb4 rc p)) dead
step_mid (forb4 rc p) k = if (eqb k 105) (mid (forb5 rc p)) dead
step_mid (forb5 rc p) k = if (eqb k 100) (mid (forb6 rc p)) dead
step_mid (forb6 rc p) k = if (eqb k 100) (mid (forb7 rc p)) dead
step_mid (forb7 rc p) k = if (eqb k 101) (mid (forb8 rc p)) dead
step_mid (forb8 rc p) k = if (eqb k 110) (at (forbade rc p) none) dead
step_mid (el1 B q) k = if (eqb k 108) (mid (el2 B q)) dead
step_mid (el2 B q) k = if (eqb k 115) (mid (el3 B q)) dead
step_mid (el3 B q) k = if (eqb k 101) (at (els B q) none) dead

unfoldable pub step : Machine → ℕ → Machine
step (at s p) k = if (is_blank k) (at s (more p (blank_of k))) (step_on s p k)
step (mid s) k = step_mid s k
step dead k = dead

unfoldable pub run : Machine → List ℕ → Machine
run m [] = m
run m (k ∷ w) = run (step m k) w

abbrev pub begin : Machine
begin = at outset none

-- ---- the reading at the end

pub data Reading : Type 0 where
  read : Text → Reading
  unfinished : Reading

unfoldable pub finish : Machine → Reading
finish (at (cond ctx l) p) = unfinished
finish (at (factor sc pre tp) p) = unfinished
finish (at (after (left ctx l) pre t) p) = unfinished
finish (at (after (right ctx l s q op) pre t) p) = unfinished
finish (at (after (value (of_case B o q)) pre t) p) = unfinished
finish (at (after (value (of_else B q r)) pre t) p) = read (entire (closed B q r (worth (sum_of pre t))) p)
finish (at (after (paren sc pre' cp q) pre t) p) = unfinished
finish (at (cfactor cc pre tp) p) = unfinished
finish (at (cafter cc pre t) p) = unfinished
finish (at (less ctx l s q) p) = unfinished
finish (at (greater ctx l s q) p) = unfinished
finish (at (held ctx l x) p) = unfinished
finish (at (els B q) p) = unfinished
finish (at outset p) = unfinished
finish (at (hletter h) p) = unfinished
finish (at (hequals h q) p) = unfinished
finish (at (hnumber h q r) p) = unfinished
finish (at (hdone (q0 x) a b c ds) p) = unfinished
finish (at (hdone (q1 x s) a b c ds) p) = unfinished
finish (at (hdone (q2 x s t) a b c ds) p) = unfinished
finish (at (hdone (q3 x s t u) a b c ds) p) = read (entire (head x s t u (setting a b c ds)) p)
finish (at (inum K I q) p) = unfinished
finish (at (idone K I q r ds) p) = unfinished
finish (at (iequals o) p) = unfinished
finish (at (res rc) p) = unfinished
finish (at (forbade (of_case B o q) s) p) = unfinished
finish (at (forbade (of_else B q r) s) p) = read (entire (closed B q r (forbids s)) p)
finish (at (quoted I p q ds r cs) t) = read (entire (named I p q ds r cs) t)
finish (mid s) = unfinished
finish dead = unfinished
