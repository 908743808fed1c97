-- The machine reads what the grammar writes: run over the bytes of a reading, it holds that reading.
use Rattle.std.specs.Prelude.{◌≡◌, refl, Bool, true, false, List, [], ◌∷◌, ℕ, suc, T, eqb, leb}
use Rattle.std.proofs.Common.{sym, ap, ◌∙◌, subst}
use Rattle.std.proofs.Math.Dec.{T_prop}
use Rattle.import_grammar.proofs.laws.Case.{by_eq}
use Rattle.import_grammar.specs.Grammar.{blank, tab, newline, return, Spaces, none, more, Digit, d0, d1, d2, d3, d4, d5, d6, d7, d8, d9, Digits}
use Rattle.import_grammar.specs.Grammar.{one, also, Index, i1, i2, i3, i4, i5, i6, i7, i8, Four, f1, f2, f3, f4, four_byte, Op, lt, le, gt, ge, Sign}
use Rattle.import_grammar.specs.Grammar.{adds, takes, ConstFactor, number, kbracket, ConstTerm, kfactor, ktimes, ConstSum, kterm, kneg, kplus}
use Rattle.import_grammar.specs.Grammar.{VaryFactor, level, vbracket, VaryTerm, vfactor, vscaled, vby, VarySum, vterm, vneg, plus_kv, plus_vk, plus_vv, Sum}
use Rattle.import_grammar.specs.Grammar.{constant, varying, Nots, unsaid, bang, Atom, now, later, compare, group, Not, negated, And, alone, both, Or}
use Rattle.import_grammar.specs.Grammar.{single, either, Before, start, case, Items, head, closed, named, Opening, reward, chance, next, end, Result}
use Rattle.import_grammar.specs.Grammar.{worth, forbids, Setting, setting, Char, Chars, empty, char, quote, is_plain, Text, entire, deepest, if}
use Rattle.import_grammar.specs.Grammar.{result_bytes, setting_bytes, chars_bytes, items_bytes, opening_bytes, digit_byte, index_byte}
use Rattle.import_grammar.specs.Grammar.{sign_byte, op_bytes, spaces_bytes, digits_bytes, kfactor_bytes, kterm_bytes, ksum_bytes, vfactor_bytes}
use Rattle.import_grammar.specs.Grammar.{vterm_bytes, vsum_bytes, sum_bytes, nots_bytes, atom_bytes, not_bytes, and_bytes, or_bytes, before_bytes}
use Rattle.import_grammar.specs.Grammar.{text_bytes}
use Rattle.import_grammar.specs.Reader.{ConstPre, kopens, knegs, kmore, SumPre, kpre, vmore, ConstTermPre, first, times_k, TermPre, free, times_v, Term}
use Rattle.import_grammar.specs.Reader.{kt, vt, Ors, no_or, some_or, Ands, no_and, some_and, Level, lv, CondCtx, base, inside, SumCtx, left, right}
use Rattle.import_grammar.specs.Reader.{ResultCtx, of_case, of_else, value, paren, Head, q0, q1, q2, q3, Kind, a_reward, a_chance, a_next, a_name}
use Rattle.import_grammar.specs.Reader.{chance_to, next_to, end_to, ConstCtx, behind, within, ReaderState, cond, chance_n, next_l}
use Rattle.import_grammar.specs.Reader.{inside_name}
use Rattle.import_grammar.specs.Reader.{outset, hletter, hequals, hnumber, hdone, inum, idone, iequals, res, forbade, quoted, factor}
use Rattle.import_grammar.specs.Reader.{after, cfactor, cafter, less, greater, held, els, Machine, at, mid, bare, opens}
use Rattle.import_grammar.specs.Reader.{ksum_of, sum_of, more_of, ktimes_of, vtimes_of, times_const, bracketed, and_of, or_of, whole}
use Rattle.import_grammar.specs.Reader.{extended, cextended, close_left, close_cond, colon}
use Rattle.import_grammar.specs.Reader.{else_here, joined, ending, close_const, minus_here, cminus_here, core_here, factor_here, equals_here, equals_above}
use Rattle.import_grammar.specs.Reader.{begin_cond, begin_sum, open_behind, open_const, step_on, step_mid, step, run, begin, Reading, read, unfinished, finish}
use Rattle.import_grammar.specs.Reader.{item_here, resulted, letter_here, settled, hextended, iextended, by_kind, quote_here}
use Rattle.import_grammar.specs.Reader.{with_plain, char_here}

-- one name that unfolds the bytes of a reading and the reader's steps
unfoldable reading : Unit {0}
unfolding spaces_bytes digits_bytes kfactor_bytes vfactor_bytes sum_bytes nots_bytes atom_bytes result_bytes setting_bytes chars_bytes before_bytes text_bytes
    item_here resulted letter_here settled hextended iextended by_kind quote_here with_plain char_here extended cextended close_left close_cond colon else_here joined
    ending close_const minus_here cminus_here core_here factor_here equals_here equals_above begin_cond begin_sum open_behind open_const step_on step_mid step run finish
reading = tt

-- ---- the last term of a sum, the last atom of a condition, and what stands before

abbrev pub kpre_of : {n : ℕ} → ConstSum n → ConstPre n
kpre_of (kterm t) = kopens
kpre_of (kneg p t) = knegs p
kpre_of (kplus s p g t) = kmore s p g

abbrev pub klast_of : {n : ℕ} → ConstSum n → ConstTerm n
klast_of (kterm t) = t
klast_of (kneg p t) = t
klast_of (kplus s p g t) = t

pub ksum_law : {n : ℕ} (s : ConstSum n) → ksum_of (kpre_of s) (klast_of s) ≡ s
ksum_law (kterm t) = refl
ksum_law (kneg p t) = refl
ksum_law (kplus s p g t) = refl

abbrev pub vpre_of : {n : ℕ} → VarySum n → SumPre n
vpre_of (vterm t) = opens
vpre_of (vneg p t) = kpre (knegs p)
vpre_of (plus_kv s p g t) = kpre (kmore s p g)
vpre_of (plus_vk s p g t) = vmore s p g
vpre_of (plus_vv s p g t) = vmore s p g

abbrev pub vlast_of : {n : ℕ} → VarySum n → Term n
vlast_of (vterm t) = vt t
vlast_of (vneg p t) = vt t
vlast_of (plus_kv s p g t) = vt t
vlast_of (plus_vk s p g t) = kt t
vlast_of (plus_vv s p g t) = vt t

abbrev pub pre_of : {n : ℕ} → Sum n → SumPre n
pre_of (constant s) = kpre (kpre_of s)
pre_of (varying s) = vpre_of s

abbrev pub last_of : {n : ℕ} → Sum n → Term n
last_of (constant s) = kt (klast_of s)
last_of (varying s) = vlast_of s

pub sum_law : {n : ℕ} (s : Sum n) → sum_of (pre_of s) (last_of s) ≡ s
sum_law (constant s) = ap constant (ksum_law s)
sum_law (varying (vterm t)) = refl
sum_law (varying (vneg p t)) = refl
sum_law (varying (plus_kv s p g t)) = refl
sum_law (varying (plus_vk s p g t)) = refl
sum_law (varying (plus_vv s p g t)) = refl

abbrev pub nots_of : {n : ℕ} → Not n → Nots
nots_of (negated n x) = n

abbrev pub atom_of : {n : ℕ} → Not n → Atom n
atom_of (negated n x) = x

abbrev pub and_pre : {n : ℕ} → And n → Ands n
and_pre (alone x) = no_and
and_pre (both a p x) = some_and a p

abbrev pub and_last : {n : ℕ} → And n → Not n
and_last (alone x) = x
and_last (both a p x) = x

pub and_law : {n : ℕ} (a : And n) → and_of (and_pre a) (negated (nots_of (and_last a)) (atom_of (and_last a))) ≡ a
and_law (alone (negated n x)) = refl
and_law (both a p (negated n x)) = refl

abbrev pub or_pre : {n : ℕ} → Or n → Ors n
or_pre (single a) = no_or
or_pre (either o p a) = some_or o p

abbrev pub or_last : {n : ℕ} → Or n → And n
or_last (single a) = a
or_last (either o p a) = a

abbrev pub level_of : {n : ℕ} → Or n → Level n
level_of o = lv (or_pre o) (and_pre (or_last o)) (nots_of (and_last (or_last o)))

abbrev pub atom_last : {n : ℕ} → Or n → Atom n
atom_last o = atom_of (and_last (or_last o))

or_law' : {n : ℕ} (o : Or n) → or_of (or_pre o) (or_last o) ≡ o
or_law' (single a) = refl
or_law' (either o p a) = refl

pub or_law : {n : ℕ} (o : Or n) → whole (level_of o) (atom_last o) ≡ o
or_law o = ap (or_of (or_pre o)) (and_law (or_last o)) ∙ or_law' o

-- ---- white space and digits

pub spaced : (s : ReaderState) (q : Spaces) (f : List ℕ) → run (at s none) (spaces_bytes q f) ≡ run (at s q) f
unfolding reading
spaced s none f = refl
spaced s (more q blank) f = spaced s q (32 ∷ f)
spaced s (more q tab) f = spaced s q (9 ∷ f)
spaced s (more q newline) f = spaced s q (10 ∷ f)
spaced s (more q return) f = spaced s q (13 ∷ f)

digit_factor : {n : ℕ} (sc : SumCtx n) (pre : SumPre n) (tp : TermPre n) (q : Spaces) (d : Digit) → step (at (factor sc pre tp) q) (digit_byte d) ≡ at (after sc pre (times_const tp (number q (one d)))) none
unfolding reading
digit_factor sc pre tp q d0 = refl
digit_factor sc pre tp q d1 = refl
digit_factor sc pre tp q d2 = refl
digit_factor sc pre tp q d3 = refl
digit_factor sc pre tp q d4 = refl
digit_factor sc pre tp q d5 = refl
digit_factor sc pre tp q d6 = refl
digit_factor sc pre tp q d7 = refl
digit_factor sc pre tp q d8 = refl
digit_factor sc pre tp q d9 = refl

digit_cfactor : {n : ℕ} (cc : ConstCtx n) (pre : ConstPre n) (tp : ConstTermPre n) (q : Spaces) (d : Digit) → step (at (cfactor cc pre tp) q) (digit_byte d) ≡ at (cafter cc pre (ktimes_of tp (number q (one d)))) none
unfolding reading
digit_cfactor cc pre tp q d0 = refl
digit_cfactor cc pre tp q d1 = refl
digit_cfactor cc pre tp q d2 = refl
digit_cfactor cc pre tp q d3 = refl
digit_cfactor cc pre tp q d4 = refl
digit_cfactor cc pre tp q d5 = refl
digit_cfactor cc pre tp q d6 = refl
digit_cfactor cc pre tp q d7 = refl
digit_cfactor cc pre tp q d8 = refl
digit_cfactor cc pre tp q d9 = refl

digit_cond : {n : ℕ} (ctx : CondCtx n) (l : Level n) (q : Spaces) (d : Digit) → step (at (cond ctx l) q) (digit_byte d) ≡ at (after (left ctx l) opens (kt (kfactor (number q (one d))))) none
unfolding reading
digit_cond ctx l q d0 = refl
digit_cond ctx l q d1 = refl
digit_cond ctx l q d2 = refl
digit_cond ctx l q d3 = refl
digit_cond ctx l q d4 = refl
digit_cond ctx l q d5 = refl
digit_cond ctx l q d6 = refl
digit_cond ctx l q d7 = refl
digit_cond ctx l q d8 = refl
digit_cond ctx l q d9 = refl

digit_after : {n : ℕ} (sc : SumCtx n) (pre : SumPre n) (t : Term n) (q : Spaces) (d : Digit) → step (at (after sc pre t) q) (digit_byte d) ≡ extended sc pre t q d
unfolding reading
digit_after sc pre t q d0 = refl
digit_after sc pre t q d1 = refl
digit_after sc pre t q d2 = refl
digit_after sc pre t q d3 = refl
digit_after sc pre t q d4 = refl
digit_after sc pre t q d5 = refl
digit_after sc pre t q d6 = refl
digit_after sc pre t q d7 = refl
digit_after sc pre t q d8 = refl
digit_after sc pre t q d9 = refl

digit_cafter : {n : ℕ} (cc : ConstCtx n) (pre : ConstPre n) (t : ConstTerm n) (q : Spaces) (d : Digit) → step (at (cafter cc pre t) q) (digit_byte d) ≡ cextended cc pre t q d
unfolding reading
digit_cafter cc pre t q d0 = refl
digit_cafter cc pre t q d1 = refl
digit_cafter cc pre t q d2 = refl
digit_cafter cc pre t q d3 = refl
digit_cafter cc pre t q d4 = refl
digit_cafter cc pre t q d5 = refl
digit_cafter cc pre t q d6 = refl
digit_cafter cc pre t q d7 = refl
digit_cafter cc pre t q d8 = refl
digit_cafter cc pre t q d9 = refl

more_digits : {n : ℕ} (sc : SumCtx n) (pre : SumPre n) (tp : TermPre n) (q : Spaces) (ds : Digits) (d : Digit) → extended sc pre (times_const tp (number q ds)) none d ≡ at (after sc pre (times_const tp (number q (also ds d)))) none
unfolding reading
more_digits sc pre (free first) q ds d = refl
more_digits sc pre (free (times_k P p)) q ds d = refl
more_digits sc pre (times_v v p) q ds d = refl

more_cdigits : {n : ℕ} (cc : ConstCtx n) (pre : ConstPre n) (tp : ConstTermPre n) (q : Spaces) (ds : Digits) (d : Digit) → cextended cc pre (ktimes_of tp (number q ds)) none d ≡ at (cafter cc pre (ktimes_of tp (number q (also ds d)))) none
unfolding reading
more_cdigits cc pre first q ds d = refl
more_cdigits cc pre (times_k P p) q ds d = refl

digits_read : {n : ℕ} (ds : Digits) (sc : SumCtx n) (pre : SumPre n) (tp : TermPre n) (q : Spaces) (f : List ℕ) → run (at (factor sc pre tp) q) (digits_bytes ds f) ≡ run (at (after sc pre (times_const tp (number q ds))) none) f
unfolding reading
digits_read (one d) sc pre tp q f = ap (λ (m : Machine). run m f) (digit_factor sc pre tp q d)
digits_read (also ds d) sc pre tp q f =
    digits_read ds sc pre tp q (digit_byte d ∷ f)
    ∙ ap (λ (m : Machine). run m f) (digit_after sc pre (times_const tp (number q ds)) none d ∙ more_digits sc pre tp q ds d)

digits_cread : {n : ℕ} (ds : Digits) (cc : ConstCtx n) (pre : ConstPre n) (tp : ConstTermPre n) (q : Spaces) (f : List ℕ) → run (at (cfactor cc pre tp) q) (digits_bytes ds f) ≡ run (at (cafter cc pre (ktimes_of tp (number q ds))) none) f
unfolding reading
digits_cread (one d) cc pre tp q f = ap (λ (m : Machine). run m f) (digit_cfactor cc pre tp q d)
digits_cread (also ds d) cc pre tp q f =
    digits_cread ds cc pre tp q (digit_byte d ∷ f)
    ∙ ap (λ (m : Machine). run m f) (digit_cafter cc pre (ktimes_of tp (number q ds)) none d ∙ more_cdigits cc pre tp q ds d)

digits_cond : {n : ℕ} (ds : Digits) (ctx : CondCtx n) (l : Level n) (q : Spaces) (f : List ℕ) → run (at (cond ctx l) q) (digits_bytes ds f) ≡ run (at (after (left ctx l) opens (kt (kfactor (number q ds)))) none) f
unfolding reading
digits_cond (one d) ctx l q f = ap (λ (m : Machine). run m f) (digit_cond ctx l q d)
digits_cond (also ds d) ctx l q f =
    digits_cond ds ctx l q (digit_byte d ∷ f)
    ∙ ap (λ (m : Machine). run m f) (digit_after (left ctx l) opens (kt (kfactor (number q ds))) none d ∙ more_digits (left ctx l) opens (free first) q ds d)

sign_after : {n : ℕ} (g : Sign) (sc : SumCtx n) (pre : SumPre n) (t : Term n) (p : Spaces) (f : List ℕ) → run (at (after sc pre t) p) (sign_byte g ∷ f) ≡ run (at (factor sc (more_of (sum_of pre t) p g) (free first)) none) f
unfolding reading
sign_after adds sc pre t p f = refl
sign_after takes sc pre t p f = refl

sign_cafter : {n : ℕ} (g : Sign) (cc : ConstCtx n) (pre : ConstPre n) (t : ConstTerm n) (p : Spaces) (f : List ℕ) → run (at (cafter cc pre t) p) (sign_byte g ∷ f) ≡ run (at (cfactor cc (kmore (ksum_of pre t) p g) first) none) f
unfolding reading
sign_cafter adds cc pre t p f = refl
sign_cafter takes cc pre t p f = refl

-- ---- where no level may stand

mutual
  unfolding reading

  pub kfactor_cread : {n : ℕ} (x : ConstFactor n) (cc : ConstCtx n) (pre : ConstPre n) (tp : ConstTermPre n) (f : List ℕ) → run (at (cfactor cc pre tp) none) (kfactor_bytes x f) ≡ run (at (cafter cc pre (ktimes_of tp x)) none) f
  kfactor_cread (number q ds) cc pre tp f = spaced (cfactor cc pre tp) q (digits_bytes ds f) ∙ digits_cread ds cc pre tp q f
  kfactor_cread (kbracket q s r) cc pre tp f =
      spaced (cfactor cc pre tp) q (40 ∷ ksum_bytes s (spaces_bytes r (41 ∷ f)))
      ∙ ksum_cread s (within cc pre tp q) (spaces_bytes r (41 ∷ f))
      ∙ spaced (cafter (within cc pre tp q) (kpre_of s) (klast_of s)) r (41 ∷ f)
      ∙ ap (λ (x : ConstSum _). run (at (cafter cc pre (ktimes_of tp (kbracket q x r))) none) f) (ksum_law s)

  pub kterm_cread : {n : ℕ} (t : ConstTerm n) (cc : ConstCtx n) (pre : ConstPre n) (f : List ℕ) → run (at (cfactor cc pre first) none) (kterm_bytes t f) ≡ run (at (cafter cc pre t) none) f
  kterm_cread (kfactor x) cc pre f = kfactor_cread x cc pre first f
  kterm_cread (ktimes t p x) cc pre f =
      kterm_cread t cc pre (spaces_bytes p (42 ∷ kfactor_bytes x f)) ∙ spaced (cafter cc pre t) p (42 ∷ kfactor_bytes x f) ∙ kfactor_cread x cc pre (times_k t p) f

  pub ksum_cread : {n : ℕ} (s : ConstSum n) (cc : ConstCtx n) (f : List ℕ) → run (at (cfactor cc kopens first) none) (ksum_bytes s f) ≡ run (at (cafter cc (kpre_of s) (klast_of s)) none) f
  ksum_cread (kterm t) cc f = kterm_cread t cc kopens f
  ksum_cread (kneg p t) cc f = spaced (cfactor cc kopens first) p (45 ∷ kterm_bytes t f) ∙ kterm_cread t cc (knegs p) f
  ksum_cread (kplus s p g t) cc f =
      ksum_cread s cc (spaces_bytes p (sign_byte g ∷ kterm_bytes t f))
      ∙ spaced (cafter cc (kpre_of s) (klast_of s)) p (sign_byte g ∷ kterm_bytes t f)
      ∙ sign_cafter g cc (kpre_of s) (klast_of s) p (kterm_bytes t f)
      ∙ ap (λ (x : ConstSum _). run (at (cfactor cc (kmore x p g) first) none) (kterm_bytes t f)) (ksum_law s)
      ∙ kterm_cread t cc (kmore s p g) f

-- ---- sums where a factor is expected

mutual
  unfolding reading

  pub kfactor_read : {n : ℕ} (x : ConstFactor n) (sc : SumCtx n) (pre : SumPre n) (tp : TermPre n) (f : List ℕ) → run (at (factor sc pre tp) none) (kfactor_bytes x f) ≡ run (at (after sc pre (times_const tp x)) none) f
  kfactor_read (number q ds) sc pre tp f = spaced (factor sc pre tp) q (digits_bytes ds f) ∙ digits_read ds sc pre tp q f
  kfactor_read (kbracket q s r) sc pre (free tp) f =
      spaced (factor sc pre (free tp)) q (40 ∷ ksum_bytes s (spaces_bytes r (41 ∷ f)))
      ∙ ksum_read s (paren sc pre tp q) (spaces_bytes r (41 ∷ f))
      ∙ spaced (after (paren sc pre tp q) (kpre (kpre_of s)) (kt (klast_of s))) r (41 ∷ f)
      ∙ ap (λ (x : ConstSum _). run (at (after sc pre (kt (ktimes_of tp (kbracket q x r)))) none) f) (ksum_law s)
  kfactor_read (kbracket q s r) sc pre (times_v v p) f =
      spaced (factor sc pre (times_v v p)) q (40 ∷ ksum_bytes s (spaces_bytes r (41 ∷ f)))
      ∙ ksum_cread s (behind sc pre v p q) (spaces_bytes r (41 ∷ f))
      ∙ spaced (cafter (behind sc pre v p q) (kpre_of s) (klast_of s)) r (41 ∷ f)
      ∙ ap (λ (x : ConstSum _). run (at (after sc pre (vt (vby v p (kbracket q x r)))) none) f) (ksum_law s)

  pub kterm_read : {n : ℕ} (t : ConstTerm n) (sc : SumCtx n) (pre : SumPre n) (f : List ℕ) → run (at (factor sc pre (free first)) none) (kterm_bytes t f) ≡ run (at (after sc pre (kt t)) none) f
  kterm_read (kfactor x) sc pre f = kfactor_read x sc pre (free first) f
  kterm_read (ktimes t p x) sc pre f =
      kterm_read t sc pre (spaces_bytes p (42 ∷ kfactor_bytes x f)) ∙ spaced (after sc pre (kt t)) p (42 ∷ kfactor_bytes x f) ∙ kfactor_read x sc pre (free (times_k t p)) f

  pub ksum_read : {n : ℕ} (s : ConstSum n) (sc : SumCtx n) (f : List ℕ) → run (at (factor sc opens (free first)) none) (ksum_bytes s f) ≡ run (at (after sc (kpre (kpre_of s)) (kt (klast_of s))) none) f
  ksum_read (kterm t) sc f = kterm_read t sc opens f
  ksum_read (kneg p t) sc f = spaced (factor sc opens (free first)) p (45 ∷ kterm_bytes t f) ∙ kterm_read t sc (kpre (knegs p)) f
  ksum_read (kplus s p g t) sc f =
      ksum_read s sc (spaces_bytes p (sign_byte g ∷ kterm_bytes t f))
      ∙ spaced (after sc (kpre (kpre_of s)) (kt (klast_of s))) p (sign_byte g ∷ kterm_bytes t f)
      ∙ sign_after g sc (kpre (kpre_of s)) (kt (klast_of s)) p (kterm_bytes t f)
      ∙ ap (λ (x : ConstSum _). run (at (factor sc (kpre (kmore x p g)) (free first)) none) (kterm_bytes t f)) (ksum_law s)
      ∙ kterm_read t sc (kpre (kmore s p g)) f

mutual
  unfolding reading

  pub vfactor_read : {n : ℕ} (x : VaryFactor n) (sc : SumCtx n) (pre : SumPre n) (tp : ConstTermPre n) (f : List ℕ) → run (at (factor sc pre (free tp)) none) (vfactor_bytes x f) ≡ run (at (after sc pre (vt (vtimes_of tp x))) none) f
  vfactor_read (level q i1) sc pre tp f = spaced (factor sc pre (free tp)) q (76 ∷ 49 ∷ f)
  vfactor_read (level q i2) sc pre tp f = spaced (factor sc pre (free tp)) q (76 ∷ 50 ∷ f)
  vfactor_read (level q i3) sc pre tp f = spaced (factor sc pre (free tp)) q (76 ∷ 51 ∷ f)
  vfactor_read (level q i4) sc pre tp f = spaced (factor sc pre (free tp)) q (76 ∷ 52 ∷ f)
  vfactor_read (level q i5) sc pre tp f = spaced (factor sc pre (free tp)) q (76 ∷ 53 ∷ f)
  vfactor_read (level q i6) sc pre tp f = spaced (factor sc pre (free tp)) q (76 ∷ 54 ∷ f)
  vfactor_read (level q i7) sc pre tp f = spaced (factor sc pre (free tp)) q (76 ∷ 55 ∷ f)
  vfactor_read (level q i8) sc pre tp f = spaced (factor sc pre (free tp)) q (76 ∷ 56 ∷ f)
  vfactor_read (vbracket q s r) sc pre tp f =
      spaced (factor sc pre (free tp)) q (40 ∷ vsum_bytes s (spaces_bytes r (41 ∷ f)))
      ∙ vsum_read s (paren sc pre tp q) (spaces_bytes r (41 ∷ f))
      ∙ spaced (after (paren sc pre tp q) (vpre_of s) (vlast_of s)) r (41 ∷ f)
      ∙ ap (λ (x : Sum _). run (at (after sc pre (bracketed tp q x r)) none) f) (sum_law (varying s))

  pub vterm_read : {n : ℕ} (t : VaryTerm n) (sc : SumCtx n) (pre : SumPre n) (f : List ℕ) → run (at (factor sc pre (free first)) none) (vterm_bytes t f) ≡ run (at (after sc pre (vt t)) none) f
  vterm_read (vfactor x) sc pre f = vfactor_read x sc pre first f
  vterm_read (vscaled t p x) sc pre f =
      kterm_read t sc pre (spaces_bytes p (42 ∷ vfactor_bytes x f)) ∙ spaced (after sc pre (kt t)) p (42 ∷ vfactor_bytes x f) ∙ vfactor_read x sc pre (times_k t p) f
  vterm_read (vby t p x) sc pre f =
      vterm_read t sc pre (spaces_bytes p (42 ∷ kfactor_bytes x f)) ∙ spaced (after sc pre (vt t)) p (42 ∷ kfactor_bytes x f) ∙ kfactor_read x sc pre (times_v t p) f

  pub vsum_read : {n : ℕ} (s : VarySum n) (sc : SumCtx n) (f : List ℕ) → run (at (factor sc opens (free first)) none) (vsum_bytes s f) ≡ run (at (after sc (vpre_of s) (vlast_of s)) none) f
  vsum_read (vterm t) sc f = vterm_read t sc opens f
  vsum_read (vneg p t) sc f = spaced (factor sc opens (free first)) p (45 ∷ vterm_bytes t f) ∙ vterm_read t sc (kpre (knegs p)) f
  vsum_read (plus_kv s p g t) sc f =
      ksum_read s sc (spaces_bytes p (sign_byte g ∷ vterm_bytes t f))
      ∙ spaced (after sc (kpre (kpre_of s)) (kt (klast_of s))) p (sign_byte g ∷ vterm_bytes t f)
      ∙ sign_after g sc (kpre (kpre_of s)) (kt (klast_of s)) p (vterm_bytes t f)
      ∙ ap (λ (x : ConstSum _). run (at (factor sc (kpre (kmore x p g)) (free first)) none) (vterm_bytes t f)) (ksum_law s)
      ∙ vterm_read t sc (kpre (kmore s p g)) f
  vsum_read (plus_vk s p g t) sc f =
      vsum_read s sc (spaces_bytes p (sign_byte g ∷ kterm_bytes t f))
      ∙ spaced (after sc (vpre_of s) (vlast_of s)) p (sign_byte g ∷ kterm_bytes t f)
      ∙ sign_after g sc (vpre_of s) (vlast_of s) p (kterm_bytes t f)
      ∙ ap (λ (x : Sum _). run (at (factor sc (more_of x p g) (free first)) none) (kterm_bytes t f)) (sum_law (varying s))
      ∙ kterm_read t sc (vmore s p g) f
  vsum_read (plus_vv s p g t) sc f =
      vsum_read s sc (spaces_bytes p (sign_byte g ∷ vterm_bytes t f))
      ∙ spaced (after sc (vpre_of s) (vlast_of s)) p (sign_byte g ∷ vterm_bytes t f)
      ∙ sign_after g sc (vpre_of s) (vlast_of s) p (vterm_bytes t f)
      ∙ ap (λ (x : Sum _). run (at (factor sc (more_of x p g) (free first)) none) (vterm_bytes t f)) (sum_law (varying s))
      ∙ vterm_read t sc (vmore s p g) f

-- ---- sums where an atom is expected: the first bracket is open to both

mutual
  unfolding reading

  pub kfactor_cond : {n : ℕ} (x : ConstFactor n) (ctx : CondCtx n) (l : Level n) (f : List ℕ) → run (at (cond ctx l) none) (kfactor_bytes x f) ≡ run (at (after (left ctx l) opens (kt (kfactor x))) none) f
  kfactor_cond (number q ds) ctx l f = spaced (cond ctx l) q (digits_bytes ds f) ∙ digits_cond ds ctx l q f
  kfactor_cond (kbracket q s r) ctx l f =
      spaced (cond ctx l) q (40 ∷ ksum_bytes s (spaces_bytes r (41 ∷ f)))
      ∙ ksum_cond s (inside ctx l q) bare (spaces_bytes r (41 ∷ f))
      ∙ spaced (after (left (inside ctx l q) bare) (kpre (kpre_of s)) (kt (klast_of s))) r (41 ∷ f)
      ∙ ap (λ (x : ConstSum _). run (at (after (left ctx l) opens (kt (kfactor (kbracket q x r)))) none) f) (ksum_law s)

  pub kterm_cond : {n : ℕ} (t : ConstTerm n) (ctx : CondCtx n) (l : Level n) (f : List ℕ) → run (at (cond ctx l) none) (kterm_bytes t f) ≡ run (at (after (left ctx l) opens (kt t)) none) f
  kterm_cond (kfactor x) ctx l f = kfactor_cond x ctx l f
  kterm_cond (ktimes t p x) ctx l f =
      kterm_cond t ctx l (spaces_bytes p (42 ∷ kfactor_bytes x f)) ∙ spaced (after (left ctx l) opens (kt t)) p (42 ∷ kfactor_bytes x f)
      ∙ kfactor_read x (left ctx l) opens (free (times_k t p)) f

  pub ksum_cond : {n : ℕ} (s : ConstSum n) (ctx : CondCtx n) (l : Level n) (f : List ℕ) → run (at (cond ctx l) none) (ksum_bytes s f) ≡ run (at (after (left ctx l) (kpre (kpre_of s)) (kt (klast_of s))) none) f
  ksum_cond (kterm t) ctx l f = kterm_cond t ctx l f
  ksum_cond (kneg p t) ctx l f = spaced (cond ctx l) p (45 ∷ kterm_bytes t f) ∙ kterm_read t (left ctx l) (kpre (knegs p)) f
  ksum_cond (kplus s p g t) ctx l f =
      ksum_cond s ctx l (spaces_bytes p (sign_byte g ∷ kterm_bytes t f))
      ∙ spaced (after (left ctx l) (kpre (kpre_of s)) (kt (klast_of s))) p (sign_byte g ∷ kterm_bytes t f)
      ∙ sign_after g (left ctx l) (kpre (kpre_of s)) (kt (klast_of s)) p (kterm_bytes t f)
      ∙ ap (λ (x : ConstSum _). run (at (factor (left ctx l) (kpre (kmore x p g)) (free first)) none) (kterm_bytes t f)) (ksum_law s)
      ∙ kterm_read t (left ctx l) (kpre (kmore s p g)) f

mutual
  unfolding reading

  pub vfactor_cond : {n : ℕ} (x : VaryFactor n) (ctx : CondCtx n) (l : Level n) (f : List ℕ) → run (at (cond ctx l) none) (vfactor_bytes x f) ≡ run (at (after (left ctx l) opens (vt (vfactor x))) none) f
  vfactor_cond (level q i1) ctx l f = spaced (cond ctx l) q (76 ∷ 49 ∷ f)
  vfactor_cond (level q i2) ctx l f = spaced (cond ctx l) q (76 ∷ 50 ∷ f)
  vfactor_cond (level q i3) ctx l f = spaced (cond ctx l) q (76 ∷ 51 ∷ f)
  vfactor_cond (level q i4) ctx l f = spaced (cond ctx l) q (76 ∷ 52 ∷ f)
  vfactor_cond (level q i5) ctx l f = spaced (cond ctx l) q (76 ∷ 53 ∷ f)
  vfactor_cond (level q i6) ctx l f = spaced (cond ctx l) q (76 ∷ 54 ∷ f)
  vfactor_cond (level q i7) ctx l f = spaced (cond ctx l) q (76 ∷ 55 ∷ f)
  vfactor_cond (level q i8) ctx l f = spaced (cond ctx l) q (76 ∷ 56 ∷ f)
  vfactor_cond (vbracket q s r) ctx l f =
      spaced (cond ctx l) q (40 ∷ vsum_bytes s (spaces_bytes r (41 ∷ f)))
      ∙ vsum_cond s (inside ctx l q) bare (spaces_bytes r (41 ∷ f))
      ∙ spaced (after (left (inside ctx l q) bare) (vpre_of s) (vlast_of s)) r (41 ∷ f)
      ∙ ap (λ (x : Sum _). run (at (after (left ctx l) opens (bracketed first q x r)) none) f) (sum_law (varying s))

  pub vterm_cond : {n : ℕ} (t : VaryTerm n) (ctx : CondCtx n) (l : Level n) (f : List ℕ) → run (at (cond ctx l) none) (vterm_bytes t f) ≡ run (at (after (left ctx l) opens (vt t)) none) f
  vterm_cond (vfactor x) ctx l f = vfactor_cond x ctx l f
  vterm_cond (vscaled t p x) ctx l f =
      kterm_cond t ctx l (spaces_bytes p (42 ∷ vfactor_bytes x f)) ∙ spaced (after (left ctx l) opens (kt t)) p (42 ∷ vfactor_bytes x f)
      ∙ vfactor_read x (left ctx l) opens (times_k t p) f
  vterm_cond (vby t p x) ctx l f =
      vterm_cond t ctx l (spaces_bytes p (42 ∷ kfactor_bytes x f)) ∙ spaced (after (left ctx l) opens (vt t)) p (42 ∷ kfactor_bytes x f)
      ∙ kfactor_read x (left ctx l) opens (times_v t p) f

  pub vsum_cond : {n : ℕ} (s : VarySum n) (ctx : CondCtx n) (l : Level n) (f : List ℕ) → run (at (cond ctx l) none) (vsum_bytes s f) ≡ run (at (after (left ctx l) (vpre_of s) (vlast_of s)) none) f
  vsum_cond (vterm t) ctx l f = vterm_cond t ctx l f
  vsum_cond (vneg p t) ctx l f = spaced (cond ctx l) p (45 ∷ vterm_bytes t f) ∙ vterm_read t (left ctx l) (kpre (knegs p)) f
  vsum_cond (plus_kv s p g t) ctx l f =
      ksum_cond s ctx l (spaces_bytes p (sign_byte g ∷ vterm_bytes t f))
      ∙ spaced (after (left ctx l) (kpre (kpre_of s)) (kt (klast_of s))) p (sign_byte g ∷ vterm_bytes t f)
      ∙ sign_after g (left ctx l) (kpre (kpre_of s)) (kt (klast_of s)) p (vterm_bytes t f)
      ∙ ap (λ (x : ConstSum _). run (at (factor (left ctx l) (kpre (kmore x p g)) (free first)) none) (vterm_bytes t f)) (ksum_law s)
      ∙ vterm_read t (left ctx l) (kpre (kmore s p g)) f
  vsum_cond (plus_vk s p g t) ctx l f =
      vsum_cond s ctx l (spaces_bytes p (sign_byte g ∷ kterm_bytes t f))
      ∙ spaced (after (left ctx l) (vpre_of s) (vlast_of s)) p (sign_byte g ∷ kterm_bytes t f)
      ∙ sign_after g (left ctx l) (vpre_of s) (vlast_of s) p (kterm_bytes t f)
      ∙ ap (λ (x : Sum _). run (at (factor (left ctx l) (more_of x p g) (free first)) none) (kterm_bytes t f)) (sum_law (varying s))
      ∙ kterm_read t (left ctx l) (vmore s p g) f
  vsum_cond (plus_vv s p g t) ctx l f =
      vsum_cond s ctx l (spaces_bytes p (sign_byte g ∷ vterm_bytes t f))
      ∙ spaced (after (left ctx l) (vpre_of s) (vlast_of s)) p (sign_byte g ∷ vterm_bytes t f)
      ∙ sign_after g (left ctx l) (vpre_of s) (vlast_of s) p (vterm_bytes t f)
      ∙ ap (λ (x : Sum _). run (at (factor (left ctx l) (more_of x p g) (free first)) none) (vterm_bytes t f)) (sum_law (varying s))
      ∙ vterm_read t (left ctx l) (vmore s p g) f

pub sum_read : {n : ℕ} (s : Sum n) (sc : SumCtx n) (f : List ℕ) → run (at (factor sc opens (free first)) none) (sum_bytes s f) ≡ run (at (after sc (pre_of s) (last_of s)) none) f
unfolding reading
sum_read (constant s) sc f = ksum_read s sc f
sum_read (varying s) sc f = vsum_read s sc f

pub sum_cond : {n : ℕ} (s : Sum n) (ctx : CondCtx n) (l : Level n) (f : List ℕ) → run (at (cond ctx l) none) (sum_bytes s f) ≡ run (at (after (left ctx l) (pre_of s) (last_of s)) none) f
unfolding reading
sum_cond (constant s) ctx l f = ksum_cond s ctx l f
sum_cond (varying s) ctx l f = vsum_cond s ctx l f

-- ---- how a sum begins: "<" before it is not "<="
data StartsSum : ℕ → Type 0 where
  by_digit : (d : Digit) → StartsSum (digit_byte d)
  by_level : StartsSum 76
  by_open : StartsSum 40
  by_minus : StartsSum 45

record Begun (w : List ℕ) : Type 0 where
  spaces : Spaces
  byte : ℕ
  rest : List ℕ
  starts : StartsSum byte
  same : w ≡ spaces_bytes spaces (byte ∷ rest)

digits_begin : (ds : Digits) (q : Spaces) (f : List ℕ) → Begun (spaces_bytes q (digits_bytes ds f))
unfolding digits_bytes
digits_begin (one d) q f = record { spaces = q; byte = digit_byte d; rest = f; starts = by_digit d; same = refl }
digits_begin (also ds d) q f = digits_begin ds q (digit_byte d ∷ f)

mutual
  unfolding kfactor_bytes

  kfactor_begins : {n : ℕ} (x : ConstFactor n) (f : List ℕ) → Begun (kfactor_bytes x f)
  kfactor_begins (number q ds) f = digits_begin ds q f
  kfactor_begins (kbracket q s r) f = record { spaces = q; byte = 40; rest = ksum_bytes s (spaces_bytes r (41 ∷ f)); starts = by_open; same = refl }

  kterm_begins : {n : ℕ} (t : ConstTerm n) (f : List ℕ) → Begun (kterm_bytes t f)
  kterm_begins (kfactor x) f = kfactor_begins x f
  kterm_begins (ktimes t p x) f = kterm_begins t (spaces_bytes p (42 ∷ kfactor_bytes x f))

  ksum_begins : {n : ℕ} (s : ConstSum n) (f : List ℕ) → Begun (ksum_bytes s f)
  ksum_begins (kterm t) f = kterm_begins t f
  ksum_begins (kneg p t) f = record { spaces = p; byte = 45; rest = kterm_bytes t f; starts = by_minus; same = refl }
  ksum_begins (kplus s p g t) f = ksum_begins s (spaces_bytes p (sign_byte g ∷ kterm_bytes t f))

mutual
  unfolding vfactor_bytes kfactor_bytes

  vfactor_begins : {n : ℕ} (x : VaryFactor n) (f : List ℕ) → Begun (vfactor_bytes x f)
  vfactor_begins (level q i) f = record { spaces = q; byte = 76; rest = index_byte i ∷ f; starts = by_level; same = refl }
  vfactor_begins (vbracket q s r) f = record { spaces = q; byte = 40; rest = vsum_bytes s (spaces_bytes r (41 ∷ f)); starts = by_open; same = refl }

  vterm_begins : {n : ℕ} (t : VaryTerm n) (f : List ℕ) → Begun (vterm_bytes t f)
  vterm_begins (vfactor x) f = vfactor_begins x f
  vterm_begins (vscaled t p x) f = kterm_begins t (spaces_bytes p (42 ∷ vfactor_bytes x f))
  vterm_begins (vby t p x) f = vterm_begins t (spaces_bytes p (42 ∷ kfactor_bytes x f))

  vsum_begins : {n : ℕ} (s : VarySum n) (f : List ℕ) → Begun (vsum_bytes s f)
  vsum_begins (vterm t) f = vterm_begins t f
  vsum_begins (vneg p t) f = record { spaces = p; byte = 45; rest = vterm_bytes t f; starts = by_minus; same = refl }
  vsum_begins (plus_kv s p g t) f = ksum_begins s (spaces_bytes p (sign_byte g ∷ vterm_bytes t f))
  vsum_begins (plus_vk s p g t) f = vsum_begins s (spaces_bytes p (sign_byte g ∷ kterm_bytes t f))
  vsum_begins (plus_vv s p g t) f = vsum_begins s (spaces_bytes p (sign_byte g ∷ vterm_bytes t f))

sum_begins : {n : ℕ} (s : Sum n) (f : List ℕ) → Begun (sum_bytes s f)
unfolding sum_bytes
sum_begins (constant s) f = ksum_begins s f
sum_begins (varying s) f = vsum_begins s f

not_equals_less : {n : ℕ} (ctx : CondCtx n) (l : Level n) (s : Sum n) (q p : Spaces) (k : ℕ) → StartsSum k → step (at (less ctx l s q) p) k ≡ step (at (factor (right ctx l s q lt) opens (free first)) p) k
unfolding reading
not_equals_less ctx l s q p k (by_digit d0) = refl
not_equals_less ctx l s q p k (by_digit d1) = refl
not_equals_less ctx l s q p k (by_digit d2) = refl
not_equals_less ctx l s q p k (by_digit d3) = refl
not_equals_less ctx l s q p k (by_digit d4) = refl
not_equals_less ctx l s q p k (by_digit d5) = refl
not_equals_less ctx l s q p k (by_digit d6) = refl
not_equals_less ctx l s q p k (by_digit d7) = refl
not_equals_less ctx l s q p k (by_digit d8) = refl
not_equals_less ctx l s q p k (by_digit d9) = refl
not_equals_less ctx l s q p k by_level = refl
not_equals_less ctx l s q p k by_open = refl
not_equals_less ctx l s q p k by_minus = refl

less_begun : {n : ℕ} (ctx : CondCtx n) (l : Level n) (s : Sum n) (q : Spaces) (w : List ℕ) → Begun w → run (at (less ctx l s q) none) w ≡ run (at (factor (right ctx l s q lt) opens (free first)) none) w
unfolding reading
less_begun ctx l s q w b =
    ap (run (at (less ctx l s q) none)) b.same
    ∙ spaced (less ctx l s q) b.spaces (b.byte ∷ b.rest)
    ∙ ap (λ (m : Machine). run m b.rest) (not_equals_less ctx l s q b.spaces b.byte b.starts)
    ∙ sym (spaced (factor (right ctx l s q lt) opens (free first)) b.spaces (b.byte ∷ b.rest))
    ∙ sym (ap (run (at (factor (right ctx l s q lt) opens (free first)) none)) b.same)

not_equals_greater : {n : ℕ} (ctx : CondCtx n) (l : Level n) (s : Sum n) (q p : Spaces) (k : ℕ) → StartsSum k → step (at (greater ctx l s q) p) k ≡ step (at (factor (right ctx l s q gt) opens (free first)) p) k
unfolding reading
not_equals_greater ctx l s q p k (by_digit d0) = refl
not_equals_greater ctx l s q p k (by_digit d1) = refl
not_equals_greater ctx l s q p k (by_digit d2) = refl
not_equals_greater ctx l s q p k (by_digit d3) = refl
not_equals_greater ctx l s q p k (by_digit d4) = refl
not_equals_greater ctx l s q p k (by_digit d5) = refl
not_equals_greater ctx l s q p k (by_digit d6) = refl
not_equals_greater ctx l s q p k (by_digit d7) = refl
not_equals_greater ctx l s q p k (by_digit d8) = refl
not_equals_greater ctx l s q p k (by_digit d9) = refl
not_equals_greater ctx l s q p k by_level = refl
not_equals_greater ctx l s q p k by_open = refl
not_equals_greater ctx l s q p k by_minus = refl

greater_begun : {n : ℕ} (ctx : CondCtx n) (l : Level n) (s : Sum n) (q : Spaces) (w : List ℕ) → Begun w → run (at (greater ctx l s q) none) w ≡ run (at (factor (right ctx l s q gt) opens (free first)) none) w
unfolding reading
greater_begun ctx l s q w b =
    ap (run (at (greater ctx l s q) none)) b.same
    ∙ spaced (greater ctx l s q) b.spaces (b.byte ∷ b.rest)
    ∙ ap (λ (m : Machine). run m b.rest) (not_equals_greater ctx l s q b.spaces b.byte b.starts)
    ∙ sym (spaced (factor (right ctx l s q gt) opens (free first)) b.spaces (b.byte ∷ b.rest))
    ∙ sym (ap (run (at (factor (right ctx l s q gt) opens (free first)) none)) b.same)

-- ---- conditions

abbrev pub done : {n : ℕ} → CondCtx n → Level n → Atom n → ReaderState
done ctx l (now p i) = held ctx l (now p i)
done ctx l (later p i) = held ctx l (later p i)
done ctx l (compare s p op t) = after (right ctx l s p op) (pre_of t) (last_of t)
done ctx l (group p o q) = held ctx l (group p o q)

done_38 : {n : ℕ} (ctx : CondCtx n) (l : Level n) (x : Atom n) (p : Spaces) (f : List ℕ) → run (at (done ctx l x) p) (38 ∷ f) ≡ run (joined ctx l x p 38) f
unfolding reading
done_38 ctx l (now q i) p f = refl
done_38 ctx l (later q i) p f = refl
done_38 ctx l (compare s q op t) p f = ap (λ (x : Sum _). run (joined ctx l (compare s q op x) p 38) f) (sum_law t)
done_38 ctx l (group q o r) p f = refl

done_124 : {n : ℕ} (ctx : CondCtx n) (l : Level n) (x : Atom n) (p : Spaces) (f : List ℕ) → run (at (done ctx l x) p) (124 ∷ f) ≡ run (joined ctx l x p 124) f
unfolding reading
done_124 ctx l (now q i) p f = refl
done_124 ctx l (later q i) p f = refl
done_124 ctx l (compare s q op t) p f = ap (λ (x : Sum _). run (joined ctx l (compare s q op x) p 124) f) (sum_law t)
done_124 ctx l (group q o r) p f = refl

done_41 : {n : ℕ} (ctx : CondCtx n) (l : Level n) (x : Atom n) (p : Spaces) (f : List ℕ) → run (at (done ctx l x) p) (41 ∷ f) ≡ run (joined ctx l x p 41) f
unfolding reading
done_41 ctx l (now q i) p f = refl
done_41 ctx l (later q i) p f = refl
done_41 ctx l (compare s q op t) p f = ap (λ (x : Sum _). run (joined ctx l (compare s q op x) p 41) f) (sum_law t)
done_41 ctx l (group q o r) p f = refl

done_58 : {n : ℕ} (ctx : CondCtx n) (l : Level n) (x : Atom n) (p : Spaces) (f : List ℕ) → run (at (done ctx l x) p) (58 ∷ f) ≡ run (joined ctx l x p 58) f
unfolding reading
done_58 ctx l (now q i) p f = refl
done_58 ctx l (later q i) p f = refl
done_58 ctx l (compare s q op t) p f = ap (λ (x : Sum _). run (joined ctx l (compare s q op x) p 58) f) (sum_law t)
done_58 ctx l (group q o r) p f = refl

nots_read : {n : ℕ} (x : Nots) (ctx : CondCtx n) (o : Ors n) (a : Ands n) (f : List ℕ) → run (at (cond ctx (lv o a unsaid)) none) (nots_bytes x f) ≡ run (at (cond ctx (lv o a x)) none) f
unfolding reading
nots_read unsaid ctx o a f = refl
nots_read (bang n p) ctx o a f = nots_read n ctx o a (spaces_bytes p (33 ∷ f)) ∙ spaced (cond ctx (lv o a n)) p (33 ∷ f)

op_read : {n : ℕ} (op : Op) (s t : Sum n) (p : Spaces) (ctx : CondCtx n) (l : Level n) (f : List ℕ) → run (at (after (left ctx l) (pre_of s) (last_of s)) p)
    (op_bytes op (sum_bytes t f)) ≡ run (at (factor (right ctx l s p op) opens (free first)) none) (sum_bytes t f)
unfolding reading
op_read lt s t p ctx l f =
    ap (λ (x : Sum _). run (at (less ctx l x p) none) (sum_bytes t f)) (sum_law s)
    ∙ less_begun ctx l s p (sum_bytes t f) (sum_begins t f)
op_read le s t p ctx l f = ap (λ (x : Sum _). run (at (factor (right ctx l x p le) opens (free first)) none) (sum_bytes t f)) (sum_law s)
op_read gt s t p ctx l f =
    ap (λ (x : Sum _). run (at (greater ctx l x p) none) (sum_bytes t f)) (sum_law s)
    ∙ greater_begun ctx l s p (sum_bytes t f) (sum_begins t f)
op_read ge s t p ctx l f = ap (λ (x : Sum _). run (at (factor (right ctx l x p ge) opens (free first)) none) (sum_bytes t f)) (sum_law s)

mutual
  unfolding reading

  pub atom_read : {n : ℕ} (x : Atom n) (ctx : CondCtx n) (l : Level n) (f : List ℕ) → run (at (cond ctx l) none) (atom_bytes x f) ≡ run (at (done ctx l x) none) f
  atom_read (now q f1) ctx l f = spaced (cond ctx l) q (67 ∷ 49 ∷ f)
  atom_read (now q f2) ctx l f = spaced (cond ctx l) q (67 ∷ 50 ∷ f)
  atom_read (now q f3) ctx l f = spaced (cond ctx l) q (67 ∷ 51 ∷ f)
  atom_read (now q f4) ctx l f = spaced (cond ctx l) q (67 ∷ 52 ∷ f)
  atom_read (later q f1) ctx l f = spaced (cond ctx l) q (78 ∷ 49 ∷ f)
  atom_read (later q f2) ctx l f = spaced (cond ctx l) q (78 ∷ 50 ∷ f)
  atom_read (later q f3) ctx l f = spaced (cond ctx l) q (78 ∷ 51 ∷ f)
  atom_read (later q f4) ctx l f = spaced (cond ctx l) q (78 ∷ 52 ∷ f)
  atom_read (compare s p op t) ctx l f =
      sum_cond s ctx l (spaces_bytes p (op_bytes op (sum_bytes t f)))
      ∙ spaced (after (left ctx l) (pre_of s) (last_of s)) p (op_bytes op (sum_bytes t f))
      ∙ op_read op s t p ctx l f
      ∙ sum_read t (right ctx l s p op) f
  atom_read (group p o q) ctx l f =
      spaced (cond ctx l) p (40 ∷ or_bytes o (spaces_bytes q (41 ∷ f)))
      ∙ or_read o (inside ctx l p) (spaces_bytes q (41 ∷ f))
      ∙ spaced (done (inside ctx l p) (level_of o) (atom_last o)) q (41 ∷ f)
      ∙ done_41 (inside ctx l p) (level_of o) (atom_last o) q f
      ∙ ap (λ (y : Or _). run (at (held ctx l (group p y q)) none) f) (or_law o)

  pub not_read : {n : ℕ} (x : Not n) (ctx : CondCtx n) (o : Ors n) (a : Ands n) (f : List ℕ) → run (at (cond ctx (lv o a unsaid)) none) (not_bytes x f) ≡ run (at (done ctx (lv o a (nots_of x)) (atom_of x)) none) f
  not_read (negated n x) ctx o a f = nots_read n ctx o a (atom_bytes x f) ∙ atom_read x ctx (lv o a n) f

  pub and_read : {n : ℕ} (a : And n) (ctx : CondCtx n) (o : Ors n) (f : List ℕ) → run (at (cond ctx (lv o no_and unsaid)) none) (and_bytes a f) ≡ run (at (done ctx (lv o (and_pre a) (nots_of (and_last a))) (atom_of (and_last a))) none) f
  and_read (alone x) ctx o f = not_read x ctx o no_and f
  and_read (both a p x) ctx o f =
      and_read a ctx o (spaces_bytes p (38 ∷ not_bytes x f))
      ∙ spaced (done ctx (lv o (and_pre a) (nots_of (and_last a))) (atom_of (and_last a))) p (38 ∷ not_bytes x f)
      ∙ done_38 ctx (lv o (and_pre a) (nots_of (and_last a))) (atom_of (and_last a)) p (not_bytes x f)
      ∙ ap (λ (y : And _). run (at (cond ctx (lv o (some_and y p) unsaid)) none) (not_bytes x f)) (and_law a)
      ∙ not_read x ctx o (some_and a p) f

  pub or_read : {n : ℕ} (o : Or n) (ctx : CondCtx n) (f : List ℕ) → run (at (cond ctx bare) none) (or_bytes o f) ≡ run (at (done ctx (level_of o) (atom_last o)) none) f
  or_read (single a) ctx f = and_read a ctx no_or f
  or_read (either o p a) ctx f =
      or_read o ctx (spaces_bytes p (124 ∷ and_bytes a f))
      ∙ spaced (done ctx (level_of o) (atom_last o)) p (124 ∷ and_bytes a f)
      ∙ done_124 ctx (level_of o) (atom_last o) p (and_bytes a f)
      ∙ ap (λ (y : Or _). run (at (cond ctx (lv (some_or y p) no_and unsaid)) none) (and_bytes a f)) (or_law o)
      ∙ and_read a ctx (some_or o p) f

-- ---- results

not_f : (rc : ResultCtx) (p : Spaces) (k : ℕ) → StartsSum k → step (at (res rc) p) k ≡ step (at (factor (value rc) opens (free first)) p) k
unfolding reading
not_f rc p k (by_digit d0) = refl
not_f rc p k (by_digit d1) = refl
not_f rc p k (by_digit d2) = refl
not_f rc p k (by_digit d3) = refl
not_f rc p k (by_digit d4) = refl
not_f rc p k (by_digit d5) = refl
not_f rc p k (by_digit d6) = refl
not_f rc p k (by_digit d7) = refl
not_f rc p k (by_digit d8) = refl
not_f rc p k (by_digit d9) = refl
not_f rc p k by_level = refl
not_f rc p k by_open = refl
not_f rc p k by_minus = refl

res_begun : (rc : ResultCtx) (w : List ℕ) → Begun w → run (at (res rc) none) w ≡ run (at (factor (value rc) opens (free first)) none) w
unfolding reading
res_begun rc w b =
    ap (run (at (res rc) none)) b.same
    ∙ spaced (res rc) b.spaces (b.byte ∷ b.rest)
    ∙ ap (λ (m : Machine). run m b.rest) (not_f rc b.spaces b.byte b.starts)
    ∙ sym (spaced (factor (value rc) opens (free first)) b.spaces (b.byte ∷ b.rest))
    ∙ sym (ap (run (at (factor (value rc) opens (free first)) none)) b.same)

abbrev pub result_state : ResultCtx → Result → ReaderState
result_state rc (worth s) = after (value rc) (pre_of s) (last_of s)
result_state rc (forbids p) = forbade rc p

result_read : (r : Result) (rc : ResultCtx) (f : List ℕ) → run (at (res rc) none) (result_bytes r f) ≡ run (at (result_state rc r) none) f
unfolding reading
result_read (worth s) rc f = res_begun rc (sum_bytes s f) (sum_begins s f) ∙ sum_read s (value rc) f
result_read (forbids p) rc f = spaced (res rc) p (102 ∷ 111 ∷ 114 ∷ 98 ∷ 105 ∷ 100 ∷ 100 ∷ 101 ∷ 110 ∷ f)

result_semicolon : (r : Result) (B : Before) (o : Or deepest) (q p : Spaces) (f : List ℕ) → run (at (result_state (of_case B o q) r) p) (59 ∷ f) ≡ run (at (cond (base (case B o q r p)) bare) none) f
unfolding reading
result_semicolon (worth s) B o q p f = ap (λ (x : Sum deepest). run (at (cond (base (case B o q (worth x) p)) bare) none) f) (sum_law s)
result_semicolon (forbids x) B o q p f = refl

-- ---- numbers of the site and of items

digit_hnumber : (h : Head) (a b q : Spaces) (d : Digit) → step (at (hnumber h a b) q) (digit_byte d) ≡ at (hdone h a b q (one d)) none
unfolding reading
digit_hnumber h a b q d0 = refl
digit_hnumber h a b q d1 = refl
digit_hnumber h a b q d2 = refl
digit_hnumber h a b q d3 = refl
digit_hnumber h a b q d4 = refl
digit_hnumber h a b q d5 = refl
digit_hnumber h a b q d6 = refl
digit_hnumber h a b q d7 = refl
digit_hnumber h a b q d8 = refl
digit_hnumber h a b q d9 = refl

digit_hdone : (h : Head) (a b c : Spaces) (ds : Digits) (d : Digit) → step (at (hdone h a b c ds) none) (digit_byte d) ≡ at (hdone h a b c (also ds d)) none
unfolding reading
digit_hdone h a b c ds d0 = refl
digit_hdone h a b c ds d1 = refl
digit_hdone h a b c ds d2 = refl
digit_hdone h a b c ds d3 = refl
digit_hdone h a b c ds d4 = refl
digit_hdone h a b c ds d5 = refl
digit_hdone h a b c ds d6 = refl
digit_hdone h a b c ds d7 = refl
digit_hdone h a b c ds d8 = refl
digit_hdone h a b c ds d9 = refl

hdigits_read : (ds : Digits) (h : Head) (a b q : Spaces) (f : List ℕ) → run (at (hnumber h a b) q) (digits_bytes ds f) ≡ run (at (hdone h a b q ds) none) f
unfolding reading
hdigits_read (one d) h a b q f = ap (λ (m : Machine). run m f) (digit_hnumber h a b q d)
hdigits_read (also ds d) h a b q f = hdigits_read ds h a b q (digit_byte d ∷ f) ∙ ap (λ (m : Machine). run m f) (digit_hdone h a b q ds d)

digit_inum : (K : Kind) (I : Items) (p q : Spaces) (d : Digit) → step (at (inum K I p) q) (digit_byte d) ≡ at (idone K I p q (one d)) none
unfolding reading
digit_inum K I p q d0 = refl
digit_inum K I p q d1 = refl
digit_inum K I p q d2 = refl
digit_inum K I p q d3 = refl
digit_inum K I p q d4 = refl
digit_inum K I p q d5 = refl
digit_inum K I p q d6 = refl
digit_inum K I p q d7 = refl
digit_inum K I p q d8 = refl
digit_inum K I p q d9 = refl

digit_idone : (K : Kind) (I : Items) (p q : Spaces) (ds : Digits) (d : Digit) → step (at (idone K I p q ds) none) (digit_byte d) ≡ at (idone K I p q (also ds d)) none
unfolding reading
digit_idone K I p q ds d0 = refl
digit_idone K I p q ds d1 = refl
digit_idone K I p q ds d2 = refl
digit_idone K I p q ds d3 = refl
digit_idone K I p q ds d4 = refl
digit_idone K I p q ds d5 = refl
digit_idone K I p q ds d6 = refl
digit_idone K I p q ds d7 = refl
digit_idone K I p q ds d8 = refl
digit_idone K I p q ds d9 = refl

idigits_read : (ds : Digits) (K : Kind) (I : Items) (p q : Spaces) (f : List ℕ) → run (at (inum K I p) q) (digits_bytes ds f) ≡ run (at (idone K I p q ds) none) f
unfolding reading
idigits_read (one d) K I p q f = ap (λ (m : Machine). run m f) (digit_inum K I p q d)
idigits_read (also ds d) K I p q f = idigits_read ds K I p q (digit_byte d ∷ f) ∙ ap (λ (m : Machine). run m f) (digit_idone K I p q ds d)

inumber_read : (q : Spaces) (ds : Digits) (K : Kind) (I : Items) (p : Spaces) (f : List ℕ) → run (at (inum K I p) none) (spaces_bytes q (digits_bytes ds f)) ≡ run (at (idone K I p q ds) none) f
unfolding reading
inumber_read q ds K I p f = spaced (inum K I p) q (digits_bytes ds f) ∙ idigits_read ds K I p q f

equals_read : (h : Head) (p q r : Spaces) (ds : Digits) (f : List ℕ) → run (at (hequals h p) none) (spaces_bytes q (61 ∷ spaces_bytes r (digits_bytes ds f))) ≡ run (at (hdone h p q r ds) none) f
unfolding reading
equals_read h p q r ds f =
    spaced (hequals h p) q (61 ∷ spaces_bytes r (digits_bytes ds f)) ∙ spaced (hnumber h p q) r (digits_bytes ds f) ∙ hdigits_read ds h p q r f

-- the state behind some items
abbrev pub idle : Items → ReaderState
idle (head x a b c (setting p q r ds)) = hdone (q3 x a b c) p q r ds
idle (closed B p q r) = result_state (of_else B p q) r
idle (named I p q ds r cs) = quoted I p q ds r cs

head_read : (x : Spaces) (a b c e : Setting) (f : List ℕ) → run (at (hletter (q0 x)) none) (setting_bytes 109 a (setting_bytes 110 b (setting_bytes 65 c (setting_bytes 87 e f)))) ≡ run (at (idle (head x a b c e)) none) f
unfolding reading
head_read x (setting p q r ds) (setting p1 q1' r1 ds1) (setting p2 q2' r2 ds2) (setting p3 q3' r3 ds3) f =
    let s = setting p q r ds in
    let s1 = setting p1 q1' r1 ds1 in
    let s2 = setting p2 q2' r2 ds2 in
    spaced (hletter (q0 x)) p _ ∙ equals_read (q0 x) p q r ds _
    ∙ spaced (hdone (q0 x) p q r ds) p1 _ ∙ equals_read (q1 x s) p1 q1' r1 ds1 _
    ∙ spaced (hdone (q1 x s) p1 q1' r1 ds1) p2 _ ∙ equals_read (q2 x s s1) p2 q2' r2 ds2 _
    ∙ spaced (hdone (q2 x s s1) p2 q2' r2 ds2) p3 _ ∙ equals_read (q3 x s s1 s2) p3 q3' r3 ds3 f

idle_114 : (I : Items) (p : Spaces) (f : List ℕ) → run (at (idle I) p) (114 ∷ f) ≡ run (item_here I p 114) f
unfolding reading
idle_114 (head x a b c (setting p q r ds)) t f = refl
idle_114 (closed B p q (worth s)) t f = ap (λ (x : Sum deepest). run (item_here (closed B p q (worth x)) t 114) f) (sum_law s)
idle_114 (closed B p q (forbids x)) t f = refl
idle_114 (named I p q ds r cs) t f = refl

idle_99 : (I : Items) (p : Spaces) (f : List ℕ) → run (at (idle I) p) (99 ∷ f) ≡ run (item_here I p 99) f
unfolding reading
idle_99 (head x a b c (setting p q r ds)) t f = refl
idle_99 (closed B p q (worth s)) t f = ap (λ (x : Sum deepest). run (item_here (closed B p q (worth x)) t 99) f) (sum_law s)
idle_99 (closed B p q (forbids x)) t f = refl
idle_99 (named I p q ds r cs) t f = refl

idle_110 : (I : Items) (p : Spaces) (f : List ℕ) → run (at (idle I) p) (110 ∷ f) ≡ run (item_here I p 110) f
unfolding reading
idle_110 (head x a b c (setting p q r ds)) t f = refl
idle_110 (closed B p q (worth s)) t f = ap (λ (x : Sum deepest). run (item_here (closed B p q (worth x)) t 110) f) (sum_law s)
idle_110 (closed B p q (forbids x)) t f = refl
idle_110 (named I p q ds r cs) t f = refl

idle_101 : (I : Items) (p : Spaces) (f : List ℕ) → run (at (idle I) p) (101 ∷ f) ≡ run (item_here I p 101) f
unfolding reading
idle_101 (head x a b c (setting p q r ds)) t f = refl
idle_101 (closed B p q (worth s)) t f = ap (λ (x : Sum deepest). run (item_here (closed B p q (worth x)) t 101) f) (sum_law s)
idle_101 (closed B p q (forbids x)) t f = refl
idle_101 (named I p q ds r cs) t f = refl

-- ---- characters of a name

plain_as : {n : ℕ} (I : Items) (p q : Spaces) (ds : Digits) (r : Spaces) (cs : Chars (suc n)) (c : Char) (b : Bool) (e : is_plain c.byte ≡ b) → with_plain I p q ds r cs c.byte b e ≡ mid (inside_name I p q ds r (char cs c))
unfolding with_plain
plain_as I p q ds r cs c true e = λ i. mid (inside_name I p q ds r (char cs (record { byte = c.byte; plain = T_prop (is_plain c.byte) (subst T (sym e) tt) c.plain i })))
plain_as I p q ds r cs c false e = absurd (subst T e c.plain)

not_quote : (k : ℕ) → T (is_plain k) → eqb k 34 ≡ false
not_quote k = by_eq (eqb k 34) (λ b. T (if b false (if (leb 32 k) (leb k 126) false)) → b ≡ false) (λ e t. absurd t) (λ e t. refl)

char_read : {n : ℕ} (I : Items) (p q : Spaces) (ds : Digits) (r : Spaces) (cs : Chars (suc n)) (c : Char) → step (mid (inside_name I p q ds r cs)) c.byte ≡ mid (inside_name I p q ds r (char cs c))
unfolding reading
char_read I p q ds r cs c =
    ap (λ (b : Bool). if b (at (quoted I p q ds r cs) none) (char_here I p q ds r cs c.byte)) (not_quote c.byte c.plain)
    ∙ plain_as I p q ds r cs c (is_plain c.byte) refl

chars_read : {n : ℕ} (cs : Chars n) (I : Items) (p q : Spaces) (ds : Digits) (r : Spaces) (f : List ℕ) → run (mid (inside_name I p q ds r empty)) (chars_bytes cs f) ≡ run (mid (inside_name I p q ds r cs)) f
unfolding reading
chars_read empty I p q ds r f = refl
chars_read (char cs c) I p q ds r f = chars_read cs I p q ds r (c.byte ∷ f) ∙ ap (λ (m : Machine). run m f) (char_read I p q ds r cs c)
chars_read (quote cs) I p q ds r f = chars_read cs I p q ds r (34 ∷ 34 ∷ f)

-- ---- items

four_chance : (i : Four) (I : Items) (p q : Spaces) (ds : Digits) (r : Spaces) (f : List ℕ) → run (mid (chance_n I p q ds r)) (four_byte i ∷ f) ≡ run (at (iequals (chance_to I p q ds r i)) none) f
unfolding reading
four_chance f1 I p q ds r f = refl
four_chance f2 I p q ds r f = refl
four_chance f3 I p q ds r f = refl
four_chance f4 I p q ds r f = refl

index_next : (i : Index) (I : Items) (p q : Spaces) (ds : Digits) (r : Spaces) (f : List ℕ) → run (mid (next_l I p q ds r)) (index_byte i ∷ f) ≡ run (at (iequals (next_to I p q ds r i)) none) f
unfolding reading
index_next i1 I p q ds r f = refl
index_next i2 I p q ds r f = refl
index_next i3 I p q ds r f = refl
index_next i4 I p q ds r f = refl
index_next i5 I p q ds r f = refl
index_next i6 I p q ds r f = refl
index_next i7 I p q ds r f = refl
index_next i8 I p q ds r f = refl

mutual
  unfolding reading

  pub items_read : (I : Items) (f : List ℕ) → run begin (items_bytes I f) ≡ run (at (idle I) none) f
  items_read (head x a b c e) f = spaced outset x _ ∙ head_read x a b c e f
  items_read (closed B p q r) f =
      before_read B _ ∙ spaced (cond (base B) bare) p _ ∙ spaced (els B p) q (58 ∷ result_bytes r f) ∙ result_read r (of_else B p q) f
  items_read (named I p q ds r cs) f =
      items_read I (spaces_bytes p (110 ∷ 97 ∷ 109 ∷ 101 ∷ spaces_bytes q (digits_bytes ds (spaces_bytes r (34 ∷ chars_bytes cs (34 ∷ f))))))
      ∙ spaced (idle I) p (110 ∷ 97 ∷ 109 ∷ 101 ∷ spaces_bytes q (digits_bytes ds (spaces_bytes r (34 ∷ chars_bytes cs (34 ∷ f)))))
      ∙ idle_110 I p (97 ∷ 109 ∷ 101 ∷ spaces_bytes q (digits_bytes ds (spaces_bytes r (34 ∷ chars_bytes cs (34 ∷ f)))))
      ∙ inumber_read q ds a_name I p (spaces_bytes r (34 ∷ chars_bytes cs (34 ∷ f)))
      ∙ spaced (idone a_name I p q ds) r (34 ∷ chars_bytes cs (34 ∷ f)) ∙ chars_read cs I p q ds r (34 ∷ f)

  pub opening_read : (O : Opening) (f : List ℕ) → run begin (opening_bytes O f) ≡ run (at (cond (base (start O)) bare) none) f
  opening_read (reward I p q ds r) f =
      items_read I (spaces_bytes p (114 ∷ 101 ∷ 119 ∷ 97 ∷ 114 ∷ 100 ∷ spaces_bytes q (digits_bytes ds (spaces_bytes r (61 ∷ f)))))
      ∙ spaced (idle I) p (114 ∷ 101 ∷ 119 ∷ 97 ∷ 114 ∷ 100 ∷ spaces_bytes q (digits_bytes ds (spaces_bytes r (61 ∷ f))))
      ∙ idle_114 I p (101 ∷ 119 ∷ 97 ∷ 114 ∷ 100 ∷ spaces_bytes q (digits_bytes ds (spaces_bytes r (61 ∷ f))))
      ∙ inumber_read q ds a_reward I p (spaces_bytes r (61 ∷ f))
      ∙ spaced (idone a_reward I p q ds) r (61 ∷ f)
  opening_read (chance I p q ds r i t) f =
      items_read I (spaces_bytes p (99 ∷ 104 ∷ 97 ∷ 110 ∷ 99 ∷ 101 ∷ spaces_bytes q (digits_bytes ds (spaces_bytes r (78 ∷ four_byte i ∷ spaces_bytes t (61 ∷ f))))))
      ∙ spaced (idle I) p (99 ∷ 104 ∷ 97 ∷ 110 ∷ 99 ∷ 101 ∷ spaces_bytes q (digits_bytes ds (spaces_bytes r (78 ∷ four_byte i ∷ spaces_bytes t (61 ∷ f)))))
      ∙ idle_99 I p (104 ∷ 97 ∷ 110 ∷ 99 ∷ 101 ∷ spaces_bytes q (digits_bytes ds (spaces_bytes r (78 ∷ four_byte i ∷ spaces_bytes t (61 ∷ f)))))
      ∙ inumber_read q ds a_chance I p (spaces_bytes r (78 ∷ four_byte i ∷ spaces_bytes t (61 ∷ f)))
      ∙ spaced (idone a_chance I p q ds) r (78 ∷ four_byte i ∷ spaces_bytes t (61 ∷ f))
      ∙ four_chance i I p q ds r (spaces_bytes t (61 ∷ f)) ∙ spaced (iequals (chance_to I p q ds r i)) t (61 ∷ f)
  opening_read (next I p q ds r i t) f =
      items_read I (spaces_bytes p (110 ∷ 101 ∷ 120 ∷ 116 ∷ spaces_bytes q (digits_bytes ds (spaces_bytes r (76 ∷ index_byte i ∷ spaces_bytes t (61 ∷ f))))))
      ∙ spaced (idle I) p (110 ∷ 101 ∷ 120 ∷ 116 ∷ spaces_bytes q (digits_bytes ds (spaces_bytes r (76 ∷ index_byte i ∷ spaces_bytes t (61 ∷ f)))))
      ∙ idle_110 I p (101 ∷ 120 ∷ 116 ∷ spaces_bytes q (digits_bytes ds (spaces_bytes r (76 ∷ index_byte i ∷ spaces_bytes t (61 ∷ f)))))
      ∙ inumber_read q ds a_next I p (spaces_bytes r (76 ∷ index_byte i ∷ spaces_bytes t (61 ∷ f)))
      ∙ spaced (idone a_next I p q ds) r (76 ∷ index_byte i ∷ spaces_bytes t (61 ∷ f))
      ∙ index_next i I p q ds r (spaces_bytes t (61 ∷ f)) ∙ spaced (iequals (next_to I p q ds r i)) t (61 ∷ f)
  opening_read (end I p t) f =
      items_read I (spaces_bytes p (101 ∷ 110 ∷ 100 ∷ spaces_bytes t (61 ∷ f)))
      ∙ spaced (idle I) p (101 ∷ 110 ∷ 100 ∷ spaces_bytes t (61 ∷ f))
      ∙ idle_101 I p (110 ∷ 100 ∷ spaces_bytes t (61 ∷ f)) ∙ spaced (iequals (end_to I p)) t (61 ∷ f)

  pub before_read : (B : Before) (f : List ℕ) → run begin (before_bytes B f) ≡ run (at (cond (base B) bare) none) f
  before_read (start O) f = opening_read O f
  before_read (case B o p r q) f =
      before_read B _ ∙ or_read o (base B) _ ∙ spaced (done (base B) (level_of o) (atom_last o)) p _
      ∙ done_58 (base B) (level_of o) (atom_last o) p (result_bytes r (spaces_bytes q (59 ∷ f)))
      ∙ ap (λ (y : Or deepest). run (at (res (of_case B y p)) none) (result_bytes r (spaces_bytes q (59 ∷ f)))) (or_law o)
      ∙ result_read r (of_case B o p) (spaces_bytes q (59 ∷ f))
      ∙ spaced (result_state (of_case B o p) r) q (59 ∷ f)
      ∙ result_semicolon r B o p q f

finish_idle : (I : Items) (p : Spaces) → finish (at (idle I) p) ≡ read (entire I p)
unfolding reading
finish_idle (head x a b c (setting p q r ds)) t = refl
finish_idle (closed B p q (worth s)) t = ap (λ (x : Sum deepest). read (entire (closed B p q (worth x)) t)) (sum_law s)
finish_idle (closed B p q (forbids x)) t = refl
finish_idle (named I p q ds r cs) t = refl

pub text_read : (t : Text) → finish (run begin (text_bytes t)) ≡ read t
unfolding reading
text_read (entire I e) = ap finish (items_read I (spaces_bytes e []) ∙ spaced (idle I) e []) ∙ finish_idle I e

-- ---- each text has one reading

text_in : Text → Reading → Text
text_in t (read u) = u
text_in t unfinished = t

pub one_reading : (t u : Text) → text_bytes t ≡ text_bytes u → t ≡ u
unfolding text_in
one_reading t u e = ap (text_in t) (sym (text_read t) ∙ ap (λ (w : List ℕ). finish (run begin w)) e ∙ text_read u)
