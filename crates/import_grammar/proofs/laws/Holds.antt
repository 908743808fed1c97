-- The machine's pieces are the text so far: its bytes are the bytes that it has read.
use Rattle.std.specs.Prelude.{◌≡◌, refl, Bool, true, false, List, [], ◌∷◌, ◌++◌, ℕ, zero, suc, T, eqb}
use Rattle.std.proofs.Common.{sym, ap, ◌∙◌, subst, append-nil, eqb→eq}
use Rattle.import_grammar.specs.Grammar.{Blank, blank, tab, newline, return, Spaces, none, more, Digit, d0, d1, d2, d3, d4, d5, d6, d7, d8, d9, Digits}
use Rattle.import_grammar.specs.Grammar.{one, also, i1, i2, i3, i4, i5, i6, i7, i8, four_byte, lt, gt, Sign}
use Rattle.import_grammar.specs.Grammar.{adds, takes, ConstFactor, number, kbracket, ConstTerm, kfactor, ktimes, ConstSum}
use Rattle.import_grammar.specs.Grammar.{VaryFactor, level, vbracket, VaryTerm, vfactor, vscaled, vby, Sum}
use Rattle.import_grammar.specs.Grammar.{constant, varying, unsaid, bang, Atom, compare, Not, negated, And}
use Rattle.import_grammar.specs.Grammar.{Items, head, closed, named, Result}
use Rattle.import_grammar.specs.Grammar.{worth, forbids, Setting, setting, Chars, is_plain, if}
use Rattle.import_grammar.specs.Grammar.{result_bytes, setting_bytes, chars_bytes, items_bytes, opening_bytes, digit_byte, blank_byte, index_byte}
use Rattle.import_grammar.specs.Grammar.{sign_byte, op_bytes, spaces_bytes, digits_bytes, kfactor_bytes, kterm_bytes, ksum_bytes, vfactor_bytes}
use Rattle.import_grammar.specs.Grammar.{vterm_bytes, vsum_bytes, sum_bytes, nots_bytes, atom_bytes, not_bytes, and_bytes, or_bytes, before_bytes}
use Rattle.import_grammar.specs.Grammar.{text_bytes}
use Rattle.import_grammar.specs.Reader.{ConstPre, kopens, knegs, kmore, SumPre, kpre, vmore, ConstTermPre, first, times_k, TermPre, free, times_v, Term}
use Rattle.import_grammar.specs.Reader.{kt, vt, Ors, no_or, some_or, Ands, no_and, some_and, Level, lv, CondCtx, base, inside, SumCtx, left, right}
use Rattle.import_grammar.specs.Reader.{ResultCtx, of_case, of_else, value, paren, Head, q0, q1, q2, q3, Kind, a_reward, a_chance, a_next, a_name}
use Rattle.import_grammar.specs.Reader.{Opener, chance_to, next_to, end_to, ConstCtx, behind, within, ReaderState, cond, letter_c, letter_n, chance_n, next_l}
use Rattle.import_grammar.specs.Reader.{inside_name, reward1, reward2, reward3, reward4, reward5, chance1, chance2, chance3, chance4, chance5, end1}
use Rattle.import_grammar.specs.Reader.{end2, n1, next2, next3, name2, name3, site1, site2, site3, forb1, forb2, forb3, forb4, forb5, forb6, forb7}
use Rattle.import_grammar.specs.Reader.{forb8, outset, hletter, hequals, hnumber, hdone, inum, idone, iequals, res, forbade, quoted, factor, letter_l}
use Rattle.import_grammar.specs.Reader.{after, cfactor, cafter, less, greater, held, el1, el2, el3, els, Middle, Machine, at, mid, dead, opens}
use Rattle.import_grammar.specs.Reader.{ksum_of, vsum_of, sum_of, more_of, ktimes_of, vtimes_of, times_const, times_of, bracketed, and_of, or_of, whole}
use Rattle.import_grammar.specs.Reader.{anded, ored, banged, longer, go_on, extended, cextended, close_left, close_cond, colon}
use Rattle.import_grammar.specs.Reader.{else_here, joined, ending, close_const, minus_here, cminus_here, core_here, factor_here, equals_here, equals_above}
use Rattle.import_grammar.specs.Reader.{begin_cond, begin_sum, open_behind, open_const, step_on, step_mid, step, run, begin, Reading, read, unfinished, finish}
use Rattle.import_grammar.specs.Reader.{item_here, resulted, head_letter, letter_here, settled, hextended, iextended, opening_of, by_kind, quote_here}
use Rattle.import_grammar.specs.Reader.{with_plain, char_here, is_digit, digit_of, is_blank, blank_of}
use Rattle.import_grammar.proofs.laws.Case.{by_eq}

abbrev pub kpre_bytes : {n : ℕ} → ConstPre n → List ℕ → List ℕ
kpre_bytes kopens f = f
kpre_bytes (knegs p) f = spaces_bytes p (45 ∷ f)
kpre_bytes (kmore s p g) f = ksum_bytes s (spaces_bytes p (sign_byte g ∷ f))

abbrev pub pre_bytes : {n : ℕ} → SumPre n → List ℕ → List ℕ
pre_bytes (kpre c) f = kpre_bytes c f
pre_bytes (vmore s p g) f = vsum_bytes s (spaces_bytes p (sign_byte g ∷ f))

abbrev pub core_pre_bytes : {n : ℕ} → ConstTermPre n → List ℕ → List ℕ
core_pre_bytes first f = f
core_pre_bytes (times_k t p) f = kterm_bytes t (spaces_bytes p (42 ∷ f))

abbrev pub term_pre_bytes : {n : ℕ} → TermPre n → List ℕ → List ℕ
term_pre_bytes (free cp) f = core_pre_bytes cp f
term_pre_bytes (times_v v p) f = vterm_bytes v (spaces_bytes p (42 ∷ f))

abbrev pub term_bytes : {n : ℕ} → Term n → List ℕ → List ℕ
term_bytes (kt t) f = kterm_bytes t f
term_bytes (vt t) f = vterm_bytes t f

abbrev pub ors_bytes : {n : ℕ} → Ors n → List ℕ → List ℕ
ors_bytes no_or f = f
ors_bytes (some_or o p) f = or_bytes o (spaces_bytes p (124 ∷ f))

abbrev pub ands_bytes : {n : ℕ} → Ands n → List ℕ → List ℕ
ands_bytes no_and f = f
ands_bytes (some_and a p) f = and_bytes a (spaces_bytes p (38 ∷ f))

abbrev pub level_bytes : {n : ℕ} → Level n → List ℕ → List ℕ
level_bytes (lv o a n) f = ors_bytes o (ands_bytes a (nots_bytes n f))

abbrev pub ctx_bytes : {n : ℕ} → CondCtx n → List ℕ → List ℕ
ctx_bytes (base B) f = before_bytes B f
ctx_bytes (inside ctx l q) f = ctx_bytes ctx (level_bytes l (spaces_bytes q (40 ∷ f)))

abbrev pub result_ctx_bytes : ResultCtx → List ℕ → List ℕ
result_ctx_bytes (of_case B o q) f = before_bytes B (or_bytes o (spaces_bytes q (58 ∷ f)))
result_ctx_bytes (of_else B q r) f = before_bytes B (spaces_bytes q (101 ∷ 108 ∷ 115 ∷ 101 ∷ spaces_bytes r (58 ∷ f)))

abbrev pub head_bytes : Head → List ℕ → List ℕ
head_bytes (q0 p) f = spaces_bytes p (115 ∷ 105 ∷ 116 ∷ 101 ∷ f)
head_bytes (q1 p a) f = spaces_bytes p (115 ∷ 105 ∷ 116 ∷ 101 ∷ setting_bytes 109 a f)
head_bytes (q2 p a b) f = spaces_bytes p (115 ∷ 105 ∷ 116 ∷ 101 ∷ setting_bytes 109 a (setting_bytes 110 b f))
head_bytes (q3 p a b c) f = spaces_bytes p (115 ∷ 105 ∷ 116 ∷ 101 ∷ setting_bytes 109 a (setting_bytes 110 b (setting_bytes 65 c f)))

abbrev pub word_bytes : Kind → List ℕ → List ℕ
word_bytes a_reward f = 114 ∷ 101 ∷ 119 ∷ 97 ∷ 114 ∷ 100 ∷ f
word_bytes a_chance f = 99 ∷ 104 ∷ 97 ∷ 110 ∷ 99 ∷ 101 ∷ f
word_bytes a_next f = 110 ∷ 101 ∷ 120 ∷ 116 ∷ f
word_bytes a_name f = 110 ∷ 97 ∷ 109 ∷ 101 ∷ f

abbrev pub opener_bytes : Opener → List ℕ → List ℕ
opener_bytes (chance_to I p q ds r i) f = items_bytes I (spaces_bytes p (99 ∷ 104 ∷ 97 ∷ 110 ∷ 99 ∷ 101 ∷ spaces_bytes q (digits_bytes ds (spaces_bytes r (78 ∷ four_byte i ∷ f)))))
opener_bytes (next_to I p q ds r i) f = items_bytes I (spaces_bytes p (110 ∷ 101 ∷ 120 ∷ 116 ∷ spaces_bytes q (digits_bytes ds (spaces_bytes r (76 ∷ index_byte i ∷ f)))))
opener_bytes (end_to I p) f = items_bytes I (spaces_bytes p (101 ∷ 110 ∷ 100 ∷ f))

abbrev pub sum_ctx_bytes : {n : ℕ} → SumCtx n → List ℕ → List ℕ
sum_ctx_bytes (left ctx l) f = ctx_bytes ctx (level_bytes l f)
sum_ctx_bytes (right ctx l s q op) f = ctx_bytes ctx (level_bytes l (sum_bytes s (spaces_bytes q (op_bytes op f))))
sum_ctx_bytes (value rc) f = result_ctx_bytes rc f
sum_ctx_bytes (paren sc pre cp q) f = sum_ctx_bytes sc (pre_bytes pre (core_pre_bytes cp (spaces_bytes q (40 ∷ f))))

abbrev pub const_ctx_bytes : {n : ℕ} → ConstCtx n → List ℕ → List ℕ
const_ctx_bytes (behind sc pre v p q) f = sum_ctx_bytes sc (pre_bytes pre (vterm_bytes v (spaces_bytes p (42 ∷ spaces_bytes q (40 ∷ f)))))
const_ctx_bytes (within cc pre tp q) f = const_ctx_bytes cc (kpre_bytes pre (core_pre_bytes tp (spaces_bytes q (40 ∷ f))))

abbrev pub state_bytes : ReaderState → List ℕ → List ℕ
state_bytes (cond ctx l) f = ctx_bytes ctx (level_bytes l f)
state_bytes (factor sc pre tp) f = sum_ctx_bytes sc (pre_bytes pre (term_pre_bytes tp f))
state_bytes (after sc pre t) f = sum_ctx_bytes sc (pre_bytes pre (term_bytes t f))
state_bytes (less ctx l s q) f = ctx_bytes ctx (level_bytes l (sum_bytes s (spaces_bytes q (60 ∷ f))))
state_bytes (greater ctx l s q) f = ctx_bytes ctx (level_bytes l (sum_bytes s (spaces_bytes q (62 ∷ f))))
state_bytes (cfactor cc pre tp) f = const_ctx_bytes cc (kpre_bytes pre (core_pre_bytes tp f))
state_bytes (cafter cc pre t) f = const_ctx_bytes cc (kpre_bytes pre (kterm_bytes t f))
state_bytes (held ctx l x) f = ctx_bytes ctx (level_bytes l (atom_bytes x f))
state_bytes (els B q) f = before_bytes B (spaces_bytes q (101 ∷ 108 ∷ 115 ∷ 101 ∷ f))
state_bytes outset f = f
state_bytes (hletter h) f = head_bytes h f
state_bytes (hequals h p) f = head_bytes h (spaces_bytes p (head_letter h ∷ f))
state_bytes (hnumber h p q) f = head_bytes h (spaces_bytes p (head_letter h ∷ spaces_bytes q (61 ∷ f)))
state_bytes (hdone h p q r ds) f = head_bytes h (spaces_bytes p (head_letter h ∷ spaces_bytes q (61 ∷ spaces_bytes r (digits_bytes ds f))))
state_bytes (inum K I p) f = items_bytes I (spaces_bytes p (word_bytes K f))
state_bytes (idone K I p q ds) f = items_bytes I (spaces_bytes p (word_bytes K (spaces_bytes q (digits_bytes ds f))))
state_bytes (iequals o) f = opener_bytes o f
state_bytes (res rc) f = result_ctx_bytes rc f
state_bytes (forbade rc p) f = result_ctx_bytes rc (spaces_bytes p (102 ∷ 111 ∷ 114 ∷ 98 ∷ 105 ∷ 100 ∷ 100 ∷ 101 ∷ 110 ∷ f))
state_bytes (quoted I p q ds r cs) f = items_bytes I (spaces_bytes p (110 ∷ 97 ∷ 109 ∷ 101 ∷ spaces_bytes q (digits_bytes ds (spaces_bytes r (34 ∷ chars_bytes cs (34 ∷ f))))))

abbrev pub middle_bytes : Middle → List ℕ → List ℕ
middle_bytes (letter_c ctx l q) f = ctx_bytes ctx (level_bytes l (spaces_bytes q (67 ∷ f)))
middle_bytes (letter_l sc pre cp q) f = sum_ctx_bytes sc (pre_bytes pre (core_pre_bytes cp (spaces_bytes q (76 ∷ f))))
middle_bytes (reward1 I p) f = items_bytes I (spaces_bytes p (114 ∷ f))
middle_bytes (reward2 I p) f = items_bytes I (spaces_bytes p (114 ∷ 101 ∷ f))
middle_bytes (reward3 I p) f = items_bytes I (spaces_bytes p (114 ∷ 101 ∷ 119 ∷ f))
middle_bytes (reward4 I p) f = items_bytes I (spaces_bytes p (114 ∷ 101 ∷ 119 ∷ 97 ∷ f))
middle_bytes (reward5 I p) f = items_bytes I (spaces_bytes p (114 ∷ 101 ∷ 119 ∷ 97 ∷ 114 ∷ f))
middle_bytes (chance1 I p) f = items_bytes I (spaces_bytes p (99 ∷ f))
middle_bytes (chance2 I p) f = items_bytes I (spaces_bytes p (99 ∷ 104 ∷ f))
middle_bytes (chance3 I p) f = items_bytes I (spaces_bytes p (99 ∷ 104 ∷ 97 ∷ f))
middle_bytes (chance4 I p) f = items_bytes I (spaces_bytes p (99 ∷ 104 ∷ 97 ∷ 110 ∷ f))
middle_bytes (chance5 I p) f = items_bytes I (spaces_bytes p (99 ∷ 104 ∷ 97 ∷ 110 ∷ 99 ∷ f))
middle_bytes (end1 I p) f = items_bytes I (spaces_bytes p (101 ∷ f))
middle_bytes (end2 I p) f = items_bytes I (spaces_bytes p (101 ∷ 110 ∷ f))
middle_bytes (n1 I p) f = items_bytes I (spaces_bytes p (110 ∷ f))
middle_bytes (next2 I p) f = items_bytes I (spaces_bytes p (110 ∷ 101 ∷ f))
middle_bytes (next3 I p) f = items_bytes I (spaces_bytes p (110 ∷ 101 ∷ 120 ∷ f))
middle_bytes (name2 I p) f = items_bytes I (spaces_bytes p (110 ∷ 97 ∷ f))
middle_bytes (name3 I p) f = items_bytes I (spaces_bytes p (110 ∷ 97 ∷ 109 ∷ f))
middle_bytes (site1 p) f = spaces_bytes p (115 ∷ f)
middle_bytes (site2 p) f = spaces_bytes p (115 ∷ 105 ∷ f)
middle_bytes (site3 p) f = spaces_bytes p (115 ∷ 105 ∷ 116 ∷ f)
middle_bytes (forb1 rc p) f = result_ctx_bytes rc (spaces_bytes p (102 ∷ f))
middle_bytes (forb2 rc p) f = result_ctx_bytes rc (spaces_bytes p (102 ∷ 111 ∷ f))
middle_bytes (forb3 rc p) f = result_ctx_bytes rc (spaces_bytes p (102 ∷ 111 ∷ 114 ∷ f))
middle_bytes (forb4 rc p) f = result_ctx_bytes rc (spaces_bytes p (102 ∷ 111 ∷ 114 ∷ 98 ∷ f))
middle_bytes (forb5 rc p) f = result_ctx_bytes rc (spaces_bytes p (102 ∷ 111 ∷ 114 ∷ 98 ∷ 105 ∷ f))
middle_bytes (forb6 rc p) f = result_ctx_bytes rc (spaces_bytes p (102 ∷ 111 ∷ 114 ∷ 98 ∷ 105 ∷ 100 ∷ f))
middle_bytes (forb7 rc p) f = result_ctx_bytes rc (spaces_bytes p (102 ∷ 111 ∷ 114 ∷ 98 ∷ 105 ∷ 100 ∷ 100 ∷ f))
middle_bytes (forb8 rc p) f = result_ctx_bytes rc (spaces_bytes p (102 ∷ 111 ∷ 114 ∷ 98 ∷ 105 ∷ 100 ∷ 100 ∷ 101 ∷ f))
middle_bytes (letter_n ctx l q) f = ctx_bytes ctx (level_bytes l (spaces_bytes q (78 ∷ f)))
middle_bytes (chance_n I p q ds r) f = items_bytes I (spaces_bytes p (99 ∷ 104 ∷ 97 ∷ 110 ∷ 99 ∷ 101 ∷ spaces_bytes q (digits_bytes ds (spaces_bytes r (78 ∷ f)))))
middle_bytes (next_l I p q ds r) f = items_bytes I (spaces_bytes p (110 ∷ 101 ∷ 120 ∷ 116 ∷ spaces_bytes q (digits_bytes ds (spaces_bytes r (76 ∷ f)))))
middle_bytes (inside_name I p q ds r cs) f = items_bytes I (spaces_bytes p (110 ∷ 97 ∷ 109 ∷ 101 ∷ spaces_bytes q (digits_bytes ds (spaces_bytes r (34 ∷ chars_bytes cs f)))))
middle_bytes (el1 B q) f = before_bytes B (spaces_bytes q (101 ∷ f))
middle_bytes (el2 B q) f = before_bytes B (spaces_bytes q (101 ∷ 108 ∷ f))
middle_bytes (el3 B q) f = before_bytes B (spaces_bytes q (101 ∷ 108 ∷ 115 ∷ f))

abbrev pub machine_bytes : Machine → List ℕ → List ℕ
machine_bytes (at s p) f = state_bytes s (spaces_bytes p f)
machine_bytes (mid s) f = middle_bytes s f
machine_bytes dead f = []

-- a machine is dead, or its bytes before any others are those given

abbrev pub KeepsBytes : Machine → (List ℕ → List ℕ) → Type 0
KeepsBytes (at s p) g = (f : List ℕ) → state_bytes s (spaces_bytes p f) ≡ g f
KeepsBytes (mid s) g = (f : List ℕ) → middle_bytes s f ≡ g f
KeepsBytes dead g = Unit {0}

keeps_as : (m : Machine) (g h : List ℕ → List ℕ) → ((f : List ℕ) → g f ≡ h f) → KeepsBytes m g → KeepsBytes m h
keeps_as (at s p) g h e k = λ f. k f ∙ e f
keeps_as (mid s) g h e k = λ f. k f ∙ e f
keeps_as dead g h e k = tt

eq_of : (k c : ℕ) → eqb k c ≡ true → k ≡ c
eq_of k c e = eqb→eq k c (subst T (sym e) tt)

when : (k c : ℕ) (x y : Machine) (g : ℕ → List ℕ → List ℕ) → KeepsBytes x (g c) → KeepsBytes y (g k) → KeepsBytes (if (eqb k c) x y) (g k)
when k c x y g a b = by_eq (eqb k c) (λ t. KeepsBytes (if t x y) (g k)) (λ e. subst (λ (j : ℕ). KeepsBytes x (g j)) (sym (eq_of k c e)) a) (λ e. b)

digit_back : (k : ℕ) → is_digit k ≡ true → digit_byte (digit_of k) ≡ k
digit_back k = (by_eq (eqb k 48) (λ b. if b true (if (eqb k 49) true (if (eqb k 50) true
    (if (eqb k 51) true (if (eqb k 52) true (if (eqb k 53) true (if (eqb k 54) true (if (eqb k 55) true (if (eqb k 56) true (eqb k 57))))))))) ≡ true → digit_byte
    (if b d0 (if (eqb k 49) d1 (if (eqb k 50) d2 (if (eqb k 51) d3 (if (eqb k 52) d4 (if (eqb k 53) d5 (if (eqb k 54) d6 (if (eqb k 55) d7 (if (eqb k 56) d8 d9))))))))) ≡
    k) (λ e h. sym (eq_of k 48 e))
    (λ n. (by_eq (eqb k 49) (λ b. if b true (if (eqb k 50) true (if (eqb k 51) true
    (if (eqb k 52) true (if (eqb k 53) true (if (eqb k 54) true (if (eqb k 55) true (if (eqb k 56) true (eqb k 57)))))))) ≡ true → digit_byte
    (if b d1 (if (eqb k 50) d2 (if (eqb k 51) d3 (if (eqb k 52) d4 (if (eqb k 53) d5 (if (eqb k 54) d6 (if (eqb k 55) d7 (if (eqb k 56) d8 d9)))))))) ≡ k)
    (λ e h. sym (eq_of k 49 e))
    (λ n. (by_eq (eqb k 50) (λ b. if b true (if (eqb k 51) true (if (eqb k 52) true
    (if (eqb k 53) true (if (eqb k 54) true (if (eqb k 55) true (if (eqb k 56) true (eqb k 57))))))) ≡ true → digit_byte
    (if b d2 (if (eqb k 51) d3 (if (eqb k 52) d4 (if (eqb k 53) d5 (if (eqb k 54) d6 (if (eqb k 55) d7 (if (eqb k 56) d8 d9))))))) ≡ k) (λ e h. sym (eq_of k 50 e))
    (λ n. (by_eq (eqb k 51) (λ b. if b true (if (eqb k 52) true (if (eqb k 53) true (if (eqb k 54) true (if (eqb k 55) true (if (eqb k 56) true (eqb k 57)))))) ≡ true
    → digit_byte (if b d3 (if (eqb k 52) d4 (if (eqb k 53) d5 (if (eqb k 54) d6 (if (eqb k 55) d7 (if (eqb k 56) d8 d9)))))) ≡ k) (λ e h. sym (eq_of k 51 e))
    (λ n. (by_eq (eqb k 52) (λ b. if b true (if (eqb k 53) true (if (eqb k 54) true (if (eqb k 55) true (if (eqb k 56) true (eqb k 57))))) ≡ true → digit_byte
    (if b d4 (if (eqb k 53) d5 (if (eqb k 54) d6 (if (eqb k 55) d7 (if (eqb k 56) d8 d9))))) ≡ k) (λ e h. sym (eq_of k 52 e))
    (λ n. (by_eq (eqb k 53) (λ b. if b true (if (eqb k 54) true (if (eqb k 55) true (if (eqb k 56) true (eqb k 57)))) ≡ true → digit_byte
    (if b d5 (if (eqb k 54) d6 (if (eqb k 55) d7 (if (eqb k 56) d8 d9)))) ≡ k) (λ e h. sym (eq_of k 53 e))
    (λ n. (by_eq (eqb k 54) (λ b. if b true (if (eqb k 55) true (if (eqb k 56) true (eqb k 57))) ≡ true → digit_byte (if b d6 (if (eqb k 55) d7 (if (eqb k 56) d8 d9))) ≡ k) (λ e h. sym (eq_of k 54 e))
    (λ n. (by_eq (eqb k 55) (λ b. if b true (if (eqb k 56) true (eqb k 57)) ≡ true → digit_byte (if b d7 (if (eqb k 56) d8 d9)) ≡ k) (λ e h. sym (eq_of k 55 e))
    (λ n. (by_eq (eqb k 56) (λ b. if b true (eqb k 57) ≡ true → digit_byte (if b d8 d9) ≡ k) (λ e h. sym (eq_of k 56 e))
    (λ n. (λ h. sym (eq_of k 57 h))))))))))))))))))))

blank_back : (k : ℕ) → is_blank k ≡ true → blank_byte (blank_of k) ≡ k
blank_back k =
    by_eq (eqb k 32) (λ b. if b true (if (eqb k 9) true (if (eqb k 10) true (eqb k 13))) ≡ true → blank_byte (if b blank (if (eqb k 9) tab (if (eqb k 10) newline return))) ≡ k) (λ e h. sym (eq_of k 32 e))
    (λ n. by_eq (eqb k 9) (λ b. if b true (if (eqb k 10) true (eqb k 13)) ≡ true → blank_byte (if b tab (if (eqb k 10) newline return)) ≡ k) (λ e h. sym (eq_of k 9 e))
    (λ n2. by_eq (eqb k 10) (λ b. if b true (eqb k 13) ≡ true → blank_byte (if b newline return) ≡ k) (λ e h. sym (eq_of k 10 e)) (λ n3 h. sym (eq_of k 13 h))))

when_digit : (k : ℕ) (x : Digit → Machine) (y : Machine) (g : ℕ → List ℕ → List ℕ) → ((d : Digit) → KeepsBytes (x d) (g (digit_byte d))) → KeepsBytes y (g k) → KeepsBytes (if (is_digit k) (x (digit_of k)) y) (g k)
when_digit k x y g a b = by_eq (is_digit k) (λ t. KeepsBytes (if t (x (digit_of k)) y) (g k)) (λ e. subst (λ (j : ℕ). KeepsBytes (x (digit_of k)) (g j)) (digit_back k e) (a (digit_of k))) (λ e. b)

when_blank : (k : ℕ) (x : Blank → Machine) (y : Machine) (g : ℕ → List ℕ → List ℕ) → ((d : Blank) → KeepsBytes (x d) (g (blank_byte d))) → KeepsBytes y (g k) → KeepsBytes (if (is_blank k) (x (blank_of k)) y) (g k)
when_blank k x y g a b = by_eq (is_blank k) (λ t. KeepsBytes (if t (x (blank_of k)) y) (g k)) (λ e. subst (λ (j : ℕ). KeepsBytes (x (blank_of k)) (g j)) (blank_back k e) (a (blank_of k))) (λ e. b)

-- ---- pieces put together

ksum_of_bytes : {n : ℕ} (pre : ConstPre n) (t : ConstTerm n) (f : List ℕ) → ksum_bytes (ksum_of pre t) f ≡ kpre_bytes pre (kterm_bytes t f)
unfolding kfactor_bytes
ksum_of_bytes kopens t f = refl
ksum_of_bytes (knegs p) t f = refl
ksum_of_bytes (kmore s p g) t f = refl

vsum_of_bytes : {n : ℕ} (pre : ConstPre n) (t : VaryTerm n) (f : List ℕ) → vsum_bytes (vsum_of pre t) f ≡ kpre_bytes pre (vterm_bytes t f)
unfolding kfactor_bytes vfactor_bytes
vsum_of_bytes kopens t f = refl
vsum_of_bytes (knegs p) t f = refl
vsum_of_bytes (kmore s p g) t f = refl

pub sum_of_bytes : {n : ℕ} (pre : SumPre n) (t : Term n) (f : List ℕ) → sum_bytes (sum_of pre t) f ≡ pre_bytes pre (term_bytes t f)
unfolding sum_bytes vfactor_bytes
sum_of_bytes (kpre c) (kt t) f = ksum_of_bytes c t f
sum_of_bytes (kpre c) (vt t) f = vsum_of_bytes c t f
sum_of_bytes (vmore s p g) (kt t) f = refl
sum_of_bytes (vmore s p g) (vt t) f = refl

more_of_bytes : {n : ℕ} (s : Sum n) (p : Spaces) (g : Sign) (f : List ℕ) → pre_bytes (more_of s p g) f ≡ sum_bytes s (spaces_bytes p (sign_byte g ∷ f))
unfolding sum_bytes
more_of_bytes (constant s) p g f = refl
more_of_bytes (varying s) p g f = refl

times_bytes : {n : ℕ} (t : Term n) (p : Spaces) (f : List ℕ) → term_pre_bytes (times_of t p) f ≡ term_bytes t (spaces_bytes p (42 ∷ f))
times_bytes (kt t) p f = refl
times_bytes (vt t) p f = refl

ktimes_of_bytes : {n : ℕ} (tp : ConstTermPre n) (x : ConstFactor n) (f : List ℕ) → kterm_bytes (ktimes_of tp x) f ≡ core_pre_bytes tp (kfactor_bytes x f)
unfolding kfactor_bytes
ktimes_of_bytes first x f = refl
ktimes_of_bytes (times_k t p) x f = refl

vtimes_of_bytes : {n : ℕ} (tp : ConstTermPre n) (x : VaryFactor n) (f : List ℕ) → vterm_bytes (vtimes_of tp x) f ≡ core_pre_bytes tp (vfactor_bytes x f)
unfolding vfactor_bytes
vtimes_of_bytes first x f = refl
vtimes_of_bytes (times_k t p) x f = refl

times_const_bytes : {n : ℕ} (tp : TermPre n) (x : ConstFactor n) (f : List ℕ) → term_bytes (times_const tp x) f ≡ term_pre_bytes tp (kfactor_bytes x f)
unfolding vfactor_bytes
times_const_bytes (free tp) x f = ktimes_of_bytes tp x f
times_const_bytes (times_v v p) x f = refl

bracketed_bytes : {n : ℕ} (tp : ConstTermPre (suc n)) (q : Spaces) (s : Sum n) (p : Spaces) (f : List ℕ) → term_bytes (bracketed tp q s p) f ≡ core_pre_bytes tp (spaces_bytes q (40 ∷ sum_bytes s (spaces_bytes p (41 ∷ f))))
unfolding sum_bytes kfactor_bytes vfactor_bytes
bracketed_bytes tp q (constant s) p f = ktimes_of_bytes tp (kbracket q s p) f
bracketed_bytes tp q (varying s) p f = vtimes_of_bytes tp (vbracket q s p) f

and_of_bytes : {n : ℕ} (a : Ands n) (x : Not n) (f : List ℕ) → and_bytes (and_of a x) f ≡ ands_bytes a (not_bytes x f)
unfolding atom_bytes
and_of_bytes no_and x f = refl
and_of_bytes (some_and a p) x f = refl

or_of_bytes : {n : ℕ} (o : Ors n) (a : And n) (f : List ℕ) → or_bytes (or_of o a) f ≡ ors_bytes o (and_bytes a f)
unfolding atom_bytes
or_of_bytes no_or a f = refl
or_of_bytes (some_or o p) a f = refl

whole_bytes : {n : ℕ} (l : Level n) (x : Atom n) (f : List ℕ) → or_bytes (whole l x) f ≡ level_bytes l (atom_bytes x f)
unfolding atom_bytes
whole_bytes (lv o a n) x f = or_of_bytes o (and_of a (negated n x)) f ∙ ap (ors_bytes o) (and_of_bytes a (negated n x) f)

anded_bytes : {n : ℕ} (l : Level n) (x : Atom n) (p : Spaces) (f : List ℕ) → level_bytes (anded l x p) f ≡ level_bytes l (atom_bytes x (spaces_bytes p (38 ∷ f)))
unfolding atom_bytes nots_bytes
anded_bytes (lv o a n) x p f = ap (ors_bytes o) (and_of_bytes a (negated n x) (spaces_bytes p (38 ∷ f)))

ored_bytes : {n : ℕ} (l : Level n) (x : Atom n) (p : Spaces) (f : List ℕ) → level_bytes (ored l x p) f ≡ level_bytes l (atom_bytes x (spaces_bytes p (124 ∷ f)))
unfolding atom_bytes nots_bytes
ored_bytes (lv o a n) x p f = whole_bytes (lv o a n) x (spaces_bytes p (124 ∷ f))

banged_bytes : {n : ℕ} (l : Level n) (p : Spaces) (f : List ℕ) → level_bytes (banged l p) f ≡ level_bytes l (spaces_bytes p (33 ∷ f))
unfolding nots_bytes
banged_bytes (lv o a n) p f = refl

-- ---- each step

longer_keeps : {n : ℕ} (mk : ConstFactor n → Machine) (x : ConstFactor n) (p : Spaces) (d : Digit) (h : List ℕ → List ℕ) →
    ((y : ConstFactor n) → KeepsBytes (mk y) (λ f. h (kfactor_bytes y f))) → KeepsBytes (go_on mk (longer x p d)) (λ f. h (kfactor_bytes x (spaces_bytes p (digit_byte d ∷ f))))
unfolding spaces_bytes digits_bytes kfactor_bytes vfactor_bytes sum_bytes nots_bytes atom_bytes result_bytes setting_bytes chars_bytes before_bytes
longer_keeps mk (number q ds) none d h k = k (number q (also ds d))
longer_keeps mk (number q ds) (more p b) d h k = tt
longer_keeps mk (kbracket q s r) none d h k = tt
longer_keeps mk (kbracket q s r) (more p b) d h k = tt

extended_keeps : {n : ℕ} (sc : SumCtx n) (pre : SumPre n) (t : Term n) (p : Spaces) (d : Digit) → KeepsBytes (extended sc pre t p d) (λ f. sum_ctx_bytes sc (pre_bytes pre (term_bytes t (spaces_bytes p (digit_byte d ∷ f)))))
unfolding spaces_bytes digits_bytes kfactor_bytes vfactor_bytes sum_bytes nots_bytes atom_bytes result_bytes setting_bytes chars_bytes before_bytes extended
extended_keeps sc pre (kt (kfactor x)) p d = longer_keeps _ x p d (λ f. sum_ctx_bytes sc (pre_bytes pre f)) (λ y f. refl)
extended_keeps sc pre (kt (ktimes t q x)) p d = longer_keeps _ x p d (λ f. sum_ctx_bytes sc (pre_bytes pre (kterm_bytes t (spaces_bytes q (42 ∷ f))))) (λ y f. refl)
extended_keeps sc pre (vt (vfactor x)) p d = tt
extended_keeps sc pre (vt (vscaled t q x)) p d = tt
extended_keeps sc pre (vt (vby t q x)) p d = longer_keeps _ x p d (λ f. sum_ctx_bytes sc (pre_bytes pre (vterm_bytes t (spaces_bytes q (42 ∷ f))))) (λ y f. refl)

cextended_keeps : {n : ℕ} (cc : ConstCtx n) (pre : ConstPre n) (t : ConstTerm n) (p : Spaces) (d : Digit) → KeepsBytes (cextended cc pre t p d) (λ f. const_ctx_bytes cc (kpre_bytes pre (kterm_bytes t (spaces_bytes p (digit_byte d ∷ f)))))
unfolding spaces_bytes digits_bytes kfactor_bytes vfactor_bytes sum_bytes nots_bytes atom_bytes result_bytes setting_bytes chars_bytes before_bytes cextended
cextended_keeps cc pre (kfactor x) p d = longer_keeps _ x p d (λ f. const_ctx_bytes cc (kpre_bytes pre f)) (λ y f. refl)
cextended_keeps cc pre (ktimes t q x) p d = longer_keeps _ x p d (λ f. const_ctx_bytes cc (kpre_bytes pre (kterm_bytes t (spaces_bytes q (42 ∷ f))))) (λ y f. refl)

close_left_keeps : {n : ℕ} (ctx : CondCtx n) (l : Level n) (s : Sum n) (p : Spaces) → KeepsBytes (close_left ctx l s p) (λ f. ctx_bytes ctx (level_bytes l (sum_bytes s (spaces_bytes p (41 ∷ f)))))
unfolding spaces_bytes digits_bytes kfactor_bytes vfactor_bytes sum_bytes nots_bytes atom_bytes result_bytes setting_bytes chars_bytes before_bytes close_left
close_left_keeps (base B) l s p = tt
close_left_keeps (inside ctx l' q) (lv no_or no_and unsaid) s p = λ f. ap (λ (w : List ℕ). ctx_bytes ctx (level_bytes l' w)) (bracketed_bytes first q s p f)
close_left_keeps (inside ctx l' q) (lv no_or no_and (bang n r)) s p = tt
close_left_keeps (inside ctx l' q) (lv no_or (some_and a r) n) s p = tt
close_left_keeps (inside ctx l' q) (lv (some_or o r) a n) s p = tt

close_cond_keeps : {n : ℕ} (ctx : CondCtx n) (l : Level n) (x : Atom n) (p : Spaces) → KeepsBytes (close_cond ctx l x p) (λ f. ctx_bytes ctx (level_bytes l (atom_bytes x (spaces_bytes p (41 ∷ f)))))
unfolding spaces_bytes digits_bytes kfactor_bytes vfactor_bytes sum_bytes nots_bytes atom_bytes result_bytes setting_bytes chars_bytes before_bytes close_cond
close_cond_keeps (base B) l x p = tt
close_cond_keeps (inside ctx l' q) l x p = λ f. ap (λ (w : List ℕ). ctx_bytes ctx (level_bytes l' (spaces_bytes q (40 ∷ w)))) (whole_bytes l x (spaces_bytes p (41 ∷ f)))

colon_keeps : {n : ℕ} (ctx : CondCtx n) (l : Level n) (x : Atom n) (p : Spaces) → KeepsBytes (colon ctx l x p) (λ f. ctx_bytes ctx (level_bytes l (atom_bytes x (spaces_bytes p (58 ∷ f)))))
unfolding spaces_bytes digits_bytes kfactor_bytes vfactor_bytes sum_bytes nots_bytes atom_bytes result_bytes setting_bytes chars_bytes before_bytes colon
colon_keeps (base B) l x p = λ f. ap (before_bytes B) (whole_bytes l x (spaces_bytes p (58 ∷ f)))
colon_keeps (inside ctx l' q) l x p = tt

else_keeps : {n : ℕ} (ctx : CondCtx n) (l : Level n) (p : Spaces) → KeepsBytes (else_here ctx l p) (λ f. ctx_bytes ctx (level_bytes l (spaces_bytes p (101 ∷ f))))
unfolding spaces_bytes digits_bytes kfactor_bytes vfactor_bytes sum_bytes nots_bytes atom_bytes result_bytes setting_bytes chars_bytes before_bytes else_here
else_keeps (base B) (lv no_or no_and unsaid) p = λ f. refl
else_keeps (base B) (lv no_or no_and (bang n r)) p = tt
else_keeps (base B) (lv no_or (some_and a r) n) p = tt
else_keeps (base B) (lv (some_or o r) a n) p = tt
else_keeps (inside ctx l' q) l p = tt

joined_keeps : {n : ℕ} (ctx : CondCtx n) (l : Level n) (x : Atom n) (p : Spaces) (k : ℕ) → KeepsBytes (joined ctx l x p k) (λ f. ctx_bytes ctx (level_bytes l (atom_bytes x (spaces_bytes p (k ∷ f)))))
unfolding spaces_bytes digits_bytes kfactor_bytes vfactor_bytes sum_bytes nots_bytes atom_bytes result_bytes setting_bytes chars_bytes before_bytes joined
joined_keeps ctx l x p k =
    let g : ℕ → List ℕ → List ℕ = λ j f. ctx_bytes ctx (level_bytes l (atom_bytes x (spaces_bytes p (j ∷ f)))) in
    when k 38 _ _ g (λ f. ap (ctx_bytes ctx) (anded_bytes l x p f))
    (when k 124 _ _ g (λ f. ap (ctx_bytes ctx) (ored_bytes l x p f))
    (when k 41 _ _ g (close_cond_keeps ctx l x p)
    (when k 58 _ _ g (colon_keeps ctx l x p) tt)))

item_keeps : (I : Items) (p : Spaces) (k : ℕ) → KeepsBytes (item_here I p k) (λ f. items_bytes I (spaces_bytes p (k ∷ f)))
unfolding spaces_bytes digits_bytes kfactor_bytes vfactor_bytes sum_bytes nots_bytes atom_bytes result_bytes setting_bytes chars_bytes before_bytes item_here
item_keeps I p k =
    let g : ℕ → List ℕ → List ℕ = λ j f. items_bytes I (spaces_bytes p (j ∷ f)) in
    when k 114 _ _ g (λ f. refl) (when k 99 _ _ g (λ f. refl) (when k 110 _ _ g (λ f. refl) (when k 101 _ _ g (λ f. refl) tt)))

resulted_keeps : (rc : ResultCtx) (r : Result) (p : Spaces) (k : ℕ) → KeepsBytes (resulted rc r p k) (λ f. result_ctx_bytes rc (result_bytes r (spaces_bytes p (k ∷ f))))
unfolding spaces_bytes digits_bytes kfactor_bytes vfactor_bytes sum_bytes nots_bytes atom_bytes result_bytes setting_bytes chars_bytes before_bytes resulted
resulted_keeps (of_case B o q) r p k = when k 59 _ _ (λ j f. before_bytes B (or_bytes o (spaces_bytes q (58 ∷ result_bytes r (spaces_bytes p (j ∷ f)))))) (λ f. refl) tt
resulted_keeps (of_else B q t) r p k = item_keeps (closed B q t r) p k

letter_keeps : (h : Head) (p : Spaces) (k : ℕ) → KeepsBytes (letter_here h p k) (λ f. head_bytes h (spaces_bytes p (k ∷ f)))
unfolding spaces_bytes digits_bytes kfactor_bytes vfactor_bytes sum_bytes nots_bytes atom_bytes result_bytes setting_bytes chars_bytes before_bytes letter_here
letter_keeps h p k = when k (head_letter h) _ _ (λ j f. head_bytes h (spaces_bytes p (j ∷ f))) (λ f. refl) tt

settled_keeps : (h : Head) (s : Setting) (t : Spaces) (k : ℕ) → KeepsBytes (settled h s t k) (λ f. head_bytes h (setting_bytes (head_letter h) s (spaces_bytes t (k ∷ f))))
unfolding spaces_bytes digits_bytes kfactor_bytes vfactor_bytes sum_bytes nots_bytes atom_bytes result_bytes setting_bytes chars_bytes before_bytes settled
settled_keeps (q0 p) s t k = letter_keeps (q1 p s) t k
settled_keeps (q1 p a) s t k = letter_keeps (q2 p a s) t k
settled_keeps (q2 p a b) s t k = letter_keeps (q3 p a b s) t k
settled_keeps (q3 p a b c) s t k = item_keeps (head p a b c s) t k

hextended_keeps : (h : Head) (a b c : Spaces) (ds : Digits) (p : Spaces) (d : Digit) → KeepsBytes (hextended h a b c ds p d) (λ f. state_bytes (hdone h a b c ds) (spaces_bytes p (digit_byte d ∷ f)))
unfolding spaces_bytes digits_bytes kfactor_bytes vfactor_bytes sum_bytes nots_bytes atom_bytes result_bytes setting_bytes chars_bytes before_bytes hextended
hextended_keeps h a b c ds none d = λ f. refl
hextended_keeps h a b c ds (more p e) d = tt

iextended_keeps : (K : Kind) (I : Items) (p q : Spaces) (ds : Digits) (r : Spaces) (d : Digit) → KeepsBytes (iextended K I p q ds r d) (λ f. state_bytes (idone K I p q ds) (spaces_bytes r (digit_byte d ∷ f)))
unfolding spaces_bytes digits_bytes kfactor_bytes vfactor_bytes sum_bytes nots_bytes atom_bytes result_bytes setting_bytes chars_bytes before_bytes iextended
iextended_keeps K I p q ds none d = λ f. refl
iextended_keeps K I p q ds (more r e) d = tt

kind_keeps : (K : Kind) (I : Items) (p q : Spaces) (ds : Digits) (r : Spaces) (k : ℕ) → KeepsBytes (by_kind K I p q ds r k) (λ f. state_bytes (idone K I p q ds) (spaces_bytes r (k ∷ f)))
unfolding spaces_bytes digits_bytes kfactor_bytes vfactor_bytes sum_bytes nots_bytes atom_bytes result_bytes setting_bytes chars_bytes before_bytes by_kind
kind_keeps a_reward I p q ds r k = when k 61 _ _ (λ j f. state_bytes (idone a_reward I p q ds) (spaces_bytes r (j ∷ f))) (λ f. refl) tt
kind_keeps a_chance I p q ds r k = when k 78 _ _ (λ j f. state_bytes (idone a_chance I p q ds) (spaces_bytes r (j ∷ f))) (λ f. refl) tt
kind_keeps a_next I p q ds r k = when k 76 _ _ (λ j f. state_bytes (idone a_next I p q ds) (spaces_bytes r (j ∷ f))) (λ f. refl) tt
kind_keeps a_name I p q ds r k = when k 34 _ _ (λ j f. state_bytes (idone a_name I p q ds) (spaces_bytes r (j ∷ f))) (λ f. refl) tt

opening_keeps : (o : Opener) (p : Spaces) (f : List ℕ) → opening_bytes (opening_of o p) f ≡ opener_bytes o (spaces_bytes p (61 ∷ f))
unfolding spaces_bytes digits_bytes kfactor_bytes vfactor_bytes sum_bytes nots_bytes atom_bytes result_bytes setting_bytes chars_bytes before_bytes
opening_keeps (chance_to I p q ds r i) t f = refl
opening_keeps (next_to I p q ds r i) t f = refl
opening_keeps (end_to I p) t f = refl

quote_keeps : {n : ℕ} (I : Items) (p q : Spaces) (ds : Digits) (r : Spaces) (cs : Chars n) (t : Spaces) → KeepsBytes (quote_here I p q ds r cs t) (λ f. state_bytes (quoted I p q ds r cs) (spaces_bytes t (34 ∷ f)))
unfolding spaces_bytes digits_bytes kfactor_bytes vfactor_bytes sum_bytes nots_bytes atom_bytes result_bytes setting_bytes chars_bytes before_bytes quote_here
quote_keeps {n = zero} I p q ds r cs t = tt
quote_keeps {n = suc m} I p q ds r cs none = λ f. refl
quote_keeps {n = suc m} I p q ds r cs (more t e) = tt

plain_keeps : {n : ℕ} (I : Items) (p q : Spaces) (ds : Digits) (r : Spaces) (cs : Chars (suc n)) (k : ℕ) (b : Bool) (e : is_plain k ≡ b) → KeepsBytes (with_plain I p q ds r cs k b e) (λ f. middle_bytes (inside_name I p q ds r cs) (k ∷ f))
unfolding spaces_bytes digits_bytes kfactor_bytes vfactor_bytes sum_bytes nots_bytes atom_bytes result_bytes setting_bytes chars_bytes before_bytes with_plain
plain_keeps I p q ds r cs k true e = λ f. refl
plain_keeps I p q ds r cs k false e = tt

char_keeps : {n : ℕ} (I : Items) (p q : Spaces) (ds : Digits) (r : Spaces) (cs : Chars n) (k : ℕ) → KeepsBytes (char_here I p q ds r cs k) (λ f. middle_bytes (inside_name I p q ds r cs) (k ∷ f))
unfolding spaces_bytes digits_bytes kfactor_bytes vfactor_bytes sum_bytes nots_bytes atom_bytes result_bytes setting_bytes chars_bytes before_bytes char_here
char_keeps {n = zero} I p q ds r cs k = tt
char_keeps {n = suc m} I p q ds r cs k = plain_keeps I p q ds r cs k (is_plain k) refl

ending_keeps : {n : ℕ} (sc : SumCtx n) (s : Sum n) (p : Spaces) (k : ℕ) → KeepsBytes (ending sc s p k) (λ f. sum_ctx_bytes sc (sum_bytes s (spaces_bytes p (k ∷ f))))
unfolding spaces_bytes digits_bytes kfactor_bytes vfactor_bytes sum_bytes nots_bytes atom_bytes result_bytes setting_bytes chars_bytes before_bytes ending
ending_keeps (left ctx l) s p k =
    let g : ℕ → List ℕ → List ℕ = λ j f. ctx_bytes ctx (level_bytes l (sum_bytes s (spaces_bytes p (j ∷ f)))) in
    when k 60 _ _ g (λ f. refl) (when k 62 _ _ g (λ f. refl) (when k 41 _ _ g (close_left_keeps ctx l s p) tt))
ending_keeps (right ctx l s' q op) s p k = joined_keeps ctx l (compare s' q op s) p k
ending_keeps (value rc) s p k = resulted_keeps rc (worth s) p k
ending_keeps (paren sc pre cp q) s p k =
    when k 41 _ _ (λ j f. sum_ctx_bytes sc (pre_bytes pre (core_pre_bytes cp (spaces_bytes q (40 ∷ sum_bytes s (spaces_bytes p (j ∷ f)))))))
    (λ f. ap (λ (w : List ℕ). sum_ctx_bytes sc (pre_bytes pre w)) (bracketed_bytes cp q s p f)) tt

close_const_keeps : {n : ℕ} (cc : ConstCtx n) (s : ConstSum n) (p : Spaces) → KeepsBytes (close_const cc s p) (λ f. const_ctx_bytes cc (ksum_bytes s (spaces_bytes p (41 ∷ f))))
unfolding spaces_bytes digits_bytes kfactor_bytes vfactor_bytes sum_bytes nots_bytes atom_bytes result_bytes setting_bytes chars_bytes before_bytes close_const
close_const_keeps (behind sc pre v r q) s p = λ f. refl
close_const_keeps (within cc pre tp q) s p = λ f. ap (λ (w : List ℕ). const_ctx_bytes cc (kpre_bytes pre w)) (ktimes_of_bytes tp (kbracket q s p) f)

minus_keeps : {n : ℕ} (sc : SumCtx n) (pre : SumPre n) (tp : ConstTermPre n) (p : Spaces) → KeepsBytes (minus_here sc pre tp p) (λ f. sum_ctx_bytes sc (pre_bytes pre (core_pre_bytes tp (spaces_bytes p (45 ∷ f)))))
unfolding spaces_bytes digits_bytes kfactor_bytes vfactor_bytes sum_bytes nots_bytes atom_bytes result_bytes setting_bytes chars_bytes before_bytes minus_here
minus_keeps sc (kpre kopens) first p = λ f. refl
minus_keeps sc (kpre kopens) (times_k t q) p = tt
minus_keeps sc (kpre (knegs r)) tp p = tt
minus_keeps sc (kpre (kmore s r g)) tp p = tt
minus_keeps sc (vmore s r g) tp p = tt

cminus_keeps : {n : ℕ} (cc : ConstCtx n) (pre : ConstPre n) (tp : ConstTermPre n) (p : Spaces) → KeepsBytes (cminus_here cc pre tp p) (λ f. const_ctx_bytes cc (kpre_bytes pre (core_pre_bytes tp (spaces_bytes p (45 ∷ f)))))
unfolding spaces_bytes digits_bytes kfactor_bytes vfactor_bytes sum_bytes nots_bytes atom_bytes result_bytes setting_bytes chars_bytes before_bytes cminus_here
cminus_keeps cc kopens first p = λ f. refl
cminus_keeps cc kopens (times_k t q) p = tt
cminus_keeps cc (knegs r) tp p = tt
cminus_keeps cc (kmore s r g) tp p = tt

open_behind_keeps : {n : ℕ} (sc : SumCtx n) (pre : SumPre n) (v : VaryTerm n) (q p : Spaces) → KeepsBytes (open_behind sc pre v q p) (λ f. sum_ctx_bytes sc (pre_bytes pre (vterm_bytes v (spaces_bytes q (42 ∷ spaces_bytes p (40 ∷ f))))))
unfolding spaces_bytes digits_bytes kfactor_bytes vfactor_bytes sum_bytes nots_bytes atom_bytes result_bytes setting_bytes chars_bytes before_bytes open_behind
open_behind_keeps {n = zero} sc pre v q p = tt
open_behind_keeps {n = suc m} sc pre v q p = λ f. refl

open_const_keeps : {n : ℕ} (cc : ConstCtx n) (pre : ConstPre n) (tp : ConstTermPre n) (p : Spaces) → KeepsBytes (open_const cc pre tp p) (λ f. const_ctx_bytes cc (kpre_bytes pre (core_pre_bytes tp (spaces_bytes p (40 ∷ f)))))
unfolding spaces_bytes digits_bytes kfactor_bytes vfactor_bytes sum_bytes nots_bytes atom_bytes result_bytes setting_bytes chars_bytes before_bytes open_const
open_const_keeps {n = zero} cc pre tp p = tt
open_const_keeps {n = suc m} cc pre tp p = λ f. refl

open_cond_keeps : {n : ℕ} (ctx : CondCtx n) (l : Level n) (p : Spaces) → KeepsBytes (begin_cond ctx l p) (λ f. ctx_bytes ctx (level_bytes l (spaces_bytes p (40 ∷ f))))
unfolding spaces_bytes digits_bytes kfactor_bytes vfactor_bytes sum_bytes nots_bytes atom_bytes result_bytes setting_bytes chars_bytes before_bytes begin_cond
open_cond_keeps {n = zero} ctx l p = tt
open_cond_keeps {n = suc m} ctx l p = λ f. refl

open_sum_keeps : {n : ℕ} (sc : SumCtx n) (pre : SumPre n) (cp : ConstTermPre n) (p : Spaces) → KeepsBytes (begin_sum sc pre cp p) (λ f. sum_ctx_bytes sc (pre_bytes pre (core_pre_bytes cp (spaces_bytes p (40 ∷ f)))))
unfolding spaces_bytes digits_bytes kfactor_bytes vfactor_bytes sum_bytes nots_bytes atom_bytes result_bytes setting_bytes chars_bytes before_bytes begin_sum
open_sum_keeps {n = zero} sc pre cp p = tt
open_sum_keeps {n = suc m} sc pre cp p = λ f. refl

core_keeps : {n : ℕ} (sc : SumCtx n) (pre : SumPre n) (tp : TermPre n) (p : Spaces) (k : ℕ) → KeepsBytes (core_here sc pre tp p k) (λ f. sum_ctx_bytes sc (pre_bytes pre (term_pre_bytes tp (spaces_bytes p (k ∷ f)))))
unfolding spaces_bytes digits_bytes kfactor_bytes vfactor_bytes sum_bytes nots_bytes atom_bytes result_bytes setting_bytes chars_bytes before_bytes core_here
core_keeps sc pre (free cp) p k =
    let g : ℕ → List ℕ → List ℕ = λ j f. sum_ctx_bytes sc (pre_bytes pre (core_pre_bytes cp (spaces_bytes p (j ∷ f)))) in
    when k 76 _ _ g (λ f. refl) (when k 40 _ _ g (open_sum_keeps sc pre cp p) (when k 45 _ _ g (minus_keeps sc pre cp p) tt))
core_keeps sc pre (times_v v q) p k =
    when k 40 _ _ (λ j f. sum_ctx_bytes sc (pre_bytes pre (vterm_bytes v (spaces_bytes q (42 ∷ spaces_bytes p (j ∷ f)))))) (open_behind_keeps sc pre v q p) tt

factor_keeps : {n : ℕ} (sc : SumCtx n) (pre : SumPre n) (tp : TermPre n) (p : Spaces) (k : ℕ) → KeepsBytes (factor_here sc pre tp p k) (λ f. sum_ctx_bytes sc (pre_bytes pre (term_pre_bytes tp (spaces_bytes p (k ∷ f)))))
unfolding spaces_bytes digits_bytes kfactor_bytes vfactor_bytes sum_bytes nots_bytes atom_bytes result_bytes setting_bytes chars_bytes before_bytes factor_here
factor_keeps sc pre tp p k =
    when_digit k (λ d. at (after sc pre (times_const tp (number p (one d)))) none) _ (λ j f. sum_ctx_bytes sc (pre_bytes pre (term_pre_bytes tp (spaces_bytes p (j ∷ f)))))
    (λ d f. ap (λ (w : List ℕ). sum_ctx_bytes sc (pre_bytes pre w)) (times_const_bytes tp (number p (one d)) f))
    (core_keeps sc pre tp p k)

equals_keeps : {n : ℕ} (ctx : CondCtx n) (l : Level n) (s : Sum n) (q p : Spaces) → KeepsBytes (equals_here ctx l s q p) (λ f. ctx_bytes ctx (level_bytes l (sum_bytes s (spaces_bytes q (60 ∷ spaces_bytes p (61 ∷ f))))))
unfolding spaces_bytes digits_bytes kfactor_bytes vfactor_bytes sum_bytes nots_bytes atom_bytes result_bytes setting_bytes chars_bytes before_bytes equals_here
equals_keeps ctx l s q none = λ f. refl
equals_keeps ctx l s q (more p b) = tt

above_keeps : {n : ℕ} (ctx : CondCtx n) (l : Level n) (s : Sum n) (q p : Spaces) → KeepsBytes (equals_above ctx l s q p) (λ f. ctx_bytes ctx (level_bytes l (sum_bytes s (spaces_bytes q (62 ∷ spaces_bytes p (61 ∷ f))))))
unfolding spaces_bytes digits_bytes kfactor_bytes vfactor_bytes sum_bytes nots_bytes atom_bytes result_bytes setting_bytes chars_bytes before_bytes equals_above
above_keeps ctx l s q none = λ f. refl
above_keeps ctx l s q (more p b) = tt

on_keeps : (s : ReaderState) (p : Spaces) (k : ℕ) → KeepsBytes (step_on s p k) (λ f. state_bytes s (spaces_bytes p (k ∷ f)))
unfolding spaces_bytes digits_bytes kfactor_bytes vfactor_bytes sum_bytes nots_bytes atom_bytes result_bytes setting_bytes chars_bytes before_bytes step_on
on_keeps (cond ctx l) p k =
    let g : ℕ → List ℕ → List ℕ = λ j f. ctx_bytes ctx (level_bytes l (spaces_bytes p (j ∷ f))) in
    when_digit k (λ d. at (after (left ctx l) opens (kt (kfactor (number p (one d))))) none) _ g (λ d f. refl)
    (when k 76 _ _ g (λ f. refl)
    (when k 67 _ _ g (λ f. refl)
    (when k 78 _ _ g (λ f. refl)
    (when k 40 _ _ g (open_cond_keeps ctx l p)
    (when k 45 _ _ g (λ f. refl)
    (when k 33 _ _ g (λ f. ap (ctx_bytes ctx) (banged_bytes l p f))
    (when k 101 _ _ g (else_keeps ctx l p) tt)))))))
on_keeps (factor sc pre tp) p k = factor_keeps sc pre tp p k
on_keeps (after sc pre t) p k =
    let g : ℕ → List ℕ → List ℕ = λ j f. sum_ctx_bytes sc (pre_bytes pre (term_bytes t (spaces_bytes p (j ∷ f)))) in
    when_digit k (λ d. extended sc pre t p d) _ g (λ d. extended_keeps sc pre t p d)
    (when k 42 _ _ g (λ f. ap (λ (w : List ℕ). sum_ctx_bytes sc (pre_bytes pre w)) (times_bytes t p f))
    (when k 43 _ _ g (λ f. ap (sum_ctx_bytes sc) (more_of_bytes (sum_of pre t) p adds f ∙ sum_of_bytes pre t (spaces_bytes p (43 ∷ f))))
    (when k 45 _ _ g (λ f. ap (sum_ctx_bytes sc) (more_of_bytes (sum_of pre t) p takes f ∙ sum_of_bytes pre t (spaces_bytes p (45 ∷ f))))
    (keeps_as (ending sc (sum_of pre t) p k) _ (g k) (λ f. ap (sum_ctx_bytes sc) (sum_of_bytes pre t (spaces_bytes p (k ∷ f)))) (ending_keeps sc (sum_of pre t) p k)))))
on_keeps (less ctx l s q) p k =
    when k 61 _ _ (λ j f. ctx_bytes ctx (level_bytes l (sum_bytes s (spaces_bytes q (60 ∷ spaces_bytes p (j ∷ f))))))
    (equals_keeps ctx l s q p) (factor_keeps (right ctx l s q lt) opens (free first) p k)
on_keeps (greater ctx l s q) p k =
    when k 61 _ _ (λ j f. ctx_bytes ctx (level_bytes l (sum_bytes s (spaces_bytes q (62 ∷ spaces_bytes p (j ∷ f))))))
    (above_keeps ctx l s q p) (factor_keeps (right ctx l s q gt) opens (free first) p k)
on_keeps (cfactor cc pre tp) p k =
    let g : ℕ → List ℕ → List ℕ = λ j f. const_ctx_bytes cc (kpre_bytes pre (core_pre_bytes tp (spaces_bytes p (j ∷ f)))) in
    when_digit k (λ d. at (cafter cc pre (ktimes_of tp (number p (one d)))) none) _ g (λ d f. ap (λ (w : List ℕ). const_ctx_bytes cc (kpre_bytes pre w)) (ktimes_of_bytes tp (number p (one d)) f))
    (when k 40 _ _ g (open_const_keeps cc pre tp p) (when k 45 _ _ g (cminus_keeps cc pre tp p) tt))
on_keeps (cafter cc pre t) p k =
    let g : ℕ → List ℕ → List ℕ = λ j f. const_ctx_bytes cc (kpre_bytes pre (kterm_bytes t (spaces_bytes p (j ∷ f)))) in
    when_digit k (λ d. cextended cc pre t p d) _ g (λ d. cextended_keeps cc pre t p d)
    (when k 42 _ _ g (λ f. refl)
    (when k 43 _ _ g (λ f. ap (const_ctx_bytes cc) (ksum_of_bytes pre t (spaces_bytes p (43 ∷ f))))
    (when k 45 _ _ g (λ f. ap (const_ctx_bytes cc) (ksum_of_bytes pre t (spaces_bytes p (45 ∷ f))))
    (when k 41 _ _ g
    (keeps_as (close_const cc (ksum_of pre t) p) _ (g 41) (λ f. ap (const_ctx_bytes cc) (ksum_of_bytes pre t (spaces_bytes p (41 ∷ f)))) (close_const_keeps cc (ksum_of pre t) p)) tt))))
on_keeps (held ctx l x) p k = joined_keeps ctx l x p k
on_keeps (els B q) p k = when k 58 _ _ (λ j f. before_bytes B (spaces_bytes q (101 ∷ 108 ∷ 115 ∷ 101 ∷ spaces_bytes p (j ∷ f)))) (λ f. refl) tt
on_keeps outset p k = when k 115 _ _ (λ j f. spaces_bytes p (j ∷ f)) (λ f. refl) tt
on_keeps (hletter h) p k = letter_keeps h p k
on_keeps (hequals h q) p k = when k 61 _ _ (λ j f. head_bytes h (spaces_bytes q (head_letter h ∷ spaces_bytes p (j ∷ f)))) (λ f. refl) tt
on_keeps (hnumber h q r) p k = when_digit k (λ d. at (hdone h q r p (one d)) none) _ (λ j f. state_bytes (hnumber h q r) (spaces_bytes p (j ∷ f))) (λ d f. refl) tt
on_keeps (hdone h a b c ds) p k =
    when_digit k (λ d. hextended h a b c ds p d) _ (λ j f. state_bytes (hdone h a b c ds) (spaces_bytes p (j ∷ f))) (λ d. hextended_keeps h a b c ds p d)
    (settled_keeps h (setting a b c ds) p k)
on_keeps (inum K I q) p k = when_digit k (λ d. at (idone K I q p (one d)) none) _ (λ j f. state_bytes (inum K I q) (spaces_bytes p (j ∷ f))) (λ d f. refl) tt
on_keeps (idone K I q r ds) p k =
    when_digit k (λ d. iextended K I q r ds p d) _ (λ j f. state_bytes (idone K I q r ds) (spaces_bytes p (j ∷ f))) (λ d. iextended_keeps K I q r ds p d)
    (kind_keeps K I q r ds p k)
on_keeps (iequals o) p k = when k 61 _ _ (λ j f. opener_bytes o (spaces_bytes p (j ∷ f))) (λ f. opening_keeps o p f) tt
on_keeps (res rc) p k = when k 102 _ _ (λ j f. result_ctx_bytes rc (spaces_bytes p (j ∷ f))) (λ f. refl) (factor_keeps (value rc) opens (free first) p k)
on_keeps (forbade rc q) p k = resulted_keeps rc (forbids q) p k
on_keeps (quoted I p q ds r cs) t k =
    when k 34 _ _ (λ j f. state_bytes (quoted I p q ds r cs) (spaces_bytes t (j ∷ f))) (quote_keeps I p q ds r cs t) (item_keeps (named I p q ds r cs) t k)

mid_keeps : (s : Middle) (k : ℕ) → KeepsBytes (step_mid s k) (λ f. middle_bytes s (k ∷ f))
unfolding spaces_bytes digits_bytes kfactor_bytes vfactor_bytes sum_bytes nots_bytes atom_bytes result_bytes setting_bytes chars_bytes before_bytes step_mid
mid_keeps (letter_c ctx l q) k =
    let g : ℕ → List ℕ → List ℕ = λ j f. ctx_bytes ctx (level_bytes l (spaces_bytes q (67 ∷ j ∷ f))) in
    when k 49 _ _ g (λ f. refl) (when k 50 _ _ g (λ f. refl) (when k 51 _ _ g (λ f. refl) (when k 52 _ _ g (λ f. refl) tt)))
mid_keeps (letter_n ctx l q) k =
    let g : ℕ → List ℕ → List ℕ = λ j f. ctx_bytes ctx (level_bytes l (spaces_bytes q (78 ∷ j ∷ f))) in
    when k 49 _ _ g (λ f. refl) (when k 50 _ _ g (λ f. refl) (when k 51 _ _ g (λ f. refl) (when k 52 _ _ g (λ f. refl) tt)))
mid_keeps (letter_l sc pre cp q) k =
    let g : ℕ → List ℕ → List ℕ = λ j f. sum_ctx_bytes sc (pre_bytes pre (core_pre_bytes cp (spaces_bytes q (76 ∷ j ∷ f)))) in
    when k 49 _ _ g (λ f. ap (λ (w : List ℕ). sum_ctx_bytes sc (pre_bytes pre w)) (vtimes_of_bytes cp (level q i1) f))
    (when k 50 _ _ g (λ f. ap (λ (w : List ℕ). sum_ctx_bytes sc (pre_bytes pre w)) (vtimes_of_bytes cp (level q i2) f))
    (when k 51 _ _ g (λ f. ap (λ (w : List ℕ). sum_ctx_bytes sc (pre_bytes pre w)) (vtimes_of_bytes cp (level q i3) f))
    (when k 52 _ _ g (λ f. ap (λ (w : List ℕ). sum_ctx_bytes sc (pre_bytes pre w)) (vtimes_of_bytes cp (level q i4) f))
    (when k 53 _ _ g (λ f. ap (λ (w : List ℕ). sum_ctx_bytes sc (pre_bytes pre w)) (vtimes_of_bytes cp (level q i5) f))
    (when k 54 _ _ g (λ f. ap (λ (w : List ℕ). sum_ctx_bytes sc (pre_bytes pre w)) (vtimes_of_bytes cp (level q i6) f))
    (when k 55 _ _ g (λ f. ap (λ (w : List ℕ). sum_ctx_bytes sc (pre_bytes pre w)) (vtimes_of_bytes cp (level q i7) f))
    (when k 56 _ _ g (λ f. ap (λ (w : List ℕ). sum_ctx_bytes sc (pre_bytes pre w)) (vtimes_of_bytes cp (level q i8) f)) tt)))))))
mid_keeps (chance_n I p q ds r) k =
    let g : ℕ → List ℕ → List ℕ = λ j f. middle_bytes (chance_n I p q ds r) (j ∷ f) in
    when k 49 _ _ g (λ f. refl) (when k 50 _ _ g (λ f. refl) (when k 51 _ _ g (λ f. refl) (when k 52 _ _ g (λ f. refl) tt)))
mid_keeps (next_l I p q ds r) k =
    let g : ℕ → List ℕ → List ℕ = λ j f. middle_bytes (next_l I p q ds r) (j ∷ f) in
    when k 49 _ _ g (λ f. refl) (when k 50 _ _ g (λ f. refl) (when k 51 _ _ g (λ f. refl)
    (when k 52 _ _ g (λ f. refl) (when k 53 _ _ g (λ f. refl) (when k 54 _ _ g (λ f. refl) (when k 55 _ _ g (λ f. refl) (when k 56 _ _ g (λ f. refl) tt)))))))
mid_keeps (inside_name I p q ds r cs) k = when k 34 _ _ (λ j f. middle_bytes (inside_name I p q ds r cs) (j ∷ f)) (λ f. refl) (char_keeps I p q ds r cs k)
mid_keeps (reward1 I p) k =
    let g : ℕ → List ℕ → List ℕ = λ j f. middle_bytes (reward1 I p) (j ∷ f) in
    when k 101 _ _ g (λ f. refl) tt
mid_keeps (reward2 I p) k =
    let g : ℕ → List ℕ → List ℕ = λ j f. middle_bytes (reward2 I p) (j ∷ f) in
    when k 119 _ _ g (λ f. refl) tt
mid_keeps (reward3 I p) k =
    let g : ℕ → List ℕ → List ℕ = λ j f. middle_bytes (reward3 I p) (j ∷ f) in
    when k 97 _ _ g (λ f. refl) tt
mid_keeps (reward4 I p) k =
    let g : ℕ → List ℕ → List ℕ = λ j f. middle_bytes (reward4 I p) (j ∷ f) in
    when k 114 _ _ g (λ f. refl) tt
mid_keeps (reward5 I p) k =
    let g : ℕ → List ℕ → List ℕ = λ j f. middle_bytes (reward5 I p) (j ∷ f) in
    when k 100 _ _ g (λ f. refl) tt
mid_keeps (chance1 I p) k =
    let g : ℕ → List ℕ → List ℕ = λ j f. middle_bytes (chance1 I p) (j ∷ f) in
    when k 104 _ _ g (λ f. refl) tt
mid_keeps (chance2 I p) k =
    let g : ℕ → List ℕ → List ℕ = λ j f. middle_bytes (chance2 I p) (j ∷ f) in
    when k 97 _ _ g (λ f. refl) tt
mid_keeps (chance3 I p) k =
    let g : ℕ → List ℕ → List ℕ = λ j f. middle_bytes (chance3 I p) (j ∷ f) in
    when k 110 _ _ g (λ f. refl) tt
mid_keeps (chance4 I p) k =
    let g : ℕ → List ℕ → List ℕ = λ j f. middle_bytes (chance4 I p) (j ∷ f) in
    when k 99 _ _ g (λ f. refl) tt
mid_keeps (chance5 I p) k =
    let g : ℕ → List ℕ → List ℕ = λ j f. middle_bytes (chance5 I p) (j ∷ f) in
    when k 101 _ _ g (λ f. refl) tt
mid_keeps (end1 I p) k =
    let g : ℕ → List ℕ → List ℕ = λ j f. middle_bytes (end1 I p) (j ∷ f) in
    when k 110 _ _ g (λ f. refl) tt
mid_keeps (end2 I p) k =
    let g : ℕ → List ℕ → List ℕ = λ j f. middle_bytes (end2 I p) (j ∷ f) in
    when k 100 _ _ g (λ f. refl) tt
mid_keeps (n1 I p) k =
    let g : ℕ → List ℕ → List ℕ = λ j f. middle_bytes (n1 I p) (j ∷ f) in
    when k 101 _ _ g (λ f. refl) (when k 97 _ _ g (λ f. refl) tt)
mid_keeps (next2 I p) k =
    let g : ℕ → List ℕ → List ℕ = λ j f. middle_bytes (next2 I p) (j ∷ f) in
    when k 120 _ _ g (λ f. refl) tt
mid_keeps (next3 I p) k =
    let g : ℕ → List ℕ → List ℕ = λ j f. middle_bytes (next3 I p) (j ∷ f) in
    when k 116 _ _ g (λ f. refl) tt
mid_keeps (name2 I p) k =
    let g : ℕ → List ℕ → List ℕ = λ j f. middle_bytes (name2 I p) (j ∷ f) in
    when k 109 _ _ g (λ f. refl) tt
mid_keeps (name3 I p) k =
    let g : ℕ → List ℕ → List ℕ = λ j f. middle_bytes (name3 I p) (j ∷ f) in
    when k 101 _ _ g (λ f. refl) tt
mid_keeps (site1 p) k =
    let g : ℕ → List ℕ → List ℕ = λ j f. middle_bytes (site1 p) (j ∷ f) in
    when k 105 _ _ g (λ f. refl) tt
mid_keeps (site2 p) k =
    let g : ℕ → List ℕ → List ℕ = λ j f. middle_bytes (site2 p) (j ∷ f) in
    when k 116 _ _ g (λ f. refl) tt
mid_keeps (site3 p) k =
    let g : ℕ → List ℕ → List ℕ = λ j f. middle_bytes (site3 p) (j ∷ f) in
    when k 101 _ _ g (λ f. refl) tt
mid_keeps (forb1 rc p) k =
    let g : ℕ → List ℕ → List ℕ = λ j f. middle_bytes (forb1 rc p) (j ∷ f) in
    when k 111 _ _ g (λ f. refl) tt
mid_keeps (forb2 rc p) k =
    let g : ℕ → List ℕ → List ℕ = λ j f. middle_bytes (forb2 rc p) (j ∷ f) in
    when k 114 _ _ g (λ f. refl) tt
mid_keeps (forb3 rc p) k =
    let g : ℕ → List ℕ → List ℕ = λ j f. middle_bytes (forb3 rc p) (j ∷ f) in
    when k 98 _ _ g (λ f. refl) tt
mid_keeps (forb4 rc p) k =
    let g : ℕ → List ℕ → List ℕ = λ j f. middle_bytes (forb4 rc p) (j ∷ f) in
    when k 105 _ _ g (λ f. refl) tt
mid_keeps (forb5 rc p) k =
    let g : ℕ → List ℕ → List ℕ = λ j f. middle_bytes (forb5 rc p) (j ∷ f) in
    when k 100 _ _ g (λ f. refl) tt
mid_keeps (forb6 rc p) k =
    let g : ℕ → List ℕ → List ℕ = λ j f. middle_bytes (forb6 rc p) (j ∷ f) in
    when k 100 _ _ g (λ f. refl) tt
mid_keeps (forb7 rc p) k =
    let g : ℕ → List ℕ → List ℕ = λ j f. middle_bytes (forb7 rc p) (j ∷ f) in
    when k 101 _ _ g (λ f. refl) tt
mid_keeps (forb8 rc p) k =
    let g : ℕ → List ℕ → List ℕ = λ j f. middle_bytes (forb8 rc p) (j ∷ f) in
    when k 110 _ _ g (λ f. refl) tt
mid_keeps (el1 B q) k = when k 108 _ _ (λ j f. before_bytes B (spaces_bytes q (101 ∷ j ∷ f))) (λ f. refl) tt
mid_keeps (el2 B q) k = when k 115 _ _ (λ j f. before_bytes B (spaces_bytes q (101 ∷ 108 ∷ j ∷ f))) (λ f. refl) tt
mid_keeps (el3 B q) k = when k 101 _ _ (λ j f. before_bytes B (spaces_bytes q (101 ∷ 108 ∷ 115 ∷ j ∷ f))) (λ f. refl) tt

step_keeps : (m : Machine) (k : ℕ) → KeepsBytes (step m k) (λ f. machine_bytes m (k ∷ f))
unfolding step spaces_bytes
step_keeps (at s p) k =
    when_blank k (λ b. at s (more p b)) _ (λ j f. state_bytes s (spaces_bytes p (j ∷ f))) (λ b f. refl) (on_keeps s p k)
step_keeps (mid s) k = mid_keeps s k
step_keeps dead k = tt

run_dead : (w : List ℕ) → run dead w ≡ dead
unfolding run step
run_dead [] = refl
run_dead (k ∷ w) = run_dead w

onward : (m n : Machine) (k : ℕ) (w : List ℕ) → KeepsBytes n (λ f. machine_bytes m (k ∷ f)) → KeepsBytes (run n w) (λ f. machine_bytes n (w ++ f)) → KeepsBytes (run n w) (λ f. machine_bytes m (k ∷ (w ++ f)))
onward m (at s p) k w a b = keeps_as (run (at s p) w) _ _ (λ f. a (w ++ f)) b
onward m (mid s) k w a b = keeps_as (run (mid s) w) _ _ (λ f. a (w ++ f)) b
onward m dead k w a b = subst (λ (x : Machine). KeepsBytes x (λ f. machine_bytes m (k ∷ (w ++ f)))) (sym (run_dead w)) tt

self_keeps : (m : Machine) → KeepsBytes m (machine_bytes m)
self_keeps (at s p) = λ f. refl
self_keeps (mid s) = λ f. refl
self_keeps dead = tt

-- the bytes of a machine that is not dead are those before it and those that it has read

pub run_keeps : (w : List ℕ) (m : Machine) → KeepsBytes (run m w) (λ f. machine_bytes m (w ++ f))
unfolding run
run_keeps [] m = self_keeps m
run_keeps (k ∷ w) m = onward m (step m k) k w (step_keeps m k) (run_keeps w (step m k))

-- a reading's bytes are those of the machine that finished with it

abbrev pub Ended : Reading → List ℕ → Type 0
Ended (read t) w = text_bytes t ≡ w
Ended unfinished w = Unit {0}

finish_bytes : (m : Machine) (w : List ℕ) → KeepsBytes m (λ f. w ++ f) → Ended (finish m) (w ++ [])
unfolding finish text_bytes spaces_bytes digits_bytes kfactor_bytes vfactor_bytes sum_bytes nots_bytes atom_bytes result_bytes setting_bytes chars_bytes before_bytes
finish_bytes (at (cond ctx l) p) w k = tt
finish_bytes (at (factor sc pre tp) p) w k = tt
finish_bytes (at (after (left ctx l) pre t) p) w k = tt
finish_bytes (at (after (right ctx l s q op) pre t) p) w k = tt
finish_bytes (at (after (value (of_case B o q)) pre t) p) w k = tt
finish_bytes (at (after (value (of_else B q r)) pre t) p) w k =
    ap (λ (x : List ℕ). before_bytes B (spaces_bytes q (101 ∷ 108 ∷ 115 ∷ 101 ∷ spaces_bytes r (58 ∷ x)))) (sum_of_bytes pre t (spaces_bytes p [])) ∙ k []
finish_bytes (at (after (paren sc pre' cp q) pre t) p) w k = tt
finish_bytes (at (cfactor cc pre tp) p) w k = tt
finish_bytes (at (cafter cc pre t) p) w k = tt
finish_bytes (at (less ctx l s q) p) w k = tt
finish_bytes (at (greater ctx l s q) p) w k = tt
finish_bytes (at (held ctx l x) p) w k = tt
finish_bytes (at (els B q) p) w k = tt
finish_bytes (at outset p) w k = tt
finish_bytes (at (hletter h) p) w k = tt
finish_bytes (at (hequals h q) p) w k = tt
finish_bytes (at (hnumber h q r) p) w k = tt
finish_bytes (at (hdone (q0 x) a b c ds) p) w k = tt
finish_bytes (at (hdone (q1 x s) a b c ds) p) w k = tt
finish_bytes (at (hdone (q2 x s t) a b c ds) p) w k = tt
finish_bytes (at (hdone (q3 x s t u) a b c ds) p) w k = k []
finish_bytes (at (inum K I q) p) w k = tt
finish_bytes (at (idone K I q r ds) p) w k = tt
finish_bytes (at (iequals o) p) w k = tt
finish_bytes (at (res rc) p) w k = tt
finish_bytes (at (forbade (of_case B o q) s) p) w k = tt
finish_bytes (at (forbade (of_else B q r) s) p) w k = k []
finish_bytes (at (quoted I p q ds r cs) t) w k = k []
finish_bytes (mid s) w k = tt
finish_bytes dead w k = tt

pub read_bytes : (w : List ℕ) → Ended (finish (run begin w)) w
unfolding before_bytes nots_bytes spaces_bytes
read_bytes w = subst (Ended (finish (run begin w))) (append-nil w) (finish_bytes (run begin w) w (run_keeps w begin))
