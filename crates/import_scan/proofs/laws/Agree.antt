-- The steps agree: what is shown of the reader's next state is the next of what is shown.
use Rattle.std.specs.Prelude.{◌≡◌, refl, Bool, true, false, not, ℕ, zero, suc, ◌+◌, ◌-◌, ◌≤◌, ◌<◌, eqb, ltb}
use Rattle.std.proofs.Common.{sym, ap, ◌∙◌, add-one, arith, lt-ltb, le-ltb, ne_eqb, eqb-true}
use Rattle.import_grammar.specs.Grammar.{if, Spaces, none, more, Digit, Digits, one, i1, i2, i3, i4, i5, i6, i7, i8, Sign, adds, takes}
use Rattle.import_grammar.specs.Grammar.{ConstFactor, number, kbracket, ConstTerm, kfactor, ktimes, ConstSum, VaryFactor, level, VaryTerm, vfactor}
use Rattle.import_grammar.specs.Grammar.{vscaled, vby, constant, varying, unsaid, bang, Atom, Result, forbids, Items, Chars}
use Rattle.import_grammar.specs.Grammar.{is_plain, lt, gt}
use Rattle.import_grammar.specs.Grammar.{Sum as GSum}
use Rattle.import_grammar.specs.Reader.{ConstPre, kopens, knegs, kmore, SumPre, kpre, vmore, ConstTermPre, first, times_k, TermPre, free, times_v, Term, kt, vt}
use Rattle.import_grammar.specs.Reader.{no_or, some_or, no_and, some_and, Level, lv, CondCtx, base, inside, ResultCtx, of_case, of_else, Head, q0, q1, q2, q3}
use Rattle.import_grammar.specs.Reader.{Kind, a_reward, a_chance, a_next, a_name, SumCtx, left, right, value, paren, ConstCtx, behind, within}
use Rattle.import_grammar.specs.Reader.{ReaderState as Standing, cond, factor, after, cfactor, cafter, less, greater, held, els, outset, hletter, hequals, hnumber, hdone, inum, idone, iequals, res, forbade, quoted}
use Rattle.import_grammar.specs.Reader.{Middle, letter_c, letter_l, reward1, reward2, reward3, reward4, reward5, chance1, chance2, chance3, chance4, chance5}
use Rattle.import_grammar.specs.Reader.{end1, end2, n1, next2, next3, name2, name3, site1, site2, site3, forb1, forb2, forb3, forb4, forb5, forb6, forb7}
use Rattle.import_grammar.specs.Reader.{forb8, letter_n, chance_n, next_l, inside_name, el1, el2, el3, Machine, at, mid, dead}
use Rattle.import_grammar.specs.Reader.{bare, opens, sum_of, ksum_of, more_of, ktimes_of, vtimes_of, times_const, times_of, bracketed, anded}
use Rattle.import_grammar.specs.Reader.{ored, banged, is_digit, digit_of, is_blank, blank_of, extended, cextended, close_left, close_cond, colon}
use Rattle.import_grammar.specs.Reader.{else_here, begin_cond, begin_sum, open_behind, open_const, joined, item_here, resulted, letter_here, settled}
use Rattle.import_grammar.specs.Reader.{hextended, iextended, by_kind, quote_here, with_plain, char_here, ending, close_const, minus_here, cminus_here, core_here}
use Rattle.import_grammar.specs.Reader.{factor_here, equals_here, equals_above, step_on, step_mid, step}
use Rattle.import_grammar.specs.Reader.{Reading, read, unfinished, finish}
use Rattle.import_grammar.specs.laws.Viable.{alive}
use Rattle.import_grammar.proofs.laws.Case.{by_eq}
use Rattle.import_state.specs.declared.Side.{Side}
use Rattle.import_state.specs.declared.Side.TheVariants.{Left, Right, Case}
use Rattle.import_state.specs.declared.Sum.{Sum}
use Rattle.import_state.specs.declared.Place.TheVariants.{Set, Given, Factor, After, Held}
use Rattle.import_state.specs.declared.Place.TheVariants.{Atom as AtomAt, Result as ResultAt}
use Rattle.import_state.specs.declared.Token.TheVariants as tokens
use Rattle.import_state.specs.declared.State.{State}
use Rattle.import_state.specs.declared.State.TheVariants.{Dead, At, In}
use Rattle.import_state.specs.Bytes.{digit, blank, four, eight, plain, letter, forbidden_letter}
use Rattle.import_state.specs.Sums.{begun, roomed, levelled, bound, next_term, shut, open_sum, on_factor, end_const}
use Rattle.import_state.specs.Sums.{closed as closed-sum}
use Rattle.import_cases.specs.Cases.{item, end_left, end_side, on_after, open_cond, on_atom, on_compared, on_result}
use Rattle.import_cases.specs.Cases.{resulted as resulted-on, joined as joined-on, ending as ending-on}
use Rattle.import_items.specs.Items.{setting_letter, on_site, on_set, opened, on_given, on_quoted, on_name, worded, on_word, on_forbidden, on_next_or_name}
use Rattle.import_items.specs.Items.{settled as Settled-on}
use Rattle.import_step.specs.Steps.{spaced, only, on_place, on_token, next, is_over, last_side, last_setting, after_ends, place_ends, is_finished}
use Rattle.import_scan.specs.Shown.{cond_room, room_of, const_room, chars_room, hards, may_else, result_side, side_of, hard_of, top_of, level_of}
use Rattle.import_scan.specs.Shown.{level_before, sum_at, factor_sum, after_sum, const_side, const_hard, const_top, const_level, const_sum}
use Rattle.import_scan.specs.Shown.{const_starts, starts, is_number, const_ends, ends_number, none_yet, both_true, setting_of, item_of}
use Rattle.import_scan.specs.Shown.{place_of, token_of, shown}

-- ---- facts of the numbers

cond_most : {n : ℕ} (ctx : CondCtx n) → n ≤ 32
cond_most (base B) = omega arith
cond_most (inside ctx l q) = let h = cond_most ctx in omega arith

sum_most : {n : ℕ} (sc : SumCtx n) → n ≤ 32
sum_most (left ctx l) = cond_most ctx
sum_most (right ctx l s q op) = cond_most ctx
sum_most (value rc) = omega arith
sum_most (paren sc pre cp q) = let h = sum_most sc in omega arith

const_most : {n : ℕ} (cc : ConstCtx n) → n < 32
const_most (behind sc pre v r q) = let h = sum_most sc in omega arith
const_most (within cc pre tp q) = let h = const_most cc in omega arith

hard_least : {n : ℕ} (ctx : CondCtx n) (l : Level n) → n ≤ hards ctx l
hard_least (base B) l = omega arith
hard_least (inside ctx l' q) (lv no_or no_and unsaid) = let h = hard_least ctx l' in omega arith
hard_least (inside ctx l' q) (lv no_or no_and (bang x r)) = omega arith
hard_least (inside ctx l' q) (lv no_or (some_and a r) x) = omega arith
hard_least (inside ctx l' q) (lv (some_or o r) a x) = omega arith

top_least : {n : ℕ} (sc : SumCtx n) → n ≤ top_of sc
top_least (left ctx l) = omega arith
top_least (right ctx l s q op) = omega arith
top_least (value rc) = omega arith
top_least (paren sc pre cp q) = let h = top_least sc in omega arith

level_least : {n : ℕ} (sc : SumCtx n) → n < level_of sc
level_least (left ctx l) = let h = cond_most ctx in omega arith
level_least (right ctx l s q op) = let h = cond_most ctx in omega arith
level_least (value rc) = omega arith
level_least (paren sc (kpre c) cp q) = let h = level_least sc in omega arith
level_least (paren sc (vmore s p g) cp q) = omega arith

const_least : {n : ℕ} (cc : ConstCtx n) → n < const_level cc
const_least (behind sc pre v r q) = omega arith
const_least (within cc pre tp q) = let h = const_least cc in omega arith

level_paren : {n : ℕ} (sc : SumCtx (suc n)) (pre : SumPre (suc n)) (tp : ConstTermPre (suc n)) (q : Spaces) → level_of (paren sc pre tp q) ≡ level_before sc pre
level_paren sc (kpre c) tp q = refl
level_paren sc (vmore s p g) tp q = refl

less_one : (m : ℕ) → suc m - 1 ≡ m
less_one m = omega arith

not_below : (n : ℕ) → ltb n n ≡ false
not_below n = le-ltb n n (omega arith)

some_room : (m : ℕ) → ltb 0 (suc m) ≡ true
some_room m = lt-ltb 0 (suc m) (omega arith)

-- ---- tests

by_if : (b : Bool) (x y : Machine) (x' y' : State) → shown x ≡ x' → shown y ≡ y' → shown (if b x y) ≡ if b x' y'
by_if true x y x' y' p q = p
by_if false x y x' y' p q = q

if_yes : (b : Bool) (x y : State) → b ≡ true → if b x y ≡ x
if_yes b x y e = ap (λ (t : Bool). if t x y) e

if_not : (b : Bool) (x y : State) → b ≡ false → if b x y ≡ y
if_not b x y e = ap (λ (t : Bool). if t x y) e

dead_either : (b : Bool) → if b Dead Dead ≡ Dead
dead_either true = refl
dead_either false = refl

-- a byte that the reader does not know at all
past : (k c : ℕ) (f : ℕ → Machine) (y : State) → shown (f c) ≡ Dead → shown (f k) ≡ y → shown (f k) ≡ if (eqb k c) Dead y
past k c f y d e = by_eq (eqb k c) (λ b. shown (f k) ≡ if b Dead y) (λ t. ap (λ (j : ℕ). shown (f j)) (eqb-true k c t) ∙ d) (λ n. e)

either_of : (a b : Bool) (x y : State) → if a x (if b x y) ≡ if (if a true b) x y
either_of true b x y = refl
either_of false b x y = refl

by_four : (k : ℕ) (a b c d : Machine) (y : State) → shown a ≡ y → shown b ≡ y → shown c ≡ y → shown d ≡ y → shown (if (eqb k 49) a (if (eqb k 50) b (if (eqb k 51) c (if (eqb k 52) d dead)))) ≡ if (four k) y Dead
unfolding four
by_four k a b c d y p q r s =
    by_if (eqb k 49) _ _ _ _ p (by_if (eqb k 50) _ _ _ _ q (by_if (eqb k 51) _ _ _ _ r (by_if (eqb k 52) _ _ _ _ s refl) ∙ either_of (eqb k 51) (eqb k 52) _ _)
    ∙ either_of (eqb k 50) (if (eqb k 51) true (eqb k 52)) _ _) ∙ either_of (eqb k 49) (if (eqb k 50) true (if (eqb k 51) true (eqb k 52))) _ _

by_eight : (k : ℕ) (a b c d e f g h : Machine) (y : State) → shown a ≡ y → shown b ≡ y → shown c ≡ y → shown d ≡ y → shown e ≡ y → shown f ≡ y → shown g ≡ y → shown h ≡ y
    → shown (if (eqb k 49) a (if (eqb k 50) b (if (eqb k 51) c (if (eqb k 52) d (if (eqb k 53) e (if (eqb k 54) f (if (eqb k 55) g (if (eqb k 56) h dead)))))))) ≡ if
    (eight k) y Dead
unfolding eight
by_eight k a b c d e f g h y p q r s t u v w =
    by_if (eqb k 49) _ _ _ _ p (by_if (eqb k 50) _ _ _ _ q (by_if (eqb k 51) _ _ _ _ r (by_if (eqb k 52) _ _ _ _ s
    (by_if (eqb k 53) _ _ _ _ t (by_if (eqb k 54) _ _ _ _ u (by_if (eqb k 55) _ _ _ _ v (by_if (eqb k 56) _ _ _ _ w refl)
    ∙ either_of (eqb k 55) (eqb k 56) _ _)
    ∙ either_of (eqb k 54) (if (eqb k 55) true (eqb k 56)) _ _)
    ∙ either_of (eqb k 53) (if (eqb k 54) true (if (eqb k 55) true (eqb k 56))) _ _)
    ∙ either_of (eqb k 52) (if (eqb k 53) true (if (eqb k 54) true (if (eqb k 55) true (eqb k 56)))) _ _)
    ∙ either_of (eqb k 51) (if (eqb k 52) true (if (eqb k 53) true (if (eqb k 54) true (if (eqb k 55) true (eqb k 56))))) _ _)
    ∙ either_of (eqb k 50) (if (eqb k 51) true (if (eqb k 52) true (if (eqb k 53) true (if (eqb k 54) true (if (eqb k 55) true (eqb k 56)))))) _ _)
    ∙ either_of (eqb k 49) (if (eqb k 50) true (if (eqb k 51) true (if (eqb k 52) true (if (eqb k 53) true (if (eqb k 54) true (if (eqb k 55) true (eqb k 56))))))) _ _

-- ---- items

sim_item : (I : Items) (p : Spaces) (k : ℕ) → shown (item_here I p k) ≡ item k
unfolding item_here item
sim_item I p k =
    by_if (eqb k 114) _ _ _ _ refl (by_if (eqb k 99) _ _ _ _ refl (by_if (eqb k 110) _ _ _ _ refl (by_if (eqb k 101) _ _ _ _ refl refl)))

sim_resulted : (rc : ResultCtx) (r : Result) (p : Spaces) (k : ℕ) → shown (resulted rc r p k) ≡ resulted-on (result_side rc) k
unfolding resulted resulted-on
sim_resulted (of_case B o q) r p k = by_if (eqb k 59) _ _ _ _ refl refl
sim_resulted (of_else B q s) r p k = sim_item _ p k

sim_letter : (h : Head) (p : Spaces) (k : ℕ) → shown (letter_here h p k) ≡ on_site (setting_of h) k
unfolding letter_here on_site setting_letter
sim_letter (q0 a) p k = by_if (eqb k 109) _ _ _ _ refl refl
sim_letter (q1 a b) p k = by_if (eqb k 110) _ _ _ _ refl refl
sim_letter (q2 a b c) p k = by_if (eqb k 65) _ _ _ _ refl refl
sim_letter (q3 a b c d) p k = by_if (eqb k 87) _ _ _ _ refl refl

sim_hextended : (h : Head) (a b c : Spaces) (ds : Digits) (p : Spaces) (d : Digit) → shown (hextended h a b c ds p d) ≡ if (none_yet p) (At (Set (setting_of h) true)) Dead
unfolding hextended
sim_hextended h a b c ds none d = refl
sim_hextended h a b c ds (more p e) d = refl

sim_iextended : (K : Kind) (I : Items) (a b : Spaces) (ds : Digits) (p : Spaces) (d : Digit) → shown (iextended K I a b ds p d) ≡ if (none_yet p) (At (Given (item_of K) true)) Dead
unfolding iextended
sim_iextended K I a b ds none d = refl
sim_iextended K I a b ds (more p e) d = refl

sim_kind : (K : Kind) (I : Items) (p q : Spaces) (ds : Digits) (r : Spaces) (k : ℕ) → shown (by_kind K I p q ds r k) ≡ opened (item_of K) k
unfolding by_kind opened
sim_kind a_reward I p q ds r k = by_if (eqb k 61) _ _ _ _ refl refl
sim_kind a_chance I p q ds r k = by_if (eqb k 78) _ _ _ _ refl refl
sim_kind a_next I p q ds r k = by_if (eqb k 76) _ _ _ _ refl refl
sim_kind a_name I p q ds r k = by_if (eqb k 34) _ _ _ _ refl refl

name_room : (m : ℕ) (b : Bool) → In (tokens.Name m) ≡ if (ltb 0 (suc m)) (if true (In (tokens.Name (suc m - 1))) Dead) Dead
name_room m b = ap (λ (r : ℕ). In (tokens.Name r)) (sym (less_one m)) ∙ sym (if_yes (ltb 0 (suc m)) _ _ (some_room m))

sim_quote : {n : ℕ} (I : Items) (p q : Spaces) (ds : Digits) (r : Spaces) (cs : Chars n) (t : Spaces) → shown (quote_here I p q ds r cs t) ≡ if (ltb 0 (chars_room cs)) (if (none_yet t) (In (tokens.Name (chars_room cs - 1))) Dead) Dead
unfolding quote_here
sim_quote {n = zero} I p q ds r cs t = refl
sim_quote {n = suc m} I p q ds r cs none = name_room m true
sim_quote {n = suc m} I p q ds r cs (more t e) = sym (dead_either (ltb 0 (suc m)))

sim_plain : {n : ℕ} (I : Items) (p q : Spaces) (ds : Digits) (r : Spaces) (cs : Chars (suc n)) (k : ℕ) (b : Bool) (e : is_plain k ≡ b) → shown (with_plain I p q ds r cs k b e) ≡ if b (In (tokens.Name n)) Dead
unfolding with_plain
sim_plain I p q ds r cs k true e = refl
sim_plain I p q ds r cs k false e = refl

sim_char : {n : ℕ} (I : Items) (p q : Spaces) (ds : Digits) (r : Spaces) (cs : Chars n) (k : ℕ) → shown (char_here I p q ds r cs k) ≡ if (ltb 0 (chars_room cs)) (if (plain k) (In (tokens.Name (chars_room cs - 1))) Dead) Dead
unfolding char_here plain
sim_char {n = zero} I p q ds r cs k = refl
sim_char {n = suc m} I p q ds r cs k =
    sim_plain I p q ds r cs k (is_plain k) refl ∙ ap (λ (x : ℕ). if (is_plain k) (In (tokens.Name x)) Dead) (sym (less_one m))
    ∙ sym (if_yes (ltb 0 (suc m)) _ _ (some_room m))

-- ---- conditions

hards_anded : {n : ℕ} (ctx : CondCtx n) (l : Level n) (x : Atom n) (p : Spaces) → shown (at (cond ctx (anded l x p)) none) ≡ At (AtomAt (cond_room ctx) (cond_room ctx) false)
hards_anded (base B) (lv no_or a y) x p = refl
hards_anded (base B) (lv (some_or o r) a y) x p = refl
hards_anded (inside ctx l' q) (lv no_or a y) x p = refl
hards_anded (inside ctx l' q) (lv (some_or o r) a y) x p = refl

hards_ored : {n : ℕ} (ctx : CondCtx n) (l : Level n) (x : Atom n) (p : Spaces) → shown (at (cond ctx (ored l x p)) none) ≡ At (AtomAt (cond_room ctx) (cond_room ctx) false)
hards_ored (base B) (lv o a y) x p = refl
hards_ored (inside ctx l' q) (lv o a y) x p = refl

hards_banged : {n : ℕ} (ctx : CondCtx n) (l : Level n) (p : Spaces) → shown (at (cond ctx (banged l p)) none) ≡ At (AtomAt (cond_room ctx) (cond_room ctx) false)
hards_banged (base B) (lv no_or no_and y) p = refl
hards_banged (base B) (lv no_or (some_and a r) y) p = refl
hards_banged (base B) (lv (some_or o r) a y) p = refl
hards_banged (inside ctx l' q) (lv no_or no_and y) p = refl
hards_banged (inside ctx l' q) (lv no_or (some_and a r) y) p = refl
hards_banged (inside ctx l' q) (lv (some_or o r) a y) p = refl

sim_open : {n : ℕ} (ctx : CondCtx n) (l : Level n) (p : Spaces) → shown (begin_cond ctx l p) ≡ open_cond (cond_room ctx) (hards ctx l)
unfolding begin_cond open_cond
sim_open {n = zero} ctx l p = refl
sim_open {n = suc m} ctx l p =
    ap (λ (r : ℕ). At (AtomAt r (hards ctx l) false)) (sym (less_one m)) ∙ sym (if_yes (ltb 0 (suc m)) _ _ (some_room m))

sim_else : {n : ℕ} (ctx : CondCtx n) (l : Level n) (p : Spaces) → shown (else_here ctx l p) ≡ if (may_else ctx l) (In (tokens.Word 22)) Dead
unfolding else_here
sim_else (base B) (lv no_or no_and unsaid) p = refl
sim_else (base B) (lv no_or no_and (bang x r)) p = refl
sim_else (base B) (lv no_or (some_and a r) x) p = refl
sim_else (base B) (lv (some_or o r) a x) p = refl
sim_else (inside ctx l' q) l p = refl

sim_close_cond : {n : ℕ} (ctx : CondCtx n) (l : Level n) (x : Atom n) (p : Spaces) → shown (close_cond ctx l x p) ≡ if (ltb (cond_room ctx) 32) (At (Held (cond_room ctx + 1))) Dead
unfolding close_cond
sim_close_cond (base B) l x p = refl
sim_close_cond {n = n} (inside ctx l' q) l x p =
    let h = cond_most ctx in
    ap (λ (r : ℕ). At (Held r)) (sym (add-one n)) ∙ sym (if_yes (ltb n 32) _ _ (lt-ltb n 32 (omega arith)))

sim_colon : {n : ℕ} (ctx : CondCtx n) (l : Level n) (x : Atom n) (p : Spaces) → shown (colon ctx l x p) ≡ if (eqb (cond_room ctx) 32) (At (ResultAt Case)) Dead
unfolding colon
sim_colon (base B) l x p = refl
sim_colon {n = n} (inside ctx l' q) l x p = let h = cond_most ctx in sym (if_not (eqb n 32) _ _ (ne_eqb n 32 (λ e. omega arith)))

sim_joined : {n : ℕ} (ctx : CondCtx n) (l : Level n) (x : Atom n) (p : Spaces) (k : ℕ) → shown (joined ctx l x p k) ≡ joined-on (cond_room ctx) k
unfolding joined joined-on
sim_joined ctx l x p k =
    by_if (eqb k 38) _ _ _ _ (hards_anded ctx l x p)
    (by_if (eqb k 124) _ _ _ _ (hards_ored ctx l x p)
    (by_if (eqb k 41) _ _ _ _ (sim_close_cond ctx l x p)
    (by_if (eqb k 58) _ _ _ _ (sim_colon ctx l x p) refl)))

-- ---- sums

-- a bracket opened in a sum
open_some : (s : Sum) (m : ℕ) → open_sum (roomed s (suc m)) ≡ At (Factor (roomed s m) true)
unfolding open_sum roomed
open_some s m =
    if_yes (ltb 0 (suc m)) _ _ (some_room m) ∙ ap (λ (r : ℕ). At (Factor (roomed s r) true)) (less_one m)

sim_open_sum : {n : ℕ} (sc : SumCtx n) (pre : SumPre n) (tp : ConstTermPre n) (p : Spaces) → shown (begin_sum sc pre tp p) ≡ open_sum (sum_at sc (level_before sc pre) false)
unfolding begin_sum open_sum roomed
sim_open_sum {n = zero} sc pre tp p = refl
sim_open_sum {n = suc m} sc pre tp p =
    ap (λ (l : ℕ). At (Factor (record { side = side_of sc; room = m; hard = hard_of sc; top = top_of sc; level = l; vary = false }) true)) (level_paren sc pre tp p)
    ∙ sym (open_some (sum_at sc (level_before sc pre) false) m)

sim_open_behind : {n : ℕ} (sc : SumCtx n) (pre : SumPre n) (v : VaryTerm n) (q p : Spaces) → shown (open_behind sc pre v q p) ≡ open_sum (sum_at sc (room_of sc) true)
unfolding open_behind open_sum roomed
sim_open_behind {n = zero} sc pre v q p = refl
sim_open_behind {n = suc m} sc pre v q p = sym (open_some (sum_at sc (suc m) true) m)

sim_open_const : {n : ℕ} (cc : ConstCtx n) (pre : ConstPre n) (tp : ConstTermPre n) (p : Spaces) → shown (open_const cc pre tp p) ≡ open_sum (const_sum cc)
unfolding open_const open_sum roomed
sim_open_const {n = zero} cc pre tp p = refl
sim_open_const {n = suc m} cc pre tp p = sym (open_some (const_sum cc) m)

sim_minus : {n : ℕ} (sc : SumCtx n) (pre : SumPre n) (tp : ConstTermPre n) (p : Spaces) → shown (minus_here sc pre tp p) ≡ if (starts (free tp) pre) (At (Factor (sum_at sc (level_before sc pre) false) false)) Dead
unfolding minus_here
sim_minus sc (kpre kopens) first p = refl
sim_minus sc (kpre kopens) (times_k t q) p = refl
sim_minus sc (kpre (knegs r)) first p = refl
sim_minus sc (kpre (knegs r)) (times_k t q) p = refl
sim_minus sc (kpre (kmore s r g)) first p = refl
sim_minus sc (kpre (kmore s r g)) (times_k t q) p = refl
sim_minus sc (vmore s r g) first p = refl
sim_minus sc (vmore s r g) (times_k t q) p = refl

sim_cminus : {n : ℕ} (cc : ConstCtx n) (pre : ConstPre n) (tp : ConstTermPre n) (p : Spaces) → shown (cminus_here cc pre tp p) ≡ if (const_starts tp pre) (At (Factor (const_sum cc) false)) Dead
unfolding cminus_here
sim_cminus cc kopens first p = refl
sim_cminus cc kopens (times_k t q) p = refl
sim_cminus cc (knegs r) first p = refl
sim_cminus cc (knegs r) (times_k t q) p = refl
sim_cminus cc (kmore s r g) first p = refl
sim_cminus cc (kmore s r g) (times_k t q) p = refl

sim_number : {n : ℕ} (sc : SumCtx n) (pre : SumPre n) (tp : TermPre n) (p : Spaces) (ds : Digits) → shown (at (after sc pre (times_const tp (number p ds))) none) ≡ At (After (factor_sum sc pre tp) true)
sim_number sc pre (free first) p ds = refl
sim_number sc pre (free (times_k t q)) p ds = refl
sim_number sc pre (times_v v q) p ds = refl

sim_factor : {n : ℕ} (sc : SumCtx n) (pre : SumPre n) (tp : TermPre n) (p : Spaces) (k : ℕ) → shown (factor_here sc pre tp p k) ≡ on_factor (factor_sum sc pre tp) (starts tp pre) k
unfolding factor_here core_here on_factor digit
sim_factor sc pre (free tp) p k =
    by_if (is_digit k) _ _ _ _ (sim_number sc pre (free tp) p (one (digit_of k)))
    (by_if (eqb k 76) _ _ _ _ refl
    (by_if (eqb k 40) _ _ _ _ (sim_open_sum sc pre tp p)
    (by_if (eqb k 45) _ _ _ _ (sim_minus sc pre tp p) refl)))
sim_factor sc pre (times_v v q) p k =
    by_if (is_digit k) _ _ _ _ (sim_number sc pre (times_v v q) p (one (digit_of k)))
    (past k 76 (λ (j : ℕ). if (eqb j 40) (open_behind sc pre v q p) dead) _ refl
    (by_if (eqb k 40) _ _ _ _ (sim_open_behind sc pre v q p) (sym (dead_either (eqb k 45)))))

const_number : {n : ℕ} (cc : ConstCtx n) (pre : ConstPre n) (tp : ConstTermPre n) (p : Spaces) (ds : Digits) → shown (at (cafter cc pre (ktimes_of tp (number p ds))) none) ≡ At (After (const_sum cc) true)
const_number cc pre first p ds = refl
const_number cc pre (times_k t q) p ds = refl

sim_cfactor : {n : ℕ} (cc : ConstCtx n) (pre : ConstPre n) (tp : ConstTermPre n) (p : Spaces) (k : ℕ) → shown (step_on (cfactor cc pre tp) p k) ≡ on_factor (const_sum cc) (const_starts tp pre) k
unfolding step_on on_factor digit
sim_cfactor cc pre tp p k =
    by_if (is_digit k) _ _ _ _ (const_number cc pre tp p (one (digit_of k)))
    (past k 76 (λ (j : ℕ). if (eqb j 40) (open_const cc pre tp p) (if (eqb j 45) (cminus_here cc pre tp p) dead)) _ refl
    (by_if (eqb k 40) _ _ _ _ (sim_open_const cc pre tp p) (by_if (eqb k 45) _ _ _ _ (sim_cminus cc pre tp p) refl)))

-- a bracket closed
abbrev level_sum : {n : ℕ} → SumCtx n → GSum n → ℕ
level_sum sc (constant s) = level_of sc
level_sum sc (varying s) = room_of sc

shut_const : (s : Sum) (r t : ℕ) → ltb s.room s.level ≡ true → closed-sum s r t ≡ shut s r t s.level false
unfolding closed-sum
shut_const s r t e = ap (λ (b : Bool). elim b as (λ _. Sum) [ true ↦ shut s r t s.level false | false ↦ shut s r t r true ]) e

shut_vary : (s : Sum) (r t : ℕ) → ltb s.room s.level ≡ false → closed-sum s r t ≡ shut s r t r true
unfolding closed-sum
shut_vary s r t e = ap (λ (b : Bool). elim b as (λ _. Sum) [ true ↦ shut s r t s.level false | false ↦ shut s r t r true ]) e

bracket_ends : {n : ℕ} (tp : ConstTermPre (suc n)) (q : Spaces) (s : GSum n) (p : Spaces) → both_true (ends_number (bracketed tp q s p)) true ≡ false
bracket_ends first q (constant s) p = refl
bracket_ends first q (varying s) p = refl
bracket_ends (times_k t r) q (constant s) p = refl
bracket_ends (times_k t r) q (varying s) p = refl

sim_close_paren : {n : ℕ} (sc : SumCtx (suc n)) (pre : SumPre (suc n)) (tp : ConstTermPre (suc n)) (q : Spaces) (s : GSum n) (v : Bool) (p : Spaces) → shown
    (at (after sc pre (bracketed tp q s p)) none) ≡ At (After (closed-sum (sum_at (paren sc pre tp q) (level_sum (paren sc pre tp q) s) v) (n + 1) (top_of sc)) false)
unfolding shut
sim_close_paren {n = n} sc pre tp q (constant s) v p =
    let h = level_least (paren sc pre tp q) in
    ap (λ (b : Bool). At (After (sum_at sc (level_before sc pre) false) b)) (bracket_ends tp q (constant s) p)
    ∙ ap (λ (l : ℕ). At (After (sum_at sc l false) false)) (sym (level_paren sc pre tp q))
    ∙ ap (λ (r : ℕ). At (After (record { side = side_of sc; room = r; hard = hard_of sc; top = top_of sc; level = level_of (paren sc pre tp q); vary = false }) false)) (sym (add-one n))
    ∙ ap (λ (x : Sum). At (After x false)) (sym (shut_const (sum_at (paren sc pre tp q) (level_of (paren sc pre tp q)) v) (n + 1) (top_of sc) (lt-ltb n _ h)))
sim_close_paren {n = n} sc pre tp q (varying s) v p =
    ap (λ (b : Bool). At (After (sum_at sc (suc n) true) b)) (bracket_ends tp q (varying s) p)
    ∙ ap (λ (r : ℕ). At (After (record { side = side_of sc; room = r; hard = hard_of sc; top = top_of sc; level = r; vary = true }) false)) (sym (add-one n))
    ∙ ap (λ (x : Sum). At (After x false)) (sym (shut_vary (sum_at (paren sc pre tp q) n v) (n + 1) (top_of sc) (not_below n)))

sim_close_bare : {n : ℕ} (ctx : CondCtx (suc n)) (l : Level (suc n)) (q : Spaces) (s : GSum n) (v : Bool) (p : Spaces) → shown
    (at (after (left ctx l) opens (bracketed first q s p)) none) ≡ At (After (closed-sum
    (sum_at (left (inside ctx l q) bare) (level_sum (left (inside ctx l q) bare) s) v) (n + 1) (n + 1)) false)
unfolding shut
sim_close_bare {n = n} ctx l q (constant s) v p =
    let h = cond_most ctx in
    ap (λ (r : ℕ). At (After (record { side = Left; room = r; hard = hards ctx l; top = r; level = 33; vary = false }) false)) (sym (add-one n))
    ∙ ap (λ (x : Sum). At (After x false)) (sym (shut_const (sum_at (left (inside ctx l q) bare) 33 v) (n + 1) (n + 1) (lt-ltb n 33 (omega arith))))
sim_close_bare {n = n} ctx l q (varying s) v p =
    ap (λ (r : ℕ). At (After (record { side = Left; room = r; hard = hards ctx l; top = r; level = r; vary = true }) false)) (sym (add-one n))
    ∙ ap (λ (x : Sum). At (After x false)) (sym (shut_vary (sum_at (left (inside ctx l q) bare) n v) (n + 1) (n + 1) (not_below n)))

abbrev closing : {n : ℕ} → CondCtx n → Level n → GSum n → Bool → State
closing {n = n} ctx l s v = if (ltb n (hards ctx l)) (At (After (closed-sum (sum_at (left ctx l) (level_sum (left ctx l) s) v) (n + 1) (n + 1)) false)) Dead

sim_close_left : {n : ℕ} (ctx : CondCtx n) (l : Level n) (s : GSum n) (v : Bool) (p : Spaces) → shown (close_left ctx l s p) ≡ closing ctx l s v
unfolding close_left
sim_close_left (base B) l s v p = refl
sim_close_left {n = n} (inside ctx l' q) (lv no_or no_and unsaid) s v p =
    let h = hard_least ctx l' in
    sim_close_bare ctx l' q s v p ∙ sym (if_yes (ltb n (hards ctx l')) _ _ (lt-ltb n (hards ctx l') (omega arith)))
sim_close_left {n = n} (inside ctx l' q) (lv no_or no_and (bang x r)) s v p = sym (if_not (ltb n n) _ _ (not_below n))
sim_close_left {n = n} (inside ctx l' q) (lv no_or (some_and a r) x) s v p = sym (if_not (ltb n n) _ _ (not_below n))
sim_close_left {n = n} (inside ctx l' q) (lv (some_or o r) a x) s v p = sym (if_not (ltb n n) _ _ (not_below n))

-- after a sum
sim_ending : {n : ℕ} (sc : SumCtx n) (s : GSum n) (v : Bool) (p : Spaces) (k : ℕ) → shown (ending sc s p k) ≡ ending-on (sum_at sc (level_sum sc s) v) k
unfolding ending ending-on end_side end_left
sim_ending {n = n} (left ctx l) s v p k =
    by_if (eqb k 60) _ _ _ _ refl (by_if (eqb k 62) _ _ _ _ refl (by_if (eqb k 41) _ _ _ _ (sim_close_left ctx l s v p) refl))
    ∙ sym (if_not (ltb n n) _ _ (not_below n))
sim_ending {n = n} (right ctx l s' q op) s v p k = sim_joined ctx l _ p k ∙ sym (if_not (ltb n n) _ _ (not_below n))
sim_ending (value (of_case B o q)) s v p k = sim_resulted (of_case B o q) _ p k
sim_ending (value (of_else B q r)) s v p k = sim_resulted (of_else B q r) _ p k
sim_ending {n = n} (paren sc pre tp q) s v p k =
    let h = top_least sc in
    by_if (eqb k 41) _ _ _ _ (sim_close_paren sc pre tp q s v p) refl
    ∙ sym (if_yes (ltb n (top_of sc)) _ _ (lt-ltb n (top_of sc) (omega arith)))

-- a bracket without a level closed
const_bracket : {n : ℕ} (cc : ConstCtx n) (pre : ConstPre n) (tp : ConstTermPre n) (x : ConstFactor n) → is_number x ≡ false → shown (at (cafter cc pre (ktimes_of tp x)) none) ≡ At (After (const_sum cc) false)
const_bracket cc pre first x e = ap (λ (b : Bool). At (After (const_sum cc) (both_true b true))) e
const_bracket cc pre (times_k t q) x e = ap (λ (b : Bool). At (After (const_sum cc) (both_true b true))) e

sim_close_const : {n : ℕ} (cc : ConstCtx n) (s : ConstSum n) (p : Spaces) → shown (close_const cc s p) ≡ if (ltb (const_room cc) (const_level cc)) (At (After (roomed (const_sum cc) (const_room cc + 1)) false)) Dead
unfolding close_const roomed
sim_close_const {n = n} (behind sc pre v r q) s p =
    ap (λ (m : ℕ). At (After (record { side = side_of sc; room = m; hard = hard_of sc; top = top_of sc; level = suc n; vary = true }) false)) (sym (add-one n))
    ∙ sym (if_yes (ltb n (suc n)) _ _ (lt-ltb n (suc n) (omega arith)))
sim_close_const {n = n} (within cc pre tp q) s p =
    let h = const_least (within cc pre tp q) in
    const_bracket cc pre tp (kbracket q s p) refl
    ∙ ap (λ (m : ℕ). At (After (record { side = const_side cc; room = m; hard = const_hard cc; top = const_top cc; level = const_level cc; vary = true }) false)) (sym (add-one n))
    ∙ sym (if_yes (ltb n (const_level cc)) _ _ (lt-ltb n (const_level cc) h))

-- ---- after a term

abbrev grown : {n : ℕ} → SumCtx n → SumPre n → Term n → Spaces → State
grown sc pre t p = if (both_true (ends_number t) (none_yet p)) (At (After (after_sum sc pre t) true)) Dead

sim_extended : {n : ℕ} (sc : SumCtx n) (pre : SumPre n) (t : Term n) (p : Spaces) (d : Digit) → shown (extended sc pre t p d) ≡ grown sc pre t p
unfolding extended
sim_extended sc pre (kt (kfactor (number q ds))) none d = refl
sim_extended sc pre (kt (kfactor (number q ds))) (more p b) d = refl
sim_extended sc pre (kt (kfactor (kbracket q s r))) none d = refl
sim_extended sc pre (kt (kfactor (kbracket q s r))) (more p b) d = refl
sim_extended sc pre (kt (ktimes t u (number q ds))) none d = refl
sim_extended sc pre (kt (ktimes t u (number q ds))) (more p b) d = refl
sim_extended sc pre (kt (ktimes t u (kbracket q s r))) none d = refl
sim_extended sc pre (kt (ktimes t u (kbracket q s r))) (more p b) d = refl
sim_extended sc pre (vt (vfactor x)) p d = refl
sim_extended sc pre (vt (vscaled t q x)) p d = refl
sim_extended sc pre (vt (vby t u (number q ds))) none d = refl
sim_extended sc pre (vt (vby t u (number q ds))) (more p b) d = refl
sim_extended sc pre (vt (vby t u (kbracket q s r))) none d = refl
sim_extended sc pre (vt (vby t u (kbracket q s r))) (more p b) d = refl

sim_cextended : {n : ℕ} (cc : ConstCtx n) (pre : ConstPre n) (t : ConstTerm n) (p : Spaces) (d : Digit) → shown (cextended cc pre t p d) ≡ if (both_true (const_ends t) (none_yet p)) (At (After (const_sum cc) true)) Dead
unfolding cextended
sim_cextended cc pre (kfactor (number q ds)) none d = refl
sim_cextended cc pre (kfactor (number q ds)) (more p b) d = refl
sim_cextended cc pre (kfactor (kbracket q s r)) none d = refl
sim_cextended cc pre (kfactor (kbracket q s r)) (more p b) d = refl
sim_cextended cc pre (ktimes t u (number q ds)) none d = refl
sim_cextended cc pre (ktimes t u (number q ds)) (more p b) d = refl
sim_cextended cc pre (ktimes t u (kbracket q s r)) none d = refl
sim_cextended cc pre (ktimes t u (kbracket q s r)) (more p b) d = refl

sim_times : {n : ℕ} (sc : SumCtx n) (pre : SumPre n) (t : Term n) (p : Spaces) → shown (at (factor sc pre (times_of t p)) none) ≡ At (Factor (after_sum sc pre t) false)
sim_times sc pre (kt t) p = refl
sim_times sc pre (vt t) p = refl

sim_plus : {n : ℕ} (sc : SumCtx n) (pre : SumPre n) (t : Term n) (p : Spaces) (g : Sign) → shown (at (factor sc (more_of (sum_of pre t) p g) (free first)) none) ≡ At (Factor (next_term (after_sum sc pre t)) false)
unfolding next_term bound
sim_plus sc (kpre c) (kt t) p g = refl
sim_plus sc (vmore s q h) (kt t) p g = refl
sim_plus {n = n} sc (kpre c) (vt t) p g = ap (λ (b : Bool). At (Factor (sum_at sc n b) false)) (sym (not_below n))
sim_plus {n = n} sc (vmore s q h) (vt t) p g = ap (λ (b : Bool). At (Factor (sum_at sc n b) false)) (sym (not_below n))

sim_rest : {n : ℕ} (sc : SumCtx n) (pre : SumPre n) (t : Term n) (p : Spaces) (k : ℕ) → shown (ending sc (sum_of pre t) p k) ≡ if (bound (after_sum sc pre t)) (end_const (after_sum sc pre t) k) (ending-on (after_sum sc pre t) k)
unfolding bound
sim_rest sc (kpre c) (kt t) p k = sim_ending sc (constant (ksum_of c t)) false p k
sim_rest sc (vmore s q h) (kt t) p k = sim_ending sc (sum_of (vmore s q h) (kt t)) false p k
sim_rest {n = n} sc (kpre c) (vt t) p k = sim_ending sc (sum_of (kpre c) (vt t)) true p k ∙ sym (if_not (ltb n n) _ _ (not_below n))
sim_rest {n = n} sc (vmore s q h) (vt t) p k = sim_ending sc (sum_of (vmore s q h) (vt t)) true p k ∙ sym (if_not (ltb n n) _ _ (not_below n))

sim_after : {n : ℕ} (sc : SumCtx n) (pre : SumPre n) (t : Term n) (p : Spaces) (k : ℕ) → shown (step_on (after sc pre t) p k) ≡ on_after (after_sum sc pre t) (both_true (ends_number t) (none_yet p)) k
unfolding step_on on_after digit
sim_after sc pre t p k =
    by_if (is_digit k) _ _ _ _ (sim_extended sc pre t p (digit_of k))
    (by_if (eqb k 42) _ _ _ _ (sim_times sc pre t p)
    (by_if (eqb k 43) _ _ _ _ (sim_plus sc pre t p adds)
    (by_if (eqb k 45) _ _ _ _ (sim_plus sc pre t p takes) (sim_rest sc pre t p k))))

const_bound : {n : ℕ} (cc : ConstCtx n) → bound (const_sum cc) ≡ true
unfolding bound
const_bound {n = n} cc = lt-ltb n (const_level cc) (const_least cc)

const_plus : {n : ℕ} (cc : ConstCtx n) → At (Factor (const_sum cc) false) ≡ At (Factor (next_term (const_sum cc)) false)
unfolding next_term
const_plus {n = n} cc =
    ap (λ (b : Bool). At (Factor (record { side = const_side cc; room = n; hard = const_hard cc; top = const_top cc; level = const_level cc; vary = b }) false)) (sym (const_bound cc))

sim_cafter : {n : ℕ} (cc : ConstCtx n) (pre : ConstPre n) (t : ConstTerm n) (p : Spaces) (k : ℕ) → shown (step_on (cafter cc pre t) p k) ≡ on_after (const_sum cc) (both_true (const_ends t) (none_yet p)) k
unfolding step_on on_after digit end_const
sim_cafter cc pre t p k =
    by_if (is_digit k) _ _ _ _ (sim_cextended cc pre t p (digit_of k))
    (by_if (eqb k 42) _ _ _ _ refl
    (by_if (eqb k 43) _ _ _ _ (const_plus cc)
    (by_if (eqb k 45) _ _ _ _ (const_plus cc)
    (by_if (eqb k 41) _ _ _ _ (sim_close_const cc (ksum_of pre t) p) refl ∙ sym (if_yes (bound (const_sum cc)) _ _ (const_bound cc))))))

sim_equals : {n : ℕ} (ctx : CondCtx n) (l : Level n) (s : GSum n) (q p : Spaces) → shown (equals_here ctx l s q p) ≡ if (none_yet p) (At (Factor (begun Right (cond_room ctx) 0) true)) Dead
unfolding equals_here begun
sim_equals ctx l s q none = refl
sim_equals ctx l s q (more p b) = refl

sim_above : {n : ℕ} (ctx : CondCtx n) (l : Level n) (s : GSum n) (q p : Spaces) → shown (equals_above ctx l s q p) ≡ if (none_yet p) (At (Factor (begun Right (cond_room ctx) 0) true)) Dead
unfolding equals_above begun
sim_above ctx l s q none = refl
sim_above ctx l s q (more p b) = refl

-- ---- any state

sim_settled : (h : Head) (a b c : Spaces) (ds : Digits) (p : Spaces) (k : ℕ) → shown (step_on (hdone h a b c ds) p k) ≡ on_set (setting_of h) (none_yet p) k
unfolding step_on settled on_set Settled-on digit
sim_settled (q0 x) a b c ds p k = by_if (is_digit k) _ _ _ _ (sim_hextended (q0 x) a b c ds p (digit_of k)) (sim_letter _ p k)
sim_settled (q1 x y) a b c ds p k = by_if (is_digit k) _ _ _ _ (sim_hextended (q1 x y) a b c ds p (digit_of k)) (sim_letter _ p k)
sim_settled (q2 x y z) a b c ds p k = by_if (is_digit k) _ _ _ _ (sim_hextended (q2 x y z) a b c ds p (digit_of k)) (sim_letter _ p k)
sim_settled (q3 x y z w) a b c ds p k = by_if (is_digit k) _ _ _ _ (sim_hextended (q3 x y z w) a b c ds p (digit_of k)) (sim_item _ p k)

sim_on : (s : Standing) (p : Spaces) (k : ℕ) → shown (step_on s p k) ≡ on_place (place_of s p) k
unfolding step_on on_place only on_atom on_compared on_result on_given on_quoted digit begun
sim_on (cond ctx l) p k =
    by_if (is_digit k) _ _ _ _ refl
    (by_if (eqb k 76) _ _ _ _ refl
    (by_if (eqb k 67) _ _ _ _ refl
    (by_if (eqb k 78) _ _ _ _ refl
    (by_if (eqb k 40) _ _ _ _ (sim_open ctx l p)
    (by_if (eqb k 45) _ _ _ _ refl
    (by_if (eqb k 33) _ _ _ _ (hards_banged ctx l p)
    (by_if (eqb k 101) _ _ _ _ (sim_else ctx l p) refl)))))))
sim_on (factor sc pre tp) p k = sim_factor sc pre tp p k
sim_on (after sc pre t) p k = sim_after sc pre t p k
sim_on (cfactor cc pre tp) p k = sim_cfactor cc pre tp p k
sim_on (cafter cc pre t) p k = sim_cafter cc pre t p k
sim_on (less ctx l s q) p k = by_if (eqb k 61) _ _ _ _ (sim_equals ctx l s q p) (sim_factor (right ctx l s q lt) opens (free first) p k)
sim_on (greater ctx l s q) p k = by_if (eqb k 61) _ _ _ _ (sim_above ctx l s q p) (sim_factor (right ctx l s q gt) opens (free first) p k)
sim_on (held ctx l x) p k = sim_joined ctx l x p k
sim_on (els B q) p k = by_if (eqb k 58) _ _ _ _ refl refl
sim_on outset p k = by_if (eqb k 115) _ _ _ _ refl refl
sim_on (hletter h) p k = sim_letter h p k
sim_on (hequals h q) p k = by_if (eqb k 61) _ _ _ _ refl refl
sim_on (hnumber h q r) p k = by_if (is_digit k) _ _ _ _ refl refl
sim_on (hdone h a b c ds) p k = sim_settled h a b c ds p k
sim_on (inum K I q) p k = by_if (is_digit k) _ _ _ _ refl refl
sim_on (idone K I q r ds) p k = by_if (is_digit k) _ _ _ _ (sim_iextended K I q r ds p (digit_of k)) (sim_kind K I q r ds p k)
sim_on (iequals o) p k = by_if (eqb k 61) _ _ _ _ refl refl
sim_on (res (of_case B o q)) p k = by_if (eqb k 102) _ _ _ _ refl (sim_factor (value (of_case B o q)) opens (free first) p k)
sim_on (res (of_else B o q)) p k = by_if (eqb k 102) _ _ _ _ refl (sim_factor (value (of_else B o q)) opens (free first) p k)
sim_on (forbade rc q) p k = sim_resulted rc (forbids q) p k
sim_on (quoted I a b ds r cs) p k = by_if (eqb k 34) _ _ _ _ (sim_quote I a b ds r cs p) (sim_item _ p k)

sim_level : {n : ℕ} (sc : SumCtx n) (pre : SumPre n) (tp : ConstTermPre n) (x : VaryFactor n) → shown (at (after sc pre (vt (vtimes_of tp x))) none) ≡ At (After (levelled (sum_at sc (level_before sc pre) false)) false)
unfolding levelled
sim_level sc pre first x = refl
sim_level sc pre (times_k t p) x = refl

sim_mid : (t : Middle) (k : ℕ) → shown (step_mid t k) ≡ on_token (token_of t) k
unfolding step_mid on_token on_word worded letter on_forbidden forbidden_letter on_next_or_name on_name
sim_mid (letter_c ctx l q) k = by_four k _ _ _ _ _ refl refl refl refl
sim_mid (letter_n ctx l q) k = by_four k _ _ _ _ _ refl refl refl refl
sim_mid (letter_l sc pre cp q) k =
    by_eight k _ _ _ _ _ _ _ _ _ (sim_level sc pre cp (level q i1)) (sim_level sc pre cp (level q i2)) (sim_level sc pre cp (level q i3)) (sim_level sc pre cp (level q i4))
    (sim_level sc pre cp (level q i5)) (sim_level sc pre cp (level q i6)) (sim_level sc pre cp (level q i7)) (sim_level sc pre cp (level q i8))
sim_mid (chance_n I p q ds r) k = by_four k _ _ _ _ _ refl refl refl refl
sim_mid (next_l I p q ds r) k = by_eight k _ _ _ _ _ _ _ _ _ refl refl refl refl refl refl refl refl
sim_mid (inside_name I p q ds r cs) k = by_if (eqb k 34) _ _ _ _ refl (sim_char I p q ds r cs k)
sim_mid (n1 I p) k = by_if (eqb k 101) _ _ _ _ refl (by_if (eqb k 97) _ _ _ _ refl refl)
sim_mid (reward1 I p) k = by_if (eqb k 101) _ _ _ _ refl refl
sim_mid (reward2 I p) k = by_if (eqb k 119) _ _ _ _ refl refl
sim_mid (reward3 I p) k = by_if (eqb k 97) _ _ _ _ refl refl
sim_mid (reward4 I p) k = by_if (eqb k 114) _ _ _ _ refl refl
sim_mid (reward5 I p) k = by_if (eqb k 100) _ _ _ _ refl refl
sim_mid (chance1 I p) k = by_if (eqb k 104) _ _ _ _ refl refl
sim_mid (chance2 I p) k = by_if (eqb k 97) _ _ _ _ refl refl
sim_mid (chance3 I p) k = by_if (eqb k 110) _ _ _ _ refl refl
sim_mid (chance4 I p) k = by_if (eqb k 99) _ _ _ _ refl refl
sim_mid (chance5 I p) k = by_if (eqb k 101) _ _ _ _ refl refl
sim_mid (end1 I p) k = by_if (eqb k 110) _ _ _ _ refl refl
sim_mid (end2 I p) k = by_if (eqb k 100) _ _ _ _ refl refl
sim_mid (site1 p) k = by_if (eqb k 105) _ _ _ _ refl refl
sim_mid (site2 p) k = by_if (eqb k 116) _ _ _ _ refl refl
sim_mid (site3 p) k = by_if (eqb k 101) _ _ _ _ refl refl
sim_mid (forb1 rc p) k = by_if (eqb k 111) _ _ _ _ refl refl
sim_mid (forb2 rc p) k = by_if (eqb k 114) _ _ _ _ refl refl
sim_mid (forb3 rc p) k = by_if (eqb k 98) _ _ _ _ refl refl
sim_mid (forb4 rc p) k = by_if (eqb k 105) _ _ _ _ refl refl
sim_mid (forb5 rc p) k = by_if (eqb k 100) _ _ _ _ refl refl
sim_mid (forb6 rc p) k = by_if (eqb k 100) _ _ _ _ refl refl
sim_mid (forb7 rc p) k = by_if (eqb k 101) _ _ _ _ refl refl
sim_mid (forb8 rc p) k = by_if (eqb k 110) _ _ _ _ refl refl
sim_mid (next2 I p) k = by_if (eqb k 120) _ _ _ _ refl refl
sim_mid (next3 I p) k = by_if (eqb k 116) _ _ _ _ refl refl
sim_mid (name2 I p) k = by_if (eqb k 109) _ _ _ _ refl refl
sim_mid (name3 I p) k = by_if (eqb k 101) _ _ _ _ refl refl
sim_mid (el1 B q) k = by_if (eqb k 108) _ _ _ _ refl refl
sim_mid (el2 B q) k = by_if (eqb k 115) _ _ _ _ refl refl
sim_mid (el3 B q) k = by_if (eqb k 101) _ _ _ _ refl refl

never_more : (s : Sum) (b : Bool) → At (After s (both_true b false)) ≡ At (After s false)
never_more s true = refl
never_more s false = refl

sim_space : (s : Standing) (p : Spaces) (k : ℕ) → shown (at s (more p (blank_of k))) ≡ At (spaced (place_of s p))
unfolding spaced
sim_space (cond ctx l) p k = refl
sim_space (factor sc pre tp) p k = refl
sim_space (after sc pre t) p k = never_more (after_sum sc pre t) (ends_number t)
sim_space (cfactor cc pre tp) p k = refl
sim_space (cafter cc pre t) p k = never_more (const_sum cc) (const_ends t)
sim_space (less ctx l s q) p k = refl
sim_space (greater ctx l s q) p k = refl
sim_space (held ctx l x) p k = refl
sim_space (els B q) p k = refl
sim_space outset p k = refl
sim_space (hletter h) p k = refl
sim_space (hequals h q) p k = refl
sim_space (hnumber h q r) p k = refl
sim_space (hdone h a b c ds) p k = refl
sim_space (inum K I q) p k = refl
sim_space (idone K I q r ds) p k = refl
sim_space (iequals o) p k = refl
sim_space (res rc) p k = refl
sim_space (forbade rc q) p k = refl
sim_space (quoted I a b ds r cs) p k = refl

pub sim : (m : Machine) (k : ℕ) → shown (step m k) ≡ next (shown m) k
unfolding step next blank
sim (at s p) k = by_if (is_blank k) _ _ _ _ (sim_space s p k) (sim_on s p k)
sim (mid t) k = sim_mid t k
sim dead k = refl

-- ---- the end

-- a machine is dead where its state is over, and has a reading where its state is finished
pub over_alive : (m : Machine) → is_over (shown m) ≡ not (alive m)
unfolding is_over
over_alive (at s p) = refl
over_alive (mid t) = refl
over_alive dead = refl

abbrev pub has_reading : Reading → Bool
has_reading (read t) = true
has_reading unfinished = false

not_last : (d : Side) (n : ℕ) → n < 32 → if (last_side d) (eqb n 32) false ≡ false
not_last d n h = by_eq (last_side d) (λ b. if b (eqb n 32) false ≡ false) (λ e. ne_eqb n 32 (λ f. omega arith)) (λ e. refl)

pub finished_reads : (m : Machine) → is_finished (shown m) ≡ has_reading (finish m)
unfolding is_finished place_ends after_ends last_side last_setting finish
finished_reads (at (cond ctx l) p) = refl
finished_reads (at (factor sc pre tp) p) = refl
finished_reads (at (after (left ctx l) pre (kt t)) p) = refl
finished_reads (at (after (left ctx l) pre (vt t)) p) = refl
finished_reads (at (after (right ctx l s q op) pre (kt t)) p) = refl
finished_reads (at (after (right ctx l s q op) pre (vt t)) p) = refl
finished_reads (at (after (value (of_case B o q)) pre (kt t)) p) = refl
finished_reads (at (after (value (of_case B o q)) pre (vt t)) p) = refl
finished_reads (at (after (value (of_else B q r)) pre (kt t)) p) = refl
finished_reads (at (after (value (of_else B q r)) pre (vt t)) p) = refl
finished_reads (at (after {n = n} (paren sc pre' cp q) pre (kt t)) p) = not_last (side_of sc) n (let h = sum_most sc in omega arith)
finished_reads (at (after {n = n} (paren sc pre' cp q) pre (vt t)) p) = not_last (side_of sc) n (let h = sum_most sc in omega arith)
finished_reads (at (cfactor cc pre tp) p) = refl
finished_reads (at (cafter {n = n} cc pre t) p) = not_last (const_side cc) n (const_most cc)
finished_reads (at (less ctx l s q) p) = refl
finished_reads (at (greater ctx l s q) p) = refl
finished_reads (at (held ctx l x) p) = refl
finished_reads (at (els B q) p) = refl
finished_reads (at outset p) = refl
finished_reads (at (hletter h) p) = refl
finished_reads (at (hequals h q) p) = refl
finished_reads (at (hnumber h q r) p) = refl
finished_reads (at (hdone (q0 x) a b c ds) p) = refl
finished_reads (at (hdone (q1 x s) a b c ds) p) = refl
finished_reads (at (hdone (q2 x s t) a b c ds) p) = refl
finished_reads (at (hdone (q3 x s t u) a b c ds) p) = refl
finished_reads (at (inum K I q) p) = refl
finished_reads (at (idone K I q r ds) p) = refl
finished_reads (at (iequals o) p) = refl
finished_reads (at (res rc) p) = refl
finished_reads (at (forbade (of_case B o q) s) p) = refl
finished_reads (at (forbade (of_else B q r) s) p) = refl
finished_reads (at (quoted I a b ds r cs) p) = refl
finished_reads (mid t) = refl
finished_reads dead = refl
