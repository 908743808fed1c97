-- Every machine that is not dead can be run to a reading: what has been read begins some text of the grammar.
use Rattle.std.specs.Prelude.{◌≡◌, refl, Bool, true, false, List, [], ◌∷◌, ◌++◌, ℕ, suc, length}
use Rattle.std.proofs.Common.{sym, ap, ◌∙◌, subst, subst₂, append_assoc, append-nil, add-one, length-append}
use Rattle.import_grammar.specs.Grammar.{Spaces, none, d0, Digits}
use Rattle.import_grammar.specs.Grammar.{one, i1, f1, Op, lt, gt}
use Rattle.import_grammar.specs.Grammar.{number, kbracket, ConstTerm, kfactor}
use Rattle.import_grammar.specs.Grammar.{level, vby, Sum}
use Rattle.import_grammar.specs.Grammar.{Atom, now, later, compare, group, Or}
use Rattle.import_grammar.specs.Grammar.{Before, start, case, Items, head, closed, named, reward}
use Rattle.import_grammar.specs.Grammar.{worth, forbids, Setting, setting, Chars, empty, Text, entire, deepest}
use Rattle.import_grammar.specs.Grammar.{text_bytes, InGrammar}
use Rattle.import_grammar.specs.Reader.{ConstPre, SumPre, Term}
use Rattle.import_grammar.specs.Reader.{kt, vt, Level, CondCtx, base, inside, SumCtx, left, right}
use Rattle.import_grammar.specs.Reader.{ResultCtx, of_case, of_else, value, paren, Head, q0, q1, q2, q3, Kind, a_reward, a_chance, a_next, a_name}
use Rattle.import_grammar.specs.Reader.{Opener, chance_to, next_to, end_to, ConstCtx, behind, within, ReaderState, cond, letter_c, letter_n, chance_n, next_l}
use Rattle.import_grammar.specs.Reader.{inside_name, reward1, reward2, reward3, reward4, reward5, chance1, chance2, chance3, chance4, chance5, end1}
use Rattle.import_grammar.specs.Reader.{end2, n1, next2, next3, name2, name3, site1, site2, site3, forb1, forb2, forb3, forb4, forb5, forb6, forb7}
use Rattle.import_grammar.specs.Reader.{forb8, outset, hletter, hequals, hnumber, hdone, inum, idone, iequals, res, forbade, quoted, factor, letter_l}
use Rattle.import_grammar.specs.Reader.{after, cfactor, cafter, less, greater, held, el1, el2, el3, els, Middle, Machine, at, mid, dead, bare, opens}
use Rattle.import_grammar.specs.Reader.{ksum_of, sum_of, ktimes_of, vtimes_of, times_const, bracketed, whole}
use Rattle.import_grammar.specs.Reader.{extended, cextended, close_left, close_cond, colon}
use Rattle.import_grammar.specs.Reader.{else_here, joined, ending, close_const, minus_here, cminus_here, core_here, factor_here, equals_here, equals_above}
use Rattle.import_grammar.specs.Reader.{begin_cond, begin_sum, open_behind, open_const, step_on, step_mid, step, run, begin, Reading, read, unfinished, finish}
use Rattle.import_grammar.specs.Reader.{item_here, resulted, letter_here, settled, hextended, iextended, opening_of, by_kind, quote_here}
use Rattle.import_grammar.specs.Reader.{with_plain, char_here}
use Rattle.import_grammar.specs.laws.Viable.{BeginsText, alive, stops, concluded, scan, Right}
use Rattle.import_grammar.proofs.laws.Case.{by_eq}
use Rattle.import_grammar.proofs.laws.Reads.{text_read}
use Rattle.import_grammar.proofs.laws.Holds.{Ended, read_bytes}

-- one name that unfolds the reader's steps
unfoldable stepping : Unit {0}
unfolding item_here resulted letter_here settled hextended iextended by_kind quote_here with_plain char_here extended cextended close_left close_cond colon else_here
    joined ending close_const minus_here cminus_here core_here factor_here equals_here equals_above begin_cond begin_sum open_behind open_const step_on step_mid step run
    finish
stepping = tt

-- bytes that lead to a reading, and the reading

pub record LeadsToText (m : Machine) : Type 0 where
  pub bytes : List ℕ
  pub text : Text
  pub ends : finish (run m bytes) ≡ read text

by_byte : (m : Machine) (k : ℕ) → LeadsToText (step m k) → LeadsToText m
unfolding run
by_byte m k l = record { bytes = k ∷ l.bytes; text = l.text; ends = l.ends }

ends_last : (B : Before) (q r p : Spaces) (pre : SumPre deepest) (t : Term deepest) → LeadsToText (at (after (value (of_else B q r)) pre t) p)
unfolding stepping
ends_last B q r p pre t = record { bytes = []; text = entire (closed B q r (worth (sum_of pre t))) p; ends = refl }

ends_base : (B : Before) (p : Spaces) → LeadsToText (at (cond (base B) bare) p)
unfolding stepping
ends_base B p =
    by_byte _ 101 (by_byte (mid (el1 B p)) 108 (by_byte (mid (el2 B p)) 115 (by_byte (mid (el3 B p)) 101
    (by_byte (at (els B p) none) 58 (by_byte (at (res (of_else B p none)) none) 48
    (ends_last B p none none opens (kt (kfactor (number none (one d0))))))))))

ends_result : (B : Before) (o : Or deepest) (q p : Spaces) (pre : SumPre deepest) (t : Term deepest) → LeadsToText (at (after (value (of_case B o q)) pre t) p)
unfolding stepping
ends_result B o q p pre t = by_byte _ 59 (ends_base (case B o q (worth (sum_of pre t)) p) none)

ends_value : (rc : ResultCtx) (pre : SumPre deepest) (t : Term deepest) (p : Spaces) → LeadsToText (at (after (value rc) pre t) p)
unfolding stepping
ends_value (of_case B o q) pre t p = ends_result B o q p pre t
ends_value (of_else B q r) pre t p = ends_last B q r p pre t

ends_res : (rc : ResultCtx) (p : Spaces) → LeadsToText (at (res rc) p)
unfolding stepping
ends_res rc p = by_byte _ 48 (ends_value rc opens (kt (kfactor (number p (one d0)))) none)

ends_colon : (B : Before) (o : Or deepest) (p : Spaces) → LeadsToText (at (res (of_case B o p)) none)
unfolding stepping
ends_colon B o p = ends_res (of_case B o p) none

ends_held : {n : ℕ} (ctx : CondCtx n) (l : Level n) (x : Atom n) (p : Spaces) → LeadsToText (at (held ctx l x) p)
unfolding stepping
ends_held (base B) l x p = by_byte _ 58 (ends_colon B (whole l x) p)
ends_held (inside ctx l' q) l x p = by_byte _ 41 (ends_held ctx l' (group q (whole l x) p) none)

ends_right : {n : ℕ} (ctx : CondCtx n) (l : Level n) (s : Sum n) (q : Spaces) (op : Op) (pre : SumPre n) (t : Term n) (p : Spaces) → LeadsToText (at (after (right ctx l s q op) pre t) p)
unfolding stepping
ends_right (base B) l s q op pre t p = by_byte _ 58 (ends_colon B (whole l (compare s q op (sum_of pre t))) p)
ends_right (inside ctx l' r) l s q op pre t p = by_byte _ 41 (ends_held ctx l' (group r (whole l (compare s q op (sum_of pre t))) p) none)

ends_less : {n : ℕ} (ctx : CondCtx n) (l : Level n) (s : Sum n) (q p : Spaces) → LeadsToText (at (less ctx l s q) p)
unfolding stepping
ends_less ctx l s q p = by_byte _ 48 (ends_right ctx l s q lt opens (kt (kfactor (number p (one d0)))) none)

ends_after : {n : ℕ} (sc : SumCtx n) (pre : SumPre n) (t : Term n) (p : Spaces) → LeadsToText (at (after sc pre t) p)
unfolding stepping
ends_after (left ctx l) pre t p = by_byte _ 60 (ends_less ctx l (sum_of pre t) p none)
ends_after (right ctx l s q op) pre t p = ends_right ctx l s q op pre t p
ends_after (value rc) pre t p = ends_value rc pre t p
ends_after (paren sc pre' cp q) pre t p = by_byte _ 41 (ends_after sc pre' (bracketed cp q (sum_of pre t) p) none)

ends_greater : {n : ℕ} (ctx : CondCtx n) (l : Level n) (s : Sum n) (q p : Spaces) → LeadsToText (at (greater ctx l s q) p)
unfolding stepping
ends_greater ctx l s q p = by_byte _ 48 (ends_right ctx l s q gt opens (kt (kfactor (number p (one d0)))) none)

ends_cafter : {n : ℕ} (cc : ConstCtx n) (pre : ConstPre n) (t : ConstTerm n) (p : Spaces) → LeadsToText (at (cafter cc pre t) p)
unfolding stepping
ends_cafter (behind sc pre' v r q) pre t p = by_byte _ 41 (ends_after sc pre' (vt (vby v r (kbracket q (ksum_of pre t) p))) none)
ends_cafter (within cc pre' tp q) pre t p = by_byte _ 41 (ends_cafter cc pre' (ktimes_of tp (kbracket q (ksum_of pre t) p)) none)

-- ---- the site and the items

ends_hdone3 : (x : Spaces) (a b c : Setting) (p q r : Spaces) (ds : Digits) (t : Spaces) → LeadsToText (at (hdone (q3 x a b c) p q r ds) t)
unfolding stepping
ends_hdone3 x a b c p q r ds t = record { bytes = []; text = entire (head x a b c (setting p q r ds)) t; ends = refl }

ends_hequals3 : (x : Spaces) (a b c : Setting) (p t : Spaces) → LeadsToText (at (hequals (q3 x a b c) p) t)
unfolding stepping
ends_hequals3 x a b c p t = by_byte _ 61 (by_byte (at (hnumber (q3 x a b c) p t) none) 48 (ends_hdone3 x a b c p t none (one d0) none))

ends_hdone2 : (x : Spaces) (a b : Setting) (p q r : Spaces) (ds : Digits) (t : Spaces) → LeadsToText (at (hdone (q2 x a b) p q r ds) t)
unfolding stepping
ends_hdone2 x a b p q r ds t = by_byte _ 87 (ends_hequals3 x a b (setting p q r ds) t none)

ends_hequals2 : (x : Spaces) (a b : Setting) (p t : Spaces) → LeadsToText (at (hequals (q2 x a b) p) t)
unfolding stepping
ends_hequals2 x a b p t = by_byte _ 61 (by_byte (at (hnumber (q2 x a b) p t) none) 48 (ends_hdone2 x a b p t none (one d0) none))

ends_hdone1 : (x : Spaces) (a : Setting) (p q r : Spaces) (ds : Digits) (t : Spaces) → LeadsToText (at (hdone (q1 x a) p q r ds) t)
unfolding stepping
ends_hdone1 x a p q r ds t = by_byte _ 65 (ends_hequals2 x a (setting p q r ds) t none)

ends_hequals1 : (x : Spaces) (a : Setting) (p t : Spaces) → LeadsToText (at (hequals (q1 x a) p) t)
unfolding stepping
ends_hequals1 x a p t = by_byte _ 61 (by_byte (at (hnumber (q1 x a) p t) none) 48 (ends_hdone1 x a p t none (one d0) none))

ends_hdone0 : (x : Spaces) (p q r : Spaces) (ds : Digits) (t : Spaces) → LeadsToText (at (hdone (q0 x) p q r ds) t)
unfolding stepping
ends_hdone0 x p q r ds t = by_byte _ 110 (ends_hequals1 x (setting p q r ds) t none)

ends_hequals0 : (x : Spaces) (p t : Spaces) → LeadsToText (at (hequals (q0 x) p) t)
unfolding stepping
ends_hequals0 x p t = by_byte _ 61 (by_byte (at (hnumber (q0 x) p t) none) 48 (ends_hdone0 x p t none (one d0) none))

ends_hdone : (h : Head) (p q r : Spaces) (ds : Digits) (t : Spaces) → LeadsToText (at (hdone h p q r ds) t)
unfolding stepping
ends_hdone (q0 x) p q r ds t = ends_hdone0 x p q r ds t
ends_hdone (q1 x a) p q r ds t = ends_hdone1 x a p q r ds t
ends_hdone (q2 x a b) p q r ds t = ends_hdone2 x a b p q r ds t
ends_hdone (q3 x a b c) p q r ds t = ends_hdone3 x a b c p q r ds t

ends_hequals : (h : Head) (p t : Spaces) → LeadsToText (at (hequals h p) t)
unfolding stepping
ends_hequals (q0 x) p t = ends_hequals0 x p t
ends_hequals (q1 x a) p t = ends_hequals1 x a p t
ends_hequals (q2 x a b) p t = ends_hequals2 x a b p t
ends_hequals (q3 x a b c) p t = ends_hequals3 x a b c p t

ends_hletter : (h : Head) (t : Spaces) → LeadsToText (at (hletter h) t)
unfolding stepping
ends_hletter (q0 x) t = by_byte _ 109 (ends_hequals (q0 x) t none)
ends_hletter (q1 x a) t = by_byte _ 110 (ends_hequals (q1 x a) t none)
ends_hletter (q2 x a b) t = by_byte _ 65 (ends_hequals (q2 x a b) t none)
ends_hletter (q3 x a b c) t = by_byte _ 87 (ends_hequals (q3 x a b c) t none)

ends_quoted : {n : ℕ} (I : Items) (p q : Spaces) (ds : Digits) (r : Spaces) (cs : Chars n) (t : Spaces) → LeadsToText (at (quoted I p q ds r cs) t)
unfolding stepping
ends_quoted I p q ds r cs t = record { bytes = []; text = entire (named I p q ds r cs) t; ends = refl }

ends_iequals : (o : Opener) (t : Spaces) → LeadsToText (at (iequals o) t)
unfolding stepping
ends_iequals o t = by_byte _ 61 (ends_base (start (opening_of o t)) none)

ends_idone : (K : Kind) (I : Items) (p q : Spaces) (ds : Digits) (t : Spaces) → LeadsToText (at (idone K I p q ds) t)
unfolding stepping
ends_idone a_reward I p q ds t = by_byte _ 61 (ends_base (start (reward I p q ds t)) none)
ends_idone a_chance I p q ds t = by_byte _ 78 (by_byte (mid (chance_n I p q ds t)) 49 (ends_iequals (chance_to I p q ds t f1) none))
ends_idone a_next I p q ds t = by_byte _ 76 (by_byte (mid (next_l I p q ds t)) 49 (ends_iequals (next_to I p q ds t i1) none))
ends_idone a_name I p q ds t = by_byte _ 34 (by_byte (mid (inside_name I p q ds t empty)) 34 (ends_quoted I p q ds t empty none))

ends_inum : (K : Kind) (I : Items) (p t : Spaces) → LeadsToText (at (inum K I p) t)
unfolding stepping
ends_inum K I p t = by_byte _ 48 (ends_idone K I p t (one d0) none)

ends_forbade : (rc : ResultCtx) (q p : Spaces) → LeadsToText (at (forbade rc q) p)
unfolding stepping
ends_forbade (of_case B o r) q p = by_byte _ 59 (ends_base (case B o r (forbids q) p) none)
ends_forbade (of_else B r s) q p = record { bytes = []; text = entire (closed B r s (forbids q)) p; ends = refl }

ends_at : (s : ReaderState) (p : Spaces) → LeadsToText (at s p)
unfolding stepping
ends_at (cond ctx l) p = by_byte _ 48 (ends_after (left ctx l) opens (kt (kfactor (number p (one d0)))) none)
ends_at (factor sc pre tp) p = by_byte _ 48 (ends_after sc pre (times_const tp (number p (one d0))) none)
ends_at (after sc pre t) p = ends_after sc pre t p
ends_at (less ctx l s q) p = ends_less ctx l s q p
ends_at (greater ctx l s q) p = ends_greater ctx l s q p
ends_at (cfactor cc pre tp) p = by_byte _ 48 (ends_cafter cc pre (ktimes_of tp (number p (one d0))) none)
ends_at (cafter cc pre t) p = ends_cafter cc pre t p
ends_at (held ctx l x) p = ends_held ctx l x p
ends_at outset p = by_byte _ 115 (by_byte (mid (site1 p)) 105 (by_byte (mid (site2 p)) 116 (by_byte (mid (site3 p)) 101 (ends_hletter (q0 p) none))))
ends_at (hletter h) p = ends_hletter h p
ends_at (hequals h q) p = ends_hequals h q p
ends_at (hnumber h q r) p = by_byte _ 48 (ends_hdone h q r p (one d0) none)
ends_at (hdone h a b c ds) p = ends_hdone h a b c ds p
ends_at (inum K I q) p = ends_inum K I q p
ends_at (idone K I q r ds) p = ends_idone K I q r ds p
ends_at (iequals o) p = ends_iequals o p
ends_at (res rc) p = ends_res rc p
ends_at (forbade rc q) p = ends_forbade rc q p
ends_at (quoted I p q ds r cs) t = ends_quoted I p q ds r cs t
ends_at (els B q) p = by_byte _ 58 (ends_res (of_else B q p) none)

ends_mid : (s : Middle) → LeadsToText (mid s)
unfolding stepping
ends_mid (letter_c ctx l q) = by_byte _ 49 (ends_held ctx l (now q f1) none)
ends_mid (letter_n ctx l q) = by_byte _ 49 (ends_held ctx l (later q f1) none)
ends_mid (chance_n I p q ds r) = by_byte _ 49 (ends_iequals (chance_to I p q ds r f1) none)
ends_mid (next_l I p q ds r) = by_byte _ 49 (ends_iequals (next_to I p q ds r i1) none)
ends_mid (inside_name I p q ds r cs) = by_byte _ 34 (ends_quoted I p q ds r cs none)
ends_mid (reward1 I p) = by_byte (mid (reward1 I p)) 101 (by_byte (mid (reward2 I p)) 119 (by_byte (mid (reward3 I p)) 97 (by_byte (mid (reward4 I p)) 114 (by_byte (mid (reward5 I p)) 100 (ends_inum a_reward I p none)))))
ends_mid (reward2 I p) = by_byte (mid (reward2 I p)) 119 (by_byte (mid (reward3 I p)) 97 (by_byte (mid (reward4 I p)) 114 (by_byte (mid (reward5 I p)) 100 (ends_inum a_reward I p none))))
ends_mid (reward3 I p) = by_byte (mid (reward3 I p)) 97 (by_byte (mid (reward4 I p)) 114 (by_byte (mid (reward5 I p)) 100 (ends_inum a_reward I p none)))
ends_mid (reward4 I p) = by_byte (mid (reward4 I p)) 114 (by_byte (mid (reward5 I p)) 100 (ends_inum a_reward I p none))
ends_mid (reward5 I p) = by_byte (mid (reward5 I p)) 100 (ends_inum a_reward I p none)
ends_mid (chance1 I p) = by_byte (mid (chance1 I p)) 104 (by_byte (mid (chance2 I p)) 97 (by_byte (mid (chance3 I p)) 110 (by_byte (mid (chance4 I p)) 99 (by_byte (mid (chance5 I p)) 101 (ends_inum a_chance I p none)))))
ends_mid (chance2 I p) = by_byte (mid (chance2 I p)) 97 (by_byte (mid (chance3 I p)) 110 (by_byte (mid (chance4 I p)) 99 (by_byte (mid (chance5 I p)) 101 (ends_inum a_chance I p none))))
ends_mid (chance3 I p) = by_byte (mid (chance3 I p)) 110 (by_byte (mid (chance4 I p)) 99 (by_byte (mid (chance5 I p)) 101 (ends_inum a_chance I p none)))
ends_mid (chance4 I p) = by_byte (mid (chance4 I p)) 99 (by_byte (mid (chance5 I p)) 101 (ends_inum a_chance I p none))
ends_mid (chance5 I p) = by_byte (mid (chance5 I p)) 101 (ends_inum a_chance I p none)
ends_mid (end1 I p) = by_byte (mid (end1 I p)) 110 (by_byte (mid (end2 I p)) 100 (ends_iequals (end_to I p) none))
ends_mid (end2 I p) = by_byte (mid (end2 I p)) 100 (ends_iequals (end_to I p) none)
ends_mid (n1 I p) = by_byte (mid (n1 I p)) 101 (by_byte (mid (next2 I p)) 120 (by_byte (mid (next3 I p)) 116 (ends_inum a_next I p none)))
ends_mid (next2 I p) = by_byte (mid (next2 I p)) 120 (by_byte (mid (next3 I p)) 116 (ends_inum a_next I p none))
ends_mid (next3 I p) = by_byte (mid (next3 I p)) 116 (ends_inum a_next I p none)
ends_mid (name2 I p) = by_byte (mid (name2 I p)) 109 (by_byte (mid (name3 I p)) 101 (ends_inum a_name I p none))
ends_mid (name3 I p) = by_byte (mid (name3 I p)) 101 (ends_inum a_name I p none)
ends_mid (site1 p) = by_byte (mid (site1 p)) 105 (by_byte (mid (site2 p)) 116 (by_byte (mid (site3 p)) 101 (ends_hletter (q0 p) none)))
ends_mid (site2 p) = by_byte (mid (site2 p)) 116 (by_byte (mid (site3 p)) 101 (ends_hletter (q0 p) none))
ends_mid (site3 p) = by_byte (mid (site3 p)) 101 (ends_hletter (q0 p) none)
ends_mid (forb1 rc p) = by_byte (mid (forb1 rc p)) 111 (by_byte (mid (forb2 rc p)) 114
    (by_byte (mid (forb3 rc p)) 98 (by_byte (mid (forb4 rc p)) 105 (by_byte (mid (forb5 rc p)) 100
    (by_byte (mid (forb6 rc p)) 100 (by_byte (mid (forb7 rc p)) 101 (by_byte (mid (forb8 rc p)) 110 (ends_forbade rc p none))))))))
ends_mid (forb2 rc p) = by_byte (mid (forb2 rc p)) 114 (by_byte (mid (forb3 rc p)) 98
    (by_byte (mid (forb4 rc p)) 105 (by_byte (mid (forb5 rc p)) 100 (by_byte (mid (forb6 rc p)) 100
    (by_byte (mid (forb7 rc p)) 101 (by_byte (mid (forb8 rc p)) 110 (ends_forbade rc p none)))))))
ends_mid (forb3 rc p) = by_byte (mid (forb3 rc p)) 98 (by_byte (mid (forb4 rc p)) 105
    (by_byte (mid (forb5 rc p)) 100 (by_byte (mid (forb6 rc p)) 100 (by_byte (mid (forb7 rc p)) 101 (by_byte (mid (forb8 rc p)) 110 (ends_forbade rc p none))))))
ends_mid (forb4 rc p) = by_byte (mid (forb4 rc p)) 105 (by_byte (mid (forb5 rc p)) 100 (by_byte (mid (forb6 rc p)) 100 (by_byte (mid (forb7 rc p)) 101 (by_byte (mid (forb8 rc p)) 110 (ends_forbade rc p none)))))
ends_mid (forb5 rc p) = by_byte (mid (forb5 rc p)) 100 (by_byte (mid (forb6 rc p)) 100 (by_byte (mid (forb7 rc p)) 101 (by_byte (mid (forb8 rc p)) 110 (ends_forbade rc p none))))
ends_mid (forb6 rc p) = by_byte (mid (forb6 rc p)) 100 (by_byte (mid (forb7 rc p)) 101 (by_byte (mid (forb8 rc p)) 110 (ends_forbade rc p none)))
ends_mid (forb7 rc p) = by_byte (mid (forb7 rc p)) 101 (by_byte (mid (forb8 rc p)) 110 (ends_forbade rc p none))
ends_mid (forb8 rc p) = by_byte (mid (forb8 rc p)) 110 (ends_forbade rc p none)
ends_mid (letter_l sc pre cp q) = by_byte _ 49 (ends_after sc pre (vt (vtimes_of cp (level q i1))) none)
ends_mid (el1 B q) = by_byte _ 108 (by_byte (mid (el2 B q)) 115 (by_byte (mid (el3 B q)) 101 (ends_at (els B q) none)))
ends_mid (el2 B q) = by_byte _ 115 (by_byte (mid (el3 B q)) 101 (ends_at (els B q) none))
ends_mid (el3 B q) = by_byte _ 101 (ends_at (els B q) none)

-- ---- beginnings of texts

pub run_append : (m : Machine) (u v : List ℕ) → run m (u ++ v) ≡ run (run m u) v
unfolding run
run_append m [] v = refl
run_append m (k ∷ u) v = run_append (step m k) u v

pub run_dead : (w : List ℕ) → run dead w ≡ dead
unfolding run step
run_dead [] = refl
run_dead (k ∷ w) = run_dead w

abbrev is_true : Bool → Type 0
is_true true = Unit {0}
is_true false = ⊥

leads_all : (m : Machine) → alive m ≡ true → LeadsToText m
leads_all (at s p) e = ends_at s p
leads_all (mid s) e = ends_mid s
leads_all dead e = absurd (subst is_true (sym e) tt)

ended_as : (r : Reading) (t : Text) (v : List ℕ) → r ≡ read t → Ended r v → text_bytes t ≡ v
ended_as r t v e h = subst (λ (x : Reading). Ended x v) e h

-- a machine that is not dead: what it has read begins a text

pub alive_begins : (w : List ℕ) → alive (run begin w) ≡ true → BeginsText w
alive_begins w e =
    let l : LeadsToText (run begin w) = leads_all (run begin w) e in
    record {
      rest = l.bytes;
      text = l.text;
      same =
          ended_as (finish (run begin (w ++ l.bytes))) l.text (w ++ l.bytes) (ap finish (run_append begin w l.bytes) ∙ l.ends) (read_bytes (w ++ l.bytes));
    }

abbrev is_read : Reading → Type 0
is_read (read t) = Unit {0}
is_read unfinished = ⊥

abbrev if_dead : Bool → Type 0 → Type 0
if_dead true X = Unit {0}
if_dead false X = X

-- a dead machine: no text begins so

dead_reads : (m : Machine) → alive m ≡ false → (v : List ℕ) (t : Text) → finish (run m v) ≡ read t → ⊥
unfolding finish
dead_reads (at s p) e v t r = absurd (subst is_true e tt)
dead_reads (mid s) e v t r = absurd (subst is_true e tt)
dead_reads dead e v t r = subst is_read (sym (ap finish (sym (run_dead v)) ∙ r)) tt

pub dead_begins : (w : List ℕ) → alive (run begin w) ≡ false → BeginsText w → ⊥
dead_begins w e b =
    dead_reads (run begin w) e b.rest b.text
    (ap finish (sym (run_append begin w b.rest)) ∙ ap (λ (v : List ℕ). finish (run begin v)) (sym b.same) ∙ text_read b.text)

-- ---- every byte string has one outcome, and it is right

not_read : (u : List ℕ) → finish (run begin u) ≡ unfinished → InGrammar u → ⊥
unfolding InGrammar
not_read u e g = subst is_read (sym (text_read g.0) ∙ ap (λ (v : List ℕ). finish (run begin v)) g.1 ∙ e) tt

at_end : (u : List ℕ) (i : ℕ) → length u ≡ i → alive (run begin u) ≡ true → (r : Reading) → finish (run begin u) ≡ r → Right u (concluded r i)
unfolding concluded
at_end u i h e (read t) f = ended_as (finish (run begin u)) t u f (read_bytes u)
at_end u i h e unfinished f =
    record { before = u; after = []; parts = append-nil u; place = h; begins = alive_begins u e; ending = not_read u f }

length_more : (u : List ℕ) (k i : ℕ) → length u ≡ i → length (u ++ (k ∷ [])) ≡ suc i
length_more u k i h = length-append u (k ∷ []) ∙ add-one (length u) ∙ ap suc h

scanned : (w u : List ℕ) (i : ℕ) → length u ≡ i → alive (run begin u) ≡ true → Right (u ++ w) (scan (run begin u) w i)
unfolding scan run
scanned [] u i h e = subst (λ (v : List ℕ). Right v (concluded (finish (run begin u)) i)) (sym (append-nil u)) (at_end u i h e (finish (run begin u)) refl)
scanned (k ∷ w) u i h e =
    let rest : alive (run begin (u ++ (k ∷ []))) ≡ true → Right ((u ++ (k ∷ [])) ++ w) (scan (run begin (u ++ (k ∷ []))) w (suc i)) =
    scanned w (u ++ (k ∷ [])) (suc i) (length_more u k i h) in
    let one_more : run begin (u ++ (k ∷ [])) ≡ step (run begin u) k = run_append begin u (k ∷ []) in
    by_eq (alive (step (run begin u) k))
    (λ b. Right (u ++ (k ∷ w)) (elim b [ true ↦ scan (step (run begin u) k) w (suc i) | false ↦ stops i ]))
    (λ t. subst₂ (λ (v : List ℕ) (m : Machine). Right v (scan m w (suc i))) (append_assoc u (k ∷ []) w) one_more (rest (ap alive one_more ∙ t)))
    (λ f. record {
      before = u;
      after = k ∷ w;
      parts = refl;
      place = h;
      begins = alive_begins u e;
      ending = dead_begins (u ++ (k ∷ [])) (ap alive one_more ∙ f);
    })

-- every byte string has its outcome: a reading of it, or 24's offset

pub scan_right : (w : List ℕ) → Right w (scan begin w 0)
unfolding run
scan_right w = scanned w [] 0 refl refl
