-- The run over a text's bytes judges the text's numbers.
use Rattle.std.specs.Prelude.{◌≡◌, Bool, List, [], ◌∷◌, ◌++◌, ℕ, zero, suc, ◌≤◌, ℤ}
use Rattle.std.proofs.Math.Path.{refl, ap}
use Rattle.std.proofs.Common.{◌∙◌, arith}
use Rattle.std.proofs.Math.Bool.{true, false}
use Rattle.whole.specs.Cases.{if}
use Rattle.whole.specs.Linears.{add_list, sub_list}
use Rattle.theory.specs.Plain.{in_32_bits}
use Rattle.import_grammar.specs.Grammar.{Blank, blank, blank_byte, tab, newline, return, Spaces, Four, f1, f2, f3, f4, four_byte}
use Rattle.import_grammar.specs.Grammar.{Op, lt, le, gt, ge, op_bytes, Sum, Nots, unsaid, bang, Atom, now, later, compare}
use Rattle.import_grammar.specs.Grammar.{group, Not, negated, And, alone, both, Or, single, either, spaces_bytes, sum_bytes}
use Rattle.import_grammar.specs.Grammar.{nots_bytes, atom_bytes, not_bytes, and_bytes, or_bytes}
use Rattle.import_numbers.specs.Numbers.{difference, linear_of, nine, sum_numbers, atom_numbers, not_numbers, and_numbers, or_numbers, all_within}
use Rattle.import_frames.specs.declared.Frame.{Frame}
use Rattle.import_frames.specs.Frames.{zero9, unit9, idle, over, valued, sided, closed, total, on_compare, less, compared_with, finished, on_end, on_equals, on_other, on_mark, on_digit, unless_over, step, entered, popped}
use Rattle.import_sums.specs.Run.{SumOut, stopped, ended, run}
use Rattle.import_values.specs.Linears.{nine_sub}
use Rattle.import_values.specs.Within.{same_long}
use Rattle.import_values.specs.Reads.{guard, g_append, open9, full, FollowsNumber, at_end, mark, spaces_follow, run_over, run_if, spaced, calm_open, calm_full}
use Rattle.import_values.specs.Sums.{sum_X, sum_m, sum_t, sum_before, behind_sum, sum_total, sum_split, sum_eight, sum_read, open_read, none_deep, g_three}

-- what a run comes to: a frame that ends is judged too
unfoldable pub judged : SumOut → SumOut
judged stopped = stopped
judged (ended c w) = if (finished c).beyond stopped (ended (idle 0) [])

abbrev pub G : ℕ → List Frame → Frame → List ℕ → SumOut
G d S s w = judged (run false d S s w)

pub lift : {r : SumOut} (b : Bool) (x : SumOut) → r ≡ guard b x → judged r ≡ guard b (judged x)
unfolding judged
lift b x e = ap judged e ∙ go b
  where
    go : (c : Bool) → judged (guard c x) ≡ guard c (judged x)
    go true = refl
    go false = refl

abbrev pub tot : List ℤ → Bool → List ℤ → List ℤ
tot X m t = if m (sub_list X t) (add_list X t)

-- ---- bytes that end a sum or a condition

pub data Mark : Type 0 where
  semi : Mark
  colon : Mark
  equals : Mark
  small_m : Mark
  small_n : Mark
  big_A : Mark
  big_W : Mark
  small_r : Mark
  small_c : Mark
  small_e : Mark
  ampersand : Mark
  bar : Mark
  exclamation : Mark
  quotes : Mark
  big_C : Mark
  big_N : Mark

abbrev pub mark_byte : Mark → ℕ
mark_byte semi = 59
mark_byte colon = 58
mark_byte equals = 61
mark_byte small_m = 109
mark_byte small_n = 110
mark_byte big_A = 65
mark_byte big_W = 87
mark_byte small_r = 114
mark_byte small_c = 99
mark_byte small_e = 101
mark_byte ampersand = 38
mark_byte bar = 124
mark_byte exclamation = 33
mark_byte quotes = 34
mark_byte big_C = 67
mark_byte big_N = 78

abbrev pub mark_behind : Mark → ℕ
mark_behind semi = 0
mark_behind colon = 0
mark_behind equals = 0
mark_behind small_m = 0
mark_behind small_n = 0
mark_behind big_A = 0
mark_behind big_W = 0
mark_behind small_r = 0
mark_behind small_c = 0
mark_behind small_e = 0
mark_behind ampersand = 0
mark_behind bar = 0
mark_behind exclamation = 0
mark_behind quotes = 6
mark_behind big_C = 5
mark_behind big_N = 5

mark_follows : (k : Mark) (w : List ℕ) → FollowsNumber (mark_byte k ∷ w)
mark_follows semi w = mark refl refl
mark_follows colon w = mark refl refl
mark_follows equals w = mark refl refl
mark_follows small_m w = mark refl refl
mark_follows small_n w = mark refl refl
mark_follows big_A w = mark refl refl
mark_follows big_W w = mark refl refl
mark_follows small_r w = mark refl refl
mark_follows small_c w = mark refl refl
mark_follows small_e w = mark refl refl
mark_follows ampersand w = mark refl refl
mark_follows bar w = mark refl refl
mark_follows exclamation w = mark refl refl
mark_follows quotes w = mark refl refl
mark_follows big_C w = mark refl refl
mark_follows big_N w = mark refl refl

module _ (d : ℕ) (S : List Frame) where
  end_case : (b : Bool) (T : List ℤ) (o : ℕ) (w : List ℕ) → run false d S (if (if b (valued T) over).beyond (if b (valued T) over) (idle o)) w ≡ guard b (run false d S (idle o) w)
  end_case true T o w = refl
  end_case false T o w = run_over false d S w

  pub reset_full : (k : Mark) (X : List ℤ) (m : Bool) (t : List ℤ) (w : List ℕ) → run false d S (full zero9 0 X m t) (mark_byte k ∷ w) ≡ guard (all_within (tot X m t)) (run false d S (idle (mark_behind k)) w)
  unfolding run step closed on_mark on_other on_equals on_end finished compared_with total
  reset_full semi X m t w = end_case (all_within (tot X m t)) (tot X m t) 0 w
  reset_full colon X m t w = end_case (all_within (tot X m t)) (tot X m t) 0 w
  reset_full equals X m t w = end_case (all_within (tot X m t)) (tot X m t) 0 w
  reset_full small_m X m t w = end_case (all_within (tot X m t)) (tot X m t) 0 w
  reset_full small_n X m t w = end_case (all_within (tot X m t)) (tot X m t) 0 w
  reset_full big_A X m t w = end_case (all_within (tot X m t)) (tot X m t) 0 w
  reset_full big_W X m t w = end_case (all_within (tot X m t)) (tot X m t) 0 w
  reset_full small_r X m t w = end_case (all_within (tot X m t)) (tot X m t) 0 w
  reset_full small_c X m t w = end_case (all_within (tot X m t)) (tot X m t) 0 w
  reset_full small_e X m t w = end_case (all_within (tot X m t)) (tot X m t) 0 w
  reset_full ampersand X m t w = end_case (all_within (tot X m t)) (tot X m t) 0 w
  reset_full bar X m t w = end_case (all_within (tot X m t)) (tot X m t) 0 w
  reset_full exclamation X m t w = end_case (all_within (tot X m t)) (tot X m t) 0 w
  reset_full quotes X m t w = end_case (all_within (tot X m t)) (tot X m t) 6 w
  reset_full big_C X m t w = end_case (all_within (tot X m t)) (tot X m t) 5 w
  reset_full big_N X m t w = end_case (all_within (tot X m t)) (tot X m t) 5 w

  pub reset_idle : (k : Mark) (w : List ℕ) → run false d S (idle 0) (mark_byte k ∷ w) ≡ run false d S (idle (mark_behind k)) w
  unfolding closed on_mark on_other on_equals on_end finished compared_with total add_list all_within in_32_bits run step
  reset_idle semi w = refl
  reset_idle colon w = refl
  reset_idle equals w = refl
  reset_idle small_m w = refl
  reset_idle small_n w = refl
  reset_idle big_A w = refl
  reset_idle big_W w = refl
  reset_idle small_r w = refl
  reset_idle small_c w = refl
  reset_idle small_e w = refl
  reset_idle ampersand w = refl
  reset_idle bar w = refl
  reset_idle exclamation w = refl
  reset_idle quotes w = refl
  reset_idle big_C w = refl
  reset_idle big_N w = refl

  pub reset_held : (k : Mark) (w : List ℕ) → run false d S (idle 4) (mark_byte k ∷ w) ≡ run false d S (idle (mark_behind k)) w
  unfolding run step closed on_mark on_other on_equals on_end finished compared_with total
  reset_held semi w = refl
  reset_held colon w = refl
  reset_held equals w = refl
  reset_held small_m w = refl
  reset_held small_n w = refl
  reset_held big_A w = refl
  reset_held big_W w = refl
  reset_held small_r w = refl
  reset_held small_c w = refl
  reset_held small_e w = refl
  reset_held ampersand w = refl
  reset_held bar w = refl
  reset_held exclamation w = refl
  reset_held quotes w = refl
  reset_held big_C w = refl
  reset_held big_N w = refl

  calm_held : (b : Blank) (f : List ℕ) → run false d S (idle 4) (blank_byte b ∷ f) ≡ run false d S (idle 4) f
  unfolding run step closed on_mark
  calm_held blank f = refl
  calm_held tab f = refl
  calm_held newline f = refl
  calm_held return f = refl

  pub idle_spaced : (p : Spaces) (f : List ℕ) → run false d S (idle 0) (spaces_bytes p f) ≡ run false d S (idle 0) f
  idle_spaced p f = spaced false d S (idle 0) (calm_open false d S zero9 0 zero9 false unit9) p f

  pub held_spaced : (p : Spaces) (f : List ℕ) → run false d S (idle 4) (spaces_bytes p f) ≡ run false d S (idle 4) f
  held_spaced p f = spaced false d S (idle 4) calm_held p f

  pub full_spaced : (L : List ℤ) (C : ℕ) (X : List ℤ) (m : Bool) (t : List ℤ) (p : Spaces) (f : List ℕ) → run false d S (full L C X m t) (spaces_bytes p f) ≡ run false d S (full L C X m t) f
  full_spaced L C X m t p f = spaced false d S (full L C X m t) (calm_full false d S L C X m t) p f

  pub condition_digit : (i : Four) (f : List ℕ) → run false d S (idle 5) (four_byte i ∷ f) ≡ run false d S (idle 4) f
  unfolding run step on_digit
  condition_digit f1 f = refl
  condition_digit f2 f = refl
  condition_digit f3 f = refl
  condition_digit f4 f = refl

-- ---- what stands behind a sum that is no comparison's, and what is then left to come

pub record CondEnds (d : ℕ) (S : List Frame) (f : List ℕ) (y : SumOut) : Type 0 where
  pub follows : FollowsNumber f
  pub on_full : (X : List ℤ) (m : Bool) (t : List ℤ) → G d S (full zero9 0 X m t) f ≡ guard (all_within (tot X m t)) y
  pub on_idle : G d S (idle 0) f ≡ y

pub mark_ends : (d : ℕ) (S : List Frame) (k : Mark) (w : List ℕ) → CondEnds d S (mark_byte k ∷ w) (G d S (idle (mark_behind k)) w)
mark_ends d S k w = record {
  follows = mark_follows k w;
  on_full = λ X m t. lift (all_within (tot X m t)) (run false d S (idle (mark_behind k)) w) (reset_full d S k X m t w);
  on_idle = ap judged (reset_idle d S k w);
}

pub spaces_end : {d : ℕ} {S : List Frame} {f : List ℕ} {y : SumOut} (p : Spaces) → CondEnds d S f y → CondEnds d S (spaces_bytes p f) y
spaces_end {d} {S} {f} p E = record {
  follows = spaces_follow p E.follows;
  on_full = λ X m t. ap judged (full_spaced d S zero9 0 X m t p f) ∙ E.on_full X m t;
  on_idle = ap judged (idle_spaced d S p f) ∙ E.on_idle;
}

pub nothing_ends : (d : ℕ) → CondEnds d [] [] (ended (idle 0) [])
unfolding judged run closed finished compared_with total add_list all_within in_32_bits
nothing_ends d = record { follows = at_end; on_full = λ X m t. go (all_within (tot X m t)) (tot X m t); on_idle = refl }
  where
    go : (b : Bool) (T : List ℤ) → if (if b (valued T) over).beyond stopped (ended (idle 0) []) ≡ guard b (ended (idle 0) [])
    go true T = refl
    go false T = refl

pub sum_closed : {n : ℕ} (s : Sum n) (d : ℕ) → n ≤ d → (S : List Frame) (f : List ℕ) (y : SumOut) → CondEnds d S f y → G d S (idle 0) (sum_bytes s f) ≡ guard (all_within (sum_numbers n s)) y
unfolding total
sum_closed {n} s d h S f y E =
    lift (all_within (sum_before s)) (run false d S (behind_sum zero9 0 s) f) (sum_read false s d h S zero9 0 f E.follows)
    ∙ (ap (guard (all_within (sum_before s))) (E.on_full (sum_X s) (sum_m s) (sum_t s) ∙ ap (λ (u : List ℤ). guard (all_within u) y) (sum_total s zero9 0))
    ∙ sum_split s y)

-- ---- comparisons

abbrev code : Op → ℕ
code lt = 1
code le = 2
code gt = 3
code ge = 4

abbrev less9 : Op → List ℤ → List ℤ → List ℤ
less9 lt a b = sub_list b a
less9 le a b = sub_list a b
less9 gt a b = sub_list a b
less9 ge a b = sub_list b a

less_is : {n : ℕ} (op : Op) (s t : Sum n) → less9 op (nine (linear_of n s)) (nine (linear_of n t)) ≡ nine (difference op (linear_of n s) (linear_of n t))
less_is {n} lt s t = nine_sub (linear_of n t) (linear_of n s) (same_long (linear_of n t) (linear_of n s) (sum_eight t) (sum_eight s))
less_is {n} le s t = nine_sub (linear_of n s) (linear_of n t) (same_long (linear_of n s) (linear_of n t) (sum_eight s) (sum_eight t))
less_is {n} gt s t = nine_sub (linear_of n s) (linear_of n t) (same_long (linear_of n s) (linear_of n t) (sum_eight s) (sum_eight t))
less_is {n} ge s t = nine_sub (linear_of n t) (linear_of n s) (same_long (linear_of n t) (linear_of n s) (sum_eight t) (sum_eight s))

-- what stands behind a condition
pub record CondHolds (d : ℕ) (S : List Frame) (f : List ℕ) (y : SumOut) : Type 0 where
  pub follows : FollowsNumber f
  pub on_held : G d S (idle 4) f ≡ y
  pub on_right : (op : Op) (L X : List ℤ) (m : Bool) (t : List ℤ) → G d S (full L (code op) X m t) f ≡ guard (all_within (tot X m t)) (guard (all_within (less9 op L (tot X m t))) y)

pub spaces_hold : {d : ℕ} {S : List Frame} {f : List ℕ} {y : SumOut} (p : Spaces) → CondHolds d S f y → CondHolds d S (spaces_bytes p f) y
spaces_hold {d} {S} {f} p E = record {
  follows = spaces_follow p E.follows;
  on_held = ap judged (held_spaced d S p f) ∙ E.on_held;
  on_right = λ op L X m t. ap judged (full_spaced d S L (code op) X m t p f) ∙ E.on_right op L X m t;
}

module _ (d : ℕ) (S : List Frame) where
  both_case : (a b : Bool) (w : List ℕ) → judged (run false d S (if (if a (if b (idle 4) over) over).beyond (if a (if b (idle 4) over) over) (idle 0)) w) ≡ guard a (guard b (judged (run false d S (idle 0) w)))
  unfolding judged
  both_case true true w = refl
  both_case true false w = ap judged (run_over false d S w)
  both_case false b w = ap judged (run_over false d S w)

  pop_case : (a b : Bool) (w : List ℕ) → judged (run false d S (unless_over (if a (if b (idle 4) over) over) (entered (idle 0) (if a (if b (idle 4) over) over))) w) ≡ guard a (guard b (judged (run false d S (idle 4) w)))
  unfolding judged entered
  pop_case true true w = refl
  pop_case true false w = ap judged (run_over false d S w)
  pop_case false b w = ap judged (run_over false d S w)

  right_and : (op : Op) (L X : List ℤ) (m : Bool) (t : List ℤ) (w : List ℕ) → G d S (full L (code op) X m t) (38 ∷ w) ≡ guard (all_within (tot X m t)) (guard (all_within (less9 op L (tot X m t))) (G d S (idle 0) w))
  unfolding run step closed on_mark on_other on_end finished compared_with total less
  right_and lt L X m t w = both_case (all_within (tot X m t)) (all_within (less9 lt L (tot X m t))) w
  right_and le L X m t w = both_case (all_within (tot X m t)) (all_within (less9 le L (tot X m t))) w
  right_and gt L X m t w = both_case (all_within (tot X m t)) (all_within (less9 gt L (tot X m t))) w
  right_and ge L X m t w = both_case (all_within (tot X m t)) (all_within (less9 ge L (tot X m t))) w

  right_or : (op : Op) (L X : List ℤ) (m : Bool) (t : List ℤ) (w : List ℕ) → G d S (full L (code op) X m t) (124 ∷ w) ≡ guard (all_within (tot X m t)) (guard (all_within (less9 op L (tot X m t))) (G d S (idle 0) w))
  unfolding run step closed on_mark on_other on_end finished compared_with total less
  right_or lt L X m t w = both_case (all_within (tot X m t)) (all_within (less9 lt L (tot X m t))) w
  right_or le L X m t w = both_case (all_within (tot X m t)) (all_within (less9 le L (tot X m t))) w
  right_or gt L X m t w = both_case (all_within (tot X m t)) (all_within (less9 gt L (tot X m t))) w
  right_or ge L X m t w = both_case (all_within (tot X m t)) (all_within (less9 ge L (tot X m t))) w

  right_colon : (op : Op) (L X : List ℤ) (m : Bool) (t : List ℤ) (w : List ℕ) → G d S (full L (code op) X m t) (58 ∷ w) ≡ guard (all_within (tot X m t)) (guard (all_within (less9 op L (tot X m t))) (G d S (idle 0) w))
  unfolding run step closed on_mark on_other on_end finished compared_with total less
  right_colon lt L X m t w = both_case (all_within (tot X m t)) (all_within (less9 lt L (tot X m t))) w
  right_colon le L X m t w = both_case (all_within (tot X m t)) (all_within (less9 le L (tot X m t))) w
  right_colon gt L X m t w = both_case (all_within (tot X m t)) (all_within (less9 gt L (tot X m t))) w
  right_colon ge L X m t w = both_case (all_within (tot X m t)) (all_within (less9 ge L (tot X m t))) w

  pub and_holds : (w : List ℕ) → CondHolds d S (38 ∷ w) (G d S (idle 0) w)
  and_holds w = record { follows = mark refl refl; on_held = ap judged (reset_held d S ampersand w); on_right = λ op L X m t. right_and op L X m t w }

  pub or_holds : (w : List ℕ) → CondHolds d S (124 ∷ w) (G d S (idle 0) w)
  or_holds w = record { follows = mark refl refl; on_held = ap judged (reset_held d S bar w); on_right = λ op L X m t. right_or op L X m t w }

  pub colon_holds : (w : List ℕ) → CondHolds d S (58 ∷ w) (G d S (idle 0) w)
  colon_holds w = record { follows = mark refl refl; on_held = ap judged (reset_held d S colon w); on_right = λ op L X m t. right_colon op L X m t w }

-- ")" behind a condition
right_close : (d : ℕ) (S : List Frame) (op : Op) (L X : List ℤ) (m : Bool) (t : List ℤ) (w : List ℕ) → G d (idle 0 ∷ S) (full L (code op) X m t) (41 ∷ w) ≡ guard
    (all_within (tot X m t)) (guard (all_within (less9 op L (tot X m t))) (G (suc d) S (idle 4) w))
unfolding run closed finished compared_with total less popped
right_close d S lt L X m t w = pop_case (suc d) S (all_within (tot X m t)) (all_within (less9 lt L (tot X m t))) w
right_close d S le L X m t w = pop_case (suc d) S (all_within (tot X m t)) (all_within (less9 le L (tot X m t))) w
right_close d S gt L X m t w = pop_case (suc d) S (all_within (tot X m t)) (all_within (less9 gt L (tot X m t))) w
right_close d S ge L X m t w = pop_case (suc d) S (all_within (tot X m t)) (all_within (less9 ge L (tot X m t))) w

held_close : (d : ℕ) (S : List Frame) (w : List ℕ) → G d (idle 0 ∷ S) (idle 4) (41 ∷ w) ≡ G (suc d) S (idle 4) w
unfolding run closed finished popped entered
held_close d S w = refl

close_holds : (d : ℕ) (S : List Frame) (f : List ℕ) (y : SumOut) → CondHolds (suc d) S f y → CondHolds d (idle 0 ∷ S) (41 ∷ f) y
close_holds d S f y E = record {
  follows = mark refl refl;
  on_held = held_close d S f ∙ E.on_held;
  on_right = λ op L X m t. right_close d S op L X m t f ∙ ap (λ (z : SumOut). guard (all_within (tot X m t)) (guard (all_within (less9 op L (tot X m t))) z)) E.on_held;
}

op_follows : (op : Op) (w : List ℕ) → FollowsNumber (op_bytes op w)
op_follows lt w = mark refl refl
op_follows le w = mark refl refl
op_follows gt w = mark refl refl
op_follows ge w = mark refl refl

op_read : (d : ℕ) (S : List Frame) (op : Op) (X : List ℤ) (m : Bool) (t : List ℤ) (w : List ℕ) → run false d S (full zero9 0 X m t) (op_bytes op w) ≡ guard
    (all_within (tot X m t)) (run false d S (open9 (tot X m t) (code op) zero9 false unit9) w)
unfolding run step closed on_mark on_other on_equals on_compare total
op_read d S lt X m t w = run_if false d S (all_within (tot X m t)) (sided (tot X m t) 1) w
op_read d S le X m t w = run_if false d S (all_within (tot X m t)) (sided (tot X m t) 1) (61 ∷ w)
op_read d S gt X m t w = run_if false d S (all_within (tot X m t)) (sided (tot X m t) 3) w
op_read d S ge X m t w = run_if false d S (all_within (tot X m t)) (sided (tot X m t) 3) (61 ∷ w)

compare_read : {n : ℕ} (s : Sum n) (p : Spaces) (op : Op) (t : Sum n) (d : ℕ) → n ≤ d → (S : List Frame) (f : List ℕ) (y : SumOut) → CondHolds d S f y
    → G d S (idle 0) (sum_bytes s (spaces_bytes p (op_bytes op (sum_bytes t f)))) ≡ guard (all_within (sum_numbers n s ++ (sum_numbers n t ++ nine (difference op (linear_of n s) (linear_of n t))))) y
unfolding total
compare_read {n} s p op t d h S f y E =
    lift (all_within (sum_before s)) (run false d S (behind_sum zero9 0 s) (spaces_bytes p (op_bytes op (sum_bytes t f))))
    (sum_read false s d h S zero9 0 (spaces_bytes p (op_bytes op (sum_bytes t f))) (spaces_follow p (op_follows op (sum_bytes t f))))
    ∙ (ap (guard (all_within (sum_before s)))
    (ap judged (full_spaced d S zero9 0 (sum_X s) (sum_m s) (sum_t s) p (op_bytes op (sum_bytes t f)))
    ∙ (lift (all_within (tot (sum_X s) (sum_m s) (sum_t s))) (run false d S (open9 (tot (sum_X s) (sum_m s) (sum_t s)) (code op) zero9 false unit9) (sum_bytes t f)) (op_read d S op (sum_X s) (sum_m s) (sum_t s) (sum_bytes t f))
    ∙ ap (λ (u : List ℤ). guard (all_within u) (G d S (open9 u (code op) zero9 false unit9) (sum_bytes t f))) (sum_total s zero9 0)))
    ∙ (sum_split s (G d S (open9 (nine (linear_of n s)) (code op) zero9 false unit9) (sum_bytes t f))
    ∙ (ap (guard (all_within (sum_numbers n s)))
    (lift (all_within (sum_before t)) (run false d S (behind_sum (nine (linear_of n s)) (code op) t) f) (sum_read false t d h S (nine (linear_of n s)) (code op) f E.follows)
    ∙ (ap (guard (all_within (sum_before t)))
    (E.on_right op (nine (linear_of n s)) (sum_X t) (sum_m t) (sum_t t)
    ∙ ap (λ (u : List ℤ). guard (all_within u) (guard (all_within (less9 op (nine (linear_of n s)) u)) y)) (sum_total t zero9 0))
    ∙ (sum_split t (guard (all_within (less9 op (nine (linear_of n s)) (nine (linear_of n t)))) y)
    ∙ ap (λ (u : List ℤ). guard (all_within (sum_numbers n t)) (guard (all_within u) y)) (less_is op s t))))
    ∙ g_three (sum_numbers n s) (sum_numbers n t) (nine (difference op (linear_of n s) (linear_of n t))) y)))

-- ---- conditions

nots_read : (x : Nots) (d : ℕ) (S : List Frame) (w : List ℕ) → G d S (idle 0) (nots_bytes x w) ≡ G d S (idle 0) w
unfolding nots_bytes
nots_read unsaid d S w = refl
nots_read (bang x p) d S w = nots_read x d S (spaces_bytes p (33 ∷ w)) ∙ (ap judged (idle_spaced d S p (33 ∷ w)) ∙ ap judged (reset_idle d S exclamation w))

condition_read : (k : Mark) → mark_behind k ≡ 5 → (p : Spaces) (i : Four) (d : ℕ) (S : List Frame) (f : List ℕ) (y : SumOut) → CondHolds d S f y → G d S (idle 0) (spaces_bytes p (mark_byte k ∷ four_byte i ∷ f)) ≡ y
condition_read k e p i d S f y E =
    ap judged (idle_spaced d S p (mark_byte k ∷ four_byte i ∷ f) ∙ (reset_idle d S k (four_byte i ∷ f) ∙ (ap (λ (o : ℕ). run false d S (idle o) (four_byte i ∷ f)) e ∙ condition_digit d S i f)))
    ∙ E.on_held

mutual
  unfolding atom_bytes atom_numbers all_within

  pub atom_read : {n : ℕ} (a : Atom n) (d : ℕ) → n ≤ d → (S : List Frame) (f : List ℕ) (y : SumOut) → CondHolds d S f y → G d S (idle 0) (atom_bytes a f) ≡ guard (all_within (atom_numbers a)) y
  atom_read (now p i) d h S f y E = condition_read big_C refl p i d S f y E
  atom_read (later p i) d h S f y E = condition_read big_N refl p i d S f y E
  atom_read (compare s p op t) d h S f y E = compare_read s p op t d h S f y E
  atom_read (group p o q) zero h S f y E = none_deep false h
  atom_read (group p o q) (suc d) h S f y E =
      ap judged (open_read false d S zero9 0 zero9 false unit9 p (or_bytes o (spaces_bytes q (41 ∷ f))))
      ∙ or_read o d (omega arith) (idle 0 ∷ S) (spaces_bytes q (41 ∷ f)) y (spaces_hold q (close_holds d S f y E))

  pub not_read : {n : ℕ} (x : Not n) (d : ℕ) → n ≤ d → (S : List Frame) (f : List ℕ) (y : SumOut) → CondHolds d S f y → G d S (idle 0) (not_bytes x f) ≡ guard (all_within (not_numbers x)) y
  not_read (negated x a) d h S f y E = nots_read x d S (atom_bytes a f) ∙ atom_read a d h S f y E

  pub and_read : {n : ℕ} (a : And n) (d : ℕ) → n ≤ d → (S : List Frame) (f : List ℕ) (y : SumOut) → CondHolds d S f y → G d S (idle 0) (and_bytes a f) ≡ guard (all_within (and_numbers a)) y
  and_read (alone x) d h S f y E = not_read x d h S f y E
  and_read (both a p x) d h S f y E =
      and_read a d h S (spaces_bytes p (38 ∷ not_bytes x f)) (G d S (idle 0) (not_bytes x f)) (spaces_hold p (and_holds d S (not_bytes x f)))
      ∙ (ap (guard (all_within (and_numbers a))) (not_read x d h S f y E) ∙ g_append (and_numbers a) (not_numbers x) y)

  pub or_read : {n : ℕ} (o : Or n) (d : ℕ) → n ≤ d → (S : List Frame) (f : List ℕ) (y : SumOut) → CondHolds d S f y → G d S (idle 0) (or_bytes o f) ≡ guard (all_within (or_numbers o)) y
  or_read (single a) d h S f y E = and_read a d h S f y E
  or_read (either o p a) d h S f y E =
      or_read o d h S (spaces_bytes p (124 ∷ and_bytes a f)) (G d S (idle 0) (and_bytes a f)) (spaces_hold p (or_holds d S (and_bytes a f)))
      ∙ (ap (guard (all_within (or_numbers o))) (and_read a d h S f y E) ∙ g_append (or_numbers o) (and_numbers a) y)
