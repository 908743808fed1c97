-- The run over a whole text judges all its numbers.
use Rattle.std.specs.Prelude.{◌≡◌, refl, Bool, true, false, List, [], ◌∷◌, ◌++◌, ℕ, T, eqb, leb}
use Rattle.std.proofs.Common.{ap, ap₂, ◌∙◌, subst, arith}
use lib.IntN.{ℤ, pos, *ℤ-zero, *ℤ-one}
use Rattle.whole.specs.Cases.{if}
use Rattle.whole.specs.Linears.{add_list, scale_list}
use Rattle.theory.specs.Diagram.{no_coeffs, ◌⊠◌}
use Rattle.theory.specs.Plain.{in_32_bits}
use Rattle.import_grammar.specs.Grammar.{Spaces, Digits, Four, four_byte, Index, i1, i2, i3, i4, i5, i6, i7, i8, index_byte, number, kfactor, kterm, constant}
use Rattle.import_grammar.specs.Grammar.{Result, worth, forbids, setting, Chars, empty, char, quote, is_plain, Items, head, closed}
use Rattle.import_grammar.specs.Grammar.{named, Opening, reward, chance, next, end, Before, start, case, Text, entire, deepest, spaces_bytes, digits_bytes}
use Rattle.import_grammar.specs.Grammar.{kfactor_bytes, sum_bytes, or_bytes, result_bytes, setting_bytes, chars_bytes, items_bytes, opening_bytes}
use Rattle.import_grammar.specs.Grammar.{before_bytes, text_bytes}
use Rattle.import_numbers.specs.Numbers.{digits_value, level_linear, nine, written, kfactor_linear, kfactor_numbers, sum_numbers, or_numbers, result_numbers, setting_numbers, items_numbers, opening_numbers, before_numbers, numbers, all_within}
use Rattle.import_linears.specs.Nine.{constant9, multiplied}
use Rattle.import_frames.specs.declared.Frame.{Frame}
use Rattle.import_frames.specs.Frames.{zero9, idle, over, on_mark, on_other, on_equals, on_end, finished, compared_with, total, step}
use Rattle.import_frames.specs.Frames as f
use Rattle.import_sums.specs.Run.{SumOut, ended, run}
use Rattle.import_values.specs.Linears.{by_left, nine_scale}
use Rattle.import_values.specs.Within.{Eight}
use Rattle.import_values.specs.Reads.{guard, g_append, g_implied, open9, full, mark, spaces_follow}
use Rattle.import_values.specs.Sums.{g_three, first_tot, product_read, level_digit, kterm_read}
use Rattle.import_texts.specs.Conditions.{judged, G, lift, semi, colon, equals, small_m, small_n, big_A, big_W, small_r, small_c, small_e}
use Rattle.import_texts.specs.Conditions.{quotes, big_N, reset_idle, reset_held, idle_spaced, held_spaced, full_spaced}
use Rattle.import_texts.specs.Conditions.{condition_digit, CondEnds, mark_ends, spaces_end, nothing_ends, sum_closed, spaces_hold, colon_holds, or_read}

abbrev here : Frame → List ℕ → SumOut
here s w = run false deepest [] s w

-- ---- words

word_site : (w : List ℕ) → here (idle 0) (115 ∷ 105 ∷ 116 ∷ 101 ∷ w) ≡ here (idle 0) w
unfolding f.closed on_mark on_other on_equals on_end finished compared_with total add_list all_within in_32_bits run step
word_site w = refl

word_else : (w : List ℕ) → here (idle 0) (101 ∷ 108 ∷ 115 ∷ 101 ∷ w) ≡ here (idle 0) w
unfolding f.closed on_mark on_other on_equals on_end finished compared_with total add_list all_within in_32_bits run step
word_else w = refl

word_forbidden : (w : List ℕ) → here (idle 0) (102 ∷ 111 ∷ 114 ∷ 98 ∷ 105 ∷ 100 ∷ 100 ∷ 101 ∷ 110 ∷ w) ≡ here (idle 0) w
unfolding f.closed on_mark on_other on_equals on_end finished compared_with total add_list all_within in_32_bits run step
word_forbidden w = refl

rest_reward : (w : List ℕ) → here (idle 0) (101 ∷ 119 ∷ 97 ∷ 114 ∷ 100 ∷ w) ≡ here (idle 0) w
unfolding f.closed on_mark on_other on_equals on_end finished compared_with total add_list all_within in_32_bits run step
rest_reward w = refl

rest_chance : (w : List ℕ) → here (idle 0) (104 ∷ 97 ∷ 110 ∷ 99 ∷ 101 ∷ w) ≡ here (idle 0) w
unfolding f.closed on_mark on_other on_equals on_end finished compared_with total add_list all_within in_32_bits run step
rest_chance w = refl

rest_next : (w : List ℕ) → here (idle 0) (101 ∷ 120 ∷ 116 ∷ w) ≡ here (idle 0) w
unfolding f.closed on_mark on_other on_equals on_end finished compared_with total add_list all_within in_32_bits run step
rest_next w = refl

rest_end : (w : List ℕ) → here (idle 0) (110 ∷ 100 ∷ w) ≡ here (idle 0) w
unfolding f.closed on_mark on_other on_equals on_end finished compared_with total add_list all_within in_32_bits run step
rest_end w = refl

rest_name : (w : List ℕ) → here (idle 0) (97 ∷ 109 ∷ 101 ∷ w) ≡ here (idle 0) w
unfolding f.closed on_mark on_other on_equals on_end finished compared_with total add_list all_within in_32_bits run step
rest_name w = refl

-- ---- numbers of the site and the items

digits_closed : (q : Spaces) (ds : Digits) (g : List ℕ) (y : SumOut) → CondEnds deepest [] g y → G deepest [] (idle 0) (spaces_bytes q (digits_bytes ds g)) ≡ guard (all_within (written ds)) y
unfolding sum_bytes kfactor_bytes sum_numbers kfactor_numbers
digits_closed q ds g y E = sum_closed {n = 0} (constant (kterm (kfactor (number q ds)))) deepest (omega arith) [] g y E

value_read : (q r : Spaces) (ds : Digits) (g : List ℕ) (y : SumOut) → CondEnds deepest [] g y → G deepest [] (idle 0) (spaces_bytes q (61 ∷ spaces_bytes r (digits_bytes ds g))) ≡ guard (all_within (written ds)) y
value_read q r ds g y E = ap judged (idle_spaced deepest [] q (61 ∷ spaces_bytes r (digits_bytes ds g)) ∙ reset_idle deepest [] equals (spaces_bytes r (digits_bytes ds g))) ∙ digits_closed r ds g y E

equals_idle : (p : Spaces) (w : List ℕ) → G deepest [] (idle 0) (spaces_bytes p (61 ∷ w)) ≡ G deepest [] (idle 0) w
equals_idle p w = ap judged (idle_spaced deepest [] p (61 ∷ w) ∙ reset_idle deepest [] equals w)

equals_ends : (p : Spaces) (w : List ℕ) → CondEnds deepest [] (spaces_bytes p (61 ∷ w)) (G deepest [] (idle 0) w)
equals_ends p w = spaces_end p (mark_ends deepest [] equals w)

later_read : (i : Four) (p : Spaces) (w : List ℕ) → G deepest [] (idle 5) (four_byte i ∷ spaces_bytes p (61 ∷ w)) ≡ G deepest [] (idle 0) w
later_read i p w = ap judged (condition_digit deepest [] i (spaces_bytes p (61 ∷ w)) ∙ (held_spaced deepest [] p (61 ∷ w) ∙ reset_held deepest [] equals w))

-- a level behind a number: the run takes it for a product, which lies within 32 bits where the number does
level_mode : (i : Index) (L X : List ℤ) (m : Bool) (t : List ℤ) (w : List ℕ) → here (full L 0 X m t) (76 ∷ index_byte i ∷ w) ≡ here (open9 L 0 X m t) (76 ∷ index_byte i ∷ w)
unfolding f.closed run step on_mark
level_mode i1 L X m t w = refl
level_mode i2 L X m t w = refl
level_mode i3 L X m t w = refl
level_mode i4 L X m t w = refl
level_mode i5 L X m t w = refl
level_mode i6 L X m t w = refl
level_mode i7 L X m t w = refl
level_mode i8 L X m t w = refl

level_implied : (v : ℕ) (i : Index) → all_within (pos v ∷ []) ≡ true → all_within (nine (pos v ⊠ level_linear i)) ≡ true
unfolding ◌⊠◌ scale_list all_within in_32_bits lib.IntN.one
level_implied v i1 e = ap₂ (λ (z o : ℤ). all_within (o ∷ z ∷ z ∷ z ∷ z ∷ z ∷ z ∷ z ∷ z ∷ [])) (*ℤ-zero (pos v)) (*ℤ-one (pos v)) ∙ e
level_implied v i2 e = ap₂ (λ (z o : ℤ). all_within (z ∷ o ∷ z ∷ z ∷ z ∷ z ∷ z ∷ z ∷ z ∷ [])) (*ℤ-zero (pos v)) (*ℤ-one (pos v)) ∙ e
level_implied v i3 e = ap₂ (λ (z o : ℤ). all_within (z ∷ z ∷ o ∷ z ∷ z ∷ z ∷ z ∷ z ∷ z ∷ [])) (*ℤ-zero (pos v)) (*ℤ-one (pos v)) ∙ e
level_implied v i4 e = ap₂ (λ (z o : ℤ). all_within (z ∷ z ∷ z ∷ o ∷ z ∷ z ∷ z ∷ z ∷ z ∷ [])) (*ℤ-zero (pos v)) (*ℤ-one (pos v)) ∙ e
level_implied v i5 e = ap₂ (λ (z o : ℤ). all_within (z ∷ z ∷ z ∷ z ∷ o ∷ z ∷ z ∷ z ∷ z ∷ [])) (*ℤ-zero (pos v)) (*ℤ-one (pos v)) ∙ e
level_implied v i6 e = ap₂ (λ (z o : ℤ). all_within (z ∷ z ∷ z ∷ z ∷ z ∷ o ∷ z ∷ z ∷ z ∷ [])) (*ℤ-zero (pos v)) (*ℤ-one (pos v)) ∙ e
level_implied v i7 e = ap₂ (λ (z o : ℤ). all_within (z ∷ z ∷ z ∷ z ∷ z ∷ z ∷ o ∷ z ∷ z ∷ [])) (*ℤ-zero (pos v)) (*ℤ-one (pos v)) ∙ e
level_implied v i8 e = ap₂ (λ (z o : ℤ). all_within (z ∷ z ∷ z ∷ z ∷ z ∷ z ∷ z ∷ o ∷ z ∷ [])) (*ℤ-zero (pos v)) (*ℤ-one (pos v)) ∙ e

level_eight : (v : ℕ) (i : Index) → Eight (pos v ⊠ level_linear i)
unfolding ◌⊠◌ scale_list
level_eight v i1 = record { long = refl }
level_eight v i2 = record { long = refl }
level_eight v i3 = record { long = refl }
level_eight v i4 = record { long = refl }
level_eight v i5 = record { long = refl }
level_eight v i6 = record { long = refl }
level_eight v i7 = record { long = refl }
level_eight v i8 = record { long = refl }

level_closed : (q : Spaces) (ds : Digits) (r : Spaces) (i : Index) (g : List ℕ) (y : SumOut) → CondEnds deepest [] g y → G deepest [] (idle 0)
    (spaces_bytes q (digits_bytes ds (spaces_bytes r (76 ∷ index_byte i ∷ g)))) ≡ guard (all_within (written ds)) y
unfolding kfactor_bytes kfactor_numbers kfactor_linear no_coeffs
level_closed q ds r i g y E =
    let v = digits_value ds in
    let P = pos v ⊠ level_linear i in
    lift (all_within (written ds)) (here (full zero9 0 zero9 false (constant9 (pos v))) (spaces_bytes r (76 ∷ index_byte i ∷ g)))
    (kterm_read false {n = 0} (kfactor (number q ds)) deepest (omega arith) [] zero9 0 zero9 false (spaces_bytes r (76 ∷ index_byte i ∷ g))
    (spaces_follow r (mark refl refl)))
    ∙ (ap (guard (all_within (written ds)))
    (ap judged (full_spaced deepest [] zero9 0 zero9 false (constant9 (pos v)) r (76 ∷ index_byte i ∷ g) ∙ level_mode i zero9 zero9 false (constant9 (pos v)) g)
    ∙ (lift (all_within (nine P)) (here (full zero9 0 zero9 false (nine P)) g)
    (level_digit false deepest [] zero9 0 zero9 false (constant9 (pos v)) i g
    ∙ product_read false deepest [] zero9 0 zero9 false (multiplied (constant9 (pos v)) (nine (level_linear i))) (pos v) (nine (level_linear i)) (nine P) g (by_left (pos v) (nine (level_linear i))) (nine_scale (pos v) (level_linear i)))
    ∙ ap (guard (all_within (nine P))) (E.on_full zero9 false (nine P) ∙ ap (λ (u : List ℤ). guard (all_within u) y) (first_tot P (level_eight v i)))))
    ∙ (g_implied (all_within (written ds)) (all_within (nine P)) (guard (all_within (nine P)) y) (level_implied v i)
    ∙ g_implied (all_within (written ds)) (all_within (nine P)) y (level_implied v i)))

-- ---- names

not_quote : (k : ℕ) → T (is_plain k) → eqb k 34 ≡ false
not_quote k t = go (eqb k 34) refl
  where
    go : (b : Bool) → eqb k 34 ≡ b → eqb k 34 ≡ false
    go false e = e
    go true e = absurd (subst (λ (b : Bool). T (if b false (if (leb 32 k) (leb k 126) false))) e t)

char_read : (k : ℕ) → eqb k 34 ≡ false → (w : List ℕ) → here (idle 6) (k ∷ w) ≡ here (idle 6) w
unfolding run step
char_read k e w = ap (λ (b : Bool). here (if b (idle 0) (idle 6)) w) e

chars_read : {n : ℕ} (cs : Chars n) (w : List ℕ) → here (idle 6) (chars_bytes cs w) ≡ here (idle 6) w
unfolding chars_bytes f.closed on_mark on_other on_equals on_end finished compared_with total add_list all_within in_32_bits run step
chars_read empty w = refl
chars_read (char cs c) w = chars_read cs (c.byte ∷ w) ∙ char_read c.byte (not_quote c.byte c.plain) w
chars_read (quote cs) w = chars_read cs (34 ∷ 34 ∷ w)

name_end : (w : List ℕ) → here (idle 6) (34 ∷ w) ≡ here (idle 0) w
unfolding run step
name_end w = refl

-- ---- results

result_read : (r : Result) (g : List ℕ) (y : SumOut) → CondEnds deepest [] g y → G deepest [] (idle 0) (result_bytes r g) ≡ guard (all_within (result_numbers r)) y
unfolding result_bytes result_numbers all_within
result_read (worth s) g y E = sum_closed s deepest (omega arith) [] g y E
result_read (forbids p) g y E = ap judged (idle_spaced deepest [] p (102 ∷ 111 ∷ 114 ∷ 98 ∷ 105 ∷ 100 ∷ 100 ∷ 101 ∷ 110 ∷ g) ∙ word_forbidden g) ∙ E.on_idle

-- ---- the site and the items

mutual
  unfolding items_bytes items_numbers setting_bytes setting_numbers

  pub items_read : (I : Items) (g : List ℕ) (y : SumOut) → CondEnds deepest [] g y → G deepest [] (idle 0) (items_bytes I g) ≡ guard (all_within (items_numbers I)) y
  items_read (head p (setting p1 q1 r1 e1) (setting p2 q2 r2 e2) (setting p3 q3 r3 e3) (setting p4 q4 r4 e4)) g y E =
      let w4 = spaces_bytes q4 (61 ∷ spaces_bytes r4 (digits_bytes e4 g)) in
      let w3 = spaces_bytes q3 (61 ∷ spaces_bytes r3 (digits_bytes e3 (spaces_bytes p4 (87 ∷ w4)))) in
      let w2 = spaces_bytes q2 (61 ∷ spaces_bytes r2 (digits_bytes e2 (spaces_bytes p3 (65 ∷ w3)))) in
      let w1 = spaces_bytes q1 (61 ∷ spaces_bytes r1 (digits_bytes e1 (spaces_bytes p2 (110 ∷ w2)))) in
      ap judged (idle_spaced deepest [] p (115 ∷ 105 ∷ 116 ∷ 101 ∷ spaces_bytes p1 (109 ∷ w1)) ∙ (word_site (spaces_bytes p1 (109 ∷ w1)) ∙ (idle_spaced deepest [] p1 (109 ∷ w1) ∙ reset_idle deepest [] small_m w1)))
      ∙ (value_read q1 r1 e1 (spaces_bytes p2 (110 ∷ w2)) (G deepest [] (idle 0) w2) (spaces_end p2 (mark_ends deepest [] small_n w2))
      ∙ (ap (guard (all_within (written e1))) (value_read q2 r2 e2 (spaces_bytes p3 (65 ∷ w3)) (G deepest [] (idle 0) w3) (spaces_end p3 (mark_ends deepest [] big_A w3))
      ∙ (ap (guard (all_within (written e2))) (value_read q3 r3 e3 (spaces_bytes p4 (87 ∷ w4)) (G deepest [] (idle 0) w4) (spaces_end p4 (mark_ends deepest [] big_W w4))
      ∙ (ap (guard (all_within (written e3))) (value_read q4 r4 e4 g y E) ∙ g_append (written e3) (written e4) y))
      ∙ g_append (written e2) (written e3 ++ written e4) y))
      ∙ g_append (written e1) (written e2 ++ (written e3 ++ written e4)) y))
  items_read (closed B p q r) g y E =
      before_read B (spaces_bytes p (101 ∷ 108 ∷ 115 ∷ 101 ∷ spaces_bytes q (58 ∷ result_bytes r g)))
      ∙ (ap (guard (all_within (before_numbers B)))
      (ap judged (idle_spaced deepest [] p (101 ∷ 108 ∷ 115 ∷ 101 ∷ spaces_bytes q (58 ∷ result_bytes r g)) ∙
      (word_else (spaces_bytes q (58 ∷ result_bytes r g)) ∙ (idle_spaced deepest [] q (58 ∷ result_bytes r g) ∙ reset_idle deepest [] colon (result_bytes r g))))
      ∙ result_read r g y E)
      ∙ g_append (before_numbers B) (result_numbers r) y)
  items_read (named I p q ds r cs) g y E =
      items_read I (spaces_bytes p (110 ∷ 97 ∷ 109 ∷ 101 ∷ spaces_bytes q (digits_bytes ds (spaces_bytes r (34 ∷ chars_bytes cs (34 ∷ g))))))
      (G deepest [] (idle 0) (97 ∷ 109 ∷ 101 ∷ spaces_bytes q (digits_bytes ds (spaces_bytes r (34 ∷ chars_bytes cs (34 ∷ g))))))
      (spaces_end p (mark_ends deepest [] small_n (97 ∷ 109 ∷ 101 ∷ spaces_bytes q (digits_bytes ds (spaces_bytes r (34 ∷ chars_bytes cs (34 ∷ g)))))))
      ∙ (ap (guard (all_within (items_numbers I)))
      (ap judged (rest_name (spaces_bytes q (digits_bytes ds (spaces_bytes r (34 ∷ chars_bytes cs (34 ∷ g))))))
      ∙ (digits_closed q ds (spaces_bytes r (34 ∷ chars_bytes cs (34 ∷ g))) (G deepest [] (idle 6) (chars_bytes cs (34 ∷ g))) (spaces_end r (mark_ends deepest [] quotes (chars_bytes cs (34 ∷ g))))
      ∙ ap (guard (all_within (written ds))) (ap judged (chars_read cs (34 ∷ g) ∙ name_end g) ∙ E.on_idle)))
      ∙ g_append (items_numbers I) (written ds) y)

  pub opening_read : (O : Opening) (g : List ℕ) → G deepest [] (idle 0) (opening_bytes O g) ≡ guard (all_within (opening_numbers O)) (G deepest [] (idle 0) g)
  opening_read (reward I p q ds r) g =
      let w = spaces_bytes q (digits_bytes ds (spaces_bytes r (61 ∷ g))) in
      items_read I (spaces_bytes p (114 ∷ 101 ∷ 119 ∷ 97 ∷ 114 ∷ 100 ∷ w)) (G deepest [] (idle 0) (101 ∷ 119 ∷ 97 ∷ 114 ∷ 100 ∷ w)) (spaces_end p (mark_ends deepest [] small_r (101 ∷ 119 ∷ 97 ∷ 114 ∷ 100 ∷ w)))
      ∙ (ap (guard (all_within (items_numbers I))) (ap judged (rest_reward w) ∙ digits_closed q ds (spaces_bytes r (61 ∷ g)) (G deepest [] (idle 0) g) (equals_ends r g))
      ∙ g_append (items_numbers I) (written ds) (G deepest [] (idle 0) g))
  opening_read (chance I p q ds r i t) g =
      let w = spaces_bytes q (digits_bytes ds (spaces_bytes r (78 ∷ four_byte i ∷ spaces_bytes t (61 ∷ g)))) in
      items_read I (spaces_bytes p (99 ∷ 104 ∷ 97 ∷ 110 ∷ 99 ∷ 101 ∷ w)) (G deepest [] (idle 0) (104 ∷ 97 ∷ 110 ∷ 99 ∷ 101 ∷ w)) (spaces_end p (mark_ends deepest [] small_c (104 ∷ 97 ∷ 110 ∷ 99 ∷ 101 ∷ w)))
      ∙ (ap (guard (all_within (items_numbers I))) (ap judged (rest_chance w) ∙ (digits_closed q ds (spaces_bytes r (78 ∷ four_byte i ∷ spaces_bytes t (61 ∷ g)))
      (G deepest [] (idle 5) (four_byte i ∷ spaces_bytes t (61 ∷ g))) (spaces_end r (mark_ends deepest [] big_N (four_byte i ∷ spaces_bytes t (61 ∷ g))))
      ∙ ap (guard (all_within (written ds))) (later_read i t g)))
      ∙ g_append (items_numbers I) (written ds) (G deepest [] (idle 0) g))
  opening_read (next I p q ds r i t) g =
      let w = spaces_bytes q (digits_bytes ds (spaces_bytes r (76 ∷ index_byte i ∷ spaces_bytes t (61 ∷ g)))) in
      items_read I (spaces_bytes p (110 ∷ 101 ∷ 120 ∷ 116 ∷ w)) (G deepest [] (idle 0) (101 ∷ 120 ∷ 116 ∷ w)) (spaces_end p (mark_ends deepest [] small_n (101 ∷ 120 ∷ 116 ∷ w)))
      ∙ (ap (guard (all_within (items_numbers I))) (ap judged (rest_next w) ∙ level_closed q ds r i (spaces_bytes t (61 ∷ g)) (G deepest [] (idle 0) g) (equals_ends t g))
      ∙ g_append (items_numbers I) (written ds) (G deepest [] (idle 0) g))
  opening_read (end I p t) g =
      let w = spaces_bytes t (61 ∷ g) in
      items_read I (spaces_bytes p (101 ∷ 110 ∷ 100 ∷ w)) (G deepest [] (idle 0) (110 ∷ 100 ∷ w)) (spaces_end p (mark_ends deepest [] small_e (110 ∷ 100 ∷ w)))
      ∙ ap (guard (all_within (items_numbers I))) (ap judged (rest_end w) ∙ equals_idle t g)

  pub before_read : (B : Before) (g : List ℕ) → G deepest [] (idle 0) (before_bytes B g) ≡ guard (all_within (before_numbers B)) (G deepest [] (idle 0) g)
  before_read (start O) g = opening_read O g
  before_read (case B o p r q) g =
      let w = result_bytes r (spaces_bytes q (59 ∷ g)) in
      before_read B (or_bytes o (spaces_bytes p (58 ∷ w)))
      ∙ (ap (guard (all_within (before_numbers B))) (or_read o deepest (omega arith) [] (spaces_bytes p (58 ∷ w)) (G deepest [] (idle 0) w) (spaces_hold p (colon_holds deepest [] w))
      ∙ ap (guard (all_within (or_numbers o))) (result_read r (spaces_bytes q (59 ∷ g)) (G deepest [] (idle 0) g) (spaces_end q (mark_ends deepest [] semi g))))
      ∙ g_three (before_numbers B) (or_numbers o) (result_numbers r) (G deepest [] (idle 0) g))

-- all numbers of a text, and no others, are judged
pub text_read : (t : Text) → G deepest [] (idle 0) (text_bytes t) ≡ guard (all_within (numbers t)) (ended (idle 0) [])
unfolding text_bytes numbers
text_read (entire I e) = items_read I (spaces_bytes e []) (ended (idle 0) []) (spaces_end e (nothing_ends deepest))
