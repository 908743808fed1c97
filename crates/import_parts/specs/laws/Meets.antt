-- The walk reads numbers, and the four of the site.
use Rattle.std.specs.Prelude.{◌≡◌, refl, Bool, List, ◌∷◌, ℕ, ◌+◌, ◌*◌, ◌-◌, ◌≤◌, T, ltb}
use Rattle.std.proofs.Common.{sym, ap, ◌∙◌, subst, arith, ltb→lt, nltb→le}
use Rattle.whole.specs.Cases.{if, by_test, by_eq}
use Rattle.import_grammar.specs.Grammar.{Spaces, Digit, d0, d1, d2, d3, d4, d5, d6, d7, d8, d9, Digits, one, also}
use Rattle.import_grammar.specs.Grammar.{f1, f2, f3}
use Rattle.import_grammar.specs.Grammar.{Setting, setting}
use Rattle.import_grammar.specs.Grammar.{digit_byte, spaces_bytes}
use Rattle.import_grammar.specs.Grammar.{digits_bytes, setting_bytes}
use Rattle.import_numbers.specs.Numbers.{digit_value, digits_value}
use Rattle.import_model.specs.Commands.{at_most, byte_most, action_most, byte_of, action_of, setting_of}
use Rattle.import_found.proofs.laws.Passing.{over_blanks}
use Rattle.import_parts.specs.Parts.{site_with, site_bytes}
use Rattle.import_parts.specs.Walk.{past, goes_on, grown, number_value, number_rest}
use Rattle.import_parts.specs.Walk.{setting_value, setting_rest}

-- ---- behind "=" and ":"

pub past_spaces : (q : Spaces) (f : List ℕ) → past 61 (spaces_bytes q f) ≡ past 61 f
unfolding past
past_spaces = over_blanks (past 61) (λ f. refl) (λ f. refl) (λ f. refl) (λ f. refl)

pub colon_spaces : (q : Spaces) (f : List ℕ) → past 58 (spaces_bytes q f) ≡ past 58 f
unfolding past
colon_spaces = over_blanks (past 58) (λ f. refl) (λ f. refl) (λ f. refl) (λ f. refl)

-- ---- numbers

pub value_spaces : (m v : ℕ) (q : Spaces) (f : List ℕ) → number_value m v (spaces_bytes q f) ≡ number_value m v f
unfolding number_value goes_on grown
value_spaces m v = over_blanks (number_value m v) (λ f. refl) (λ f. refl) (λ f. refl) (λ f. refl)

pub rest_spaces : (q : Spaces) (f : List ℕ) → number_rest (spaces_bytes q f) ≡ number_rest f
unfolding number_rest goes_on
rest_spaces = over_blanks number_rest (λ f. refl) (λ f. refl) (λ f. refl) (λ f. refl)

rest_digit : (d : Digit) (f : List ℕ) → number_rest (digit_byte d ∷ f) ≡ number_rest f
unfolding number_rest goes_on
rest_digit d0 f = refl
rest_digit d1 f = refl
rest_digit d2 f = refl
rest_digit d3 f = refl
rest_digit d4 f = refl
rest_digit d5 f = refl
rest_digit d6 f = refl
rest_digit d7 f = refl
rest_digit d8 f = refl
rest_digit d9 f = refl

rest_digits : (ds : Digits) (f : List ℕ) → number_rest (digits_bytes ds f) ≡ number_rest f
unfolding digits_bytes
rest_digits (one d) f = rest_digit d f
rest_digits (also ds d) f = rest_digits ds (digit_byte d ∷ f) ∙ rest_digit d f

value_digit : (m v : ℕ) (d : Digit) (f : List ℕ) → number_value m v (digit_byte d ∷ f) ≡ number_value m (at_most m (v * 10 + digit_value d)) f
unfolding number_value goes_on grown
value_digit m v d0 f = refl
value_digit m v d1 f = refl
value_digit m v d2 f = refl
value_digit m v d3 f = refl
value_digit m v d4 f = refl
value_digit m v d5 f = refl
value_digit m v d6 f = refl
value_digit m v d7 f = refl
value_digit m v d8 f = refl
value_digit m v d9 f = refl

pub small : (m n : ℕ) → n ≤ m → at_most m n ≡ n
unfolding at_most
small m n h = by_eq (ltb m n) (λ (b : Bool). if b m n ≡ n) (λ t. absurd (let g = ltb→lt m n (subst T (sym t) tt) in omega (arith, g, h))) (λ _. refl)

pub great : (m n : ℕ) → m ≤ n → at_most m n ≡ m
unfolding at_most
great m n h = by_test (ltb m n) (λ (b : Bool). if b m n ≡ m) (λ _. refl) (λ t. let g = nltb→le m n t in omega (arith, g, h))

-- cut off at each digit or at the end: the same
capped : (m v d : ℕ) → at_most m (at_most m v * 10 + d) ≡ at_most m (v * 10 + d)
capped m v d =
    by_test (ltb m v) (λ (b : Bool). at_most m (at_most m v * 10 + d) ≡ at_most m (v * 10 + d))
    (λ t. let g = ltb→lt m v t in
    ap (λ (x : ℕ). at_most m (x * 10 + d)) (great m v (omega (arith, g))) ∙ great m (m * 10 + d) (omega arith) ∙ sym (great m (v * 10 + d) (omega (arith, g))))
    (λ t. let g = nltb→le m v t in ap (λ (x : ℕ). at_most m (x * 10 + d)) (small m v g))

first_digit : (d : ℕ) → 0 * 10 + d ≡ d
first_digit d = omega arith

value_digits : (m : ℕ) (ds : Digits) (f : List ℕ) → number_value m 0 (digits_bytes ds f) ≡ number_value m (at_most m (digits_value ds)) f
unfolding digits_bytes digits_value
value_digits m (one d) f = value_digit m 0 d f ∙ ap (λ (x : ℕ). number_value m (at_most m x) f) (first_digit (digit_value d))
value_digits m (also ds d) f =
    value_digits m ds (digit_byte d ∷ f) ∙ value_digit m (at_most m (digits_value ds)) d f ∙ ap (λ (x : ℕ). number_value m x f) (capped m (digits_value ds) (digit_value d))

-- a number ends before g
unfoldable pub NumberEnds : List ℕ → Type 0
NumberEnds g = (m v : ℕ) → number_value m v g ≡ v

pub ends_spaced : (q : Spaces) (g : List ℕ) → NumberEnds g → NumberEnds (spaces_bytes q g)
unfolding NumberEnds
ends_spaced q g h m v = value_spaces m v q g ∙ h m v

pub number_read : (m : ℕ) (q : Spaces) (ds : Digits) (g : List ℕ) → NumberEnds g → number_value m 0 (spaces_bytes q (digits_bytes ds g)) ≡ at_most m (digits_value ds)
unfolding NumberEnds
number_read m q ds g h = value_spaces m 0 q (digits_bytes ds g) ∙ value_digits m ds g ∙ h m (at_most m (digits_value ds))

pub number_left : (q : Spaces) (ds : Digits) (g : List ℕ) → number_rest (spaces_bytes q (digits_bytes ds g)) ≡ number_rest g
number_left q ds g = rest_spaces q (digits_bytes ds g) ∙ rest_digits ds g

-- ---- settings

before_sites : (k : ℕ) → Type 0
before_sites k = (f : List ℕ) → (past 61 (k ∷ f) ≡ past 61 f) × ((number_rest (k ∷ f) ≡ k ∷ f) × NumberEnds (k ∷ f))

m_setting : before_sites 109
unfolding before_sites NumberEnds past number_value number_rest goes_on
m_setting f = (refl, (refl, λ m v. refl))

n_setting : before_sites 110
unfolding before_sites NumberEnds past number_value number_rest goes_on
n_setting f = (refl, (refl, λ m v. refl))

ASetting : before_sites 65
unfolding before_sites NumberEnds past number_value number_rest goes_on
ASetting f = (refl, (refl, λ m v. refl))

WSetting : before_sites 87
unfolding before_sites NumberEnds past number_value number_rest goes_on
WSetting f = (refl, (refl, λ m v. refl))

-- what stands behind a setting's "="
abbrev set_bytes : Setting → List ℕ → List ℕ
set_bytes (setting p q r ds) f = spaces_bytes r (digits_bytes ds f)

pub past_equals : (q : Spaces) (f : List ℕ) → past 61 (spaces_bytes q (61 ∷ f)) ≡ f
unfolding past
past_equals q f = past_spaces q (61 ∷ f)

past_setting : (k : ℕ) → before_sites k → (s : Setting) (f : List ℕ) → past 61 (setting_bytes k s f) ≡ set_bytes s f
unfolding before_sites setting_bytes
past_setting k h (setting p q r ds) f =
    past_spaces p (k ∷ spaces_bytes q (61 ∷ spaces_bytes r (digits_bytes ds f))) ∙ (h (spaces_bytes q (61 ∷ spaces_bytes r (digits_bytes ds f)))).0 ∙ past_equals q (spaces_bytes r (digits_bytes ds f))

-- a number stops at the letter of a setting, and the setting is still to come
past_stopped : (k : ℕ) → before_sites k → (s : Setting) (f : List ℕ) → past 61 (number_rest (setting_bytes k s f)) ≡ set_bytes s f
unfolding before_sites setting_bytes
past_stopped k h (setting p q r ds) f =
    ap (past 61) (rest_spaces p (k ∷ spaces_bytes q (61 ∷ spaces_bytes r (digits_bytes ds f))) ∙ (h (spaces_bytes q (61 ∷ spaces_bytes r (digits_bytes ds f)))).1.0)
    ∙ (h (spaces_bytes q (61 ∷ spaces_bytes r (digits_bytes ds f)))).0 ∙ past_equals q (spaces_bytes r (digits_bytes ds f))

ends_setting : (k : ℕ) → before_sites k → (s : Setting) (f : List ℕ) → NumberEnds (setting_bytes k s f)
unfolding before_sites setting_bytes
ends_setting k h (setting p q r ds) f = ends_spaced p (k ∷ spaces_bytes q (61 ∷ spaces_bytes r (digits_bytes ds f))) (h (spaces_bytes q (61 ∷ spaces_bytes r (digits_bytes ds f)))).1.1

set_read : (m : ℕ) (s : Setting) (f : List ℕ) → NumberEnds f → number_value m 0 (set_bytes s f) ≡ at_most m (digits_value (setting_of s))
set_read m (setting p q r ds) f h = number_read m r ds f h

set_left : (s : Setting) (f : List ℕ) → number_rest (set_bytes s f) ≡ number_rest f
set_left (setting p q r ds) f = number_left r ds f

-- the four settings, as the walk meets them one behind another
pub record SiteRead (l : List ℕ) (m n A W : ℕ) (f : List ℕ) : Type 0 where
  pub levels : setting_value byte_most l ≡ m
  pub conditions : setting_value byte_most (setting_rest l) ≡ n
  pub actions : setting_value action_most (setting_rest (setting_rest l)) ≡ A
  pub weights : setting_value byte_most (setting_rest (setting_rest (setting_rest l))) ≡ W
  pub rest : setting_rest (setting_rest (setting_rest (setting_rest l))) ≡ number_rest f

word_site : (f : List ℕ) → past 61 (115 ∷ 105 ∷ 116 ∷ 101 ∷ f) ≡ past 61 f
unfolding past
word_site f = refl

pub site_read : (p : Spaces) (a b c d : Setting) (f : List ℕ) → NumberEnds f
    → SiteRead (site_bytes (site_with p a b c d) f) (byte_of (setting_of a)) (byte_of (setting_of b)) (action_of (setting_of c)) (byte_of (setting_of d)) f
unfolding site_bytes setting_value setting_rest
site_read p a b c d f h =
    let f3 = setting_bytes 87 d f in
    let f2 = setting_bytes 65 c f3 in
    let f1 = setting_bytes 110 b f2 in
    let l = site_bytes (site_with p a b c d) f in
    let p1 : past 61 l ≡ set_bytes a f1 = past_spaces p (115 ∷ 105 ∷ 116 ∷ 101 ∷ setting_bytes 109 a f1) ∙ word_site (setting_bytes 109 a f1) ∙ past_setting 109 m_setting a f1 in
    let r1 : setting_rest l ≡ number_rest f1 = ap number_rest p1 ∙ set_left a f1 in
    let p2 : past 61 (setting_rest l) ≡ set_bytes b f2 = ap (past 61) r1 ∙ past_stopped 110 n_setting b f2 in
    let r2 : setting_rest (setting_rest l) ≡ number_rest f2 = ap number_rest p2 ∙ set_left b f2 in
    let p3 : past 61 (setting_rest (setting_rest l)) ≡ set_bytes c f3 = ap (past 61) r2 ∙ past_stopped 65 ASetting c f3 in
    let r3 : setting_rest (setting_rest (setting_rest l)) ≡ number_rest f3 = ap number_rest p3 ∙ set_left c f3 in
    let p4 : past 61 (setting_rest (setting_rest (setting_rest l))) ≡ set_bytes d f = ap (past 61) r3 ∙ past_stopped 87 WSetting d f in
    record {
      levels = ap (number_value byte_most 0) p1 ∙ set_read byte_most a f1 (ends_setting 110 n_setting b f2);
      conditions = ap (number_value byte_most 0) p2 ∙ set_read byte_most b f2 (ends_setting 65 ASetting c f3);
      actions = ap (number_value action_most 0) p3 ∙ set_read action_most c f3 (ends_setting 87 WSetting d f);
      weights = ap (number_value byte_most 0) p4 ∙ set_read byte_most d f h;
      rest = ap number_rest p4 ∙ set_left d f;
    }
