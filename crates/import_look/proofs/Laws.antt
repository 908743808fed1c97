-- What stands at a place, from a reading of it.
use mathlib.Core.Path.{◌≡◌, refl, ◌∙◌}
use mathlib.Core.Bool.{false}
use mathlib.Core.List.{List, ◌∷◌}
use Prim.Native.Nat.{ℕ}
use lib.Dec.{eqb}
use Rattle.import_grammar.specs.Grammar.{Spaces, Digit, d0, d1, d2, d3, d4, d5, d6, d7, d8, d9, Digits, one, also, ConstFactor, number, kbracket, ConstTerm}
use Rattle.import_grammar.specs.Grammar.{kfactor, ktimes, ConstSum, kterm, kneg, kplus, VaryFactor, level, vbracket, VaryTerm, vfactor, vscaled, vby, VarySum}
use Rattle.import_grammar.specs.Grammar.{vterm, vneg, plus_kv, plus_vk, plus_vv, Sum, constant, varying, digit_byte, index_byte, sign_byte, spaces_bytes}
use Rattle.import_grammar.specs.Grammar.{digits_bytes, kfactor_bytes, kterm_bytes, ksum_bytes, vfactor_bytes, vterm_bytes, vsum_bytes, sum_bytes}
use Rattle.import_found.proofs.laws.Passing.{over_blanks}
use Rattle.import_look.specs.Looks.{unspaced}

-- ---- white space

pub unspaced_spaces : (q : Spaces) (f : List ℕ) → unspaced (spaces_bytes q f) ≡ unspaced f
unfolding unspaced
unspaced_spaces = over_blanks unspaced (λ f. refl) (λ f. refl) (λ f. refl) (λ f. refl)

-- ---- how a sum begins: no "C", no "N", no "f", no "="

pub record Starts (u : List ℕ) : Type 0 where
  pub first : ℕ
  pub rest : List ℕ
  pub is : unspaced u ≡ first ∷ rest
  pub no_now : eqb first 67 ≡ false
  pub no_later : eqb first 78 ≡ false
  pub no_forbidden : eqb first 102 ≡ false
  pub no_equals : eqb first 61 ≡ false

digit_starts : (x : Digit) (f : List ℕ) → Starts (digit_byte x ∷ f)
unfolding unspaced
digit_starts d0 f = record { first = 48; rest = f; is = refl; no_now = refl; no_later = refl; no_forbidden = refl; no_equals = refl }
digit_starts d1 f = record { first = 49; rest = f; is = refl; no_now = refl; no_later = refl; no_forbidden = refl; no_equals = refl }
digit_starts d2 f = record { first = 50; rest = f; is = refl; no_now = refl; no_later = refl; no_forbidden = refl; no_equals = refl }
digit_starts d3 f = record { first = 51; rest = f; is = refl; no_now = refl; no_later = refl; no_forbidden = refl; no_equals = refl }
digit_starts d4 f = record { first = 52; rest = f; is = refl; no_now = refl; no_later = refl; no_forbidden = refl; no_equals = refl }
digit_starts d5 f = record { first = 53; rest = f; is = refl; no_now = refl; no_later = refl; no_forbidden = refl; no_equals = refl }
digit_starts d6 f = record { first = 54; rest = f; is = refl; no_now = refl; no_later = refl; no_forbidden = refl; no_equals = refl }
digit_starts d7 f = record { first = 55; rest = f; is = refl; no_now = refl; no_later = refl; no_forbidden = refl; no_equals = refl }
digit_starts d8 f = record { first = 56; rest = f; is = refl; no_now = refl; no_later = refl; no_forbidden = refl; no_equals = refl }
digit_starts d9 f = record { first = 57; rest = f; is = refl; no_now = refl; no_later = refl; no_forbidden = refl; no_equals = refl }

digits_start : (ds : Digits) (f : List ℕ) → Starts (digits_bytes ds f)
unfolding digits_bytes
digits_start (one x) f = digit_starts x f
digits_start (also ds x) f = digits_start ds (digit_byte x ∷ f)

spaced_starts : (q : Spaces) (f : List ℕ) → Starts f → Starts (spaces_bytes q f)
spaced_starts q f h = record { first = h.first; rest = h.rest; is = unspaced_spaces q f ∙ h.is; no_now = h.no_now; no_later = h.no_later; no_forbidden = h.no_forbidden; no_equals = h.no_equals }

open_starts : (f : List ℕ) → Starts (40 ∷ f)
unfolding unspaced
open_starts f = record { first = 40; rest = f; is = refl; no_now = refl; no_later = refl; no_forbidden = refl; no_equals = refl }

minus_starts : (f : List ℕ) → Starts (45 ∷ f)
unfolding unspaced
minus_starts f = record { first = 45; rest = f; is = refl; no_now = refl; no_later = refl; no_forbidden = refl; no_equals = refl }

level_starts : (f : List ℕ) → Starts (76 ∷ f)
unfolding unspaced
level_starts f = record { first = 76; rest = f; is = refl; no_now = refl; no_later = refl; no_forbidden = refl; no_equals = refl }

kfactor_starts : {n : ℕ} (x : ConstFactor n) (f : List ℕ) → Starts (kfactor_bytes x f)
unfolding kfactor_bytes
kfactor_starts (number p ds) f = spaced_starts p (digits_bytes ds f) (digits_start ds f)
kfactor_starts (kbracket p s q) f = spaced_starts p (40 ∷ ksum_bytes s (spaces_bytes q (41 ∷ f))) (open_starts (ksum_bytes s (spaces_bytes q (41 ∷ f))))

kterm_starts : {n : ℕ} (t : ConstTerm n) (f : List ℕ) → Starts (kterm_bytes t f)
unfolding kfactor_bytes
kterm_starts (kfactor x) f = kfactor_starts x f
kterm_starts (ktimes t p x) f = kterm_starts t (spaces_bytes p (42 ∷ kfactor_bytes x f))

ksum_starts : {n : ℕ} (s : ConstSum n) (f : List ℕ) → Starts (ksum_bytes s f)
unfolding kfactor_bytes
ksum_starts (kterm t) f = kterm_starts t f
ksum_starts (kneg p t) f = spaced_starts p (45 ∷ kterm_bytes t f) (minus_starts (kterm_bytes t f))
ksum_starts (kplus s p g t) f = ksum_starts s (spaces_bytes p (sign_byte g ∷ kterm_bytes t f))

vfactor_starts : {n : ℕ} (x : VaryFactor n) (f : List ℕ) → Starts (vfactor_bytes x f)
unfolding vfactor_bytes
vfactor_starts (level p i) f = spaced_starts p (76 ∷ index_byte i ∷ f) (level_starts (index_byte i ∷ f))
vfactor_starts (vbracket p s q) f = spaced_starts p (40 ∷ vsum_bytes s (spaces_bytes q (41 ∷ f))) (open_starts (vsum_bytes s (spaces_bytes q (41 ∷ f))))

vterm_starts : {n : ℕ} (t : VaryTerm n) (f : List ℕ) → Starts (vterm_bytes t f)
unfolding vfactor_bytes
vterm_starts (vfactor x) f = vfactor_starts x f
vterm_starts (vscaled t p x) f = kterm_starts t (spaces_bytes p (42 ∷ vfactor_bytes x f))
vterm_starts (vby t p x) f = vterm_starts t (spaces_bytes p (42 ∷ kfactor_bytes x f))

vsum_starts : {n : ℕ} (s : VarySum n) (f : List ℕ) → Starts (vsum_bytes s f)
unfolding vfactor_bytes
vsum_starts (vterm t) f = vterm_starts t f
vsum_starts (vneg p t) f = spaced_starts p (45 ∷ vterm_bytes t f) (minus_starts (vterm_bytes t f))
vsum_starts (plus_kv s p g t) f = ksum_starts s (spaces_bytes p (sign_byte g ∷ vterm_bytes t f))
vsum_starts (plus_vk s p g t) f = vsum_starts s (spaces_bytes p (sign_byte g ∷ kterm_bytes t f))
vsum_starts (plus_vv s p g t) f = vsum_starts s (spaces_bytes p (sign_byte g ∷ vterm_bytes t f))

pub sum_starts : {n : ℕ} (s : Sum n) (f : List ℕ) → Starts (sum_bytes s f)
unfolding sum_bytes
sum_starts (constant s) f = ksum_starts s f
sum_starts (varying s) f = vsum_starts s f
