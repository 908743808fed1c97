-- A walk over the bytes of a sum: what passes over each of its bytes, and goes in and out at brackets, passes over the sum.
use Rattle.std.specs.Prelude.{◌≡◌, List, ◌∷◌, ℕ, suc}
use Rattle.std.proofs.Math.Path.{refl}
use Rattle.std.proofs.Common.{◌∙◌}
use Rattle.import_grammar.specs.Grammar.{Blank, blank, tab, newline, return, Spaces, none, more, Digit, d0, d1, d2, d3, d4, d5, d6, d7, d8, d9, Digits, one}
use Rattle.import_grammar.specs.Grammar.{also, Index, i1, i2, i3, i4, i5, i6, i7, i8, Sign, adds, takes, ConstFactor, number, kbracket, ConstTerm, kfactor}
use Rattle.import_grammar.specs.Grammar.{ktimes, ConstSum, kterm, kneg, kplus, VaryFactor, level, vbracket, VaryTerm, vfactor, vscaled, vby, VarySum, vterm}
use Rattle.import_grammar.specs.Grammar.{vneg, plus_kv, plus_vk, plus_vv, Sum, constant, varying, digit_byte, blank_byte, index_byte, sign_byte, spaces_bytes}
use Rattle.import_grammar.specs.Grammar.{digits_bytes, kfactor_bytes, kterm_bytes, ksum_bytes, vfactor_bytes, vterm_bytes, vsum_bytes, sum_bytes}

-- what passes over each blank passes over white space
module _ {X : Type 0} (F : List ℕ → X)
    (on-blank : (f : List ℕ) → F (32 ∷ f) ≡ F f)
    (on_tab : (f : List ℕ) → F (9 ∷ f) ≡ F f)
    (on-newline : (f : List ℕ) → F (10 ∷ f) ≡ F f)
    (on_Return : (f : List ℕ) → F (13 ∷ f) ≡ F f) where
  over_one : (b : Blank) (f : List ℕ) → F (blank_byte b ∷ f) ≡ F f
  over_one blank f = on-blank f
  over_one tab f = on_tab f
  over_one newline f = on-newline f
  over_one return f = on_Return f

  pub over_blanks : (q : Spaces) (f : List ℕ) → F (spaces_bytes q f) ≡ F f
  unfolding spaces_bytes
  over_blanks none f = refl
  over_blanks (more q b) f = over_blanks q (blank_byte b ∷ f) ∙ over_one b f

-- the bytes of a sum outside its brackets
pub data SumByte : ℕ → Type 0 where
  s9 : SumByte 9
  s10 : SumByte 10
  s13 : SumByte 13
  s32 : SumByte 32
  s42 : SumByte 42
  s43 : SumByte 43
  s45 : SumByte 45
  s48 : SumByte 48
  s49 : SumByte 49
  s50 : SumByte 50
  s51 : SumByte 51
  s52 : SumByte 52
  s53 : SumByte 53
  s54 : SumByte 54
  s55 : SumByte 55
  s56 : SumByte 56
  s57 : SumByte 57
  s76 : SumByte 76

pub blank_in : (b : Blank) → SumByte (blank_byte b)
blank_in blank = s32
blank_in tab = s9
blank_in newline = s10
blank_in return = s13

pub digit_in : (d : Digit) → SumByte (digit_byte d)
digit_in d0 = s48
digit_in d1 = s49
digit_in d2 = s50
digit_in d3 = s51
digit_in d4 = s52
digit_in d5 = s53
digit_in d6 = s54
digit_in d7 = s55
digit_in d8 = s56
digit_in d9 = s57

pub index_in : (i : Index) → SumByte (index_byte i)
index_in i1 = s49
index_in i2 = s50
index_in i3 = s51
index_in i4 = s52
index_in i5 = s53
index_in i6 = s54
index_in i7 = s55
index_in i8 = s56

sign_in : (g : Sign) → SumByte (sign_byte g)
sign_in adds = s43
sign_in takes = s45

module _ {X : Type 0} (F : ℕ → List ℕ → X)
    (over : (k : ℕ) → SumByte k → (d : ℕ) (f : List ℕ) → F d (k ∷ f) ≡ F d f)
    (opens : (d : ℕ) (f : List ℕ) → F d (40 ∷ f) ≡ F (suc d) f)
    (closes : (d : ℕ) (f : List ℕ) → F (suc d) (41 ∷ f) ≡ F d f) where
  pub over_spaces : (q : Spaces) (d : ℕ) (f : List ℕ) → F d (spaces_bytes q f) ≡ F d f
  unfolding spaces_bytes
  over_spaces none d f = refl
  over_spaces (more q b) d f = over_spaces q d (blank_byte b ∷ f) ∙ over (blank_byte b) (blank_in b) d f

  over_digits : (ds : Digits) (d : ℕ) (f : List ℕ) → F d (digits_bytes ds f) ≡ F d f
  unfolding digits_bytes
  over_digits (one x) d f = over (digit_byte x) (digit_in x) d f
  over_digits (also ds x) d f = over_digits ds d (digit_byte x ∷ f) ∙ over (digit_byte x) (digit_in x) d f

  over_token : (q : Spaces) (k : ℕ) → SumByte k → (d : ℕ) (f : List ℕ) → F d (spaces_bytes q (k ∷ f)) ≡ F d f
  over_token q k s d f = over_spaces q d (k ∷ f) ∙ over k s d f

  over_open : (q : Spaces) (d : ℕ) (f : List ℕ) → F d (spaces_bytes q (40 ∷ f)) ≡ F (suc d) f
  over_open q d f = over_spaces q d (40 ∷ f) ∙ opens d f

  pub over_close : (q : Spaces) (d : ℕ) (f : List ℕ) → F (suc d) (spaces_bytes q (41 ∷ f)) ≡ F d f
  over_close q d f = over_spaces q (suc d) (41 ∷ f) ∙ closes d f

  mutual
    unfolding kfactor_bytes

    over_kfactor : {n : ℕ} (x : ConstFactor n) (d : ℕ) (f : List ℕ) → F d (kfactor_bytes x f) ≡ F d f
    over_kfactor (number p ds) d f = over_spaces p d (digits_bytes ds f) ∙ over_digits ds d f
    over_kfactor (kbracket p s q) d f = over_open p d (ksum_bytes s (spaces_bytes q (41 ∷ f))) ∙ over_ksum s (suc d) (spaces_bytes q (41 ∷ f)) ∙ over_close q d f

    over_kterm : {n : ℕ} (t : ConstTerm n) (d : ℕ) (f : List ℕ) → F d (kterm_bytes t f) ≡ F d f
    over_kterm (kfactor x) d f = over_kfactor x d f
    over_kterm (ktimes t p x) d f = over_kterm t d (spaces_bytes p (42 ∷ kfactor_bytes x f)) ∙ over_token p 42 s42 d (kfactor_bytes x f) ∙ over_kfactor x d f

    over_ksum : {n : ℕ} (s : ConstSum n) (d : ℕ) (f : List ℕ) → F d (ksum_bytes s f) ≡ F d f
    over_ksum (kterm t) d f = over_kterm t d f
    over_ksum (kneg p t) d f = over_token p 45 s45 d (kterm_bytes t f) ∙ over_kterm t d f
    over_ksum (kplus s p g t) d f = over_ksum s d (spaces_bytes p (sign_byte g ∷ kterm_bytes t f)) ∙ over_token p (sign_byte g) (sign_in g) d (kterm_bytes t f) ∙ over_kterm t d f

  mutual
    unfolding vfactor_bytes

    over_vfactor : {n : ℕ} (x : VaryFactor n) (d : ℕ) (f : List ℕ) → F d (vfactor_bytes x f) ≡ F d f
    over_vfactor (level p i) d f = over_token p 76 s76 d (index_byte i ∷ f) ∙ over (index_byte i) (index_in i) d f
    over_vfactor (vbracket p s q) d f = over_open p d (vsum_bytes s (spaces_bytes q (41 ∷ f))) ∙ over_vsum s (suc d) (spaces_bytes q (41 ∷ f)) ∙ over_close q d f

    over_vterm : {n : ℕ} (t : VaryTerm n) (d : ℕ) (f : List ℕ) → F d (vterm_bytes t f) ≡ F d f
    over_vterm (vfactor x) d f = over_vfactor x d f
    over_vterm (vscaled t p x) d f = over_kterm t d (spaces_bytes p (42 ∷ vfactor_bytes x f)) ∙ over_token p 42 s42 d (vfactor_bytes x f) ∙ over_vfactor x d f
    over_vterm (vby t p x) d f = over_vterm t d (spaces_bytes p (42 ∷ kfactor_bytes x f)) ∙ over_token p 42 s42 d (kfactor_bytes x f) ∙ over_kfactor x d f

    over_vsum : {n : ℕ} (s : VarySum n) (d : ℕ) (f : List ℕ) → F d (vsum_bytes s f) ≡ F d f
    over_vsum (vterm t) d f = over_vterm t d f
    over_vsum (vneg p t) d f = over_token p 45 s45 d (vterm_bytes t f) ∙ over_vterm t d f
    over_vsum (plus_kv s p g t) d f = over_ksum s d (spaces_bytes p (sign_byte g ∷ vterm_bytes t f)) ∙ over_token p (sign_byte g) (sign_in g) d (vterm_bytes t f) ∙ over_vterm t d f
    over_vsum (plus_vk s p g t) d f = over_vsum s d (spaces_bytes p (sign_byte g ∷ kterm_bytes t f)) ∙ over_token p (sign_byte g) (sign_in g) d (kterm_bytes t f) ∙ over_kterm t d f
    over_vsum (plus_vv s p g t) d f = over_vsum s d (spaces_bytes p (sign_byte g ∷ vterm_bytes t f)) ∙ over_token p (sign_byte g) (sign_in g) d (vterm_bytes t f) ∙ over_vterm t d f

  pub over_sum : {n : ℕ} (s : Sum n) (d : ℕ) (f : List ℕ) → F d (sum_bytes s f) ≡ F d f
  unfolding sum_bytes
  over_sum (constant s) d f = over_ksum s d f
  over_sum (varying s) d f = over_vsum s d f
