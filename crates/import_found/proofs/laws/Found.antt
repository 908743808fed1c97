-- What the places in the text emit is what the reading becomes.
use Rattle.std.specs.Prelude.{◌≡◌, refl, Bool, true, false, not, ◌&&◌, List, [], ◌∷◌, ◌++◌, ℕ, ◌+◌, ◌≤◌, eqb, length, ℤ}
use Rattle.std.proofs.Common.{sym, ap, ap₂, ◌∙◌, subst, arith}
use Rattle.whole.specs.Cases.{if}
use Rattle.theory.specs.Diagram.{Linear, ◌⊠◌}
use Rattle.theory.specs.Command.{Command}
use Rattle.theory.specs.Plain.{in_32_bits}
use Rattle.import_grammar.specs.Grammar.{Spaces, none, Digit, d0, d1, d2, d3, d4, d5, d6, d7, d8, d9, Digits, one, also}
use Rattle.import_grammar.specs.Grammar.{Four, Op, ConstFactor, number, kbracket, ConstTerm, kfactor}
use Rattle.import_grammar.specs.Grammar.{ktimes, ConstSum, kterm, kneg, kplus, VaryFactor, level, vbracket, VaryTerm, vfactor, vscaled, vby, VarySum, vterm}
use Rattle.import_grammar.specs.Grammar.{vneg, plus_kv, plus_vk, plus_vv, Sum, constant, varying, Nots, unsaid, bang, Atom, now, later, compare, group, Not}
use Rattle.import_grammar.specs.Grammar.{negated, And, alone, both, Or, single, either, Result, Before, start, case, Opening, digit_byte}
use Rattle.import_grammar.specs.Grammar.{index_byte, four_byte, sign_byte, op_bytes, spaces_bytes, digits_bytes, kfactor_bytes, kterm_bytes, ksum_bytes}
use Rattle.import_grammar.specs.Grammar.{vfactor_bytes, vterm_bytes, vsum_bytes, sum_bytes, nots_bytes, atom_bytes, not_bytes, and_bytes, or_bytes}
use Rattle.import_grammar.specs.Grammar.{result_bytes, opening_bytes, before_bytes, deepest}
use Rattle.import_numbers.specs.Numbers.{joined, kfactor_linear, kterm_linear, ksum_linear, vfactor_linear, vterm_linear, vsum_linear, linear_of}
use Rattle.import_numbers.specs.Numbers.{difference, nine, kfactor_numbers, kterm_numbers, ksum_numbers, vfactor_numbers, vterm_numbers, vsum_numbers}
use Rattle.import_numbers.specs.Numbers.{sum_numbers, atom_numbers, not_numbers, and_numbers, or_numbers, result_numbers, all_within}
use Rattle.import_model.specs.Commands.{compare_commands, nots_commands, atom_commands, not_commands, and_commands, or_commands, result_command, opening_commands, before_commands}
use Rattle.import_found.specs.Places.{Place, atom_at, is_space, is_cond, after_colon, go, next_case, xor, find, AfterAtom, and_behind}
use Rattle.import_found.specs.Places.{or_behind, close_behind, colon_behind, AfterResult, ends_case, Decided, Emits, by_result, by_atom}
use Rattle.import_found.specs.Cases.{opening_of, cases_bytes, cases_commands, cases_numbers}
use Rattle.import_found.proofs.laws.Passing.{over_blanks}
use Rattle.import_found.proofs.laws.Walks.{pass_spaces, pass_atom, pass_not, pass_and, not_cond, cond_or, skip_spaces, skip_result, colon_spaces}

-- ---- a sum without the white space before it

bare_kfactor : {n : ℕ} → ConstFactor n → ConstFactor n
bare_kfactor (number p ds) = number none ds
bare_kfactor (kbracket p s q) = kbracket none s q

bare_kterm : {n : ℕ} → ConstTerm n → ConstTerm n
bare_kterm (kfactor x) = kfactor (bare_kfactor x)
bare_kterm (ktimes t p x) = ktimes (bare_kterm t) p x

bare_ksum : {n : ℕ} → ConstSum n → ConstSum n
bare_ksum (kterm t) = kterm (bare_kterm t)
bare_ksum (kneg p t) = kneg none t
bare_ksum (kplus s p g t) = kplus (bare_ksum s) p g t

bare_vfactor : {n : ℕ} → VaryFactor n → VaryFactor n
bare_vfactor (level p i) = level none i
bare_vfactor (vbracket p s q) = vbracket none s q

bare_vterm : {n : ℕ} → VaryTerm n → VaryTerm n
bare_vterm (vfactor x) = vfactor (bare_vfactor x)
bare_vterm (vscaled t p x) = vscaled (bare_kterm t) p x
bare_vterm (vby t p x) = vby (bare_vterm t) p x

bare_vsum : {n : ℕ} → VarySum n → VarySum n
bare_vsum (vterm t) = vterm (bare_vterm t)
bare_vsum (vneg p t) = vneg none t
bare_vsum (plus_kv s p g t) = plus_kv (bare_ksum s) p g t
bare_vsum (plus_vk s p g t) = plus_vk (bare_vsum s) p g t
bare_vsum (plus_vv s p g t) = plus_vv (bare_vsum s) p g t

bare : {n : ℕ} → Sum n → Sum n
bare (constant s) = constant (bare_ksum s)
bare (varying s) = varying (bare_vsum s)

-- it means the same
kfactor_same : {n : ℕ} (x : ConstFactor n) → kfactor_linear (bare_kfactor x) ≡ kfactor_linear x
unfolding bare_kfactor kfactor_linear
kfactor_same (number p ds) = refl
kfactor_same (kbracket p s q) = refl

kterm_same : {n : ℕ} (t : ConstTerm n) → kterm_linear (bare_kterm t) ≡ kterm_linear t
unfolding bare_kterm kfactor_linear
kterm_same (kfactor x) = kfactor_same x
kterm_same (ktimes t p x) = ap (λ (q : Linear). q.const ⊠ kfactor_linear x) (kterm_same t)

ksum_same : {n : ℕ} (s : ConstSum n) → ksum_linear (bare_ksum s) ≡ ksum_linear s
unfolding bare_ksum kfactor_linear
ksum_same (kterm t) = kterm_same t
ksum_same (kneg p t) = refl
ksum_same (kplus s p g t) = ap (λ (q : Linear). joined g q (kterm_linear t)) (ksum_same s)

vfactor_same : {n : ℕ} (x : VaryFactor n) → vfactor_linear (bare_vfactor x) ≡ vfactor_linear x
unfolding bare_vfactor vfactor_linear
vfactor_same (level p i) = refl
vfactor_same (vbracket p s q) = refl

vterm_same : {n : ℕ} (t : VaryTerm n) → vterm_linear (bare_vterm t) ≡ vterm_linear t
unfolding bare_vterm vfactor_linear
vterm_same (vfactor x) = vfactor_same x
vterm_same (vscaled t p x) = ap (λ (q : Linear). q.const ⊠ vfactor_linear x) (kterm_same t)
vterm_same (vby t p x) = ap (λ (q : Linear). (kfactor_linear x).const ⊠ q) (vterm_same t)

vsum_same : {n : ℕ} (s : VarySum n) → vsum_linear (bare_vsum s) ≡ vsum_linear s
unfolding bare_vsum vfactor_linear
vsum_same (vterm t) = vterm_same t
vsum_same (vneg p t) = refl
vsum_same (plus_kv s p g t) = ap (λ (q : Linear). joined g q (vterm_linear t)) (ksum_same s)
vsum_same (plus_vk s p g t) = ap (λ (q : Linear). joined g q (kterm_linear t)) (vsum_same s)
vsum_same (plus_vv s p g t) = ap (λ (q : Linear). joined g q (vterm_linear t)) (vsum_same s)

sum_same : (n : ℕ) (s : Sum n) → linear_of n (bare s) ≡ linear_of n s
unfolding bare linear_of
sum_same n (constant s) = ksum_same s
sum_same n (varying s) = vsum_same s

-- and has the same numbers
kfactor_alike : {n : ℕ} (x : ConstFactor n) → kfactor_numbers (bare_kfactor x) ≡ kfactor_numbers x
unfolding bare_kfactor kfactor_numbers
kfactor_alike (number p ds) = refl
kfactor_alike (kbracket p s q) = refl

kterm_alike : {n : ℕ} (t : ConstTerm n) → kterm_numbers (bare_kterm t) ≡ kterm_numbers t
unfolding bare_kterm kfactor_numbers kfactor_linear
kterm_alike (kfactor x) = kfactor_alike x
kterm_alike (ktimes t p x) = ap₂ (λ (l : List ℤ) (q : Linear). l ++ (kfactor_numbers x ++ nine (q.const ⊠ kfactor_linear x))) (kterm_alike t) (kterm_same t)

ksum_alike : {n : ℕ} (s : ConstSum n) → ksum_numbers (bare_ksum s) ≡ ksum_numbers s
unfolding bare_ksum kfactor_numbers kfactor_linear
ksum_alike (kterm t) = kterm_alike t
ksum_alike (kneg p t) = refl
ksum_alike (kplus s p g t) = ap₂ (λ (l : List ℤ) (q : Linear). l ++ (kterm_numbers t ++ nine (joined g q (kterm_linear t)))) (ksum_alike s) (ksum_same s)

vfactor_alike : {n : ℕ} (x : VaryFactor n) → vfactor_numbers (bare_vfactor x) ≡ vfactor_numbers x
unfolding bare_vfactor vfactor_numbers
vfactor_alike (level p i) = refl
vfactor_alike (vbracket p s q) = refl

vterm_alike : {n : ℕ} (t : VaryTerm n) → vterm_numbers (bare_vterm t) ≡ vterm_numbers t
unfolding bare_vterm vfactor_numbers vfactor_linear
vterm_alike (vfactor x) = vfactor_alike x
vterm_alike (vscaled t p x) = ap₂ (λ (l : List ℤ) (q : Linear). l ++ (vfactor_numbers x ++ nine (q.const ⊠ vfactor_linear x))) (kterm_alike t) (kterm_same t)
vterm_alike (vby t p x) = ap₂ (λ (l : List ℤ) (q : Linear). l ++ (kfactor_numbers x ++ nine ((kfactor_linear x).const ⊠ q))) (vterm_alike t) (vterm_same t)

vsum_alike : {n : ℕ} (s : VarySum n) → vsum_numbers (bare_vsum s) ≡ vsum_numbers s
unfolding bare_vsum vfactor_numbers vfactor_linear
vsum_alike (vterm t) = vterm_alike t
vsum_alike (vneg p t) = refl
vsum_alike (plus_kv s p g t) = ap₂ (λ (l : List ℤ) (q : Linear). l ++ (vterm_numbers t ++ nine (joined g q (vterm_linear t)))) (ksum_alike s) (ksum_same s)
vsum_alike (plus_vk s p g t) = ap₂ (λ (l : List ℤ) (q : Linear). l ++ (kterm_numbers t ++ nine (joined g q (kterm_linear t)))) (vsum_alike s) (vsum_same s)
vsum_alike (plus_vv s p g t) = ap₂ (λ (l : List ℤ) (q : Linear). l ++ (vterm_numbers t ++ nine (joined g q (vterm_linear t)))) (vsum_alike s) (vsum_same s)

sum_alike : (n : ℕ) (s : Sum n) → sum_numbers n (bare s) ≡ sum_numbers n s
unfolding bare sum_numbers
sum_alike n (constant s) = ksum_alike s
sum_alike n (varying s) = vsum_alike s

atom_alike : {n : ℕ} (s : Sum n) (p : Spaces) (op : Op) (t : Sum n) → atom_numbers (compare (bare s) p op t) ≡ atom_numbers (compare s p op t)
unfolding atom_numbers
atom_alike {n} s p op t = ap₂ (λ (l : List ℤ) (q : Linear). l ++ (sum_numbers _ t ++ nine (difference op q (linear_of _ t)))) (sum_alike n s) (sum_same n s)

-- ---- all of two lists

both_true : (c d e : Bool) → (d ≡ true → e ≡ true) → (c && d) ≡ true → (c && e) ≡ true
both_true true d e h f = h f
both_true false d e h f = f

last_true : (c d : Bool) → (c && d) ≡ true → d ≡ true
last_true true d f = f
last_true false d f = absurd (let w : ◌≡◌ {A = ℕ} 0 1 = cc in omega arith)

pub within_apart : (a b : List ℤ) → all_within (a ++ b) ≡ true → (all_within a ≡ true) × (all_within b ≡ true)
unfolding all_within
within_apart [] b e = (refl, e)
within_apart (z ∷ a) b e =
    let d = within_apart a b (last_true (in_32_bits z) (all_within (a ++ b)) e) in
    (both_true (in_32_bits z) (all_within (a ++ b)) (all_within a) (λ f. d.0) e, d.1)

-- ---- where an atom begins

go_spaces : (q : Spaces) (f : List ℕ) (c : Bool) (ps : List Bool) → go (spaces_bytes q f) c ps ≡ go f c ps
unfolding go is_space
go_spaces q f c ps = over_blanks (λ (l : List ℕ). go l c ps) (λ f. refl) (λ f. refl) (λ f. refl) (λ f. refl) q f

-- an atom begins here
abbrev StartsAtom : List ℕ → List ℕ → Type 0
StartsAtom w u = (c : Bool) (ps : List Bool) → go w c ps ≡ atom_at c ps u

digit_starts : (x : Digit) (f : List ℕ) → StartsAtom (digit_byte x ∷ f) (digit_byte x ∷ f)
unfolding go is_space
digit_starts d0 f c ps = refl
digit_starts d1 f c ps = refl
digit_starts d2 f c ps = refl
digit_starts d3 f c ps = refl
digit_starts d4 f c ps = refl
digit_starts d5 f c ps = refl
digit_starts d6 f c ps = refl
digit_starts d7 f c ps = refl
digit_starts d8 f c ps = refl
digit_starts d9 f c ps = refl

digits_start : (ds : Digits) (f : List ℕ) → StartsAtom (digits_bytes ds f) (digits_bytes ds f)
unfolding digits_bytes
digits_start (one x) f = digit_starts x f
digits_start (also ds x) f = digits_start ds (digit_byte x ∷ f)

bracket_starts : {n : ℕ} (s : Sum n) (p q : Spaces) (f : List ℕ) → StartsAtom (spaces_bytes p (40 ∷ sum_bytes s (spaces_bytes q (41 ∷ f)))) (40 ∷ sum_bytes s (spaces_bytes q (41 ∷ f)))
unfolding go
bracket_starts s p q f c ps =
    go_spaces p (40 ∷ sum_bytes s (spaces_bytes q (41 ∷ f))) c ps
    ∙ ap (λ (b : Bool). if b (go (sum_bytes s (spaces_bytes q (41 ∷ f))) false (c ∷ ps)) (atom_at c ps (40 ∷ sum_bytes s (spaces_bytes q (41 ∷ f))))) (not_cond s q f)

minus_starts : (p : Spaces) (f : List ℕ) → StartsAtom (spaces_bytes p (45 ∷ f)) (45 ∷ f)
unfolding go is_space
minus_starts p f c ps = go_spaces p (45 ∷ f) c ps

kfactor_starts : {n : ℕ} (x : ConstFactor n) (f : List ℕ) → StartsAtom (kfactor_bytes x f) (kfactor_bytes (bare_kfactor x) f)
unfolding kfactor_bytes bare_kfactor spaces_bytes sum_bytes
kfactor_starts (number p ds) f c ps = go_spaces p (digits_bytes ds f) c ps ∙ digits_start ds f c ps
kfactor_starts (kbracket p s q) f c ps = bracket_starts (constant s) p q f c ps

kterm_starts : {n : ℕ} (t : ConstTerm n) (f : List ℕ) → StartsAtom (kterm_bytes t f) (kterm_bytes (bare_kterm t) f)
unfolding kfactor_bytes bare_kterm
kterm_starts (kfactor x) f = kfactor_starts x f
kterm_starts (ktimes t p x) f = kterm_starts t (spaces_bytes p (42 ∷ kfactor_bytes x f))

ksum_starts : {n : ℕ} (s : ConstSum n) (f : List ℕ) → StartsAtom (ksum_bytes s f) (ksum_bytes (bare_ksum s) f)
unfolding kfactor_bytes bare_ksum spaces_bytes
ksum_starts (kterm t) f = kterm_starts t f
ksum_starts (kneg p t) f = minus_starts p (kterm_bytes t f)
ksum_starts (kplus s p g t) f = ksum_starts s (spaces_bytes p (sign_byte g ∷ kterm_bytes t f))

vfactor_starts : {n : ℕ} (x : VaryFactor n) (f : List ℕ) → StartsAtom (vfactor_bytes x f) (vfactor_bytes (bare_vfactor x) f)
unfolding vfactor_bytes bare_vfactor spaces_bytes sum_bytes go is_space
vfactor_starts (level p i) f c ps = go_spaces p (76 ∷ index_byte i ∷ f) c ps
vfactor_starts (vbracket p s q) f c ps = bracket_starts (varying s) p q f c ps

vterm_starts : {n : ℕ} (t : VaryTerm n) (f : List ℕ) → StartsAtom (vterm_bytes t f) (vterm_bytes (bare_vterm t) f)
unfolding vfactor_bytes bare_vterm
vterm_starts (vfactor x) f = vfactor_starts x f
vterm_starts (vscaled t p x) f = kterm_starts t (spaces_bytes p (42 ∷ vfactor_bytes x f))
vterm_starts (vby t p x) f = vterm_starts t (spaces_bytes p (42 ∷ kfactor_bytes x f))

vsum_starts : {n : ℕ} (s : VarySum n) (f : List ℕ) → StartsAtom (vsum_bytes s f) (vsum_bytes (bare_vsum s) f)
unfolding vfactor_bytes bare_vsum spaces_bytes
vsum_starts (vterm t) f = vterm_starts t f
vsum_starts (vneg p t) f = minus_starts p (vterm_bytes t f)
vsum_starts (plus_kv s p g t) f = ksum_starts s (spaces_bytes p (sign_byte g ∷ vterm_bytes t f))
vsum_starts (plus_vk s p g t) f = vsum_starts s (spaces_bytes p (sign_byte g ∷ kterm_bytes t f))
vsum_starts (plus_vv s p g t) f = vsum_starts s (spaces_bytes p (sign_byte g ∷ vterm_bytes t f))

sum_starts : {n : ℕ} (s : Sum n) (f : List ℕ) → StartsAtom (sum_bytes s f) (sum_bytes (bare s) f)
unfolding sum_bytes bare
sum_starts (constant s) f = ksum_starts s f
sum_starts (varying s) f = vsum_starts s f

-- ---- what is emitted

-- what may follow a condition
data AfterOr : ℕ → Type 0 where
  or_next : AfterOr 124
  close_next : AfterOr 41
  colon_next : AfterOr 58

as_atom : {k : ℕ} → AfterOr k → AfterAtom k
as_atom or_next = or_behind
as_atom close_next = close_behind
as_atom colon_next = colon_behind

calm : {k : ℕ} → AfterOr k → (f : List ℕ) (ps : List Bool) → find (k ∷ f) 0 true true ps ≡ find (k ∷ f) 0 true false ps
unfolding find
calm or_next f ps = refl
calm close_next f ps = refl
calm colon_next f ps = refl

moved : {t u : Place} {C : List Command} → t ≡ u → Emits u C → Emits t C
moved {C = C} e h = subst (λ (x : Place). Emits x C) (sym e) h

-- an atom that begins here, behind white space
atom_emits : {n : ℕ} (x : Atom n) (w : List ℕ) (q : Spaces) (k : ℕ) (f : List ℕ) (b : Bool) (ps : List Bool) (Y N : List Command) → n + length ps ≤ deepest → Decided x → AfterAtom k → all_within (atom_numbers x) ≡ true
    → StartsAtom w (atom_bytes x (spaces_bytes q (k ∷ f)))
    → Emits (find (spaces_bytes q (k ∷ f)) 0 (not b) false ps) Y → Emits (find (spaces_bytes q (k ∷ f)) 0 b false ps) N → Emits (go w b ps) (atom_commands x Y N)
atom_emits x w q k f b ps Y N m d t j g y z =
    moved (g b ps) (by_atom x q k f m d t refl j Y N (moved (pass_atom x (spaces_bytes q (k ∷ f)) 0 (not b) false ps) y) (moved (pass_atom x (spaces_bytes q (k ∷ f)) 0 b false ps) z))

xor_yes : (b : Bool) → xor b true ≡ not b
xor_yes true = refl
xor_yes false = refl

xor_not : (b : Bool) → xor b false ≡ b
xor_not true = refl
xor_not false = refl

-- whether an odd number of "!" stand there
abbrev sign : Nots → Bool → Bool
sign unsaid b = b
sign (bang x p) b = not (sign x b)

if_not : (b : Bool) (x y : List Command) → if b x y ≡ if (not b) y x
if_not true x y = refl
if_not false x y = refl

nots_as : (x : Nots) (c : List Command → List Command → List Command) (Y N : List Command) → nots_commands x c Y N ≡ if (sign x false) (c N Y) (c Y N)
unfolding nots_commands
nots_as unsaid c Y N = refl
nots_as (bang x p) c Y N = nots_as x (λ y z. c z y) Y N ∙ if_not (sign x false) (c Y N) (c N Y)

go_nots : (x : Nots) (f : List ℕ) (b : Bool) (ps : List Bool) → go (nots_bytes x f) b ps ≡ go f (sign x b) ps
unfolding nots_bytes go
go_nots unsaid f b ps = refl
go_nots (bang x p) f b ps = go_nots x (spaces_bytes p (33 ∷ f)) b ps ∙ go_spaces p (33 ∷ f) (sign x b) ps

-- an atom under a sign
signed : (b : Bool) (w F : List ℕ) (ps : List Bool) (c : List Command → List Command → List Command) (Y N : List Command)
    → ((s : Bool) (A B : List Command) → Emits (find F 0 (not s) false ps) A → Emits (find F 0 s false ps) B → Emits (go w s ps) (c A B))
    → Emits (find F 0 true false ps) Y → Emits (find F 0 false false ps) N → Emits (go w b ps) (if b (c N Y) (c Y N))
signed true w F ps c Y N h y z = h true N Y z y
signed false w F ps c Y N h y z = h false Y N y z

now_starts : (p : Spaces) (i : Four) (f : List ℕ) → StartsAtom (spaces_bytes p (67 ∷ four_byte i ∷ f)) (67 ∷ four_byte i ∷ f)
unfolding go is_space
now_starts p i f c ps = go_spaces p (67 ∷ four_byte i ∷ f) c ps

later_starts : (p : Spaces) (i : Four) (f : List ℕ) → StartsAtom (spaces_bytes p (78 ∷ four_byte i ∷ f)) (78 ∷ four_byte i ∷ f)
unfolding go is_space
later_starts p i f c ps = go_spaces p (78 ∷ four_byte i ∷ f) c ps

mutual
  unfolding atom_bytes find go or_commands spaces_bytes atom_numbers all_within

  atom_out : {n : ℕ} (x : Atom n) (q : Spaces) (k : ℕ) (t : AfterAtom k) (f : List ℕ) (ps : List Bool) (m : n + length ps ≡ deepest) (j : all_within (atom_numbers x) ≡ true) (b : Bool) (Y N : List Command)
      → Emits (find (spaces_bytes q (k ∷ f)) 0 (not b) false ps) Y → Emits (find (spaces_bytes q (k ∷ f)) 0 b false ps) N
      → Emits (go (atom_bytes x (spaces_bytes q (k ∷ f))) b ps) (atom_commands x Y N)
  atom_out {n} (now p i) q k t f ps m j b Y N y z =
      atom_emits {n = n} (now none i) (spaces_bytes p (67 ∷ four_byte i ∷ spaces_bytes q (k ∷ f))) q k f b ps Y N (omega (arith, m)) tt t refl (now_starts p i (spaces_bytes q (k ∷ f))) y z
  atom_out {n} (later p i) q k t f ps m j b Y N y z =
      atom_emits {n = n} (later none i) (spaces_bytes p (78 ∷ four_byte i ∷ spaces_bytes q (k ∷ f))) q k f b ps Y N (omega (arith, m)) tt t refl (later_starts p i (spaces_bytes q (k ∷ f))) y z
  atom_out (compare s p op r) q k t f ps m j b Y N y z =
      subst (λ (a : Linear). Emits (go (sum_bytes s (spaces_bytes p (op_bytes op (sum_bytes r (spaces_bytes q (k ∷ f)))))) b ps) (compare_commands op a (linear_of _ r) Y N)) (sum_same _ s)
      (atom_emits (compare (bare s) p op r) (sum_bytes s (spaces_bytes p (op_bytes op (sum_bytes r (spaces_bytes q (k ∷ f)))))) q k f b ps Y N (omega (arith, m)) tt t
      (ap all_within (atom_alike s p op r) ∙ j) (sum_starts s (spaces_bytes p (op_bytes op (sum_bytes r (spaces_bytes q (k ∷ f)))))) y z)
  atom_out (group p o r) q k t f ps m j b Y N y z =
      moved
      (go_spaces p (40 ∷ or_bytes o (spaces_bytes r (41 ∷ spaces_bytes q (k ∷ f)))) b ps
      ∙ ap (λ (c : Bool). if c (go (or_bytes o (spaces_bytes r (41 ∷ spaces_bytes q (k ∷ f)))) false (b ∷ ps)) (atom_at b ps (40 ∷ or_bytes o (spaces_bytes r (41 ∷ spaces_bytes q (k ∷ f))))))
      (cond_or o (spaces_bytes r (41 ∷ spaces_bytes q (k ∷ f))) 0))
      (or_out o r 41 close_next (spaces_bytes q (k ∷ f)) (b ∷ ps) (omega (arith, m)) j Y N
      (moved (pass_spaces r (41 ∷ spaces_bytes q (k ∷ f)) 0 true false (b ∷ ps) ∙ ap (λ (v : Bool). find (spaces_bytes q (k ∷ f)) 0 v false ps) (xor_yes b)) y)
      (moved (pass_spaces r (41 ∷ spaces_bytes q (k ∷ f)) 0 false false (b ∷ ps) ∙ ap (λ (v : Bool). find (spaces_bytes q (k ∷ f)) 0 v false ps) (xor_not b)) z))

  not_out : {n : ℕ} (x : Not n) (q : Spaces) (k : ℕ) (t : AfterAtom k) (f : List ℕ) (ps : List Bool) (m : n + length ps ≡ deepest) (j : all_within (not_numbers x) ≡ true) (Y N : List Command)
      → Emits (find (spaces_bytes q (k ∷ f)) 0 true false ps) Y → Emits (find (spaces_bytes q (k ∷ f)) 0 false false ps) N
      → Emits (go (not_bytes x (spaces_bytes q (k ∷ f))) false ps) (not_commands x Y N)
  not_out (negated x' x) q k t f ps m j Y N y z =
      subst (Emits (go (nots_bytes x' (atom_bytes x (spaces_bytes q (k ∷ f)))) false ps)) (sym (nots_as x' (λ a b. atom_commands x a b) Y N))
      (moved (go_nots x' (atom_bytes x (spaces_bytes q (k ∷ f))) false ps)
      (signed (sign x' false) (atom_bytes x (spaces_bytes q (k ∷ f))) (spaces_bytes q (k ∷ f)) ps (λ a b. atom_commands x a b) Y N
      (λ s A B g h. atom_out x q k t f ps m j s A B g h) y z))

  and_out : {n : ℕ} (x : And n) (q : Spaces) (k : ℕ) (t : AfterAtom k) (f : List ℕ) (ps : List Bool) (m : n + length ps ≡ deepest) (j : all_within (and_numbers x) ≡ true) (Y N : List Command)
      → Emits (find (spaces_bytes q (k ∷ f)) 0 true false ps) Y → Emits (find (spaces_bytes q (k ∷ f)) 0 false false ps) N
      → Emits (go (and_bytes x (spaces_bytes q (k ∷ f))) false ps) (and_commands x Y N)
  and_out (alone x) q k t f ps m j Y N y z = not_out x q k t f ps m j Y N y z
  and_out (both x p u) q k t f ps m j Y N y z =
      let d = within_apart (and_numbers x) (not_numbers u) j in
      and_out x p 38 and_behind (not_bytes u (spaces_bytes q (k ∷ f))) ps m d.0 (not_commands u Y N) N
      (moved (pass_spaces p (38 ∷ not_bytes u (spaces_bytes q (k ∷ f))) 0 true false ps) (not_out u q k t f ps m d.1 Y N y z))
      (moved (pass_spaces p (38 ∷ not_bytes u (spaces_bytes q (k ∷ f))) 0 false false ps ∙ pass_not u (spaces_bytes q (k ∷ f)) 0 false false ps) z)

  or_out : {n : ℕ} (x : Or n) (q : Spaces) (k : ℕ) (t : AfterOr k) (f : List ℕ) (ps : List Bool) (m : n + length ps ≡ deepest) (j : all_within (or_numbers x) ≡ true) (Y N : List Command)
      → Emits (find (spaces_bytes q (k ∷ f)) 0 true false ps) Y → Emits (find (spaces_bytes q (k ∷ f)) 0 false false ps) N
      → Emits (go (or_bytes x (spaces_bytes q (k ∷ f))) false ps) (or_commands x Y N)
  or_out (single x) q k t f ps m j Y N y z = and_out x q k (as_atom t) f ps m j Y N y z
  or_out (either x p u) q k t f ps m j Y N y z =
      let d = within_apart (or_numbers x) (and_numbers u) j in
      or_out x p 124 or_next (and_bytes u (spaces_bytes q (k ∷ f))) ps m d.0 Y (and_commands u Y N)
      (moved
      (pass_spaces p (124 ∷ and_bytes u (spaces_bytes q (k ∷ f))) 0 true false ps ∙ pass_and u (spaces_bytes q (k ∷ f)) ps
      ∙ pass_spaces q (k ∷ f) 0 true true ps ∙ calm t f ps ∙ sym (pass_spaces q (k ∷ f) 0 true false ps)) y)
      (moved (pass_spaces p (124 ∷ and_bytes u (spaces_bytes q (k ∷ f))) 0 false false ps) (and_out u q k (as_atom t) f ps m d.1 Y N y z))

-- ---- an item

pub bytes_apart : (B : Before) (f : List ℕ) → before_bytes B f ≡ opening_bytes (opening_of B) (cases_bytes B f)
unfolding before_bytes opening_of cases_bytes
bytes_apart (start O) f = refl
bytes_apart (case B o p r q) f = bytes_apart B (or_bytes o (spaces_bytes p (58 ∷ result_bytes r (spaces_bytes q (59 ∷ f)))))

pub commands_apart : (B : Before) (C : List Command) → before_commands B C ≡ opening_commands (opening_of B) (cases_commands B C)
unfolding before_commands opening_of cases_commands
commands_apart (start O) C = refl
commands_apart (case B o p r q) C = commands_apart B (or_commands o (result_command r ∷ []) C)

cases_out : (B : Before) (w : List ℕ) (C : List Command) → all_within (cases_numbers B) ≡ true → Emits (go w false []) C → Emits (go (cases_bytes B w) false []) (cases_commands B C)
unfolding cases_bytes cases_commands cases_numbers find next_case
cases_out (start O) w C j h = h
cases_out (case B o p r q) w C j h =
    let d = within_apart (cases_numbers B) (or_numbers o ++ result_numbers r) j in
    let g = within_apart (or_numbers o) (result_numbers r) d.1 in
    cases_out B (or_bytes o (spaces_bytes p (58 ∷ result_bytes r (spaces_bytes q (59 ∷ w))))) (or_commands o (result_command r ∷ []) C) d.0
    (or_out o p 58 colon_next (result_bytes r (spaces_bytes q (59 ∷ w))) [] refl g.0 (result_command r ∷ []) C
    (moved (pass_spaces p (58 ∷ result_bytes r (spaces_bytes q (59 ∷ w))) 0 true false []) (by_result r q (59 ∷ w) refl ends_case g.1))
    (moved (pass_spaces p (58 ∷ result_bytes r (spaces_bytes q (59 ∷ w))) 0 false false [] ∙ skip_result r (spaces_bytes q (59 ∷ w)) ∙ skip_spaces q (59 ∷ w)) h))

-- the commands at the first place of an item are those of its cases, where no number of it is beyond
pub item_out : (B : Before) (p q : Spaces) (r : Result) (e : Spaces) (f : List ℕ) → AfterResult f → all_within (cases_numbers B) ≡ true → all_within (result_numbers r) ≡ true
    → Emits (go (cases_bytes B (spaces_bytes p (101 ∷ 108 ∷ 115 ∷ 101 ∷ spaces_bytes q (58 ∷ result_bytes r (spaces_bytes e f))))) false []) (cases_commands B (result_command r ∷ []))
unfolding go after_colon
item_out B p q r e f a j g =
    cases_out B (spaces_bytes p (101 ∷ 108 ∷ 115 ∷ 101 ∷ spaces_bytes q (58 ∷ result_bytes r (spaces_bytes e f)))) (result_command r ∷ []) j
    (moved
    (go_spaces p (101 ∷ 108 ∷ 115 ∷ 101 ∷ spaces_bytes q (58 ∷ result_bytes r (spaces_bytes e f))) false [] ∙ colon_spaces q (58 ∷ result_bytes r (spaces_bytes e f)))
    (by_result r e f refl a g))
