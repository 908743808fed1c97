-- The numbers of a text: what linear a sum means, and "a number beyond signed 32 bits, written, worked out or as a comparison's difference". Whole numbers without bound: what is beyond is only named.
use Rattle.std.specs.Prelude.{Bool, true, ◌&&◌, not, List, [], ◌∷◌, ◌++◌, ℕ, ◌+◌, ◌*◌, T, ℤ, pos, negsuc}
use Rattle.theory.specs.Widths.{levels_most}
use Rattle.theory.specs.Diagram.{Linear, no_coeffs, ◌⊞◌, ◌⊟◌, ◌⊠◌}
use Rattle.theory.specs.Plain.{in_32_bits}
use Rattle.import_grammar.specs.Grammar.{Digit, d0, d1, d2, d3, d4, d5, d6, d7, d8, d9, Digits, one, also, Index, i1, i2, i3, i4, i5, i6, i7, i8, Op, lt, le}
use Rattle.import_grammar.specs.Grammar.{gt, ge, Sign, adds, takes, ConstFactor, number, kbracket, ConstTerm, kfactor, ktimes, ConstSum, kterm, kneg, kplus}
use Rattle.import_grammar.specs.Grammar.{VaryFactor, level, vbracket, VaryTerm, vfactor, vscaled, vby, VarySum, vterm, vneg, plus_kv, plus_vk, plus_vv, Sum}
use Rattle.import_grammar.specs.Grammar.{constant, varying, Atom, now, later, compare, group, Not, negated, And, alone, both, Or, single, either, Result}
use Rattle.import_grammar.specs.Grammar.{worth, forbids, Setting, setting, Items, head, closed, named, Opening, reward, chance, next, end, Before, start, case}
use Rattle.import_grammar.specs.Grammar.{Text, entire}

-- ---- numbers as they are written

abbrev pub digit_value : Digit → ℕ
digit_value d0 = 0
digit_value d1 = 1
digit_value d2 = 2
digit_value d3 = 3
digit_value d4 = 4
digit_value d5 = 5
digit_value d6 = 6
digit_value d7 = 7
digit_value d8 = 8
digit_value d9 = 9

unfoldable pub digits_value : Digits → ℕ
digits_value (one d) = digit_value d
digits_value (also ds d) = digits_value ds * 10 + digit_value d

-- ---- "what linear a sum means"

-- a number: no level
abbrev pub constant_linear : ℤ → Linear
constant_linear z = record { coeffs = no_coeffs levels_most; const = z }

-- the coefficients of one level: 1 there, and 0
abbrev pub level_coeffs : Index → List ℤ
level_coeffs i1 = pos 1 ∷ pos 0 ∷ pos 0 ∷ pos 0 ∷ pos 0 ∷ pos 0 ∷ pos 0 ∷ pos 0 ∷ []
level_coeffs i2 = pos 0 ∷ pos 1 ∷ pos 0 ∷ pos 0 ∷ pos 0 ∷ pos 0 ∷ pos 0 ∷ pos 0 ∷ []
level_coeffs i3 = pos 0 ∷ pos 0 ∷ pos 1 ∷ pos 0 ∷ pos 0 ∷ pos 0 ∷ pos 0 ∷ pos 0 ∷ []
level_coeffs i4 = pos 0 ∷ pos 0 ∷ pos 0 ∷ pos 1 ∷ pos 0 ∷ pos 0 ∷ pos 0 ∷ pos 0 ∷ []
level_coeffs i5 = pos 0 ∷ pos 0 ∷ pos 0 ∷ pos 0 ∷ pos 1 ∷ pos 0 ∷ pos 0 ∷ pos 0 ∷ []
level_coeffs i6 = pos 0 ∷ pos 0 ∷ pos 0 ∷ pos 0 ∷ pos 0 ∷ pos 1 ∷ pos 0 ∷ pos 0 ∷ []
level_coeffs i7 = pos 0 ∷ pos 0 ∷ pos 0 ∷ pos 0 ∷ pos 0 ∷ pos 0 ∷ pos 1 ∷ pos 0 ∷ []
level_coeffs i8 = pos 0 ∷ pos 0 ∷ pos 0 ∷ pos 0 ∷ pos 0 ∷ pos 0 ∷ pos 0 ∷ pos 1 ∷ []

abbrev pub level_linear : Index → Linear
level_linear i = record { coeffs = level_coeffs i; const = pos 0 }

-- a leading minus
abbrev pub minus : Linear → Linear
minus p = negsuc 0 ⊠ p

-- p + q or p − q
abbrev pub joined : Sign → Linear → Linear → Linear
joined adds p q = p ⊞ q
joined takes p q = p ⊟ q

-- "Multiplication, by a constant only": a factor without a level has its value as its constant
unfoldable mutual
  unfolding digits_value ◌⊞◌ ◌⊟◌ ◌⊠◌

  pub kfactor_linear : {n : ℕ} → ConstFactor n → Linear
  kfactor_linear (number p ds) = constant_linear (pos (digits_value ds))
  kfactor_linear (kbracket p s q) = ksum_linear s

  pub kterm_linear : {n : ℕ} → ConstTerm n → Linear
  kterm_linear (kfactor x) = kfactor_linear x
  kterm_linear (ktimes t p x) = (kterm_linear t).const ⊠ kfactor_linear x

  pub ksum_linear : {n : ℕ} → ConstSum n → Linear
  ksum_linear (kterm t) = kterm_linear t
  ksum_linear (kneg p t) = minus (kterm_linear t)
  ksum_linear (kplus s p g t) = joined g (ksum_linear s) (kterm_linear t)

unfoldable mutual
  unfolding kfactor_linear ◌⊞◌ ◌⊟◌ ◌⊠◌

  pub vfactor_linear : {n : ℕ} → VaryFactor n → Linear
  vfactor_linear (level p i) = level_linear i
  vfactor_linear (vbracket p s q) = vsum_linear s

  pub vterm_linear : {n : ℕ} → VaryTerm n → Linear
  vterm_linear (vfactor x) = vfactor_linear x
  vterm_linear (vscaled t p x) = (kterm_linear t).const ⊠ vfactor_linear x
  vterm_linear (vby t p x) = (kfactor_linear x).const ⊠ vterm_linear t

  pub vsum_linear : {n : ℕ} → VarySum n → Linear
  vsum_linear (vterm t) = vterm_linear t
  vsum_linear (vneg p t) = minus (vterm_linear t)
  vsum_linear (plus_kv s p g t) = joined g (ksum_linear s) (vterm_linear t)
  vsum_linear (plus_vk s p g t) = joined g (vsum_linear s) (kterm_linear t)
  vsum_linear (plus_vv s p g t) = joined g (vsum_linear s) (vterm_linear t)

unfoldable pub linear_of : (n : ℕ) → Sum n → Linear
unfolding kfactor_linear vfactor_linear
linear_of n (constant s) = ksum_linear s
linear_of n (varying s) = vsum_linear s

-- "a comparison's difference (right less left for < and >=, else left less right)"
abbrev pub difference : Op → Linear → Linear → Linear
difference lt a b = b ⊟ a
difference le a b = a ⊟ b
difference gt a b = a ⊟ b
difference ge a b = b ⊟ a

-- ---- "a number .. written, worked out or as a comparison's difference"

-- a linear's nine numbers
abbrev pub nine : Linear → List ℤ
nine p = p.coeffs ++ (p.const ∷ [])

-- a number written
abbrev pub written : Digits → List ℤ
written ds = pos (digits_value ds) ∷ []

-- those of a sum: each number written, and the nine of each product, sum, difference and leading minus
unfoldable mutual
  unfolding kfactor_linear

  pub kfactor_numbers : {n : ℕ} → ConstFactor n → List ℤ
  kfactor_numbers (number p ds) = written ds
  kfactor_numbers (kbracket p s q) = ksum_numbers s

  pub kterm_numbers : {n : ℕ} → ConstTerm n → List ℤ
  kterm_numbers (kfactor x) = kfactor_numbers x
  kterm_numbers (ktimes t p x) = kterm_numbers t ++ (kfactor_numbers x ++ nine (kterm_linear (ktimes t p x)))

  pub ksum_numbers : {n : ℕ} → ConstSum n → List ℤ
  ksum_numbers (kterm t) = kterm_numbers t
  ksum_numbers (kneg p t) = kterm_numbers t ++ nine (ksum_linear (kneg p t))
  ksum_numbers (kplus s p g t) = ksum_numbers s ++ (kterm_numbers t ++ nine (ksum_linear (kplus s p g t)))

unfoldable mutual
  unfolding kfactor_linear vfactor_linear kfactor_numbers

  pub vfactor_numbers : {n : ℕ} → VaryFactor n → List ℤ
  vfactor_numbers (level p i) = []
  vfactor_numbers (vbracket p s q) = vsum_numbers s

  pub vterm_numbers : {n : ℕ} → VaryTerm n → List ℤ
  vterm_numbers (vfactor x) = vfactor_numbers x
  vterm_numbers (vscaled t p x) = kterm_numbers t ++ (vfactor_numbers x ++ nine (vterm_linear (vscaled t p x)))
  vterm_numbers (vby t p x) = vterm_numbers t ++ (kfactor_numbers x ++ nine (vterm_linear (vby t p x)))

  pub vsum_numbers : {n : ℕ} → VarySum n → List ℤ
  vsum_numbers (vterm t) = vterm_numbers t
  vsum_numbers (vneg p t) = vterm_numbers t ++ nine (vsum_linear (vneg p t))
  vsum_numbers (plus_kv s p g t) = ksum_numbers s ++ (vterm_numbers t ++ nine (vsum_linear (plus_kv s p g t)))
  vsum_numbers (plus_vk s p g t) = vsum_numbers s ++ (kterm_numbers t ++ nine (vsum_linear (plus_vk s p g t)))
  vsum_numbers (plus_vv s p g t) = vsum_numbers s ++ (vterm_numbers t ++ nine (vsum_linear (plus_vv s p g t)))

unfoldable pub sum_numbers : (n : ℕ) → Sum n → List ℤ
unfolding kfactor_numbers vfactor_numbers
sum_numbers n (constant s) = ksum_numbers s
sum_numbers n (varying s) = vsum_numbers s

-- those of a condition: of each comparison's sums, and the nine of its difference
unfoldable mutual
  unfolding linear_of sum_numbers

  pub atom_numbers : {n : ℕ} → Atom n → List ℤ
  atom_numbers (now p i) = []
  atom_numbers (later p i) = []
  atom_numbers (compare s p op t) = sum_numbers _ s ++ (sum_numbers _ t ++ nine (difference op (linear_of _ s) (linear_of _ t)))
  atom_numbers (group p o q) = or_numbers o

  pub not_numbers : {n : ℕ} → Not n → List ℤ
  not_numbers (negated n a) = atom_numbers a

  pub and_numbers : {n : ℕ} → And n → List ℤ
  and_numbers (alone x) = not_numbers x
  and_numbers (both a p x) = and_numbers a ++ not_numbers x

  pub or_numbers : {n : ℕ} → Or n → List ℤ
  or_numbers (single a) = and_numbers a
  or_numbers (either o p a) = or_numbers o ++ and_numbers a

unfoldable pub result_numbers : Result → List ℤ
unfolding sum_numbers
result_numbers (worth s) = sum_numbers _ s
result_numbers (forbids p) = []

unfoldable pub setting_numbers : Setting → List ℤ
setting_numbers (setting p q r ds) = written ds

-- those of the site and the items, whose own numbers are written too
unfoldable mutual
  unfolding atom_numbers result_numbers setting_numbers

  pub items_numbers : Items → List ℤ
  items_numbers (head p a b c d) = setting_numbers a ++ (setting_numbers b ++ (setting_numbers c ++ setting_numbers d))
  items_numbers (closed B p q r) = before_numbers B ++ result_numbers r
  items_numbers (named I p q ds r cs) = items_numbers I ++ written ds

  pub opening_numbers : Opening → List ℤ
  opening_numbers (reward I p q ds r) = items_numbers I ++ written ds
  opening_numbers (chance I p q ds r i t) = items_numbers I ++ written ds
  opening_numbers (next I p q ds r i t) = items_numbers I ++ written ds
  opening_numbers (end I p t) = items_numbers I

  pub before_numbers : Before → List ℤ
  before_numbers (start O) = opening_numbers O
  before_numbers (case B o p r q) = before_numbers B ++ (or_numbers o ++ result_numbers r)

unfoldable pub numbers : Text → List ℤ
unfolding before_numbers
numbers (entire I e) = items_numbers I

-- ---- "beyond signed 32 bits"

-- −2³¹ to 2³¹ − 1
unfoldable pub Within32 : ℤ → Type 0
Within32 z = T (in_32_bits z)

-- all of them within 32 bits
unfoldable pub all_within : List ℤ → Bool
unfolding in_32_bits
all_within [] = true
all_within (z ∷ l) = in_32_bits z && all_within l

-- 25
unfoldable pub beyond : Text → Bool
unfolding numbers all_within
beyond t = not (all_within (numbers t))
