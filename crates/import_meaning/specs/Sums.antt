-- What a sum means at a state, read off the text: numbers, levels and their sums and products, with no word of linears.
use Rattle.std.specs.Prelude.{◌≡◌, ℕ, ℤ, pos, ◌+ℤ◌, ◌-ℤ◌, ◌*ℤ◌, neg_ℤ, get_or}
use Rattle.theory.specs.Meaning.{Env, value}
use Rattle.import_grammar.specs.Grammar.{Index, i1, i2, i3, i4, i5, i6, i7, i8, Sign, adds, takes, ConstFactor, number, kbracket, ConstTerm, kfactor, ktimes}
use Rattle.import_grammar.specs.Grammar.{ConstSum, kterm, kneg, kplus, VaryFactor, level, vbracket, VaryTerm, vfactor, vscaled, vby, VarySum, vterm, vneg}
use Rattle.import_grammar.specs.Grammar.{plus_kv, plus_vk, plus_vv, Sum, constant, varying}
use Rattle.import_numbers.specs.Numbers.{digits_value, linear_of}

-- + or −
abbrev pub by_sign : Sign → ℤ → ℤ → ℤ
by_sign adds a b = a +ℤ b
by_sign takes a b = a -ℤ b

-- without a level: a whole number; "operators of equal rank group from the left; brackets override"
unfoldable mutual
  unfolding digits_value

  pub kfactor_value : {n : ℕ} → ConstFactor n → ℤ
  kfactor_value (number p ds) = pos (digits_value ds)
  kfactor_value (kbracket p s q) = ksum_value s

  pub kterm_value : {n : ℕ} → ConstTerm n → ℤ
  kterm_value (kfactor x) = kfactor_value x
  kterm_value (ktimes t p x) = kterm_value t *ℤ kfactor_value x

  pub ksum_value : {n : ℕ} → ConstSum n → ℤ
  ksum_value (kterm t) = kterm_value t
  ksum_value (kneg p t) = neg_ℤ (kterm_value t)
  ksum_value (kplus s p g t) = by_sign g (ksum_value s) (kterm_value t)

-- the numerator of a level
unfoldable pub level_num : Env → Index → ℤ
level_num e i1 = get_or e.nums 0 (pos 0)
level_num e i2 = get_or e.nums 1 (pos 0)
level_num e i3 = get_or e.nums 2 (pos 0)
level_num e i4 = get_or e.nums 3 (pos 0)
level_num e i5 = get_or e.nums 4 (pos 0)
level_num e i6 = get_or e.nums 5 (pos 0)
level_num e i7 = get_or e.nums 6 (pos 0)
level_num e i8 = get_or e.nums 7 (pos 0)

-- with a level: times the levels' denominator; "Multiplication, by a constant only, binds before + and −"
unfoldable mutual
  unfolding kfactor_value level_num

  pub vfactor_value : {n : ℕ} → Env → VaryFactor n → ℤ
  vfactor_value e (level p i) = level_num e i
  vfactor_value e (vbracket p s q) = vsum_value e s

  pub vterm_value : {n : ℕ} → Env → VaryTerm n → ℤ
  vterm_value e (vfactor x) = vfactor_value e x
  vterm_value e (vscaled t p x) = kterm_value t *ℤ vfactor_value e x
  vterm_value e (vby t p x) = vterm_value e t *ℤ kfactor_value x

  pub vsum_value : {n : ℕ} → Env → VarySum n → ℤ
  vsum_value e (vterm t) = vterm_value e t
  vsum_value e (vneg p t) = neg_ℤ (vterm_value e t)
  vsum_value e (plus_kv s p g t) = by_sign g (ksum_value s *ℤ pos e.den) (vterm_value e t)
  vsum_value e (plus_vk s p g t) = by_sign g (vsum_value e s) (kterm_value t *ℤ pos e.den)
  vsum_value e (plus_vv s p g t) = by_sign g (vsum_value e s) (vterm_value e t)

unfoldable pub sum_value : Env → (n : ℕ) → Sum n → ℤ
unfolding kfactor_value vfactor_value
sum_value e n (constant s) = ksum_value s *ℤ pos e.den
sum_value e n (varying s) = vsum_value e s

-- the linear that a sum is worked out to has the sum's value at every state
abbrev pub LinearMeans : Type 0
LinearMeans = (e : Env) (n : ℕ) (s : Sum n) → value e (linear_of n s) ≡ sum_value e n s
