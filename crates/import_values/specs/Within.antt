-- Where the numbers of a sum lie within 32 bits, those of its linear do; linears have eight coefficients, constants none but 0.
use Rattle.std.specs.Prelude.{◌≡◌, refl, true, List, ◌++◌, ℕ, ℤ, negsuc, length}
use Rattle.std.proofs.Common.{sym, ap, ap₂, ◌∙◌}
use Rattle.std.proofs.Math.IntN.{*ℤ-zero}
use Rattle.whole.specs.Linears.{coefficients, add_list, scale_list}
use Rattle.whole.specs.LinearsLaws.{add_length, scale_length}
use Rattle.theory.specs.Diagram.{Linear, no_coeffs, ◌⊞◌, ◌⊟◌, ◌⊠◌}
use Rattle.theory.specs.Plain.{in_32_bits}
use Rattle.import_grammar.specs.Grammar.{Sign, adds, takes, i1, i2, i3, i4, i5, i6, i7, i8, ConstFactor, number, kbracket, ConstTerm, kfactor, ktimes}
use Rattle.import_grammar.specs.Grammar.{ConstSum, kterm, kneg, kplus, VaryFactor, level, vbracket, VaryTerm, vfactor, vscaled, vby, VarySum, vterm, vneg}
use Rattle.import_grammar.specs.Grammar.{plus_kv, plus_vk, plus_vv}
use Rattle.import_numbers.specs.Numbers.{joined, kfactor_linear, kterm_linear, ksum_linear, vfactor_linear}
use Rattle.import_numbers.specs.Numbers.{vterm_linear, vsum_linear, nine, kfactor_numbers, kterm_numbers, ksum_numbers, vfactor_numbers, vterm_numbers}
use Rattle.import_numbers.specs.Numbers.{vsum_numbers, all_within}
use Rattle.import_values.specs.Linears.{all_last}

-- ---- no level

pub record Flat (p : Linear) : Type 0 where
  pub none_but_0 : p.coeffs ≡ no_coeffs coefficients

flat_scale : (k : ℤ) (p : Linear) → Flat p → Flat (k ⊠ p)
unfolding ◌⊠◌ scale_list no_coeffs
flat_scale k p h = record { none_but_0 = ap (λ (l : List ℤ). scale_list k l) h.none_but_0 ∙ simp *ℤ-zero }

flat_add : (p q : Linear) → Flat p → Flat q → Flat (p ⊞ q)
unfolding ◌⊞◌ add_list no_coeffs
flat_add p q h g = record { none_but_0 = ap₂ add_list h.none_but_0 g.none_but_0 }

flat_joined : (g : Sign) (p q : Linear) → Flat p → Flat q → Flat (joined g p q)
unfolding ◌⊟◌
flat_joined adds p q a b = flat_add p q a b
flat_joined takes p q a b = flat_add p (negsuc 0 ⊠ q) a (flat_scale (negsuc 0) q b)

mutual
  unfolding kfactor_linear

  pub kfactor_flat : {n : ℕ} (x : ConstFactor n) → Flat (kfactor_linear x)
  kfactor_flat (number p ds) = record { none_but_0 = refl }
  kfactor_flat (kbracket p s q) = ksum_flat s

  pub kterm_flat : {n : ℕ} (t : ConstTerm n) → Flat (kterm_linear t)
  kterm_flat (kfactor x) = kfactor_flat x
  kterm_flat (ktimes t p x) = flat_scale (kterm_linear t).const (kfactor_linear x) (kfactor_flat x)

  pub ksum_flat : {n : ℕ} (s : ConstSum n) → Flat (ksum_linear s)
  ksum_flat (kterm t) = kterm_flat t
  ksum_flat (kneg p t) = flat_scale (negsuc 0) (kterm_linear t) (kterm_flat t)
  ksum_flat (kplus s p g t) = flat_joined g (ksum_linear s) (kterm_linear t) (ksum_flat s) (kterm_flat t)

-- ---- eight coefficients

pub record Eight (p : Linear) : Type 0 where
  pub long : length p.coeffs ≡ coefficients

pub flat_eight : {p : Linear} → Flat p → Eight p
unfolding no_coeffs
flat_eight h = record { long = ap (λ (l : List ℤ). length l) h.none_but_0 }

eight_scale : (k : ℤ) (p : Linear) → Eight p → Eight (k ⊠ p)
unfolding ◌⊠◌
eight_scale k p h = record { long = scale_length k p.coeffs ∙ h.long }

pub same_long : (p q : Linear) → Eight p → Eight q → length p.coeffs ≡ length q.coeffs
same_long p q a b = a.long ∙ sym b.long

eight_add : (p q : Linear) → Eight p → Eight q → Eight (p ⊞ q)
unfolding ◌⊞◌
eight_add p q a b = record { long = add_length p.coeffs q.coeffs (same_long p q a b) ∙ a.long }

eight_joined : (g : Sign) (p q : Linear) → Eight p → Eight q → Eight (joined g p q)
unfolding ◌⊟◌
eight_joined adds p q a b = eight_add p q a b
eight_joined takes p q a b = eight_add p (negsuc 0 ⊠ q) a (eight_scale (negsuc 0) q b)

mutual
  unfolding vfactor_linear

  pub vfactor_eight : {n : ℕ} (x : VaryFactor n) → Eight (vfactor_linear x)
  vfactor_eight (level p i1) = record { long = refl }
  vfactor_eight (level p i2) = record { long = refl }
  vfactor_eight (level p i3) = record { long = refl }
  vfactor_eight (level p i4) = record { long = refl }
  vfactor_eight (level p i5) = record { long = refl }
  vfactor_eight (level p i6) = record { long = refl }
  vfactor_eight (level p i7) = record { long = refl }
  vfactor_eight (level p i8) = record { long = refl }
  vfactor_eight (vbracket p s q) = vsum_eight s

  pub vterm_eight : {n : ℕ} (t : VaryTerm n) → Eight (vterm_linear t)
  vterm_eight (vfactor x) = vfactor_eight x
  vterm_eight (vscaled t p x) = eight_scale (kterm_linear t).const (vfactor_linear x) (vfactor_eight x)
  vterm_eight (vby t p x) = eight_scale (kfactor_linear x).const (vterm_linear t) (vterm_eight t)

  pub vsum_eight : {n : ℕ} (s : VarySum n) → Eight (vsum_linear s)
  vsum_eight (vterm t) = vterm_eight t
  vsum_eight (vneg p t) = eight_scale (negsuc 0) (vterm_linear t) (vterm_eight t)
  vsum_eight (plus_kv s p g t) = eight_joined g (ksum_linear s) (vterm_linear t) (flat_eight (ksum_flat s)) (vterm_eight t)
  vsum_eight (plus_vk s p g t) = eight_joined g (vsum_linear s) (kterm_linear t) (vsum_eight s) (flat_eight (kterm_flat t))
  vsum_eight (plus_vv s p g t) = eight_joined g (vsum_linear s) (vterm_linear t) (vsum_eight s) (vterm_eight t)

-- ---- within 32 bits

last_of : (a b c : List ℤ) → all_within (a ++ (b ++ c)) ≡ true → all_within c ≡ true
last_of a b c e = all_last b c (all_last a (b ++ c) e)

mutual
  unfolding kfactor_numbers kfactor_linear all_within in_32_bits no_coeffs

  pub kfactor_within : {n : ℕ} (x : ConstFactor n) → all_within (kfactor_numbers x) ≡ true → all_within (nine (kfactor_linear x)) ≡ true
  kfactor_within (number p ds) e = e
  kfactor_within (kbracket p s q) e = ksum_within s e

  pub kterm_within : {n : ℕ} (t : ConstTerm n) → all_within (kterm_numbers t) ≡ true → all_within (nine (kterm_linear t)) ≡ true
  kterm_within (kfactor x) e = kfactor_within x e
  kterm_within (ktimes t p x) e = last_of (kterm_numbers t) (kfactor_numbers x) (nine (kterm_linear (ktimes t p x))) e

  pub ksum_within : {n : ℕ} (s : ConstSum n) → all_within (ksum_numbers s) ≡ true → all_within (nine (ksum_linear s)) ≡ true
  ksum_within (kterm t) e = kterm_within t e
  ksum_within (kneg p t) e = all_last (kterm_numbers t) (nine (ksum_linear (kneg p t))) e
  ksum_within (kplus s p g t) e = last_of (ksum_numbers s) (kterm_numbers t) (nine (ksum_linear (kplus s p g t))) e

mutual
  unfolding vfactor_numbers vfactor_linear all_within in_32_bits

  pub vfactor_within : {n : ℕ} (x : VaryFactor n) → all_within (vfactor_numbers x) ≡ true → all_within (nine (vfactor_linear x)) ≡ true
  vfactor_within (level p i1) e = refl
  vfactor_within (level p i2) e = refl
  vfactor_within (level p i3) e = refl
  vfactor_within (level p i4) e = refl
  vfactor_within (level p i5) e = refl
  vfactor_within (level p i6) e = refl
  vfactor_within (level p i7) e = refl
  vfactor_within (level p i8) e = refl
  vfactor_within (vbracket p s q) e = vsum_within s e

  pub vterm_within : {n : ℕ} (t : VaryTerm n) → all_within (vterm_numbers t) ≡ true → all_within (nine (vterm_linear t)) ≡ true
  vterm_within (vfactor x) e = vfactor_within x e
  vterm_within (vscaled t p x) e = last_of (kterm_numbers t) (vfactor_numbers x) (nine (vterm_linear (vscaled t p x))) e
  vterm_within (vby t p x) e = last_of (vterm_numbers t) (kfactor_numbers x) (nine (vterm_linear (vby t p x))) e

  pub vsum_within : {n : ℕ} (s : VarySum n) → all_within (vsum_numbers s) ≡ true → all_within (nine (vsum_linear s)) ≡ true
  vsum_within (vterm t) e = vterm_within t e
  vsum_within (vneg p t) e = all_last (vterm_numbers t) (nine (vsum_linear (vneg p t))) e
  vsum_within (plus_kv s p g t) e = last_of (ksum_numbers s) (vterm_numbers t) (nine (vsum_linear (plus_kv s p g t))) e
  vsum_within (plus_vk s p g t) e = last_of (vsum_numbers s) (kterm_numbers t) (nine (vsum_linear (plus_vk s p g t))) e
  vsum_within (plus_vv s p g t) e = last_of (vsum_numbers s) (vterm_numbers t) (nine (vsum_linear (plus_vv s p g t))) e
